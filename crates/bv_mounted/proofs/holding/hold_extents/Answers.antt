use Rattle.std.proofs.Common.{◌≡◌, ◌+◌, ℕ, List, ◌++◌, length, take, get_or, ap, sym, ◌∙◌, subst, arith, append_assoc, length-append}
use Rattle.std.proofs.lemmas.List.FromFn.{length-range_with_len}
use Rattle.std.specs.List.{range_with_len}
use Rattle.spec_record.specs.declared.extent.Extent.{Extent}
use Rattle.spec_image.specs.Stored.{blocks_of}
use Rattle.bv_claims.specs.Blocks.{HasEachOnce}
use Rattle.bv_claims.specs.Tokens.{boss_owned}
use Rattle.bv_mounted.proofs.HoldLemmas.{extent_blocks, flat_more, consecutive_is, none_before, not_owned}
use Rattle.bv_mounted.proofs.holding.hold_extents.Goals as goal

pub hold_run-requires-clause-nobodys : goal.hold_run-requires-clause-nobodys
hold_run-requires-clause-nobodys c b from to =
    let es : List Extent = c.args.extents.now in
    let i : ℕ = c.loop-extent.extent-index in
    let e : Extent = get_or es i (record { start = 0; len = 0 }) in
    let once : HasEachOnce ((boss_owned c.args.boss.now ++ blocks_of (take i es)) ++ range_with_len e.start e.len) = none_before extent_blocks (boss_owned c.args.boss.now) es i (record { start = 0; len = 0 }) (omega arith) c.requires.once in
    not_owned (boss_owned c.loop-extent.boss) e.start e.len b
    (subst (λ (l : List ℕ). HasEachOnce (l ++ range_with_len e.start e.len)) (sym c.loop-extent.invariant.owned) once) from to

pub loop-extent-preserved : goal.loop-extent-preserved
loop-extent-preserved c =
    let es : List Extent = c.args.extents.now in
    let i : ℕ = c.loop-extent.extent-index in
    let e : Extent = get_or es i (record { start = 0; len = 0 }) in
    let held : List ℕ = boss_owned c.args.boss.now in
    let range : List ℕ = range_with_len e.start e.len in
    let more : blocks_of (take (i + 1) es) ≡ blocks_of (take i es) ++ range = flat_more extent_blocks es i (record { start = 0; len = 0 }) (omega arith) in
    let long : length (blocks_of (take (i + 1) es)) ≡ length (blocks_of (take i es)) + e.len =
    ap length more ∙ length-append (blocks_of (take i es)) range ∙ ap (λ (n : ℕ). length (blocks_of (take i es)) + n) (length-range_with_len e.start e.len) in
    record {
      table = c.hold_run.ensures.table;
      owned =
          c.hold_run.ensures.owned
          ∙ ap (λ (l : List ℕ). boss_owned c.loop-extent.boss ++ l) (consecutive_is e.start e.len)
          ∙ ap (λ (l : List ℕ). l ++ range) c.loop-extent.invariant.owned
          ∙ append_assoc held (blocks_of (take i es)) range
          ∙ ap (λ (l : List ℕ). held ++ l) (sym more);
      room = omega (arith, long, c.hold_run.ensures.room, c.loop-extent.invariant.room);
    }
