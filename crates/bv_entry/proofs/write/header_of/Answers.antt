-- The header's places, one after another.
use Rattle.std.proofs.Common.{◌≡◌, ◌+◌, ◌∙◌, ℕ, List, [], length, take, get_or, ap, sym, subst, arith, rules}
use Rattle.spec_record.specs.Field.{IsBlock}
use Rattle.spec_record.specs.EntryBlocks.{flag_of}
use Rattle.spec_record.proofs.PlaceLemmas.{places_are}
use Rattle.bv_entry.proofs.HeaderLemmas.{with_place, Used, no_places, place_block, next_place, all_placed}
use Rattle.bv_entry.proofs.write.header_of.Goals as goal

pub loop-place-init : goal.loop-place-init
loop-place-init c =
    let header : List ℕ = c.header_block-header.result in
    record {
      block = record { length_is = search rules; bytes_fit = λ i. search rules };
      places = no_places header c.args.number (length c.args.targets.now) c.header_block-header.ensures;
    }

pub loop-place-preserved : goal.loop-place-preserved
loop-place-preserved c =
    let header : List ℕ = c.loop-place.header in
    let targets : List (ℕ × List ℕ) = c.args.targets.now in
    let i : ℕ = c.loop-place.place in
    let t : ℕ × List ℕ = get_or targets i (0, []) in
    let new : c.put_place.new.header ≡ with_place header i t.0 (flag_of t.1) = c.put_place.ensures.header ∙ ap (with_place header i t.0) c.flag_for.ensures.flag in
    record {
      block = subst IsBlock (sym new) (place_block header i t.0 (flag_of t.1) (omega (arith, places_are, c.requires)) c.loop-place.invariant.block);
      places = subst (λ (h : List ℕ). Used h c.args.number (length targets) (take (i + 1) targets)) (sym new)
          (next_place header c.args.number (length targets) targets i (0, []) c.loop-place.invariant.block c.loop-place.invariant.places (omega arith) c.requires c.put_place.ensures.fits);
    }

pub returns : goal.returns
returns c =
    all_placed c.loop-place.header c.args.number c.loop-place.place c.args.targets.now c.loop-place.invariant.block c.loop-place.invariant.places (omega arith) c.requires
