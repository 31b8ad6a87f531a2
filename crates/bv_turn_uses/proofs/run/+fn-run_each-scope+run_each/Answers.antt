use Rattle.std.proofs.Common.{arith, ap, sym, subst, ◌∙◌, ◌≡◌, ◌++◌, ◌∷◌, [], vec_len}
use Rattle.bv_turn_uses.specs.Ends.{EndOf, Ends}
use Rattle.bv_turn_uses.proofs.EndsLemmas.{Ends-length, Ends-snoc, moved}
use Rattle.bv_turn_uses.proofs.run.+fn-run_each-scope+run_each.Goals as goal
use Rattle.bv_turn_uses.proofs.run.+fn-run_each-scope+run_each.Goals.{scope-in-Ok, scope-in-Err}

pub scope-with-requires : goal.scope-with-requires
scope-with-requires g t c =
    let back = c.run_each-back in let left = c.captures.shares in
    let l = Ends-length c.captures.turn.now c.captures.script.now left.items back.result.shares.items back.result.whole.items back.ensures.back in
    let shares : vec_len back.result.shares ≡ vec_len left = back.result.shares.ok.0 ∙ l.0 ∙ sym left.ok.0 in
    let whole : vec_len back.result.whole ≡ vec_len left = back.result.whole.ok.0 ∙ l.1 ∙ sym left.ok.0 in
    let same = back.ensures.room in let room = c.requires.3 in
    let same_shares = same.0 in let same_whole = same.1 in let room_shares = room.2 in let room_whole = room.3 in
    record { shares = omega arith; whole = omega arith }

pub scope-returns : goal.scope-returns
scope-returns g t c =
    let back = c.run_each-back in let x = c.captures in
    let one : EndOf x.turn.now x.script.now x.share c.match-started.ended =
    elim c.match-started.branch [
      | scope-in-Ok w ↦ moved (ap (λ p. p.turn.value) w.in-Ok.ensures.ok ∙ c.of.ensures.turn) (ap (λ p. p.script.value) w.in-Ok.ensures.ok ∙ c.of.ensures.script) (ap (λ p. p.share.value) w.in-Ok.ensures.ok ∙ c.of.ensures.share) (sym w.ended-is) w.join-ended.ensures
      | scope-in-Err w ↦ moved (ap (λ v. v.1.now) w.in-Err.ensures.err) (ap (λ v. v.3.now) w.in-Err.ensures.err) (ap (λ v. v.2) w.in-Err.ensures.err) (sym w.ended-is) w.spawn_with-ended.ensures
    ] in (
      subst (λ (y : _ × _). Ends x.turn.now x.script.now (x.shares.items ++ x.share ∷ []) y.0 y.1) (λ i. (sym c.with.ensures.shares i, sym c.with.ensures.whole i))
          (Ends-snoc x.turn.now x.script.now x.shares.items back.result.shares.items back.result.whole.items x.share c.match-started.ended.share c.match-started.ended.whole back.ensures.back one),
      (c.with.ensures.room.0 ∙ back.ensures.room.0, c.with.ensures.room.1 ∙ back.ensures.room.1),
    )
