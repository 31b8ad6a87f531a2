use Rattle.std.proofs.Common.{arith, ap, refl, sym, ◌∙◌, ◌≡◌, vec_len}
use Rattle.bv_session.specs.Ends.{EndOf}
use Rattle.bv_sessions.proofs.BackLemmas.{back-length, back-push, moved}
use Rattle.bv_sessions.proofs.each.+fn-run_each-scope+run_each.Goals as goal
use Rattle.bv_sessions.proofs.each.+fn-run_each-scope+run_each.Goals.{scope-in-Ok, scope-in-Err}

pub scope-spawn_with-started-requires-clause-keeps : goal.scope-spawn_with-started-requires-clause-keeps
scope-spawn_with-started-requires-clause-keeps g t c = λ lifetimes outlive r ends.
    moved (sym c.of.ensures.turn) (sym c.of.ensures.lines) (sym c.of.ensures.version) (sym c.of.ensures.share) refl ends

pub scope-with-requires : goal.scope-with-requires
scope-with-requires g t c =
    let back = c.run_each-back in let left = c.captures.shares in
    let l = back-length c.captures.turn.now c.captures.lines.now c.captures.version left.items back.result.shares.items back.result.ends.items back.ensures.back in
    let shares : vec_len back.result.shares ≡ vec_len left = back.result.shares.ok.0 ∙ l.0 ∙ sym left.ok.0 in
    let ends : vec_len back.result.ends ≡ vec_len left = back.result.ends.ok.0 ∙ l.1 ∙ sym left.ok.0 in
    let same = back.ensures.room in let room = c.requires.5 in
    let same_shares = same.0 in let same_ends = same.1 in let room_shares = room.2 in let room_ends = room.3 in
    record { shares = omega arith; ends = omega arith }

pub scope-returns : goal.scope-returns
scope-returns g t c =
    let back = c.run_each-back in let x = c.captures in
    let one : EndOf x.turn.now x.lines.now x.version x.share c.match-started.ended =
    elim c.match-started.branch [
      | scope-in-Ok w ↦ moved
          (ap (λ p. p.turn.value) w.in-Ok.ensures.ok ∙ c.of.ensures.turn)
          (ap (λ p. p.lines.now) w.in-Ok.ensures.ok ∙ c.of.ensures.lines)
          (ap (λ p. p.version) w.in-Ok.ensures.ok ∙ c.of.ensures.version)
          (ap (λ p. p.share.value) w.in-Ok.ensures.ok ∙ c.of.ensures.share)
          (sym w.ended-is) w.join-ended.ensures
      | scope-in-Err w ↦ moved
          (ap (λ v. v.2.now) w.in-Err.ensures.err)
          (ap (λ v. v.6.now) w.in-Err.ensures.err)
          (ap (λ v. v.4) w.in-Err.ensures.err)
          (ap (λ v. v.5) w.in-Err.ensures.err)
          (sym w.ended-is) w.spawn_with-ended.ensures
    ] in (
      rw (c.with.ensures.shares, c.with.ensures.ends) (back-push x.turn.now x.lines.now x.version x.shares.items back.result.shares.items back.result.ends.items x.share c.match-started.ended.share c.match-started.ended.end back.ensures.back one),
      (c.with.ensures.room.0 ∙ back.ensures.room.0, c.with.ensures.room.1 ∙ back.ensures.room.1),
    )
