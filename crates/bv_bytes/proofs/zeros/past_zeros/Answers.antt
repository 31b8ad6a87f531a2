-- A field that is 0 has bytes that are zero.
use Rattle.std.proofs.Common.{◌≡◌, ◌+◌, ◌-◌, ℕ, List, get_or, subst, arith, inl, inr}
use Rattle.std.proofs.lemmas.Bool.{cases_lt}
use Rattle.spec_record.proofs.ZeroLemmas.{zero_bytes}
use Rattle.bv_bytes.proofs.zeros.past_zeros.Goals as goal

pub loop-place-preserved : goal.loop-place-preserved
loop-place-preserved c =
    let bytes : List ℕ = c.args.bytes.now in
    let place : ℕ = c.loop-place.place in
    record {
      from_low = omega arith;
      to_high = omega arith;
      zeros = λ k from below.
          elim (cases_lt k place) [
            | inl before ↦ c.loop-place.invariant.zeros k from before
            | inr after ↦
                let same : place + (k - place) ≡ k = omega arith in
                subst (λ (n : ℕ). get_or bytes n 0 ≡ 0) same (zero_bytes bytes place 8 (k - place) (omega (arith, c.get_at.ensures.value, c.if-get_at-ne0.false)) (omega arith))
          ];
    }
