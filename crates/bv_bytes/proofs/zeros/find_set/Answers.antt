-- A field is 0 exactly where its bytes are zero, and the first that isn't has zeros before it.
use Rattle.std.proofs.Common.{◌≡◌, ◌≢◌, ◌<◌, ◌≤◌, ◌+◌, ◌-◌, ℕ, List, Option, Some, None, Bool, false, cond, eqb, get_or, ap, sym, ◌∙◌, arith, inl, inr}
use Rattle.std.proofs.lemmas.Bool.{cases_lt}
use Rattle.spec_record.specs.Field.{field}
use Rattle.spec_record.specs.Tests.{first_set}
use Rattle.spec_record.specs.PartLaws.{IsFirstSet}
use Rattle.spec_record.proofs.PartLemmas.{fault_names_first_set}
use Rattle.spec_record.proofs.ZeroLemmas.{zero_bytes, zero_field}
use Rattle.spec_record.proofs.TestLemmas.{eqb_same}
use Rattle.bv_bytes.proofs.zeros.find_set.Goals as goal

abbrev answer : List ℕ → ℕ → Bool → Option ℕ
answer bytes offset zero = cond zero None (Some (first_set bytes offset))

-- there is one first byte that isn't zero
only_first : (bytes : List ℕ) (offset width place : ℕ) → IsFirstSet bytes offset width (first_set bytes offset) → ((k : ℕ) → offset ≤ k → k < place → get_or bytes k 0 ≡ 0) → offset ≤ place → get_or bytes place 0 ≢ 0 → first_set bytes offset ≡ place
only_first bytes offset width place first zeros le here =
    elim (cases_lt (first_set bytes offset) place) [
      | inl before ↦ absurd (first.set (zeros (first_set bytes offset) first.from_offset before))
      | inr after ↦
          elim (cases_lt place (first_set bytes offset)) [
            | inl lt ↦ absurd (here (first.zeros place le lt))
            | inr same ↦ omega (arith, after, same)
          ]
    ]

pub returns-then-bytes-place-ne0 : goal.returns-then-bytes-place-ne0
returns-then-bytes-place-ne0 c =
    let bytes : List ℕ = c.args.bytes.now in
    let offset : ℕ = c.args.offset in
    let place : ℕ = c.loop-place.place in
    let i : ℕ = place - offset in
    let same : offset + i ≡ place = omega arith in
    let here : get_or bytes place 0 ≢ 0 = c.if-bytes-place-ne0.true in
    let set : field bytes offset c.args.width ≢ 0 = λ e.
    here (ap (λ (k : ℕ). get_or bytes k 0) (sym same) ∙ zero_bytes bytes offset c.args.width i e (omega arith)) in
    let test : eqb (field bytes offset c.args.width) 0 ≡ false = grind (arith, set) in
    let first : first_set bytes offset ≡ place = only_first bytes offset c.args.width place (fault_names_first_set bytes offset c.args.width set) c.loop-place.invariant (omega arith) here in
    sym (ap (answer bytes offset) test ∙ ap (λ (k : ℕ). Some k) first)

pub returns : goal.returns
returns c =
    let bytes : List ℕ = c.args.bytes.now in
    let zero : field bytes c.args.offset c.args.width ≡ 0 = zero_field bytes c.args.offset c.args.width (λ i lt. c.loop-place.invariant (c.args.offset + i) (omega arith) (omega arith)) in
    sym (ap (answer bytes c.args.offset) (eqb_same (field bytes c.args.offset c.args.width) 0 zero))
