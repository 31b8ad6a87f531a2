use Rattle.std.proofs.Common.{◌≡◌, ◌+◌, ◌-◌, ◌∙◌, ℕ, suc, Bool, true, false, cond, Some, ap, sym, arith}
use Rattle.spec_record.specs.Places.{first_failing, is_place}
use Rattle.spec_record.proofs.PlaceLemmas.{one_place_more, no_place_more, all_places}
use Rattle.bv_entry.proofs.place.wrong_place_of.Goals as goal

pub returns-then-not-is_right : goal.returns-then-not-is_right
returns-then-not-is_right c =
    let test : ℕ → Bool = is_place c.args.blocks.now c.args.meta in
    let i : ℕ = c.loop-place.place in
    let next : 679 - i ≡ suc (679 - (i + 1)) = omega arith in
    let wrong : test i ≡ false = sym c.is_right.ensures ∙ c.if-not-is_right.true in
    let here : first_failing test i (679 - i) ≡ Some i = one_place_more test i (679 - i) (679 - (i + 1)) next ∙ ap (λ (b : Bool). cond b (first_failing test (i + 1) (679 - (i + 1))) (Some i)) wrong in
    sym here ∙ c.loop-place.invariant ∙ all_places test

pub loop-place-preserved : goal.loop-place-preserved
loop-place-preserved c =
    let test : ℕ → Bool = is_place c.args.blocks.now c.args.meta in
    let i : ℕ = c.loop-place.place in
    let next : 679 - i ≡ suc (679 - (i + 1)) = omega arith in
    let right : test i ≡ true = sym c.is_right.ensures ∙ c.if-not-is_right.false in
    let here : first_failing test i (679 - i) ≡ first_failing test (i + 1) (679 - (i + 1)) = one_place_more test i (679 - i) (679 - (i + 1)) next ∙ ap (λ (b : Bool). cond b (first_failing test (i + 1) (679 - (i + 1))) (Some i)) right in
    sym here ∙ c.loop-place.invariant

pub returns : goal.returns
returns c =
    let test : ℕ → Bool = is_place c.args.blocks.now c.args.meta in
    let i : ℕ = c.loop-place.place in
    let none : 679 - i ≡ 0 = omega arith in
    sym (no_place_more test i (679 - i) none) ∙ c.loop-place.invariant ∙ all_places test
