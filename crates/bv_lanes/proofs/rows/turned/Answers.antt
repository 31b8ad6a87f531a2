use Rattle.std.proofs.Common.{[], ◌∷◌, ap, ◌∙◌}
use Rattle.bv_lanes.specs.Lanes.{lane_word}
use Rattle.bv_lanes.proofs.RowLemmas.{columns_at, high_of, low_of}
use Rattle.bv_lanes.proofs.rows.turned.Goals as goal

pub returns : goal.returns
returns c k low j lt =
    let front = c.four_turned-front.ensures in
    let back = c.four_turned-back.ensures in
    let r0 = c.low_halves.ensures ∙ (λ x. low_of (front x) (back x) 0) in
    let r1 = c.low_halves-2.ensures ∙ (λ x. low_of (front x) (back x) 1) in
    let r2 = c.low_halves-3.ensures ∙ (λ x. low_of (front x) (back x) 2) in
    let r3 = c.low_halves-4.ensures ∙ (λ x. low_of (front x) (back x) 3) in
    let r4 = c.high_halves.ensures ∙ (λ x. high_of (front x) (back x) 0) in
    let r5 = c.high_halves-2.ensures ∙ (λ x. high_of (front x) (back x) 1) in
    let r6 = c.high_halves-3.ensures ∙ (λ x. high_of (front x) (back x) 2) in
    let r7 = c.high_halves-4.ensures ∙ (λ x. high_of (front x) (back x) 3) in
    ap (λ v. lane_word v k j) (λ x. r0 x ∷ r1 x ∷ r2 x ∷ r3 x ∷ r4 x ∷ r5 x ∷ r6 x ∷ r7 x ∷ [])
    ∙ columns_at c.args.rows.now k low j lt
