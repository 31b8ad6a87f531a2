use Rattle.std.proofs.Common.{arith, ◌≡◌, ⊎_elim}
use Rattle.std.proofs.lemmas.Fmt.{decimal_injective}
use Rattle.bv_main.proofs.DeviceLemmas.{names-none-new, uncut-new, cut-new}
use Rattle.bv_main.proofs.device_word.new_file.Goals as goal

pub returns-in_err-number-clause-none : goal.returns-in_err-number-clause-none
returns-in_err-number-clause-none c = rw c.from_residual.ensures (names-none-new _ (uncut-new _ c.in_err-number.ensures.none))

pub returns-in_err-blocks-clause-none : goal.returns-in_err-blocks-clause-none
returns-in_err-blocks-clause-none c = rw c.from_residual-in_err-blocks.ensures (names-none-new _ (λ n path e within.
    c.in_err-blocks.ensures.none n (record { written = cut-new _ _ _ c.in_ok-number.ensures.some n path e within; short = omega (arith, within.to_high) })))

pub returns-else-blocks-ge1-clause-none : goal.returns-else-blocks-ge1-clause-none
returns-else-blocks-ge1-clause-none c = names-none-new _ (λ n path e within.
    let is = c.in_ok-blocks.ensures.some in
    let first = cut-new _ _ _ c.in_ok-number.ensures.some n path e within in
    let same : n ≡ c.in_ok-blocks.blocks = decimal_injective _ _ (omega (arith, within.to_high)) (omega (arith, is.short)) (cc (first, is.written)) in
    ⊎_elim (λ over. omega (arith, over.1, within.to_high, same)) (λ under. omega (arith, under, within.from_low, same)) c.else-blocks-ge1.either)
