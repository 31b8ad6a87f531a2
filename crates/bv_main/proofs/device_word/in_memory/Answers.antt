use Rattle.std.proofs.Common.{arith, ◌≡◌, ⊎_elim}
use Rattle.std.proofs.lemmas.Fmt.{decimal_injective}
use Rattle.bv_main.proofs.DeviceLemmas.{names-none-mem}
use Rattle.bv_main.proofs.device_word.in_memory.Goals as goal

pub returns-else-blocks-ge1-clause-none : goal.returns-else-blocks-ge1-clause-none
returns-else-blocks-ge1-clause-none c = names-none-mem _ (λ n e within.
    let is = c.in_ok-blocks.ensures.some in
    let same : n ≡ c.in_ok-blocks.blocks = decimal_injective _ _ (omega (arith, within.to_high)) (omega (arith, is.short)) (cc (e, is.written)) in
    ⊎_elim (λ over. omega (arith, over.1, within.to_high, same)) (λ under. omega (arith, under, within.from_low, same)) c.else-blocks-ge1.either)
