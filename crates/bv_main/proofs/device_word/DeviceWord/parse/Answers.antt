use Rattle.bv_main.proofs.DeviceLemmas.{names-none-uncut, names-none-other}
use Rattle.bv_main.proofs.device_word.DeviceWord.parse.Goals as goal

pub returns-in_err-kind-clause-none : goal.returns-in_err-kind-clause-none
returns-in_err-kind-clause-none c = rw c.from_residual.ensures (names-none-uncut _ c.in_err-kind.ensures.none)

pub returns-in_default-clause-none : goal.returns-in_default-clause-none
returns-in_default-clause-none c = names-none-other _ _ _ c.in_ok-kind.ensures.some c.in_default.not-mem c.in_default.not-new c.in_default.not-file
