use Rattle.std.proofs.Common.{◌+◌, ◌*◌, vec_len}
use Rattle.bv_sessions.proofs.each.+fn-run_each-scope+run_each.Given as goal

abbrev pub decreases-scope : goal.decreases-scope
decreases-scope g l = 2 * vec_len l.shares + 1

abbrev pub decreases-run_each : goal.decreases-run_each
decreases-run_each g l = 2 * vec_len l.shares
