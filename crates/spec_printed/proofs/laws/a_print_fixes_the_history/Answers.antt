use Rattle.spec_printed.proofs.Histories.{print_fixes}
use Rattle.spec_printed.proofs.laws.a_print_fixes_the_history.Goals as goal

pub returns : goal.returns
returns c = print_fixes
