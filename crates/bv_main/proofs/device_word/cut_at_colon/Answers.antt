use Rattle.std.proofs.Common.{arith}
use Rattle.std.proofs.lemmas.Str.Pattern.{split_parts}
use Rattle.bv_main.proofs.DeviceLemmas.{cut-from-parts}
use Rattle.bv_main.proofs.device_word.cut_at_colon.Goals as goal

pub returns-clause-some : goal.returns-clause-some
returns-clause-some c = (cut-from-parts _ _ (split_parts 58 _ c.split_once.result c.split_once.ensures.cases (omega arith))).0

pub returns-clause-none : goal.returns-clause-none
returns-clause-none c = (cut-from-parts _ _ (split_parts 58 _ c.split_once.result c.split_once.ensures.cases (omega arith))).1
