use Rattle.spec_orderly.proofs.Ordered.{agrees_last}
use Rattle.spec_orderly.proofs.laws.an_own_add_is_under_way.Goals as goal

pub returns : goal.returns
returns c = λ h next s a legal order is. (agrees_last h next legal order).mine s a is
