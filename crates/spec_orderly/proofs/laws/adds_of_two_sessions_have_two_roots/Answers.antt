use Rattle.spec_orderly.proofs.Ordered.{agrees_last}
use Rattle.spec_orderly.proofs.laws.adds_of_two_sessions_have_two_roots.Goals as goal

pub returns : goal.returns
returns c = λ h next s t a b legal order other p q. (agrees_last h next legal order).apart s t a b other p q
