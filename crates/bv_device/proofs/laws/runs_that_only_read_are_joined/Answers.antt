use Rattle.std.proofs.Common.{refl}
use Rattle.std.specs.Prelude.{IsTrue}
use Rattle.bv_device.proofs.ReadsLemmas.{OnlyReads-append, Reads-append, Reads-weaker}
use Rattle.bv_device.proofs.laws.runs_that_only_read_are_joined.Goals as goal

pub returns : goal.returns
returns c = record {
  nothing = λ s. record { told = refl; blocks = refl; calls = refl; faults = refl };
  joined = OnlyReads-append;
  both = λ reported old mid new p q first second. Reads-append reported old mid new (λ j. IsTrue (p j)) (λ j. IsTrue (q j)) _ first second (λ j a b. (a, b));
  weaker = λ reported old new p q reads weaker. Reads-weaker reported old new (λ j. IsTrue (p j)) (λ j. IsTrue (q j)) reads weaker;
}
