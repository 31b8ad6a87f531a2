-- How the first fault of a script is told: one test or reading behind another, and its place (this
-- project's profile). The order of the faults stands at the head of `Grammar`.
use Rattle.std.specs.Prelude.{ℕ, Result, Ok, Err}
use Rattle.spec_script.specs.declared.fault.ScriptFault.{ScriptFault}
use Rattle.spec_script.specs.declared.fault.ScriptFault.TheVariants.{At}
use Rattle.spec_script.specs.declared.fault.ScriptKind.{ScriptKind}

-- a test or a reading behind another: the first fault tells
infixl 10 ◌>>=◌
abbrev pub ◌>>=◌ : {A B E : Type 0} → Result A E → (A → Result B E) → Result B E
(Ok x) >>= f = f x
(Err e) >>= f = Err e

-- the place of a fault
abbrev pub placed : {A : Type 0} → ℕ → Result A ScriptKind → Result A ScriptFault
placed number (Ok x) = Ok x
placed number (Err kind) = Err (At number kind)
