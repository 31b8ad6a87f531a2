-- The written forms of the commands that run sessions (this project's profile).
--
-- | words            | what is done                                                             |
-- |------------------|--------------------------------------------------------------------------|
-- | `script`         | the script of the input runs on the volume that is there                 |
-- | `fresh B N J`    | a volume of version 1 is made, and the script of the input runs on it    |
-- | `fresh2 B N J`   | the same, of version 2                                                   |
-- | `demo N`         | a volume is made, and the stated script of N rounds runs on it           |
use Rattle.std.specs.Prelude.{◌≡◌, ◌==◌, ℕ, List, [], ◌∷◌, codes, decimal, Option, None, Some, if◌then◌else◌}
use Rattle.spec_record.specs.declared.geometry.Geometry.{Geometry}
use Rattle.spec_record.specs.Tests.{IsBetween}
use Rattle.bv_serve.specs.Words.{HasShortCounts}
use Rattle.bv_run.specs.declared.form.Form.{Form}
use Rattle.bv_run.specs.declared.form.Form.TheVariants.{Script, Fresh, Demo}

-- the word of a command that makes a volume of version 1, or of version 2, and runs a script on it
abbrev pub fresh_word : ℕ → List ℕ
fresh_word version = if version == 1 then codes "fresh" else codes "fresh2"

-- the word makes volumes of this version
pub record IsFreshWord (word : List ℕ) (version : ℕ) : Type 0 where
  pub known : IsBetween 1 version 2
  pub is : word ≡ fresh_word version

-- the word makes no volume
abbrev pub IsNoFreshWord : List ℕ → Type 0
IsNoFreshWord word = (version : ℕ) → ¬ IsFreshWord word version

-- the words that write a command
abbrev pub written_form : Form → List (List ℕ)
written_form Script = codes "script" ∷ []
written_form (Fresh g) =
    fresh_word g.version ∷ decimal g.blocks ∷ decimal g.nodes ∷ decimal g.journal ∷ []
written_form (Demo rounds) = codes "demo" ∷ decimal rounds ∷ []

-- the command can be written
abbrev pub CanBeWritten : Form → Type 0
CanBeWritten Script = Unit {0}
CanBeWritten (Fresh g) = HasShortCounts g
CanBeWritten (Demo rounds) = IsBetween 1 rounds 32

-- the words write this command
pub record IsForm (words : List (List ℕ)) (form : Form) : Type 0 where
  pub written : words ≡ written_form form
  pub can : CanBeWritten form

-- the words write no such command
abbrev pub IsNoForm : List (List ℕ) → Type 0
IsNoForm words = (form : Form) → ¬ IsForm words form

-- the counts of the demonstration's volume
abbrev pub demo_geometry : Geometry
demo_geometry = record { blocks = 4096; nodes = 1024; journal = 64; version = 1 }

-- the counts of the volume that a command makes first, if it makes one
abbrev pub made_by : Form → Option Geometry
made_by Script = None
made_by (Fresh g) = Some g
made_by (Demo rounds) = Some demo_geometry
