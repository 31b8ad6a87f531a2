-- The written forms of the commands, and the numbers of the statuses.
use Rattle.std.specs.Prelude.{◌≡◌, ◌<◌, ◌^◌, ◌==◌, ℕ, List, [], ◌∷◌, codes, decimal, if◌then◌else◌}
use Rattle.spec_record.specs.declared.geometry.Geometry.{Geometry}
use Rattle.spec_record.specs.Tests.{IsBetween}
use Rattle.bv_serve.specs.declared.command.Command.{Command}
use Rattle.bv_serve.specs.declared.command.Command.TheVariants.{Root, Format, ListBlobs, Check, Recover, Upgrade}
use Rattle.bv_serve.specs.declared.status.Status.{Status}
use Rattle.bv_serve.specs.declared.status.Status.TheVariants as status

-- A word writes a number in decimal digits without a leading zero, at most 18 of them (this
-- project's profile).
pub record IsNumber (word : List ℕ) (n : ℕ) : Type 0 where
  pub written : word ≡ decimal n
  pub short : n < 10 ^ 18

-- the word writes no number
abbrev pub IsNoNumber : List ℕ → Type 0
IsNoNumber word = (n : ℕ) → ¬ IsNumber word n

-- the word that makes a volume of version 1, or of version 2
abbrev pub format_word : ℕ → List ℕ
format_word version = if version == 1 then codes "format" else codes "format2"

-- the word makes volumes of this version
pub record IsFormatWord (word : List ℕ) (version : ℕ) : Type 0 where
  pub known : IsBetween 1 version 2
  pub is : word ≡ format_word version

-- the word makes no volume
abbrev pub IsNoFormatWord : List ℕ → Type 0
IsNoFormatWord word = (version : ℕ) → ¬ IsFormatWord word version

-- the words that write a command (this project's profile)
abbrev pub written_form : Command → List (List ℕ)
written_form Root = codes "root" ∷ []
written_form ListBlobs = codes "list" ∷ []
written_form Check = codes "check" ∷ []
written_form Recover = codes "recover" ∷ []
written_form Upgrade = codes "upgrade" ∷ []
written_form (Format g) =
    format_word g.version ∷ decimal g.blocks ∷ decimal g.nodes ∷ decimal g.journal ∷ []

-- the counts of a volume that words can write: each has at most 18 digits
pub record HasShortCounts (g : Geometry) : Type 0 where
  pub version : IsBetween 1 g.version 2
  pub blocks : g.blocks < 10 ^ 18
  pub nodes : g.nodes < 10 ^ 18
  pub journal : g.journal < 10 ^ 18

-- the command can be written
abbrev pub CanBeWritten : Command → Type 0
CanBeWritten Root = Unit {0}
CanBeWritten ListBlobs = Unit {0}
CanBeWritten Check = Unit {0}
CanBeWritten Recover = Unit {0}
CanBeWritten Upgrade = Unit {0}
CanBeWritten (Format g) = HasShortCounts g

-- the words write this command
pub record IsForm (words : List (List ℕ)) (command : Command) : Type 0 where
  pub written : words ≡ written_form command
  pub can : CanBeWritten command

-- the words write no command
abbrev pub IsNoForm : List (List ℕ) → Type 0
IsNoForm words = (command : Command) → ¬ IsForm words command

-- the number with which the program ends (this project's profile)
abbrev pub status_code : Status → ℕ
status_code status.Ok = 0
status_code status.Usage = 1
status_code status.Input = 2
status_code status.Source = 3
status_code status.Sink = 4
status_code status.Device = 5
status_code status.Volume = 6
status_code status.Memory = 7
status_code status.Damage = 8
status_code status.Refused = 9
