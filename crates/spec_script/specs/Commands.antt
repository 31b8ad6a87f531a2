-- The commands of a script: a verb, and the words behind it that it wants, or the first fault (this
-- project's profile).
--
-- | verb              | words          | faults, in this order          |
-- |-------------------|----------------|--------------------------------|
-- | `add`             | DATA           | arguments, data                |
-- | `open`            | SLOT NAME      | arguments, number, slot, name  |
-- | `read`            | SLOT OFF LEN   | arguments, number, slot        |
-- | `scan`, `close`   | SLOT           | arguments, number, slot        |
-- | `unlink`          | NAME           | arguments, name                |
-- | `sync`, `list`    | none           | arguments                      |
use Rattle.std.specs.Prelude.{ℕ, Bool, ◌||◌, ◌==◌, nat_le, if◌then◌else◌, List, [], ◌∷◌, length, Option, Some, None, Result, Ok, Err}
use Rattle.std.specs.Option.{ok_or}
use Rattle.spec_script.specs.declared.command.Command.{Command}
use Rattle.spec_script.specs.declared.command.Command.TheVariants as commands
use Rattle.spec_script.specs.declared.fault.ScriptKind.{ScriptKind}
use Rattle.spec_script.specs.declared.fault.ScriptKind.TheVariants as kinds
use Rattle.spec_script.specs.declared.verb.Verb.{Verb}
use Rattle.spec_script.specs.declared.verb.Verb.TheVariants as verbs
use Rattle.spec_script.specs.Faults.{◌>>=◌}
use Rattle.spec_script.specs.Words.{number_of, data_of, name_of, verb_of}

-- ---- the arguments of a verb

-- whether a word has no byte
abbrev pub is_empty : List ℕ → Bool
is_empty word = length word == 0

-- just this one, not empty
abbrev pub one_of : List (List ℕ) → Option (List ℕ)
one_of (a ∷ []) = if is_empty a then None else Some a
one_of _ = None

-- just these two, neither of them empty
abbrev pub two_of : List (List ℕ) → Option (List ℕ × List ℕ)
two_of (a ∷ b ∷ []) = if is_empty a || is_empty b then None else Some (a, b)
two_of _ = None

-- just these three, none of them empty
abbrev pub three_of : List (List ℕ) → Option (List ℕ × List ℕ × List ℕ)
three_of (a ∷ b ∷ c ∷ []) =
    if is_empty a || is_empty b || is_empty c then None else Some (a, b, c)
three_of _ = None

-- ---- commands

-- a number, or the fault of a word that is none
abbrev pub number_or_fault : List ℕ → Result ℕ ScriptKind
number_or_fault word = ok_or (number_of word) kinds.Number

-- the number of a slot, or the fault of one that is too high
abbrev pub slot_or_fault : ℕ → Result ℕ ScriptKind
slot_or_fault slot = if nat_le slot 63 then Ok slot else Err kinds.Slot

-- the word of an `add`
unfoldable pub add_in : List (List ℕ) → Result Command ScriptKind
add_in words = do
  text ← ok_or (one_of words) kinds.Arguments
  word ← ok_or (data_of text) kinds.Data
  Ok (commands.Add word)

-- the words of an `open`
unfoldable pub open_in : List (List ℕ) → Result Command ScriptKind
open_in words = do
  texts ← ok_or (two_of words) kinds.Arguments
  number ← number_or_fault texts.0
  slot ← slot_or_fault number
  name ← ok_or (name_of texts.1) kinds.Name
  Ok (commands.Open slot name)

-- the words of a `read`
unfoldable pub read_in : List (List ℕ) → Result Command ScriptKind
read_in words = do
  texts ← ok_or (three_of words) kinds.Arguments
  number ← number_or_fault texts.0
  off ← number_or_fault texts.1
  len ← number_or_fault texts.2
  slot ← slot_or_fault number
  Ok (commands.Read slot off len)

-- the word of a `scan` or a `close`
unfoldable pub slot_in : List (List ℕ) → Result ℕ ScriptKind
slot_in words = do
  text ← ok_or (one_of words) kinds.Arguments
  number ← number_or_fault text
  slot_or_fault number

-- the word of an `unlink`
unfoldable pub unlink_in : List (List ℕ) → Result Command ScriptKind
unlink_in words = do
  text ← ok_or (one_of words) kinds.Arguments
  name ← ok_or (name_of text) kinds.Name
  Ok (commands.Unlink name)

-- no words
abbrev pub nothing_in : List (List ℕ) → Result (Unit {0}) ScriptKind
nothing_in [] = Ok tt
nothing_in (word ∷ words) = Err kinds.Arguments

-- the words behind a verb
unfoldable pub command_with : Verb → List (List ℕ) → Result Command ScriptKind
command_with verbs.Add words = add_in words
command_with verbs.Open words = open_in words
command_with verbs.Read words = read_in words
command_with verbs.Scan words = slot_in words >>= λ slot. Ok (commands.Scan slot)
command_with verbs.Close words = slot_in words >>= λ slot. Ok (commands.Close slot)
command_with verbs.Unlink words = unlink_in words
command_with verbs.Sync words = nothing_in words >>= λ _. Ok commands.Sync
command_with verbs.List words = nothing_in words >>= λ _. Ok commands.List

-- the words behind the session
unfoldable pub command_in : List (List ℕ) → Result Command ScriptKind
command_in [] = Err kinds.Command
command_in (word ∷ words) = do
  verb ← ok_or (verb_of word) kinds.Command
  command_with verb words
