-- A line of a script by itself: its session and its command, or its first fault (this project's
-- profile).
use Rattle.std.specs.Prelude.{ℕ, Bool, true, ◌||◌, ◌==◌, nat_le, nat_lt, if◌then◌else◌, List, [], ◌∷◌, Option, Some, None, Result, Ok, Err}
use Rattle.std.specs.List.{list_any}
use Rattle.std.specs.Option.{ok_or}
use Rattle.spec_script.specs.declared.fault.ScriptKind.{ScriptKind}
use Rattle.spec_script.specs.declared.fault.ScriptKind.TheVariants as kinds
use Rattle.spec_script.specs.declared.line.ScriptLine.{ScriptLine}
use Rattle.spec_script.specs.Commands.{command_in}
use Rattle.spec_script.specs.Faults.{◌>>=◌}
use Rattle.spec_script.specs.Parts.{words_of}
use Rattle.spec_script.specs.Words.{number_of}

-- the number of a session, or the fault of a word that is none
unfoldable pub session_or_fault : List ℕ → Result ℕ ScriptKind
session_or_fault word = do
  session ← ok_or (number_of word) kinds.Session
  if nat_le session 15 then Ok session else Err kinds.Session

-- the words of the line of this number
unfoldable pub line_in : ℕ → List (List ℕ) → Result ScriptLine ScriptKind
line_in number [] = Err kinds.Session
line_in number (word ∷ words) = do
  session ← session_or_fault word
  command ← command_in words
  Ok (record { number = number; session = session; command = command })

-- a byte that no line has
abbrev pub is_foreign : ℕ → Bool
is_foreign byte = nat_lt byte 32 || nat_lt 126 byte

-- whether a line is skipped: an empty one, and one that begins with `#`
abbrev pub is_skipped : List ℕ → Bool
is_skipped [] = true
is_skipped (byte ∷ bytes) = byte == 35

-- a line by itself: its command, none where it is skipped, or its first fault
unfoldable pub line_or_fault : ℕ → List ℕ → Result (Option ScriptLine) ScriptKind
line_or_fault number bytes =
    if list_any is_foreign bytes then Err kinds.Byte
    else if nat_lt 4096 number then Err kinds.Lines
    else if is_skipped bytes then Ok None
    else (line_in number (words_of bytes) >>= λ line. Ok (Some line))
