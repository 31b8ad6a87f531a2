-- The printed history, read again: a reading of `spec_session`'s history part.
--
-- Its lines end in newlines, and the words of a line are parted by one space. A line that isn't that
-- of an event is passed over.
use Rattle.std.specs.Prelude.{ℕ, ◌==◌, if◌then◌else◌, List, [], ◌∷◌, map, codes, Option, Some, None}
use Rattle.std.specs.Char.{is_ascii_digit}
use Rattle.std.specs.List.{list_all, slice_split}
use Rattle.std.specs.Option.{unwrap_or}
use Rattle.std.specs.Str.{bytes_eq}
use Rattle.std.specs.Str.Parse.{digits_value}
use Rattle.spec_core.specs.declared.act.Act.{Act}
use Rattle.spec_core.specs.declared.act.Act.TheVariants as acts
use Rattle.spec_core.specs.declared.event.CoreEvent.{CoreEvent}
use Rattle.spec_core.specs.declared.reply.Reply.{Reply}
use Rattle.spec_core.specs.declared.reply.Reply.TheVariants as replies
use Rattle.spec_script.specs.Words.{hex_of}
use Rattle.spec_tree.specs.declared.Digest.{Digest}

-- the words of a line, or of what is left of one
abbrev pub Words : Type 0
Words = List (List ℕ)

-- a value that was read, and the words behind it
abbrev pub Read : Type 0 → Type 0
Read X = Option (X × Words)

-- the number of which a word has the digits
abbrev pub number_in : List ℕ → ℕ
number_in word = digits_value 10 word

-- the digest of which a word has the digits
abbrev pub digest_in : List ℕ → Digest
digest_in word = record { 0 = unwrap_or (hex_of word) [] }

-- ---- values behind a word

-- a value that one number makes
abbrev pub one_number : {X : Type 0} → (ℕ → X) → Words → Read X
one_number make [] = None
one_number make (n ∷ words) = Some (make (number_in n), words)

-- a value that two numbers make
abbrev pub two_numbers : {X : Type 0} → (ℕ → ℕ → X) → Words → Read X
two_numbers make (n ∷ m ∷ words) = Some (make (number_in n) (number_in m), words)
two_numbers make _ = None

-- a value that three numbers make
abbrev pub three_numbers : {X : Type 0} → (ℕ → ℕ → ℕ → X) → Words → Read X
three_numbers make (n ∷ m ∷ k ∷ words) = Some (make (number_in n) (number_in m) (number_in k), words)
three_numbers make _ = None

-- a value that a digest makes
abbrev pub one_digest : {X : Type 0} → (Digest → X) → Words → Read X
one_digest make [] = None
one_digest make (d ∷ words) = Some (make (digest_in d), words)

-- a value that a digest and a number make
abbrev pub digest_number : {X : Type 0} → (Digest → ℕ → X) → Words → Read X
digest_number make (d ∷ n ∷ words) = Some (make (digest_in d) (number_in n), words)
digest_number make _ = None

-- a value that a number and a digest make
abbrev pub number_digest : {X : Type 0} → (ℕ → Digest → X) → Words → Read X
number_digest make (n ∷ d ∷ words) = Some (make (number_in n) (digest_in d), words)
number_digest make _ = None

-- ---- acts and replies

-- the act of this word, with what stands behind it
abbrev pub act_behind : List ℕ → Words → Read Act
act_behind verb words =
    if bytes_eq verb (codes "begin") then digest_number acts.Begin words
    else if bytes_eq verb (codes "admit") then one_digest acts.Admit words
    else if bytes_eq verb (codes "put") then one_number acts.Put words
    else if bytes_eq verb (codes "settle") then one_digest acts.Settle words
    else if bytes_eq verb (codes "retire") then one_digest acts.Retire words
    else if bytes_eq verb (codes "open") then number_digest acts.Open words
    else if bytes_eq verb (codes "fetch") then two_numbers acts.Fetch words
    else if bytes_eq verb (codes "read") then three_numbers acts.Read words
    else if bytes_eq verb (codes "scan") then one_number acts.Scan words
    else if bytes_eq verb (codes "close") then one_number acts.Close words
    else if bytes_eq verb (codes "unlink") then one_digest acts.Unlink words
    else if bytes_eq verb (codes "sync") then Some (acts.Sync, words)
    else if bytes_eq verb (codes "list") then Some (acts.List, words)
    else if bytes_eq verb (codes "unmount") then Some (acts.Unmount, words)
    else None

-- the act that these words begin with
abbrev pub read_act : Words → Read Act
read_act [] = None
read_act (verb ∷ words) = act_behind verb words

-- the reply of this word that is no number, with what stands behind it
abbrev pub reply_behind : List ℕ → Words → Read Reply
reply_behind word words =
    if bytes_eq word (codes "granted") then Some (replies.Granted, words)
    else if bytes_eq word (codes "admitted") then Some (replies.Admitted, words)
    else if bytes_eq word (codes "written") then Some (replies.Written, words)
    else if bytes_eq word (codes "published") then Some (replies.Published, words)
    else if bytes_eq word (codes "retired") then Some (replies.Retired, words)
    else if bytes_eq word (codes "opened") then one_number replies.Opened words
    else if bytes_eq word (codes "fetched") then Some (replies.Fetched, words)
    else if bytes_eq word (codes "reading") then Some (replies.Reading, words)
    else if bytes_eq word (codes "closed") then Some (replies.Closed, words)
    else if bytes_eq word (codes "unlinked") then Some (replies.Unlinked, words)
    else if bytes_eq word (codes "synced") then Some (replies.Synced, words)
    else if bytes_eq word (codes "unmounted") then Some (replies.Unmounted, words)
    else if bytes_eq word (codes "stopped") then one_number replies.Stopped words
    else if bytes_eq word (codes "exists") then Some (replies.Exists, words)
    else if bytes_eq word (codes "leaving") then one_number replies.Leaving words
    else if bytes_eq word (codes "in-flight") then Some (replies.InFlight, words)
    else if bytes_eq word (codes "no-space") then two_numbers replies.NoSpace words
    else if bytes_eq word (codes "no-nodes") then two_numbers replies.NoNodes words
    else if bytes_eq word (codes "number-end") then Some (replies.NumberEnd, words)
    else if bytes_eq word (codes "device-fault") then one_number replies.DeviceFault words
    else if bytes_eq word (codes "read-fault") then one_number replies.ReadFault words
    else if bytes_eq word (codes "not-found") then Some (replies.NotFound, words)
    else if bytes_eq word (codes "slot-taken") then Some (replies.SlotTaken, words)
    else if bytes_eq word (codes "bad-slot") then Some (replies.BadSlot, words)
    else None

-- the reply that these words begin with: a number alone is that of a listing
abbrev pub read_reply : Words → Read Reply
read_reply [] = None
read_reply (word ∷ words) =
    if list_all is_ascii_digit word then Some (replies.Listed (number_in word), words)
    else reply_behind word words

-- ---- events

-- an event, by what was read of it, and its last word
abbrev pub event_of : List ℕ → List ℕ → Act → Read Reply → Option CoreEvent
event_of session line act (Some (reply, (at ∷ calls) ∷ [])) = Some (record {
  who = record { session = number_in session; line = number_in line };
  act = act;
  reply = reply;
  calls = number_in calls;
})
event_of session line act _ = None

-- an event, by what was read of it up to its act
abbrev pub event_from : List ℕ → List ℕ → Read Act → Option CoreEvent
event_from session line None = None
event_from session line (Some (act, words)) = event_of session line act (read_reply words)

-- the event that the words of a line are: behind its number its session, its line and the rest
abbrev pub read_words : Words → Option CoreEvent
read_words (number ∷ session ∷ line ∷ words) = event_from session line (read_act words)
read_words _ = None

-- the event that a line is
abbrev pub read_line : List ℕ → Option CoreEvent
read_line line = read_words (slice_split (λ byte. byte == 32) line)

-- the values that are there
abbrev pub somes : {X : Type 0} → List (Option X) → List X
somes [] = []
somes (Some x ∷ xs) = x ∷ somes xs
somes (None ∷ xs) = somes xs

-- the events of a printed history
abbrev pub read_events : List ℕ → List CoreEvent
read_events text = somes (map read_line (slice_split (λ byte. byte == 10) text))
