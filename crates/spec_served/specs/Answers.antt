-- The result of a line, by the events that it made and by windows that verify (this project's
-- profile). Nothing is said of a device here.
use Rattle.std.specs.Prelude.{◌≡◌, ℕ, ◌+◌, ◌-◌, ◌*◌, ◌<◌, ◌≤◌, min, Bool, true, false, List, [], ◌∷◌, length, take, drop, Option, Some, None, IsSomeAnd, if◌then◌else◌}
use Rattle.std.specs.List.{range_with_len, flat_map}
use Rattle.spec_window.specs.Window.{Verifies}
use Rattle.spec_window.specs.declared.mismatch.Mismatch.{Mismatch}
use Rattle.spec_core.specs.declared.act.Act.{Act}
use Rattle.spec_core.specs.declared.act.Act.TheVariants as acts
use Rattle.spec_core.specs.declared.reply.Reply.{Reply}
use Rattle.spec_core.specs.declared.reply.Reply.TheVariants as replies
use Rattle.spec_core.specs.declared.event.CoreEvent.{CoreEvent}
use Rattle.spec_session.specs.Own.{Named, slot_holds}
use Rattle.spec_session.specs.Lines.{Move, Windows, last_window, read_windows, all_windows}
use Rattle.spec_session.specs.Told.{is_retire}
use Rattle.spec_session.specs.declared.result.LineResult.{LineResult}
use Rattle.spec_session.specs.declared.result.LineResult.TheVariants as results

-- ---- replies as results

-- the result that is the reply of an event that ends its line
abbrev pub IsReply : Reply → LineResult → Type 0
IsReply replies.Published r = r ≡ results.Published
IsReply (replies.Stopped f) r = r ≡ results.Stopped f
IsReply replies.Exists r = r ≡ results.Exists
IsReply (replies.Leaving handles) r = r ≡ results.Leaving handles
IsReply replies.InFlight r = r ≡ results.InFlight
IsReply (replies.NoSpace need room) r = r ≡ results.NoSpace need room
IsReply (replies.NoNodes need free) r = r ≡ results.NoNodes need free
IsReply replies.NumberEnd r = r ≡ results.NumberEnd
IsReply (replies.DeviceFault f) r = r ≡ results.DeviceFault f
IsReply (replies.ReadFault f) r = r ≡ results.ReadFault f
IsReply replies.NotFound r = r ≡ results.NotFound
IsReply replies.SlotTaken r = r ≡ results.SlotTaken
IsReply replies.BadSlot r = r ≡ results.BadSlot
IsReply replies.Closed r = r ≡ results.Closed
IsReply replies.Unlinked r = r ≡ results.Unlinked
IsReply replies.Synced r = r ≡ results.Synced
IsReply (replies.Listed count) (results.Listed blobs) = length blobs.items ≡ count
IsReply _ r = ⊥

-- the reply of the last of these moves that isn't a retire, where before them it was this one
abbrev pub last_reply : Option Reply → List Move → Option Reply
last_reply found [] = found
last_reply found (m ∷ ms) = last_reply (if is_retire m.0 then found else Some m.1) ms

-- an add is answered by the last of its moves that isn't a retire
abbrev pub AnswersAdd : List Move → LineResult → Type 0
AnswersAdd ms r = IsSomeAnd (last_reply None ms) (λ reply. IsReply reply r)

-- ---- what a range of a blob shows

-- what is known of the windows of a blob: the bytes of each, and its path
pub record Known : Type 0 where
  pub bytes : ℕ → List ℕ
  pub path : ℕ → List (List ℕ)

-- window w verifies
abbrev pub ShowsWindow : Named → Known → ℕ → Type 0
ShowsWindow blob known w = Verifies blob.0 blob.1 w (known.bytes w) (known.path w)

-- each window of these verifies
abbrev pub ShowsAll : Named → Known → Windows → Type 0
ShowsAll blob known windows =
    (w : ℕ) → windows.first ≤ w → w < windows.past → ShowsWindow blob known w

-- the bytes of these windows, one after another
abbrev pub joined : Known → Windows → List ℕ
joined known windows =
    flat_map known.bytes (range_with_len windows.first (windows.past - windows.first))

-- the bytes of a blob from one place on and before another, cut out of these windows
abbrev pub cut_of : Known → Windows → ℕ → ℕ → List ℕ
cut_of known windows from to =
    take (to - from) (drop (from - 65536 * windows.first) (joined known windows))

-- the bytes of a read, cut to the size
abbrev pub read_of : ℕ → Known → ℕ → ℕ → List ℕ
read_of size known off len =
    cut_of known (read_windows size off len) (min off size) (min (off + len) size)

-- ---- open, read and scan

-- the reply of the last of these moves that is a fetch
abbrev pub last_fetch : Option Reply → List Move → Option Reply
last_fetch found [] = found
last_fetch found ((acts.Fetch slot w, reply) ∷ ms) = last_fetch (Some reply) ms
last_fetch found (m ∷ ms) = last_fetch found ms

-- a refused fetch, or a window that doesn't verify, is the answer; `read-fault` exactly where the
-- last fetch replied it
pub record Fails (ms : List Move) (r : LineResult) : Type 0 where
  pub fault : (f : ℕ) → last_fetch None ms ≡ Some (replies.ReadFault f) → r ≡ results.ReadFault f
  pub cause : (f : ℕ) → r ≡ results.ReadFault f → last_fetch None ms ≡ Some (replies.ReadFault f)
  pub apart : (m : Mismatch) → r ≡ results.Mismatch m → ¬ (m.wanted ≡ m.found)

-- whether the last of these moves is a close
abbrev pub ends_closed : List Move → Bool
ends_closed [] = false
ends_closed ((acts.Close slot, reply) ∷ []) = true
ends_closed (m ∷ ms) = ends_closed ms

-- An open of this blob. It stays open exactly where it answers `opened`, and then its last window
-- verifies.
abbrev pub AnswersOpen : Named → List Move → LineResult → Type 0
AnswersOpen blob ms (results.Opened n) =
    (n ≡ blob.1) × (ends_closed ms ≡ false)
    × ((known : Known) × ShowsWindow blob known (last_window blob.1))
AnswersOpen blob ms (results.ReadFault f) = ends_closed ms ≡ true
AnswersOpen blob ms (results.Mismatch m) = ends_closed ms ≡ true
AnswersOpen blob ms _ = ⊥

-- a read of a slot that holds this blob
abbrev pub AnswersRead : Named → ℕ → ℕ → LineResult → Type 0
AnswersRead blob off len (results.Bytes bytes) =
    (known : Known) × ShowsAll blob known (read_windows blob.1 off len)
    × (bytes.items ≡ read_of blob.1 known off len)
AnswersRead blob off len (results.ReadFault f) = Unit {0}
AnswersRead blob off len (results.Mismatch m) = Unit {0}
AnswersRead blob off len _ = ⊥

-- a scan of a slot that holds this blob
abbrev pub AnswersScan : Named → LineResult → Type 0
AnswersScan blob (results.Whole size) =
    (size ≡ blob.1) × ((known : Known) × ShowsAll blob known (all_windows blob.1))
AnswersScan blob (results.ReadFault f) = Unit {0}
AnswersScan blob (results.Mismatch m) = Unit {0}
AnswersScan blob _ = ⊥

-- what the slot holds has P, where it holds something
abbrev pub IfHeld : Option Named → (Named → Type 0) → Type 0
IfHeld None P = ⊥
IfHeld (Some blob) P = P blob

-- the line whose own act is this, by the reply of its own event
abbrev pub AnswersBy : List CoreEvent → Act → Reply → List Move → LineResult → Type 0
AnswersBy own (acts.Begin root n) reply ms r = AnswersAdd ms r
AnswersBy own (acts.Open slot root) (replies.Opened size) ms r =
    AnswersOpen (root, size) ms r × Fails ms r
AnswersBy own (acts.Read slot off len) replies.Reading ms r =
    IfHeld (slot_holds slot own) (λ blob. AnswersRead blob off len r) × Fails ms r
AnswersBy own (acts.Scan slot) replies.Reading ms r =
    IfHeld (slot_holds slot own) (λ blob. AnswersScan blob r) × Fails ms r
AnswersBy own act reply ms r = IsReply reply r

-- the result of a line that made these moves, after these events of its session
abbrev pub Answers : List CoreEvent → Act → List Move → LineResult → Type 0
Answers own act [] r = ⊥
Answers own act (m ∷ ms) r = AnswersBy own act m.1 (m ∷ ms) r
