-- What a session's reader comes to know, and by which events.
use Rattle.std.specs.Prelude.{◌≡◌, ℕ, ◌<◌, ◌≤◌, ◌⊎◌, List, [], ◌∷◌, ◌++◌, length, Option, Some, None, IsSome, Result, Ok, Err}
use Rattle.std.specs.declared.alloc.AllocError.{AllocError}
use Rattle.spec_core.specs.declared.act.Act.TheVariants.{Fetch}
use Rattle.spec_core.specs.declared.event.CoreEvent.{CoreEvent}
use Rattle.spec_core.specs.declared.reply.Reply.{Reply}
use Rattle.spec_core.specs.declared.reply.Reply.TheVariants.{Fetched, ReadFault}
use Rattle.spec_core.specs.declared.who.Who.{Who}
use Rattle.spec_session.specs.Lines.{RiseFrom, fetches}
use Rattle.spec_session.specs.declared.result.LineResult.{LineResult}
use Rattle.spec_session.specs.declared.result.LineResult.TheVariants as results
use Rattle.spec_served.specs.Answers.{Known}
use Rattle.spec_window.specs.Mismatch.{first_mismatch}
use Rattle.spec_window.specs.Page.{Page}
use Rattle.bv_pager.specs.Range.{bytes_at}
use Rattle.bv_pager.specs.Reading.{Reading, known_at, page_in, with_page}
use Rattle.bv_proof.specs.declared.raw.RawWindow.{RawWindow}
use Rattle.bv_session.specs.Sessions.{Since}

-- a reader of the same blob, which still knows what it knew
pub record KeepsKnown (old new : Reading) : Type 0 where
  pub root : new.root ≡ old.root
  pub size : new.size ≡ old.size
  pub known : (w : ℕ) → IsSome (known_at old w) → IsSome (known_at new w)

-- the result of a line that finds a window that doesn't verify: two digests differ
abbrev pub IsMismatch : LineResult → Type 0
IsMismatch (results.Mismatch m) = ¬ (m.wanted ≡ m.found)
IsMismatch r = ⊥

-- a window that was read is known, or the line ends with a mismatch
abbrev pub Loads : ℕ → Reading → Result (Option LineResult) AllocError → Type 0
Loads w new (Ok None) = IsSome (known_at new w)
Loads w new (Ok (Some r)) = IsMismatch r
Loads w new (Err e) = Unit {0}

-- the result is the first mismatch of this page
abbrev pub IsFirst : Page → LineResult → Type 0
IsFirst page (results.Mismatch m) = first_mismatch page ≡ Some m
IsFirst page r = ⊥

-- what a load makes of a reader: it knows the page too, or it is as it was
abbrev pub Made : Reading → RawWindow → Reading → Result (Option LineResult) AllocError → Type 0
Made old raw new (Ok None) =
    (raw.window < length old.known) × (new ≡ with_page old raw.window (page_in old raw))
Made old raw new (Ok (Some r)) = (new ≡ old) × IsFirst (page_in old raw) r
Made old raw new (Err e) = new ≡ old

-- the reply of a fetch after which a line ends with this result
abbrev pub FailsBy : Reply → LineResult → Type 0
FailsBy (ReadFault f) r = r ≡ results.ReadFault f
FailsBy Fetched r = IsMismatch r
FailsBy reply r = ⊥

-- from old to now the window was known, or it was fetched
abbrev pub MayFetch : Who → ℕ → ℕ → List CoreEvent → List CoreEvent → Type 0
MayFetch who slot w old now =
    Since who [] old now ⊎ Since who ((Fetch slot w, Fetched) ∷ []) old now

-- from old to now a window came to be known, or the line ends with a result, or there is no memory
abbrev pub Finds
    : Who → ℕ → ℕ → Reading → Result (Option LineResult) AllocError → List CoreEvent
    → List CoreEvent → Type 0
Finds who slot w new (Ok None) old now =
    IsSome (known_at new w) × MayFetch who slot w old now
Finds who slot w new (Ok (Some r)) old now =
    (q : Reply) × FailsBy q r × Since who ((Fetch slot w, q) ∷ []) old now
Finds who slot w new (Err e) old now = MayFetch who slot w old now

-- ---- ranges of windows

-- the reader knows each window of these
abbrev pub KnowsBetween : Reading → ℕ → ℕ → Type 0
KnowsBetween r first past = (w : ℕ) → first ≤ w → w < past → IsSome (known_at r w)

-- from old to now some windows of these were fetched, rising
abbrev pub FetchesSome : Who → ℕ → ℕ → ℕ → List CoreEvent → List CoreEvent → Type 0
FetchesSome who slot first past old now =
    (ws : List ℕ) × RiseFrom first past ws × Since who (fetches slot ws) old now

-- from old to now the windows of a range came to be known, or the line ends with a result at one of
-- them, or there is no memory
abbrev pub FindsRange
    : Who → ℕ → ℕ → ℕ → Reading → Result (Option LineResult) AllocError → List CoreEvent
    → List CoreEvent → Type 0
FindsRange who slot first past new (Ok None) old now =
    KnowsBetween new first past × FetchesSome who slot first past old now
FindsRange who slot first past new (Ok (Some r)) old now =
    (ws : List ℕ) × (w : ℕ) × (q : Reply) × RiseFrom first past (ws ++ w ∷ []) × FailsBy q r
    × Since who (fetches slot ws ++ (Fetch slot w, q) ∷ []) old now
FindsRange who slot first past new (Err e) old now = FetchesSome who slot first past old now

-- the path of a page that is known
abbrev pub path_of : Option Page → List (List ℕ)
path_of None = []
path_of (Some p) = p.path

-- the windows that a reader knows
abbrev pub known_of : Reading → Known
known_of r = record { bytes = λ w. bytes_at r w; path = λ w. path_of (known_at r w) }
