-- What a fetch reads, and what it answers.
use Rattle.std.specs.Prelude.{◌≡◌, ◌≤◌, ◌∷◌, [], ℕ, List, Option, None, Some, Result, Ok, Err, IfOk, IfSome}
use Rattle.spec_disk.specs.Images.{IsSettled}
use Rattle.spec_tree.specs.declared.Digest.{Digest}
use Rattle.spec_tree.specs.declared.blob.Blob.{Blob}
use Rattle.spec_core.specs.History.{last_state}
use Rattle.spec_core.specs.State.{find, held}
use Rattle.spec_core.specs.Synced.{RiseWithin}
use Rattle.spec_core.specs.declared.place.Place.{Place}
use Rattle.spec_core.specs.declared.reply.Reply.{Reply}
use Rattle.spec_core.specs.declared.reply.Reply.TheVariants as replies
use Rattle.spec_rest.specs.Rest.{Map}
use Rattle.bv_fetch.specs.Reading.{SeesNow}
use Rattle.bv_fetch.specs.Windows.{Holds, HasLengths}
use Rattle.bv_proof.specs.declared.raw.RawWindow.{RawWindow}
use Rattle.bv_store.specs.Stored.{Stored}
use Rattle.spec_served.specs.Adds.{AreByLine}
use Rattle.bv_volume.specs.Located.{LiesBy}
use Rattle.bv_volume.specs.Seen.{HasBlobsNow, Seen}
use Rattle.bv_volume.specs.declared.fetching.FetchFault.{FetchFault}
use Rattle.bv_volume.specs.declared.fetching.FetchFault.TheVariants as fetch

-- the reply of a fetch
abbrev pub fetch_reply : Result RawWindow FetchFault → Option Reply
fetch_reply (Ok raw) = Some replies.Fetched
fetch_reply (Err fetch.BadSlot) = Some replies.BadSlot
fetch_reply (Err fetch.NoMemory) = None
fetch_reply (Err (fetch.ReadFault f)) = Some (replies.ReadFault f)

-- the faults that a read of a window tells of; it answers the window or a fault
abbrev pub ReadFaults : ℕ → ℕ → Result RawWindow FetchFault → Type 0
ReadFaults before now (Ok raw) = before ≤ now
ReadFaults before now (Err (fetch.ReadFault f)) = (before ≤ now) × RiseWithin before now (f ∷ [])
ReadFaults before now (Err _) = ⊥

-- the window of a blob at these places was read: nothing has changed but the count of faults
pub record Fetches (old new : Stored) (Both New : Map → Map → Type 0) (Held Hold : ℕ → Type 0)
    (places : List ℕ) (blob : Blob) (w : ℕ) (result : Result RawWindow FetchFault) : Type 0 where
  pub rest : new ≡ record old { faults = new.faults }
  pub faults : ReadFaults old.faults new.faults result
  pub both : (a b : Map) → Both a b → New a b
  pub held : (b : ℕ) → Hold b → Held b
  pub lengths : IfOk result (HasLengths blob.size w)
  pub now : IfOk result (λ raw. SeesNow old (Holds old.geometry places blob raw))

-- the place holds the blob with this root and size
pub record HoldsBlob (v : Seen) (place : Place) (root : Digest) (size : ℕ) : Type 0 where
  pub holds : held (last_state v.history v.next).slots place ≡ Some root
  pub blob : Blob
  pub has : find (last_state v.history v.next).map root ≡ Some blob
  pub size_is : blob.size ≡ size

-- the window is that of the blob that the place holds: it has the lengths that the blob's size
-- gives, and is what Now has at the blocks where the blob lies, which are those that the history says
pub record HasFetched (v : Seen) (place : Place) (w : ℕ) (raw : RawWindow) : Type 0 where
  pub root : Digest
  pub holds : held (last_state v.history v.next).slots place ≡ Some root
  pub blob : Blob
  pub has : find (last_state v.history v.next).map root ≡ Some blob
  pub places : List ℕ
  pub lies : find v.store.placed root ≡ Some places
  pub by : IfSome v.store.began (λ b. IsSettled b.trace → AreByLine [] v.history.events
      → IfSome v.store.told (λ d. LiesBy v.store.geometry b d v.history root places))
  pub shown : HasBlobsNow v
  pub lengths : HasLengths blob.size w raw
  pub now : SeesNow v.store (Holds v.store.geometry places blob raw)
