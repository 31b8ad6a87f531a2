-- What the results of lines say of a device that tells (this project's profile): Served, its second
-- part.
--
-- `base` is the disk when the mount began, `told` are the device's events since, and `h` is the
use Rattle.std.specs.Prelude.{◌≡◌, ℕ, ◌+◌, ◌-◌, ◌<◌, ◌≤◌, List, [], ◌∷◌, ◌++◌, map, filter, take, drop, min, Option, Some, None, IsSomeAnd}
use Rattle.spec_disk.specs.declared.event.Event.{Event}
use Rattle.spec_disk.specs.Disk.{Blocks, block, now_after}
use Rattle.spec_image.specs.Chain.{BlobRecord}
use Rattle.spec_image.specs.Stored.{fetched_bytes, fetched_path}
use Rattle.spec_image.specs.Volume.{bytes_of}
use Rattle.spec_window.specs.declared.mismatch.Mismatch.{Mismatch}
use Rattle.spec_window.specs.Mismatch.{first_mismatch}
use Rattle.spec_window.specs.Page.{Page, IsVerified}
use Rattle.spec_core.specs.declared.act.Act.{Act}
use Rattle.spec_core.specs.declared.act.Act.TheVariants as acts
use Rattle.spec_core.specs.declared.reply.Reply.{Reply}
use Rattle.spec_core.specs.declared.reply.Reply.TheVariants as replies
use Rattle.spec_core.specs.declared.event.CoreEvent.{CoreEvent}
use Rattle.spec_core.specs.History.{History}
use Rattle.spec_session.specs.Own.{Named, slot_holds}
use Rattle.spec_session.specs.Lines.{Windows, last_window, read_windows, all_windows}
use Rattle.spec_session.specs.Conform.{Request, events_of}
use Rattle.spec_session.specs.Told.{same_who}
use Rattle.spec_session.specs.declared.result.LineResult.{LineResult}
use Rattle.spec_session.specs.declared.result.LineResult.TheVariants as results
use Rattle.spec_served.specs.Places.{publisher, blocks_by, version_by}

-- the result is these bytes
abbrev pub IsBytes : List ℕ → LineResult → Type 0
IsBytes v (results.Bytes bytes) = bytes.items ≡ v
IsBytes v _ = ⊥

-- a line that its session has done: the events before its own one, that one, and the blob that it
-- is about
pub record At : Type 0 where
  pub before : List CoreEvent
  pub own : CoreEvent
  pub blob : Named

module _ (base : Blocks) (told : List Event) (h : History) (at : At) where
  -- Now: the disk when the line's own event ended
  abbrev pub now_at : Blocks
  now_at = now_after base (take at.own.calls told)

  -- the blob as a record, without its places
  abbrev pub blob_record : BlobRecord
  blob_record = record {
    root = at.blob.0;
    size = at.blob.1;
    version = version_by base h at.blob.0 (publisher at.blob.0 None at.before);
    extents = [];
    nodes = [];
  }

  -- what Now has at the blob's blocks
  abbrev pub stored_at : List (List ℕ)
  stored_at = map (block now_at)
      (blocks_by base told at.before at.blob.0 (publisher at.blob.0 None at.before))

  -- the bytes and the path of a window there
  abbrev pub bytes_at : ℕ → List ℕ
  bytes_at w = fetched_bytes blob_record stored_at w

  -- its path
  abbrev pub path_at : ℕ → List (List ℕ)
  path_at w = fetched_path blob_record stored_at w

  -- window w as a fetch finds it there
  abbrev pub page_at : ℕ → Page
  page_at w = record {
    name = at.blob.0;
    size = at.blob.1;
    window = w;
    bytes = bytes_at w;
    path = path_at w;
  }

  -- it verifies
  abbrev pub FitsAt : ℕ → Type 0
  FitsAt w = IsVerified (page_at w)

  -- the first of these windows that doesn't verify there
  pub record FirstBad (windows : Windows) (w : ℕ) : Type 0 where
    pub within : (windows.first ≤ w) × (w < windows.past)
    pub bad : ¬ FitsAt w
    pub before : (v : ℕ) → windows.first ≤ v → v < w → FitsAt v

  -- What the result of a line over these windows says of the device. The bytes are those of a read
  -- from one place on, and so many
  pub record SeenAt (windows : Windows) (off len : ℕ) (r : LineResult) : Type 0 where
    -- a mismatch is the first failure of the first window that doesn't verify
    pub first : (m : Mismatch) → r ≡ results.Mismatch m
        → (w : ℕ) × FirstBad windows w
        × (first_mismatch (page_at w) ≡ Some m)
    -- where no fetch failed, one that doesn't verify gives a mismatch
    pub found : ((f : ℕ) → ¬ (r ≡ results.ReadFault f)) → (w : ℕ) → FirstBad windows w
        → (m : Mismatch) × (r ≡ results.Mismatch m)
    -- the bytes of a read are those of the blob
    pub bytes : (v : List ℕ) → IsBytes v r
        → IsSomeAnd (bytes_of now_at at.blob.0)
        (λ all. v ≡ take (min (off + len) at.blob.1 - min off at.blob.1)
        (drop (min off at.blob.1) all))

-- the windows that a line is about, and the range that it reads, by its own act
pub record Range : Type 0 where
  pub windows : Windows
  pub off : ℕ
  pub len : ℕ

-- the range of an open, read or scan of a blob of this size; none of other lines
abbrev pub range_by : ℕ → Act → Option Range
range_by size (acts.Open slot root) = Some (record {
  windows = record { first = last_window size; past = last_window size + 1 };
  off = 0;
  len = 0;
})
range_by size (acts.Read slot off len) =
    Some (record { windows = read_windows size off len; off = off; len = len })
range_by size (acts.Scan slot) =
    Some (record { windows = all_windows size; off = 0; len = 0 })
range_by size act = None

-- the blob that a line is about: what its open found, or what its slot holds
abbrev pub blob_by : List CoreEvent → Act → Reply → Option Named
blob_by own (acts.Open slot root) (replies.Opened size) = Some (root, size)
blob_by own (acts.Read slot off len) replies.Reading = slot_holds slot own
blob_by own (acts.Scan slot) replies.Reading = slot_holds slot own
blob_by own act reply = None

-- the history has this as the own event of a request, after these events
pub record OwnEvent (h : History) (t : Request) (before : List CoreEvent) (e : CoreEvent) : Type 0
  where
    pub rest : List CoreEvent
    pub is : h.events ≡ before ++ e ∷ rest
    pub who : e.who ≡ t.0
    pub act : e.act ≡ t.1
    pub first : filter (λ x. same_who x.who t.0) before ≡ []

-- Served, its part on the device: what the result of a request says of it
abbrev pub SeenBy : Blocks → List Event → History → Request → LineResult → Type 0
SeenBy base told h t r =
    (before : List CoreEvent) (e : CoreEvent) (blob : Named) (range : Range)
    → OwnEvent h t before e
    → blob_by (events_of t.0.session before) t.1 e.reply ≡ Some blob
    → range_by blob.1 t.1 ≡ Some range
    → SeenAt base told h (record { before = before; own = e; blob = blob })
    range.windows range.off range.len r

-- the same of the first requests, one for each result
abbrev pub SeenByAll : Blocks → List Event → History → List Request → List LineResult → Type 0
SeenByAll base told h ts [] = Unit {0}
SeenByAll base told h [] (r ∷ rs) = ⊥
SeenByAll base told h (t ∷ ts) (r ∷ rs) = SeenBy base told h t r × SeenByAll base told h ts rs
