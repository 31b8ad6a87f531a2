-- What the disk had as each event ended, from one event to the next.
use Rattle.std.proofs.Common.{◌≡◌, ◌≤◌, ◌⊎◌, inl, inr, ℕ, Option, Some, None, List, [], ◌∷◌, ◌++◌, length, map, take, take_all, refl, sym, ap, ◌∙◌, subst, arith}
use Rattle.std.specs.Prelude.{IfSome, is_some, true, option_map}
use Rattle.std.proofs.lemmas.List.{take-append-le}
use Rattle.std.proofs.lemmas.Simd.{map-map}
use Rattle.spec_disk.specs.Disk.{Blocks, block}
use Rattle.spec_disk.specs.declared.event.Event.{Event}
use Rattle.spec_record.specs.Geometry.{block_at}
use Rattle.spec_record.specs.declared.geometry.Geometry.{Geometry}
use Rattle.spec_tree.specs.declared.Digest.{Digest}
use Rattle.spec_tree.specs.declared.blob.Blob.{Blob}
use Rattle.spec_image.proofs.MapLemmas.{map_has}
use Rattle.spec_image.specs.Blobs.{value_of}
use Rattle.spec_image.specs.Chain.{BlobRecord}
use Rattle.spec_image.specs.Metadata.{Metadata}
use Rattle.spec_image.specs.Stored.{blocks_of}
use Rattle.spec_image.specs.Volume.{blob_in, metadata_of}
use Rattle.spec_image.specs.WellFormed.{records_of}
use Rattle.spec_core.specs.History.{History, last_state}
use Rattle.spec_core.specs.State.{State, among, find}
use Rattle.spec_core.specs.declared.act.Act.{Act}
use Rattle.spec_core.specs.declared.event.CoreEvent.{CoreEvent}
use Rattle.spec_core.specs.declared.reply.Reply.{Reply}
use Rattle.spec_core.specs.declared.who.Who.{Who}
use Rattle.spec_crash.specs.Timing.{MayCall}
use Rattle.spec_seen.proofs.VersionLemmas.{Map}
use Rattle.spec_seen.specs.Held.{up_to}
use Rattle.spec_served.specs.Adds.{AreByLine}
use Rattle.spec_served.specs.Places.{blocks_by, image_blocks, image_version, publisher, record_blocks, record_version}
use Rattle.bv_device.specs.Told.{Disk, now_of}
use Rattle.bv_store.specs.Shown.{HasRecords}
use Rattle.bv_store.specs.Stored.{Grows, HasBlob, blocks_on}
use Rattle.bv_volume.specs.Contents.{HoldsIts, KeepsContents, contents_at}
use Rattle.bv_volume.specs.Events.{Does, Happens, event_of}
use Rattle.bv_volume.specs.Located.{Located}
use Rattle.bv_volume.specs.Seen.{HasTheMap, Seen}
use Rattle.bv_shared.specs.Moments.{BeganWhole, ContentsVerify, HasItsBlob, HasNow, IsSure, Moment, Moments, held_by, image_has, image_size, record_size, there_at}
use Rattle.bv_shared.specs.Since.{AreOfOneDisk, AreWithin, EndBy}

-- ---- what a volume says of its disk now

-- the record of a blob of the map, and where it lies
record Recorded (g : Geometry) (placed : List (Digest × List ℕ)) (image : Blocks) (r : Digest) (blob : Blob) : Type 0 where
  metadata : Metadata
  is : metadata_of image ≡ Some metadata
  geometry : metadata.super.geometry ≡ g
  found : BlobRecord
  there : blob_in metadata r ≡ Some found
  value : value_of found ≡ blob
  lies : find placed r ≡ Some (blocks_of found.extents)

recorded : (g : Geometry) (placed : List (Digest × List ℕ)) (m : Map) (image : Blocks) (r : Digest) (blob : Blob) → HasRecords g placed m image → find m r ≡ Some blob → Recorded g placed image r blob
recorded g placed m image r blob x has = go (blob_in x.metadata r) refl
  where
    known : option_map value_of (blob_in x.metadata r) ≡ Some blob
    known = sym (ap (λ (k : Map). find k r) x.same ∙ map_has (records_of x.metadata) r) ∙ has

    go : (o : Option BlobRecord) → blob_in x.metadata r ≡ o → Recorded g placed image r blob
    go None is = let never : None ≡ Some blob = sym (ap (λ (k : Option BlobRecord). option_map value_of k) is) ∙ known in absurd (cc)
    go (Some f) is =
        let both : Some (value_of f) ≡ Some blob = sym (ap (λ (k : Option BlobRecord). option_map value_of k) is) ∙ known in
        let its : value_of f ≡ blob = cc in
        record { metadata = x.metadata; is = x.is; geometry = x.geometry; found = f; there = is; value = its; lies = x.lie r ∙ ap (λ (k : Option BlobRecord). option_map (λ b. blocks_of b.extents) k) is }

-- where a blob lies by the disk at the opening and the events since
abbrev Lies : Geometry → Disk → History → Digest → List ℕ → Type 0
Lies g d h r places = map (block_at g) places ≡ blocks_by d.base d.trace h.events r (publisher r None h.events)

module _ (g : Geometry) (d : Disk) (h : History) (root : Digest) (blob : Blob) (places : List ℕ) (lies : Lies g d h root places) where
  abbrev now : Blocks
  now = now_of d

  -- what the disk has at these blocks
  same_there : there_at d.base d.trace h.events root ≡ contents_at g d places
  same_there = ap (map (block now)) (sym lies) ∙ map-map (block now) (block_at g) places

  held : (o : Option Who) → publisher root None h.events ≡ o → HoldsIts g d h places o → contents_at g d places ≡ held_by d.base d.trace h.events root o
  held None is holds =
      let here : map (block_at g) places ≡ blocks_by d.base d.trace h.events root None = lies ∙ ap (blocks_by d.base d.trace h.events root) is in
      holds ∙ sym (map-map (block d.base) (block_at g) places) ∙ ap (map (block d.base)) here
  held (Some who) is holds = holds

  verify : (o : Option Who) → publisher root None h.events ≡ o → ((w : Who) → publisher root None h.events ≡ Some w → HasBlob root blob (blocks_on g d places)) → is_some o ≡ true → ContentsVerify root blob.size blob.version (there_at d.base d.trace h.events root)
  verify None is sound some = absurd (cc)
  verify (Some w) is sound some = subst (ContentsVerify root blob.size blob.version) (sym same_there) (sound w is).sound

-- the disk's map `m` has a blob of the state's map `t`
module _ (g : Geometry) (placed : List (Digest × List ℕ)) (d : Disk) (h : History) (m t : Map)
    (lies : (r : Digest) (places : List ℕ) → find placed r ≡ Some places → Lies g d h r places) (records : HasRecords g placed m (now_of d))
    (sound : (r : Digest) (blob : Blob) (places : List ℕ) (w : Who) → publisher r None h.events ≡ Some w → find t r ≡ Some blob → find placed r ≡ Some places → HasBlob r blob (blocks_on g d places))
    (holds : (r : Digest) (places : List ℕ) → find placed r ≡ Some places → HoldsIts g d h places (publisher r None h.events)) where
  has_its : (root : Digest) (blob : Blob) → find t root ≡ Some blob → find m root ≡ find t root → HasItsBlob d.base d.trace h.events root blob
  has_its root blob has same =
      let k : Recorded g placed (now_of d) root blob = recorded g placed m (now_of d) root blob records (same ∙ has) in
      let places : List ℕ = blocks_of k.found.extents in
      let here : Lies g d h root places = lies root places k.lies in (
        ap (image_has root) k.is ∙ ap (λ (o : Option BlobRecord). is_some o) k.there,
        ap (image_size root) k.is ∙ ap record_size k.there ∙ ap (λ (b : Blob). b.size) k.value,
        ap (image_version root) k.is ∙ ap record_version k.there ∙ ap (λ (b : Blob). b.version) k.value,
        ap (image_blocks root) k.is ∙ ap (record_blocks k.metadata) k.there ∙ ap (λ (x : Geometry). map (block_at x) places) k.geometry ∙ here,
        same_there g d h root blob places here ∙ held g d h root blob places here (publisher root None h.events) refl (holds root places k.lies),
        verify g d h root blob places here (publisher root None h.events) refl (λ w is. sound root blob places w is has k.lies),
      )

-- ---- now

-- each blob of the map, by what was told
abbrev AllHave : Disk → Option Disk → History → ℕ → ℕ → Type 0
AllHave b told h next calls =
    IfSome told (λ d. (root : Digest) (blob : Blob) → find (last_state h next).map root ≡ Some blob → IsSure (last_state h next) root → HasItsBlob (now_of b) (take calls d.trace) h.events root blob)

-- the disk's map and the state's agree on such a blob
agree : (g : Geometry) (placed : List (Digest × List ℕ)) (s : State) (image : Blocks) (root : Digest) (k : HasTheMap g placed s image) → IsSure s root → find k.map root ≡ find s.map root
agree g placed s image root k sure = elim sure [
  | inl none ↦ ap (λ (x : Map). find x root) (k.going none)
  | inr unqueued ↦ k.agrees root unqueued
]

module _ (g : Geometry) (placed : List (Digest × List ℕ)) (h : History) (next calls : ℕ) where
  by_disks : (began told : Option Disk) → AreOfOneDisk began told → Located h g began told placed → (BeganWhole began h → IfSome told (λ d. HasTheMap g placed (last_state h next) (now_of d)))
      → IfSome told (λ d. (r : Digest) (blob : Blob) (places : List ℕ) (w : Who) → publisher r None h.events ≡ Some w → find (last_state h next).map r ≡ Some blob → find placed r ≡ Some places → HasBlob r blob (blocks_on g d places))
      → KeepsContents h g told placed → IfSome told (λ d. length d.trace ≡ calls)
      → BeganWhole began h → AreByLine [] h.events → IfSome began (λ b. AllHave b told h next calls)
  by_disks None told disk located shown sound contents counted whole lined = tt
  by_disks (Some b) None disk located shown sound contents counted whole lined = absurd disk
  by_disks (Some b) (Some d) disk located shown sound contents counted whole lined =
      let lies : (r : Digest) (places : List ℕ) → find placed r ≡ Some places → Lies g d h r places =
      λ r places is. subst (λ (x : Blocks). map (block_at g) places ≡ blocks_by x d.trace h.events r (publisher r None h.events)) (sym disk) (located whole.0 lined r places is) in
      let all : take calls d.trace ≡ d.trace = take_all calls d.trace (omega (arith, counted)) in
      let m : HasTheMap g placed (last_state h next) (now_of d) = shown whole in
      λ root blob has sure.
      subst (λ (ts : List Event). HasItsBlob (now_of b) ts h.events root blob) (sym all)
      (subst (λ (x : Blocks). HasItsBlob x d.trace h.events root blob) disk
      (has_its g placed d h m.map (last_state h next).map lies m.records sound (contents lined) root blob has (agree g placed (last_state h next) (now_of d) root m sure)))

-- a volume has each blob of the map once its last event has ended
pub moment_now : (v : Seen) → HasNow v → AreOfOneDisk v.store.began v.store.told → Moment v.store.began v.store.told v.history v.next v.history.events v.store.calls
moment_now v has disk = by_disks v.store.geometry v.store.placed v.history v.next v.store.calls v.store.began v.store.told disk has.0 has.1 has.2 has.3 has.4

-- ---- from one event to the next

-- the events so far have this one among them, or it is the last
split_last : (es : List CoreEvent) (e : CoreEvent) (before : List CoreEvent) (x : CoreEvent) (rest : List CoreEvent) → es ++ e ∷ [] ≡ before ++ x ∷ rest
    → ((es ≡ before) × (e ≡ x)) ⊎ ((more : List CoreEvent) × (es ≡ before ++ x ∷ more))
split_last [] e [] x rest is = inl (refl, cc)
split_last [] e (b ∷ []) x rest is = absurd (cc)
split_last [] e (b ∷ c ∷ before) x rest is = absurd (cc)
split_last (y ∷ es) e [] x rest is = let head : y ≡ x = cc in inr (es, ap (λ (z : CoreEvent). z ∷ es) head)
split_last (y ∷ es) e (b ∷ before) x rest is =
    let head : y ≡ b = cc in
    let tail : es ++ e ∷ [] ≡ before ++ x ∷ rest = cc in
    elim (split_last es e before x rest tail) [
      | inl last ↦ inl ((λ i. head i ∷ last.0 i), last.1)
      | inr among ↦ inr (among.0, λ i. head i ∷ among.1 i)
    ]

ended : (n : ℕ) (before : List CoreEvent) (x : CoreEvent) (more : List CoreEvent) → EndBy n (before ++ x ∷ more) → x.calls ≤ n
ended n [] x more k = k.0
ended n (b ∷ before) x more k = ended n before x more k.1

-- what the device had told by then stays as it goes on
moment_stays : (began o new : Option Disk) (P : Disk → List Event → Type 0) (h : History) (next : ℕ) (events : List CoreEvent) (calls : ℕ) → Grows o new P → IfSome o (λ d. calls ≤ length d.trace) → Moment began o h next events calls → Moment began new h next events calls
moment_stays began None new P h next events calls grows within k = subst (λ (x : Option Disk). Moment began x h next events calls) (sym grows) k
moment_stays began (Some d) new P h next events calls grows within k =
    subst (λ (x : Option Disk). Moment began x h next events calls) (sym grows.1)
    (λ whole lined. subst (λ (ts : List Event). IfSome began (λ b. (root : Digest) (blob : Blob) → find (last_state (up_to h events) next).map root ≡ Some blob → IsSure (last_state (up_to h events) next) root → HasItsBlob (now_of b) ts events root blob))
    (sym (take-append-le calls d.trace grows.0 within)) (k whole lined))

within_then : (o : Option Disk) (before : List CoreEvent) (x : CoreEvent) (more : List CoreEvent) → IfSome o (λ d. EndBy (length d.trace) (before ++ x ∷ more)) → IfSome o (λ d. x.calls ≤ length d.trace)
within_then None before x more k = tt
within_then (Some d) before x more k = ended (length d.trace) before x more k

module _ (v w : Seen) (within : AreWithin v) (who : Who) (act : Act) (reply : Reply) (happens : Happens v w who act reply) where
  abbrev event : CoreEvent
  event = event_of who act reply w.store.calls

  -- those of the events so far
  abbrev OldMoment : List CoreEvent → CoreEvent → Type 0
  OldMoment before x = Moment w.store.began w.store.told w.history w.next (before ++ x ∷ []) x.calls

  old_moment : Moments v → (before : List CoreEvent) (x : CoreEvent) (more : List CoreEvent) → v.history.events ≡ before ++ x ∷ more → OldMoment before x
  old_moment k before x more is =
      let so : IfSome v.store.told (λ d. x.calls ≤ length d.trace) =
      within_then v.store.told before x more (subst (λ (es : List CoreEvent). IfSome v.store.told (λ d. EndBy (length d.trace) es)) is within) in
      subst (λ (b : Option Disk). Moment b w.store.told w.history w.next (before ++ x ∷ []) x.calls) (sym happens.began)
      (subst (λ (n : ℕ). Moment v.store.began w.store.told w.history n (before ++ x ∷ []) x.calls) (sym happens.next)
      (subst (λ (h : History). Moment v.store.began w.store.told h v.next (before ++ x ∷ []) x.calls) (sym happens.history)
      (moment_stays v.store.began v.store.told w.store.told (λ d more. (more ≡ []) ⊎ MayCall act) v.history v.next (before ++ x ∷ []) x.calls happens.told so (k before x more is))))

  pub each_more : Moments v → Moment w.store.began w.store.told w.history w.next w.history.events w.store.calls → Moments w
  each_more k now before x rest is =
      let so : w.history.events ≡ v.history.events ++ event ∷ [] = ap (λ (h : History). h.events) happens.history in
      elim (split_last v.history.events event before x rest (sym so ∙ is)) [
        | inl last ↦
            let all : w.history.events ≡ before ++ x ∷ [] = so ∙ (λ i. last.0 i ++ last.1 i ∷ []) in
            let calls : w.store.calls ≡ x.calls = ap (λ (e : CoreEvent). e.calls) last.1 in
            subst (λ (n : ℕ). Moment w.store.began w.store.told w.history w.next (before ++ x ∷ []) n) calls
            (subst (λ (es : List CoreEvent). Moment w.store.began w.store.told w.history w.next es w.store.calls) all now)
        | inr among ↦ old_moment k before x among.0 among.1
      ]

-- with a reply or without
pub moments_by : (v w : Seen) → AreWithin v → (who : Who) (act : Act) (q : Option Reply) → Does v w who act q → HasNow w → AreOfOneDisk w.store.began w.store.told → Moments v → Moments w
moments_by v w within who act None does has disk k = subst Moments (sym does) k
moments_by v w within who act (Some reply) does has disk k = each_more v w within who act reply does k (moment_now w has disk)

-- as the mount began
pub moments_fresh : (v : Seen) → v.history.events ≡ [] → Moments v
moments_fresh v fresh before x rest is = none before (sym fresh ∙ is) where
  none : (before : List CoreEvent) → [] ≡ before ++ x ∷ rest → Moment v.store.began v.store.told v.history v.next (before ++ x ∷ []) x.calls
  none [] is = absurd (cc)
  none (b ∷ before) is = absurd (cc)
