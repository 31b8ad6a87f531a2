-- The parts that an opening reads of an image, put together.
use Rattle.std.proofs.Common.{◌≡◌, ℕ, length, Option, Some, None, IfSome, Result, Ok, Err, ap, sym, ◌∙◌, subst}
use Rattle.std.specs.Prelude.{IsErrAnd}
use Rattle.spec_disk.specs.Disk.{Blocks, block}
use Rattle.spec_record.specs.declared.geometry.Geometry.{Geometry}
use Rattle.spec_record.specs.declared.superblock.Super.{Super}
use Rattle.spec_record.specs.Geometry.{IsGeometry}
use Rattle.spec_image.specs.After.{after}
use Rattle.bv_device.specs.Seen.{Seen}
use Rattle.bv_device.specs.Reads.{Reads}
use Rattle.bv_device.proofs.ReadsLemmas.{Reads-nothing, Reads-weaker, Reads-append, Sees-length}
use Rattle.bv_replay.specs.declared.replay.Replay.{Replay}
use Rattle.bv_replay.specs.declared.replay_fault.ReplayFault.{ReplayFault}
use Rattle.bv_replay.specs.declared.replay_fault.ReplayFault.TheVariants as scan
use Rattle.bv_replay.specs.Found as found
use Rattle.bv_replay.specs.Found.{Finds, IsReplayOf, FitsGeometry}
use Rattle.bv_txn.specs.Metas.{MetaBlocks}
use Rattle.spec_inspect.specs.declared.open_fault.OpenFault.{OpenFault}
use Rattle.spec_inspect.specs.declared.open_fault.OpenFault.TheVariants as opening
use Rattle.spec_inspect.specs.Faults.{or_fault}
use Rattle.spec_inspect.specs.Readable.{info_or_why, or_moved, readable}
use Rattle.bv_mount.specs.declared.opening.Opening.{Opening}
use Rattle.bv_mount.specs.Reports.{reported, reported_by, scanned}
use Rattle.bv_mount.specs.Opens.{Refuses, AnswersSuper, IsFirst, IsSpelled, AnswersJournal, AnswersMeta, IsRead, IsLawful, kept_super}
use Rattle.bv_mount.specs.Inspects.{AnswersOpen}
use Rattle.bv_mount.proofs.OpenLemmas.{moved_same, refuse_moved, readable_all, kept_is}

-- the info of an image whose replay was read
pub info_read : (g : Geometry) (j : Blocks) (r : Replay) (is : IsReplayOf g j r) → info_or_why g j ≡ Ok is.info
info_read g j r is = ap (or_fault (λ f. opening.Replay f)) is.read

-- what a scan saw, as an answer of an opening
pub journal_reads : (g : Geometry) (r : Result Replay ReplayFault) (s : Result Replay OpenFault) (old new : Seen) → s ≡ scanned r → Reads (found.reported r) old new (λ j. Finds g j r)
    → Reads (reported s) old new (AnswersJournal g s)
journal_reads g r s old new is reads = subst (λ (x : Result Replay OpenFault). Reads (reported x) old new (AnswersJournal g x)) (sym is) (as_scanned r reads) where
  as_scanned : (r : Result Replay ReplayFault) → Reads (found.reported r) old new (λ j. Finds g j r) → Reads (reported (scanned r)) old new (AnswersJournal g (scanned r))
  as_scanned (Ok v) reads = reads
  as_scanned (Err (scan.Info f)) reads = Reads-weaker None old new _ _ reads (λ j is. ap (or_fault (λ x. opening.Replay x)) is)
  as_scanned (Err scan.NoMemory) reads = reads
  as_scanned (Err (scan.DeviceFault n)) reads = reads

-- what was read of an image of so many blocks
pub record Parts (n : ℕ) (s0 : Super) (r : Replay) (m : MetaBlocks) (j : Blocks) : Type 0 where
  pub count : length j ≡ n
  pub first : IsFirst j s0
  pub journal : IsReplayOf s0.geometry j r
  pub meta : m.blocks ≡ after s0.geometry j

pub parts_read : (old one two new : Seen) (s0 : Super) (r : Replay) (m : MetaBlocks)
    → IfSome old.told (λ d. length d.base ≡ old.block_count)
    → Reads None old one (AnswersSuper (Ok s0)) → Reads None one two (AnswersJournal s0.geometry (Ok r)) → Reads None two new (AnswersMeta s0.geometry r (Ok m))
    → Reads None old new (Parts old.block_count s0 r m)
parts_read old one two new s0 r m told first journal meta =
    let counted : Reads None old one (λ j. (length j ≡ old.block_count) × IsFirst j s0) =
    Reads-append None old old one (λ j. length j ≡ old.block_count) (AnswersSuper (Ok s0)) _ (Reads-nothing old (λ j. length j ≡ old.block_count) (Sees-length old told)) first (λ j a b. (a, b)) in
    let scanned : Reads None old two (λ j. (length j ≡ old.block_count) × IsFirst j s0 × IsReplayOf s0.geometry j r) =
    Reads-append None old one two (λ j. (length j ≡ old.block_count) × IsFirst j s0) (AnswersJournal s0.geometry (Ok r)) _ counted journal (λ j a b. (a.0, a.1, b)) in
    Reads-append None old two new (λ j. (length j ≡ old.block_count) × IsFirst j s0 × IsReplayOf s0.geometry j r) (AnswersMeta s0.geometry r (Ok m)) _ scanned meta
    (λ j a b. record { count = a.0; first = a.1; journal = a.2; meta = b a.2.entries })

pub parts_are_read : (n : ℕ) (s0 : Super) (r : Replay) (m : MetaBlocks) (s : Super) (j : Blocks) → Parts n s0 r m j → Ok s ≡ or_moved (kept_super s0.geometry (block m.blocks 0) n) → IsRead j s m r
parts_are_read n s0 r m s j p is =
    let k = kept_is s0.geometry (block m.blocks 0) n s is in
    record {
      head = subst (λ (g : Geometry). IsSpelled g (block j 0)) (sym k.geometry) p.first.head;
      replay = subst (λ (g : Geometry). IsReplayOf g j r) (sym k.geometry) p.journal;
      readable_is = readable_all j s0 p.first.read p.journal.info (info_read s0.geometry j r p.journal) s (sym (moved_same s0.geometry j m.blocks n p.meta p.count) ∙ sym is);
      meta = p.meta ∙ ap (λ (g : Geometry). after g j) (sym k.geometry);
    }

pub parts_are_lawful : (n : ℕ) (s0 : Super) (r : Replay) (m : MetaBlocks) (s : Super) → Ok s ≡ or_moved (kept_super s0.geometry (block m.blocks 0) n)
    → IsGeometry s0.geometry → m.geometry ≡ s0.geometry → IsSpelled s.geometry (block m.blocks 0) → FitsGeometry s0.geometry r → IsLawful s m r
parts_are_lawful n s0 r m s is limits geometry left within =
    let k = kept_is s0.geometry (block m.blocks 0) n s is in
    record {
      limits = subst IsGeometry (sym k.geometry) limits;
      geometry = geometry ∙ sym k.geometry;
      counts = k.counts;
      left = left;
      within = subst (λ (g : Geometry). FitsGeometry g r) (sym k.geometry) within;
    }

-- a step stopped it
pub open_stopped : (r : Result Opening OpenFault) (f : OpenFault) (old new : Seen) → IsErrAnd r (λ y. y ≡ f) → Reads (reported_by f) old new (λ j. Refuses (readable j) f)
    → Reads (reported r) old new (AnswersOpen r)
open_stopped (Ok o) f old new is reads = absurd is
open_stopped (Err y) f old new is reads = subst (λ (x : OpenFault). Reads (reported_by x) old new (λ j. Refuses (readable j) x)) (sym is) reads

only_moved : (o : Option Super) (f : OpenFault) → Err f ≡ or_moved o → f ≡ opening.Moved
only_moved None f e = cc
only_moved (Some s) f e = absurd cc

-- the last step stopped it: the superblock has moved
pub moved_stopped : (r : Result Opening OpenFault) (f : OpenFault) (old new : Seen) (s0 : Super) (p : Replay) (m : MetaBlocks) → IsErrAnd r (λ y. y ≡ f)
    → Err f ≡ or_moved (kept_super s0.geometry (block m.blocks 0) old.block_count) → Reads None old new (Parts old.block_count s0 p m)
    → Reads (reported r) old new (AnswersOpen r)
moved_stopped r f old new s0 p m stopped is reads =
    let f_is : f ≡ opening.Moved = only_moved (kept_super s0.geometry (block m.blocks 0) old.block_count) f is in
    let moved : Reads None old new (λ j. Refuses (readable j) opening.Moved) =
    Reads-weaker None old new (Parts old.block_count s0 p m) _ reads (λ j parts.
    refuse_moved j s0 parts.first.read parts.journal.info (info_read s0.geometry j p parts.journal) opening.Moved
    (sym (moved_same s0.geometry j m.blocks old.block_count parts.meta parts.count) ∙ sym is ∙ ap (λ (x : OpenFault). Err x) f_is)) in
    open_stopped r f old new stopped (subst (λ (x : OpenFault). Reads (reported_by x) old new (λ j. Refuses (readable j) x)) (sym f_is) moved)
