-- How a scan ends: stopped by a step, by the fault of the info block, or with a replay.
use Rattle.std.proofs.Common.{◌≡◌, ℕ, List, Option, None, Result, Ok, Err, ap, sym, subst, ◌∙◌}
use Rattle.std.specs.Prelude.{IsErrAnd}
use Rattle.spec_disk.specs.Disk.{Blocks, block}
use Rattle.spec_record.specs.declared.geometry.Geometry.{Geometry}
use Rattle.spec_record.specs.declared.info.Info.{Info}
use Rattle.spec_record.specs.declared.info_fault.InfoFault.{InfoFault}
use Rattle.spec_record.specs.Geometry.{ring_slots, info_at}
use Rattle.spec_record.specs.Info.{info_or_fault}
use Rattle.spec_record.specs.Laws.{SpellsInfo}
use Rattle.bv_device.specs.Seen.{Seen}
use Rattle.bv_device.specs.Reads.{OnlyReads, Reads}
use Rattle.bv_device.proofs.ReadsLemmas.{Sees-all}
use Rattle.bv_replay.specs.declared.replay.Replay.{Replay}
use Rattle.bv_replay.specs.declared.replay_fault.ReplayFault.{ReplayFault}
use Rattle.bv_replay.specs.declared.replay_fault.ReplayFault.TheVariants as faults
use Rattle.bv_replay.specs.Found.{reported, reported_by, Finds}
use Rattle.bv_replay.specs.Slots.{Tells, IsOutside}
use Rattle.bv_replay.proofs.ReadLemmas.{tells_sees}

outside_finds : (g : Geometry) (image : Blocks) (f : ReplayFault) (r : Result Replay ReplayFault) → r ≡ Err f → IsOutside f → Finds g image r
outside_finds g image f (Ok v) is outside = absurd cc
outside_finds g image (faults.Info x) (Err (faults.Info y)) is outside = absurd outside
outside_finds g image faults.NoMemory (Err (faults.Info y)) is outside = absurd cc
outside_finds g image (faults.DeviceFault n) (Err (faults.Info y)) is outside = absurd cc
outside_finds g image f (Err faults.NoMemory) is outside = tt
outside_finds g image f (Err (faults.DeviceFault n)) is outside = tt

err_is : (r : Result Replay ReplayFault) (f : ReplayFault) → IsErrAnd r (λ y. y ≡ f) → r ≡ Err f
err_is (Ok v) f is = absurd is
err_is (Err y) f is = ap (λ (x : ReplayFault). Err x) is

-- what holds of the image that is told was seen
pub told_reads : (reported : Option ℕ) (old new : Seen) (P : Blocks → Type 0) → OnlyReads reported old new → ((image : Blocks) → Tells old image → P image) → Reads reported old new P
told_reads reported old new P only told = record { only = only; now = tells_sees old P told }

-- a step stopped it
pub scan_stopped : (g : Geometry) (r : Result Replay ReplayFault) (f : ReplayFault) (old new : Seen) → IsErrAnd r (λ y. y ≡ f) → OnlyReads (reported_by f) old new → IsOutside f
    → Reads (reported r) old new (λ image. Finds g image r)
scan_stopped g r f old new stopped only outside =
    let is : r ≡ Err f = err_is r f stopped in
    record {
      only = subst (λ (o : Option ℕ). OnlyReads o old new) (ap (reported {T = Replay}) (sym is)) only;
      now = Sees-all old (λ image. Finds g image r) (λ image. outside_finds g image f r is outside);
    }

-- the info block stopped it
pub info_stopped : (g : Geometry) (r : Result Replay ReplayFault) (x : InfoFault) (old new : Seen) (bytes : List ℕ) (slots : ℕ) → IsErrAnd r (λ y. y ≡ faults.Info x) → OnlyReads None old new
    → ((image : Blocks) → Tells old image → bytes ≡ block image (info_at g)) → slots ≡ ring_slots g → Err x ≡ info_or_fault bytes slots → Reads (reported r) old new (λ image. Finds g image r)
info_stopped g r x old new bytes slots stopped only read ring fault =
    let is : r ≡ Err (faults.Info x) = err_is r (faults.Info x) stopped in
    record {
      only = subst (λ (o : Option ℕ). OnlyReads o old new) (ap (reported {T = Replay}) (sym is)) only;
      now = tells_sees old (λ image. Finds g image r) (λ image tells.
          subst (λ (a : Result Replay ReplayFault). Finds g image a) (sym is)
          (ap (λ (b : List ℕ). info_or_fault b (ring_slots g)) (sym (read image tells)) ∙ ap (info_or_fault bytes) (sym ring) ∙ sym fault));
    }

-- what was spelled by the block that was read
pub spelled_there : (g : Geometry) (image : Blocks) (i : Info) (bytes : List ℕ) (slots : ℕ) → bytes ≡ block image (info_at g) → slots ≡ ring_slots g → SpellsInfo bytes slots i
    → SpellsInfo (block image (info_at g)) (ring_slots g) i
spelled_there g image i bytes slots bytes_are slots_are spelled =
    subst (λ (b : List ℕ). SpellsInfo b (ring_slots g) i) bytes_are (subst (λ (n : ℕ). SpellsInfo bytes n i) slots_are spelled)
