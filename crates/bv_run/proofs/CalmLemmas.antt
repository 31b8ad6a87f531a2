-- What the sessions' disk is where the disk was ready.
use Rattle.std.proofs.Common.{◌≡◌, ℕ, List, [], All, Option, None, Some, arith, sym, subst}
use Rattle.std.specs.Prelude.{IsSomeAnd}
use Rattle.spec_disk.specs.Disk.{Blocks}
use Rattle.spec_record.specs.declared.geometry.Geometry.{Geometry}
use Rattle.spec_tree.specs.declared.Digest.{Digest}
use Rattle.spec_tree.specs.declared.blob.Blob.{Blob}
use Rattle.spec_image.specs.Volume.{blobs, IsSound, IsWhole}
use Rattle.spec_image.proofs.SoundLemmas.{sound_whole}
use Rattle.spec_headline.specs.Run.{HasSoundBlobs, HasWholeBlobs}
use Rattle.bv_device.specs.Told.{Disk, now_of}
use Rattle.bv_run.specs.Complete.{IsReadyDisk}
use Rattle.bv_run.specs.Told.{IsOpening, Premises}

-- ---- a disk whose blobs are sound

-- has each of them whole
all_whole : (base : Blocks) → HasSoundBlobs base → HasWholeBlobs base
all_whole base = by (blobs base) where
  by : (o : Option (List (Digest × Blob))) → IsSomeAnd o (λ held. All (λ entry. IsSound base entry.0) held) → IsSomeAnd o (λ held. All (λ entry. IsWhole base entry.0) held)
  by None sound = absurd sound
  by (Some held) sound = λ n e low. sound_whole base _ (sound n e low)

-- an image with no blob has each sound
none_sound : (base : Blocks) → blobs base ≡ Some [] → HasSoundBlobs base
none_sound base empty = subst (λ (o : Option (List (Digest × Blob))). IsSomeAnd o (λ held. All (λ entry. IsSound base entry.0) held)) (sym empty) (λ n e low. absurd (omega arith))

-- a ready disk is one that a run needs
pub ready_is : (made : Option Geometry) (blocks : ℕ) (d : Disk) → IsReadyDisk made blocks d → Premises made d
ready_is None blocks d ready = (ready.0, all_whole (now_of d) ready.1)
ready_is (Some g) blocks d ready = tt

-- and so is the sessions' disk one of sound blobs
pub opening_sound : (made : Option Geometry) (blocks : ℕ) (d opening : Disk) → IsReadyDisk made blocks d → IsOpening made d opening → HasSoundBlobs (now_of opening)
opening_sound None blocks d opening ready is = subst (λ (x : Disk). HasSoundBlobs (now_of x)) (sym is) ready.1
opening_sound (Some g) blocks d opening ready is = none_sound (now_of opening) is.2.empty
