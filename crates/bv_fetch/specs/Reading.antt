-- Runs that only read from what keeps blobs.
use Rattle.std.specs.Prelude.{◌≡◌, ℕ, List, Result, All, Contains, IfSome}
use Rattle.spec_disk.specs.Images.{IsSettled}
use Rattle.spec_faults.specs.Faults.{CountsFaults}
use Rattle.spec_rest.specs.Rest.{Map}
use Rattle.bv_device.specs.Told.{Disk}
use Rattle.bv_store.specs.Stored.{Stored, blocks_in}

-- nothing has changed but the count of faults, which rose where the answer is an error
pub record OnlyReads {T E : Type 0} (result : Result T E) (old new : Stored)
    (Both New : Map → Map → Type 0) (Held Hold : ℕ → Type 0) : Type 0 where
  pub rest : new ≡ record old { faults = new.faults }
  pub faults : CountsFaults old.faults new.faults result
  pub both : (a b : Map) → Both a b → New a b
  pub held : (b : ℕ) → Hold b → Held b

-- where the device tells, and it was settled when the mount began: P holds of the disk
abbrev pub SeesNow : Stored → (Disk → Type 0) → Type 0
SeesNow s P = IfSome s.told (λ d. IfSome s.began (λ b. IsSettled b.trace) → P d)

-- each of these data blocks is one of a blob of the map
abbrev pub AreOfBlobs : Stored → List ℕ → Type 0
AreOfBlobs s places = All (λ b. Contains (blocks_in s.placed) b) places
