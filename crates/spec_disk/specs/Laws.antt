-- The words in which the laws of the disk are said.
use Rattle.std.specs.Prelude.{◌≡◌, ◌⊎◌, ◌≤◌, ℕ, List, [], ◌∷◌, ◌++◌, length, true, false, Contains, All}
use Rattle.spec_disk.specs.declared.event.Event.{Event}
use Rattle.spec_disk.specs.declared.event.Event.TheVariants.{Write, Sync}
use Rattle.spec_disk.specs.Disk.{Blocks, block, sector, has_sync}
use Rattle.spec_disk.specs.Images.{written_to, candidates}

-- q is empty, or its last event is an Ok sync
abbrev pub EndsSynced : List Event → Type 0
EndsSynced q = (q ≡ []) ⊎ ((r : List Event) × (q ≡ r ++ Sync true ∷ []))

-- q is a prefix of p that ends with an Ok sync or is empty, and no longer one ends so
pub record IsSyncedPart (p q : List Event) : Type 0 where
  pub prefix : (r : List Event) × (p ≡ q ++ r)
  pub ends : EndsSynced q
  pub longest : (a r : List Event) → p ≡ a ++ r → EndsSynced a → length a ≤ length q

-- j is an image of p, but that a sector of block `at` may be that of these bytes
pub record IsImageWith (base : Blocks) (p : List Event) (at : ℕ) (bytes : List ℕ) (j : Blocks)
    : Type 0 where
  pub as_long : length j ≡ length base
  pub each_sector : (b s : ℕ) → Contains (candidates base p b s) (sector (block j b) s)
      ⊎ ((b ≡ at) × (sector (block j b) s ≡ sector bytes s))

-- a write to block b failed, and neither a write to it nor an Ok sync came after
pub record FailedLast (p : List Event) (b : ℕ) : Type 0 where
  pub before : List Event
  pub bytes : List ℕ
  pub after : List Event
  pub is : p ≡ before ++ Write b bytes false ∷ after
  pub no_sync : has_sync after ≡ false
  pub no_write : written_to b after ≡ []

-- each of these blocks has 8,192 bytes
abbrev pub AreWhole : Blocks → Type 0
AreWhole blocks = All (λ bytes. length bytes ≡ 8192) blocks
