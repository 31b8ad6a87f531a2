-- How many slots hold each root, as the table of open blobs says.
use Rattle.std.specs.Prelude.{◌≡◌, ℕ, Option, Some, None}
use Rattle.slab.specs.Slab.{Slab, get}
use Rattle.spec_tree.specs.declared.Digest.{Digest}
use Rattle.spec_core.specs.State.{find}
use Rattle.bv_handles.specs.declared.holders.Holders.{Holders}
use Rattle.bv_handles.specs.declared.holders.Open.{Open}

-- the number that stands in what a key has
abbrev pub slots_in : Option Open → ℕ
slots_in None = 0
slots_in (Some blob) = blob.slots

-- the number that stands under a key, if there is one
abbrev pub slots_at : Slab Open → Option ℕ → ℕ
slots_at table None = 0
slots_at table (Some key) = slots_in (get table key)

-- the number of slots that hold a root
abbrev pub counted : Holders → Digest → ℕ
counted h r = slots_at h.blobs (find h.keys.entries r)

-- what stands under the key of a root is this root's
abbrev pub Stands : Holders → Type 0
Stands h = (r : Digest) (key : ℕ) → find h.keys.entries r ≡ Some key
    → (n : ℕ) × (get h.blobs key ≡ Some (record { root = r; slots = n }))
