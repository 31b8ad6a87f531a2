-- The state of the core (this project's profile). Maps and sets are lists in the order of their
-- keys.
use Rattle.std.specs.Prelude.{ℕ, Bool, cond, not, ◌||◌, List, length, filter, Option, None}
use Rattle.std.specs.List.{list_any, count_by}
use Rattle.std.specs.BTreeMap.{is_at}
use Rattle.std.specs.Map.{lookup}
use Rattle.spec_tree.specs.declared.Digest.{Digest}
use Rattle.spec_tree.specs.Order.{digest_cmp, same_digest}
use Rattle.spec_core.specs.Order.{place_cmp}
use Rattle.spec_tree.specs.declared.blob.Blob.{Blob}
use Rattle.spec_core.specs.declared.map_change.MapChange.{MapChange}
use Rattle.spec_core.specs.declared.place.Place.{Place}

-- what the rules know of a mount between two events
pub record State : Type 0 where
  -- root to size and version, for every blob of the opening or published since, and not purged; an
  -- entry that failed leaves it as it was
  pub map : List (Digest × Blob)
  -- the publications and purges of this mount
  pub log : List MapChange
  -- how many of the log a sync has made durable
  pub durable : ℕ
  -- which root each (session, slot) holds
  pub slots : List (Place × Digest)
  -- unlinked roots that some slot holds
  pub leaving : List Digest
  -- unlinked roots that no slot holds, in the order in which they came there
  pub queue : List Digest
  -- the adds under way: root to size
  pub adds : List (Digest × ℕ)
  -- nothing, or the fault of the write or sync that failed
  pub stopped : Option ℕ
  -- the number of the next entry of the journal, which no event tells
  pub next : ℕ

-- what a map from roots has at a root
abbrev pub find : {X : Type 0} → List (Digest × X) → Digest → Option X
find entries r = lookup (is_at (digest_cmp r)) entries

-- the root that a place holds
abbrev pub held : List (Place × Digest) → Place → Option Digest
held slots p = lookup (is_at (place_cmp p)) slots

-- whether a root is among these
abbrev pub among : List Digest → Digest → Bool
among roots r = list_any (same_digest r) roots

-- how many slots hold a root
abbrev pub holders : List (Place × Digest) → Digest → ℕ
holders slots r = count_by (λ e. same_digest r e.1) slots

-- whether some slot holds a root
abbrev pub is_held : List (Place × Digest) → Digest → Bool
is_held slots r = list_any (λ e. same_digest r e.1) slots

-- whether a root was unlinked and isn't purged
abbrev pub is_unlinked : State → Digest → Bool
is_unlinked s r = among s.leaving r || among s.queue r

-- the blob at a root that is present: in the map, and neither leaving nor queued
abbrev pub present : State → Digest → Option Blob
present s r = cond (is_unlinked s r) None (find s.map r)

-- how many roots are present
abbrev pub count_present : State → ℕ
count_present s = length (filter (λ e. not (is_unlinked s e.0)) s.map)
