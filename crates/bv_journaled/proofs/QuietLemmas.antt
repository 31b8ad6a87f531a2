-- Events that write to no block of a blob keep it.
use Rattle.std.proofs.Common.{◌≡◌, ◌≢◌, ℕ, ◌+◌, ◌%◌, ◌<◌, ◌≤◌, List, [], ◌∷◌, ◌++◌, length, get_or, true, false, cond, refl, ap, sym, ◌∙◌, subst, inl, inr, arith, append_assoc}
use Rattle.std.proofs.lemmas.List.{append-nil}
use Rattle.std.proofs.lemmas.List.Elements.{All-contains_itself}
use Rattle.std.proofs.lemmas.Bool.Decides.{eqb_tells}
use Rattle.std.specs.Prelude.{Contains}
use Rattle.spec_tree.specs.Tree.{root_of}
use Rattle.spec_disk.specs.declared.event.Event.{Event}
use Rattle.spec_disk.specs.declared.event.Event.TheVariants.{Write, Sync}
use Rattle.spec_disk.specs.Disk.{Blocks, block, now_after, synced_after}
use Rattle.spec_disk.specs.Images.{written_to, pending}
use Rattle.spec_disk.proofs.EventLemmas.{written_to-append, pending-push, pending-push_sync, pending-push_failed_sync, synced_after-push, synced_after-push_sync}
use Rattle.spec_disk.proofs.ImageLemmas.{image-quiet, image-now}
use Rattle.spec_record.specs.declared.geometry.Geometry.{Geometry}
use Rattle.spec_record.specs.declared.info.Info.{Info}
use Rattle.spec_record.specs.Geometry.{IsGeometry, meta_blocks, ring_slots, info_at, slot_at, block_at}
use Rattle.spec_record.specs.Info.{info_bytes}
use Rattle.spec_image.specs.Chain.{BlobRecord}
use Rattle.spec_image.specs.Stored.{blocks_of}
use Rattle.spec_image.proofs.VolumeLemmas.{bytes_same}
use Rattle.spec_rest.specs.Rest.{Map}
use Rattle.bv_device.specs.Told.{Disk, disk_with}
use Rattle.bv_device.specs.Plan.{a_sync, writes}
use Rattle.bv_journal.specs.Plans.{ring_writes, info_plan, checkpoint_plan}
use Rattle.bv_journal.specs.Rests.{synced}
use Rattle.bv_journaled.specs.Kept.{records_at, IsOf, IsKept, KeepsMap}

-- ---- a block to which nothing is written

abbrev Stays : Blocks → List Event → List Event → ℕ → Type 0
Stays base p q x = (pending (p ++ q) x ≡ []) × (block (synced_after base (p ++ q)) x ≡ block (synced_after base p) x)

one_event : (base : Blocks) (p : List Event) (e : Event) (x : ℕ) → written_to x (e ∷ []) ≡ [] → pending p x ≡ [] → Stays base p (e ∷ []) x
one_event base p (Write at bytes ok) x none quiet = (
  pending-push p (Write at bytes ok) x refl ∙ ap (λ (ws : Blocks). ws ++ written_to x (Write at bytes ok ∷ [])) quiet ∙ none,
  ap (λ (b : Blocks). block b x) (synced_after-push base p (Write at bytes ok) refl),
)
one_event base p (Sync true) x none quiet = (
  pending-push_sync p x,
  ap (λ (b : Blocks). block b x) (synced_after-push_sync base p) ∙ image-quiet base p (now_after base p) x (image-now base p) quiet,
)
one_event base p (Sync false) x none quiet = (
  pending-push_failed_sync p x ∙ quiet,
  ap (λ (b : Blocks). block b x) (synced_after-push base p (Sync false) refl),
)

both_none : (xs ys : Blocks) → xs ++ ys ≡ [] → (xs ≡ []) × (ys ≡ [])
both_none [] ys e = (refl, e)
both_none (x ∷ xs) ys e = absurd cc

pub parts_none : (x : ℕ) (p q : List Event) → written_to x (p ++ q) ≡ [] → (written_to x p ≡ []) × (written_to x q ≡ [])
parts_none x p q none = both_none (written_to x p) (written_to x q) (sym (written_to-append x p q) ∙ none)

pub quiet_stays : (base : Blocks) (p q : List Event) (x : ℕ) → written_to x q ≡ [] → pending p x ≡ [] → Stays base p q x
quiet_stays base p [] x none quiet =
    let same : p ++ [] ≡ p = append-nil p in
    (subst (λ (t : List Event). pending t x ≡ []) (sym same) quiet, ap (λ (t : List Event). block (synced_after base t) x) same)
quiet_stays base p (e ∷ q) x none quiet =
    let parts = parts_none x (e ∷ []) q none in
    let one = one_event base p e x parts.0 quiet in
    let rest = quiet_stays base (p ++ e ∷ []) q x parts.1 one.0 in
    let same : (p ++ e ∷ []) ++ q ≡ p ++ (e ∷ q) = append_assoc p (e ∷ []) q in
    (subst (λ (t : List Event). pending t x ≡ []) same rest.0, subst (λ (t : List Event). block (synced_after base t) x ≡ block (synced_after base p) x) same (rest.1 ∙ one.1))

-- ---- blobs

pub kept_through : (g : Geometry) (d : Disk) (r : BlobRecord) (events : List Event) → ((b : ℕ) → IsOf r b → written_to (block_at g b) events ≡ []) → IsKept g d r → IsKept g (disk_with d events) r
kept_through g d r events spared kept =
    let there : (b : ℕ) → IsOf r b → Stays d.base d.trace events (block_at g b) = λ b is. quiet_stays d.base d.trace events (block_at g b) (spared b is) (kept.quiet b is) in
    record {
      quiet = λ b is. (there b is).0;
      whole = ap root_of (bytes_same g (synced (disk_with d events)) (synced d) r (λ k lt. (there (get_or (blocks_of r.extents) k 0) (All-contains_itself (blocks_of r.extents) k 0 lt)).1)) ∙ kept.whole;
    }

pub map_through : (g : Geometry) (d : Disk) (meta : Blocks) (held : Map) (events : List Event)
    → ((r : BlobRecord) (b : ℕ) → Contains (records_at g meta) r → IsOf r b → written_to (block_at g b) events ≡ []) → KeepsMap g d meta held → KeepsMap g (disk_with d events) meta held
map_through g d meta held events spared kept = record {
  formed = kept.formed;
  map = kept.map;
  blobs = λ r c. kept_through g d r events (λ b is. spared r b c is) (kept.blobs r c);
}

-- ---- plans that write to no data block

pub written_other : (at x : ℕ) (bytes : List ℕ) (p : List Event) → at ≢ x → written_to x (Write at bytes true ∷ p) ≡ written_to x p
written_other at x bytes p other = elim (eqb_tells at x) [
  | inl t ↦ absurd (other (t.1))
  | inr f ↦ ap (λ t. cond t (bytes ∷ written_to x p) (written_to x p)) (f.0)
]

-- no data block is written
abbrev pub SparesData : Geometry → List Event → Type 0
SparesData g events = (b : ℕ) → written_to (block_at g b) events ≡ []

pub spares_both : (g : Geometry) (p q : List Event) → SparesData g p → SparesData g q → SparesData g (p ++ q)
spares_both g p q first second b = written_to-append (block_at g b) p q ∙ ap (λ (ws : Blocks). ws ++ written_to (block_at g b) q) (first b) ∙ second b

pub sync_spares : (g : Geometry) → SparesData g a_sync
sync_spares g b = refl

pub ring_spares : (g : Geometry) → IsGeometry g → (slot : ℕ) (blocks : Blocks) → SparesData g (ring_writes g slot blocks)
ring_spares g lawful slot [] b = refl
ring_spares g lawful slot (bytes ∷ rest) b =
    let some : 0 < ring_slots g = omega (arith, lawful.journal.from_low) in
    let within : slot % ring_slots g < ring_slots g = omega arith in
    written_other (slot_at g (slot % ring_slots g)) (block_at g b) bytes (ring_writes g (slot + 1) rest) (λ e. absurd (omega (arith, e, within)))
    ∙ ring_spares g lawful (slot + 1) rest b

writes_spare : (g : Geometry) (at : ℕ) (blocks : Blocks) → at + length blocks ≤ meta_blocks g → SparesData g (writes at blocks)
writes_spare g at [] few b = refl
writes_spare g at (bytes ∷ rest) few b =
    written_other at (block_at g b) bytes (writes (at + 1) rest) (λ e. absurd (omega (arith, e, few)))
    ∙ writes_spare g (at + 1) rest (omega (arith, few)) b

pub info_spares : (g : Geometry) → IsGeometry g → (next : Info) → SparesData g (info_plan g next)
info_spares g lawful next b = written_other (info_at g) (block_at g b) (info_bytes next) a_sync (λ e. absurd (omega (arith, e, lawful.journal.from_low)))

pub checkpoint_spares : (g : Geometry) → IsGeometry g → (meta : Blocks) (next : Info) → length meta ≡ meta_blocks g → SparesData g (checkpoint_plan g meta next)
checkpoint_spares g lawful meta next long =
    spares_both g a_sync (writes 0 meta ++ (a_sync ++ info_plan g next)) (sync_spares g)
    (spares_both g (writes 0 meta) (a_sync ++ info_plan g next) (writes_spare g 0 meta (omega (arith, long)))
    (spares_both g a_sync (info_plan g next) (sync_spares g) (info_spares g lawful next)))
