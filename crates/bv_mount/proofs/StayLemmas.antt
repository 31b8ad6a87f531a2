-- Blocks that aren't written stay in every image, and so do the bytes of blobs.
use Rattle.std.proofs.Common.{◌≡◌, ◌<◌, ◌≤◌, ℕ, zero, suc, ◌+◌, List, [], ◌∷◌, ◌++◌, take, All, Bool, true, false, cond, eq-eqb, Option, Some, None, IfSome, refl, ap, sym, ◌∙◌, subst, inl, inr, arith}
use Rattle.std.proofs.lemmas.Bool.Decides.{eqb_tells}
use Rattle.std.specs.Prelude.{IsSomeAnd, option_and_then, option_map, Contains, IsTrue, map}
use Rattle.spec_tree.specs.declared.Digest.{Digest}
use Rattle.spec_tree.specs.Tree.{root_of}
use Rattle.spec_disk.specs.declared.event.Event.{Event}
use Rattle.spec_disk.specs.declared.event.Event.TheVariants.{Write, Sync}
use Rattle.spec_disk.specs.Disk.{Blocks, block, synced_part, unsynced_part, synced_after, reads_right}
use Rattle.spec_disk.specs.Images.{written_to, pending, IsImage, IsSettled}
use Rattle.spec_disk.specs.Laws.{FailedLast}
use Rattle.spec_disk.proofs.EventLemmas.{written_to-append, synced-append-unsynced}
use Rattle.spec_disk.proofs.ImageLemmas.{image-quiet, now_after-written, Contains-one}
use Rattle.spec_disk.proofs.ReadLemmas.{reads_right-only}
use Rattle.spec_disk.proofs.SettledLemmas.{unsynced_part-append_false}
use Rattle.spec_record.specs.declared.geometry.Geometry.{Geometry}
use Rattle.spec_record.specs.Geometry.{ring_slots, block_at}
use Rattle.spec_image.specs.After.{last_naming}
use Rattle.spec_image.specs.Chain.{BlobRecord}
use Rattle.spec_image.specs.Metadata.{Metadata}
use Rattle.spec_image.specs.Stored.{blocks_of, stored_data, bytes_in}
use Rattle.spec_image.specs.Volume.{metadata_of, blob_in, IsWhole}
use Rattle.bv_journal.specs.Plans.{one_in_place, in_place, scrub}

-- ---- writes below a block

-- every write of these events is to a block below n
abbrev pub AllBelow : ℕ → List Event → Type 0
AllBelow n [] = Unit {0}
AllBelow n (Write at bytes ok ∷ p) = (at < n) × AllBelow n p
AllBelow n (Sync ok ∷ p) = AllBelow n p

pub below-append : (n : ℕ) (p q : List Event) → AllBelow n p → AllBelow n q → AllBelow n (p ++ q)
below-append n [] q a b = b
below-append n (Write at bytes ok ∷ p) q a b = (a.0, below-append n p q a.1 b)
below-append n (Sync ok ∷ p) q a b = below-append n p q a b

pub below-take : (n k : ℕ) (p : List Event) → AllBelow n p → AllBelow n (take k p)
below-take n zero p a = tt
below-take n (suc k) [] a = tt
below-take n (suc k) (Write at bytes ok ∷ p) a = (a.0, below-take n k p a.1)
below-take n (suc k) (Sync ok ∷ p) a = below-take n k p a

pub below-in_place : (n : ℕ) (payloads : List (ℕ × List ℕ)) (t count : ℕ) → t + count ≤ n → AllBelow n (in_place payloads t count)
below-in_place n payloads t zero le = tt
below-in_place n payloads t (suc count) le =
    below-append n (one_in_place t (last_naming t payloads)) (in_place payloads (t + 1) count) (one (last_naming t payloads)) (below-in_place n payloads (t + 1) count (omega (arith, le)))
  where
    one : (o : Option (List ℕ)) → AllBelow n (one_in_place t o)
    one None = tt
    one (Some bytes) = (omega (arith, le), tt)

pub below-scrub : (g : Geometry) (slots : List ℕ) → All (λ s. s < ring_slots g) slots → AllBelow (block_at g 0) (scrub g slots)
below-scrub g [] all = tt
below-scrub g (s ∷ slots) all = (omega (arith, all 0 s (omega arith)), below-scrub g slots (λ k d lt. all (suc k) d (omega (arith, lt))))

-- nothing is written to a block from n on
pub below-unwritten : (n b : ℕ) (p : List Event) → n ≤ b → AllBelow n p → written_to b p ≡ []
below-unwritten n b [] le a = refl
below-unwritten n b (Write at bytes ok ∷ p) le a = elim (eqb_tells at b) [
  | inl here ↦ absurd (omega (arith, here.1, a.0, le))
  | inr other ↦ ap (λ (t : Bool). cond t (bytes ∷ written_to b p) (written_to b p)) other.0 ∙ below-unwritten n b p le a.1
]
below-unwritten n b (Sync ok ∷ p) le a = below-unwritten n b p le a

-- ---- a block that isn't written stays in every image

both_nil : (xs ys : List (List ℕ)) → xs ++ ys ≡ [] → (xs ≡ []) × (ys ≡ [])
both_nil [] ys e = (refl, e)
both_nil (x ∷ xs) ys e = absurd (cc e)

pub block_stays : (base : Blocks) (p : List Event) (j : Blocks) (b : ℕ) → IsImage base p j → written_to b p ≡ [] → block j b ≡ block base b
block_stays base p j b image none =
    let parts = both_nil (written_to b (synced_part p)) (written_to b (unsynced_part p))
    (sym (written_to-append b (synced_part p) (unsynced_part p)) ∙ ap (written_to b) (synced-append-unsynced p) ∙ none) in
    let old : Contains (block base b ∷ []) (block (synced_after base p) b) =
    subst (λ (ws : List (List ℕ)). Contains (block base b ∷ ws) (block (synced_after base p) b)) parts.0 (now_after-written base (synced_part p) b) in
    image-quiet base p j b image parts.1 ∙ sym (Contains-one (block base b) (block (synced_after base p) b) old)

-- ---- a settled disk reads right

pending_none : (p : List Event) (b : ℕ) → FailedLast p b → pending p b ≡ [] → ⊥
pending_none p b last none =
    let q : List Event = Write b last.bytes false ∷ last.after in
    let split : unsynced_part p ≡ unsynced_part last.before ++ q = ap unsynced_part last.is ∙ unsynced_part-append_false last.before q last.no_sync in
    let all : written_to b (unsynced_part last.before) ++ written_to b q ≡ [] = sym (written_to-append b (unsynced_part last.before) q) ∙ ap (written_to b) (sym split) ∙ none in
    let here = both_nil (written_to b (unsynced_part last.before)) (written_to b q) all in
    let some : last.bytes ∷ written_to b last.after ≡ [] = sym (ap (λ (t : Bool). cond t (last.bytes ∷ written_to b last.after) (written_to b last.after)) (eq-eqb b b refl)) ∙ here.1 in
    absurd (cc some)

pub settled_right : (p : List Event) (b : ℕ) → IsSettled p → IsTrue (reads_right p b)
settled_right p b settled = by_test (reads_right p b) refl where
  by_test : (t : Bool) → reads_right p b ≡ t → reads_right p b ≡ true
  by_test true is = is
  by_test false is = absurd (pending_none p b (reads_right-only p b is) (settled b))

-- ---- bytes of a blob

-- the data blocks from block_at g 0 on are the same
pub bytes_same : (g : Geometry) (a j : Blocks) (b : BlobRecord) → ((n : ℕ) → block_at g 0 ≤ n → block j n ≡ block a n) → bytes_in g j b ≡ bytes_in g a b
bytes_same g a j b same =
    ap (λ (xs : List (List ℕ)). take b.size (stored_data b xs)) (λ i. map (λ d. same (block_at g d) (omega arith) i) (blocks_of b.extents))

abbrev whole_by : Blocks → Digest → Option Metadata → Type 0
whole_by image root o = IsSomeAnd (option_and_then (λ m. option_map (bytes_in m.super.geometry image) (blob_in m root)) o) (λ bytes. root_of bytes ≡ root)

-- a blob that is whole in one image is in another of the same metadata and the same data blocks
pub whole_same : (g : Geometry) (a j : Blocks) (root : Digest) (o : Option Metadata) → metadata_of a ≡ o → metadata_of j ≡ o → IfSome o (λ m. m.super.geometry ≡ g) → ((n : ℕ) → block_at g 0 ≤ n → block j n ≡ block a n)
    → IsWhole a root → IsWhole j root
whole_same g a j root o is_a is_j geometry same whole =
    subst (whole_by j root) (sym is_j) (there o geometry (subst (whole_by a root) is_a whole))
  where
    by_blob : (m : Metadata) → m.super.geometry ≡ g → (b : Option BlobRecord) → IsSomeAnd (option_map (bytes_in m.super.geometry a) b) (λ bytes. root_of bytes ≡ root)
        → IsSomeAnd (option_map (bytes_in m.super.geometry j) b) (λ bytes. root_of bytes ≡ root)
    by_blob m is None w = absurd w
    by_blob m is (Some b) w =
        let bytes : bytes_in m.super.geometry j b ≡ bytes_in m.super.geometry a b = bytes_same m.super.geometry a j b (λ n le. same n (subst (λ (k : Geometry). block_at k 0 ≤ n) is le)) in
        ap root_of bytes ∙ w

    there : (o : Option Metadata) → IfSome o (λ m. m.super.geometry ≡ g) → whole_by a root o → whole_by j root o
    there None geometry w = absurd w
    there (Some m) geometry w = by_blob m geometry (blob_in m root) w
