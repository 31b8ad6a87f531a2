-- What a read of the device is to the store.
use Rattle.std.proofs.Common.{◌≡◌, ℕ, ◌-◌, ◌≤◌, length, List, [], ◌∷◌, ◌++◌, take, drop, Bool, true, false, cond, Option, Some, None, refl, ap, sym, ◌∙◌, inl, inr, arith}
use Rattle.std.proofs.lemmas.List.{take-append-drop}
use Rattle.std.proofs.lemmas.Bool.Decides.{eqb_tells}
use Rattle.std.specs.Prelude.{option_map, Contains, IfSome, IsTrue}
use Rattle.spec_tree.specs.declared.Digest.{Digest}
use Rattle.spec_disk.specs.declared.event.Event.{Event}
use Rattle.spec_disk.specs.declared.event.Event.TheVariants.{Write}
use Rattle.spec_disk.specs.Disk.{Blocks, block, now_after, reads_right, reads_right_from, unsynced_part}
use Rattle.spec_disk.specs.Images.{written_to, pending, IsSettled}
use Rattle.spec_disk.specs.Laws.{FailedLast, AreWhole}
use Rattle.spec_disk.proofs.EventLemmas.{length-now_after, now_after-append, written_to-append}
use Rattle.spec_disk.proofs.ReadLemmas.{reads_right_from-append, reads_right-only}
use Rattle.spec_disk.proofs.SettledLemmas.{unsynced_part-append_false}
use Rattle.spec_meta.proofs.Counting.{true_or_false}
use Rattle.spec_record.specs.declared.geometry.Geometry.{Geometry}
use Rattle.spec_record.specs.Geometry.{block_at, total_blocks}
use Rattle.spec_rest.specs.Rest.{Map}
use Rattle.bv_device.specs.Told.{Disk, now_of}
use Rattle.bv_device.specs.Seen.{Seen}
use Rattle.bv_store.specs.Stored.{HasWholeBlocks, blocks_in}
use Rattle.bv_journaled.specs.Since.{began_at, since, calls_since}
use Rattle.bv_journaled.specs.Standing.{PlacedRight, Standing, stored_of, Both}
use Rattle.bv_journaled.proofs.RowLemmas.{told_rests, rests_told}

-- a block whose last write failed has a write that is pending
failed_pending : (p : List Event) (b : ℕ) → FailedLast p b → pending p b ≡ [] → ⊥
failed_pending p b f none =
    let rest : List Event = Write b f.bytes false ∷ f.after in
    let parts : pending p b ≡ written_to b (unsynced_part f.before) ++ written_to b rest =
    ap (λ (t : List Event). pending t b) f.is ∙ ap (written_to b) (unsynced_part-append_false f.before rest f.no_sync) ∙ written_to-append b (unsynced_part f.before) rest in
    some (written_to b (unsynced_part f.before)) (written_to b rest) (here f.bytes f.after) (sym parts ∙ none)
  where
    here : (bytes : List ℕ) (q : List Event) → (x : List ℕ) × (xs : Blocks) × (written_to b (Write b bytes false ∷ q) ≡ x ∷ xs)
    here bytes q = elim (eqb_tells b b) [
      | inl t ↦ (bytes, written_to b q, ap (λ t. cond t (bytes ∷ written_to b q) (written_to b q)) (t.0))
      | inr other ↦ absurd (other.1 refl)
    ]

    some : (xs ys : Blocks) → (x : List ℕ) × (zs : Blocks) × (ys ≡ x ∷ zs) → xs ++ ys ≡ [] → ⊥
    some [] ys h e = let is = h.2 in cc
    some (x ∷ xs) ys h e = cc

-- on a settled disk every block reads right
settled_right : (p : List Event) (b : ℕ) → pending p b ≡ [] → reads_right p b ≡ true
settled_right p b none = elim (true_or_false (reads_right p b)) [
  | inl right ↦ right
  | inr wrong ↦ absurd (failed_pending p b (reads_right-only p b wrong) none)
]

since_right : (n : ℕ) (d : Disk) (b : ℕ) → IsSettled (take n d.trace) → reads_right (drop n d.trace) b ≡ true → reads_right d.trace b ≡ true
since_right n d b settled right =
    ap (λ (t : List Event). reads_right t b) (sym (take-append-drop n d.trace)) ∙ reads_right_from-append true b (take n d.trace) (drop n d.trace)
    ∙ ap (λ (t : Bool). reads_right_from t b (drop n d.trace)) (settled_right (take n d.trace) b (settled b)) ∙ right

since_now : (n : ℕ) (d : Disk) → now_of d ≡ now_of (since n d)
since_now n d = ap (now_after d.base) (sym (take-append-drop n d.trace)) ∙ now_after-append d.base (take n d.trace) (drop n d.trace)

abbrev pub ReadsBlock : Option Disk → Option Disk → ℕ → List ℕ → Type 0
ReadsBlock told began x into = IfSome told (λ d. IfSome began (λ b. IsSettled b.trace) → IsTrue (reads_right d.trace x) → into ≡ block (now_of d) x)

pub read_since : (n : ℕ) (o : Option Disk) (x : ℕ) (into : List ℕ) → IfSome o (λ d. IsTrue (reads_right d.trace x) → into ≡ block (now_of d) x) → ReadsBlock (option_map (since n) o) (option_map (began_at n) o) x into
read_since n None x into h = tt
read_since n (Some d) x into h = λ settled right. h (since_right n d x settled right) ∙ ap (λ (b : Blocks). block b x) (since_now n d)

-- a block of a blob that reads right since the mount began
pub read_blob : (n : ℕ) (o : Option Disk) (g : Geometry) (placed : List (Digest × List ℕ)) (at : ℕ) (into : List ℕ) → IfSome (option_map (since n) o) (PlacedRight g placed) → IfSome o (λ d. IsTrue (reads_right d.trace (block_at g at)) → into ≡ block (now_of d) (block_at g at))
    → IfSome (option_map (since n) o) (λ d. IfSome (option_map (began_at n) o) (λ b. IsSettled b.trace) → Contains (blocks_in placed) at → into ≡ block (now_of d) (block_at g at))
read_blob n None g placed at into right h = tt
read_blob n (Some d) g placed at into right h = λ settled of.
    h (since_right n d (block_at g at) settled (right at of)) ∙ ap (λ (b : Blocks). block b (block_at g at)) (since_now n d)

pub read_stored : (s : Standing) (dev : Seen) → dev.told ≡ s.device.told → dev.calls_made ≡ s.device.calls_made → stored_of (record s { device = dev }) ≡ record (stored_of s) { faults = dev.fault_count }
read_stored s dev told calls = λ i. record (stored_of s) {
  began = option_map (began_at s.opened) (told i);
  told = option_map (since s.opened) (told i);
  calls = calls_since (option_map (since s.opened) (told i)) (calls i - s.opened);
  faults = dev.fault_count;
}

pub read_both : (s : Standing) (dev : Seen) → dev.told ≡ s.device.told → (a b : Map) → Both s a b → Both (record s { device = dev }) a b
read_both s dev told a b both =
    let new : Standing = record s { device = dev } in
    rests_told new a b (stored_of new).told refl (λ d e.
    let rests = told_rests s d a b (ap (option_map (since s.opened)) (sym told) ∙ e) both in
    record { info = rests.info; entries = rests.entries; more = rests.more; durable = rests.durable; keeps = rests.keeps; newest = rests.newest; stands = rests.stands; older = rests.older })

-- ---- whole blocks

-- the data blocks of a disk that has room for the volume, and only whole blocks
pub data_whole : (g : Geometry) (d : Disk) → AreWhole (now_of d) → total_blocks g ≤ length d.base → HasWholeBlocks g d
data_whole g d whole room b below =
    whole (block_at g b) [] (omega (arith, below, room, length-now_after d.base d.trace))

pub told_whole : (g : Geometry) (n : ℕ) (o : Option Disk) → total_blocks g ≤ n → IfSome o (λ d. length d.base ≡ n) → IfSome o (λ d. AreWhole (now_of d)) → IfSome o (HasWholeBlocks g)
told_whole g n None room long whole = tt
told_whole g n (Some d) room long whole = data_whole g d whole (omega (arith, room, long))

-- since the mount began it is the same disk
pub whole_since : (g : Geometry) (n : ℕ) (o : Option Disk) → IfSome o (HasWholeBlocks g) → IfSome (option_map (since n) o) (HasWholeBlocks g)
whole_since g n None h = tt
whole_since g n (Some d) h = λ b below. ap (λ (blocks : Blocks). length (block blocks (block_at g b))) (sym (since_now n d)) ∙ h b below
