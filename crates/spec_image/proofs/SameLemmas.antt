-- What depends on the journal alone, and what on the metadata blocks too.
use Rattle.std.proofs.Common.{◌≡◌, ℕ, zero, suc, ◌+◌, ◌-◌, ◌<◌, ◌≤◌, min, List, [], ◌∷◌, length, map, drop, get_or, unwrap_or, refl, ap, sym, ◌∙◌, arith, length-drop}
use Rattle.std.proofs.lemmas.List.{length-take, get_or-take, get_or-drop, get_or_default, same_lists}
use Rattle.std.specs.List.{range_with_len}
use Rattle.spec_disk.specs.Disk.{block}
use Rattle.spec_record.specs.declared.geometry.Geometry.{Geometry}
use Rattle.spec_record.specs.Geometry.{meta_blocks, ring_slots, slot_at, ring_in, total_blocks}
use Rattle.spec_record.specs.Info.{info_of}
use Rattle.spec_image.specs.Same.{SameJournal, SameMetadata}
use Rattle.spec_image.specs.Journal.{Journal, journal_of}
use Rattle.spec_image.specs.Replay.{replay}
use Rattle.spec_image.specs.After.{payloads_of, last_naming, after}

pub length-ring : (g : Geometry) (image : List (List ℕ)) → length (ring_in g image) ≡ min (ring_slots g) (length image - slot_at g 0)
length-ring g image = length-take (ring_slots g) (drop (slot_at g 0) image) ∙ ap (min (ring_slots g)) (length-drop (slot_at g 0) image)

-- an image that holds all blocks has the whole ring
pub length-whole_ring : (g : Geometry) (image : List (List ℕ)) → total_blocks g ≤ length image → length (ring_in g image) ≡ ring_slots g
length-whole_ring g image whole = omega (arith, length-ring g image, whole)

-- the block in a slot
pub ring_slot : (g : Geometry) (image : List (List ℕ)) (s : ℕ) → s < ring_slots g → get_or (ring_in g image) s [] ≡ block image (slot_at g s)
ring_slot g image s lt =
    let e : slot_at g 0 + s ≡ slot_at g s = omega arith in
    get_or-take (ring_slots g) (drop (slot_at g 0) image) s [] lt ∙ get_or-drop (slot_at g 0) image s [] ∙ ap (λ (k : ℕ). get_or image k []) e

pub ring_same : (g : Geometry) (a b : List (List ℕ)) → SameJournal g a b → ring_in g a ≡ ring_in g b
ring_same g a b s =
    let long : length (ring_in g a) ≡ length (ring_in g b) =
    length-whole_ring g a s.first_whole ∙ sym (length-whole_ring g b s.second_whole) in
    same_lists (ring_in g a) (ring_in g b) long (λ k d lt.
    let below : k < ring_slots g = omega (arith, length-ring g a) in
    get_or_default (ring_in g a) k d [] lt ∙ ring_slot g a k below ∙ s.slots k below ∙ sym (ring_slot g b k below)
    ∙ sym (get_or_default (ring_in g b) k d [] (omega (arith, long))))

pub journal_same : (g : Geometry) (a b : List (List ℕ)) → SameJournal g a b → journal_of g a ≡ journal_of g b
unfolding journal_of
journal_same g a b s =
    let ring = ring_same g a b s in
    λ i. record { info = info_of (s.info i) (ring_slots g); ring = ring i; meta = meta_blocks g }

pub replay_same : (g : Geometry) (a b : List (List ℕ)) → SameJournal g a b → replay (journal_of g a) ≡ replay (journal_of g b)
replay_same g a b s = ap replay (journal_same g a b s)

-- functions that agree on a range make the same list of it
pub map_same : {A : Type 0} (f h : ℕ → A) (from n : ℕ) → ((k : ℕ) → from ≤ k → k < from + n → f k ≡ h k) → map f (range_with_len from n) ≡ map h (range_with_len from n)
map_same f h from zero same = refl
map_same {A} f h from (suc n) same =
    ap (λ (x : A). x ∷ map f (range_with_len (from + 1) n)) (same from (omega arith) (omega arith))
    ∙ ap (λ (xs : List A). h from ∷ xs) (map_same f h (from + 1) n (λ k low high. same k (omega (arith, low)) (omega (arith, high))))

pub after_same : (g : Geometry) (a b : List (List ℕ)) → SameJournal g a b → SameMetadata g a b → after g a ≡ after g b
unfolding after
after_same g a b s m =
    ap (λ (j : Journal). map (λ t. unwrap_or (last_naming t (payloads_of (replay j))) (block a t)) (range_with_len 0 (meta_blocks g))) (journal_same g a b s)
    ∙ map_same _ _ 0 (meta_blocks g) (λ t low high. ap (unwrap_or (last_naming t (payloads_of (replay (journal_of g b))))) (m t (omega (arith, high))))
