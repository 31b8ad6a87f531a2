-- The blocks behind the superblock, region by region.
use Rattle.std.proofs.Common.{◌≡◌, ℕ, suc, ◌+◌, ◌-◌, List, ◌∷◌, ◌++◌, length, replicate, refl, ap, sym, ◌∙◌, subst, arith, set, append_assoc}
use Rattle.std.proofs.lemmas.List.{length-replicate}
use Rattle.spec_disk.specs.declared.event.Event.{Event}
use Rattle.spec_record.specs.declared.geometry.Geometry.{Geometry}
use Rattle.spec_record.specs.Geometry.{IsGeometry, bitmap_blocks, node_blocks, ring_slots, info_at}
use Rattle.spec_record.specs.Info.{info_bytes}
use Rattle.spec_image.specs.Empty.{zero_block, first_bit_block, empty_bitmap, empty_info}
use Rattle.bv_device.specs.Plan.{writes, a_sync}
use Rattle.bv_device.proofs.PlanLemmas.{writes-append}
use Rattle.bv_format.specs.Plan.{behind_plan}
use Rattle.bv_format.proofs.PlanLemmas.{bitmap_blocks-some}

set_first : (x y n m : ℕ) → n ≡ suc m → set (replicate n x) 0 y ≡ y ∷ replicate m x
set_first x y n m is = subst (λ k. set (replicate k x) 0 y ≡ y ∷ replicate m x) (sym is) refl

pub first_bit-is : set zero_block 0 1 ≡ first_bit_block
unfolding zero_block first_bit_block
first_bit-is = set_first 0 1 8192 8191 refl

-- the node map and the journal
abbrev pub free_nodes : Geometry → List (List ℕ)
free_nodes g = replicate (node_blocks g) zero_block

abbrev pub empty_journal : Geometry → List (List ℕ)
empty_journal g = info_bytes empty_info ∷ replicate (ring_slots g) zero_block

-- the plan of the second phase, as its calls perform it: what is left after the node map, after
-- the bitmap, and all of it
abbrev pub journal_plan : Geometry → List Event
journal_plan g = writes (info_at g) (empty_journal g) ++ a_sync

abbrev pub map_plan : Geometry → List Event
map_plan g = writes (1 + bitmap_blocks g) (free_nodes g) ++ journal_plan g

abbrev pub regions_plan : Geometry → List Event
regions_plan g = writes 1 (empty_bitmap g) ++ map_plan g

pub behind_plan-regions : (g : Geometry) → IsGeometry g → behind_plan g ≡ regions_plan g
behind_plan-regions g lawful =
    let bitmap : List (List ℕ) = empty_bitmap g in
    let map : List (List ℕ) = free_nodes g in
    let journal : List (List ℕ) = empty_journal g in
    let after_bitmap : 1 + length bitmap ≡ 1 + bitmap_blocks g = omega (arith, bitmap_blocks-some g lawful, length-replicate (bitmap_blocks g - 1) zero_block) in
    let after_map : (1 + length bitmap) + length map ≡ info_at g = omega (arith, after_bitmap, length-replicate (node_blocks g) zero_block) in
    let parts : writes 1 (bitmap ++ (map ++ journal)) ≡ writes 1 bitmap ++ (writes (1 + length bitmap) map ++ writes ((1 + length bitmap) + length map) journal) =
    writes-append 1 bitmap (map ++ journal) ∙ ap (λ (p : List Event). writes 1 bitmap ++ p) (writes-append (1 + length bitmap) map journal) in
    let placed : writes (1 + length bitmap) map ++ writes ((1 + length bitmap) + length map) journal ≡ writes (1 + bitmap_blocks g) map ++ writes (info_at g) journal =
    ap (λ (n : ℕ). writes n map ++ writes ((1 + length bitmap) + length map) journal) after_bitmap
    ∙ ap (λ (n : ℕ). writes (1 + bitmap_blocks g) map ++ writes n journal) after_map in
    ap (λ (p : List Event). p ++ a_sync) (parts ∙ ap (λ (p : List Event). writes 1 bitmap ++ p) placed)
    ∙ append_assoc (writes 1 bitmap) (writes (1 + bitmap_blocks g) map ++ writes (info_at g) journal) a_sync
    ∙ ap (λ (p : List Event). writes 1 bitmap ++ p) (append_assoc (writes (1 + bitmap_blocks g) map) (writes (info_at g) journal) a_sync)
