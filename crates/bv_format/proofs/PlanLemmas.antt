-- The plan of `format`: what it makes of a disk, and how long it is.
use Rattle.std.proofs.Common.{◌≡◌, ◌<◌, ◌≤◌, ℕ, zero, suc, ◌+◌, ◌-◌, List, [], ◌∷◌, ◌++◌, length, replicate, take, true, false, refl, ap, sym, ◌∙◌, subst, arith, set, get_or, append_assoc}
use Rattle.std.proofs.lemmas.List.{get_or-set_same, get_or-set_other, length-set, length-append, length-replicate}
use Rattle.spec_disk.specs.declared.event.Event.{Event}
use Rattle.spec_disk.specs.declared.event.Event.TheVariants.{Sync}
use Rattle.spec_disk.specs.Disk.{block, now_after, has_sync}
use Rattle.spec_disk.specs.Images.{IsSettled}
use Rattle.spec_disk.proofs.EventLemmas.{now_after-append, length-now_after}
use Rattle.spec_disk.proofs.ImageLemmas.{IsSettled-push_sync}
use Rattle.spec_record.specs.declared.geometry.Geometry.{Geometry}
use Rattle.spec_record.specs.Geometry.{IsGeometry, bitmap_blocks, node_blocks, meta_blocks, ring_slots, total_blocks}
use Rattle.spec_record.specs.Superblock.{super_bytes}
use Rattle.spec_record.specs.Info.{info_bytes}
use Rattle.spec_image.specs.Empty.{zero_block, empty_behind, empty_bitmap, empty_super, empty_info, BeginsEmpty}
use Rattle.bv_device.specs.Plan.{IsPlan, writes, a_write, a_sync}
use Rattle.bv_device.proofs.PlanLemmas.{IsPlan-append, IsPlan-writes}
use Rattle.bv_format.specs.Plan.{clear_plan, behind_plan, super_plan, format_plan}
use Rattle.bv_format.proofs.WriteLemmas.{now-writes_at}

-- Sizes

pub bitmap_blocks-some : (g : Geometry) → IsGeometry g → 1 ≤ bitmap_blocks g
bitmap_blocks-some g lawful = omega (arith, lawful.blocks.from_low)

pub length-behind : (g : Geometry) → IsGeometry g → length (empty_behind g) ≡ bitmap_blocks g + node_blocks g + g.journal
length-behind g lawful =
    let zeros : List (List ℕ) = replicate (ring_slots g) zero_block in
    let map : List (List ℕ) = replicate (node_blocks g) zero_block in
    omega (
      arith,
      bitmap_blocks-some g lawful,
      lawful.journal.from_low,
      length-append (empty_bitmap g) (map ++ (info_bytes empty_info ∷ zeros)),
      length-append map (info_bytes empty_info ∷ zeros),
      length-replicate (bitmap_blocks g - 1) zero_block,
      length-replicate (node_blocks g) zero_block,
      length-replicate (ring_slots g) zero_block,
    )

pub length-writes : (at : ℕ) (blocks : List (List ℕ)) → length (writes at blocks) ≡ length blocks
length-writes at [] = refl
length-writes at (bytes ∷ rest) = omega (arith, length-writes (at + 1) rest)

pub length-plan : (g : Geometry) → IsGeometry g → length (format_plan g) ≡ meta_blocks g + g.journal + 4
length-plan g lawful =
    omega (
      arith,
      length-behind g lawful,
      length-writes 1 (empty_behind g),
      length-append (behind_plan g) (super_plan g),
      length-append (writes 1 (empty_behind g)) a_sync,
    )

-- Its events

pub IsPlan-format : (g : Geometry) → IsPlan (format_plan g)
IsPlan-format g = IsPlan-append (behind_plan g) (super_plan g) (IsPlan-append (writes 1 (empty_behind g)) a_sync (IsPlan-writes 1 (empty_behind g)) tt) tt

-- its first event alone comes before a sync
pub plan-unsynced : (g : Geometry) (n : ℕ) → n ≤ 1 → has_sync (take n (format_plan g)) ≡ false
plan-unsynced g zero few = refl
plan-unsynced g (suc zero) few = refl
plan-unsynced g (suc (suc n)) few = absurd (omega (arith, few))

-- it ends with a sync
pub IsSettled-plan : (trace : List Event) (g : Geometry) → IsSettled (trace ++ format_plan g)
IsSettled-plan trace g =
    let front : List Event = clear_plan ++ (behind_plan g ++ a_write 0 (super_bytes (empty_super g))) in
    let ends : format_plan g ≡ front ++ Sync true ∷ [] = ap (λ (p : List Event). clear_plan ++ p) (sym (append_assoc (behind_plan g) (a_write 0 (super_bytes (empty_super g))) (Sync true ∷ []))) in
    let whole : trace ++ format_plan g ≡ (trace ++ front) ++ Sync true ∷ [] = ap (λ (p : List Event). trace ++ p) ends ∙ sym (append_assoc trace front (Sync true ∷ [])) in
    subst IsSettled (sym whole) (IsSettled-push_sync (trace ++ front))

-- What it makes

-- the disk once all but the superblock is written
abbrev pub behind_made : Geometry → List (List ℕ) → List (List ℕ)
behind_made g now = now_after (set now 0 zero_block) (writes 1 (empty_behind g))

-- the disk at the end
abbrev pub all_made : Geometry → List (List ℕ) → List (List ℕ)
all_made g now = set (behind_made g now) 0 (super_bytes (empty_super g))

pub now_after-plan : (now : List (List ℕ)) (g : Geometry) → now_after now (format_plan g) ≡ all_made g now
now_after-plan now g =
    now_after-append (set now 0 zero_block) (behind_plan g) (super_plan g)
    ∙ ap (λ (d : List (List ℕ)). set d 0 (super_bytes (empty_super g))) (now_after-append (set now 0 zero_block) (writes 1 (empty_behind g)) a_sync)

pub length-behind_made : (now : List (List ℕ)) (g : Geometry) → length (behind_made g now) ≡ length now
length-behind_made now g = length-now_after (set now 0 zero_block) (writes 1 (empty_behind g)) ∙ length-set now 0 zero_block

-- the blocks behind the superblock
pub behind_made-at : (now : List (List ℕ)) (g : Geometry) → IsGeometry g → total_blocks g ≤ length now → (k : ℕ) → k < length (empty_behind g)
    → block (behind_made g now) (1 + k) ≡ get_or (empty_behind g) k []
behind_made-at now g lawful room k below =
    now-writes_at (set now 0 zero_block) 1 (empty_behind g) k below (omega (arith, room, length-behind g lawful, length-set now 0 zero_block))

pub BeginsEmpty-made : (now : List (List ℕ)) (g : Geometry) → IsGeometry g → total_blocks g ≤ length now → BeginsEmpty g (all_made g now)
BeginsEmpty-made now g lawful room =
    let sup : List ℕ = super_bytes (empty_super g) in
    let same : length (behind_made g now) ≡ length now = length-behind_made now g in
    record {
      room = omega (arith, room, same, length-set (behind_made g now) 0 sup);
      super = get_or-set_same (behind_made g now) 0 sup [] (omega (arith, room, same));
      behind = λ k below. get_or-set_other (behind_made g now) 0 (1 + k) sup [] (λ e. absurd (omega (arith, e))) ∙ behind_made-at now g lawful room k below;
    }
