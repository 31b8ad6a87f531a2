-- A store as a mount begins with it.
use Rattle.std.proofs.Common.{◌≡◌, ◌≤◌, ℕ, [], length, true, Option, Some, None, refl, subst, inl}
use Rattle.std.specs.Prelude.{IfSome, option_map}
use Rattle.spec_record.specs.declared.info.Info.{Info}
use Rattle.spec_record.specs.Geometry.{IsGeometry, meta_blocks, total_blocks}
use Rattle.spec_image.specs.WellFormed.{is_well_formed}
use Rattle.spec_image.proofs.WellFormedLemmas.{well_formed_parts}
use Rattle.spec_meta.specs.Blocks.{metadata_at}
use Rattle.bv_device.specs.Told.{Disk}
use Rattle.bv_device.specs.Reads.{ReadsRight}
use Rattle.bv_device.specs.Seen.{Seen}
use Rattle.bv_journal.specs.Rests.{AtRest}
use Rattle.bv_ring.specs.Cursor.{Cursor, IsCursor, StandsBehind}
use Rattle.bv_txn.specs.Metas.{MetaBlocks}
use Rattle.bv_journaled.specs.Kept.{map_at, KeepsMap}
use Rattle.bv_journaled.specs.Standing.{Standing, stored_of, placed_at, IsStanding, RestsOn, Both}
use Rattle.bv_journaled.proofs.PlacedLemmas.{placed_blocks}
use Rattle.bv_journaled.specs.Since.{since}
use Rattle.bv_journaled.proofs.RightLemmas.{right_all}
use Rattle.bv_journaled.proofs.RowLemmas.{rests_told}

abbrev pub begun : Seen → ℕ → MetaBlocks → Cursor → Standing
begun dev opened meta ring = record { device = dev; opened = opened; meta = meta; cursor = ring; gone = []; planned = None }

pub opened_standing : (dev : Seen) (opened : ℕ) (meta : MetaBlocks) (ring : Cursor) → IsGeometry meta.geometry → IsCursor ring → ring.geometry ≡ meta.geometry → total_blocks meta.geometry ≤ dev.block_count
    → length meta.blocks ≡ meta_blocks meta.geometry → is_well_formed (metadata_at meta.geometry meta.blocks) ≡ true → opened ≤ dev.calls_made → IfSome dev.told (λ d. length d.trace ≡ dev.calls_made) → IfSome (option_map (since opened) dev.told) ReadsRight → IsStanding (begun dev opened meta ring)
opened_standing dev opened meta ring lawful cursor same total count formed le told right = record {
  lawful = lawful;
  cursor = cursor;
  same = same;
  total = total;
  count = count;
  formed = formed;
  opened = le;
  told = told;
  prepared = tt;
  right = right_all meta.geometry (placed_at meta.geometry meta.blocks) (option_map (since opened) dev.told) right;
}

-- the disk that is told keeps the one map twice
opens_on : (s : Standing) (d : Disk) (i : Info) → is_well_formed (metadata_at s.meta.geometry s.meta.blocks) ≡ true → AtRest s.meta.geometry i [] None s.meta.blocks d → StandsBehind s.cursor i [] → KeepsMap s.meta.geometry d s.meta.blocks (map_at s.meta.geometry s.meta.blocks)
    → RestsOn s d (map_at s.meta.geometry s.meta.blocks) (map_at s.meta.geometry s.meta.blocks)
opens_on s d i formed rests stands kept = record {
  info = i;
  entries = [];
  more = None;
  durable = s.meta.blocks;
  keeps = record { journal = rests; durable = kept; newest = kept };
  newest = refl;
  stands = stands;
  older = λ r x c of. inl (placed_blocks (metadata_at s.meta.geometry s.meta.blocks) r x (well_formed_parts (metadata_at s.meta.geometry s.meta.blocks) formed) c of);
}

pub opens : (s : Standing) → is_well_formed (metadata_at s.meta.geometry s.meta.blocks) ≡ true → IfSome (stored_of s).told (λ d. (i : Info) → AtRest s.meta.geometry i [] None s.meta.blocks d → StandsBehind s.cursor i []
    → KeepsMap s.meta.geometry d s.meta.blocks (map_at s.meta.geometry s.meta.blocks) → Both s (map_at s.meta.geometry s.meta.blocks) (map_at s.meta.geometry s.meta.blocks))
opens s formed = each (stored_of s).told refl
  where
    each : (o : Option Disk) → (stored_of s).told ≡ o → IfSome o (λ d. (i : Info) → AtRest s.meta.geometry i [] None s.meta.blocks d → StandsBehind s.cursor i []
        → KeepsMap s.meta.geometry d s.meta.blocks (map_at s.meta.geometry s.meta.blocks) → Both s (map_at s.meta.geometry s.meta.blocks) (map_at s.meta.geometry s.meta.blocks))
    each None is = tt
    each (Some d) is = λ i rests stands kept.
        rests_told s (map_at s.meta.geometry s.meta.blocks) (map_at s.meta.geometry s.meta.blocks) (Some d) is (λ d' e.
        let same : d ≡ d' = cc in subst (λ (x : Disk). RestsOn s x (map_at s.meta.geometry s.meta.blocks) (map_at s.meta.geometry s.meta.blocks)) same (opens_on s d i formed rests stands kept))
