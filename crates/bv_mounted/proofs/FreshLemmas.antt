-- As a mount begins, the boss owns the blocks of the opening's blobs.
use Rattle.std.proofs.Common.{◌≡◌, ◌<◌, ◌≤◌, ℕ, zero, suc, ◌+◌, List, [], ◌∷◌, length, get_or, true, ap, sym, ◌∙◌, subst, inl, inr, arith}
use Rattle.std.proofs.lemmas.List.Elements.{All-contains_itself}
use Rattle.std.specs.Prelude.{All}
use Rattle.spec_record.specs.declared.extent.Extent.{Extent}
use Rattle.spec_record.specs.declared.geometry.Geometry.{Geometry}
use Rattle.spec_image.specs.Blobs.{blob_map}
use Rattle.spec_image.specs.Chain.{BlobRecord}
use Rattle.spec_image.specs.Metadata.{Metadata}
use Rattle.spec_image.specs.WellFormed.{records_of, is_well_formed}
use Rattle.spec_image.specs.WellFormedParts.{WellFormed}
use Rattle.spec_image.proofs.ChainLemmas.{AllExtents, chain_extents}
use Rattle.spec_image.proofs.WellFormedLemmas.{well_formed_parts}
use Rattle.spec_laws.proofs.NodeLemmas.{nodes_fit}
use Rattle.spec_meta.specs.Blocks.{metadata_at}
use Rattle.spec_meta.specs.Survey.{survey_of}
use Rattle.spec_meta.proofs.Counting.{ranges}
use Rattle.spec_meta.proofs.PurgeLemmas.{read_at}
use Rattle.spec_meta.proofs.SurveyLemmas.{survey_is_clean}
use Rattle.bv_claims.specs.Blocks.{times, HasEachOnce}
use Rattle.bv_claims.specs.Tokens.{block_count}
use Rattle.bv_device.specs.Seen.{Seen}
use Rattle.bv_mount.specs.declared.inspected.Inspected.{Inspected}
use Rattle.bv_ring.specs.Cursor.{Cursor}
use Rattle.bv_space.specs.Owned.{Owned}
use Rattle.bv_txn.specs.Metas.{metadata_of}
use Rattle.bv_journaled.specs.Standing.{stored_of, placed_of, IsHeld}
use Rattle.bv_volume.specs.Spaced.{IsFresh, times_placed}
use Rattle.bv_volume.proofs.Freed.{is_placed}
use Rattle.bv_mounted.specs.Mounts.{records_in, blocks_of_all, history_of, first_standing}
use Rattle.bv_mounted.proofs.PlaceLemmas.{times_all, times_at}
use Rattle.bv_mounted.proofs.NeedLemmas.{needs_of_all, lie_all, placed_sole}

-- ---- an inspected volume

-- its metadata is well formed
pub is_formed : (i : Inspected) → is_well_formed (metadata_of i.meta) ≡ true
is_formed i =
    (survey_is_clean (metadata_of i.meta)).0 (subst (λ (g : Geometry). survey_of (metadata_at g i.meta.blocks) ≡ []) (sym i.lawful.geometry) i.lawful.well)

pub well : (i : Inspected) → WellFormed (metadata_of i.meta)
well i = well_formed_parts (metadata_of i.meta) (is_formed i)

-- ---- its extents

-- an extent lies on the volume
abbrev pub LiesWithin : ℕ → Extent → Type 0
LiesWithin blocks e = (1 ≤ e.start) × (e.start + e.len ≤ blocks)

all_within : (blocks : ℕ) (es : List Extent) → AllExtents blocks es → All (LiesWithin blocks) es
all_within blocks [] all k d lt = absurd (omega (arith, lt))
all_within blocks (e ∷ es) all zero d lt = let f = ranges blocks e all.0 in (omega (arith, f.0), omega (arith, f.3))
all_within blocks (e ∷ es) all (suc k) d lt = all_within blocks es all.1 k d (omega (arith, lt))

-- those of each blob do
pub records_within : (m : Metadata) → All (λ b. All (LiesWithin m.super.geometry.blocks) b.extents) (records_of m)
records_within m k d lt =
    let b : BlobRecord = get_or (records_of m) k d in
    let r = read_at m.nodes m.super.geometry.blocks m.nodes.count b (All-contains_itself (records_of m) k d lt) in
    all_within m.super.geometry.blocks b.extents (chain_extents m.nodes m.super.geometry.blocks r.0 b r.2)

-- and no block is in two
pub records_once : (m : Metadata) → WellFormed m → HasEachOnce (blocks_of_all (records_of m))
records_once m w b = omega (arith, times_all b (records_of m), w.blocks b)

-- ---- as a mount begins

pub fresh : (i : Inspected) (dev : Seen) (opened : ℕ) (ring : Cursor) (o : Owned) → block_count o.claims ≡ i.geometry.blocks → HasEachOnce o.owned → o.owned ≡ blocks_of_all (records_in i)
    → o.room + length (blocks_of_all (records_in i)) + 1 ≡ block_count o.claims → (o.adds ≡ []) × (o.gone ≡ []) × (o.nodes ≡ [])
    → IsFresh (history_of i) (blob_map (records_in i)) o (stored_of (first_standing dev opened i.meta ring)) (IsHeld (first_standing dev opened i.meta ring))
fresh i dev opened ring o table once owned room none =
    let w = well i in
    let g = i.lawful.geometry in
    record {
      table = (table, omega (arith, i.lawful.limits.blocks.from_low));
      geometry = (ap (λ (k : Geometry). k.blocks) g, ap (λ (k : Geometry). k.version) g);
      nodes = (ap (λ (k : Geometry). k.nodes) g, omega (arith, w.node_count, nodes_fit (metadata_of i.meta) w, ap (λ (k : Geometry). k.nodes) g));
      once = once;
      owned = λ b. ap (times b) owned ∙ times_all b (records_in i) ∙ sym (times_at b (records_in i) w.roots);
      room = omega (arith, room, table, needs_of_all (metadata_of i.meta) w);
      none = none;
      held = λ b h. held_placed b h;
      lie = lie_all (metadata_of i.meta);
      sole = placed_sole (records_in i) w.roots;
    }
  where
    held_placed : (b : ℕ) → IsHeld (first_standing dev opened i.meta ring) b → 0 < times_placed b (placed_of (records_in i))
    held_placed b (inl there) = is_placed b (placed_of (records_in i)) there
    held_placed b (inr gone) = absurd (omega (arith, gone.1))
