-- What a volume is made of as a mount begins.
use Rattle.std.proofs.Common.{◌≡◌, ◌≤◌, ℕ, ◌+◌, ◌-◌, List, [], length, IfSome, ap, sym, ◌∙◌, subst, arith}
use Rattle.std.specs.Prelude.{All}
use Rattle.std.specs.List.{sum_by}
use Rattle.std.specs.List.Sorted.{IsStrictlySortedBy}
use Rattle.std.specs.Map.{keys_of, values_of}
use Rattle.spec_tree.specs.Order.{digest_cmp}
use Rattle.spec_record.specs.declared.geometry.Geometry.{Geometry}
use Rattle.spec_image.specs.Blobs.{blob_map}
use Rattle.spec_image.specs.Chain.{BlobRecord}
use Rattle.spec_image.proofs.MapLemmas.{map_sorted}
use Rattle.spec_core.specs.History.{History, opening_map}
use Rattle.spec_core.specs.Room.{blob_need}
use Rattle.spec_crash.specs.Crash.{CrashPrefix}
use Rattle.spec_laws.proofs.FitLemmas.{map_fits}
use Rattle.spec_rest.specs.Rest.{Map}
use Rattle.bv_claims.specs.Blocks.{HasEachOnce}
use Rattle.bv_claims.specs.Tokens.{block_count}
use Rattle.bv_device.specs.Seen.{Seen}
use Rattle.bv_mount.specs.declared.inspected.Inspected.{Inspected}
use Rattle.bv_ring.specs.Cursor.{Cursor}
use Rattle.bv_space.specs.Owned.{Owned}
use Rattle.bv_txn.specs.Metas.{metadata_of}
use Rattle.bv_journaled.specs.Standing.{Standing, stored_of, IsHeld, Both}
use Rattle.bv_volume.specs.Seen.{Opened}
use Rattle.bv_volume.specs.Spaced.{IsFresh}
use Rattle.bv_mounted.specs.Mounts.{records_in, blocks_of_all, history_of, first_standing}
use Rattle.bv_mounted.proofs.FreshLemmas.{well, fresh, LiesWithin, records_within, records_once}
use Rattle.bv_mounted.proofs.SafeLemmas.{opening_is}

-- the blobs' extents lie on the volume, and no block is in two
pub blobs_within : (i : Inspected) (n : ℕ) (rs : List BlobRecord) → rs ≡ records_in i → n ≡ i.geometry.blocks → All (λ b. All (LiesWithin n) b.extents) rs
blobs_within i n rs is blocks =
    let same : (metadata_of i.meta).super.geometry.blocks ≡ n = ap (λ (g : Geometry). g.blocks) i.lawful.geometry ∙ sym blocks in
    subst (λ (l : List BlobRecord). All (λ b. All (LiesWithin n) b.extents) l) (sym is)
    (subst (λ (k : ℕ). All (λ b. All (LiesWithin k) b.extents) (records_in i)) same (records_within (metadata_of i.meta)))

pub blobs_once : (i : Inspected) (rs : List BlobRecord) → rs ≡ records_in i → HasEachOnce (blocks_of_all rs)
blobs_once i rs is = subst (λ (l : List BlobRecord). HasEachOnce (blocks_of_all l)) (sym is) (records_once (metadata_of i.meta) (well i))

module _ (i : Inspected) (m : Map) (h : History) (is : m ≡ blob_map (records_in i)) (opens : h ≡ history_of i) where
  pub opening_sorted : IsStrictlySortedBy digest_cmp (keys_of m)
  opening_sorted = subst (λ (x : Map). IsStrictlySortedBy digest_cmp (keys_of x)) (sym is) (map_sorted (records_in i))

  pub opening_same : m ≡ opening_map h
  opening_same = is ∙ sym (ap opening_map opens ∙ opening_is (blob_map (records_in i)))

  pub opening_fits : sum_by blob_need (values_of m) ≤ h.blocks - 1
  opening_fits =
      let fits = map_fits (metadata_of i.meta) (well i) in
      let needs : sum_by blob_need (values_of m) ≡ sum_by blob_need (values_of (blob_map (records_in i))) = ap (λ (x : Map). sum_by blob_need (values_of x)) is in
      omega (arith, fits, needs, ap (λ (x : History). x.blocks) opens, ap (λ (g : Geometry). g.blocks) i.lawful.geometry)

  pub opening_fresh : (dev : Seen) (n : ℕ) (ring : Cursor) (o : Owned) (s : Standing) → s ≡ first_standing dev n i.meta ring → block_count o.claims ≡ i.geometry.blocks → HasEachOnce o.owned → o.owned ≡ blocks_of_all (records_in i)
      → o.room + length (blocks_of_all (records_in i)) + 1 ≡ block_count o.claims → (o.adds ≡ []) × (o.gone ≡ []) × (o.nodes ≡ []) → IsFresh h m o (stored_of s) (IsHeld s)
  opening_fresh dev n ring o s stands table once owned room none =
      subst (λ (x : Standing). IsFresh h m o (stored_of x) (IsHeld x)) (sym stands)
      (subst (λ (x : Map). IsFresh h x o (stored_of (first_standing dev n i.meta ring)) (IsHeld (first_standing dev n i.meta ring))) (sym is)
      (subst (λ (x : History). IsFresh x (blob_map (records_in i)) o (stored_of (first_standing dev n i.meta ring)) (IsHeld (first_standing dev n i.meta ring))) (sym opens)
      (fresh i dev n ring o table once owned room none)))

  pub opening_safe : (s : Standing) → (Opened (stored_of s) (history_of i) → IfSome (stored_of s).told (λ d. CrashPrefix d.base d.trace (history_of i) × Both s (opening_map (history_of i)) (opening_map (history_of i))))
      → Opened (stored_of s) h → IfSome (stored_of s).told (λ d. CrashPrefix d.base d.trace h × Both s (opening_map h) (opening_map h))
  opening_safe s safe =
      subst (λ (x : History). Opened (stored_of s) x → IfSome (stored_of s).told (λ d. CrashPrefix d.base d.trace x × Both s (opening_map x) (opening_map x))) (sym opens) safe
