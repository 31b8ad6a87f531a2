-- The data blocks of the extents of a chain.
use Rattle.std.proofs.Common.{◌≡◌, ◌≤◌, ◌^◌, ℕ, zero, suc, ◌+◌, List, [], ◌∷◌, ◌++◌, Some, Result, Ok, Err, ap, ◌∙◌, arith}
use Rattle.std.specs.Prelude.{All, option_map, IfOk}
use Rattle.std.specs.List.{range_with_len}
use Rattle.spec_tree.specs.declared.Digest.{Digest}
use Rattle.spec_record.specs.declared.extent.Extent.{Extent}
use Rattle.spec_image.specs.Chain.{BlobRecord}
use Rattle.spec_image.specs.Metadata.{Metadata}
use Rattle.spec_image.specs.Stored.{blocks_of}
use Rattle.spec_image.specs.Volume.{blob_in}
use Rattle.spec_image.specs.WellFormed.{records_of}
use Rattle.spec_image.proofs.ChainLemmas.{AllExtents, chain_extents}
use Rattle.spec_core.specs.State.{find}
use Rattle.spec_laws.proofs.RecordLemmas.{known_blob}
use Rattle.spec_meta.proofs.Counting.{ranges}
use Rattle.spec_meta.proofs.PurgeLemmas.{read_at}
use Rattle.bv_journaled.specs.Standing.{placed_of}
use Rattle.bv_journaled.proofs.PlacedLemmas.{places, placed_has}

pub range_more : (a n : ℕ) → range_with_len a (n + 1) ≡ range_with_len a n ++ (a + n) ∷ []
range_more a zero =
    let one : zero + 1 ≡ suc zero = omega arith in
    let at : a ≡ a + zero = omega arith in
    ap (range_with_len a) one ∙ ap (λ (x : ℕ). x ∷ []) at
range_more a (suc n) =
    let at : a + 1 + n ≡ a + suc n = omega arith in
    let one : suc n + 1 ≡ suc (n + 1) = omega arith in
    ap (range_with_len a) one ∙ ap (λ (xs : List ℕ). a ∷ xs) (range_more (a + 1) n ∙ ap (λ (x : ℕ). range_with_len (a + 1) n ++ x ∷ []) at)

all_small : (blocks : ℕ) (es : List Extent) → blocks ≤ 2 ^ 48 → AllExtents blocks es → All (λ e. e.start + e.len ≤ 2 ^ 48) es
all_small blocks [] le all k d lt = absurd (omega (arith, lt))
all_small blocks (e ∷ es) le all zero d lt = let f = ranges blocks e all.0 in omega (arith, f.3, le)
all_small blocks (e ∷ es) le all (suc k) d lt = all_small blocks es le all.1 k d (omega (arith, lt))

-- the extents of a blob that was found lie on the volume
pub found_small : (m : Metadata) (root : Digest) (b : BlobRecord) → m.super.geometry.blocks ≤ 2 ^ 48 → blob_in m root ≡ Some b → All (λ e. e.start + e.len ≤ 2 ^ 48) b.extents
found_small m root b le found =
    let r = read_at m.nodes m.super.geometry.blocks m.nodes.count b (known_blob m root b found).0 in
    all_small m.super.geometry.blocks b.extents le (chain_extents m.nodes m.super.geometry.blocks r.0 b r.2)

pub if_ok_from : {T E : Type 0} (r : Result T E) (P Q : T → Type 0) → ((v : T) → P v → Q v) → IfOk r P → IfOk r Q
if_ok_from (Ok v) P Q f h = f v h
if_ok_from (Err x) P Q f h = tt

-- the places of a blob that was found
pub found_placed : (m : Metadata) (root : Digest) (b : BlobRecord) → blob_in m root ≡ Some b → find (placed_of (records_of m)) root ≡ Some (blocks_of b.extents)
found_placed m root b found = placed_has (records_of m) root ∙ ap (option_map places) found
