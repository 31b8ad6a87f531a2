-- How often a data block stands in the extents of blobs, and in what is placed by their roots.
use Rattle.std.proofs.Common.{◌≡◌, ◌≤◌, ℕ, zero, suc, ◌+◌, List, [], ◌∷◌, leb, ltb, ◌&&◌, None, refl, ap, ◌∙◌, arith}
use Rattle.std.proofs.lemmas.Bool.Decides.{nat_tests}
use Rattle.std.proofs.lemmas.List.Sums.{sum_by-cons}
use Rattle.std.specs.Prelude.{option_map, count_by}
use Rattle.std.specs.BTreeMap.{is_at}
use Rattle.std.specs.List.{range_with_len}
use Rattle.std.specs.Map.{lookup}
use Rattle.spec_tree.specs.declared.Digest.{Digest}
use Rattle.spec_tree.specs.Order.{digest_cmp, same_digest}
use Rattle.spec_record.specs.declared.extent.Extent.{Extent}
use Rattle.spec_image.specs.Chain.{BlobRecord}
use Rattle.spec_image.specs.Stored.{blocks_of}
use Rattle.spec_image.specs.WellFormed.{covers, extents_with, blobs_named}
use Rattle.spec_image.proofs.CountLemmas.{count}
use Rattle.spec_core.proofs.Holding.{same_self}
use Rattle.spec_meta.proofs.MapLemmas.{none_named}
use Rattle.bv_claims.specs.Blocks.{times}
use Rattle.bv_claims.proofs.Counts.{times-append}
use Rattle.bv_ledger.proofs.Sums.{sum_more}
use Rattle.bv_journaled.specs.Standing.{placed_of}
use Rattle.bv_journaled.proofs.PlacedLemmas.{placed_has}
use Rattle.bv_volume.specs.Spaced.{times_placed}
use Rattle.bv_mounted.specs.Mounts.{blocks_of_all}

-- ---- extents

-- a block stands once in consecutive blocks, or not at all
pub times_range : (b s n : ℕ) → times b (range_with_len s n) ≡ count (leb s b && ltb b (s + n))
times_range b s zero = grind (arith, nat_tests)
times_range b s (suc n) = grind (arith, nat_tests, times_range b (s + 1) n)

-- a block stands in the blocks of extents as often as these cover it
pub times_blocks : (b : ℕ) (es : List Extent) → times b (blocks_of es) ≡ count_by (covers b) es
times_blocks b [] = refl
times_blocks b (e ∷ es) =
    omega (arith, times-append b (range_with_len e.start e.len) (blocks_of es), times_range b e.start e.len, times_blocks b es, sum_by-cons (λ (x : Extent). count (covers b x)) e es)

-- ---- blobs

-- and in those of blobs
pub times_all : (b : ℕ) (rs : List BlobRecord) → times b (blocks_of_all rs) ≡ extents_with rs b
times_all b [] = refl
times_all b (r ∷ rs) =
    omega (arith, times-append b (blocks_of r.extents) (blocks_of_all rs), times_blocks b r.extents, times_all b rs, sum_by-cons (λ (x : BlobRecord). count_by (covers b) x.extents) r rs)

-- and in what is placed as often as the blobs' extents cover it, where no root stands twice
pub times_at : (b : ℕ) (rs : List BlobRecord) → ((root : Digest) → blobs_named rs root ≤ 1) → times_placed b (placed_of rs) ≡ extents_with rs b
times_at b [] apart = refl
times_at b (r ∷ rs) apart =
    let sum : (q : Digest) → blobs_named (r ∷ rs) q ≡ count (same_digest q r.root) + blobs_named rs q = λ q. sum_by-cons (λ (x : BlobRecord). count (same_digest q x.root)) r rs in
    let here : count (same_digest r.root r.root) ≡ 1 = ap count (same_self r.root) in
    let none : blobs_named rs r.root ≡ 0 = omega (arith, sum r.root, here, apart r.root) in
    let absent : lookup (is_at (digest_cmp r.root)) (placed_of rs) ≡ None = placed_has rs r.root ∙ ap (option_map (λ (x : BlobRecord). blocks_of x.extents)) (none_named rs r.root none) in
    omega (
      arith,
      sum_more (times b) (placed_of rs) r.root (blocks_of r.extents) absent,
      times_at b rs (λ q. omega (arith, sum q, apart q)),
      times_blocks b r.extents,
      sum_by-cons (λ (x : BlobRecord). count_by (covers b) x.extents) r rs,
    )
