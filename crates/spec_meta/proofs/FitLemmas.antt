-- A publish and a purge that fit.
use Rattle.std.proofs.Common.{◌≡◌, ◌≤◌, ◌<◌, ℕ, [], ◌∷◌, Ok, refl, subst, inl, inr, arith}
use Rattle.std.proofs.lemmas.Bool.{cases_eq}
use Rattle.std.proofs.lemmas.List.Elements.{All-nil}
use Rattle.spec_tree.specs.Tree.{need_of, data_blocks}
use Rattle.spec_tree.proofs.SizesLemmas.{need-small}
use Rattle.spec_tree.specs.declared.Digest.{Digest}
use Rattle.spec_record.specs.Extent.{IsExtent}
use Rattle.spec_record.specs.declared.node.Node.TheVariants as nodes
use Rattle.spec_image.specs.Metadata.{Metadata}
use Rattle.spec_meta.specs.Change.{times}
use Rattle.spec_meta.specs.Fits.{FitsPublish}
use Rattle.spec_meta.specs.Laws.{empty_blob, CanChange, EmptyBlobFits}
use Rattle.spec_meta.proofs.Counting.{times_same, times_other}
use Rattle.spec_meta.proofs.ChangeLemmas.{published_in}

-- a blob without bytes needs no block
need_none : 0 ≡ need_of 1 0
need_none =
    let none : data_blocks 0 ≡ 0 = refl in omega (arith, need-small 1 0, none)

fits : (m : Metadata) (root : Digest) (k : ℕ) → CanChange m root k → FitsPublish m (empty_blob root k)
fits m root k can = record {
  version = record { from_low = omega arith; to_high = can.version.from_low };
  extents = All-nil (IsExtent m.super.geometry.blocks);
  need = need_none;
  few = omega arith;
  blocks_once = λ d. omega arith;
  blocks_clear = λ d used. absurd (omega (arith, used));
  node_count = refl;
  nodes_once = λ j. at_most j;
  nodes_free = λ j used. alone j used;
  new_root = can.new_root;
}
  where
    at_most : (j : ℕ) → times j (k ∷ []) ≤ 1
    at_most j =
        elim (cases_eq k j) [
          | inl is ↦ subst (λ (x : ℕ). times x (k ∷ []) ≤ 1) is (omega (arith, times_same k []))
          | inr ne ↦ omega (arith, times_other k j [] ne)
        ]

    alone : (j : ℕ) → 1 ≤ times j (k ∷ []) → (j < m.nodes.count) × (m.nodes.read j ≡ Ok nodes.Free)
    alone j used =
        elim (cases_eq k j) [
          | inl is ↦ subst (λ (x : ℕ). (x < m.nodes.count) × (m.nodes.read x ≡ Ok nodes.Free)) is (can.within, can.free)
          | inr ne ↦ absurd (omega (arith, used, times_other k j [] ne))
        ]

pub empty_blob_fits : EmptyBlobFits
empty_blob_fits m root k w can =
    let fit = fits m root k can in
    (fit, (record { blob = empty_blob root k; present = published_in m (empty_blob root k) w fit; nodes = refl; extents = refl }, tt))
