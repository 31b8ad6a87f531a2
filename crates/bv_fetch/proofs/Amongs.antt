-- The data and the tree among a blob's blocks: what a fetch finds is found among these.
use Rattle.std.proofs.Common.{◌≡◌, ℕ, zero, suc, ◌+◌, ◌-◌, ◌<◌, ◌≤◌, ◌==◌, Bool, true, false, List, [], ◌∷◌, length, take, drop, map, refl, ap, sym, ◌∙◌, arith}
use Rattle.std.specs.Prelude.{All, if◌then◌else◌}
use Rattle.std.specs.List.{range_with_len, sum_by}
use Rattle.std.proofs.lemmas.List.{length-map, length-take, length-drop, take-map, drop-map, get_or-take}
use Rattle.std.proofs.lemmas.List.Elements.{All-take, All-drop}
use Rattle.spec_tree.specs.declared.Digest.{Digest}
use Rattle.spec_tree.specs.declared.blob.Blob.{Blob}
use Rattle.spec_tree.specs.Tree.{data_blocks, digests_at, levels_of, need_of, tree_blocks_of, windows_of}
use Rattle.spec_image.specs.Stored.{fetched_path}
use Rattle.spec_window.specs.Window.{index_above}
use Rattle.bv_store.specs.Stored.{blob_record}
use Rattle.bv_fetch.specs.Windows.{data_among, tree_among, path_among}
use Rattle.bv_fetch.proofs.Sums.{index-there, sum-next}

module _ {X Y : Type 0} (f : X → Y) (version size : ℕ) (xs : List X) where
  abbrev k : ℕ
  k = data_blocks size

  pub data-map : map f (data_among version size xs) ≡ data_among version size (map f xs)
  data-map = go (version == 2)
    where
      go : (two : Bool) → map f (if two then take k xs else drop (length xs - k) xs) ≡ (if two then take k (map f xs) else drop (length (map f xs) - k) (map f xs))
      go true = sym (take-map f k xs)
      go false = sym (drop-map f (length xs - k) xs) ∙ ap (λ (n : ℕ). drop (n - k) (map f xs)) (sym (length-map xs f))

  pub tree-map : map f (tree_among version size xs) ≡ tree_among version size (map f xs)
  tree-map = go (version == 2)
    where
      go : (two : Bool) → map f (if two then drop k xs else take (length xs - k) xs) ≡ (if two then drop k (map f xs) else take (length (map f xs) - k) (map f xs))
      go true = sym (drop-map f k xs)
      go false = sym (take-map f (length xs - k) xs) ∙ ap (λ (n : ℕ). take (n - k) (map f xs)) (sym (length-map xs f))

pub data-within : {X : Type 0} (version size : ℕ) (xs : List X) → length xs ≡ need_of version size → data_blocks size ≤ length xs
unfolding need_of
data-within version size xs need = omega (arith, need)

pub length-data : {X : Type 0} (version size : ℕ) (xs : List X) → length xs ≡ need_of version size → length (data_among version size xs) ≡ data_blocks size
unfolding need_of
length-data {X} version size xs need = go (version == 2)
  where
    go : (two : Bool) → length (if two then take (data_blocks size) xs else drop (length xs - data_blocks size) xs) ≡ data_blocks size
    go true = length-take (data_blocks size) xs ∙ omega (arith, need)
    go false = length-drop (length xs - data_blocks size) xs ∙ omega (arith, need)

pub length-tree : {X : Type 0} (version size : ℕ) (xs : List X) → length xs ≡ need_of version size → length (tree_among version size xs) ≡ tree_blocks_of version size
unfolding need_of
length-tree {X} version size xs need = go (version == 2)
  where
    go : (two : Bool) → length (if two then drop (data_blocks size) xs else take (length xs - data_blocks size) xs) ≡ tree_blocks_of version size
    go true = length-drop (data_blocks size) xs ∙ omega (arith, need)
    go false = length-take (length xs - data_blocks size) xs ∙ omega (arith, need)

-- what holds of all blocks holds of the data and of the tree
pub data-of : {X : Type 0} (P : X → Type 0) (version size : ℕ) (xs : List X) → All P xs → All P (data_among version size xs)
data-of {X} P version size xs all = go (version == 2)
  where
    go : (two : Bool) → All P (if two then take (data_blocks size) xs else drop (length xs - data_blocks size) xs)
    go true = All-take P (data_blocks size) xs all
    go false = All-drop P (length xs - data_blocks size) xs all

pub tree-of : {X : Type 0} (P : X → Type 0) (version size : ℕ) (xs : List X) → All P xs → All P (tree_among version size xs)
tree-of {X} P version size xs all = go (version == 2)
  where
    go : (two : Bool) → All P (if two then drop (data_blocks size) xs else take (length xs - data_blocks size) xs)
    go true = All-drop P (data_blocks size) xs all
    go false = All-take P (length xs - data_blocks size) xs all

-- functions that agree on a range
pub same-on : {X : Type 0} (f g : ℕ → X) (a n : ℕ) → ((i : ℕ) → a ≤ i → i < a + n → f i ≡ g i) → map f (range_with_len a n) ≡ map g (range_with_len a n)
same-on f g a zero same = refl
same-on f g a (suc n) same =
    ap (λ x. x ∷ map f (range_with_len (a + 1) n)) (same a (omega arith) (omega arith))
    ∙ ap (λ xs. g a ∷ xs) (same-on f g (a + 1) n (λ i low high. same i (omega (arith, low)) (omega (arith, high))))

-- version 1: a block of a level is one of the tree
pub padded-there : (size level i : ℕ) → 1 ≤ level → level ≤ levels_of size → i < digests_at size level → sum_by (digests_at size) (range_with_len 1 (level - 1)) + i < tree_blocks_of 1 size
unfolding tree_blocks_of
padded-there size level i low high there =
    let up : 1 + (level - 1) ≡ level = omega (arith, low) in
    omega (arith, there, sum-next (digests_at size) 1 level (levels_of size) low high, ap (digests_at size) up)

pub tree-one : (version size : ℕ) → (version == 2) ≡ false → tree_blocks_of version size ≡ tree_blocks_of 1 size
unfolding tree_blocks_of
tree-one version size other = rw other refl

-- the path that a fetch finds
pub path-is : (root : Digest) (blob : Blob) (w : ℕ) (blocks : List (List ℕ)) → length blocks ≡ need_of blob.version blob.size → w < windows_of blob.size
    → path_among blob.version blob.size (tree_among blob.version blob.size blocks) w ≡ fetched_path (blob_record root blob) blocks w
path-is root blob w blocks need there = go (blob.version == 2) refl
  where
    go : (two : Bool) → (blob.version == 2) ≡ two → path_among blob.version blob.size (tree_among blob.version blob.size blocks) w ≡ fetched_path (blob_record root blob) blocks w
    go true is = rw is refl
    go false is =
        let n : ℕ = length blocks - data_blocks blob.size in
        let long : length (take n blocks) ≡ tree_blocks_of blob.version blob.size = rw is at (length-tree blob.version blob.size blocks need) in
        rw is (same-on _ _ 1 (levels_of blob.size) (λ level low high.
        get_or-take n blocks _ [] (omega (arith, length-take n blocks, long, tree-one blob.version blob.size is, padded-there blob.size level (index_above w level) low (omega (arith, high)) (index-there blob.size w level there)))))
