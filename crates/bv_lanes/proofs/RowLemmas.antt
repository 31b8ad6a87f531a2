-- Two vectors shuffled, and eight rows turned into eight vectors.
use Rattle.std.proofs.Common.{◌≡◌, ℕ, List, [], ◌∷◌, ◌++◌, length, get_or, slice_index, refl}
use Rattle.bv_lanes.specs.Lanes.{EachLane, lane_word}
use Rattle.bv_lanes.proofs.LaneLemmas.{each_lane, eight_of}

-- the words at eight places of two vectors
abbrev pub places : List ℕ → List ℕ → ℕ → ℕ → ℕ → ℕ → ℕ → ℕ → ℕ → ℕ → List ℕ
places a b p q r s t u v w =
    get_or (a ++ b) p 0 ∷ get_or (a ++ b) q 0 ∷ get_or (a ++ b) r 0 ∷ get_or (a ++ b) s 0
    ∷ get_or (a ++ b) t 0 ∷ get_or (a ++ b) u 0 ∷ get_or (a ++ b) v 0 ∷ get_or (a ++ b) w 0 ∷ []

-- what holds of each two vectors
pub two_of : (P : List ℕ → List ℕ → Type 0)
    → ((a0 a1 a2 a3 a4 a5 a6 a7 b0 b1 b2 b3 b4 b5 b6 b7 : ℕ)
    → P (a0 ∷ a1 ∷ a2 ∷ a3 ∷ a4 ∷ a5 ∷ a6 ∷ a7 ∷ []) (b0 ∷ b1 ∷ b2 ∷ b3 ∷ b4 ∷ b5 ∷ b6 ∷ b7 ∷ []))
    → (a b : List ℕ) → length a ≡ 8 → length b ≡ 8 → P a b
two_of P p a b a_long b_long =
    eight_of (λ a. (b : List ℕ) → length b ≡ 8 → P a b)
    (λ a0 a1 a2 a3 a4 a5 a6 a7. eight_of (P (a0 ∷ a1 ∷ a2 ∷ a3 ∷ a4 ∷ a5 ∷ a6 ∷ a7 ∷ [])) (p a0 a1 a2 a3 a4 a5 a6 a7))
    a a_long b b_long

-- word k of each of eight vectors
abbrev pub column : List (List ℕ) → ℕ → List ℕ
column rows k =
    lane_word rows 0 k ∷ lane_word rows 1 k ∷ lane_word rows 2 k ∷ lane_word rows 3 k
    ∷ lane_word rows 4 k ∷ lane_word rows 5 k ∷ lane_word rows 6 k ∷ lane_word rows 7 k ∷ []

-- the rows turned
abbrev pub columns : List (List ℕ) → List (List ℕ)
columns rows =
    column rows 0 ∷ column rows 1 ∷ column rows 2 ∷ column rows 3
    ∷ column rows 4 ∷ column rows 5 ∷ column rows 6 ∷ column rows 7 ∷ []

column_at : (rows : List (List ℕ)) (k : ℕ) → EachLane (λ j. slice_index (column rows k) j ≡ lane_word rows j k)
column_at rows k = each_lane (λ j. slice_index (column rows k) j ≡ lane_word rows j k) refl refl refl refl refl refl refl refl

-- word j of turned row k is word k of row j
pub columns_at : (rows : List (List ℕ)) → EachLane (λ k. EachLane (λ j. lane_word (columns rows) k j ≡ lane_word rows j k))
columns_at rows = each_lane (λ k. EachLane (λ j. lane_word (columns rows) k j ≡ lane_word rows j k))
    (column_at rows 0) (column_at rows 1) (column_at rows 2) (column_at rows 3)
    (column_at rows 4) (column_at rows 5) (column_at rows 6) (column_at rows 7)

-- the first, or the last, halves of vector k of two lists
abbrev pub low_of : List (List ℕ) → List (List ℕ) → ℕ → List ℕ
low_of front back k =
    lane_word front k 0 ∷ lane_word front k 1 ∷ lane_word front k 2 ∷ lane_word front k 3
    ∷ lane_word back k 0 ∷ lane_word back k 1 ∷ lane_word back k 2 ∷ lane_word back k 3 ∷ []

abbrev pub high_of : List (List ℕ) → List (List ℕ) → ℕ → List ℕ
high_of front back k =
    lane_word front k 4 ∷ lane_word front k 5 ∷ lane_word front k 6 ∷ lane_word front k 7
    ∷ lane_word back k 4 ∷ lane_word back k 5 ∷ lane_word back k 6 ∷ lane_word back k 7 ∷ []
