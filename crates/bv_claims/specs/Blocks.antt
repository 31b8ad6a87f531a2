-- Lists of blocks: how often a block stands in one, and in what order the blocks stand.
use Rattle.std.specs.Prelude.{◌≡◌, ℕ, zero, suc, ◌+◌, ◌*◌, ◌<◌, ◌≤◌, ◌==◌, List, [], ◌∷◌, ◌++◌, if◌then◌else◌}

-- how often the block stands in the list
abbrev pub times : ℕ → List ℕ → ℕ
times b [] = 0
times b (x ∷ xs) = (if x == b then 1 else 0) + times b xs

-- the list less the first of its entries that is this block
abbrev pub without : ℕ → List ℕ → List ℕ
without b [] = []
without b (x ∷ xs) = if x == b then xs else x ∷ without b xs

-- the two lists have the same blocks, each as often
abbrev pub HaveSameBlocks : List ℕ → List ℕ → Type 0
HaveSameBlocks xs ys = (b : ℕ) → times b xs ≡ times b ys

-- each block of the first list stands in the second, and at least as often
abbrev pub IsPartOf : List ℕ → List ℕ → Type 0
IsPartOf xs ys = (b : ℕ) → times b xs ≤ times b ys

-- no block stands in the list twice
abbrev pub HasEachOnce : List ℕ → Type 0
HasEachOnce xs = (b : ℕ) → times b xs ≤ 1

-- each block stands in one list or in the other
abbrev pub CoverAllFrom1 : ℕ → List ℕ → List ℕ → Type 0
CoverAllFrom1 blocks xs ys = (b : ℕ) → 1 ≤ b → b < blocks → 0 < times b xs + times b ys

-- the blocks rise, from `low` on and below `high`
abbrev pub Rises : ℕ → List ℕ → ℕ → Type 0
Rises low [] high = Unit {0}
Rises low (b ∷ bs) high = (low ≤ b) × (b < high) × Rises (b + 1) bs high

-- blocks from `start` to the last in rising order, and then blocks from 1 to below `start`, also in
-- rising order
pub record IsInCyclicOrder (start blocks : ℕ) (bs : List ℕ) : Type 0 where
  pub from_start : List ℕ
  pub from_one : List ℕ
  pub parts : bs ≡ from_start ++ from_one
  pub first : Rises start from_start blocks
  pub second : Rises 1 from_one start

-- so many blocks, one after another, from this one on
abbrev pub consecutive : ℕ → ℕ → List ℕ
consecutive b zero = []
consecutive b (suc n) = b ∷ consecutive (b + 1) n

-- the 64 blocks whose marks lie in this word
unfoldable pub blocks_of_word : ℕ → List ℕ
blocks_of_word w = consecutive (64 * w) 64
