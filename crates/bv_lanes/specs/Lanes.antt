-- Eight messages side by side: each word of a state is a vector that has a lane for each message.
use Rattle.std.specs.Prelude.{◌≡◌, ℕ, ◌+◌, ◌*◌, ◌%◌, ◌<◌, ◌≤◌, List, [], ◌∷◌, slice_index, slice_index_or, map}
use Rattle.sha2.specs.Sha256.{IsWindow, rounds, schedule, word_at}

-- a fact of each lane
abbrev pub EachLane : (ℕ → Type 0) → Type 0
EachLane P = (j : ℕ) → j < 8 → P j

-- the word of lane j in vector k
abbrev pub lane_word : List (List ℕ) → ℕ → ℕ → ℕ
lane_word vectors k j = slice_index (slice_index_or vectors k []) j

-- the state of lane j: its words a to h
abbrev pub lane_state : ℕ → List (List ℕ) → List ℕ
lane_state j state =
    lane_word state 0 j ∷ lane_word state 1 j ∷ lane_word state 2 j ∷ lane_word state 3 j
    ∷ lane_word state 4 j ∷ lane_word state 5 j ∷ lane_word state 6 j ∷ lane_word state 7 j ∷ []

-- the words of lane j in a list of vectors
abbrev pub lane_words : ℕ → List (List ℕ) → List ℕ
lane_words j vectors = map (λ vector. slice_index vector j) vectors

-- these are the 16 words of a piece of 64 bytes
abbrev pub HasWords : List ℕ → List ℕ → Type 0
HasWords words piece = (t : ℕ) → t < 16 → slice_index words t ≡ word_at piece (4 * t)

-- each lane's window moves on by so many words of the schedule; the first one goes at this place
abbrev pub MovesOn : List (List ℕ) → List (List ℕ) → ℕ → ℕ → Type 0
MovesOn old new place count = (j : ℕ) → j < 8 → (piece : List ℕ) (t : ℕ)
    → 16 ≤ t → t + count ≤ 64 → t % 16 ≡ place → IsWindow (lane_words j old) (schedule piece 48) t
    → IsWindow (lane_words j new) (schedule piece 48) (t + count)

-- in each lane, where the window has the words of the sixteen rounds of a turn, so many rounds from
-- this place on lead from working variables to working variables
abbrev pub RunsRounds : List (List ℕ) → List (List ℕ) → List (List ℕ) → ℕ → ℕ → ℕ → Type 0
RunsRounds window before after turn place count = (j : ℕ) → j < 8 → (piece h : List ℕ)
    → IsWindow (lane_words j window) (schedule piece 48) (16 * turn + 16)
    → lane_state j before ≡ rounds h (schedule piece 48) (16 * turn + place)
    → lane_state j after ≡ rounds h (schedule piece 48) (16 * turn + place + count)

-- words k and 4 + k of each of four vectors
abbrev pub four_words : List ℕ → List ℕ → List ℕ → List ℕ → ℕ → List ℕ
four_words a b c d k =
    slice_index a k ∷ slice_index b k ∷ slice_index c k ∷ slice_index d k
    ∷ slice_index a (4 + k) ∷ slice_index b (4 + k)
    ∷ slice_index c (4 + k) ∷ slice_index d (4 + k) ∷ []
