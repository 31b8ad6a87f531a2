-- The trees of two unlike blobs that collide nowhere.
use Rattle.std.proofs.Common.{◌≡◌, ◌≢◌, ◌<◌, ◌≤◌, ℕ, List, [], ◌∷◌, slice_index, false, refl, ap, subst, arith}
use Rattle.std.specs.Str.{bytes_eq}
use Rattle.std.proofs.lemmas.Bool.Decides.{not_from_Decides}
use Rattle.std.proofs.lemmas.Slice.Eq.{bytes_eq-Decides}
use Rattle.std.proofs.lemmas.List.Elements.{All-nil, All-cons}
use Rattle.sha2.specs.Sha256.{sha256, digest_bytes, hash_after, compress, rounds, schedule, first_words}
use Rattle.spec_tree.specs.Tree.{digests_at, levels_above, levels_of, root_of}
use Rattle.spec_exhibit.specs.Exhibit.{AreBytes, IsCollisionOf, TreesCollide, message_at}
use Rattle.spec_exhibit.proofs.CollisionLemmas.{root-unlike}

-- the blob of one byte
abbrev blob_of : ℕ → List ℕ
blob_of byte = byte ∷ []

-- both digests are computed here
digests-unlike : bytes_eq (sha256 (message_at (blob_of 0) 0 0))
    (sha256 (message_at (blob_of 1) 0 0)) ≡ false
unfolding sha256 digest_bytes hash_after compress rounds schedule first_words
digests-unlike = refl

level-first : (level : ℕ) → level ≤ levels_of 1 → level ≡ 0
unfolding levels_of levels_above
level-first level within = omega (arith, within)

index-first : (index : ℕ) → index < digests_at 1 0 → index ≡ 0
unfolding digests_at
index-first index within = omega (arith, within)

-- the one block of both trees
first-not : ¬ IsCollisionOf (blob_of 0) (blob_of 1) 0 0
first-not c = not_from_Decides _ (bytes_eq-Decides _ _) digests-unlike c.messages.same

pub two_bytes-not : ¬ TreesCollide (blob_of 0) (blob_of 1)
two_bytes-not (level, (index, c)) =
    let bottom : level ≡ 0 = level-first level c.first_block.level_within in
    let at_bottom = subst (λ (n : ℕ). IsCollisionOf (blob_of 0) (blob_of 1) n index) bottom c in
    let start : index ≡ 0 = index-first index at_bottom.first_block.index_within in
    first-not (subst (λ (n : ℕ). IsCollisionOf (blob_of 0) (blob_of 1) 0 n) start at_bottom)

byte-is : (byte : ℕ) → byte < 256 → AreBytes (blob_of byte)
byte-is byte lt = All-cons (λ b. b < 256) byte [] lt (All-nil (λ b. b < 256))

bytes-unlike : blob_of 0 ≢ blob_of 1
bytes-unlike e =
    let one : 0 ≡ 1 = ap (λ (bytes : List ℕ). slice_index bytes 0) e in
    absurd (omega (arith, one))

pub two_roots-unlike : root_of (blob_of 0) ≢ root_of (blob_of 1)
two_roots-unlike =
    root-unlike (blob_of 0) (blob_of 1) (byte-is 0 (omega arith)) (byte-is 1 (omega arith)) refl
    bytes-unlike two_bytes-not
