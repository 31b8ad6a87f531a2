-- The blobs that wait, and the damaged ones among them.
use Rattle.std.proofs.Common.{◌≡◌, ℕ, ◌+◌, ◌<◌, List, [], ◌∷◌, ◌++◌, length, map, take, get_or, Bool, true, false, cond, refl, sym, ap, ◌∙◌, append-nil}
use Rattle.std.specs.Prelude.{not, filter}
use Rattle.std.proofs.lemmas.List.{take_more, map-append, get_or-map, get_or-take}
use Rattle.std.proofs.lemmas.List.Elements.{filter-append}
use Rattle.std.proofs.lemmas.Grind.{flat_map-append}
use Rattle.sha2.specs.Sha256.{sha256}
use Rattle.spec_tree.specs.declared.Digest.{Digest}
use Rattle.spec_tree.specs.Order.{same_digest}
use Rattle.spec_tree.specs.Tree.{root_of}
use Rattle.spec_record.specs.declared.geometry.Geometry.{Geometry}
use Rattle.spec_image.specs.Chain.{BlobRecord}
use Rattle.spec_image.specs.Stored.{bytes_in}
use Rattle.spec_inspect.specs.Report.{is_damaged, damaged_in}
use Rattle.bv_lanes.specs.declared.message.Message.{Message}
use Rattle.bv_lanes.specs.Messages.{bytes_of}
use Rattle.bv_check.specs.declared.waiting.Waiting.{Waiting}
use Rattle.bv_check.specs.Last.{last_bytes, last_digest, unless_found, damaged_among}

-- ---- the root of one blob

pick : (t : Bool) (b : BlobRecord) → map (λ (x : BlobRecord). x.root) (cond (not t) (b ∷ []) []) ≡ cond t [] (b.root ∷ [])
pick true b = refl
pick false b = refl

pub one_damaged : (g : Geometry) (j : List (List ℕ)) (b : BlobRecord) (found : Digest) → found ≡ root_of (bytes_in g j b)
    → unless_found b.root found ≡ damaged_in g j (b ∷ [])
one_damaged g j b found is =
    ap (unless_found b.root) is ∙ sym (pick (same_digest (root_of (bytes_in g j b)) b.root) b)

-- one blob more
pub damaged_more : (g : Geometry) (j : List (List ℕ)) (bs : List BlobRecord) (b : BlobRecord)
    → damaged_in g j bs ++ damaged_in g j (b ∷ []) ≡ damaged_in g j (bs ++ b ∷ [])
damaged_more g j bs b =
    sym (map-append (λ (x : BlobRecord). x.root) (filter (is_damaged g j) bs) (filter (is_damaged g j) (b ∷ [])))
    ∙ ap (map (λ (x : BlobRecord). x.root)) (sym (filter-append (is_damaged g j) bs (b ∷ [])))

-- ---- those that wait

off : Waiting → List Digest
off w = unless_found w.root (last_digest w.last)

pub waiting_more : (ws : List Waiting) (i : ℕ) (d : Waiting) → i < length ws
    → damaged_among (take (i + 1) ws) ≡ damaged_among (take i ws) ++ unless_found (get_or ws i d).root (last_digest (get_or ws i d).last)
unfolding off
waiting_more ws i d low =
    ap damaged_among (take_more ws i d low)
    ∙ flat_map-append off (take i ws) (get_or ws i d ∷ [])
    ∙ ap (λ (x : List Digest). damaged_among (take i ws) ++ x) (append-nil (off (get_or ws i d)))

pub waiting_one : (ws : List Waiting) (w : Waiting) → damaged_among (ws ++ w ∷ []) ≡ damaged_among ws ++ damaged_among (w ∷ [])
unfolding off
waiting_one ws w = flat_map-append off ws (w ∷ [])

-- the digest that was found for one
pub found_at : (ws : List Waiting) (found : List (List ℕ)) (i : ℕ) (d : Waiting) (none : List ℕ) → i < length ws
    → take (length ws) found ≡ map (λ (w : Waiting). sha256 (last_bytes w.last)) ws
    → get_or found i none ≡ sha256 (last_bytes (get_or ws i d).last)
found_at ws found i d none low all =
    sym (get_or-take (length ws) found i none low)
    ∙ ap (λ (xs : List (List ℕ)). get_or xs i none) all
    ∙ get_or-map (λ (w : Waiting). sha256 (last_bytes w.last)) ws i d none low

-- ---- their messages

map-map : {A B C : Type 0} (f : A → B) (g : B → C) (xs : List A) → map g (map f xs) ≡ map (λ x. g (f x)) xs
map-map f g [] = refl
map-map f g (x ∷ xs) = ap (λ ys. g (f x) ∷ ys) (map-map f g xs)

pub messages_hashed : (ws : List Waiting) (ms : List Message) → map (λ (m : Message). bytes_of m) ms ≡ map (λ (w : Waiting). last_bytes w.last) ws
    → map (λ (m : Message). sha256 (bytes_of m)) ms ≡ map (λ (w : Waiting). sha256 (last_bytes w.last)) ws
messages_hashed ws ms same =
    sym (map-map (λ (m : Message). bytes_of m) sha256 ms) ∙ ap (map sha256) same ∙ map-map (λ (w : Waiting). last_bytes w.last) sha256 ws
