-- The steps of the plain programs: one event more of the list.
use Rattle.std.proofs.Common.{◌≡◌, ◌<◌, ◌≤◌, ◌↔◌, IsTrue, ℕ, ◌+◌, ◌-◌, ◌*◌, List, [], ◌∷◌, ◌++◌, length, take, drop, map, Bool, true, false, refl, ap, sym, ◌∙◌, subst, inl, inr, arith, add-one, get_or, drop-cons}
use Rattle.std.specs.List.{Contains}
use Rattle.std.proofs.lemmas.List.{length_push, length-take-le, map-append, length-drop, drop_all, take_all, get_or_past}
use Rattle.std.proofs.lemmas.List.Elements.{Contains-append_left, Contains-append_right, Contains-append_cases}
use Rattle.std.proofs.lemmas.Bool.{false≢true, cases_lt}
use Rattle.std.proofs.lemmas.Grind.{take_at_read}
use Rattle.spec_disk.specs.declared.event.Event.{Event}
use Rattle.spec_disk.specs.declared.event.Event.TheVariants.{Sync}
use Rattle.spec_disk.specs.Disk.{block, sector, synced_part, unsynced_part, synced_after}
use Rattle.spec_disk.specs.Images.{written_to, candidates, IsImage}
use Rattle.spec_disk.proofs.EventLemmas.{is_ok_sync, length-synced_after, synced_part-push, synced_part-push_sync, written_to-append}
use Rattle.spec_disk.proofs.ImageLemmas.{Contains-head, Contains-cons, Contains-cons_cases}

take-more : (p : List Event) (i : ℕ) (d e : Event) → i < length p → get_or p i d ≡ e → take (i + 1) p ≡ take i p ++ e ∷ []
take-more p i d e below is = (take_at_read p i d below).1 ∙ ap (λ (x : Event). take i p ++ x ∷ []) is

pub synced_len-sync : (p : List Event) (i : ℕ) (d : Event) → i < length p → get_or p i d ≡ Sync true → length (synced_part (take (i + 1) p)) ≡ i + 1
synced_len-sync p i d below is =
    let all : synced_part (take (i + 1) p) ≡ take i p ++ Sync true ∷ [] = ap (λ (q : List Event). synced_part q) (take-more p i d (Sync true) below is) ∙ synced_part-push_sync (take i p) in
    ap (λ (q : List Event). length q) all ∙ length_push (take i p) (Sync true) ∙ ap (λ (n : ℕ). n + 1) (length-take-le i p (omega (arith, below)))

pub synced_len-other : (p : List Event) (i : ℕ) (d e : Event) → i < length p → get_or p i d ≡ e → is_ok_sync e ≡ false → length (synced_part (take (i + 1) p)) ≡ length (synced_part (take i p))
synced_len-other p i d e below is none = ap (λ (q : List Event). length (synced_part q)) (take-more p i d e below is) ∙ ap (λ (q : List Event). length q) (synced_part-push (take i p) e none)

-- A test that tells whether a fact holds

pub told_true : (P : Type 0) → P → IsTrue true ↔ P
told_true P p = (λ _. p, λ _. refl)

pub told_false : (P : Type 0) → (P → ⊥) → IsTrue false ↔ P
told_false P never = (λ e. absurd (false≢true e), λ p. absurd (never p))

pub holds_at : (r : Bool) (P : Type 0) → IsTrue r ↔ P → r ≡ true → P
holds_at r P tells is = tells.0 is

pub fails_at : (r : Bool) (P : Type 0) → IsTrue r ↔ P → r ≡ false → P → ⊥
fails_at r P tells is p = false≢true (sym is ∙ tells.1 p)

-- the sectors s of the writes to block b
abbrev pub sectors_of : ℕ → ℕ → List Event → List (List ℕ)
sectors_of b s p = map (λ w. sector w s) (written_to b p)

drop-more : (p : List Event) (i : ℕ) (d : Event) → i < length p → drop i p ≡ get_or p i d ∷ drop (i + 1) p
drop-more p i d below = rw add-one (drop-cons p i d below)

pub sectors_of-drop : (b s : ℕ) (p : List Event) (i : ℕ) (d : Event) → i < length p → sectors_of b s (drop i p) ≡ sectors_of b s (get_or p i d ∷ []) ++ sectors_of b s (drop (i + 1) p)
sectors_of-drop b s p i d below =
    ap (λ (q : List Event). sectors_of b s q) (drop-more p i d below)
    ∙ ap (λ (ws : List (List ℕ)). map (λ w. sector w s) ws) (written_to-append b (get_or p i d ∷ []) (drop (i + 1) p))
    ∙ map-append (λ (w : List ℕ). sector w s) (written_to b (get_or p i d ∷ [])) (written_to b (drop (i + 1) p))

-- the events that are left have the sector, and so all have
pub left-here : (b s : ℕ) (p : List Event) (i : ℕ) (d : Event) (x : List ℕ) → i < length p → Contains (sectors_of b s (get_or p i d ∷ [])) x → Contains (sectors_of b s (drop i p)) x
left-here b s p i d x below here =
    subst (λ xs. Contains xs x) (sym (sectors_of-drop b s p i d below))
    (Contains-append_left (sectors_of b s (get_or p i d ∷ [])) (sectors_of b s (drop (i + 1) p)) x here)

pub left-later : (b s : ℕ) (p : List Event) (i : ℕ) (d : Event) (x : List ℕ) → i < length p → (Contains (sectors_of b s (get_or p i d ∷ [])) x → ⊥) → Contains (sectors_of b s (drop (i + 1) p)) x ↔ Contains (sectors_of b s (drop i p)) x
left-later b s p i d x below never = (
  λ later. subst (λ xs. Contains xs x) (sym (sectors_of-drop b s p i d below)) (Contains-append_right (sectors_of b s (get_or p i d ∷ [])) (sectors_of b s (drop (i + 1) p)) x later),
  λ left. elim (Contains-append_cases (sectors_of b s (get_or p i d ∷ [])) (sectors_of b s (drop (i + 1) p)) x (subst (λ xs. Contains xs x) (sectors_of-drop b s p i d below) left)) [
    | inl here ↦ absurd (never here)
    | inr later ↦ later
  ],
)

-- one candidate more, which isn't it
pub tells-cons : (y x : List ℕ) (xs : List (List ℕ)) (r : Bool) → (y ≡ x → ⊥) → IsTrue r ↔ Contains xs x → IsTrue r ↔ Contains (y ∷ xs) x
tells-cons y x xs r ne tells = (λ is. Contains-cons y xs x (tells.0 is), λ c. elim (Contains-cons_cases y xs x c) [ inl here ↦ absurd (ne here) | inr more ↦ tells.1 more ])

-- what holds below n and at n holds below n + 1
pub more_sectors : (P : ℕ → Type 0) (n : ℕ) → ((s : ℕ) → s < n → P s) → P n → (s : ℕ) → s < n + 1 → P s
more_sectors P n below here s lt = elim (cases_lt s n) [ inl before ↦ below s before | inr past ↦ let is : n ≡ s = omega arith in subst P is here ]

-- from sector 16 on a block has no bytes
pub sector-past : (bytes : List ℕ) (s : ℕ) → length bytes ≤ 8192 → 16 ≤ s → sector bytes s ≡ []
sector-past bytes s short past = ap (λ (x : List ℕ). take 512 x) (drop_all (512 * s) bytes (omega arith))

-- the values that a stop may leave in sector s of a block
abbrev pub left_in : List ℕ → ℕ → List Event → ℕ → List (List ℕ)
left_in synced b since s = map (λ w. sector w s) (synced ∷ written_to b since)

-- a block is left by a stop where its 16 sectors are
pub all_sectors : (block synced : List ℕ) (b : ℕ) (since : List Event) → length block ≤ 8192 → length synced ≤ 8192 → ((s : ℕ) → s < 16 → Contains (left_in synced b since s) (sector block s)) → (s : ℕ) → Contains (left_in synced b since s) (sector block s)
all_sectors block synced b since short old each s = elim (cases_lt s 16) [
  | inl below ↦ each s below
  | inr past ↦
      let same : sector synced s ≡ sector block s = sector-past synced s old past ∙ sym (sector-past block s short past) in
      subst (λ x. Contains (left_in synced b since s) x) same (Contains-head (sector synced s) (sectors_of b s since))
]

-- the events from there on are the unsynced part
pub since-is : (p : List Event) (n : ℕ) → n ≡ length (synced_part p) → take (length p - n) (drop n p) ≡ unsynced_part p
since-is p n is = take_all (length p - n) (drop n p) (omega (arith, length-drop n p)) ∙ ap (λ (k : ℕ). drop k p) is

-- an image is found by its blocks: past the last there is nothing
pub image-by_blocks : (base image synced : List (List ℕ)) (p since : List Event) (r : Bool) → length image ≡ length base → synced ≡ synced_after base p → since ≡ unsynced_part p
    → IsTrue r ↔ ((b s : ℕ) → b < length image → Contains (left_in (block synced b) b since s) (sector (block image b) s)) → IsTrue r ↔ IsImage base p image
image-by_blocks base image synced p since r long synced_is since_is tells = (
  λ is. record {
    as_long = long;
    each_sector = λ b s. subst (λ xs. Contains xs (sector (block image b) s)) (same b s) (elim (cases_lt b (length image)) [
      | inl below ↦ tells.0 is b s below
      | inr past ↦
          let none : block image b ≡ [] = get_or_past image b [] past in
          let none_synced : block synced b ≡ [] = get_or_past synced b [] (omega (arith, past, long, length-synced_after base p, ap (λ (d : List (List ℕ)). length d) synced_is)) in
          subst (λ x. Contains (left_in (block synced b) b since s) (sector x s)) (none_synced ∙ sym none) (Contains-head (sector (block synced b) s) (sectors_of b s since))
    ]);
  },
  λ image_is. tells.1 (λ b s below. subst (λ xs. Contains xs (sector (block image b) s)) (sym (same b s)) (image_is.each_sector b s)),
)
  where
    same : (b s : ℕ) → left_in (block synced b) b since s ≡ candidates base p b s
    same b s = ap (λ (d : List (List ℕ)). left_in (block d b) b since s) synced_is ∙ ap (λ (q : List Event). left_in (block (synced_after base p) b) b q s) since_is
