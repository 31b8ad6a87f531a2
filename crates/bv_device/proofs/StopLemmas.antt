-- Candidates, block by block and sector by sector.
use Rattle.std.proofs.Common.{◌≡◌, ◌≢◌, ◌<◌, ◌≤◌, ℕ, zero, suc, ◌+◌, ◌-◌, ◌*◌, List, [], ◌∷◌, ◌++◌, length, take, drop, map, min, Bool, true, false, refl, ap, sym, ◌∙◌, subst, arith, get_or, set, cond, eqb, eq-eqb, add-one, drop-cons, inl, inr, length-take, length-drop}
use Rattle.std.specs.List.{Contains}
use borrow.Rule.Slice.PartMut.{put_mid}
use Rattle.std.proofs.lemmas.List.{drop-take, get_or_default, get_or-set_same, get_or-set_other}
use Rattle.std.proofs.lemmas.Slice.{between-put_mid, take-put_mid_below, drop-put_mid}
use Rattle.std.proofs.lemmas.Bool.{cases_lt, false≢true}
use Rattle.std.proofs.lemmas.Bool.Decides.{eqb_tells}
use Rattle.spec_disk.specs.declared.event.Event.{Event}
use Rattle.spec_disk.specs.declared.event.Event.TheVariants.{Write, Sync}
use Rattle.spec_disk.specs.Disk.{block, sector, unsynced_part, synced_after}
use Rattle.spec_disk.specs.Images.{written_to, IsImage}
use Rattle.spec_disk.proofs.EventLemmas.{length-synced_after}
use Rattle.spec_disk.proofs.ProgramLemmas.{told_true, image-by_blocks}
use Rattle.std.proofs.Math.Seq.{take-append_seam}
use Rattle.spec_disk.proofs.ImageLemmas.{Contains-head, Contains-map}
use Rattle.bv_device.specs.Stop.{open_blocks, byte_for, nth_or_last, IsChosen}

-- n steps along these, or as far as they go
abbrev pub pick : List ℕ → List (List ℕ) → ℕ → List ℕ
pick first [] n = first
pick first (next ∷ rest) zero = first
pick first (next ∷ rest) (suc n) = pick next rest n

pub pick-nth_or_last : (first : List ℕ) (rest : List (List ℕ)) (n : ℕ) → pick first rest n ≡ nth_or_last (first ∷ rest) n
pick-nth_or_last first [] n =
    let at : min n (length (first ∷ []) - 1) ≡ 0 = omega arith in
    sym (ap (λ (k : ℕ). get_or (first ∷ []) k []) at)
pick-nth_or_last first (next ∷ rest) zero =
    let at : min 0 (length (first ∷ next ∷ rest) - 1) ≡ 0 = omega arith in
    sym (ap (λ (k : ℕ). get_or (first ∷ next ∷ rest) k []) at)
pick-nth_or_last first (next ∷ rest) (suc n) =
    let at : min (suc n) (length (first ∷ next ∷ rest) - 1) ≡ suc (min n (length (next ∷ rest) - 1)) = omega arith in
    pick-nth_or_last next rest n ∙ sym (ap (λ (k : ℕ). get_or (first ∷ next ∷ rest) k []) at)

-- no step is left
pub pick-none : (first : List ℕ) (rest : List (List ℕ)) → pick first rest 0 ≡ first
pick-none first [] = refl
pick-none first (next ∷ rest) = refl

-- One event more

drop-more : (p : List Event) (i : ℕ) (d e : Event) → i < length p → get_or p i d ≡ e → drop i p ≡ e ∷ drop (i + 1) p
drop-more p i d e below is = rw add-one (drop-cons p i d below ∙ ap (λ (x : Event). x ∷ drop (suc i) p) is)

written_to-here : (b at : ℕ) (bytes : List ℕ) (ok : Bool) (p : List Event) → at ≡ b → written_to b (Write at bytes ok ∷ p) ≡ bytes ∷ written_to b p
written_to-here b at bytes ok p is = ap (λ (t : Bool). cond t (bytes ∷ written_to b p) (written_to b p)) (eq-eqb at b is)

written_to-elsewhere : (b at : ℕ) (bytes : List ℕ) (ok : Bool) (p : List Event) → (at ≡ b → ⊥) → written_to b (Write at bytes ok ∷ p) ≡ written_to b p
written_to-elsewhere b at bytes ok p other = elim (eqb_tells at b) [
  | inl (t, same) ↦ absurd (other same)
  | inr (f, ne) ↦ ap (λ (t : Bool). cond t (bytes ∷ written_to b p) (written_to b p)) f
]

pick-one : (first next : List ℕ) (rest : List (List ℕ)) (n : ℕ) → 0 < n → pick next rest (n - 1) ≡ pick first (next ∷ rest) n
pick-one first next rest zero some = absurd (omega (arith, some))
pick-one first next rest (suc n) some = let e : suc n - 1 ≡ n = omega arith in ap (λ (k : ℕ). pick next rest k) e

-- a write to the block, and a step
pub pick-taken : (b : ℕ) (p : List Event) (i : ℕ) (d : Event) (at : ℕ) (bytes : List ℕ) (ok : Bool) (found : List ℕ) (left : ℕ) → i < length p → get_or p i d ≡ Write at bytes ok
    → at ≡ b → 0 < left → pick bytes (written_to b (drop (i + 1) p)) (left - 1) ≡ pick found (written_to b (drop i p)) left
pick-taken b p i d at bytes ok found left below is same some =
    pick-one found bytes (written_to b (drop (i + 1) p)) left some
    ∙ ap (λ (w : List (List ℕ)). pick found w left) (sym (ap (λ (q : List Event). written_to b q) (drop-more p i d (Write at bytes ok) below is) ∙ written_to-here b at bytes ok (drop (i + 1) p) same))

-- no step is left
pub pick-over : (b : ℕ) (p : List Event) (i : ℕ) (found : List ℕ) (left : ℕ) → left ≤ 0
    → pick found (written_to b (drop (i + 1) p)) left ≡ pick found (written_to b (drop i p)) left
pick-over b p i found left over =
    let none : left ≡ 0 = omega (arith, over) in
    ap (λ (k : ℕ). pick found (written_to b (drop (i + 1) p)) k) none ∙ pick-none found _ ∙ sym (pick-none found (written_to b (drop i p)))
    ∙ ap (λ (k : ℕ). pick found (written_to b (drop i p)) k) (sym none)

-- a write to another block
pub pick-elsewhere : (b : ℕ) (p : List Event) (i : ℕ) (d : Event) (at : ℕ) (bytes : List ℕ) (ok : Bool) (found : List ℕ) (left : ℕ) → i < length p → get_or p i d ≡ Write at bytes ok
    → (at ≡ b → ⊥) → pick found (written_to b (drop (i + 1) p)) left ≡ pick found (written_to b (drop i p)) left
pick-elsewhere b p i d at bytes ok found left below is other =
    ap (λ (w : List (List ℕ)). pick found w left) (sym (ap (λ (q : List Event). written_to b q) (drop-more p i d (Write at bytes ok) below is) ∙ written_to-elsewhere b at bytes ok (drop (i + 1) p) other))

-- a sync
pub pick-sync : (b : ℕ) (p : List Event) (i : ℕ) (d : Event) (ok : Bool) (found : List ℕ) (left : ℕ) → i < length p → get_or p i d ≡ Sync ok
    → pick found (written_to b (drop (i + 1) p)) left ≡ pick found (written_to b (drop i p)) left
pick-sync b p i d ok found left below is =
    ap (λ (w : List (List ℕ)). pick found w left) (sym (ap (λ (q : List Event). written_to b q) (drop-more p i d (Sync ok) below is)))

-- A sector that is written

-- what the code writes from place a on, n bytes
abbrev pub written : ℕ → List ℕ → List ℕ → List ℕ
written s x y = put_mid (512 * s) (512 * s + 512 - 512 * s) x y

pub sector-written : (s : ℕ) (x from y : List ℕ) → s < 16 → length x ≡ 8192 → length from ≡ 8192 → y ≡ take (512 * s + 512 - 512 * s) (drop (512 * s) from)
    → sector (written s x y) s ≡ sector from s
sector-written s x from y below long from_long is =
    let n_is : 512 ≡ 512 * s + 512 - 512 * s = omega arith in
    let y_long : length y ≡ 512 * s + 512 - 512 * s = ap (λ (l : List ℕ). length l) is ∙ simp (length-take, length-drop) (omega arith) in
    ap (λ (n : ℕ). take n (drop (512 * s) (written s x y))) n_is
    ∙ between-put_mid (512 * s) (512 * s + 512 - 512 * s) x y (512 * s + 512) (omega arith) y_long
    ∙ is ∙ ap (λ (n : ℕ). take n (drop (512 * s) from)) (sym n_is)

pub sector-others : (s t : ℕ) (x from y : List ℕ) → s < 16 → length x ≡ 8192 → length from ≡ 8192 → y ≡ take (512 * s + 512 - 512 * s) (drop (512 * s) from)
    → t ≢ s → sector (written s x y) t ≡ sector x t
sector-others s t x from y below long from_long is other =
    let y_long : length y ≡ 512 * s + 512 - 512 * s = ap (λ (l : List ℕ). length l) is ∙ simp (length-take, length-drop) (omega arith) in
    elim (cases_lt t s) [
      | inl before ↦
          sym (drop-take (512 * t) 512 (written s x y))
          ∙ ap (λ (l : List ℕ). drop (512 * t) l) (take-put_mid_below (512 * s) (512 * s + 512 - 512 * s) x y (512 * t + 512) (omega arith) (omega arith))
          ∙ drop-take (512 * t) 512 x
      | inr past ↦ ap (λ (l : List ℕ). take 512 l) (drop-put_mid (512 * s) (512 * s + 512 - 512 * s) x y (512 * t) (omega (arith, other, past)) (omega arith) y_long)
    ]

-- Candidates that are left

pub Contains-nth_or_last : (first : List ℕ) (rest : List (List ℕ)) (n : ℕ) → Contains (first ∷ rest) (nth_or_last (first ∷ rest) n)
Contains-nth_or_last first rest n =
    let at : ℕ = min n (length (first ∷ rest) - 1) in
    let below : at < length (first ∷ rest) = omega arith in
    (at, below, get_or_default (first ∷ rest) at (nth_or_last (first ∷ rest) n) [] below)

-- the sector of a candidate that was taken, or the first's
pub Contains-sector : (first : List ℕ) (rest : List (List ℕ)) (x : List ℕ) (n s : ℕ) → x ≡ sector (nth_or_last (first ∷ rest) n) s
    → Contains (map (λ w. sector w s) (first ∷ rest)) x
Contains-sector first rest x n s is =
    subst (λ y. Contains (map (λ w. sector w s) (first ∷ rest)) y) (sym is)
    (Contains-map (λ (w : List ℕ). sector w s) (first ∷ rest) (nth_or_last (first ∷ rest) n) (Contains-nth_or_last first rest n))

-- what a block may hold after the choice: chosen candidates in 16 sectors, and past them what it held
pub Contains-mixed : (first : List ℕ) (rest : List (List ℕ)) (block : List ℕ) (n : ℕ → ℕ) (m : ℕ) → 16 ≤ m
    → ((t : ℕ) → t < m → sector block t ≡ sector (nth_or_last (first ∷ rest) (n t)) t) → ((t : ℕ) → m ≤ t → sector block t ≡ sector first t)
    → (s : ℕ) → Contains (map (λ w. sector w s) (first ∷ rest)) (sector block s)
Contains-mixed first rest block n m all chosen others s = elim (cases_lt s m) [
  | inl below ↦ Contains-sector first rest (sector block s) (n s) s (chosen s below)
  | inr past ↦ subst (λ y. Contains (map (λ w. sector w s) (first ∷ rest)) y) (sym (others s past)) (Contains-head (sector first s) (map (λ w. sector w s) rest))
]

-- A disk that is mixed block by block

-- the sector that the choice takes for a block, and what a stop may leave there
abbrev pub taken : List (List ℕ) → List Event → List ℕ → ℕ → ℕ → List ℕ
taken old since choice k s = sector (nth_or_last (block old k ∷ written_to k since) (byte_for choice (16 * open_blocks since k + s))) s

-- the blocks below b are mixed, and the others as they were
pub record Mixed (old now : List (List ℕ)) (since : List Event) (choice : List ℕ) (b : ℕ) : Type 0 where
  pub chosen : (k s : ℕ) → k < b → s < 16 → sector (block now k) s ≡ taken old since choice k s
  pub left : (k s : ℕ) → k < b → Contains (map (λ w. sector w s) (block old k ∷ written_to k since)) (sector (block now k) s)
  pub rest : (k : ℕ) → b ≤ k → block now k ≡ block old k

pub Mixed-none : (old : List (List ℕ)) (since : List Event) (choice : List ℕ) → Mixed old old since choice 0
Mixed-none old since choice = record {
  chosen = λ k s below. absurd (omega (arith, below));
  left = λ k s below. absurd (omega (arith, below));
  rest = λ k past. refl;
}

-- one block more, which is mixed to x
pub Mixed-written : (old now : List (List ℕ)) (since : List Event) (choice : List ℕ) (b : ℕ) (x y : List ℕ) (opened : ℕ) → Mixed old now since choice b → b < length now
    → y ≡ block now b → opened ≡ open_blocks since b
    → ((s : ℕ) → s < 16 → sector x s ≡ sector (nth_or_last (y ∷ written_to b since) (byte_for choice (16 * opened + s))) s)
    → ((s : ℕ) → Contains (map (λ w. sector w s) (y ∷ written_to b since)) (sector x s))
    → Mixed old (set now b x) since choice (b + 1)
Mixed-written old now since choice b x y opened m below y_is opened_is chosen left =
    let here : block (set now b x) b ≡ x = get_or-set_same now b x [] below in
    let there : (k : ℕ) → (k ≡ b → ⊥) → block (set now b x) k ≡ block now k = λ k ne. get_or-set_other now b k x [] ne in
    let was : y ≡ block old b = y_is ∙ m.rest b (omega arith) in
    record {
      chosen = λ k s lt small. elim (cases_lt k b) [
        | inl before ↦ ap (λ (z : List ℕ). sector z s) (there k (λ e. absurd (omega (arith, e, before)))) ∙ m.chosen k s before small
        | inr past ↦
            let e : b ≡ k = omega arith in
            subst (λ (i : ℕ). sector (block (set now b x) i) s ≡ taken old since choice i s) e
            (ap (λ (z : List ℕ). sector z s) here ∙ chosen s small ∙ ap (λ (z : List ℕ). sector (nth_or_last (z ∷ written_to b since) (byte_for choice (16 * opened + s))) s) was
            ∙ ap (λ (n : ℕ). sector (nth_or_last (block old b ∷ written_to b since) (byte_for choice (16 * n + s))) s) opened_is)
      ];
      left = λ k s lt. elim (cases_lt k b) [
        | inl before ↦ subst (λ z. Contains (map (λ w. sector w s) (block old k ∷ written_to k since)) (sector z s)) (sym (there k (λ e. absurd (omega (arith, e, before))))) (m.left k s before)
        | inr past ↦
            let e : b ≡ k = omega arith in
            subst (λ (i : ℕ). Contains (map (λ w. sector w s) (block old i ∷ written_to i since)) (sector (block (set now b x) i) s)) e
            (subst (λ z. Contains (map (λ w. sector w s) (block old b ∷ written_to b since)) (sector z s)) (sym here)
            (subst (λ z. Contains (map (λ w. sector w s) (z ∷ written_to b since)) (sector x s)) was (left s)))
      ];
      rest = λ k past. there k (λ e. absurd (omega (arith, e, past))) ∙ m.rest k (omega (arith, past));
    }

-- one block more, which nothing writes
pub Mixed-unwritten : (old now : List (List ℕ)) (since : List Event) (choice : List ℕ) (b : ℕ) → Mixed old now since choice b → written_to b since ≡ []
    → Mixed old now since choice (b + 1)
Mixed-unwritten old now since choice b m none =
    let only : (n : ℕ) → nth_or_last (block old b ∷ written_to b since) n ≡ block old b = λ n.
    ap (λ (w : List (List ℕ)). nth_or_last (block old b ∷ w) n) none ∙ sym (pick-nth_or_last (block old b) [] n) in
    record {
      chosen = λ k s lt small. elim (cases_lt k b) [
        | inl before ↦ m.chosen k s before small
        | inr past ↦
            let e : b ≡ k = omega arith in
            subst (λ (i : ℕ). sector (block now i) s ≡ taken old since choice i s) e
            (ap (λ (z : List ℕ). sector z s) (m.rest b (omega arith) ∙ sym (only (byte_for choice (16 * open_blocks since b + s)))))
      ];
      left = λ k s lt. elim (cases_lt k b) [
        | inl before ↦ m.left k s before
        | inr past ↦
            let e : b ≡ k = omega arith in
            subst (λ (i : ℕ). Contains (map (λ w. sector w s) (block old i ∷ written_to i since)) (sector (block now i) s)) e
            (subst (λ z. Contains (map (λ w. sector w s) (block old b ∷ written_to b since)) (sector z s)) (sym (m.rest b (omega arith)))
            (Contains-head (sector (block old b) s) (map (λ w. sector w s) (written_to b since))))
      ];
      rest = λ k past. m.rest k (omega (arith, past));
    }

-- how many blocks are open, one block more
open-one : (none written : Bool) → written ≡ cond none false true → (let one : ℕ = cond none 0 1 in one) ≡ cond written 1 0
open-one true written is = ap (λ (t : Bool). let one : ℕ = cond t 1 0 in one) (sym is)
open-one false written is = ap (λ (t : Bool). let one : ℕ = cond t 1 0 in one) (sym is)

pub open_blocks-more : (since : List Event) (b : ℕ) (written : Bool) → written ≡ cond (eqb (length (written_to b since)) 0) false true
    → open_blocks since (b + 1) ≡ open_blocks since b + cond written 1 0
open_blocks-more since b written is = rw add-one (ap (λ (n : ℕ). open_blocks since b + n) (open-one (eqb (length (written_to b since)) 0) written is))

pub none_written : (written : Bool) (xs : List (List ℕ)) → written ≡ cond (eqb (length xs) 0) false true → written ≡ false → xs ≡ []
none_written written [] is never = refl
none_written written (x ∷ xs) is never = elim (eqb_tells (length (x ∷ xs)) 0) [
  | inl (t, none) ↦ absurd (omega (arith, none))
  | inr (f, some) ↦ absurd (false≢true (sym never ∙ is ∙ ap (λ (b : Bool). cond b false true) f))
]

-- The whole image

-- all of a list, read back through a slice
pub whole_slice : (n : ℕ) (xs ys : List (List ℕ)) → length xs ≡ length ys → n ≡ length ys → take n (xs ++ drop (length xs) ys) ≡ xs
whole_slice n xs ys same n_is =
    let at : n ≡ length xs = omega (arith, same, n_is) in
    ap (λ (k : ℕ). take k (xs ++ drop (length xs) ys)) at ∙ take-append_seam xs (drop (length xs) ys)

nth_or_last-map : (first : List ℕ) (rest : List (List ℕ)) (n s : ℕ)
    → sector (nth_or_last (first ∷ rest) n) s ≡ nth_or_last (map (λ w. sector w s) (first ∷ rest)) n
nth_or_last-map first rest n s =
    sym (ap (λ (x : List ℕ). sector x s) (pick-nth_or_last first rest n)) ∙ pick-sector first rest n ∙ pick-nth_or_last (sector first s) (map (λ w. sector w s) rest) n
  where
    pick-sector : (first : List ℕ) (rest : List (List ℕ)) (n : ℕ) → sector (pick first rest n) s ≡ pick (sector first s) (map (λ w. sector w s) rest) n
    pick-sector first [] n = refl
    pick-sector first (next ∷ rest) zero = refl
    pick-sector first (next ∷ rest) (suc n) = pick-sector next rest n

pub IsChosen-mixed : (base synced now : List (List ℕ)) (p since : List Event) (choice : List ℕ) → synced ≡ synced_after base p → since ≡ unsynced_part p → length now ≡ length synced
    → ((b s : ℕ) → b < length synced → s < 16 → sector (block now b) s ≡ taken synced since choice b s) → IsChosen base p choice now
IsChosen-mixed base synced now p since choice synced_is since_is long each =
    let base_long : length synced ≡ length base = ap (λ (d : List (List ℕ)). length d) synced_is ∙ length-synced_after base p in
    record {
      as_long = long ∙ base_long;
      each_sector = λ b s below small.
          each b s (omega (arith, base_long, below)) small
          ∙ ap (λ (d : List (List ℕ)). taken d since choice b s) synced_is ∙ ap (λ (q : List Event). taken (synced_after base p) q choice b s) since_is
          ∙ nth_or_last-map (block (synced_after base p) b) (written_to b (unsynced_part p)) (byte_for choice (16 * open_blocks (unsynced_part p) b + s)) s;
    }

pub IsImage-mixed : (base synced now : List (List ℕ)) (p since : List Event) → synced ≡ synced_after base p → since ≡ unsynced_part p → length now ≡ length synced
    → ((b s : ℕ) → b < length synced → Contains (map (λ w. sector w s) (block synced b ∷ written_to b since)) (sector (block now b) s)) → IsImage base p now
IsImage-mixed base synced now p since synced_is since_is long left =
    let base_long : length now ≡ length base = long ∙ ap (λ (d : List (List ℕ)). length d) synced_is ∙ length-synced_after base p in
    (image-by_blocks base now synced p since true base_long synced_is since_is
    (told_true ((b s : ℕ) → b < length now → Contains (map (λ w. sector w s) (block synced b ∷ written_to b since)) (sector (block now b) s)) (λ b s below. left b s (omega (arith, long, below))))).0 refl
