-- Each kind of step keeps the rule of reservations.
use Rattle.std.proofs.Common.{◌≡◌, ◌≢◌, ℕ, ◌+◌, ◌-◌, ◌/◌, ◌%◌, ◌^◌, ◌<◌, ◌≤◌, true, false, true≢false, List, [], ◌∷◌, ◌++◌, length, get_or, set, sym, refl, ap, ◌∙◌, subst, inl, inr, ⊎_elim, arith, length-set, length-append}
use Rattle.std.proofs.lemmas.List.{set-get_or}
use Rattle.std.specs.Int.{bit_at}
use Rattle.std.specs.Int.Bits.{bit_or, bit_and}
use mathlib.Core.Logic.{dite}
use native.Mathlib.Decide.{ℕ_discrete}
use mathlib.Core.Option.{none, some}
use lib.ListN.{get_elem?}
use Rattle.atomic_table.specs.Table.{State, keeps, step, stepped, Allows, Splits, Joins}
use Rattle.atomic_table.proofs.Lists.{at_snoc, set_else}
use Rattle.bv_claims.specs.declared.rule.View.{View}
use Rattle.bv_claims.specs.Blocks.{times, blocks_of_word}
use Rattle.bv_claims.specs.Views.{worth, boss_count, after_win, after_loss, after_full_word, after_hold, after_free, after_grant, grant_view, after_join, spent_view}
use Rattle.bv_claims.specs.Rule.{words_for, mark, total, owns, IsOutside, FitsBoss, IsReserved}
use Rattle.bv_claims.specs.Steps.{Seated, ClaimTells, LookTells, HoldTells, FreeTells, ReviewTells}
use Rattle.bv_claims.proofs.Counts.{boss_count_same, boss_count_none, times-append, times_same, times_other, times-without, length-without, times-le-length, total-set, total-snoc, le-total, total-others, all_set}
use Rattle.bv_claims.proofs.Marks.{mark_is, mark-le-1, taken_is, with_set, with_clear, set_here, set_elsewhere, clear_here, clear_elsewhere, full_word, set_of_one, clear_of_one, of_word}
use Rattle.bv_claims.proofs.Sums.{room_for, reviewed}

-- a step that changes the marks as it changes what its seat owns, and keeps the worth of the view
changed : (blocks : ℕ) (s : State (Unit {0}) View) (h : IsReserved blocks s) (id : ℕ) (me : Seated) (w : View) (i n : ℕ) → get_elem? s.views id ≡ some me.0
    → ((c : ℕ) → mark (set s.words i n) c + owns c me.0 ≡ mark s.words c + owns c w) → ((c : ℕ) → IsOutside blocks c → owns c w ≡ owns c me.0) → worth w ≡ worth me.0 → w.boss ≡ me.0.boss
    → FitsBoss (set s.words i n) id w → ((j : ℕ) (u : View) → j ≢ id → FitsBoss s.words j u → FitsBoss (set s.words i n) j u)
    → IsReserved blocks (stepped s i n id me.1 w keeps)
changed blocks s h id me w i n at tied outside worth_is boss_is fits others =
    let t : (c : ℕ) → total (owns c) (set s.views id w) + owns c me.0 ≡ total (owns c) s.views + owns c w = λ c. total-set (owns c) s.views id me.0 w at in
    record {
      counted = (h.counted.0, length-set s.words i n ∙ h.counted.1);
      zero_taken = let k = tied 0 in let o = outside 0 (inl refl) in let z = h.zero_taken in omega arith;
      past_end = λ c far. let k = tied c in let o = outside c (inr far) in let z = h.past_end c far in omega arith;
      marked = λ c low high. let k = tied c in let m = h.marked c low high in let tc = t c in omega arith;
      within = λ c out. let tc = t c in let o = outside c out in let z = h.within c out in omega arith;
      accounted = let tw = total-set worth s.views id me.0 w at in let z = h.accounted in omega arith;
      one_boss = let tb = total-set boss_count s.views id me.0 w at in let z = h.one_boss in let e = boss_count_same me.0 w boss_is in omega arith;
      fit = all_set (FitsBoss (set s.words i n)) s.views id w fits (λ j u n e. others j u n (h.fit j u e));
    }

-- marks that don't fall keep what fits
rises : (words words' : List ℕ) (j : ℕ) (u : View) → ((c : ℕ) → mark words c ≡ 1 → mark words' c ≡ 1) → FitsBoss words j u → FitsBoss words' j u
rises words words' j u up f = (f.0, f.1, λ boss c seen. up c (f.2 boss c seen))

-- the word of a block is one of the table's
word_inside : (blocks : ℕ) (s : State (Unit {0}) View) (h : IsReserved blocks s) (b : ℕ) → b < blocks → b / 64 < length s.words
word_inside blocks s h b small = let e : length s.words ≡ words_for blocks = h.counted.1 in omega arith

-- a mark that is set falls nowhere
set_up : (words : List ℕ) (b k : ℕ) → b / 64 < length words → k ≡ 2 ^ (b % 64) → (c : ℕ) → mark words c ≡ 1 → mark (with_set words b k) c ≡ 1
set_up words b k inside e c one = dite (ℕ_discrete c b)
    (λ (same : c ≡ b). subst (λ (z : ℕ). mark (with_set words b k) z ≡ 1) (sym same) (set_here words b k inside e))
    (λ (other : c ≢ b). set_elsewhere words b k inside e c other ∙ one)

-- win and hold: the mark of a free block is set, and the seat owns the block
gained : (blocks : ℕ) (s : State (Unit {0}) View) (h : IsReserved blocks s) (id : ℕ) (me : Seated) (w : View) (b k : ℕ) → get_elem? s.views id ≡ some me.0
    → 1 ≤ b → b < blocks → k ≡ 2 ^ (b % 64) → mark s.words b ≡ 0
    → w.owned ≡ me.0.owned ++ b ∷ [] → worth w ≡ worth me.0 → w.boss ≡ me.0.boss → FitsBoss s.words id w
    → IsReserved blocks (stepped s (b / 64) (bit_or (get_or s.words (b / 64) 0) k) id me.1 w keeps)
gained blocks s h id me w b k at low high e free owned worth_is boss_is fits =
    let inside = word_inside blocks s h b high in
    let more : (c : ℕ) → owns c w ≡ owns c me.0 + times c (b ∷ []) = λ c. ap (times c) owned ∙ times-append c me.0.owned (b ∷ []) in
    let up = set_up s.words b k inside e in
    changed blocks s h id me w (b / 64) (bit_or (get_or s.words (b / 64) 0) k) at
    (λ c. dite (ℕ_discrete c b)
    (λ (same : c ≡ b). subst (λ (z : ℕ). mark (with_set s.words b k) z + owns z me.0 ≡ mark s.words z + owns z w) (sym same)
    (let m = set_here s.words b k inside e in let o = more b in let one = times_same b in omega arith))
    (λ (other : c ≢ b). let m = set_elsewhere s.words b k inside e c other in let o = more c in let none = times_other c b other in omega arith))
    (λ c out. let o = more c in let none = times_other c b (λ same. ⊎_elim (λ z. absurd (omega arith)) (λ far. absurd (omega arith)) out) in omega arith)
    worth_is boss_is
    (rises s.words (with_set s.words b k) id w up fits)
    (λ j u _ f. rises s.words (with_set s.words b k) j u up f)

-- a step that leaves all marks as they are, and what its seat owns
looked : (blocks : ℕ) (s : State (Unit {0}) View) (h : IsReserved blocks s) (id : ℕ) (me : Seated) (w : View) (i n : ℕ) → get_elem? s.views id ≡ some me.0
    → ((c : ℕ) → mark (set s.words i n) c ≡ mark s.words c) → w.owned ≡ me.0.owned → worth w ≡ worth me.0 → w.boss ≡ me.0.boss → FitsBoss s.words id w
    → IsReserved blocks (stepped s i n id me.1 w keeps)
looked blocks s h id me w i n at same owned worth_is boss_is fits =
    let up : (c : ℕ) → mark s.words c ≡ 1 → mark (set s.words i n) c ≡ 1 = λ c one. same c ∙ one in
    changed blocks s h id me w i n at
    (λ c. let m = same c in let o : owns c w ≡ owns c me.0 = ap (times c) owned in omega arith)
    (λ c _. ap (times c) owned) worth_is boss_is
    (rises s.words (set s.words i n) id w up fits) (λ j u _ f. rises s.words (set s.words i n) j u up f)

pub claims : (blocks slots id : ℕ) (me : Seated) (b k : ℕ) → 1 ≤ b → b < blocks → 0 < me.0.budget → k ≡ 2 ^ (b % 64)
    → Allows (IsReserved blocks) slots id me (b / 64) (λ n. bit_or n k) (ClaimTells (step slots (b / 64) k 0 none) me)
claims blocks slots id me b k low high some_budget e s h _ at _ =
    let x : ℕ = get_or s.words (b / 64) 0 in
    let mine = h.fit id me.0 at in
    let inside = word_inside blocks s h b high in
    let is = mark_is s.words b in
    dite (ℕ_discrete (bit_at x (b % 64)) 0)
    (λ (free : bit_at x (b % 64) ≡ 0).
    let w : View = after_win b me.0 in
    let len = length-append me.0.owned (b ∷ []) in (
      w,
      keeps,
      tt,
      gained blocks s h id me w b k at low high e (is ∙ free) refl (omega arith) refl (mine.0, mine.1, mine.2),
      (
        refl,
        λ c st. let same : b ≡ c = set_of_one b c k e st.1 st.0 in
            subst (λ (y : ℕ). (bit_at x (y % 64) ≡ 0 → w ≡ after_win y me.0) × (bit_at x (y % 64) ≢ 0 → w ≡ after_loss y me.0)) same
            ((λ _. refl), (λ not. absurd (not free))),
      ),
    ))
    (λ (taken : bit_at x (b % 64) ≢ 0).
    let w : View = after_loss b me.0 in
    let one : mark s.words b ≡ 1 = taken_is s.words b (λ z. taken (sym is ∙ z)) in (
      w,
      keeps,
      tt,
      looked blocks s h id me w (b / 64) (bit_or x k) at
          (λ c. dite (ℕ_discrete c b)
          (λ (same : c ≡ b). subst (λ (z : ℕ). mark (with_set s.words b k) z ≡ mark s.words z) (sym same) (set_here s.words b k inside e ∙ sym one))
          (λ (other : c ≢ b). set_elsewhere s.words b k inside e c other))
          refl refl refl (
            mine.0,
            mine.1,
            λ boss c seen. dite (ℕ_discrete c b)
                (λ (same : c ≡ b). subst (λ (z : ℕ). mark s.words z ≡ 1) (sym same) one)
                (λ (other : c ≢ b). let o = times_other c b other in let a = times-append c me.0.saw (b ∷ []) in mine.2 boss c (omega arith)),
          ),
      (
        refl,
        λ c st. let same : b ≡ c = set_of_one b c k e st.1 st.0 in
            subst (λ (y : ℕ). (bit_at x (y % 64) ≡ 0 → w ≡ after_win y me.0) × (bit_at x (y % 64) ≢ 0 → w ≡ after_loss y me.0)) same
            ((λ z. absurd (taken z)), (λ _. refl)),
      ),
    ))

-- a look at a word
same_words : (words : List ℕ) (i c : ℕ) → mark (set words i (get_or words i 0)) c ≡ mark words c
same_words words i c = ap (λ ws. mark ws c) (set-get_or words i 0)

pub looks : (blocks slots id : ℕ) (me : Seated) (i : ℕ) → Allows (IsReserved blocks) slots id me i (λ n. n) (LookTells (step slots i 0 0 none) me)
looks blocks slots id me i s h _ at _ =
    let x : ℕ = get_or s.words i 0 in
    let mine = h.fit id me.0 at in
    dite (ℕ_discrete x (2 ^ 64 - 1))
    (λ (full : x ≡ 2 ^ 64 - 1).
    let w : View = after_full_word i me.0 in (
      w,
      keeps,
      tt,
      looked blocks s h id me w i x at (same_words s.words i) refl refl refl (
        mine.0,
        mine.1,
        λ boss c seen. dite (ℕ_discrete (times c me.0.saw) 0)
            (λ (none : times c me.0.saw ≡ 0). let a = times-append c me.0.saw (blocks_of_word i) in
            let word : c / 64 ≡ i = of_word c i (omega arith) in
            full_word s.words c (ap (λ (z : ℕ). get_or s.words z 0) word ∙ full))
            (λ (some_seen : times c me.0.saw ≢ 0). mine.2 boss c (omega arith)),
      ),
      (refl, (λ _. refl), λ not. absurd (not full)),
    ))
    (λ (room_left : x ≢ 2 ^ 64 - 1). (
      me.0,
      keeps,
      tt,
      looked blocks s h id me me.0 i x at (same_words s.words i) refl refl refl (mine.0, mine.1, mine.2),
      (refl, (λ full. absurd (room_left full)), λ _. refl),
    ))

pub frees : (blocks slots id : ℕ) (me : Seated) (b k : ℕ) → me.0.boss ≡ true → 1 ≤ b → b < blocks → 0 < times b me.0.owned → k + 2 ^ (b % 64) ≡ 2 ^ 64 - 1
    → Allows (IsReserved blocks) slots id me (b / 64) (λ n. bit_and n k) (FreeTells (step slots (b / 64) k 0 none) me)
frees blocks slots id me b k boss low high owned e s h _ at _ =
    let mine = h.fit id me.0 at in
    let inside = word_inside blocks s h b high in
    let w : View = after_free b me.0 in
    let less : (c : ℕ) → owns c w + times c (b ∷ []) ≡ owns c me.0 = λ c. times-without c b me.0.owned owned in
    let len = length-without b me.0.owned owned in
    let m = h.marked b low high in
    let most : owns b me.0 ≤ total (owns b) s.views = le-total (owns b) s.views id me.0 at in
    let small = mark-le-1 s.words b in
    let one : mark s.words b ≡ 1 = omega arith in (
      w,
      keeps,
      tt,
      changed blocks s h id me w (b / 64) (bit_and (get_or s.words (b / 64) 0) k) at
          (λ c. dite (ℕ_discrete c b)
          (λ (same : c ≡ b). subst (λ (z : ℕ). mark (with_clear s.words b k) z + owns z me.0 ≡ mark s.words z + owns z w) (sym same)
          (let z = clear_here s.words b k inside e in let o = less b in let one_b = times_same b in omega arith))
          (λ (other : c ≢ b). let z = clear_elsewhere s.words b k inside e c other in let o = less c in let none_c = times_other c b other in omega arith))
          (λ c out. let o = less c in let none_c = times_other c b (λ same. ⊎_elim (λ z. absurd (omega arith)) (λ far. absurd (omega arith)) out) in omega arith)
          (omega arith) refl
          (mine.0, (λ not. absurd (true≢false (sym boss ∙ not))), λ _ c none_seen. absurd (omega arith))
          (λ j u n f. (f.0, f.1, λ boss_u. absurd (n (f.0 boss_u ∙ sym (mine.0 boss))))),
      (refl, λ c st. let same : b ≡ c = clear_of_one b c k e st.1 st.0 in subst (λ (y : ℕ). w ≡ after_free y me.0) same refl),
    )

-- a view is cut in two, and what both count is what the one did
pub splits : (blocks id need : ℕ) (v : View) → v.boss ≡ true → need ≤ v.room → Splits (IsReserved blocks) id v (after_grant need v) (grant_view need)
splits blocks id need v boss fits s h at =
    let left : View = after_grant need v in
    let right : View = grant_view need in
    let mine = h.fit id v at in
    let sum : (f : View → ℕ) → f left + f right ≡ f v → total f (set s.views id left ++ right ∷ []) ≡ total f s.views = λ f e.
    let a = total-snoc f (set s.views id left) right in let b = total-set f s.views id v left at in omega arith in
    let same : (c : ℕ) → total (owns c) (set s.views id left ++ right ∷ []) ≡ total (owns c) s.views = λ c. sum (owns c) (omega arith) in
    record {
      counted = h.counted;
      zero_taken = h.zero_taken;
      past_end = h.past_end;
      marked = λ c low high. h.marked c low high ∙ sym (same c);
      within = λ c out. same c ∙ h.within c out;
      accounted = sum worth (omega arith) ∙ h.accounted;
      one_boss = sum boss_count (omega arith) ∙ h.one_boss;
      fit = λ j u e. ⊎_elim
          (λ (old : get_elem? (set s.views id left) j ≡ some u). all_set (FitsBoss s.words) s.views id left
          (mine.0, (λ not. absurd (true≢false (sym boss ∙ not))), mine.2) (λ i w n q. h.fit i w q) j u old)
          (λ (new : right ≡ u). subst (FitsBoss s.words j) new ((λ z. absurd (true≢false (sym z))), (λ _. refl), (λ z. absurd (true≢false (sym z)))))
          (at_snoc (set s.views id left) right u j e);
    }

-- two views become one, which counts what both did
pub joins : (blocks id : ℕ) (v : View) (other : ℕ) (w : View) → v.boss ≡ true → w.boss ≡ false → Joins (IsReserved blocks) id v other w (after_join v w) spent_view
joins blocks id v other w boss not_boss s h at apart there' =
    let both : View = after_join v w in
    let there : get_elem? s.views other ≡ some w = sym (set_else s.views id other both apart) ∙ there' in
    let mine = h.fit id v at in
    let no_room : w.room ≡ 0 = (h.fit other w there).1 not_boss in
    let sum : (f : View → ℕ) → f both ≡ f v + f w → f spent_view ≡ 0 → total f (set (set s.views id both) other spent_view) ≡ total f s.views = λ f e z.
    let a = total-set f (set s.views id both) other w spent_view there' in let b = total-set f s.views id v both at in omega arith in
    let same : (c : ℕ) → total (owns c) (set (set s.views id both) other spent_view) ≡ total (owns c) s.views = λ c. sum (owns c) (times-append c v.owned w.owned) refl in
    record {
      counted = h.counted;
      zero_taken = h.zero_taken;
      past_end = h.past_end;
      marked = λ c low high. h.marked c low high ∙ sym (same c);
      within = λ c out. same c ∙ h.within c out;
      accounted = sum worth (let l = length-append v.owned w.owned in omega arith) refl ∙ h.accounted;
      one_boss = sum boss_count (let no_boss = boss_count_none w not_boss in omega arith) refl ∙ h.one_boss;
      fit = all_set (FitsBoss s.words) (set s.views id both) other spent_view ((λ z. absurd (true≢false (sym z))), (λ _. refl), (λ z. absurd (true≢false (sym z))))
          (λ j u n e. all_set (FitsBoss s.words) s.views id both (mine.0, (λ not. absurd (true≢false (sym boss ∙ not))), mine.2) (λ i q m r. h.fit i q r) j u e);
    }

owns-le-worth : (b : ℕ) (u : View) → owns b u ≤ worth u
owns-le-worth b u = let r = times-le-length b u.owned in omega arith

-- hold: no other view has anything, so what the boss doesn't own is free
pub holds : (blocks slots id : ℕ) (me : Seated) (b k : ℕ) → me.0.boss ≡ true → 1 ≤ b → b < blocks → times b me.0.owned ≡ 0 → length me.0.owned + me.0.room ≡ blocks - 1
    → k ≡ 2 ^ (b % 64) → Allows (IsReserved blocks) slots id me (b / 64) (λ n. bit_or n k) (HoldTells (step slots (b / 64) k 0 none) me)
holds blocks slots id me b k boss low high not_owned idle e s h _ at _ =
    let mine = h.fit id me.0 at in
    let w : View = after_hold b me.0 in
    let len = length-append me.0.owned (b ∷ []) in
    let few = total-others (owns b) worth (owns-le-worth b) s.views id me.0 at in
    let all = h.accounted in
    let m = h.marked b low high in
    let free : mark s.words b ≡ 0 = omega arith in
    let some_room : 0 < me.0.room = room_for blocks s h id me.0 at b low high not_owned idle in (
      w,
      keeps,
      tt,
      gained blocks s h id me w b k at low high e free refl (omega arith) refl (mine.0, (λ not. absurd (true≢false (sym boss ∙ not))), mine.2),
      (
        refl,
        λ c st. let same : b ≡ c = set_of_one b c k e st.1 st.0 in (some_room, subst (λ (y : ℕ). w ≡ after_hold y me.0) same refl),
      ),
    )

-- a look of the boss that changes nothing
pub reviews : (blocks slots id : ℕ) (me : Seated) → me.0.boss ≡ true → me.0.blocks ≡ blocks
    → Allows (IsReserved blocks) slots id me 0 (λ n. n) (ReviewTells (step slots 0 0 0 none) me)
reviews blocks slots id me boss of_table s h _ at _ =
    let mine = h.fit id me.0 at in (
      me.0,
      keeps,
      tt,
      looked blocks s h id me me.0 0 (get_or s.words 0 0) at (same_words s.words 0) refl refl refl (mine.0, mine.1, mine.2),
      (refl, reviewed blocks s h id me.0 at boss of_table),
    )
