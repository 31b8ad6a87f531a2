-- An entry is noted, and the value passed on: the rule holds after either step.
use Rattle.std.proofs.Common.{◌≡◌, ◌≢◌, ℕ, ◌+◌, ◌^◌, ◌%◌, ◌<◌, ◌⊎◌, inl, inr, List, [], ◌∷◌, ◌++◌, length, get_or, set, drop, sym, refl, ap, ◌∙◌, subst, ⊎_elim, arith, length-set, Option, Some, None}
use Rattle.std.specs.List.{AllByRecursion}
use mathlib.Core.Option.{none, some, some-injective, some-ne-none}
use mathlib.Core.Option as maybe
use lib.ListN.{get_elem?}
use Rattle.atomic_table.specs.Table.{State, step, keeps, gives, Allows, put_back, rest}
use Rattle.atomic_table.proofs.Lists.{set_here, set_else}
use Rattle.bv_turn.specs.declared.view.Part.{Part}
use Rattle.bv_turn.specs.declared.view.View.{View}
use Rattle.bv_turn.specs.Entries.{numbered}
use Rattle.bv_turn.specs.Kinds.{Notes, Passes, carried}
use Rattle.bv_turn.specs.Rule.{Account, FitsPart, Fits, OfShares}
use Rattle.bv_turn.specs.Views.{list_or_empty, part, view, Has, count_of, add_first, waits, sessions, counts, taken_of, noted}
use Rattle.bv_turn.proofs.EntryLemmas.{numbered-snoc_same, numbered-snoc_other}
use Rattle.bv_turn.proofs.ListLemmas.{each_snoc, drop_front, drop_whole, snoc_same, snoc_apart}
use Rattle.bv_turn.proofs.ViewLemmas.{total-set, two_le, each_set, put_there, same_view, count_of-one, each_other}
use Rattle.bv_turn.proofs.RuleLemmas.{some_none, still, tickets_stay, one_turn_each}

module _ {T E B : Type 0} (session : E → ℕ) (seats : ℕ) (base : B) (entries : T → List E) (basis : T → B) where
  abbrev S : Type 0
  S = State (Option T) (View E B)

  abbrev V : Type 0
  V = View E B

  abbrev M : Type 0
  M = View E B × List (ℕ × Option T)

  abbrev Rule : S → Type 0
  Rule = OfShares session seats base entries basis

  abbrev W : Type 0
  W = Account E

  abbrev Part_ok : W → Part E B → Type 0
  Part_ok = FitsPart session seats base

  -- what the one whose turn it is may give back: what it took, or one entry of its session more
  abbrev pub MayGive : ℕ → List E → List E → Type 0
  MayGive s l xs = (xs ≡ l) ⊎ ((e : E) × (xs ≡ l ++ e ∷ []) × (session e ≡ s))

  one_more : (s : ℕ) (l : List E) (e : E) → session e ≡ s → numbered session s 0 l ≢ numbered session s 0 (l ++ e ∷ [])
  one_more s l e is z = snoc_apart (numbered session s 0 l) (length l, e) (z ∙ numbered-snoc_same session s l e is)

  -- two such lists with the same entries of the session are one list
  same_list : (s : ℕ) (l xs ys : List E) → MayGive s l xs → MayGive s l ys → numbered session s 0 xs ≡ numbered session s 0 ys → xs ≡ ys
  same_list s l xs ys (inl a) (inl b) z = a ∙ sym b
  same_list s l xs ys (inl a) (inr b) z = absurd (one_more s l b.0 b.2 (ap (numbered session s 0) (sym a) ∙ z ∙ ap (numbered session s 0) b.1))
  same_list s l xs ys (inr a) (inl b) z = absurd (one_more s l a.0 a.2 (ap (numbered session s 0) (sym b) ∙ sym z ∙ ap (numbered session s 0) a.1))
  same_list s l xs ys (inr a) (inr b) z =
      let q : numbered session s 0 l ++ (length l, a.0) ∷ [] ≡ numbered session s 0 l ++ (length l, b.0) ∷ [] =
      sym (numbered-snoc_same session s l a.0 a.2) ∙ ap (numbered session s 0) (sym a.1) ∙ z ∙ ap (numbered session s 0) b.1 ∙ numbered-snoc_same session s l b.0 b.2 in
      a.1 ∙ ap (λ (e : E). l ++ e ∷ []) (ap (λ (y : ℕ × E). y.1) (snoc_same (numbered session s 0 l) (length l, a.0) (length l, b.0) q)) ∙ sym b.1

  -- what the holder knows of the log
  history_may : (s : S) (h : Rule s) (id : ℕ) (v : V) (l : List E) (n : ℕ) (b : B) (es : List (ℕ × E)) → get_elem? s.views id ≡ some v → v.taken ≡ Some l → v.parts ≡ part n b es ∷ [] → MayGive n l h.account.history
  history_may s h id v l n b es at has ps = ⊎_elim (λ (a : h.account.history ≡ l). inl a)
      (λ (b : (e : E) × (h.account.history ≡ l ++ e ∷ []) × Has (session e) v.parts).
      let g : (n ≡ session b.0) ⊎ ⊥ = subst (λ (z : List (Part E B)). Has (session b.0) z) ps b.2 in
      inr (b.0, b.1, ⊎_elim (λ (e : n ≡ session b.0). sym e) (λ (e : ⊥). absurd e) g))
      ((h.fits id v at).taken l has).1

  my_part : (s : S) (h : Rule s) (id : ℕ) (v : V) (n : ℕ) (b : B) (es : List (ℕ × E)) → get_elem? s.views id ≡ some v → v.parts ≡ part n b es ∷ [] → Part_ok h.account (part n b es)
  my_part s h id v n b es at ps = (subst (λ (z : List (Part E B)). AllByRecursion (Part_ok h.account) z) ps (h.fits id v at).parts).0

  pub notes : (slots id : ℕ) (me : M) (v : T) (l : List E) (n : ℕ) (b : B) (es : List (ℕ × E)) (count : ℕ) → me.1 ≡ (0, Some v) ∷ [] → me.0.taken ≡ Some l → me.0.parts ≡ part n b es ∷ []
      → es ≡ numbered session n 0 l → MayGive n l (entries v) → count ≡ length (entries v)
      → Allows Rule slots id me 2 (λ _. count) (λ _. Notes entries (step slots 2 count 0 none) me count)
  notes slots id me v l n b es count mine_out has ps known may counted s h _ at _ =
      let x : W = h.account in
      let mine = h.fits id me.0 at in
      let my_turn : me.0.ticket ≡ Some x.served = (mine.taken l has).0 in
      let here : x.who x.served ≡ id = (mine.ticket x.served my_turn).2 in
      let p = my_part s h id me.0 n b es at ps in
      let same : x.history ≡ l = same_list n l x.history l (history_may s h id me.0 l n b es at has ps) (inl refl) (sym p.2 ∙ known) in
      let taken_is : taken_of me.0 ≡ l = ap list_or_empty has in
      let carried_is : carried entries me.1 ≡ entries v = ap (carried entries) mine_out in
      let more_is : drop (length (taken_of me.0)) (carried entries me.1) ≡ drop (length l) (entries v) = λ i. drop (length (taken_is i)) (carried_is i) in
      ⊎_elim
      (λ (none_more : entries v ≡ l).
      let d : drop (length l) (entries v) ≡ [] = ap (drop (length l)) none_more ∙ drop_whole l in
      let same_words : set s.words 2 count ≡ s.words = ap (λ (ws : List ℕ). set ws 2 count) h.words
      ∙ ap (λ (k : ℕ). x.drawn % 2 ^ 64 ∷ x.served % 2 ^ 64 ∷ k ∷ []) (counted ∙ ap length (none_more ∙ sym same)) ∙ sym h.words in
      (me.0, keeps, tt, still session seats base entries basis s 2 id me at count same_words h, (refl, ap (noted me.0) (sym (more_is ∙ d)))))
      (λ (one : (e : E) × (entries v ≡ l ++ e ∷ []) × (session e ≡ n)).
      let e : E = one.0 in
      let d : drop (length l) (entries v) ≡ e ∷ [] = ap (drop (length l)) one.1 ∙ drop_front l (e ∷ []) in
      let w : V = view (part n b (es ++ (length l, e) ∷ []) ∷ []) me.0.ticket me.0.taken in
      let y : W = record { history = x.history ++ e ∷ []; drawn = x.drawn; served = x.served; who = x.who } in
      let w_is : w ≡ noted me.0 (drop (length (taken_of me.0)) (carried entries me.1)) =
      (λ i. view (add_first (sym ps i) (length (sym taken_is i)) e) me.0.ticket me.0.taken) ∙ ap (noted me.0) (sym (more_is ∙ d)) in
      let tw = total-set waits s.views id me.0 w at in
      let ts = total-set sessions s.views id me.0 w at in
      let len : length me.0.parts ≡ 1 = ap length ps in
      let wa = h.waiting in let sh = h.shared in
      let count_is : count ≡ length (x.history ++ e ∷ []) = counted ∙ ap length (one.1 ∙ ap (λ (z : List E). z ++ e ∷ []) (sym same)) in (
        w,
        keeps,
        tt,
        record {
          account = y;
          few = h.few;
          words = ap (λ (ws : List ℕ). set ws 2 count) h.words ∙ ap (λ (k : ℕ). x.drawn % 2 ^ 64 ∷ x.served % 2 ^ 64 ∷ k ∷ []) count_is;
          fits = each_set (Fits session seats base y) s.views id w
              (record {
                parts = ((p.0, p.1, ap (λ (z : List (ℕ × E)). z ++ (length l, e) ∷ []) known ∙ sym (numbered-snoc_same session n l e one.2) ∙ ap (λ (z : List E). numbered session n 0 (z ++ e ∷ [])) (sym same)), tt);
                ticket = λ k g. let old = mine.ticket k g in (old.0, old.1, old.2, omega arith);
                taken = λ k g. let z : l ≡ k = cc in (my_turn, inr (e, ap (λ (q : List E). q ++ e ∷ []) (same ∙ z), inl (sym one.2)));
              })
              (λ j u apart q. let f = h.fits j u q in record {
                parts = each_other (Part_ok x) (Part_ok y) n
                    (λ r other g. (g.0, g.1, g.2 ∙ sym (numbered-snoc_other session r.session 0 x.history e (λ z. other (sym z ∙ one.2))))) u.parts
                    (let two = two_le (counts n) s.views id j me.0 u apart at q in let c : counts n me.0 ≡ 1 = ap (count_of n) ps ∙ count_of-one n b es in let o = h.once n p.0 in omega arith) f.parts;
                ticket = f.ticket;
                taken = λ k g. absurd (apart (one_turn_each session seats base entries basis x id j me.0 u mine f my_turn (f.taken k g).0));
              });
          tickets = λ m low high. tickets_stay session seats base entries basis s x id me.0 w at refl m (h.tickets m low high);
          waiting = omega arith;
          shared = omega arith;
          once = λ m fits. let tc = total-set (counts m) s.views id me.0 w at in let o = h.once m fits in let c : counts m me.0 ≡ counts m w = ap (count_of m) ps in omega arith;
          owned = each_snoc (λ q. session q < seats) x.history e h.owned (subst (λ (q : ℕ). q < seats) (sym one.2) p.0);
          one_slot = h.one_slot;
          away = λ _. (w, ap (λ (i : ℕ). get_elem? (set s.views id w) i) here ∙ put_there s.views id me.0 w at, my_turn, (l, has));
          out = each_set (λ _ u. (k : List E) → u.taken ≡ Some k → get_elem? s.homes 0 ≡ some none) s.views id w
              (λ k g. h.out id me.0 at l has) (λ j u apart q. h.out j u q);
          home = λ q g. absurd (some_none (some-injective none (some q) (sym (h.out id me.0 at l has) ∙ g)));
        },
        (refl, w_is),
      ))
      may

  pub passes : (slots id : ℕ) (me : M) (v : T) (l : List E) (n : ℕ) (b : B) (es : List (ℕ × E)) → me.1 ≡ (0, Some v) ∷ [] → me.0.taken ≡ Some l → me.0.parts ≡ part n b es ∷ []
      → es ≡ numbered session n 0 (entries v) → MayGive n l (entries v) → b ≡ basis v
      → Allows Rule slots id me 1 (λ k. (k + 1) % 2 ^ 64) (Passes (step slots 1 1 0 none) me)
  passes slots id me v l n b es mine_out has ps known may based s h _ at _ =
      let x : W = h.account in
      let d : ℕ = x.served in
      let mine = h.fits id me.0 at in
      let my_turn : me.0.ticket ≡ Some x.served = (mine.taken l has).0 in
      let held = mine.ticket d my_turn in
      let here : x.who d ≡ id = held.2 in
      let p = my_part s h id me.0 n b es at ps in
      let same : entries v ≡ x.history = same_list n l (entries v) x.history may (history_may s h id me.0 l n b es at has ps) (sym known ∙ p.2) in
      let w : V = view me.0.parts None None in
      let y : W = record { history = x.history; drawn = x.drawn; served = x.served + 1; who = x.who } in
      let round : ((d % 2 ^ 64) + 1) % 2 ^ 64 ≡ (d + 1) % 2 ^ 64 = omega arith in
      let one : waits me.0 ≡ 1 = ap (λ (o : Option ℕ). waits {E = E} {B = B} (view [] o None)) my_turn in
      let tw = total-set waits s.views id me.0 w at in
      let ts = total-set sessions s.views id me.0 w at in
      let wa = h.waiting in let sh = h.shared in
      let below = held.1 in
      let given : put_back s.homes me.1 ≡ set s.homes 0 (some (Some v)) = ap (put_back s.homes) mine_out in
      let home_is : get_elem? (put_back s.homes me.1) 0 ≡ some (some (Some v)) = (let o = h.one_slot in ap (λ (hs : List (maybe.Option (Option T))). get_elem? hs 0) given ∙ set_here s.homes 0 (some (Some v)) (omega arith)) in
      let base_is : basis v ≡ base = sym based ∙ p.1 in (
        w,
        gives,
        tt,
        record {
          account = y;
          few = h.few;
          words = ap (λ (ws : List ℕ). set ws 1 ((get_or ws 1 0 + 1) % 2 ^ 64)) h.words ∙ ap (λ (k : ℕ). x.drawn % 2 ^ 64 ∷ k ∷ length x.history ∷ []) round;
          fits = each_set (Fits session seats base y) s.views id w
              (record {
                parts = mine.parts;
                ticket = λ k e. let z : None ≡ Some k = e in absurd (cc);
                taken = λ k e. let z : None ≡ Some k = e in absurd (cc);
              })
              (λ j u apart e. let f = h.fits j u e in record {
                parts = f.parts;
                ticket = λ k g. let old = f.ticket k g in let not : d ≢ k = (λ z. apart (one_turn_each session seats base entries basis x id j me.0 u mine f my_turn (g ∙ ap Some (sym z)))) in
                    let low = old.0 in (omega arith, old.1, old.2, old.3);
                taken = λ k g. absurd (apart (one_turn_each session seats base entries basis x id j me.0 u mine f my_turn (f.taken k g).0));
              });
          tickets = λ k low high. let old = h.tickets k (omega arith) high in
              let not : x.who k ≢ id = (λ z. let u : old.0 ≡ me.0 = same_view s.views id (x.who k) me.0 old.0 at old.1 z in
              let t : Some k ≡ Some d = sym old.2 ∙ ap (λ (q : V). q.ticket) u ∙ my_turn in let t' : k ≡ d = cc in absurd (omega arith)) in
              (old.0, set_else s.views id (x.who k) w not ∙ old.1, old.2);
          waiting = omega arith;
          shared = omega arith;
          once = λ m fits. let tc = total-set (counts m) s.views id me.0 w at in let o = h.once m fits in omega arith;
          owned = h.owned;
          one_slot = ap length given ∙ length-set s.homes 0 (some (Some v)) ∙ h.one_slot;
          away = λ gone. absurd (some_none (some-injective none (some (Some v)) (sym gone ∙ home_is)));
          out = each_set (λ _ u. (k : List E) → u.taken ≡ Some k → get_elem? (put_back s.homes me.1) 0 ≡ some none) s.views id w
              (λ k e. let z : None ≡ Some k = e in absurd (cc))
              (λ j u apart e k g. absurd (apart (one_turn_each session seats base entries basis x id j me.0 u mine (h.fits j u e) my_turn ((h.fits j u e).taken k g).0)));
          home = λ q g. (v, some-injective q (Some v) (some-injective (some q) (some (Some v)) (sym g ∙ home_is)), same, base_is);
        },
        (ap rest mine_out, refl),
      )

  -- what the holder's view is once it has noted
  pub noted_is : (v : V) (l xs : List E) (n : ℕ) (b : B) (es : List (ℕ × E)) → v.taken ≡ Some l → v.parts ≡ part n b es ∷ [] → es ≡ numbered session n 0 l → MayGive n l xs
      → noted v (drop (length (taken_of v)) xs) ≡ view (part n b (numbered session n 0 xs) ∷ []) v.ticket v.taken
  noted_is v l xs n b es has ps known (inl a) =
      (λ i. noted v (drop (length (list_or_empty (has i))) (a i))) ∙ ap (noted v) (drop_whole l) ∙ (λ i. view (ps i) v.ticket v.taken)
      ∙ ap (λ (z : List (ℕ × E)). view (part n b z ∷ []) v.ticket v.taken) (known ∙ ap (numbered session n 0) (sym a))
  noted_is v l xs n b es has ps known (inr m) =
      (λ i. noted v (drop (length (list_or_empty (has i))) (m.1 i))) ∙ ap (noted v) (drop_front l (m.0 ∷ [])) ∙ (λ i. view (add_first (ps i) (length (list_or_empty (has i))) m.0) v.ticket v.taken)
      ∙ ap (λ (z : List (ℕ × E)). view (part n b z ∷ []) v.ticket v.taken) (ap (λ (z : List (ℕ × E)). z ++ (length l, m.0) ∷ []) known ∙ sym (numbered-snoc_same session n l m.0 m.2) ∙ ap (numbered session n 0) (sym m.1))
