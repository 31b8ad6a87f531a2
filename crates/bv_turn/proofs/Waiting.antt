-- A ticket is drawn, and looked for: the rule holds after either step.
use Rattle.std.proofs.Common.{eqb, ◌≡◌, ◌≢◌, ℕ, ◌+◌, ◌^◌, ◌%◌, ◌<◌, ◌≤◌, inl, List, [], ◌∷◌, length, get_or, set, sym, refl, ap, ◌∙◌, ⊎_elim, arith, length-set, subst, Option, Some, None}
use mathlib.Core.Logic.{dite}
use mathlib.Core.Option.{none, some, some-injective}
use native.Mathlib.Decide.{ℕ_discrete}
use lib.ListN.{get_elem?}
use prog.Atomic.{either}
use Rattle.atomic_table.specs.Table.{State, step, keeps, takes, stepped, carried_after, Act, Valid, Allows}
use Rattle.atomic_table.proofs.Lists.{set_here, set_else, one_turn, exchanged}
use Rattle.bv_turn.specs.declared.view.Part.{Part}
use Rattle.bv_turn.specs.declared.view.View.{View}
use Rattle.bv_turn.specs.Entries.{numbered}
use Rattle.bv_turn.specs.Kinds.{Draws, DrawsExpected, Looks}
use Rattle.bv_turn.specs.Rule.{Account, FitsPart, Fits, OfShares}
use Rattle.bv_turn.specs.Views.{view, total, waits, sessions, counts}
use Rattle.bv_turn.proofs.ListLemmas.{each_map, slot_cases}
use Rattle.bv_turn.proofs.ViewLemmas.{total-set, total_le, each_set, put_there, same_view, differs, sent_to, sent_here, sent_else}
use Rattle.bv_turn.proofs.RuleLemmas.{some_none, waits_le, still, tickets_stay}

module _ {T E B : Type 0} (session : E → ℕ) (seats : ℕ) (base : B) (entries : T → List E) (basis : T → B) where
  abbrev S : Type 0
  S = State (Option T) (View E B)

  abbrev V : Type 0
  V = View E B

  abbrev M : Type 0
  M = View E B × List (ℕ × Option T)

  abbrev Rule : S → Type 0
  Rule = OfShares session seats base entries basis

  abbrev W : Type 0
  W = Account E

  abbrev Part_ok : W → Part E B → Type 0
  Part_ok = FitsPart session seats base

  pub draws : (slots id : ℕ) (me : M) → me.0.ticket ≡ None → me.0.taken ≡ None → 0 < length me.0.parts
      → Allows Rule slots id me 0 (λ n. (n + 1) % 2 ^ 64) (Draws (step slots 0 1 0 none) me)
  draws slots id me no_ticket no_taken some_part s h _ at _ =
      let k : ℕ = h.account.drawn in
      let d : ℕ = h.account.served in
      let w : V = view me.0.parts (Some k) me.0.taken in
      let x : W = record { history = h.account.history; drawn = k + 1; served = h.account.served; who = sent_to h.account.who k id } in
      let mine = h.fits id me.0 at in
      let one : waits me.0 ≡ 0 = ap (λ (o : Option ℕ). waits {E = E} {B = B} (view [] o None)) no_ticket in
      let tw = total-set waits s.views id me.0 w at in
      let ts = total-set sessions s.views id me.0 w at in
      let is = h.waiting in
      let round : ((k % 2 ^ 64) + 1) % 2 ^ 64 ≡ (k + 1) % 2 ^ 64 = omega arith in
      let stays : (m : ℕ) (u : V) → m ≢ k → get_elem? s.views (h.account.who m) ≡ some u → u.ticket ≡ Some m → get_elem? (set s.views id w) (sent_to h.account.who k id m) ≡ some u =
      λ m u e there has. (ap (λ (i : ℕ). get_elem? (set s.views id w) i) (sent_else h.account.who k id m e)
      ∙ set_else s.views id (h.account.who m) w (differs s.views id (h.account.who m) m me.0 u at there no_ticket has)) ∙ there in (
        w,
        keeps,
        tt,
        record {
          account = x;
          few = h.few;
          words = ap (λ (ws : List ℕ). set ws 0 ((get_or ws 0 0 + 1) % 2 ^ 64)) h.words ∙ ap (λ (n : ℕ). n ∷ h.account.served % 2 ^ 64 ∷ length h.account.history ∷ []) round;
          fits = each_set (Fits session seats base x) s.views id w
              (record {
                parts = mine.parts;
                ticket = λ n e. let same : k ≡ n = cc in (omega arith, omega arith, ap (sent_to h.account.who k id) (sym same) ∙ sent_here h.account.who k id, some_part);
                taken = λ l e. let z : None ≡ Some l = sym no_taken ∙ e in absurd (cc);
              })
              (λ j u n e. let f = h.fits j u e in record {
                parts = f.parts;
                ticket = λ m g. let old = f.ticket m g in let below = old.1 in (old.0, omega arith, sent_else h.account.who k id m (λ z. absurd (omega arith)) ∙ old.2, old.3);
                taken = f.taken;
              });
          tickets = λ m low high. dite (ℕ_discrete m k)
              (λ (e : m ≡ k). (w, ap (λ (i : ℕ). get_elem? (set s.views id w) i) (ap (sent_to h.account.who k id) e ∙ sent_here h.account.who k id) ∙ put_there s.views id me.0 w at, ap Some (sym e)))
              (λ (e : m ≢ k). let old = h.tickets m low (omega arith) in (old.0, stays m old.0 e old.1 old.2, old.2));
          waiting = omega arith;
          shared = let sh = h.shared in omega arith;
          once = λ m fits. let tc = total-set (counts m) s.views id me.0 w at in let o = h.once m fits in omega arith;
          owned = h.owned;
          one_slot = h.one_slot;
          away = λ gone. let old = h.away gone in let f = h.fits (h.account.who d) old.0 old.1 in let below = (f.ticket d old.2).1 in
              (old.0, stays d old.0 (λ z. absurd (omega arith)) old.1 old.2, old.2, old.3);
          out = each_set (λ _ v. (l : List E) → v.taken ≡ Some l → get_elem? s.homes 0 ≡ some none) s.views id w
              (λ l e. h.out id me.0 at l e) (λ j u n e. h.out j u e);
          home = h.home;
        },
        (refl, (k, sym (ap (λ (ws : List ℕ). get_or ws 0 0) h.words), refl)),
      )

  pub draws_expected : (slots id : ℕ) (me : M) (expected next : ℕ) → next ≡ (expected + 1) % 2 ^ 64 → me.0.ticket ≡ None → me.0.taken ≡ None → 0 < length me.0.parts
      → Allows Rule slots id me 0 (λ n. either (eqb n expected) next n) (DrawsExpected (step slots 0 expected next none) me)
  draws_expected slots id me expected next is no_ticket no_taken some_part s h wide at below =
      let found : ℕ = get_or s.words 0 0 in
      let Goes : ℕ → Type 0 = λ n. (w : V) × (a : Act (Option T)) × Valid s.homes me.1 a × Rule (stepped s 0 n id me.1 w a)
      × DrawsExpected (step slots 0 expected next none) me found (w, carried_after me.1 a) in
      let same_words : set s.words 0 found ≡ s.words = ap (λ (ws : List ℕ). set ws 0 (get_or ws 0 0)) h.words ∙ sym h.words in
      exchanged found expected next Goes
      (λ (hit : found ≡ expected).
      let drawn = draws slots id me no_ticket no_taken some_part s h wide at below in
      subst Goes (ap (λ (n : ℕ). (n + 1) % 2 ^ 64) hit ∙ sym is) (drawn.0, drawn.1, drawn.2, drawn.3, ((λ _. drawn.4), λ miss. absurd (miss hit))))
      (λ (miss : found ≢ expected). (
        me.0,
        keeps,
        tt,
        still session seats base entries basis s 0 id me at found same_words h,
        ((λ hit. absurd (miss hit)), λ _. refl),
      ))

  pub looks : (slots id : ℕ) (me : M) (k : ℕ) → me.0.ticket ≡ Some k → me.0.taken ≡ None → me.1 ≡ []
      → Allows Rule slots id me 1 (λ n. n) (Looks session entries basis (step slots 1 0 0 none) me)
  looks slots id me k my_ticket no_taken nothing s h _ at _ =
      let x : W = h.account in
      let d : ℕ = x.served in
      let found : ℕ = get_or s.words 1 0 in
      let found_is : found ≡ d % 2 ^ 64 = ap (λ (ws : List ℕ). get_or ws 1 0) h.words in
      let mine = h.fits id me.0 at in
      let held = mine.ticket k my_ticket in
      let same_words : set s.words 1 found ≡ s.words = ap (λ (ws : List ℕ). set ws 1 (get_or ws 1 0)) h.words ∙ sym h.words in
      let least = held.0 in let below = held.1 in
      let wide : total waits s.views ≤ total sessions s.views = total_le waits sessions s.views (λ j u e. waits_le (h.fits j u e)) in
      let wa = h.waiting in let sh = h.shared in let fe = h.few in
      dite (ℕ_discrete found (k % 2 ^ 64))
      (λ (hit : found ≡ k % 2 ^ 64).
      let turn : d ≡ k = one_turn d k (2 ^ 64) least (omega arith) (sym found_is ∙ hit) in
      let my_turn : me.0.ticket ≡ Some d = my_ticket ∙ ap Some (sym turn) in
      let here : x.who d ≡ id = (mine.ticket d my_turn).2 in
      ⊎_elim
      (λ (gone : get_elem? s.homes 0 ≡ some none).
      let old = h.away gone in let same = same_view s.views id (x.who d) me.0 old.0 at old.1 here in
      let z : None ≡ Some old.3.0 = sym no_taken ∙ ap (λ (v : V). v.taken) (sym same) ∙ old.3.1 in absurd (cc))
      (λ (there : (y : Option T) × (get_elem? s.homes 0 ≡ some (some y))).
      let q = h.home there.0 there.1 in
      let v : T = q.0 in
      let w : V = view me.0.parts me.0.ticket (Some (entries v)) in
      let tw = total-set waits s.views id me.0 w at in
      let ts = total-set sessions s.views id me.0 w at in
      let no_home : get_elem? (set s.homes 0 none) 0 ≡ some none = (let o = h.one_slot in set_here s.homes 0 none (omega arith)) in (
        w,
        takes 0 (Some v),
        there.1 ∙ ap (λ (y : Option T). some (some y)) q.1,
        record {
          account = x;
          few = h.few;
          words = same_words ∙ h.words;
          fits = each_set (Fits session seats base x) s.views id w
              (record {
                parts = mine.parts;
                ticket = mine.ticket;
                taken = λ l e. let z : entries v ≡ l = cc in (my_turn, inl (sym q.2 ∙ z));
              })
              (λ j u n e. h.fits j u e);
          tickets = λ m low high. tickets_stay session seats base entries basis s x id me.0 w at refl m (h.tickets m low high);
          waiting = omega arith;
          shared = omega arith;
          once = λ m fits. let tc = total-set (counts m) s.views id me.0 w at in let o = h.once m fits in omega arith;
          owned = h.owned;
          one_slot = length-set s.homes 0 none ∙ h.one_slot;
          away = λ _. (w, ap (λ (i : ℕ). get_elem? (set s.views id w) i) here ∙ put_there s.views id me.0 w at, my_turn, (entries v, refl));
          out = λ j u e l f. no_home;
          home = λ y e. absurd (some_none (some-injective none (some y) (sym no_home ∙ e)));
        },
        (λ m e. let same : k ≡ m = cc in (
          (λ _. (
            v,
            ap (λ (c : List (ℕ × Option T)). (0, Some v) ∷ c) nothing,
            refl,
            each_map (Part_ok x) (λ p. (p.basis ≡ basis v) × (p.entries ≡ numbered session p.session 0 (entries v))) (λ p f. (f.1 ∙ sym q.3, f.2 ∙ ap (numbered session p.session 0) (sym q.2))) me.0.parts mine.parts,
          )),
          (λ miss. absurd (miss (hit ∙ ap (λ (n : ℕ). n % 2 ^ 64) same))),
        )),
      ))
      (slot_cases s.homes h.one_slot))
      (λ (miss : found ≢ k % 2 ^ 64). (
        me.0,
        keeps,
        tt,
        still session seats base entries basis s 1 id me at found same_words h,
        (λ m e. let same : k ≡ m = cc in ((λ hit. absurd (miss (hit ∙ ap (λ (n : ℕ). n % 2 ^ 64) (sym same)))), λ _. refl)),
      ))
