-- The first event of a line, and a session's own events among all.
use Rattle.std.proofs.Common.{◌≡◌, Bool, true, false, cond, List, [], ◌∷◌, ◌++◌, refl, sym, ap, ◌∙◌}
use Rattle.std.specs.Prelude.{filter}

module _ {X : Type 0} (p : X → Bool) where
  -- where a list's members that pass a test are split at one, so is the list
  pub record Split (all front : List X) (x : X) (back : List X) : Type 0 where
    pub before : List X
    pub behind : List X
    pub is : all ≡ before ++ x ∷ behind
    pub first : filter p before ≡ front
    pub rest : filter p behind ≡ back
    pub passes : p x ≡ true

  passes : (y : X) (all front : List X) (x : X) (back : List X) → p y ≡ true
      → ((f : List X) → filter p all ≡ f ++ x ∷ back → Split all f x back)
      → y ∷ filter p all ≡ front ++ x ∷ back → Split (y ∷ all) front x back
  passes y all [] x back pass other same =
      let one : y ≡ x = cc in
      let more : filter p all ≡ back = cc in
      record { before = []; behind = all; is = ap (λ (z : X). z ∷ all) one; first = refl; rest = more; passes = ap p (sym one) ∙ pass }
  passes y all (f ∷ front) x back pass other same =
      let one : y ≡ f = cc in
      let more : filter p all ≡ front ++ x ∷ back = cc in
      let s = other front more in
      record {
        before = y ∷ s.before;
        behind = s.behind;
        is = ap (λ (l : List X). y ∷ l) s.is;
        first = ap (λ (b : Bool). cond b (y ∷ filter p s.before) (filter p s.before)) pass ∙ (λ i. one i ∷ s.first i);
        rest = s.rest;
        passes = s.passes;
      }

  misses : (y : X) (all front : List X) (x : X) (back : List X) → p y ≡ false → Split all front x back → Split (y ∷ all) front x back
  misses y all front x back miss s = record {
    before = y ∷ s.before;
    behind = s.behind;
    is = ap (λ (l : List X). y ∷ l) s.is;
    first = ap (λ (b : Bool). cond b (y ∷ filter p s.before) (filter p s.before)) miss ∙ s.first;
    rest = s.rest;
    passes = s.passes;
  }

  by_test : (y : X) (all front : List X) (x : X) (back : List X) (b : Bool) → p y ≡ b
      → ((f : List X) → filter p all ≡ f ++ x ∷ back → Split all f x back)
      → cond b (y ∷ filter p all) (filter p all) ≡ front ++ x ∷ back → Split (y ∷ all) front x back
  by_test y all front x back true is other same = passes y all front x back is other same
  by_test y all front x back false is other same = misses y all front x back is (other front same)

  pub split : (all front : List X) (x : X) (back : List X) → filter p all ≡ front ++ x ∷ back → Split all front x back
  split [] [] x back is = absurd (cc)
  split [] (f ∷ front) x back is = absurd (cc)
  split (y ∷ all) front x back is = by_test y all front x back (p y) refl (λ f same. split all f x back same) is

  -- two first members that pass a test are one
  pub record Same (xs ys : List X) (x y : X) (rs ss : List X) : Type 0 where
    pub before : xs ≡ ys
    pub one : x ≡ y
    pub behind : rs ≡ ss

  no_head : (x : X) (xs : List X) → p x ≡ true → filter p (x ∷ xs) ≡ [] → ⊥
  no_head x xs pass none = let some : (x ∷ filter p xs) ≡ [] = ap (λ (b : Bool). cond b (x ∷ filter p xs) (filter p xs)) (sym pass) ∙ none in differ some where
    differ : (x ∷ filter p xs) ≡ [] → ⊥
    differ same = cc

  no_tail : (x : X) (xs : List X) → filter p (x ∷ xs) ≡ [] → filter p xs ≡ []
  no_tail x xs = go (p x) where
    go : (b : Bool) → cond b (x ∷ filter p xs) (filter p xs) ≡ [] → filter p xs ≡ []
    go true none = absurd (cc)
    go false none = none

  pub firsts : (xs ys : List X) (x y : X) (rs ss : List X) → xs ++ x ∷ rs ≡ ys ++ y ∷ ss → p x ≡ true → p y ≡ true → filter p xs ≡ [] → filter p ys ≡ [] → Same xs ys x y rs ss
  firsts [] [] x y rs ss is px py nx ny = record { before = refl; one = let e : x ≡ y = cc in e; behind = let e : rs ≡ ss = cc in e }
  firsts [] (b ∷ ys) x y rs ss is px py nx ny = let e : x ≡ b = cc in absurd (no_head b ys (ap p (sym e) ∙ px) ny)
  firsts (a ∷ xs) [] x y rs ss is px py nx ny = let e : a ≡ y = cc in absurd (no_head a xs (ap p e ∙ py) nx)
  firsts (a ∷ xs) (b ∷ ys) x y rs ss is px py nx ny =
      let e : a ≡ b = cc in
      let more : xs ++ x ∷ rs ≡ ys ++ y ∷ ss = cc in
      let s = firsts xs ys x y rs ss more px py (no_tail a xs nx) (no_tail b ys ny) in
      record { before = λ i. e i ∷ s.before i; one = s.one; behind = s.behind }

  -- none of those that pass a wider test passes
  pub none_within : (q : X → Bool) → ((x : X) → p x ≡ true → q x ≡ true) → (xs : List X) → filter p (filter q xs) ≡ [] → filter p xs ≡ []
  none_within q wide [] none = refl
  none_within q wide (x ∷ xs) none = go (q x) refl none (λ k. none_within q wide xs k) where
    both : (b : Bool) → p x ≡ b → q x ≡ false → filter p xs ≡ [] → cond b (x ∷ filter p xs) (filter p xs) ≡ []
    both true is not k = let e : q x ≡ true = wide x is in absurd (cc)
    both false is not k = k

    go : (c : Bool) → q x ≡ c → filter p (cond c (x ∷ filter q xs) (filter q xs)) ≡ [] → (filter p (filter q xs) ≡ [] → filter p xs ≡ []) → filter p (x ∷ xs) ≡ []
    go true is k rest =
        let more : filter p xs ≡ [] = rest (no_tail x (filter q xs) k) in
        first (p x) refl k more where
          first : (b : Bool) → p x ≡ b → filter p (x ∷ filter q xs) ≡ [] → filter p xs ≡ [] → cond b (x ∷ filter p xs) (filter p xs) ≡ []
          first true pass k more = absurd (no_head x (filter q xs) pass k)
          first false pass k more = more
    go false is k rest = both (p x) refl is (rest k)

  -- where those that pass a test are the join of two lists, so is the list
  pub record Joined (all front back : List X) : Type 0 where
    pub before : List X
    pub behind : List X
    pub is : all ≡ before ++ behind
    pub first : filter p before ≡ front
    pub rest : filter p behind ≡ back

  pub joined : (all front back : List X) → filter p all ≡ front ++ back → Joined all front back
  joined all [] back is = record { before = []; behind = all; is = refl; first = refl; rest = is }
  joined [] (f ∷ front) back is = absurd (cc)
  joined (y ∷ all) (f ∷ front) back is = go (p y) refl is (λ fs same. joined all fs back same) where
    go : (b : Bool) → p y ≡ b → cond b (y ∷ filter p all) (filter p all) ≡ f ∷ front ++ back → ((fs : List X) → filter p all ≡ fs ++ back → Joined all fs back) → Joined (y ∷ all) (f ∷ front) back
    go true pass same other =
        let one : y ≡ f = cc in
        let more : filter p all ≡ front ++ back = cc in
        let s = other front more in
        record {
          before = y ∷ s.before;
          behind = s.behind;
          is = ap (λ (l : List X). y ∷ l) s.is;
          first = ap (λ (b : Bool). cond b (y ∷ filter p s.before) (filter p s.before)) pass ∙ (λ i. one i ∷ s.first i);
          rest = s.rest;
        }
    go false miss same other =
        let s = other (f ∷ front) same in
        record {
          before = y ∷ s.before;
          behind = s.behind;
          is = ap (λ (l : List X). y ∷ l) s.is;
          first = ap (λ (b : Bool). cond b (y ∷ filter p s.before) (filter p s.before)) miss ∙ s.first;
          rest = s.rest;
        }
