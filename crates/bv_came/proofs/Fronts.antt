-- What holds of the beginning and of the rest of a history.
use Rattle.std.proofs.Common.{◌≤◌, ℕ, List, [], ◌∷◌, ◌++◌, arith}
use Rattle.std.specs.Prelude.{All}
use Rattle.std.proofs.lemmas.List.Elements.{All-nil, All-cons, All-head, All-tail}
use Rattle.spec_core.specs.History.{NeverFall}
use Rattle.spec_core.specs.declared.event.CoreEvent.{CoreEvent}
use Rattle.spec_orderly.specs.Slots.{AreMounted}
use Rattle.bv_shared.specs.Since.{EndBy}

-- none is an unmount
pub mounted_front : (xs ys : List CoreEvent) → AreMounted (xs ++ ys) → AreMounted xs
mounted_front [] ys k = tt
mounted_front (x ∷ xs) ys k = (k.0, mounted_front xs ys k.1)

pub mounted_back : (xs ys : List CoreEvent) → AreMounted (xs ++ ys) → AreMounted ys
mounted_back [] ys k = k
mounted_back (x ∷ xs) ys k = mounted_back xs ys k.1

falls_to : (n : ℕ) (xs : List CoreEvent) (e : CoreEvent) (ys : List CoreEvent) → NeverFall n (xs ++ e ∷ ys) → n ≤ e.calls
falls_to n [] e ys k = k.0
falls_to n (x ∷ xs) e ys k = let more = falls_to x.calls xs e ys k.1 in omega (arith, k.0, more)

-- each event before one ended within its calls
pub ended_by : (n : ℕ) (xs : List CoreEvent) (e : CoreEvent) (ys : List CoreEvent) → NeverFall n (xs ++ e ∷ ys) → All (λ x. x.calls ≤ e.calls) xs
ended_by n [] e ys k = All-nil (λ (x : CoreEvent). x.calls ≤ e.calls)
ended_by n (x ∷ xs) e ys k = All-cons (λ (y : CoreEvent). y.calls ≤ e.calls) x xs (falls_to x.calls xs e ys k.1) (ended_by x.calls xs e ys k.1)

end_by : (c : ℕ) (es : List CoreEvent) → All (λ e. e.calls ≤ c) es → EndBy c es
end_by c [] k = tt
end_by c (e ∷ es) k = (All-head (λ x. x.calls ≤ c) e es k, end_by c es (All-tail (λ x. x.calls ≤ c) e es k))

end_more : (c : ℕ) (es : List CoreEvent) (e : CoreEvent) → EndBy c es → e.calls ≤ c → EndBy c (es ++ e ∷ [])
end_more c [] e k last = (last, tt)
end_more c (x ∷ es) e k last = (k.0, end_more c es e k.1 last)

-- and so did these with that one
pub end_then : (es : List CoreEvent) (e : CoreEvent) (rest : List CoreEvent) → NeverFall 0 (es ++ e ∷ rest) → EndBy e.calls (es ++ e ∷ [])
end_then es e rest k = end_more e.calls es e (end_by e.calls es (ended_by 0 es e rest k)) (let same : e.calls ≤ e.calls = omega arith in same)
