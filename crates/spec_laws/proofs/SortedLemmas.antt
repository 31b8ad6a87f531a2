-- Two maps in the order of their roots that have the same at each root are one list.
use Rattle.std.proofs.Common.{◌≡◌, List, [], ◌∷◌, Bool, true, false, cond, Option, Some, None, refl, ap, sym, ◌∙◌, subst}
use Rattle.std.proofs.lemmas.Cmp.{eq_by_cmp_equiv}
use Rattle.std.specs.declared.cmp.Ordering.{Ordering}
use Rattle.std.specs.declared.cmp.Ordering.TheVariants.{Less, Equal, Greater}
use Rattle.std.specs.Ordering.{is_eq, ordering_reverse}
use Rattle.std.specs.List.{AllByRecursion}
use Rattle.std.specs.List.Sorted.{IsStrictlySortedBy}
use Rattle.std.specs.BTreeMap.{is_at}
use Rattle.std.specs.Map.{lookup, keys_of}
use Rattle.spec_tree.specs.declared.Digest.{Digest}
use Rattle.spec_tree.specs.declared.blob.Blob.{Blob}
use Rattle.spec_tree.specs.Order.{digest_cmp}
use Rattle.spec_image.proofs.MapLemmas.{digest_total}
use Rattle.spec_image.proofs.SoundLemmas.{one_root}

abbrev Entries : Type 0
Entries = List (Digest × Blob)

-- this digest is below all keys
abbrev IsBelow : Digest → Entries → Type 0
IsBelow k es = AllByRecursion (λ y. digest_cmp k y ≡ Less) (keys_of es)

below_more : (a b : Digest) (es : Entries) → digest_cmp a b ≡ Less → IsBelow b es → IsBelow a es
below_more a b [] lt all = tt
below_more a b (e ∷ es) lt all = (digest_total.trans a b e.0 lt all.0, below_more a b es lt all.1)

-- what a map has at a root
abbrev at : Entries → Digest → Option Blob
at es root = lookup (is_at (digest_cmp root)) es

none_below : (k : Digest) (es : Entries) → IsBelow k es → at es k ≡ None
none_below k [] all = refl
none_below k (e ∷ es) all = ap (λ (o : Ordering). cond (is_eq o) (Some e.1) (at es k)) all.0 ∙ none_below k es all.1

same_root : (root : Digest) → is_eq (digest_cmp root root) ≡ true
same_root root = (eq_by_cmp_equiv digest_total).refl root

at_head : (e : Digest × Blob) (es : Entries) → at (e ∷ es) e.0 ≡ Some e.1
at_head e es = ap (λ (b : Bool). cond b (Some e.1) (at es e.0)) (same_root e.0)

no_some : {A : Type 0} (o : Option A) (x : A) → o ≡ None → o ≡ Some x → ⊥
no_some None x none some = cc
no_some (Some y) x none some = cc

-- the same at each root
abbrev Same : Entries → Entries → Type 0
Same a b = (root : Digest) → at a root ≡ at b root

-- the first root of one map is not below the first of another that has the same
not_below : (e f : Digest × Blob) (es fs : Entries) → IsBelow f.0 fs → Same (e ∷ es) (f ∷ fs) → digest_cmp e.0 f.0 ≡ Less → ⊥
not_below e f es fs low same lt =
    no_some (at (f ∷ fs) e.0) e.1 (none_below e.0 (f ∷ fs) (lt, below_more e.0 f.0 fs lt low)) (sym (same e.0) ∙ at_head e es)

one_order : (o p : Ordering) → p ≡ ordering_reverse o → (o ≡ Less → ⊥) → (p ≡ Less → ⊥) → is_eq o ≡ true
one_order Less p is first other = absurd (first refl)
one_order Equal p is first other = refl
one_order Greater p is first other = absurd (other is)

one_value : {A : Type 0} (x y : A) → Some x ≡ Some y → x ≡ y
one_value x y e = cc

-- behind equal heads, the same at each root
same_behind : (e : Digest × Blob) (es fs : Entries) → IsBelow e.0 es → IsBelow e.0 fs → Same (e ∷ es) (e ∷ fs) → Same es fs
same_behind e es fs low low' same root =
    choose (is_eq (digest_cmp root e.0)) refl
  where
    choose : (b : Bool) → is_eq (digest_cmp root e.0) ≡ b → at es root ≡ at fs root
    choose true is =
        let one : root ≡ e.0 = one_root root e.0 is in
        subst (λ (k : Digest). at es k ≡ at fs k) (sym one) (none_below e.0 es low ∙ sym (none_below e.0 fs low'))
    choose false is =
        sym (ap (λ (b : Bool). cond b (Some e.1) (at es root)) is) ∙ same root ∙ ap (λ (b : Bool). cond b (Some e.1) (at fs root)) is

pub same_maps : (a b : Entries) → IsStrictlySortedBy digest_cmp (keys_of a) → IsStrictlySortedBy digest_cmp (keys_of b) → Same a b → a ≡ b
unfolding IsStrictlySortedBy
same_maps [] [] s t same = refl
same_maps [] (f ∷ fs) s t same = absurd (no_some (at (f ∷ fs) f.0) f.1 (sym (same f.0)) (at_head f fs))
same_maps (e ∷ es) [] s t same = absurd (no_some (at (e ∷ es) e.0) e.1 (same e.0) (at_head e es))
same_maps (e ∷ es) (f ∷ fs) s t same =
    let tie = one_order (digest_cmp e.0 f.0) (digest_cmp f.0 e.0) (digest_total.antisymm f.0 e.0)
    (not_below e f es fs t.0 same) (not_below f e fs es s.0 (λ root. sym (same root))) in
    let root : e.0 ≡ f.0 = one_root e.0 f.0 tie in
    let value : e.1 ≡ f.1 =
    one_value e.1 f.1 (sym (at_head e es) ∙ same e.0 ∙ ap (λ (b : Bool). cond b (Some f.1) (at fs e.0)) tie) in
    let head : e ≡ f = λ i. (root i, value i) in
    let both : Same (f ∷ es) (f ∷ fs) = subst (λ (x : Digest × Blob). Same (x ∷ es) (f ∷ fs)) head same in
    let low : IsBelow f.0 es = subst (λ (k : Digest). IsBelow k es) root s.0 in
    ap (λ (x : Digest × Blob). x ∷ es) head ∙ ap (λ (xs : Entries). f ∷ xs) (same_maps es fs s.1 t.1 (same_behind f es fs low t.0 both))
