-- The data blocks of the blobs of some metadata, by their roots.
use Rattle.std.proofs.Common.{◌≡◌, ◌≤◌, ◌⊎◌, ℕ, ◌+◌, List, [], ◌∷◌, ◌++◌, Bool, true, false, cond, Option, Some, None, refl, ap, sym, ◌∙◌, subst, inl, inr, arith}
use Rattle.std.proofs.lemmas.List.Elements.{All-nil, All-contains}
use Rattle.std.proofs.lemmas.Map.Views.{All-values-insert_entry}
use Rattle.std.specs.Prelude.{All, Contains, find, option_map, T}
use Rattle.std.specs.declared.cmp.Ordering.TheVariants.{Less, Equal, Greater}
use Rattle.std.specs.Ordering.{is_eq, match_ordering}
use Rattle.std.specs.BTreeMap.{insert_entry, is_at}
use Rattle.std.specs.List.{concat}
use Rattle.std.specs.Map.{lookup, values_of}
use Rattle.std.specs.FinMap.Entries.{is_sorted, is_sorted-put, same_entries}
use Rattle.spec_tree.specs.declared.Digest.{Digest}
use Rattle.spec_tree.specs.Order.{digest_cmp, same_digest}
use Rattle.spec_disk.proofs.ImageLemmas.{Contains-head, Contains-cons, Contains-cons_cases}
use Rattle.spec_image.specs.Chain.{BlobRecord}
use Rattle.spec_image.specs.Metadata.{Metadata}
use Rattle.spec_image.specs.Stored.{blocks_of}
use Rattle.spec_image.specs.WellFormed.{records_of, blobs_named}
use Rattle.spec_image.specs.WellFormedParts.{WellFormed}
use Rattle.spec_image.proofs.MapLemmas.{digest_total}
use Rattle.spec_image.proofs.SoundLemmas.{one_root}
use Rattle.spec_core.specs.Log.{without}
use Rattle.spec_core.proofs.Holding.{same_self}
use Rattle.spec_laws.proofs.RecordLemmas.{blob_known}
use Rattle.spec_meta.proofs.Counting.{count, Inserted, sum_inserted}
use Rattle.spec_meta.proofs.MapLemmas.{same_find, same_put, lookup_insert, named, found_inserted, none_named}
use Rattle.bv_store.specs.Stored.{blocks_in}
use Rattle.bv_journaled.specs.Kept.{IsOf}
use Rattle.bv_journaled.specs.Standing.{placed_of}

-- ---- what stands at a root

abbrev pub places : BlobRecord → List ℕ
places r = blocks_of r.extents

pub placed_has : (rs : List BlobRecord) (root : Digest) → lookup (is_at (digest_cmp root)) (placed_of rs) ≡ option_map places (find (named root) rs)
placed_has [] root = refl
placed_has (r ∷ rs) root =
    lookup_insert (placed_of rs) r.root (places r) root ∙ ap (cond (same_digest root r.root) (Some (places r))) (placed_has rs root) ∙ first (same_digest root r.root) r (find (named root) rs)
  where
    first : (t : Bool) (x : BlobRecord) (o : Option BlobRecord) → cond t (Some (places x)) (option_map places o) ≡ option_map places (cond t (Some x) o)
    first true x o = refl
    first false x o = refl

among_values : {X : Type 0} (test : Digest → Bool) (es : List (Digest × X)) (v : X) → lookup test es ≡ Some v → Contains (values_of es) v
among_values test [] v e = absurd (no e)
  where
    no : {X : Type 0} {x : X} → None ≡ Some x → ⊥
    no e = cc
among_values {X} test (x ∷ es) v e = chosen (test x.0) e (λ is. among_values test es v is)
  where
    chosen : (t : Bool) → cond t (Some x.1) (lookup test es) ≡ Some v → (lookup test es ≡ Some v → Contains (values_of es) v) → Contains (values_of (x ∷ es)) v
    chosen true is later = let same : x.1 ≡ v = cc in subst (λ (y : X). Contains (values_of (x ∷ es)) y) same (Contains-head x.1 (values_of es))
    chosen false is later = Contains-cons x.1 (values_of es) v (later is)

pub in_first : (xs ys : List ℕ) (x : ℕ) → Contains xs x → Contains (xs ++ ys) x
in_first [] ys x (k, below, is) = absurd (omega (arith, below))
in_first (y ∷ xs) ys x c = elim (Contains-cons_cases y xs x c) [
  | inl is ↦ subst (λ (z : ℕ). Contains (y ∷ (xs ++ ys)) z) is (Contains-head y (xs ++ ys))
  | inr later ↦ Contains-cons y (xs ++ ys) x (in_first xs ys x later)
]

pub in_second : (xs ys : List ℕ) (x : ℕ) → Contains ys x → Contains (xs ++ ys) x
in_second [] ys x c = c
in_second (y ∷ xs) ys x c = Contains-cons y (xs ++ ys) x (in_second xs ys x c)

in_concat : (xss : List (List ℕ)) (xs : List ℕ) (x : ℕ) → Contains xss xs → Contains xs x → Contains (concat xss) x
in_concat [] xs x (k, below, is) c = absurd (omega (arith, below))
in_concat (ys ∷ xss) xs x among c = elim (Contains-cons_cases ys xss xs among) [
  | inl is ↦ in_first ys (concat xss) x (subst (λ (zs : List ℕ). Contains zs x) (sym is) c)
  | inr later ↦ in_second ys (concat xss) x (in_concat xss xs x later c)
]

-- the blocks of each blob are among those of all
pub placed_blocks : (m : Metadata) (r : BlobRecord) (x : ℕ) → WellFormed m → Contains (records_of m) r → IsOf r x → Contains (blocks_in (placed_of (records_of m))) x
placed_blocks m r x w c is =
    let there : lookup (is_at (digest_cmp r.root)) (placed_of (records_of m)) ≡ Some (places r) = placed_has (records_of m) r.root ∙ ap (option_map places) (blob_known m r w c) in
    in_concat (values_of (placed_of (records_of m))) (places r) x (among_values (is_at (digest_cmp r.root)) (placed_of (records_of m)) (places r) there) is

pub in_either : (xs ys : List ℕ) (x : ℕ) → Contains (xs ++ ys) x → Contains xs x ⊎ Contains ys x
in_either [] ys x c = inr c
in_either (y ∷ xs) ys x c = elim (Contains-cons_cases y (xs ++ ys) x c) [
  | inl is ↦ inl (subst (λ (z : ℕ). Contains (y ∷ xs) z) is (Contains-head y xs))
  | inr later ↦ elim (in_either xs ys x later) [ inl first ↦ inl (Contains-cons y xs x first) | inr second ↦ inr second ]
]

concat_of : (xss : List (List ℕ)) (x : ℕ) → Contains (concat xss) x → (xs : List ℕ) × Contains xss xs × Contains xs x
concat_of [] x (k, below, is) = absurd (omega (arith, below))
concat_of (ys ∷ xss) x c = elim (in_either ys (concat xss) x c) [
  | inl here ↦ (ys, Contains-head ys xss, here)
  | inr later ↦ let rest = concat_of xss x later in (rest.0, Contains-cons ys xss rest.0 rest.1, rest.2)
]

abbrev IsPlaceOf : List BlobRecord → List ℕ → Type 0
IsPlaceOf rs places_are = (r : BlobRecord) × Contains rs r × (places_are ≡ places r)

values_known : (rs : List BlobRecord) → All (IsPlaceOf rs) (values_of (placed_of rs))
values_known [] = All-nil (IsPlaceOf [])
values_known (r ∷ rs) =
    All-values-insert_entry digest_cmp r.root (places r) (IsPlaceOf (r ∷ rs)) (placed_of rs)
    (λ k e lt. let known = values_known rs k e lt in (known.0, Contains-cons r rs known.0 known.1, known.2))
    (r, Contains-head r rs, refl)

-- and each of all is one of some blob
pub placed_known : (rs : List BlobRecord) (x : ℕ) → Contains (blocks_in (placed_of rs)) x → (r : BlobRecord) × Contains rs r × IsOf r x
placed_known rs x c =
    let found = concat_of (values_of (placed_of rs)) x c in
    let known : IsPlaceOf rs found.0 = All-contains (IsPlaceOf rs) (values_of (placed_of rs)) found.0 (values_known rs) found.1 in
    (known.0, known.1, subst (λ (l : List ℕ). Contains l x) known.2 found.2)

-- ---- one blob more, or less

placed_sorted : (rs : List BlobRecord) → T (is_sorted digest_cmp (placed_of rs))
placed_sorted [] = tt
placed_sorted (r ∷ rs) =
    subst (λ (es : List (Digest × List ℕ)). T (is_sorted digest_cmp es)) (sym (same_put r.root (places r) (placed_of rs))) (is_sorted-put digest_cmp digest_total r.root (places r) (placed_of rs) (placed_sorted rs))

pub placed_inserted : (b : BlobRecord) (old new : List BlobRecord) → Inserted b old new → blobs_named old b.root ≡ 0 → placed_of new ≡ insert_entry digest_cmp (placed_of old) b.root (places b)
placed_inserted b old new i none =
    let es : List (Digest × List ℕ) = insert_entry digest_cmp (placed_of old) b.root (places b) in
    same_entries digest_cmp digest_total (λ x y e. one_root x y (ap is_eq e)) (placed_of new) es (placed_sorted new) (placed_sorted (b ∷ old)) (λ q.
    sym (same_find q (placed_of new)) ∙ placed_has new q ∙ ap (option_map places) (found_inserted b old new q i none)
    ∙ mapped (same_digest q b.root) b (find (named q) old) ∙ ap (cond (same_digest q b.root) (Some (places b))) (sym (placed_has old q))
    ∙ sym (lookup_insert (placed_of old) b.root (places b) q) ∙ same_find q es)
  where
    mapped : (t : Bool) (x : BlobRecord) (o : Option BlobRecord) → option_map places (cond t (Some x) o) ≡ cond t (Some (places x)) (option_map places o)
    mapped true x o = refl
    mapped false x o = refl

-- a root that isn't there takes nothing with it
pub without_absent : {X : Type 0} (root : Digest) (es : List (Digest × X)) → lookup (is_at (digest_cmp root)) es ≡ None → without es root ≡ es
without_absent root [] none = refl
without_absent {X} root (e ∷ es) none = chosen (is_at (digest_cmp root) e.0) none (λ is. without_absent root es is)
  where
    chosen : (t : Bool) → cond t (Some e.1) (lookup (is_at (digest_cmp root)) es) ≡ None → (lookup (is_at (digest_cmp root)) es ≡ None → without es root ≡ es) → cond t es (e ∷ without es root) ≡ e ∷ es
    chosen true is later = absurd cc
    chosen false is later = ap (λ (l : List (Digest × X)). e ∷ l) (later is)

-- an entry that comes and goes leaves nothing
without_insert : {X : Type 0} (k : Digest) (v : X) (es : List (Digest × X)) → lookup (is_at (digest_cmp k)) es ≡ None → without (insert_entry digest_cmp es k v) k ≡ es
without_insert k v [] none = rw (same_self k) refl
without_insert {X} k v (e ∷ es) none =
    elim (digest_cmp k e.0) as (λ o. digest_cmp k e.0 ≡ o → without (match_ordering o ((k, v) ∷ e ∷ es) ((e.0, v) ∷ es) (e ∷ insert_entry digest_cmp es k v)) k ≡ e ∷ es) [
      | Less ↦ λ is. rw (same_self k) refl
      | Equal ↦ λ is. let t : is_eq (digest_cmp k e.0) ≡ true = ap is_eq is in absurd (found (is_eq (digest_cmp k e.0)) e.1 (lookup (is_at (digest_cmp k)) es) t none)
      | Greater ↦ λ is.
          let t : is_eq (digest_cmp k e.0) ≡ false = ap is_eq is in
          let later : lookup (is_at (digest_cmp k)) es ≡ None = past (is_eq (digest_cmp k e.0)) e.1 (lookup (is_at (digest_cmp k)) es) t none in
          rw t (ap (λ (x : List (Digest × X)). e ∷ x) (without_insert k v es later))
    ] refl
  where
    found : {Y : Type 0} (b : Bool) (x : Y) (o : Option Y) → b ≡ true → cond b (Some x) o ≡ None → ⊥
    found true x o t e = cc
    found false x o t e = cc

    past : {Y : Type 0} (b : Bool) (x : Y) (o : Option Y) → b ≡ false → cond b (Some x) o ≡ None → o ≡ None
    past true x o t e = absurd cc
    past false x o t e = e

pub placed_taken : (b : BlobRecord) (old new : List BlobRecord) → Inserted b new old → blobs_named old b.root ≤ 1 → placed_of new ≡ without (placed_of old) b.root
placed_taken b old new i most =
    let here : count (same_digest b.root b.root) ≡ 1 = ap count (same_self b.root) in
    let sum : blobs_named old b.root ≡ blobs_named new b.root + count (same_digest b.root b.root) = sum_inserted (λ x. count (same_digest b.root x.root)) b new old i in
    let none : blobs_named new b.root ≡ 0 = omega (arith, sum, here, most) in
    let absent : lookup (is_at (digest_cmp b.root)) (placed_of new) ≡ None = placed_has new b.root ∙ ap (option_map places) (none_named new b.root none) in
    sym (ap (λ (es : List (Digest × List ℕ)). without es b.root) (placed_inserted b new old i none) ∙ without_insert b.root (places b) (placed_of new) absent)
