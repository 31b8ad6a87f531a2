-- How often roots are counted.
use Rattle.std.proofs.Common.{◌≡◌, ◌<◌, ◌≤◌, ℕ, suc, ◌+◌, ◌-◌, List, ◌∷◌, length, drop, get_or, unwrap_or, ap, sym, ◌∙◌, arith, drop-cons}
use Rattle.std.proofs.lemmas.List.Sums.{count_by-le-length}
use Rattle.std.specs.BTreeMap.{insert_entry, is_at}
use Rattle.std.specs.Map.{lookup}
use Rattle.spec_tree.specs.declared.Digest.{Digest}
use Rattle.spec_tree.specs.Order.{digest_cmp, same_digest}
use Rattle.spec_image.specs.Chain.{BlobRecord}
use Rattle.spec_meta.specs.Survey.{root_counts}
use Rattle.spec_meta.proofs.SurveyLemmas.{root_counted}

abbrev Counts : Type 0
Counts = List (Digest × ℕ)

-- how often a root is counted
abbrev pub counted : Digest → Counts → ℕ
counted root counts = unwrap_or (lookup (is_at (digest_cmp root)) counts) 0

-- at most as often as there are blobs
pub counted_few : (bs : List BlobRecord) (counts : Counts) (root : Digest) → counts ≡ root_counts bs → counted root counts ≤ length bs
counted_few bs counts root is =
    omega (arith, ap (counted root) is, root_counted bs root, count_by-le-length (λ b. same_digest root b.root) bs)

-- the counts of the blobs from the one before on
pub counts_more : (bs : List BlobRecord) (i : ℕ) (b : BlobRecord) (root : Digest) (counts new : Counts) → 0 < i → i ≤ length bs → b ≡ get_or bs (i - 1) b → root ≡ b.root → counts ≡ root_counts (drop i bs)
    → new ≡ insert_entry digest_cmp counts root (counted root counts + 1) → new ≡ root_counts (drop (i - 1) bs)
counts_more bs i b root counts new some within is root_is before step =
    let lt : i - 1 < length bs = omega arith in
    let next : suc (i - 1) ≡ i = omega (arith, some) in
    let here : drop (i - 1) bs ≡ b ∷ drop i bs =
    drop-cons bs (i - 1) b lt ∙ ap (λ (x : BlobRecord). x ∷ drop (suc (i - 1)) bs) (sym is) ∙ ap (λ (k : ℕ). b ∷ drop k bs) next in
    step ∙ ap (λ (r : Digest). insert_entry digest_cmp counts r (counted r counts + 1)) root_is
    ∙ ap (λ (es : Counts). insert_entry digest_cmp es b.root (counted b.root es + 1)) before ∙ sym (ap root_counts here)
