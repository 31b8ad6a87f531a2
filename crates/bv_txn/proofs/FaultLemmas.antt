-- Faults of numbers below a bound, one number more, and the same faults found otherwise.
use Rattle.std.proofs.Common.{◌≡◌, ◌<◌, ℕ, zero, suc, ◌+◌, List, ◌++◌, refl, ap, sym, ◌∙◌, false, Result, Ok, arith}
use Rattle.std.proofs.lemmas.List.{append-nil, append_assoc}
use Rattle.std.specs.List.{flat_map, range_with_len}
use Rattle.spec_record.specs.declared.node.Node.{Node}
use Rattle.spec_record.specs.declared.node_fault.NodeFault.{NodeFault}
use Rattle.spec_image.specs.Chain.{Nodes, BlobRecord, chain}
use Rattle.spec_image.specs.WellFormed.{read_of, records_below, is_inode}
use Rattle.spec_meta.specs.declared.survey_fault.SurveyFault.{SurveyFault}
use Rattle.spec_meta.specs.Survey.{of_each}
use Rattle.spec_meta.proofs.PublishLemmas.{not_inode}

each_more : (find : ℕ → List SurveyFault) (n s : ℕ) → flat_map find (range_with_len s (suc n)) ≡ flat_map find (range_with_len s n) ++ find (s + n)
each_more find zero s =
    let same : s ≡ s + 0 = omega arith in append-nil (find s) ∙ ap find same
each_more find (suc n) s =
    let same : s + 1 + n ≡ s + suc n = omega arith in
    ap (λ (fs : List SurveyFault). find s ++ fs) (each_more find n (s + 1) ∙ ap (λ (k : ℕ). flat_map find (range_with_len (s + 1) n) ++ find k) same)
    ∙ sym (append_assoc (find s) (flat_map find (range_with_len (s + 1) n)) (find (s + suc n)))

-- one number more
pub of_each_more : (find : ℕ → List SurveyFault) (n : ℕ) → of_each (n + 1) find ≡ of_each n find ++ find n
of_each_more find n =
    let one : n + 1 ≡ suc n = omega arith in
    let same : 0 + n ≡ n = omega arith in
    ap (λ (k : ℕ). of_each k find) one ∙ each_more find n 0 ∙ ap (λ (k : ℕ). of_each n find ++ find k) same

-- the faults of one number more behind those that were there
pub faults_more : (start found new : List SurveyFault) (find : ℕ → List SurveyFault) (n : ℕ) → found ≡ start ++ of_each n find → new ≡ found ++ find n → new ≡ start ++ of_each (n + 1) find
faults_more start found new find n before step =
    step ∙ ap (λ (fs : List SurveyFault). fs ++ find n) before ∙ append_assoc start (of_each n find) (find n) ∙ ap (λ (fs : List SurveyFault). start ++ fs) (sym (of_each_more find n))

each_same : (find other : ℕ → List SurveyFault) (n s : ℕ) → ((k : ℕ) → k < s + n → find k ≡ other k) → flat_map find (range_with_len s n) ≡ flat_map other (range_with_len s n)
each_same find other zero s same = refl
each_same find other (suc n) s same =
    ap (λ (fs : List SurveyFault). fs ++ flat_map find (range_with_len (s + 1) n)) (same s (omega arith))
    ∙ ap (λ (fs : List SurveyFault). other s ++ fs) (each_same find other n (s + 1) (λ k lt. same k (omega (arith, lt))))

-- what finds the same below the bound
pub of_each_same : (find other : ℕ → List SurveyFault) (n : ℕ) → ((k : ℕ) → k < n → find k ≡ other k) → of_each n find ≡ of_each n other
of_each_same find other n same = each_same find other n 0 (λ k lt. same k (omega (arith, lt)))

-- the records of one node more
pub records_more : (ns : Nodes) (blocks n : ℕ) → records_below ns blocks (n + 1) ≡ records_below ns blocks n ++ read_of (chain ns blocks n)
unfolding records_below
records_more ns blocks n =
    let one : n + 1 ≡ suc n = omega arith in ap (λ (k : ℕ). records_below ns blocks k) one

-- a node that is no inode adds no record
pub no_record : (ns : Nodes) (blocks k : ℕ) (bs : List BlobRecord) → is_inode (ns.read k) ≡ false → bs ≡ bs ++ read_of (chain ns blocks k)
no_record ns blocks k bs none =
    sym (append-nil bs) ∙ ap (λ (cs : List BlobRecord). bs ++ cs) (sym (not_inode ns blocks k none))

-- a node that reads
abbrev pub as_node : Node → Result Node NodeFault
as_node n = Ok n
