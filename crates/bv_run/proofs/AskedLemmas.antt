-- Why no script was read, from what reading the source says.
use Rattle.std.proofs.Common.{◌≡◌, ℕ, ◌+◌, ◌<◌, ◌≤◌, ◌↔◌, List, length, Option, None, Some, Result, Err, IfSome, arith, sym, subst, length-append, replicate, inl, inr, ◌-◌}
use Rattle.std.proofs.lemmas.Bool.{cases_lt}
use Rattle.std.proofs.lemmas.List.{length-replicate}
use Rattle.std.specs.Io.KnownBytes.{Consumes}
use Rattle.spec_faults.specs.Faults.{CountsFaultsWhere}
use Rattle.bv_io.specs.declared.reading.ReadAllFault.{ReadAllFault}
use Rattle.bv_io.specs.declared.reading.ReadAllFault.TheVariants as reading
use Rattle.bv_io.specs.Streams.{TakesSome, taken_count}
use Rattle.bv_serve.specs.Lines.{reading_refusal}
use Rattle.bv_serve.specs.Runs.{Change}
use Rattle.bv_run.specs.Asked.{IsUnread, script_limit}

-- some bytes were taken, with a length of which the count has this
some_bytes : (old new : Option (List ℕ)) (m : ℕ) (P : ℕ → Type 0) → TakesSome old new → IfSome (taken_count old new) P → P m → (bytes : List ℕ) × Consumes old new bytes × P (length bytes)
some_bytes None new m P some count fallback = (replicate m 0, tt, subst P (sym (length-replicate m 0)) fallback)
some_bytes (Some xs) None m P some count fallback = absurd some.1
some_bytes (Some xs) (Some ys) m P some count fallback =
    let same : length xs - length ys ≡ length some.0 = simp (some.1, length-append) (omega arith) in
    (some.0, some.1, subst P same count)

-- ---- the causes of a fault

pub unread : {X : Type 0} (fault : ReadAllFault) (r : Result X ReadAllFault) (input : Change) → r ≡ Err fault → TakesSome input.old input.new
    → IfSome (taken_count input.old input.new) (λ n. (n ≤ script_limit + 1) × ((r ≡ Err reading.TooLong) ↔ (script_limit < n)))
    → CountsFaultsWhere (r ≡ Err reading.ReadFault) input.faults_before input.faults_after → IsUnread (reading_refusal fault) input
unread reading.TooLong r input is some count faults =
    let b = some_bytes input.old input.new (script_limit + 1) (λ n. (n ≤ script_limit + 1) × ((r ≡ Err reading.TooLong) ↔ (script_limit < n))) some count
    (omega arith, (λ _. omega arith, λ _. is)) in
    record {
      bytes = b.0;
      moved = b.1;
      over = omega (arith, b.2.0, b.2.1.0 is);
      kept = faults.kept (λ e. absurd (cc (is, e)));
    }
unread reading.ReadFault r input is some count faults =
    let b = some_bytes input.old input.new 0 (λ n. (n ≤ script_limit + 1) × ((r ≡ Err reading.TooLong) ↔ (script_limit < n))) some count
    (omega arith, (λ e. absurd (cc (is, e)), λ h. absurd (omega (arith, h)))) in
    record {
      bytes = b.0;
      moved = b.1;
      within = elim (cases_lt script_limit (length b.0)) as (λ _. length b.0 ≤ script_limit) [ inl over ↦ absurd (cc (is, b.2.1.1 over)) | inr within ↦ within ];
      rose = faults.failed is;
    }
unread reading.NoMemory r input is some count faults = tt
