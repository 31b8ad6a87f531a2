-- From what a command did to what the top call did.
use Rattle.std.proofs.Common.{◌≡◌, ℕ, ◌+◌, ◌≤◌, List, length, eqb, true, Option, None, Some, Result, Ok, Err, IfSome, ◌⊎◌, inl, inr, arith, refl, ap, sym, ◌∙◌, subst, length-append}
use Rattle.std.specs.Prelude.{IsSome, IsOk, IsSomeAnd, IsTrue, OnErr, codes}
use Rattle.std.specs.Io.KnownBytes.{Consumes}
use Rattle.spec_faults.specs.Faults.{Rose}
use Rattle.spec_record.specs.declared.geometry.Geometry.{Geometry}
use Rattle.spec_record.specs.Geometry.{total_blocks}
use Rattle.bv_layout.specs.Counts.{counts_or_fault}
use Rattle.bv_device.specs.Seen.{Seen}
use Rattle.bv_serve.specs.declared.command.Command.{Command}
use Rattle.bv_serve.specs.declared.command.Command.TheVariants.{Root, ListBlobs, Check, Recover, Upgrade, Format}
use Rattle.bv_serve.specs.declared.refusal.Refusal.TheVariants.{Usage}
use Rattle.bv_serve.specs.declared.status.Status.{Status}
use Rattle.bv_serve.specs.declared.status.Status.TheVariants as status
use Rattle.bv_serve.specs.Lines.{number_line, refusal_line, refusal_status, mount_refusal, is_clean}
use Rattle.bv_serve.specs.Root.{root_limit, RunsRoot}
use Rattle.bv_serve.specs.Runs.{Change, LeavesAlone, Prints}
use Rattle.bv_serve.specs.Serves.{Serves, Runs, CanEndWell, EndsWell, HoldsVolume}
use Rattle.bv_serve.specs.Words.{IsForm, IsNoForm}
use Rattle.bv_serve.specs.Format.{RunsFormat, Reports}
use Rattle.bv_serve.proofs.FormatLemmas.{reports-no-usage}
use Rattle.spec_inspect.specs.declared.open_fault.OpenFault.{OpenFault}
use Rattle.spec_inspect.specs.declared.open_fault.OpenFault.TheVariants as opening
use Rattle.spec_inspect.specs.declared.mount_fault.MountFault.{MountFault}
use Rattle.spec_inspect.specs.declared.mount_fault.MountFault.TheVariants as mount
use Rattle.spec_inspect.specs.Faults.{of_opening}
use Rattle.spec_inspect.specs.Inspection.{Inspection, inspect_of}
use Rattle.spec_inspect.specs.Report.{Findings, IsClean, report_of}
use Rattle.spec_inspect.proofs.CleanLemmas.{whole_is_clean}
use Rattle.spec_tree.specs.declared.Digest.{Digest}
use Rattle.spec_tree.specs.declared.blob.Blob.{Blob}
use Rattle.spec_crash.specs.Crash.{HoldsWhole}
use Rattle.spec_inspect.proofs.OutcomeLemmas.{volume_or_none, blobs_are_ok}
use Rattle.bv_device.specs.Told.{Disk, now_of}
use Rattle.bv_device.specs.Reads.{ReadsRight, CountsReported}
use Rattle.bv_mount.specs.Inspects.{RefusesMount}
use Rattle.bv_mount.specs.Reports.{reported, reported_by, mount_reported, mount_reported_by}
use Rattle.std.proofs.lemmas.Bool.{false≢true}
use Rattle.spec_image.specs.Volume.{blobs}
use Rattle.bv_mount.specs.Opens.{Refuses}
use Rattle.bv_serve.specs.List.{RunsList, AnswersList, ReportsList}
use Rattle.bv_serve.specs.Check.{RunsCheck, AnswersFindings, PrintsReport, ReportsCheck}
use Rattle.bv_serve.specs.Replayed.{ReportsReplayed}
use Rattle.bv_serve.specs.Recover.{RunsRecover}
use Rattle.bv_serve.specs.Upgrade.{RunsUpgrade}
use Rattle.bv_mount.specs.Recovers.{RefusesRecovery}
use Rattle.bv_serve.proofs.FormatLemmas.{prints-ok}
use Rattle.bv_serve.proofs.WordsLemmas.{one_form}

-- no more is taken than there was
Consumes-length : (old new : Option (List ℕ)) (taken held : List ℕ) → old ≡ Some held → Consumes old new taken → length taken ≤ length held
Consumes-length None new taken held e p = absurd (cc)
Consumes-length (Some xs) None taken held e p = absurd p
Consumes-length (Some xs) (Some ys) taken held e p =
    let same : xs ≡ held = cc in
    let sum : length held ≡ length taken + length ys = simp (sym same, p, length-append) refl in
    omega arith

-- a run that meets no fault and no long input has a root
RunsRoot-complete : (ended : Status) (input out : Change) → RunsRoot ended input out
    → ¬ Rose input.faults_before input.faults_after → ¬ Rose out.faults_before out.faults_after
    → (bytes : List ℕ) → input.old ≡ Some bytes → length bytes ≤ root_limit → ended ≡ status.Ok
RunsRoot-complete status.Ok input out p q r bytes e h = refl
RunsRoot-complete status.Sink input out p q r bytes e h = absurd (r p.2.rose)
RunsRoot-complete status.Source input out p q r bytes e h = absurd (q p.0.rose)
RunsRoot-complete status.Input input out p q r bytes e h =
    let most : length p.0.bytes ≤ length bytes = Consumes-length input.old input.new p.0.bytes bytes e p.0.moved in
    let over : length p.0.bytes ≡ root_limit + 1 = p.0.over in
    absurd (omega arith)
RunsRoot-complete status.Usage input out p q r bytes e h = absurd p
RunsRoot-complete status.Device input out p q r bytes e h = absurd p
RunsRoot-complete status.Volume input out p q r bytes e h = absurd p
RunsRoot-complete status.Memory input out p q r bytes e h = absurd p
RunsRoot-complete status.Damage input out p q r bytes e h = absurd p
RunsRoot-complete status.Refused input out p q r bytes e h = absurd p

-- ---- a list

no_usage_mount : (f : MountFault) → status.Usage ≡ refusal_status (mount_refusal f) → ⊥
no_usage_mount (mount.Super fault) e = absurd (cc e)
no_usage_mount (mount.Replay fault) e = absurd (cc e)
no_usage_mount mount.Moved e = absurd (cc e)
no_usage_mount (mount.Node node fault) e = absurd (cc e)
no_usage_mount (mount.Overlap at) e = absurd (cc e)
no_usage_mount (mount.Twice root) e = absurd (cc e)
no_usage_mount (mount.Bitmap at says) e = absurd (cc e)
no_usage_mount (mount.SuperCount field said found) e = absurd (cc e)
no_usage_mount (mount.DeviceFault count) e = absurd (cc e)
no_usage_mount mount.NoMemory e = absurd (cc e)

list-no-usage : (answer : Result (List ℕ) MountFault) (out : Change) → ReportsList answer status.Usage out → ⊥
list-no-usage (Ok text) out p = p
list-no-usage (Err f) out p = no_usage_mount f p.0

-- an inspection that is Ok refuses nothing, but for want of memory
ok_refuses : (due : Result Inspection MountFault) (f : MountFault) (ended : Status) (before now : ℕ) → IsOk due → RefusesMount due f
    → ended ≡ refusal_status (mount_refusal f) → CountsReported (mount_reported_by f) before now → ¬ Rose before now → ended ≡ status.Memory
ok_refuses (Err e) f ended before now ok refuses is counts kept = absurd (false≢true ok)
ok_refuses (Ok i) (mount.Super fault) ended before now ok refuses is counts kept = absurd (cc refuses)
ok_refuses (Ok i) (mount.Replay fault) ended before now ok refuses is counts kept = absurd (cc refuses)
ok_refuses (Ok i) mount.Moved ended before now ok refuses is counts kept = absurd (cc refuses)
ok_refuses (Ok i) (mount.Node node fault) ended before now ok refuses is counts kept = absurd (cc refuses)
ok_refuses (Ok i) (mount.Overlap at) ended before now ok refuses is counts kept = absurd (cc refuses)
ok_refuses (Ok i) (mount.Twice root) ended before now ok refuses is counts kept = absurd (cc refuses)
ok_refuses (Ok i) (mount.Bitmap at says) ended before now ok refuses is counts kept = absurd (cc refuses)
ok_refuses (Ok i) (mount.SuperCount field said found) ended before now ok refuses is counts kept = absurd (cc refuses)
ok_refuses (Ok i) (mount.DeviceFault count) ended before now ok refuses is counts kept = absurd (kept counts.0)
ok_refuses (Ok i) mount.NoMemory ended before now ok refuses is counts kept = is

-- what is told at a run that needs it
told_now : (told : Option Disk) (P : Disk → Type 0) (Q : Disk → Type 0) → IsSomeAnd told (λ d. ReadsRight d × P d) → IfSome told (λ d. ReadsRight d → Q d) → (d : Disk) × P d × Q d
told_now None P Q has sees = absurd has
told_now (Some d) P Q has sees = (d, has.1, sees has.0)

list-complete : (ended : Status) (old new : Seen) (input out : Change) → RunsList ended old new input out → HoldsVolume old
    → ¬ Rose old.fault_count new.fault_count → ¬ Rose out.faults_before out.faults_after → (ended ≡ status.Ok) ⊎ (ended ≡ status.Memory)
list-complete ended old new input out runs holds device sink = by_answer runs.answer runs.reads.only.faults runs.reads.now runs.reports where
  by_answer : (answer : Result (List ℕ) MountFault) → CountsReported (mount_reported answer) old.fault_count new.fault_count
      → IfSome old.told (λ d. ReadsRight d → AnswersList answer (now_of d)) → ReportsList answer ended out → (ended ≡ status.Ok) ⊎ (ended ≡ status.Memory)
  by_answer (Ok text) counts sees reports = inl (prints-ok ended out text reports sink)
  by_answer (Err f) counts sees reports =
      let told = told_now old.told (λ d. IsSome (blobs (now_of d))) (λ d. RefusesMount (inspect_of (now_of d)) f) holds sees in
      let j = now_of told.0 in
      inr (ok_refuses (inspect_of j) f ended old.fault_count new.fault_count (blobs_are_ok j (volume_or_none j) told.1) told.2 reports.0 counts device)

-- ---- a check

check-no-usage : (answer : Result Findings OpenFault) (out : Change) → ReportsCheck answer status.Usage out → ⊥
check-no-usage (Ok found) out p = p
check-no-usage (Err f) out p = no_usage_mount (of_opening f) p.0

found_refuses : (due : Result Findings OpenFault) (found : Findings) (f : OpenFault) (ended : Status) (before now : ℕ) → due ≡ Ok found → Refuses due f
    → ended ≡ refusal_status (mount_refusal (of_opening f)) → CountsReported (reported_by f) before now → ¬ Rose before now → ended ≡ status.Memory
found_refuses due found (opening.Super fault) ended before now ok refuses is counts kept = absurd (cc (ok, refuses))
found_refuses due found (opening.Replay fault) ended before now ok refuses is counts kept = absurd (cc (ok, refuses))
found_refuses due found opening.Moved ended before now ok refuses is counts kept = absurd (cc (ok, refuses))
found_refuses due found (opening.DeviceFault count) ended before now ok refuses is counts kept = absurd (kept counts.0)
found_refuses due found opening.NoMemory ended before now ok refuses is counts kept = is

report-ok : (found : Findings) (ended : Status) (out : Change) → PrintsReport found ended out → is_clean found ≡ true → ¬ Rose out.faults_before out.faults_after → ended ≡ status.Ok
report-ok found status.Ok out p clean sink = refl
report-ok found status.Damage out p clean sink = absurd (false≢true (sym p.0 ∙ clean))
report-ok found status.Sink out p clean sink = absurd (sink p.rose)
report-ok found status.Usage out p clean sink = absurd p
report-ok found status.Input out p clean sink = absurd p
report-ok found status.Source out p clean sink = absurd p
report-ok found status.Device out p clean sink = absurd p
report-ok found status.Volume out p clean sink = absurd p
report-ok found status.Memory out p clean sink = absurd p
report-ok found status.Refused out p clean sink = absurd p

-- the device tells, and a check of what reads give is clean
abbrev HoldsClean : Seen → Type 0
HoldsClean s = IsSomeAnd s.told (λ d. ReadsRight d × ((x : Findings) × (report_of (now_of d) ≡ Ok x) × IsTrue (is_clean x)))

tests_clean : (x : Findings) → IsClean x → is_clean x ≡ true
tests_clean x clean = let faults = clean.faults in let damaged = clean.damaged in λ i. eqb (length (faults i) + length (damaged i)) 0

clean_told : (told : Option Disk) → IsSomeAnd told (λ d. ReadsRight d × ((held : List (Digest × Blob)) × HoldsWhole (now_of d) held)) → IsSomeAnd told (λ d. ReadsRight d × ((x : Findings) × (report_of (now_of d) ≡ Ok x) × IsTrue (is_clean x)))
clean_told None holds = absurd holds
clean_told (Some d) holds = let report = whole_is_clean (now_of d) holds.1.0 holds.1.1 in (holds.0, (report.0, report.1, tests_clean report.0 report.2))

same_found : (due : Result Findings OpenFault) (a b : Findings) → due ≡ Ok a → due ≡ Ok b → a ≡ b
same_found due a b p q = cc

check-complete : (ended : Status) (old new : Seen) (input out : Change) → RunsCheck ended old new input out → HoldsClean old
    → ¬ Rose old.fault_count new.fault_count → ¬ Rose out.faults_before out.faults_after → (ended ≡ status.Ok) ⊎ (ended ≡ status.Memory)
check-complete ended old new input out runs holds device sink = by_answer runs.answer runs.reads.only.faults runs.reads.now runs.reports where
  by_answer : (answer : Result Findings OpenFault) → CountsReported (reported answer) old.fault_count new.fault_count
      → IfSome old.told (λ d. ReadsRight d → AnswersFindings answer (now_of d)) → ReportsCheck answer ended out → (ended ≡ status.Ok) ⊎ (ended ≡ status.Memory)
  by_answer (Ok found) counts sees reports =
      let told = told_now old.told (λ d. (x : Findings) × (report_of (now_of d) ≡ Ok x) × IsTrue (is_clean x)) (λ d. report_of (now_of d) ≡ Ok found) holds sees in
      let same : found ≡ told.1.0 = same_found (report_of (now_of told.0)) found told.1.0 told.2 told.1.1 in
      inl (report-ok found ended out reports (ap is_clean same ∙ told.1.2) sink)
  by_answer (Err f) counts sees reports =
      let told = told_now old.told (λ d. (x : Findings) × (report_of (now_of d) ≡ Ok x) × IsTrue (is_clean x)) (λ d. Refuses (report_of (now_of d)) f) holds sees in
      inr (found_refuses (report_of (now_of told.0)) told.1.0 f ended old.fault_count new.fault_count told.1.1 told.2 reports.0 counts device)

-- ---- a recovery, and an upgrade

replayed-no-usage : (word : List ℕ) (answer : Result ℕ MountFault) (out : Change) → ReportsReplayed word answer status.Usage out → ⊥
replayed-no-usage word (Ok count) out p = p
replayed-no-usage word (Err f) out p = no_usage_mount f p.0

err_same : (f g : MountFault) (r : Result ℕ MountFault) → r ≡ Err f → r ≡ Err g → f ≡ g
err_same f g r e h = cc

-- it was refused as an inspection is, or fails only where a call of the device does
replayed-complete : (word : List ℕ) (answer : Result ℕ MountFault) (ended : Status) (old new : Seen) (out : Change) → RefusesRecovery answer old new ⊎ OnErr answer (Rose old.fault_count new.fault_count)
    → ReportsReplayed word answer ended out → HoldsVolume old → ¬ Rose old.fault_count new.fault_count → ¬ Rose out.faults_before out.faults_after → (ended ≡ status.Ok) ⊎ (ended ≡ status.Memory)
replayed-complete word (Ok count) ended old new out either reports holds device sink = inl (prints-ok ended out (number_line word count) reports sink)
replayed-complete word (Err f) ended old new out (inr failed) reports holds device sink = absurd (device failed)
replayed-complete word (Err f) ended old new out (inl refused) reports holds device sink =
    let same : f ≡ refused.fault = err_same f refused.fault (Err f) refl refused.is in
    let told = told_now old.told (λ d. IsSome (blobs (now_of d))) (λ d. RefusesMount (inspect_of (now_of d)) refused.fault) holds refused.reads.now in
    let j = now_of told.0 in
    inr (ok_refuses (inspect_of j) refused.fault ended old.fault_count new.fault_count (blobs_are_ok j (volume_or_none j) told.1) told.2 (reports.0 ∙ ap (λ (x : MountFault). refusal_status (mount_refusal x)) same) refused.reads.only.faults device)

recover-complete : (ended : Status) (old new : Seen) (input out : Change) → RunsRecover ended old new input out → HoldsVolume old
    → ¬ Rose old.fault_count new.fault_count → ¬ Rose out.faults_before out.faults_after → (ended ≡ status.Ok) ⊎ (ended ≡ status.Memory)
recover-complete ended old new input out runs holds device sink =
    let either : RefusesRecovery runs.answer old new ⊎ OnErr runs.answer (Rose old.fault_count new.fault_count) = elim runs.device [ inl refused ↦ inl refused | inr ran ↦ inr ran.run.performs.faults.failed ] in
    replayed-complete (codes "recovered") runs.answer ended old new out either runs.reports holds device sink

upgrade-complete : (ended : Status) (old new : Seen) (input out : Change) → RunsUpgrade ended old new input out → HoldsVolume old
    → ¬ Rose old.fault_count new.fault_count → ¬ Rose out.faults_before out.faults_after → (ended ≡ status.Ok) ⊎ (ended ≡ status.Memory)
upgrade-complete ended old new input out runs holds device sink =
    let either : RefusesRecovery runs.answer old new ⊎ OnErr runs.answer (Rose old.fault_count new.fault_count) = elim runs.device [ inl refused ↦ inl refused | inr ran ↦ inr ran.run.performs.faults.failed ] in
    replayed-complete (codes "upgraded") runs.answer ended old new out either runs.reports holds device sink

-- ---- all of it

-- what a command did is what the top call did
Serves-by : (words : List (List ℕ)) (c : Command) (ended : Status) (old new : Seen) (input out : Change) → IsForm words c → Runs c ended old new input out
    → (ended ≡ status.Usage → ⊥)
    → (CanEndWell c old input → ¬ Rose input.faults_before input.faults_after → ¬ Rose old.fault_count new.fault_count → ¬ Rose out.faults_before out.faults_after → EndsWell c ended)
    → Serves words ended old new input out
Serves-by words c ended old new input out form runs no_usage complete = record {
  usage = (λ (e : ended ≡ status.Usage). absurd (no_usage e), λ (none : IsNoForm words). absurd (none c form));
  refused = λ none. absurd (none c form);
  runs = λ d other. subst (λ (x : Command). Runs x ended old new input out) (one_form words c d form other) runs;
  complete = λ d other. subst (λ (x : Command). CanEndWell x old input → ¬ Rose input.faults_before input.faults_after → ¬ Rose old.fault_count new.fault_count → ¬ Rose out.faults_before out.faults_after → EndsWell x ended)
      (one_form words c d form other) complete;
}

short_input : (o : Option (List ℕ)) → IsSomeAnd o (λ bytes. length bytes ≤ root_limit) → (bytes : List ℕ) × (o ≡ Some bytes) × (length bytes ≤ root_limit)
short_input None h = absurd h
short_input (Some bytes) h = (bytes, refl, h)

pub Serves-root : (words : List (List ℕ)) (ended : Status) (old new : Seen) (input out : Change) → IsForm words Root
    → RunsRoot ended input out → Serves words ended old new input out
Serves-root words ended old new input out form runs =
    Serves-by words Root ended old new input out form runs (λ (e : ended ≡ status.Usage). subst (λ (s : Status). RunsRoot s input out) e runs)
    (λ short source device sink. let b = short_input input.old short in RunsRoot-complete ended input out runs source sink b.0 b.1 b.2)

pub Serves-list : (words : List (List ℕ)) (ended : Status) (old new : Seen) (input out : Change) → IsForm words ListBlobs
    → RunsList ended old new input out → Serves words ended old new input out
Serves-list words ended old new input out form runs =
    Serves-by words ListBlobs ended old new input out form runs (λ (e : ended ≡ status.Usage). list-no-usage runs.answer out (subst (λ (s : Status). ReportsList runs.answer s out) e runs.reports))
    (λ holds source device sink. list-complete ended old new input out runs holds device sink)

pub Serves-check : (words : List (List ℕ)) (ended : Status) (old new : Seen) (input out : Change) → IsForm words Check
    → RunsCheck ended old new input out → Serves words ended old new input out
Serves-check words ended old new input out form runs =
    Serves-by words Check ended old new input out form runs (λ (e : ended ≡ status.Usage). check-no-usage runs.answer out (subst (λ (s : Status). ReportsCheck runs.answer s out) e runs.reports))
    (λ holds source device sink. check-complete ended old new input out runs (clean_told old.told holds) device sink)

pub Serves-recover : (words : List (List ℕ)) (ended : Status) (old new : Seen) (input out : Change) → IsForm words Recover
    → RunsRecover ended old new input out → Serves words ended old new input out
Serves-recover words ended old new input out form runs =
    Serves-by words Recover ended old new input out form runs
    (λ (e : ended ≡ status.Usage). replayed-no-usage (codes "recovered") runs.answer out (subst (λ (s : Status). ReportsReplayed (codes "recovered") runs.answer s out) e runs.reports))
    (λ holds source device sink. recover-complete ended old new input out runs holds device sink)

pub Serves-upgrade : (words : List (List ℕ)) (ended : Status) (old new : Seen) (input out : Change) → IsForm words Upgrade
    → RunsUpgrade ended old new input out → Serves words ended old new input out
Serves-upgrade words ended old new input out form runs =
    Serves-by words Upgrade ended old new input out form runs
    (λ (e : ended ≡ status.Usage). replayed-no-usage (codes "upgraded") runs.answer out (subst (λ (s : Status). ReportsReplayed (codes "upgraded") runs.answer s out) e runs.reports))
    (λ holds source device sink. upgrade-complete ended old new input out runs holds device sink)

pub Serves-format : (words : List (List ℕ)) (g : Geometry) (ended : Status) (old new : Seen) (input out : Change) → IsForm words (Format g)
    → RunsFormat g ended old new input out
    → (counts_or_fault g ≡ Ok tt → total_blocks g ≤ old.block_count → ¬ Rose old.fault_count new.fault_count
    → ¬ Rose out.faults_before out.faults_after → ended ≡ status.Ok)
    → Serves words ended old new input out
Serves-format words g ended old new input out form runs complete =
    Serves-by words (Format g) ended old new input out form runs
    (λ (e : ended ≡ status.Usage). reports-no-usage runs.answer out (subst (λ (s : Status). Reports runs.answer s out) e runs.reports))
    (λ can source device sink. complete can.0 can.1 device sink)

pub Serves-refused : (words : List (List ℕ)) (ended : Status) (old new : Seen) (input out : Change) → IsNoForm words → ended ≡ status.Usage
    → LeavesAlone input → Prints out (refusal_line Usage) → Serves words ended old new input out
Serves-refused words ended old new input out none same alone line = record {
  usage = (λ (_ : ended ≡ status.Usage). none, λ (_ : IsNoForm words). same);
  refused = λ _. (alone, line);
  runs = λ c form. absurd (none c form);
  complete = λ c form. absurd (none c form);
}
