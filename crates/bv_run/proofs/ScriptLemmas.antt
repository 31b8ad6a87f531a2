-- From the parts of a run to its clause.
use Rattle.std.proofs.Common.{◌≡◌, ◌⊎◌, inl, inr, ℕ, List, [], Option, Some, Ok, Err, arith, refl, ap, sym, ◌∙◌, subst}
use Rattle.std.proofs.lemmas.List.{append-nil}
use Rattle.spec_record.specs.declared.geometry.Geometry.{Geometry}
use Rattle.spec_core.specs.History.{History}
use Rattle.spec_script.specs.declared.line.ScriptLine.{ScriptLine}
use Rattle.spec_script.specs.Lawful.{AreLawful}
use Rattle.spec_session.specs.Conform.{Begins, Conform, events_of, requests_of}
use Rattle.spec_session.specs.Text.{TellsRoots}
use Rattle.spec_session.specs.declared.result.LineResult.{LineResult}
use Rattle.spec_served.specs.Served.{Served, ServedSome}
use Rattle.spec_orderly.proofs.Naming.{told_all}
use Rattle.spec_headline.specs.Run.{Run, CutShort, Ended, run_of}
use Rattle.bv_device.specs.Seen.{Seen}
use Rattle.bv_serve.specs.declared.refusal.Refusal.{Refusal}
use Rattle.bv_serve.specs.declared.refusal.Refusal.TheVariants as refusals
use Rattle.bv_serve.specs.declared.status.Status.{Status}
use Rattle.bv_serve.specs.Lines.{refusal_line, refusal_status}
use Rattle.bv_serve.specs.Runs.{Change, Prints}
use Rattle.bv_run.specs.declared.finished.Finished.{Finished}
use Rattle.bv_run.specs.declared.form.Form.{Form}
use Rattle.bv_run.specs.declared.form.Form.TheVariants.{Script, Fresh, Demo}
use Rattle.bv_run.specs.Asked.{IsAsked, IsRefusedAt, IsUnasked}
use Rattle.bv_run.specs.Begun.{IsRefusedBy}
use Rattle.bv_run.specs.Outcomes.{Came, IsOfDevice}
use Rattle.bv_run.specs.Reports.{NotBegun, OutOfMemory, Done, ReportsRefusal, ReportsRun, printed}
use Rattle.bv_run.specs.Runs.{RunsScript, Went}
use Rattle.bv_run.specs.Words.{made_by}
use Rattle.bv_run.proofs.CompleteLemmas.{runs_script}

-- ---- a whole run is one that begins

pub begins : (lines : List ScriptLine) (h : History) (s : ℕ) → Conform lines h s → Begins lines h s
begins lines h s conform =
    (requests_of s lines, [], events_of s h.events, [], sym (append-nil (requests_of s lines)), sym (append-nil (events_of s h.events)), conform, refl)

served_some : (lines : List ScriptLine) (h : History) (s : ℕ) (rs : List LineResult) → Served lines h s rs → ServedSome lines h s rs
served_some lines h s rs served =
    (requests_of s lines, [], events_of s h.events, [], sym (append-nil (requests_of s lines)), sym (append-nil (events_of s h.events)), served, refl)

cut_short : (run : Run) (next first last : ℕ) → Ended run next first last → CutShort run next first last
cut_short run next first last ended = record {
  legal = ended.legal;
  begins = λ s lt. begins run.lines run.history s (ended.conform s lt);
  served = λ s lt. served_some run.lines run.history s (run.results s) (ended.served s lt);
  unmount = inr ended.unmount;
  caused = ended.caused;
}

-- a run whose text found no memory
out_of_memory : (made : Option Geometry) (run : Run) (next : ℕ) (old new : Seen) → Went made (Done run next) old new → Went made (OutOfMemory run next) old new
out_of_memory made run next old new w = record {
  begins = w.begins;
  holds = cut_short run next old.fault_count new.fault_count w.holds;
  tells = tt;
  told = λ d e is is_new premises.
      let since = w.told d e is is_new premises in
      record {
        opening = since.opening;
        is_opening = since.is_opening;
        events = since.events;
        is = since.is;
        holds = since.holds.0.survives;
      };
}

-- ---- what the text asks

pub tells_roots : (lines : List ScriptLine) (h : History) (run : Run) (next first last : ℕ) → AreLawful lines → run.lines ≡ lines → run.history ≡ h → Ended run next first last → TellsRoots lines h
tells_roots lines h run next first last lawful is_lines is_history ended =
    told_all lines h lawful
    (λ s le. subst (λ (p : List ScriptLine × History). Conform p.0 p.1 s) (λ k. (is_lines k, is_history k)) (ended.conform s (omega (arith, le))))

-- ---- a refusal before the device is touched

refused_by : (made : Option Geometry) (form : Form) (refusal : Refusal) (dev : Seen) (input : Change) → IsUnasked form refusal input → IsRefusedBy made refusal dev dev
refused_by made form refusals.TooLong dev input un = refl
refused_by made form (refusals.Script line kind) dev input un = refl
refused_by made form refusals.SourceFault dev input un = refl
refused_by made form refusals.NoMemory dev input un = tt
refused_by made (Demo rounds) refusals.Usage dev input un = absurd un
refused_by made (Demo rounds) refusals.DeviceFault dev input un = absurd un
refused_by made (Demo rounds) (refusals.Volume why) dev input un = absurd un
refused_by made Script refusals.Usage dev input un = absurd un
refused_by made Script refusals.DeviceFault dev input un = absurd un
refused_by made Script (refusals.Volume why) dev input un = absurd un
refused_by made (Fresh g) refusals.Usage dev input un = absurd un
refused_by made (Fresh g) refusals.DeviceFault dev input un = absurd un
refused_by made (Fresh g) (refusals.Volume why) dev input un = absurd un

refused_at : (form : Form) (refusal : Refusal) (input : Change) → IsUnasked form refusal input → IsRefusedAt form refusal input
refused_at form refusals.TooLong input un = un
refused_at form (refusals.Script line kind) input un = un
refused_at form refusals.SourceFault input un = un
refused_at form refusals.NoMemory input un = un
refused_at form refusals.Usage input un = un
refused_at (Demo rounds) refusals.DeviceFault input un = absurd un
refused_at (Demo rounds) (refusals.Volume why) input un = absurd un
refused_at Script refusals.DeviceFault input un = absurd un
refused_at Script (refusals.Volume why) input un = absurd un
refused_at (Fresh g) refusals.DeviceFault input un = absurd un
refused_at (Fresh g) (refusals.Volume why) input un = absurd un

some_is : {A : Type 0} (x y : A) → Some x ≡ Some y → x ≡ y
some_is x y e = cc e

pub runs_unasked : (form : Form) (refusal : Refusal) (ended : Status) (dev : Seen) (input out : Change) → IsUnasked form refusal input
    → ended ≡ refusal_status refusal → Prints out (refusal_line refusal) → RunsScript form ended dev dev input out
runs_unasked form refusal ended dev input out un status line =
    runs_script form (NotBegun refusal) ended dev dev input out (refused_at form refusal input un) (status, line)
    (record {
      begins = refused_by (made_by form) form refusal dev input un;
      holds = tt;
      tells = tt;
      told = λ d e is is_new premises. inl (some_is e d (sym is_new ∙ is));
    })

-- ---- a refusal by the device

-- a refusal of the device comes once there are lines; without memory nothing is said of the source
refused_once : (form : Form) (refusal : Refusal) (input : Change) (lines : List ScriptLine) → IsAsked form input lines → IsOfDevice refusal → IsRefusedAt form refusal input
refused_once form refusals.DeviceFault input lines asked of = (lines, asked)
refused_once form (refusals.Volume why) input lines asked of = (lines, asked)
refused_once (Demo rounds) refusals.NoMemory input lines asked of = tt
refused_once Script refusals.NoMemory input lines asked of = tt
refused_once (Fresh g) refusals.NoMemory input lines asked of = tt
refused_once form refusals.Usage input lines asked of = absurd of
refused_once form refusals.TooLong input lines asked of = absurd of
refused_once form (refusals.Script line kind) input lines asked of = absurd of
refused_once form refusals.SourceFault input lines asked of = absurd of

pub runs_refused : (form : Form) (refusal : Refusal) (ended : Status) (lines : List ScriptLine) (old new : Seen) (input out : Change) → IsAsked form input lines
    → ended ≡ refusal_status refusal → Prints out (refusal_line refusal) → Came lines (made_by form) (Err refusal) old new → RunsScript form ended old new input out
runs_refused form refusal ended lines old new input out asked status line (NotBegun r, is, went) =
    runs_script form (NotBegun r) ended old new input out (refused_once form r input lines asked is.1)
    (status ∙ ap refusal_status (sym is.0), subst (λ (x : Refusal). Prints out (refusal_line x)) (sym is.0) line) went
runs_refused form refusal ended lines old new input out asked status line (OutOfMemory run next, is, went) =
    runs_script form (OutOfMemory run next) ended old new input out (subst (IsAsked form input) (sym is.1) asked)
    (status ∙ ap refusal_status is.0, subst (λ (x : Refusal). Prints out (refusal_line x)) is.0 line) went
runs_refused form refusal ended lines old new input out asked status line (Done run next, is, went) = absurd is

-- ---- a run whose sessions ended

pub runs_ended : (form : Form) (f : Finished) (ended : Status) (lines : List ScriptLine) (old new : Seen) (input out : Change) → IsAsked form input lines
    → ReportsRefusal refusals.NoMemory ended out ⊎ ReportsRun (printed form (run_of lines f.history.history f.ends.items)) (run_of lines f.history.history f.ends.items) ended out
    → Came lines (made_by form) (Ok f) old new → RunsScript form ended old new input out
runs_ended form f ended lines old new input out asked (inl short) came =
    let run : Run = run_of lines f.history.history f.ends.items in
    runs_script form (OutOfMemory run came.1.0) ended old new input out asked short (out_of_memory (made_by form) run came.1.0 old new came.1.1)
runs_ended form f ended lines old new input out asked (inr text) came =
    runs_script form (Done (run_of lines f.history.history f.ends.items) came.1.0) ended old new input out asked text came.1.1
