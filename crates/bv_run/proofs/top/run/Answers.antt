use Rattle.std.proofs.Common.{map, subst}
use Rattle.std.specs.Prelude.{string_bytes}
use Rattle.bv_serve.specs.Runs.{change}
use Rattle.bv_run.specs.declared.form.Form.{Form}
use Rattle.bv_run.specs.Runs.{RunsScript}
use Rattle.bv_run.proofs.WordsLemmas.{one_form}
use Rattle.bv_run.proofs.top.run.Goals as goal

pub returns-in-Some-clause-serves : goal.returns-in-Some-clause-serves
returns-in-Some-clause-serves g c = record {
  sessions = λ form is.
      subst
      (λ (f : Form). RunsScript f c.run_script.result.0 (g.D.Device.seen c.args.dev) (g.D.Device.seen c.run_script.result.1)
      (change (g.S.Source.seen c.args.input.now) (g.S.Source.seen c.run_script.new.input)) (change (g.K.Sink.seen c.args.out.now) (g.K.Sink.seen c.run_script.new.out)))
      (one_form (map string_bytes c.args.words.now) c.in-Some.form form c.in-Some.ensures.some is) c.run_script.ensures;
  others = λ none. absurd (none c.in-Some.form c.in-Some.ensures.some);
}
