use Rattle.std.proofs.Common.{Bool, List, refl, subst}
use Rattle.spec_script.specs.declared.line.ScriptLine.{ScriptLine}
use Rattle.bv_journaled.specs.Standing.{stored_of}
use Rattle.bv_sessions.specs.Runs.{Runs}
use Rattle.bv_run.proofs.running.run_mounted.Goals as goal

pub returns-then-whole : goal.returns-then-whole
returns-then-whole g c = record {
  store = c.run_sessions-history.result.store;
  device = c.into_device-dev.ensures;
  runs = subst (λ (p : List ScriptLine × Bool). Runs p.0 c.args.volume c.run_sessions-history.result.history.history c.run_sessions-history.result.ends.items p.1 (stored_of c.run_sessions-history.result.store))
      (λ k. (c.lines.ensures.lines k, c.if-whole.true k)) c.run_sessions-history.ensures;
  lawful = c.lines.ensures.lawful;
}

pub returns-else-whole : goal.returns-else-whole
returns-else-whole g c = record {
  store = c.run_sessions-history.result.store;
  device = c.into_device-dev.ensures;
  refused = refl;
  history = c.run_sessions-history.result.history.history;
  ends = c.run_sessions-history.result.ends.items;
  runs = subst (λ (p : List ScriptLine × Bool). Runs p.0 c.args.volume c.run_sessions-history.result.history.history c.run_sessions-history.result.ends.items p.1 (stored_of c.run_sessions-history.result.store))
      (λ k. (c.lines.ensures.lines k, c.if-whole.false k)) c.run_sessions-history.ensures;
}
