use Rattle.std.proofs.Common.{List, ap, ◌∙◌}
use Rattle.std.specs.List.{list_any}
use Rattle.spec_core.specs.declared.event.CoreEvent.{CoreEvent}
use Rattle.bv_run.specs.Reports.{is_fault}
use Rattle.bv_run.proofs.StatusLemmas.{met_fault}
use Rattle.bv_run.proofs.reporting.met_fault.Goals as goal

pub returns : goal.returns
returns c =
    met_fault c.args.history.now.history c.has_fault.result
    (c.has_fault.ensures ∙ ap (λ (es : List CoreEvent). list_any (λ e. is_fault e.reply) es) c.events.ensures)
