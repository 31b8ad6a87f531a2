use Rattle.std.proofs.Common.{◌∙◌, ap}
use Rattle.bv_model.proofs.Flush.{publish_onto}
use Rattle.bv_text.specs.Core.{Core}
use Rattle.bv_text.specs.Tables.{core_of}
use Rattle.bv_text.proofs.machine.Machine.publish.Goals as goal

pub returns-clause-state : goal.returns-clause-state
returns-clause-state c =
    rw (c.in_ok-insert.ensures.entries, c.in_ok-push.ensures.items) (publish_onto c.args.self.now.state (core_of c.self.inside).state c.args.root c.args.blob (ap (λ (v : Core). v.state) c.self.view_is ∙ c.in_ok-flush.ensures.state))
