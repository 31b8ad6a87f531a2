use Rattle.std.proofs.Common.{◌∙◌, ap, refl}
use Rattle.spec_core.specs.declared.act.Act.TheVariants.{Admit}
use Rattle.spec_core.specs.declared.reply.Reply.TheVariants as replies
use Rattle.bv_volume.specs.declared.tokens.Begun.{Begun}
use Rattle.bv_adder.proofs.GoesLemmas.{goes_join, goes_one}
use Rattle.bv_adder.proofs.LineLemmas.{goes_retired, idle_admit, idle_retire, line_admit, line_admitted, line_unadmitted}
use Rattle.bv_adder.proofs.StepLemmas.{begun_back, claim_back, has_admitted}
use Rattle.bv_adder.proofs.adding.admit.Goals as goal

pub retire_begun-requires-clause-begun : goal.retire_begun-requires-clause-begun
retire_begun-requires-clause-begun g c =
    let arm = c.in-NoMemory in
    let none = rw arm.is at c.in-Err.ensures.row in let back = rw arm.is at c.in-Err.ensures.back in
    begun_back c.args.adding.now c.args.volume.now c.admit.new.self c.args.who.session c.args.begun arm.begun c.args.claimed arm.claimed c.requires.claimed none back

pub retire_begun-requires-clause-claimed : goal.retire_begun-requires-clause-claimed
retire_begun-requires-clause-claimed g c =
    let arm = c.in-NoMemory in
    let none = rw arm.is at c.in-Err.ensures.row in let back = rw arm.is at c.in-Err.ensures.back in
    claim_back c.args.adding.now c.args.volume.now c.admit.new.self c.args.who.session c.args.begun arm.begun c.args.claimed arm.claimed c.requires.claimed none back

pub put_and_settle-requires-clause-puts : goal.put_and_settle-requires-clause-puts
put_and_settle-requires-clause-puts g c =
    has_admitted c.args.adding.now c.args.volume.now c.admit.new.self c.args.who c.args.begun c.args.claimed c.in-Ok.add c.requires.claimed c.in-Ok.ensures.admitted.0 c.in-Ok.ensures.row

pub returns-in-NoMemory-clause-goes : goal.returns-in-NoMemory-clause-goes
returns-in-NoMemory-clause-goes g c =
    let arm = c.in-NoMemory in
    let none = rw arm.is at c.in-Err.ensures.row in let back = rw arm.is at c.in-Err.ensures.back in
    goes_retired c.args.adding.now c.args.volume.now c.admit.new.self c.retire_begun.new.self c.args.who arm.begun.root
    (ap (λ (b : Begun). b.root) (back.0 ∙ c.requires.claimed.token)) none c.retire_begun.ensures.row

pub returns-in-NoMemory-clause-line : goal.returns-in-NoMemory-clause-line
returns-in-NoMemory-clause-line g c =
    let arm = c.in-NoMemory in
    let none = rw arm.is at c.in-Err.ensures.row in let back = rw arm.is at c.in-Err.ensures.back in
    line_unadmitted c.args.adding.now c.args.volume.now c.admit.new.self c.retire_begun.new.self c.args.who arm.begun.root
    (ap (λ (b : Begun). b.root) (back.0 ∙ c.requires.claimed.token)) none c.retire_begun.ensures.row _

pub returns-in-NoMemory-clause-idle : goal.returns-in-NoMemory-clause-idle
returns-in-NoMemory-clause-idle g c =
    let arm = c.in-NoMemory in
    let back = rw arm.is at c.in-Err.ensures.back in
    idle_retire c.args.adding.now c.admit.new.self c.retire_begun.new.self c.args.who arm.begun.root
    (ap (λ (b : Begun). b.root) (back.0 ∙ c.requires.claimed.token)) c.retire_begun.ensures.row

pub returns-in-Stopped-clause-line : goal.returns-in-Stopped-clause-line
returns-in-Stopped-clause-line g c =
    let arm = c.in-Stopped in
    let row = rw arm.is at c.in-Err.ensures.row in
    line_admit c.args.adding.now c.args.volume.now c.admit.new.self c.args.who c.args.begun.root
    (ap (λ (b : Begun). b.root) c.requires.claimed.token) (replies.Stopped arm.fault) _ row tt refl

pub returns-in-Stopped-clause-idle : goal.returns-in-Stopped-clause-idle
returns-in-Stopped-clause-idle g c =
    let arm = c.in-Stopped in
    let row = rw arm.is at c.in-Err.ensures.row in
    idle_admit c.args.adding.now c.args.volume.now c.admit.new.self c.args.who c.args.begun.root
    (ap (λ (b : Begun). b.root) c.requires.claimed.token) (replies.Stopped arm.fault) row tt

pub returns-in-NoNodes-clause-line : goal.returns-in-NoNodes-clause-line
returns-in-NoNodes-clause-line g c =
    let arm = c.in-NoNodes in
    let row = rw arm.is at c.in-Err.ensures.row in
    line_admit c.args.adding.now c.args.volume.now c.admit.new.self c.args.who c.args.begun.root
    (ap (λ (b : Begun). b.root) c.requires.claimed.token) (replies.NoNodes arm.need arm.free) _ row tt refl

pub returns-in-NoNodes-clause-idle : goal.returns-in-NoNodes-clause-idle
returns-in-NoNodes-clause-idle g c =
    let arm = c.in-NoNodes in
    let row = rw arm.is at c.in-Err.ensures.row in
    idle_admit c.args.adding.now c.args.volume.now c.admit.new.self c.args.who c.args.begun.root
    (ap (λ (b : Begun). b.root) c.requires.claimed.token) (replies.NoNodes arm.need arm.free) row tt

pub returns-in-Ok-clause-goes : goal.returns-in-Ok-clause-goes
returns-in-Ok-clause-goes g c =
    goes_join c.args.volume.now c.admit.new.self c.put_and_settle.new.volume
    (goes_one c.args.volume.now c.admit.new.self c.args.who (Admit c.args.begun.root) replies.Admitted c.in-Ok.ensures.row) c.put_and_settle.ensures.goes

pub returns-in-Ok-clause-line : goal.returns-in-Ok-clause-line
returns-in-Ok-clause-line g c =
    line_admitted c.args.adding.now c.args.volume.now c.admit.new.self c.args.who c.args.begun.root
    (ap (λ (b : Begun). b.root) c.requires.claimed.token) c.put_and_settle.new.volume _ c.in-Ok.ensures.row c.put_and_settle.ensures.line
