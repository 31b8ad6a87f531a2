use Rattle.std.proofs.Common.{◌∙◌, ap, refl}
use Rattle.spec_tree.specs.Tree.{need_of}
use Rattle.spec_core.specs.declared.reply.Reply.TheVariants as replies
use Rattle.spec_session.specs.Own.{OwnAdd}
use Rattle.bv_volume.specs.declared.tokens.Admitted.{Admitted}
use Rattle.bv_adder.proofs.LineLemmas.{idle_retire, idle_settle, line_settle, line_unsettled}
use Rattle.bv_adder.proofs.StepLemmas.{admitted_back, all_put_by, under_way}
use Rattle.bv_adder.proofs.adding.settle.Goals as goal

pub settle-requires-clause-add : goal.settle-requires-clause-add
settle-requires-clause-add g c =
    let a = c.args.adding.now in
    under_way a (need_of a.version a.size) c.args.who.session c.args.volume.now c.args.add c.requires.puts.add

pub settle-requires-clause-put : goal.settle-requires-clause-put
settle-requires-clause-put g c = all_put_by c.args.adding.now c.args.who.session c.args.volume.now c.args.add c.requires.puts c.requires.blob

pub retire-requires : goal.retire-requires
retire-requires g c =
    let a = c.args.adding.now in let arm = c.in-Err-NoMemory in
    let none = rw arm.field-0-is at arm.ensures.row in let back = rw arm.field-0-is at arm.ensures.back in
    admitted_back c.args.volume.now c.settle.new.self c.args.who.session c.args.add arm.add
    (under_way a (need_of a.version a.size) c.args.who.session c.args.volume.now c.args.add c.requires.puts.add) none back

pub returns-in-Err-NoMemory-clause-line : goal.returns-in-Err-NoMemory-clause-line
returns-in-Err-NoMemory-clause-line g c =
    let arm = c.in-Err-NoMemory in
    let none = rw arm.field-0-is at arm.ensures.row in let back = rw arm.field-0-is at arm.ensures.back in
    line_unsettled c.args.adding.now c.args.volume.now c.settle.new.self c.retire.new.self c.args.who arm.add.root
    (ap (λ (t : Admitted). t.root) back ∙ ap (λ (x : OwnAdd). x.root) c.requires.puts.add.is) none c.retire.ensures.row _

pub returns-in-Err-NoMemory-clause-idle : goal.returns-in-Err-NoMemory-clause-idle
returns-in-Err-NoMemory-clause-idle g c =
    let arm = c.in-Err-NoMemory in
    let back = rw arm.field-0-is at arm.ensures.back in
    idle_retire c.args.adding.now c.settle.new.self c.retire.new.self c.args.who arm.add.root
    (ap (λ (t : Admitted). t.root) back ∙ ap (λ (x : OwnAdd). x.root) c.requires.puts.add.is) c.retire.ensures.row

pub returns-in-Err-Stopped-clause-line : goal.returns-in-Err-Stopped-clause-line
returns-in-Err-Stopped-clause-line g c =
    let arm = c.in-Err-Stopped in
    let row = rw arm.field-0-is at arm.ensures.row in
    line_settle c.args.adding.now c.args.volume.now c.settle.new.self c.args.who c.args.add.root
    (ap (λ (x : OwnAdd). x.root) c.requires.puts.add.is) (replies.Stopped arm.fault) _ row refl

pub returns-in-Err-Stopped-clause-idle : goal.returns-in-Err-Stopped-clause-idle
returns-in-Err-Stopped-clause-idle g c =
    let arm = c.in-Err-Stopped in
    let row = rw arm.field-0-is at arm.ensures.row in
    idle_settle c.args.adding.now c.args.volume.now c.settle.new.self c.args.who c.args.add.root
    (ap (λ (x : OwnAdd). x.root) c.requires.puts.add.is) (replies.Stopped arm.fault) row

pub returns-in-Err-NumberEnd-clause-line : goal.returns-in-Err-NumberEnd-clause-line
returns-in-Err-NumberEnd-clause-line g c =
    let arm = c.in-Err-NumberEnd in
    let row = rw arm.field-0-is at arm.ensures.row in
    line_settle c.args.adding.now c.args.volume.now c.settle.new.self c.args.who c.args.add.root
    (ap (λ (x : OwnAdd). x.root) c.requires.puts.add.is) replies.NumberEnd _ row refl

pub returns-in-Err-NumberEnd-clause-idle : goal.returns-in-Err-NumberEnd-clause-idle
returns-in-Err-NumberEnd-clause-idle g c =
    let arm = c.in-Err-NumberEnd in
    let row = rw arm.field-0-is at arm.ensures.row in
    idle_settle c.args.adding.now c.args.volume.now c.settle.new.self c.args.who c.args.add.root
    (ap (λ (x : OwnAdd). x.root) c.requires.puts.add.is) replies.NumberEnd row

pub returns-in-Err-DeviceFault-clause-line : goal.returns-in-Err-DeviceFault-clause-line
returns-in-Err-DeviceFault-clause-line g c =
    let arm = c.in-Err-DeviceFault in
    let row = rw arm.field-0-is at arm.ensures.row in
    line_settle c.args.adding.now c.args.volume.now c.settle.new.self c.args.who c.args.add.root
    (ap (λ (x : OwnAdd). x.root) c.requires.puts.add.is) (replies.DeviceFault arm.fault) _ row refl

pub returns-in-Err-DeviceFault-clause-idle : goal.returns-in-Err-DeviceFault-clause-idle
returns-in-Err-DeviceFault-clause-idle g c =
    let arm = c.in-Err-DeviceFault in
    let row = rw arm.field-0-is at arm.ensures.row in
    idle_settle c.args.adding.now c.args.volume.now c.settle.new.self c.args.who c.args.add.root
    (ap (λ (x : OwnAdd). x.root) c.requires.puts.add.is) (replies.DeviceFault arm.fault) row

pub returns-in-Ok-clause-line : goal.returns-in-Ok-clause-line
returns-in-Ok-clause-line g c =
    line_settle c.args.adding.now c.args.volume.now c.settle.new.self c.args.who c.args.add.root
    (ap (λ (x : OwnAdd). x.root) c.requires.puts.add.is) replies.Published _ c.in-Ok.ensures.row refl

pub returns-in-Ok-clause-idle : goal.returns-in-Ok-clause-idle
returns-in-Ok-clause-idle g c =
    idle_settle c.args.adding.now c.args.volume.now c.settle.new.self c.args.who c.args.add.root
    (ap (λ (x : OwnAdd). x.root) c.requires.puts.add.is) replies.Published c.in-Ok.ensures.row
