use Rattle.std.proofs.Common.{refl, sym, ap, ◌∙◌}
use Rattle.spec_core.specs.declared.act.Act.TheVariants.{Close, Unlink, Sync, List as ListAll, Open, Read, Scan}
use Rattle.bv_session.proofs.LineLemmas.{by_command, ends_none, sync_ends, list_ends, close_ends, idle_stays, unlinks_named, opens_named, own_open, own_read, own_scan, own_close, own_unlink, own_sync, own_list, own_add, unlink_ends}
use Rattle.bv_session.proofs.SlotLemmas.{ok_any, ok_then, slot_none, slots_but, slots_kept, taken_knows, touches_as}
use Rattle.bv_session.proofs.LookLemmas.{shows_as, shows_none}
use Rattle.spec_script.specs.declared.command.Command.{Command}
use Rattle.spec_script.specs.Tasks.{task_of}
use Rattle.spec_session.specs.Conform.{own_act}
use Rattle.spec_tree.specs.declared.Digest.{Digest}
use Rattle.spec_session.specs.Told.{who_of}
use Rattle.bv_session.specs.Sessions.{own}
use Rattle.spec_core.specs.declared.act.Act.{Act}
use Rattle.spec_served.specs.Device.{blob_by}
use Rattle.bv_session.proofs.line.run_line.Goals as goal

pub returns-in-Err-clause-line : goal.returns-in-Err-clause-line
returns-in-Err-clause-line g c =
    ends_none _ c.args.version _ _ _ _ refl

pub returns-in-Err-root_of_name-clause-line : goal.returns-in-Err-root_of_name-clause-line
returns-in-Err-root_of_name-clause-line g c =
    ends_none _ c.args.version _ _ _ _ refl

pub returns-in-Add-clause-line : goal.returns-in-Add-clause-line
returns-in-Add-clause-line g c =
    by_command c.args.version _ _ _ _ _ _ _ c.in-Add.is refl c.add_word.ensures.line

pub returns-in-Ok-clause-line : goal.returns-in-Ok-clause-line
returns-in-Ok-clause-line g c =
    by_command c.args.version _ _ _ _ _ _ _ c.in-Open.is (own_open _ _) (opens_named c.args.version _ _ _ _ _ _ _ c.in-Ok.ensures (c.open.ensures.line c.args.version))

pub returns-in-Read-clause-line : goal.returns-in-Read-clause-line
returns-in-Read-clause-line g c =
    by_command c.args.version _ _ _ _ _ _ _ c.in-Read.is (own_read _ _ _) (c.read.ensures.line c.args.version)

pub returns-in-Scan-clause-line : goal.returns-in-Scan-clause-line
returns-in-Scan-clause-line g c =
    by_command c.args.version _ _ _ _ _ _ _ c.in-Scan.is (own_scan _) (c.scan.ensures.line c.args.version)

pub returns-in-Sync-clause-line : goal.returns-in-Sync-clause-line
returns-in-Sync-clause-line g c =
    by_command c.args.version _ _ _ _ _ _ _ c.in-Sync.is own_sync (sync_ends c.args.version _ _ _ _ c.sync.ensures.line)

pub returns-in-Sync-clause-idle : goal.returns-in-Sync-clause-idle
returns-in-Sync-clause-idle g c =
    idle_stays c.args.version _ _ _ Sync c.sync.result (λ q. refl) c.sync.ensures.line c.requires.idle

pub returns-in-List-clause-line : goal.returns-in-List-clause-line
returns-in-List-clause-line g c =
    by_command c.args.version _ _ _ _ _ _ _ c.in-List.is own_list (list_ends c.args.version _ _ _ _ c.list.ensures.line)

pub returns-in-List-clause-idle : goal.returns-in-List-clause-idle
returns-in-List-clause-idle g c =
    idle_stays c.args.version _ _ _ ListAll c.list.result (λ q. refl) c.list.ensures.line c.requires.idle

pub returns-in-Close-clause-line : goal.returns-in-Close-clause-line
returns-in-Close-clause-line g c =
    by_command c.args.version _ _ _ _ _ _ _ c.in-Close.is (own_close _) (close_ends c.args.version _ _ _ c.in-Close.slot _ c.close.ensures.line)

pub returns-in-Close-clause-idle : goal.returns-in-Close-clause-idle
returns-in-Close-clause-idle g c =
    idle_stays c.args.version _ _ _ (Close c.in-Close.slot) c.close.result (λ q. refl) c.close.ensures.line c.requires.idle

pub returns-in-Ok-root_of_name-clause-line : goal.returns-in-Ok-root_of_name-clause-line
returns-in-Ok-root_of_name-clause-line g c =
    by_command c.args.version _ _ _ _ _ _ _ c.in-Unlink.is (own_unlink _) (unlinks_named c.args.version _ _ _ _ _ _ c.in-Ok-root_of_name.ensures c.unlink.ensures.line)

pub returns-in-Ok-root_of_name-clause-idle : goal.returns-in-Ok-root_of_name-clause-idle
returns-in-Ok-root_of_name-clause-idle g c =
    idle_stays c.args.version _ _ _ (Unlink c.in-Ok-root_of_name.root) c.unlink.result (λ q. refl) c.unlink.ensures.line c.requires.idle

pub returns-in-Add-clause-slots : goal.returns-in-Add-clause-slots
returns-in-Add-clause-slots g c =
    ok_any _ (slots_kept _ _ _ c.add_word.ensures.stays c.args.version _ _ _ c.add_word.ensures.line c.args.slots.now.pages.items (λ slot. touches_as slot _ _ (own_add _) (λ h. h)) c.requires.slots)

pub returns-in-Add-clause-shows : goal.returns-in-Add-clause-shows
returns-in-Add-clause-shows g c =
    shows_none _ _ _ c.add_word.ensures.stays (who_of c.args.line.now) (own_act (task_of c.args.line.now.command)) c.add_word.result
    (λ es q. ap (λ (a : Act). blob_by es a q) (ap (λ (x : Command). own_act (task_of x)) c.in-Add.is ∙ own_add _))

pub returns-in-Ok-clause-slots : goal.returns-in-Ok-clause-slots
returns-in-Ok-clause-slots g c =
    ok_then _ (λ here. slots_but _ _ _ c.open.ensures.stays c.args.version _ _ _ (c.open.ensures.line c.args.version) c.in-Open.slot c.args.slots.now.pages.items _ (λ s other same. other (sym same)) c.open.ensures.others here c.requires.slots) c.open.ensures.slots

pub returns-in-Ok-clause-shows : goal.returns-in-Ok-clause-shows
returns-in-Ok-clause-shows g c =
    shows_as c.args.share.now c.open.new.share (who_of c.args.line.now) (Open c.in-Open.slot c.in-Ok.root) (own_act (task_of c.args.line.now.command)) c.open.result (ap (λ (x : Command). own_act (task_of x)) c.in-Open.is ∙ own_open _ _ ∙ ap (λ (r : Digest). Open c.in-Open.slot r) (sym c.in-Ok.ensures)) c.open.ensures.shows

pub close-requires-clause-pages : goal.close-requires-clause-pages
close-requires-clause-pages g c = taken_knows c.args.share.now c.in-Close.slot c.args.slots.now.pages.items _ c.take-pages.ensures.taken (c.requires.slots c.in-Close.slot)

pub returns-in-Close-clause-slots : goal.returns-in-Close-clause-slots
returns-in-Close-clause-slots g c =
    ok_any _ (slots_but _ _ _ c.close.ensures.stays c.args.version (who_of c.args.line.now) (Close c.in-Close.slot) c.close.result (close_ends c.args.version (who_of c.args.line.now) (own c.args.share.now) (own c.close.new.share) c.in-Close.slot c.close.result c.close.ensures.line) c.in-Close.slot c.args.slots.now.pages.items _ (λ s other same. other (sym same)) c.take-pages.ensures.others
    (slot_none c.close.new.share c.in-Close.slot _ c.take-pages.ensures.none) c.requires.slots)

pub returns-in-Close-clause-shows : goal.returns-in-Close-clause-shows
returns-in-Close-clause-shows g c =
    shows_as c.args.share.now c.close.new.share (who_of c.args.line.now) (Close c.in-Close.slot) (own_act (task_of c.args.line.now.command)) c.close.result (ap (λ (x : Command). own_act (task_of x)) c.in-Close.is ∙ own_close _) (shows_none _ _ _ c.close.ensures.stays (who_of c.args.line.now) (Close c.in-Close.slot) c.close.result (λ es q. refl))

pub returns-in-Ok-root_of_name-clause-slots : goal.returns-in-Ok-root_of_name-clause-slots
returns-in-Ok-root_of_name-clause-slots g c =
    ok_any _ (slots_kept _ _ _ c.unlink.ensures.stays c.args.version (who_of c.args.line.now) (Unlink c.in-Ok-root_of_name.root) c.unlink.result (unlink_ends c.args.version (who_of c.args.line.now) (own c.args.share.now) (own c.unlink.new.share) c.in-Ok-root_of_name.root c.unlink.result c.unlink.ensures.line) c.args.slots.now.pages.items (λ slot h. h) c.requires.slots)

pub returns-in-Ok-root_of_name-clause-shows : goal.returns-in-Ok-root_of_name-clause-shows
returns-in-Ok-root_of_name-clause-shows g c =
    shows_as c.args.share.now c.unlink.new.share (who_of c.args.line.now) (Unlink c.in-Ok-root_of_name.root) (own_act (task_of c.args.line.now.command)) c.unlink.result (ap (λ (x : Command). own_act (task_of x)) c.in-Unlink.is ∙ own_unlink _ ∙ ap Unlink (sym c.in-Ok-root_of_name.ensures)) (shows_none _ _ _ c.unlink.ensures.stays (who_of c.args.line.now) (Unlink c.in-Ok-root_of_name.root) c.unlink.result (λ es q. refl))

pub returns-in-Read-clause-slots : goal.returns-in-Read-clause-slots
returns-in-Read-clause-slots g c =
    ok_then _ (λ here. slots_but _ _ _ c.read.ensures.stays c.args.version _ _ _ (c.read.ensures.line c.args.version) c.in-Read.slot c.args.slots.now.pages.items _ (λ s other h. h) c.read.ensures.others here c.requires.slots) c.read.ensures.slots

pub returns-in-Read-clause-shows : goal.returns-in-Read-clause-shows
returns-in-Read-clause-shows g c =
    shows_as c.args.share.now c.read.new.share (who_of c.args.line.now) (Read c.in-Read.slot c.in-Read.off c.in-Read.len) (own_act (task_of c.args.line.now.command)) c.read.result (ap (λ (x : Command). own_act (task_of x)) c.in-Read.is ∙ own_read _ _ _) c.read.ensures.shows

pub returns-in-Scan-clause-slots : goal.returns-in-Scan-clause-slots
returns-in-Scan-clause-slots g c =
    ok_then _ (λ here. slots_but _ _ _ c.scan.ensures.stays c.args.version _ _ _ (c.scan.ensures.line c.args.version) c.in-Scan.slot c.args.slots.now.pages.items _ (λ s other h. h) c.scan.ensures.others here c.requires.slots) c.scan.ensures.slots

pub returns-in-Scan-clause-shows : goal.returns-in-Scan-clause-shows
returns-in-Scan-clause-shows g c =
    shows_as c.args.share.now c.scan.new.share (who_of c.args.line.now) (Scan c.in-Scan.slot) (own_act (task_of c.args.line.now.command)) c.scan.result (ap (λ (x : Command). own_act (task_of x)) c.in-Scan.is ∙ own_scan _) c.scan.ensures.shows

pub returns-in-Sync-clause-slots : goal.returns-in-Sync-clause-slots
returns-in-Sync-clause-slots g c =
    ok_any _ (slots_kept _ _ _ c.sync.ensures.stays c.args.version (who_of c.args.line.now) Sync c.sync.result (sync_ends c.args.version (who_of c.args.line.now) (own c.args.share.now) (own c.sync.new.share) c.sync.result c.sync.ensures.line) c.args.slots.now.pages.items (λ slot h. h) c.requires.slots)

pub returns-in-Sync-clause-shows : goal.returns-in-Sync-clause-shows
returns-in-Sync-clause-shows g c =
    shows_as c.args.share.now c.sync.new.share (who_of c.args.line.now) Sync (own_act (task_of c.args.line.now.command)) c.sync.result (ap (λ (x : Command). own_act (task_of x)) c.in-Sync.is ∙ own_sync) (shows_none _ _ _ c.sync.ensures.stays (who_of c.args.line.now) Sync c.sync.result (λ es q. refl))

pub returns-in-List-clause-slots : goal.returns-in-List-clause-slots
returns-in-List-clause-slots g c =
    ok_any _ (slots_kept _ _ _ c.list.ensures.stays c.args.version (who_of c.args.line.now) ListAll c.list.result (list_ends c.args.version (who_of c.args.line.now) (own c.args.share.now) (own c.list.new.share) c.list.result c.list.ensures.line) c.args.slots.now.pages.items (λ slot h. h) c.requires.slots)

pub returns-in-List-clause-shows : goal.returns-in-List-clause-shows
returns-in-List-clause-shows g c =
    shows_as c.args.share.now c.list.new.share (who_of c.args.line.now) ListAll (own_act (task_of c.args.line.now.command)) c.list.result (ap (λ (x : Command). own_act (task_of x)) c.in-List.is ∙ own_list) (shows_none _ _ _ c.list.ensures.stays (who_of c.args.line.now) ListAll c.list.result (λ es q. refl))
