use Rattle.bv_handles.proofs.HoldersLemmas.{added_stand, added_counts}
use Rattle.bv_handles.proofs.holders.Holders.add_first.Goals as goal

pub returns-in-Ok-insert-clause-stands : goal.returns-in-Ok-insert-clause-stands
returns-in-Ok-insert-clause-stands c =
    added_stand c.args.self.now.keys.entries c.insert-in-Ok.new.self.entries c.args.self.now.blobs c.insert.new.self c.requires.stands c.args.root c.in-Ok.key c.requires.absent
    c.in-Ok.ensures.was_vacant c.in-Ok.ensures.updates c.in-Ok-insert.ensures.updates.0

pub returns-in-Ok-insert-clause-ok : goal.returns-in-Ok-insert-clause-ok
returns-in-Ok-insert-clause-ok c =
    added_counts c.args.self.now.keys.entries c.insert-in-Ok.new.self.entries c.args.self.now.blobs c.insert.new.self c.requires.stands c.args.root c.in-Ok.key c.requires.absent
    c.in-Ok.ensures.was_vacant c.in-Ok.ensures.updates c.in-Ok-insert.ensures.updates.0
