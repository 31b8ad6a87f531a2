use Rattle.std.proofs.Common.{refl}
use Rattle.slab.proofs.SlabLemmas.{Updates-with_value}
use Rattle.bv_handles.proofs.HoldersLemmas.{set_stands, set_counts}
use Rattle.bv_handles.proofs.holders.Holders.set.Goals as goal

pub returns-clause-stands : goal.returns-clause-stands
returns-clause-stands c =
    set_stands c.args.self.now.keys.entries c.args.self.now.blobs _ c.requires.stands c.args.root c.args.key c.requires.has _
    (Updates-with_value c.args.self.now.blobs c.args.key _ (rw (c.requires.stands c.args.root c.args.key c.requires.has).1 refl)) c.args.slots refl

pub returns-clause-counted : goal.returns-clause-counted
returns-clause-counted c =
    set_counts c.args.self.now.keys.entries c.args.self.now.blobs _ c.requires.stands c.args.root c.args.key c.requires.has _
    (Updates-with_value c.args.self.now.blobs c.args.key _ (rw (c.requires.stands c.args.root c.args.key c.requires.has).1 refl)) c.args.slots refl
