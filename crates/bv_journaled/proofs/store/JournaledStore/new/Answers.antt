use Rattle.std.proofs.Common.{List, [], None, sym, subst}
use Rattle.std.specs.Prelude.{IfSome}
use Rattle.spec_record.specs.declared.info.Info.{Info}
use Rattle.bv_journal.specs.Rests.{AtRest}
use Rattle.bv_ring.specs.Cursor.{StandsBehind}
use Rattle.bv_txn.specs.declared.change.Change.{Change}
use Rattle.bv_journaled.specs.Kept.{KeepsMap, map_at}
use Rattle.bv_journaled.specs.Standing.{Standing, stored_of, IsStanding, Both}
use Rattle.bv_journaled.proofs.OpeningLemmas.{begun, opens, opened_standing}
use Rattle.bv_journaled.proofs.store.JournaledStore.new.Goals as goal

pub invariant_of-result : goal.invariant_of-result
invariant_of-result g c =
    subst (λ (l : List Change). IsStanding (record (begun (g.D.Device.seen c.args.dev) c.args.opened c.args.meta c.args.ring) { gone = l })) (sym c.new.ensures.items)
    (opened_standing (g.D.Device.seen c.args.dev) c.args.opened c.args.meta c.args.ring c.requires.lawful.limits c.requires.cursor c.requires.same c.requires.total c.requires.lawful.count c.requires.formed c.requires.opened
    (g.met.D.Device.told_calls c.args.dev) c.requires.right)

pub returns-clause-both : goal.returns-clause-both
returns-clause-both g c =
    let s : Standing = begun (g.D.Device.seen c.args.dev) c.args.opened c.args.meta c.args.ring in
    subst (λ (l : List Change). IfSome (stored_of s).told (λ d. (i : Info) → AtRest s.meta.geometry i [] None s.meta.blocks d → StandsBehind s.cursor i []
    → KeepsMap s.meta.geometry d s.meta.blocks (map_at s.meta.geometry s.meta.blocks) → Both (record s { gone = l }) (map_at s.meta.geometry s.meta.blocks) (map_at s.meta.geometry s.meta.blocks))) (sym c.new.ensures.items)
    (opens s c.requires.formed)
