use Rattle.std.proofs.Common.{◌≡◌, ◌≤◌, ℕ, sym, subst, arith, refl}
use Rattle.spec_core.specs.declared.act.Act.TheVariants.{Begin}
use Rattle.bv_ledger.specs.Answers as A
use Rattle.spec_tree.specs.Tree.{need_of}
use Rattle.bv_volume.specs.Spaced.{Spaced}
use Rattle.bv_volume.specs.declared.tokens.Begun.{Begun}
use Rattle.bv_volume.proofs.SessionCalls.{ordered_begin}
use Rattle.bv_volume.proofs.Adds.{begin_room, begin_same, begin_silent, is_begun, is_granted, no_space, same_claims, same_version, spaced_start}
use Rattle.bv_volume.proofs.Silent.{CallDone, quiet_call}
use Rattle.bv_volume.proofs.Sound.{never_published, same_map, sound_silent}
use Rattle.bv_volume.proofs.volume.Volume.begin.Goals as goal
use Rattle.bv_volume.proofs.volume.Volume.begin.Goals.{After-begun}
use Rattle.bv_volume.proofs.volume.Volume.begin.Given.{Over}

pub start-result-requires-clause-adds : goal.start-result-requires-clause-adds
start-result-requires-clause-adds g c = λ r none. no_space c.self.inside.ledger c.self.inside.space (g.S.Store.seen c.self.inside.store) (g.S.Store.held c.self.inside.store) c.self.invariant.1 r none

pub start-result-requires-clause-room : goal.start-result-requires-clause-room
start-result-requires-clause-room g c = λ going. (c.self.invariant.1.exactly going).room

pub start-result-requires-clause-blocks : goal.start-result-requires-clause-blocks
start-result-requires-clause-blocks g c = omega (arith, c.self.invariant.1.table, c.self.invariant.1.blocks)

done : (g : Over) (c : After-begun g) → CallDone c.self.inside.history c.note.new.history c.self.inside.first c.self.inside.ledger c.start-result.new.ledger c.self.inside.space c.start-result.new.space (g.S.Store.seen c.self.inside.store) (g.S.Store.seen c.self.inside.store) (g.S.Store.both c.self.inside.store) c.args.who (Begin c.args.root c.args.size) (A.begin_reply c.start-result.result)
done g c =
    let i = c.self.inside in
    quiet_call i.history c.note.new.history i.first i.ledger c.start-result.new.ledger i.space c.start-result.new.space (g.S.Store.seen i.store) (g.S.Store.both i.store) c.args.who (Begin c.args.root c.args.size) (A.begin_reply c.start-result.result)
    (begin_same i.ledger c.start-result.new.ledger i.space c.start-result.new.space c.args.root c.args.size c.start-result.result c.start-result.ensures.ok c.start-result.ensures.err)
    (rw (c.begin_reply-reply.ensures, c.calls.ensures) at c.note.ensures) c.self.invariant.0 c.start-result.ensures.row (begin_silent c.start-result.result)
    (begin_room i.history i.first i.ledger c.start-result.new.ledger (g.S.Store.seen i.store) (g.S.Store.both i.store) c.args.who c.args.root c.args.size (A.begin_reply c.start-result.result) c.self.invariant.0 c.start-result.ensures.row (rw (← c.self.view_is) at c.requires.spare))
    (g.met.S.Store.counted i.store)

spaced : (g : Over) (c : After-begun g) → Spaced c.start-result.new.ledger c.start-result.new.space (g.S.Store.seen c.self.inside.store) (g.S.Store.held c.self.inside.store)
spaced g c =
    let i = c.self.inside in
    spaced_start i.ledger c.start-result.new.ledger i.space (g.S.Store.seen i.store) (g.S.Store.held i.store) _ _ c.args.who c.args.root c.args.size c.self.invariant.0.accounts c.self.invariant.1 c.start-result.new.space c.start-result.result c.start-result.ensures.row c.start-result.ensures.ok c.start-result.ensures.err (subst (λ (k : ℕ). need_of k c.args.size ≤ 65535) (sym (same_version i.history i.first i.ledger (g.S.Store.seen i.store) (g.S.Store.both i.store) c.self.invariant.0)) (rw (← c.self.view_is) at c.requires.few))

pub invariant_of-self : goal.invariant_of-self
invariant_of-self g c =
    let i = c.self.inside in
    let s = g.S.Store.seen i.store in
    let e = c.start-result in (
      (done g c).kept,
      spaced g c,
      ordered_begin i.history i.first i.ledger e.new.ledger i.space e.new.space s (g.S.Store.both i.store) c.args.who c.args.root c.args.size s.calls c.self.invariant.0 c.self.invariant.2 c.self.invariant.1.nodes (rw (← c.self.view_is) at c.requires.order)
          c.note.new.history e.result (rw (c.begin_reply-reply.ensures, c.calls.ensures) at c.note.ensures) e.ensures.ok e.ensures.err,
      sound_silent i.history c.note.new.history i.ledger.map e.new.ledger.map s c.args.who (Begin c.args.root c.args.size) (A.begin_reply e.result) s.calls (rw (c.begin_reply-reply.ensures, c.calls.ensures) at c.note.ensures)
          (same_map i.ledger e.new.ledger _ _ c.args.who (Begin c.args.root c.args.size) (A.begin_reply e.result) c.self.invariant.0.accounts e.ensures.row (begin_silent e.result)) (never_published (Begin c.args.root c.args.size) (A.begin_reply e.result) (λ x. refl)) c.self.invariant.3,
    )

pub returns-clause-row : goal.returns-clause-row
returns-clause-row g c = rw (← c.self.view_is, c.begun.ensures.reply) (done g c).does

pub returns-clause-begun : goal.returns-clause-begun
returns-clause-begun g c = let i = c.self.inside in is_begun c.note.new.history i.first i.ledger c.start-result.new.ledger i.space c.start-result.new.space (g.S.Store.seen i.store) (g.S.Store.both i.store) c.args.root c.args.size c.start-result.result c.begun.result c.begun.ensures.ok c.start-result.ensures.ok c.self.invariant.1.nodes (done g c).kept

pub returns-clause-grant : goal.returns-clause-grant
returns-clause-grant g c =
    let i = c.self.inside in
    rw (← c.self.view_is) (is_granted i.ledger.setting.version c.args.size i.space.claims c.start-result.new.space.claims c.start-result.result c.begun.result (λ (b : Begun). b ≡ record { root = c.args.root; size = c.args.size }) c.begun.ensures.ok c.start-result.ensures.grant (same_claims i.ledger c.start-result.new.ledger i.space c.start-result.new.space c.args.root c.args.size c.start-result.result c.start-result.ensures.ok) i.history.history.version (same_version i.history i.first i.ledger (g.S.Store.seen i.store) (g.S.Store.both i.store) c.self.invariant.0))

pub returns-clause-crash : goal.returns-clause-crash
returns-clause-crash g c = (done g c).safe
