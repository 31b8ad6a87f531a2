use Rattle.std.proofs.Common.{◌≡◌, [], ap, sym, ◌∙◌, None}
use Rattle.bv_volume.proofs.Freed.{map_is_sole}
use Rattle.spec_core.specs.State.{State}
use Rattle.bv_volume.proofs.Located.{less_places}
use Rattle.bv_volume.proofs.Unmounts.{unmount_settles, unmount_shows}
use Rattle.bv_volume.proofs.volume.Volume.unmount.Goals as goal

pub returns-clause-row : goal.returns-clause-row
returns-clause-row g c =
    let i = c.self.inside in
    let e = c.end_mount-answer in
    let none : i.ledger.adds ≡ [] = sym (ap (λ (x : State). x.adds) c.self.invariant.0.state) ∙ (rw (← c.self.view_is) at c.requires.none) in
    rw (← c.self.view_is)
    (unmount_shows i.history i.first i.ledger e.new.ledger i.space (g.S.Store.seen i.store) (g.S.Store.seen e.new.store) (g.S.Store.both i.store) (g.S.Store.both e.new.store) c.args.who c.self.invariant.0 (rw (← c.self.view_is) at c.requires.spare)
    (g.met.S.Store.counted e.new.store) (g.met.S.Store.both_holds e.new.store) (g.met.S.Store.shown i.store) (g.met.S.Store.shown e.new.store)
    c.self.invariant.3 c.self.invariant.2.located c.self.invariant.2.contents c.self.invariant.2.puts
    (λ going. (map_is_sole i.history i.first i.ledger i.ledger i.space i.space (g.S.Store.seen i.store) (g.S.Store.seen i.store) (g.S.Store.both i.store) (g.S.Store.held i.store) (g.S.Store.held i.store) c.args.who c.self.invariant.0 c.self.invariant.1 going, (c.self.invariant.1.exactly going).sole))
    e.ensures.same (rw (c.let_go_of_all.ensures) at e.ensures.either) e.result c.note.new.history
    (rw (c.unmount_reply-reply.ensures, c.calls.ensures) at c.note.ensures) (e.ensures.row i.ledger none c.let_go_of_all.ensures) (rw (c.let_go_of_all.ensures) at e.ensures.wrote))

pub returns-clause-settled : goal.returns-clause-settled
returns-clause-settled g c =
    let i = c.self.inside in
    let e = c.end_mount-answer in
    unmount_settles i.history i.first i.ledger e.new.ledger i.space (g.S.Store.seen i.store) (g.S.Store.seen e.new.store) (g.S.Store.both i.store) (g.S.Store.both e.new.store) c.args.who c.self.invariant.0 (rw (← c.self.view_is) at c.requires.spare)
    (g.met.S.Store.counted e.new.store) (g.met.S.Store.both_holds e.new.store) (g.met.S.Store.shown i.store) (g.met.S.Store.shown e.new.store)
    c.self.invariant.3 c.self.invariant.2.located c.self.invariant.2.contents c.self.invariant.2.puts
    (λ going. (map_is_sole i.history i.first i.ledger i.ledger i.space i.space (g.S.Store.seen i.store) (g.S.Store.seen i.store) (g.S.Store.both i.store) (g.S.Store.held i.store) (g.S.Store.held i.store) c.args.who c.self.invariant.0 c.self.invariant.1 going, (c.self.invariant.1.exactly going).sole))
    e.ensures.same (rw (c.let_go_of_all.ensures) at e.ensures.either) e.result (rw (c.let_go_of_all.ensures) at e.ensures.wrote)

pub returns-clause-placed : goal.returns-clause-placed
returns-clause-placed g c = λ r places going there.
    let i = c.self.inside in
    let s = g.S.Store.seen i.store in
    let still : i.ledger.stopped ≡ None = sym (ap (λ (x : State). x.stopped) c.self.invariant.0.state) ∙ (rw (← c.self.view_is) at going) in
    rw (← c.self.view_is) (less_places s.placed (g.S.Store.seen c.end_mount-answer.new.store).placed c.let_go_of_all.new.self.queue (c.self.invariant.1.exactly still).sole c.end_mount-answer.ensures.either r places there)
