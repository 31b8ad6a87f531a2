use Rattle.spec_session.specs.Own.{new_add}
use Rattle.std.proofs.Common.{◌≡◌, ◌+◌, ℕ, Some, refl, ap, sym, ◌∙◌, arith, Option, is_some}
use Rattle.spec_tree.specs.Tree.{need_of}
use Rattle.spec_core.specs.State.{State}
use Rattle.spec_core.specs.declared.act.Act.TheVariants.{Admit}
use Rattle.spec_core.specs.declared.reply.Reply.TheVariants.{Stopped}
use Rattle.bv_claims.proofs.Counts.{times-append}
use Rattle.bv_claims.specs.Blocks.{times}
use Rattle.bv_volume.specs.Adding.{IsBegun}
use Rattle.bv_volume.specs.Kept.{seen_of}
use Rattle.bv_volume.specs.Spaced.{Spaced}
use Rattle.bv_volume.proofs.SessionCalls.{begun_is, ordered_ended}
use Rattle.bv_volume.proofs.Adds.{Ends, adds_are_sole, end_room, same_version, spaced_ends, tabled_add}
use Rattle.bv_volume.proofs.Silent.{CallDone, quiet_call}
use Rattle.bv_volume.proofs.Still.{still}
use Rattle.bv_volume.proofs.Sound.{same_map, sound_silent}
use Rattle.bv_volume.proofs.volume.Volume.end_begun.Goals as goal
use Rattle.bv_volume.proofs.volume.Volume.end_begun.Goals.{After-note}
use Rattle.bv_volume.proofs.volume.Volume.end_begun.Given.{Over}

done : (g : Over) (c : After-note g) → CallDone c.self.inside.history c.note.new.history c.self.inside.first c.self.inside.ledger c.admit_stopped.new.self c.self.inside.space c.give_back.new.self (g.S.Store.seen c.self.inside.store) (g.S.Store.seen c.self.inside.store) (g.S.Store.both c.self.inside.store) c.args.who (Admit c.args.begun.root) (Some (Stopped c.args.fault))
done g c =
    let i = c.self.inside in
    let s = g.S.Store.seen i.store in
    let b : IsBegun (seen_of i.history i.first i.ledger i.space s) c.args.begun = begun_is c.self.inside.history c.self.inside.first c.self.inside.ledger c.self.inside.space (g.S.Store.seen c.self.inside.store) (g.S.Store.both c.self.inside.store) c.args.who.session c.self.invariant.0 c.self.invariant.2 c.args.begun (rw (← c.self.view_is) at c.requires.begun) in
    let under = tabled_add i.history i.first i.ledger s (g.S.Store.both i.store) c.self.invariant.0 c.args.begun.root c.args.begun.size b.under_way in
    let adds = sym (ap (λ (x : State). x.adds) (c.admit_stopped.ensures.1 _ _ c.self.invariant.0.accounts).state) in
    quiet_call i.history c.note.new.history i.first i.ledger c.admit_stopped.new.self i.space c.give_back.new.self s (g.S.Store.both i.store) c.args.who (Admit c.args.begun.root) (Some (Stopped c.args.fault)) c.give_back.ensures.claims
    (rw (c.calls.ensures) at c.note.ensures) c.self.invariant.0 c.admit_stopped.ensures (refl, refl)
    (end_room i.history i.first i.ledger c.admit_stopped.new.self s (g.S.Store.both i.store) c.args.begun.root c.args.begun.size c.self.invariant.0 adds under) (g.met.S.Store.counted i.store)

spaced : (g : Over) (c : After-note g) → Spaced c.admit_stopped.new.self c.give_back.new.self (g.S.Store.seen c.self.inside.store) (g.S.Store.held c.self.inside.store)
spaced g c =
    let i = c.self.inside in
    let s = g.S.Store.seen i.store in
    let b : IsBegun (seen_of i.history i.first i.ledger i.space s) c.args.begun = begun_is c.self.inside.history c.self.inside.first c.self.inside.ledger c.self.inside.space (g.S.Store.seen c.self.inside.store) (g.S.Store.both c.self.inside.store) c.args.who.session c.self.invariant.0 c.self.invariant.2 c.args.begun (rw (← c.self.view_is) at c.requires.begun) in
    let under = tabled_add i.history i.first i.ledger s (g.S.Store.both i.store) c.self.invariant.0 c.args.begun.root c.args.begun.size b.under_way in
    let version = same_version i.history i.first i.ledger s (g.S.Store.both i.store) c.self.invariant.0 in
    let e = c.give_back.ensures in
    let need : c.give_back.new.self.room ≡ i.space.room + need_of i.ledger.setting.version c.args.begun.size = e.room ∙ ap (λ (k : ℕ). i.space.room + k) ((rw (← c.self.view_is) at c.requires.claimed).budget ∙ ap (λ (v : ℕ). need_of v c.args.begun.size) (sym version)) in
    let ends : Ends i.space c.give_back.new.self c.args.begun.root (need_of i.ledger.setting.version c.args.begun.size) b.blocks.items = record {
      owned = λ x. omega (arith, e.owned x, times-append x c.give_back.new.self.owned b.blocks.items, ap (times x) b.none);
      room = need;
      adds = e.adds;
      claims = e.claims;
      gone = e.gone.0;
      nodes = e.nodes;
      once = e.once;
    } in
    spaced_ends i.ledger c.admit_stopped.new.self i.space c.give_back.new.self s (g.S.Store.held i.store) c.args.begun.root c.args.begun.size b.blocks
    (still i.ledger c.admit_stopped.new.self _ _ c.args.who (Admit c.args.begun.root) (Stopped c.args.fault) c.self.invariant.0.accounts c.admit_stopped.ensures refl)
    (sym (ap (λ (x : State). x.adds) (c.admit_stopped.ensures.1 _ _ c.self.invariant.0.accounts).state)) under b.has
    (adds_are_sole i.history i.first i.ledger s (g.S.Store.both i.store) c.self.invariant.0) ends c.self.invariant.1

pub invariant_of-self : goal.invariant_of-self
invariant_of-self g c =
    let i = c.self.inside in
    let s = g.S.Store.seen i.store in (
      (done g c).kept,
      spaced g c,
      ordered_ended i.history i.first i.ledger i.space s (g.S.Store.both i.store) c.args.who.session c.self.invariant.0 c.self.invariant.2 c.note.new.history c.give_back.new.self c.args.who (Admit c.args.begun.root) (Stopped c.args.fault) s.calls (new_add c.args.begun.root c.args.begun.size) refl (rw (← c.self.view_is) at c.requires.begun) (rw (c.calls.ensures) at c.note.ensures) refl (λ w. w.0) refl refl c.give_back.ensures.adds c.give_back.ensures.nodes,
      sound_silent i.history c.note.new.history i.ledger.map c.admit_stopped.new.self.map s c.args.who (Admit c.args.begun.root) (Some (Stopped c.args.fault)) s.calls (rw (c.calls.ensures) at c.note.ensures)
          (same_map i.ledger c.admit_stopped.new.self _ _ c.args.who (Admit c.args.begun.root) (Some (Stopped c.args.fault)) c.self.invariant.0.accounts c.admit_stopped.ensures (refl, refl)) refl c.self.invariant.3,
    )

pub returns-clause-row : goal.returns-clause-row
returns-clause-row g c = rw (← c.self.view_is) (done g c).does

pub returns-clause-crash : goal.returns-clause-crash
returns-clause-crash g c = (done g c).safe

pub give_back-requires : goal.give_back-requires
give_back-requires g c = record { table = (rw (← c.self.view_is) at c.requires.claimed).table }

pub admit_stopped-requires-clause-under_way : goal.admit_stopped-requires-clause-under_way
admit_stopped-requires-clause-under_way g c =
    let i = c.self.inside in
    let s = g.S.Store.seen i.store in
    let b : IsBegun (seen_of i.history i.first i.ledger i.space s) c.args.begun = begun_is i.history i.first i.ledger i.space s (g.S.Store.both i.store) c.args.who.session c.self.invariant.0 c.self.invariant.2 c.args.begun (rw (← c.self.view_is) at c.requires.begun) in
    let under = tabled_add i.history i.first i.ledger s (g.S.Store.both i.store) c.self.invariant.0 c.args.begun.root c.args.begun.size b.under_way in
    ap (λ (x : Option ℕ). is_some x) under
