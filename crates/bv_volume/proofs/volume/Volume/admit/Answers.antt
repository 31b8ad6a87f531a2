use Rattle.std.proofs.Common.{◌≡◌, ◌+◌, ℕ, length, Some, None, refl, ap, sym, ◌∙◌, rules, Option, is_some}
use Rattle.std.specs.Global.{Vec}
use Rattle.spec_tree.specs.Tree.{need_of}
use Rattle.spec_core.proofs.EntryLemmas.{lookup-insert_entry}
use Rattle.spec_core.proofs.Holding.{digest_total, same_self}
use Rattle.spec_core.specs.State.{find}
use Rattle.spec_core.specs.declared.act.Act.TheVariants.{Admit}
use Rattle.bv_claims.specs.Tokens.{claimed_gained, claimed_left}
use Rattle.bv_space.specs.Owned.{Owned}
use Rattle.bv_ledger.specs.Answers as A
use Rattle.bv_volume.specs.Adding.{IsBegun}
use Rattle.bv_volume.specs.Kept.{seen_of}
use Rattle.bv_volume.specs.Spaced.{Spaced}
use Rattle.bv_volume.proofs.SessionCalls.{begun_is, ordered_admit}
use Rattle.bv_volume.proofs.Adds.{adds_are_sole, same_version, tabled_add}
use Rattle.bv_volume.proofs.Admits.{enough_free}
use Rattle.bv_volume.proofs.AdmitCalls.{admit_claims, admit_silent, answer_nodes, now_admitted, spaced_admit}
use Rattle.bv_volume.proofs.Freed.{map_is_sole}
use Rattle.bv_volume.proofs.Silent.{CallDone, has_room, quiet_call}
use Rattle.bv_volume.proofs.Sound.{same_map, sound_silent}
use Rattle.bv_volume.proofs.volume.Volume.admit.Goals as goal
use Rattle.bv_volume.proofs.volume.Volume.admit.Goals.{After-admit_answer}
use Rattle.bv_volume.proofs.volume.Volume.admit.Given.{Over}

pub give_space-answer-requires-clause-noted : goal.give_space-answer-requires-clause-noted
give_space-answer-requires-clause-noted g c =
    let o = c.self.inside.space in
    let r = c.args.begun.root in
    rw (ap (λ (x : Owned). find x.nodes r) c.in-Ok-note_nodes.ensures.ok, lookup-insert_entry digest_total o.nodes r 0 r, same_self r) refl

pub give_space-answer-requires-clause-least : goal.give_space-answer-requires-clause-least
give_space-answer-requires-clause-least g c =
    let i = c.self.inside in
    let s = g.S.Store.seen i.store in
    let going : i.ledger.stopped ≡ None = search rules in
    let b : IsBegun (seen_of i.history i.first i.ledger i.space s) c.args.begun = begun_is c.self.inside.history c.self.inside.first c.self.inside.ledger c.self.inside.space (g.S.Store.seen c.self.inside.store) (g.S.Store.both c.self.inside.store) c.args.who.session c.self.invariant.0 c.self.invariant.2 c.args.begun (rw (← c.self.view_is) at c.requires.begun) in
    rw (c.free_nodes-free.ensures.value)
    (enough_free i.ledger i.space s (g.S.Store.held i.store) c.args.begun.root c.self.invariant.1 going
    (map_is_sole i.history i.first i.ledger i.ledger i.space i.space s s (g.S.Store.both i.store) (g.S.Store.held i.store) (g.S.Store.held i.store) c.args.who c.self.invariant.0 c.self.invariant.1 going)
    (adds_are_sole i.history i.first i.ledger s (g.S.Store.both i.store) c.self.invariant.0) b.nodes c.free_nodes-free.ensures.few)

done : (g : Over) (c : After-admit_answer g) → CallDone c.self.inside.history c.note.new.history c.self.inside.first c.self.inside.ledger c.give_space-answer.new.ledger c.self.inside.space c.give_space-answer.new.space (g.S.Store.seen c.self.inside.store) (g.S.Store.seen c.self.inside.store) (g.S.Store.both c.self.inside.store) c.args.who (Admit c.args.begun.root) (Some (A.admit_reply c.give_space-answer.result))
done g c =
    let i = c.self.inside in
    let s = g.S.Store.seen i.store in
    let B = g.S.Store.both i.store in
    let e = c.give_space-answer in
    quiet_call i.history c.note.new.history i.first i.ledger e.new.ledger i.space e.new.space s B c.args.who (Admit c.args.begun.root) (Some (A.admit_reply e.result))
    (admit_claims i.space c.note_nodes.new.self e.new.space c.args.begun.root c.free_nodes-free.result (length (claimed_gained c.args.claimed) + claimed_left c.args.claimed) e.result c.in-Ok-note_nodes.ensures.ok e.ensures.ok e.ensures.err)
    (rw (c.nodes_reply-reply.ensures, c.calls.ensures) at c.note.ensures) c.self.invariant.0 e.ensures.row (admit_silent e.result)
    (has_room i.history i.first i.ledger e.new.ledger s B c.args.who (Admit c.args.begun.root) (Some (A.admit_reply e.result)) c.self.invariant.0 e.ensures.row (λ q. refl) (rw (← c.self.view_is) at c.requires.spare)) (g.met.S.Store.counted i.store)

spaced : (g : Over) (c : After-admit_answer g) → Spaced c.give_space-answer.new.ledger c.give_space-answer.new.space (g.S.Store.seen c.self.inside.store) (g.S.Store.held c.self.inside.store)
spaced g c =
    let i = c.self.inside in
    let s = g.S.Store.seen i.store in
    let B = g.S.Store.both i.store in
    let e = c.give_space-answer in
    let r = c.args.begun.root in
    let b : IsBegun (seen_of i.history i.first i.ledger i.space s) c.args.begun = begun_is c.self.inside.history c.self.inside.first c.self.inside.ledger c.self.inside.space (g.S.Store.seen c.self.inside.store) (g.S.Store.both c.self.inside.store) c.args.who.session c.self.invariant.0 c.self.invariant.2 c.args.begun (rw (← c.self.view_is) at c.requires.begun) in
    let counts = (rw (← c.self.view_is) at c.requires.claimed).budget ∙ ap (λ (v : ℕ). need_of v c.args.begun.size) (sym (same_version i.history i.first i.ledger s B c.self.invariant.0)) in
    spaced_admit i.ledger e.new.ledger i.space c.note_nodes.new.self e.new.space s (g.S.Store.held i.store) _ _ c.args.who r c.args.begun.size c.free_nodes-free.result (length (claimed_gained c.args.claimed) + claimed_left c.args.claimed) b.blocks
    c.self.invariant.0.accounts c.self.invariant.1 (tabled_add i.history i.first i.ledger s B c.self.invariant.0 r c.args.begun.size b.under_way) b.has b.none b.nodes (adds_are_sole i.history i.first i.ledger s B c.self.invariant.0)
    c.in-Ok-note_nodes.ensures.ok counts c.free_nodes-free.ensures.value e.result e.ensures.row e.ensures.ok e.ensures.err

pub invariant_of-self-2 : goal.invariant_of-self-2
invariant_of-self-2 g c =
    let i = c.self.inside in
    let s = g.S.Store.seen i.store in
    let e = c.give_space-answer in
    let b : IsBegun (seen_of i.history i.first i.ledger i.space s) c.args.begun = begun_is i.history i.first i.ledger i.space s (g.S.Store.both i.store) c.args.who.session c.self.invariant.0 c.self.invariant.2 c.args.begun (rw (← c.self.view_is) at c.requires.begun) in (
      (done g c).kept,
      spaced g c,
      ordered_admit i.history i.first i.ledger i.space s (g.S.Store.both i.store) c.args.who.session c.self.invariant.0 c.self.invariant.2 c.note.new.history c.note_nodes.new.self e.new.space c.args.who c.args.begun.root c.args.begun.size c.free_nodes-free.result (length (claimed_gained c.args.claimed) + claimed_left c.args.claimed) s.calls e.result refl (rw (← c.self.view_is) at c.requires.begun)
          (rw (c.nodes_reply-reply.ensures, c.calls.ensures) at c.note.ensures) c.in-Ok-note_nodes.ensures.ok b.nodes (rw (← c.self.view_is) at c.requires.claimed).budget e.ensures.ok e.ensures.err,
      sound_silent i.history c.note.new.history i.ledger.map e.new.ledger.map s c.args.who (Admit c.args.begun.root) (Some (A.admit_reply e.result)) s.calls (rw (c.nodes_reply-reply.ensures, c.calls.ensures) at c.note.ensures)
          (same_map i.ledger e.new.ledger _ _ c.args.who (Admit c.args.begun.root) (Some (A.admit_reply e.result)) c.self.invariant.0.accounts e.ensures.row (admit_silent e.result)) refl c.self.invariant.3,
    )

pub returns-clause-row : goal.returns-clause-row
returns-clause-row g c = rw (← c.self.view_is, c.admit_answer.ensures.reply) (done g c).does

pub returns-clause-admitted : goal.returns-clause-admitted
returns-clause-admitted g c =
    let i = c.self.inside in
    let s = g.S.Store.seen i.store in
    let B = g.S.Store.both i.store in
    let e = c.give_space-answer in
    let r = c.args.begun.root in
    let b : IsBegun (seen_of i.history i.first i.ledger i.space s) c.args.begun = begun_is c.self.inside.history c.self.inside.first c.self.inside.ledger c.self.inside.space (g.S.Store.seen c.self.inside.store) (g.S.Store.both c.self.inside.store) c.args.who.session c.self.invariant.0 c.self.invariant.2 c.args.begun (rw (← c.self.view_is) at c.requires.begun) in
    let counts = (rw (← c.self.view_is) at c.requires.claimed).budget ∙ ap (λ (v : ℕ). need_of v c.args.begun.size) (sym (same_version i.history i.first i.ledger s B c.self.invariant.0)) in
    now_admitted i.history c.note.new.history i.first i.ledger e.new.ledger i.space c.note_nodes.new.self e.new.space s B c.args.who r c.args.begun.size c.free_nodes-free.result (length (claimed_gained c.args.claimed) + claimed_left c.args.claimed) c.self.invariant.0 (done g c).kept
    (tabled_add i.history i.first i.ledger s B c.self.invariant.0 r c.args.begun.size b.under_way) counts e.result c.admit_answer.result c.admit_answer.ensures.same e.ensures.row e.ensures.ok

pub returns-clause-crash : goal.returns-clause-crash
returns-clause-crash g c = (done g c).safe

pub returns-clause-nodes : goal.returns-clause-nodes
returns-clause-nodes g c =
    let i = c.self.inside in
    let s = g.S.Store.seen i.store in
    let e = c.give_space-answer in
    rw (← c.self.view_is)
    (answer_nodes (seen_of i.history i.first i.ledger i.space s) (seen_of c.note.new.history i.first e.new.ledger e.new.space s) c.args.claimed c.note_nodes.new.self.claims c.args.begun.root c.args.begun.size c.free_nodes-free.result e.result c.admit_answer.result
    c.admit_answer.ensures.same e.ensures.given e.ensures.told (ap (λ (x : Owned). x.claims) c.in-Ok-note_nodes.ensures.ok) c.free_nodes-free.ensures.value)

pub note_nodes-requires : goal.note_nodes-requires
note_nodes-requires g c =
    let i = c.self.inside in
    let s = g.S.Store.seen i.store in
    let b : IsBegun (seen_of i.history i.first i.ledger i.space s) c.args.begun = begun_is i.history i.first i.ledger i.space s (g.S.Store.both i.store) c.args.who.session c.self.invariant.0 c.self.invariant.2 c.args.begun (rw (← c.self.view_is) at c.requires.begun) in
    b.nodes

pub give_space-answer-requires-clause-under_way : goal.give_space-answer-requires-clause-under_way
give_space-answer-requires-clause-under_way g c =
    let i = c.self.inside in
    let s = g.S.Store.seen i.store in
    let b : IsBegun (seen_of i.history i.first i.ledger i.space s) c.args.begun = begun_is i.history i.first i.ledger i.space s (g.S.Store.both i.store) c.args.who.session c.self.invariant.0 c.self.invariant.2 c.args.begun (rw (← c.self.view_is) at c.requires.begun) in
    let under = tabled_add i.history i.first i.ledger s (g.S.Store.both i.store) c.self.invariant.0 c.args.begun.root c.args.begun.size b.under_way in
    ap (λ (x : Option ℕ). is_some x) under

pub give_space-answer-requires-clause-need : goal.give_space-answer-requires-clause-need
give_space-answer-requires-clause-need g c =
    let i = c.self.inside in
    let s = g.S.Store.seen i.store in
    let b : IsBegun (seen_of i.history i.first i.ledger i.space s) c.args.begun = begun_is i.history i.first i.ledger i.space s (g.S.Store.both i.store) c.args.who.session c.self.invariant.0 c.self.invariant.2 c.args.begun (rw (← c.self.view_is) at c.requires.begun) in
    let under = tabled_add i.history i.first i.ledger s (g.S.Store.both i.store) c.self.invariant.0 c.args.begun.root c.args.begun.size b.under_way in
    let counts = (rw (← c.self.view_is) at c.requires.claimed).budget ∙ ap (λ (v : ℕ). need_of v c.args.begun.size) (sym (same_version i.history i.first i.ledger s (g.S.Store.both i.store) c.self.invariant.0)) in
    rw under counts

pub give_space-answer-requires-clause-add : goal.give_space-answer-requires-clause-add
give_space-answer-requires-clause-add g c =
    let i = c.self.inside in
    let s = g.S.Store.seen i.store in
    let b : IsBegun (seen_of i.history i.first i.ledger i.space s) c.args.begun = begun_is i.history i.first i.ledger i.space s (g.S.Store.both i.store) c.args.who.session c.self.invariant.0 c.self.invariant.2 c.args.begun (rw (← c.self.view_is) at c.requires.begun) in
    ap (λ (x : Owned). is_some (find x.adds c.args.begun.root)) c.in-Ok-note_nodes.ensures.ok ∙ ap (λ (x : Option (Vec ℕ)). is_some x) b.has
