use Rattle.std.proofs.Common.{◌≢◌, ◌≡◌, ◌<◌, ◌≤◌, ◌+◌, ◌∷◌, [], true, IfSome, ℕ, List, get_or, Some, None, refl, ap, sym, ◌∙◌, subst, arith}
use Rattle.spec_tree.specs.Tree.{need_of}
use Rattle.spec_core.specs.declared.act.Act.TheVariants.{Put}
use Rattle.spec_core.specs.declared.reply.Reply.TheVariants.{Written}
use Rattle.bv_ledger.specs.Answers.{device_reply}
use Rattle.bv_volume.specs.Adding.{IsAdmitted}
use Rattle.bv_volume.specs.Kept.{Kept, seen_of}
use Rattle.bv_volume.specs.Spaced.{Spaced, SpaceAt}
use Rattle.spec_disk.specs.Disk.{block}
use Rattle.bv_device.specs.Told.{disk_with, now_of}
use Rattle.bv_volume.specs.Sessions.{HasAdmitted}
use Rattle.bv_volume.proofs.SessionCalls.{admitted_is, works}
use Rattle.bv_volume.proofs.SessionPuts.{ordered_put, sound_put}
use Rattle.bv_volume.proofs.Adds.{same_version, tabled_add}
use Rattle.bv_volume.proofs.Calls.{put_call}
use Rattle.spec_core.specs.State.{State, find}
use Rattle.spec_disk.specs.declared.event.Event.TheVariants as device
use Rattle.spec_record.specs.Geometry.{block_at}
use Rattle.bv_store.specs.Stored.{Grows}
use Rattle.bv_volume.specs.declared.tokens.Admitted.{Admitted}
use Rattle.bv_volume.specs.declared.volume.Volume.TheInside.{Inside}
use Rattle.bv_volume.proofs.Counting.{ok_then}
use Rattle.bv_volume.proofs.Puts.{either_admitted, is_admitted, next_free, next_within, put_adds, spaced_put}
use Rattle.bv_volume.proofs.Silent.{CallDone}
use Rattle.bv_volume.proofs.volume.Volume.put_now.Goals as goal
use Rattle.bv_volume.proofs.volume.Volume.put_now.Goals.{After-put_answer}
use Rattle.bv_volume.proofs.volume.Volume.put_now.Given.{Over}

-- the blocks that were looked up are the token's
record Looked (g : Over) (i : Inside g.row.S.Denot) (a : Admitted) (found : List ℕ) : Type 0 where
  admitted : IsAdmitted (seen_of i.history i.first i.ledger i.space (g.S.Store.seen i.store)) a
  same : found ≡ admitted.blocks.items

token : (g : Over) (i : Inside g.row.S.Denot) (a : Admitted) → IsAdmitted (seen_of i.history i.first i.ledger i.space (g.S.Store.seen i.store)) a → (found : List ℕ) → IfSome (find i.space.adds a.root) (λ v. found ≡ v.items) → Looked g i a found
token g i a old found is = record { admitted = old; same = rw (old.has) at is }

pub bounds-blocks-index : goal.bounds-blocks-index
bounds-blocks-index g c =
    let old = token g c.self.inside c.args.add.now (admitted_is c.self.inside.history c.self.inside.first c.self.inside.ledger c.self.inside.space (g.S.Store.seen c.self.inside.store) (g.S.Store.both c.self.inside.store) c.args.who.session c.self.invariant.0 c.self.invariant.2 c.args.add.now (rw (← c.self.view_is) at c.requires.add)) c.blocks-2.result.now c.blocks-2.ensures in
    let next = (rw (← c.self.view_is) at c.requires.next) in
    rw (old.same) (omega (arith, next, old.admitted.need))

pub put_store-failed-requires-clause-within : goal.put_store-failed-requires-clause-within
put_store-failed-requires-clause-within g c =
    let i = c.self.inside in
    let a = c.args.add.now in
    let old = token g i a (admitted_is c.self.inside.history c.self.inside.first c.self.inside.ledger c.self.inside.space (g.S.Store.seen c.self.inside.store) (g.S.Store.both c.self.inside.store) c.args.who.session c.self.invariant.0 c.self.invariant.2 c.args.add.now (rw (← c.self.view_is) at c.requires.add)) c.blocks-2.result.now c.blocks-2.ensures in
    let next = (rw (← c.self.view_is) at c.requires.next) in
    let under = tabled_add i.history i.first i.ledger (g.S.Store.seen i.store) (g.S.Store.both i.store) c.self.invariant.0 a.root a.size old.admitted.under_way in
    rw (old.same) (next_within i.ledger i.space (g.S.Store.seen i.store) (g.S.Store.held i.store) c.self.invariant.1 a.root a.size old.admitted.blocks under old.admitted.has a.put (omega (arith, next, old.admitted.need)))

pub put_store-failed-requires-clause-free : goal.put_store-failed-requires-clause-free
put_store-failed-requires-clause-free g c =
    let i = c.self.inside in
    let a = c.args.add.now in
    let old = token g i a (admitted_is c.self.inside.history c.self.inside.first c.self.inside.ledger c.self.inside.space (g.S.Store.seen c.self.inside.store) (g.S.Store.both c.self.inside.store) c.args.who.session c.self.invariant.0 c.self.invariant.2 c.args.add.now (rw (← c.self.view_is) at c.requires.add)) c.blocks-2.result.now c.blocks-2.ensures in
    let next = (rw (← c.self.view_is) at c.requires.next) in
    let under = tabled_add i.history i.first i.ledger (g.S.Store.seen i.store) (g.S.Store.both i.store) c.self.invariant.0 a.root a.size old.admitted.under_way in
    let going = sym (ap (λ (x : State). x.stopped) c.self.invariant.0.state) ∙ (rw (← c.self.view_is) at c.requires.going) in
    rw (old.same) (next_free i.ledger i.space (g.S.Store.seen i.store) (g.S.Store.held i.store) c.self.invariant.1 a.root a.size old.admitted.blocks under old.admitted.has a.put (omega (arith, next, old.admitted.need)) going)

done : (g : Over) (c : After-put_answer g) → CallDone c.self.inside.history c.note.new.history c.self.inside.first c.self.inside.ledger c.put.new.self c.self.inside.space c.self.inside.space (g.S.Store.seen c.self.inside.store) (g.S.Store.seen c.put_store-failed.new.store) (g.S.Store.both c.put_store-failed.new.store) c.args.who (Put c.args.add.now.put) (Some (device_reply Written c.put_store-failed.result))
done g c =
    let i = c.self.inside in
    put_call i.history i.first i.ledger c.put.new.self i.space i.space refl (g.S.Store.seen i.store) (g.S.Store.seen c.put_store-failed.new.store) (g.S.Store.both i.store) (g.S.Store.both c.put_store-failed.new.store) c.args.who c.self.invariant.0
    (sym (ap (λ (x : State). x.stopped) c.self.invariant.0.state) ∙ (rw (← c.self.view_is) at c.requires.going))
    (g.met.S.Store.counted c.put_store-failed.new.store) (g.met.S.Store.both_holds c.put_store-failed.new.store) (let spare = (rw (← c.self.view_is) at c.requires.spare) in omega (arith, spare))
    c.args.add.now.put c.put_store-failed.result c.note.new.history (rw (c.device_reply-reply.ensures, c.calls.ensures) at c.note.ensures) c.put.ensures c.put_store-failed.ensures.puts

spaced : (g : Over) (c : After-put_answer g) → Spaced c.put.new.self c.self.inside.space (g.S.Store.seen c.put_store-failed.new.store) (g.S.Store.held c.put_store-failed.new.store)
spaced g c =
    let i = c.self.inside in
    spaced_put i.ledger c.put.new.self i.space (g.S.Store.seen i.store) (g.S.Store.seen c.put_store-failed.new.store) (g.S.Store.held i.store) (g.S.Store.held c.put_store-failed.new.store) _ _ c.args.who c.args.add.now.put c.put_store-failed.result c.self.invariant.0.accounts c.put.ensures c.put_store-failed.ensures.puts.moves.geometry c.put_store-failed.ensures.placed c.put_store-failed.ensures.nodes c.put_store-failed.ensures.held c.self.invariant.1

pub invariant_of-self : goal.invariant_of-self
invariant_of-self g c =
    let i = c.self.inside in
    let s = g.S.Store.seen i.store in
    let e = c.put_store-failed in
    let w = g.S.Store.seen e.new.store in
    let a = c.args.add.now in
    let B = g.S.Store.both i.store in
    let mine : HasAdmitted i.history.history c.args.who.session a = rw (← c.self.view_is) at c.requires.add in
    let works_now = works i.history i.first i.ledger i.space s B c.args.who.session c.self.invariant.0 c.self.invariant.2 a mine in
    let same : c.blocks-2.result.now ≡ works_now.blocks.items = rw (works_now.has) at c.blocks-2.ensures in
    let next : a.put < need_of i.history.history.version a.size = rw (← c.self.view_is) at c.requires.next in
    let under = tabled_add i.history i.first i.ledger s B c.self.invariant.0 a.root a.size (admitted_is i.history i.first i.ledger i.space s B c.args.who.session c.self.invariant.0 c.self.invariant.2 a mine).under_way in
    let lies = next_within i.ledger i.space s (g.S.Store.held i.store) c.self.invariant.1 a.root a.size works_now.blocks under works_now.has a.put (omega (arith, next, works_now.need)) in
    let apart = subst (λ (xs : List ℕ). Grows s.told w.told (λ d more. (b : ℕ) → b ≢ get_or xs a.put 0 → block (now_of (disk_with d more)) (block_at s.geometry b) ≡ block (now_of d) (block_at s.geometry b))) same e.ensures.apart in
    let wrote = λ (none : e.result ≡ None). subst (λ (xs : List ℕ). Grows s.told w.told (λ d more. more ≡ device.Write (block_at s.geometry (get_or xs a.put 0)) c.args.block.now true ∷ [])) same (e.ensures.wrote none) in (
      (done g c).kept,
      spaced g c,
      ordered_put i.history c.note.new.history i.first i.ledger i.space s w B (g.S.Store.held i.store) c.args.who a c.self.invariant.0 c.self.invariant.1 c.self.invariant.2 mine e.ensures.puts.moves.geometry e.ensures.puts.moves.began e.ensures.placed next apart
          a.put w.calls e.result c.args.block.now (rw (c.device_reply-reply.ensures, c.calls.ensures) at c.note.ensures) wrote lies.1 (g.met.S.Store.counted e.new.store),
      sound_put i.history c.note.new.history i.first i.ledger i.space s w B (g.S.Store.held i.store) c.args.who a c.self.invariant.0 c.self.invariant.1 c.self.invariant.2 mine e.ensures.puts.moves.geometry e.ensures.puts.moves.began e.ensures.placed next apart
          c.put.new.self a.put w.calls e.result (rw (c.device_reply-reply.ensures, c.calls.ensures) at c.note.ensures) c.put.ensures c.self.invariant.3,
    )

pub returns-clause-row : goal.returns-clause-row
returns-clause-row g c = rw (← c.self.view_is, c.put_answer.ensures.reply) (done g c).does

pub returns-clause-wrote : goal.returns-clause-wrote
returns-clause-wrote g c =
    let i = c.self.inside in
    let a = c.args.add.now in
    let old = token g i a (admitted_is c.self.inside.history c.self.inside.first c.self.inside.ledger c.self.inside.space (g.S.Store.seen c.self.inside.store) (g.S.Store.both c.self.inside.store) c.args.who.session c.self.invariant.0 c.self.invariant.2 c.args.add.now (rw (← c.self.view_is) at c.requires.add)) c.blocks-2.result.now c.blocks-2.ensures in
    let s = g.S.Store.seen i.store in
    let w = g.S.Store.seen c.put_store-failed.new.store in
    rw (← c.self.view_is) (ok_then c.put_answer.result c.put_answer.ensures.ok
    (λ ok. record { blocks = old.admitted.blocks; has = old.admitted.has; next = subst (λ (xs : List ℕ). Grows s.told w.told (λ d more. more ≡ device.Write (block_at s.geometry (get_or xs a.put 0)) c.args.block.now true ∷ [])) old.same (c.put_store-failed.ensures.wrote ok.0) }))

pub returns-clause-admitted : goal.returns-clause-admitted
returns-clause-admitted g c =
    let i = c.self.inside in
    let a = c.args.add.now in
    let s = g.S.Store.seen i.store in
    let w = g.S.Store.seen c.put_store-failed.new.store in
    let old = token g i a (admitted_is c.self.inside.history c.self.inside.first c.self.inside.ledger c.self.inside.space (g.S.Store.seen c.self.inside.store) (g.S.Store.both c.self.inside.store) c.args.who.session c.self.invariant.0 c.self.invariant.2 c.args.add.now (rw (← c.self.view_is) at c.requires.add)) c.blocks-2.result.now c.blocks-2.ensures in
    let next = (rw (← c.self.view_is) at c.requires.next) in
    let on = λ (b : Admitted) (root : b.root ≡ a.root) (size : b.size ≡ a.size) (put : b.put ≤ need_of i.history.history.version a.size).
    is_admitted i.history c.note.new.history i.first i.ledger c.put.new.self i.space s w (g.S.Store.both i.store) (g.S.Store.both c.put_store-failed.new.store) a b c.self.invariant.0 (done g c).kept c.put.ensures.0 (put_adds i.ledger c.put.new.self _ _ c.args.who a.put c.put_store-failed.result c.self.invariant.0.accounts c.put.ensures) old.admitted root size put in
    either_admitted (c.put_store-failed.result ≡ None) c.put_answer.result (λ (b : Admitted). IsAdmitted (seen_of c.note.new.history i.first c.put.new.self i.space w) b) a c.put_answer.new.add c.put_answer.ensures.ok c.put_answer.ensures.err
    (on (record a { put = a.put + 1 }) refl refl (omega (arith, next))) (on a refl refl (omega (arith, next)))

pub returns-clause-crash : goal.returns-clause-crash
returns-clause-crash g c = (done g c).safe

-- an add has at most 65,535 blocks
few_blocks : (g : Over) (i : Inside g.row.S.Denot) (a : Admitted) → Kept i.history i.first i.ledger (g.S.Store.seen i.store) (g.S.Store.both i.store) → Spaced i.ledger i.space (g.S.Store.seen i.store) (g.S.Store.held i.store) → IsAdmitted (seen_of i.history i.first i.ledger i.space (g.S.Store.seen i.store)) a → need_of i.history.history.version a.size ≤ 65535
few_blocks g i a kept spaced old =
    let under = tabled_add i.history i.first i.ledger (g.S.Store.seen i.store) (g.S.Store.both i.store) kept a.root a.size old.under_way in
    let has : SpaceAt i.ledger.setting (find i.ledger.adds a.root) (find i.space.adds a.root) = spaced.adds a.root in
    let its = rw (under, old.has) at has in
    subst (λ (v : ℕ). need_of v a.size ≤ 65535) (same_version i.history i.first i.ledger (g.S.Store.seen i.store) (g.S.Store.both i.store) kept) its.few

pub offset_bounds-blocks-index : goal.offset_bounds-blocks-index
offset_bounds-blocks-index g c =
    let i = c.self.inside in
    let s = g.S.Store.seen i.store in
    let old = admitted_is i.history i.first i.ledger i.space s (g.S.Store.both i.store) c.args.who.session c.self.invariant.0 c.self.invariant.2 c.args.add.now (rw (← c.self.view_is) at c.requires.add) in
    let next : c.args.add.now.put < need_of i.history.history.version c.args.add.now.size = rw (← c.self.view_is) at c.requires.next in
    let few = few_blocks g i c.args.add.now c.self.invariant.0 c.self.invariant.1 old in
    omega (arith, next, few)

pub put_answer-requires : goal.put_answer-requires
put_answer-requires g c =
    let i = c.self.inside in
    let s = g.S.Store.seen i.store in
    let old = admitted_is i.history i.first i.ledger i.space s (g.S.Store.both i.store) c.args.who.session c.self.invariant.0 c.self.invariant.2 c.args.add.now (rw (← c.self.view_is) at c.requires.add) in
    let next : c.args.add.now.put < need_of i.history.history.version c.args.add.now.size = rw (← c.self.view_is) at c.requires.next in
    let few = few_blocks g i c.args.add.now c.self.invariant.0 c.self.invariant.1 old in
    omega (arith, next, few)
