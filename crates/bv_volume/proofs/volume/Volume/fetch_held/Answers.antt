use Rattle.bv_store.specs.Stored.{Stored}
use Rattle.bv_volume.specs.Sessions.{Ordered}
use Rattle.bv_volume.specs.Sound.{PublishedAreSound}
use Rattle.bv_volume.proofs.SessionCalls.{by_any, ordered_silent}
use Rattle.std.proofs.Common.{refl, ◌≤◌, ℕ, sym, subst, arith, List, suc}
use Rattle.std.specs.Prelude.{All}
use Rattle.spec_core.specs.Choice.{place_of}
use Rattle.spec_core.specs.declared.act.Act.TheVariants.{Fetch}
use Rattle.bv_fetch.specs.Reading.{AreOfBlobs}
use Rattle.bv_fetch.specs.Windows.{HasRoom}
use Rattle.bv_volume.specs.Fetched.{Fetches, fetch_reply}
use Rattle.bv_volume.proofs.Among.{of_blobs}
use Rattle.bv_volume.proofs.Fetches.{blob_lies, blob_need_is, blocks_within, fetch_done, fetch_spaced, fetched_is, for_any, in_tables}
use Rattle.bv_volume.proofs.Shown.{blobs_now}
use Rattle.bv_volume.proofs.Silent.{CallDone}
use Rattle.bv_volume.proofs.Sound.{never_published, sound_silent}
use Rattle.bv_volume.proofs.volume.Volume.fetch_held.Goals as goal
use Rattle.bv_volume.proofs.volume.Volume.fetch_held.Goals.{After-drop-places}
use Rattle.bv_volume.proofs.volume.Volume.fetch_held.Given.{Over}

pub prepare-requires-clause-there : goal.prepare-requires-clause-there
prepare-requires-clause-there g c =
    let i = c.self.inside in
    blob_lies i.history i.first i.ledger i.space (g.S.Store.seen i.store) (g.S.Store.both i.store) (g.S.Store.held i.store) c.args.who c.args.slot c.args.root c.self.invariant.0 c.self.invariant.1 (rw (← c.self.view_is) at c.requires.held) c.args.blob (rw (← c.self.view_is) at c.requires.blob)

pub read_from-answer-requires-clause-need : goal.read_from-answer-requires-clause-need
read_from-answer-requires-clause-need g c =
    let i = c.self.inside in
    rw (c.deref.ensures.value) (blob_need_is i.history i.first i.ledger i.space (g.S.Store.seen i.store) (g.S.Store.both i.store) (g.S.Store.held i.store) c.args.who c.args.slot c.args.root c.self.invariant.0 c.self.invariant.1 (rw (← c.self.view_is) at c.requires.held) c.args.blob c.in-Ok.prepared.places.items (rw (← c.self.view_is) at c.requires.blob) c.in-Ok.ensures.places)

pub read_from-answer-requires-clause-within : goal.read_from-answer-requires-clause-within
read_from-answer-requires-clause-within g c =
    let i = c.self.inside in
    let s = g.S.Store.seen i.store in
    subst (λ (xs : List ℕ). All (λ b. suc b ≤ s.geometry.blocks) xs) (sym c.deref.ensures.value)
    (blocks_within i.history i.first i.ledger i.space s (g.S.Store.both i.store) (g.S.Store.held i.store) c.args.who c.args.slot c.args.root c.self.invariant.0 c.self.invariant.1 (rw (← c.self.view_is) at c.requires.held) c.in-Ok.prepared.places.items c.in-Ok.ensures.places c.owned_are_blocks.ensures)

pub read_from-answer-requires-clause-blobs : goal.read_from-answer-requires-clause-blobs
read_from-answer-requires-clause-blobs g c =
    let s = g.S.Store.seen c.self.inside.store in
    subst (λ (xs : List ℕ). AreOfBlobs s xs) (sym c.deref.ensures.value)
    (of_blobs s.placed c.args.root c.in-Ok.prepared.places.items c.in-Ok.ensures.places)

pub read_from-answer-requires-clause-room : goal.read_from-answer-requires-clause-room
read_from-answer-requires-clause-room g c =
    let room = c.in-Ok.ensures.room in
    subst (λ (w : ℕ). HasRoom c.args.blob.size w c.in-Ok.prepared.raw) (sym room.window) room

pub read_from-answer-requires-clause-window : goal.read_from-answer-requires-clause-window
read_from-answer-requires-clause-window g c = rw (c.in-Ok.ensures.room.window) c.requires.window

pub note-requires : goal.note-requires
note-requires g c =
    let spare = (rw (← c.self.view_is) at c.requires.spare) in
    for_any c.fetch_reply-reply.result _ (omega (arith, spare))

read : (g : Over) (c : After-drop-places g) → Fetches (g.S.Store.seen c.self.inside.store) (g.S.Store.seen c.read_from-answer.new.store) (g.S.Store.both c.self.inside.store) (g.S.Store.both c.read_from-answer.new.store) (g.S.Store.held c.self.inside.store) (g.S.Store.held c.read_from-answer.new.store) c.in-Ok.prepared.places.items c.args.blob c.args.window c.read_from-answer.result
read g c = rw (c.deref.ensures.value, c.in-Ok.ensures.room.window) at c.read_from-answer.ensures

done : (g : Over) (c : After-drop-places g) → CallDone c.self.inside.history c.note.new.history c.self.inside.first c.self.inside.ledger c.self.inside.ledger c.self.inside.space c.self.inside.space (g.S.Store.seen c.self.inside.store) (g.S.Store.seen c.read_from-answer.new.store) (g.S.Store.both c.read_from-answer.new.store) c.args.who (Fetch c.args.slot c.args.window) (fetch_reply c.read_from-answer.result)
done g c =
    let i = c.self.inside in
    let s = g.S.Store.seen i.store in
    let holds = (rw (← c.self.view_is) at c.requires.held) in
    fetch_done i.history c.note.new.history i.first i.ledger i.space s (g.S.Store.seen c.read_from-answer.new.store) (g.S.Store.both i.store) (g.S.Store.both c.read_from-answer.new.store) (g.S.Store.held i.store) (g.S.Store.held c.read_from-answer.new.store) c.args.who c.args.slot c.args.window
    c.self.invariant.0 (rw (← c.self.view_is) at c.requires.spare) (g.met.S.Store.counted i.store) (read g c).rest (read g c).both c.args.root c.in-Ok.prepared.places.items c.args.blob c.read_from-answer.result
    (in_tables i.history i.first i.ledger i.space s (g.S.Store.both i.store) (g.S.Store.held i.store) c.args.who c.args.slot c.args.root c.self.invariant.0 c.self.invariant.1 holds) (read g c) (rw (c.fetch_reply-reply.ensures, c.calls.ensures) at c.note.ensures)

pub invariant_of-self : goal.invariant_of-self
invariant_of-self g c =
    let i = c.self.inside in (
      (done g c).kept,
      fetch_spaced i.ledger i.space (g.S.Store.seen i.store) (g.S.Store.seen c.read_from-answer.new.store) (g.S.Store.both i.store) (g.S.Store.both c.read_from-answer.new.store) (g.S.Store.held i.store) (g.S.Store.held c.read_from-answer.new.store) c.in-Ok.prepared.places.items c.args.blob c.args.window c.read_from-answer.result (read g c) c.self.invariant.1,
      subst (λ (x : Stored). Ordered c.note.new.history.history i.space x) (sym (read g c).rest)
          (ordered_silent i.history c.note.new.history i.space (g.S.Store.seen i.store) c.args.who (Fetch c.args.slot c.args.window) (fetch_reply c.read_from-answer.result) (g.S.Store.seen c.read_from-answer.new.store).calls (rw (c.fetch_reply-reply.ensures, c.calls.ensures) at c.note.ensures)
          (by_any (Fetch c.args.slot c.args.window) (fetch_reply c.read_from-answer.result) (λ x. record { order = λ add. tt; add = λ add. refl; puts = λ puts calls. refl; unput = λ who calls w. w.0; unpublished = refl })) c.self.invariant.2),
      subst (λ (x : Stored). PublishedAreSound c.note.new.history.history i.ledger.map x) (sym (read g c).rest)
          (sound_silent i.history c.note.new.history i.ledger.map i.ledger.map (g.S.Store.seen i.store) c.args.who (Fetch c.args.slot c.args.window) (fetch_reply c.read_from-answer.result) (g.S.Store.seen c.read_from-answer.new.store).calls (rw (c.fetch_reply-reply.ensures, c.calls.ensures) at c.note.ensures) refl
          (never_published (Fetch c.args.slot c.args.window) (fetch_reply c.read_from-answer.result) (λ x. refl)) c.self.invariant.3),
    )

pub returns-clause-row : goal.returns-clause-row
returns-clause-row g c = rw (← c.self.view_is) (done g c).does

pub returns-clause-fetched : goal.returns-clause-fetched
returns-clause-fetched g c =
    let i = c.self.inside in
    rw (← c.self.view_is) (fetched_is i.history i.first i.ledger i.space (g.S.Store.seen i.store) (g.S.Store.seen c.read_from-answer.new.store) (g.S.Store.both i.store) (g.S.Store.both c.read_from-answer.new.store) (g.S.Store.held i.store) (g.S.Store.held c.read_from-answer.new.store) (place_of c.args.who c.args.slot) c.args.root c.args.blob c.in-Ok.prepared.places.items c.args.window c.read_from-answer.result
    (rw (← c.self.view_is) at c.requires.held) (rw (← c.self.view_is) at c.requires.blob) c.in-Ok.ensures.places c.self.invariant.2.located
    (blobs_now i.history i.first i.ledger i.space (g.S.Store.seen i.store) (g.S.Store.both i.store) c.self.invariant.0 (g.met.S.Store.shown i.store)) (read g c))

pub returns-clause-crash : goal.returns-clause-crash
returns-clause-crash g c = (done g c).safe
