use Rattle.std.proofs.Common.{◌≡◌, ◌+◌, ◌*◌, ◌∙◌, ap, slice_index, refl, arith}
use Rattle.std.proofs.lemmas.List.{length-map}
use Rattle.sha2.specs.Sha256.{add_state, compress, rounds}
use Rattle.sha2.proofs.Schedule256.{IsWindow_first}
use Rattle.bv_lanes.specs.Lanes.{lane_state, lane_words}
use Rattle.bv_lanes.proofs.LaneLemmas.{IsWindow_at, rounds_at}
use Rattle.bv_lanes.proofs.compression.compress.Goals as goal

pub turns-init : goal.turns-init
unfolding rounds
turns-init c j lt piece words =
    let w = c.args.words.now in
    let window = IsWindow_first piece (lane_words j w) (length-map w (λ v. slice_index v j) ∙ c.told-words) words in
    (window, c.sixteen_rounds-v.ensures j lt piece (lane_state j c.args.state.now) window refl)

pub turns-preserved : goal.turns-preserved
turns-preserved c j lt piece words =
    let h = lane_state j c.args.state.now in
    let turn = c.turns.turn in
    let held = c.turns.invariant j lt piece words in
    let window = c.put_next_words.ensures j lt piece (16 * turn) (omega arith) (omega arith) (omega arith) held.0 in
    let before = rounds_at piece h _ _ (16 * turn + 0) (omega arith) held.1 in (
      IsWindow_at piece _ _ _ (omega arith) window,
      rounds_at piece h _ _ _ (omega arith) (c.sixteen_rounds-v-in-turns.ensures j lt piece h window before),
    )

pub returns : goal.returns
unfolding compress
returns c j lt piece words =
    let done : 16 * c.turns.turn ≡ 64 = omega (arith, c.turns.auto.turn-end (omega arith)) in
    let last = rw done at (c.turns.invariant j lt piece words).1 in
    rw (
      c.add.ensures j lt,
      c.add-2.ensures j lt,
      c.add-3.ensures j lt,
      c.add-4.ensures j lt,
      c.add-5.ensures j lt,
      c.add-6.ensures j lt,
      c.add-7.ensures j lt,
      c.add-8.ensures j lt,
    ) (ap (add_state (lane_state j c.args.state.now)) last)
