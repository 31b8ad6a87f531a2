use Rattle.std.proofs.Common.{◌≡◌, ℕ, ◌+◌, ◌%◌, ◌<◌, slice_index, arith, refl}
use Rattle.bv_lanes.specs.Lanes.{lane_word, lane_words}
use Rattle.bv_lanes.proofs.PieceLemmas.{lane_words_at}
use Rattle.bv_lanes.proofs.schedule.next_word.Goals as goal

pub returns : goal.returns
returns c j lt =
    let w = c.args.window.now in
    let place = c.args.place in
    let at : place % 16 ≡ place = omega arith in
    let word : (i : ℕ) → i < 16 → slice_index (lane_words j w) i ≡ lane_word w i j =
    λ i below. lane_words_at w j i (omega (arith, c.told-window, below)) in
    rw (
      c.add.ensures j lt,
      c.add-near.ensures j lt,
      c.add-far.ensures j lt,
      c.lower_sigma1.ensures j lt,
      c.lower_sigma0.ensures j lt,
      at,
      word ((place + 14) % 16) (omega arith),
      word ((place + 9) % 16) (omega arith),
      word ((place + 1) % 16) (omega arith),
      word place c.requires,
    ) refl
