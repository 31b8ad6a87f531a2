use Rattle.std.proofs.Common.{◌≡◌, ◌+◌, ◌-◌, ◌*◌, ◌%◌, slice_index, ap, sym, ◌∙◌, arith}
use Rattle.sha2.specs.Sha256.{round, round_constants, schedule}
use Rattle.sha2.proofs.Schedule256.{rounds_next}
use Rattle.bv_lanes.specs.Lanes.{lane_words}
use Rattle.bv_lanes.proofs.PieceLemmas.{lane_words_at}
use Rattle.bv_lanes.proofs.rounds.step.Goals as goal

pub returns : goal.returns
returns c j lt piece h window before =
    let place = c.args.place in
    let t = 16 * c.args.turn + place in
    let here : (16 * c.args.turn + 16 + place) % 16 ≡ place = omega arith in
    let there : 16 * c.args.turn + 16 + place - 16 ≡ t = omega arith in
    let word = sym (lane_words_at c.args.window.now j place (omega (arith, c.told-window, c.requires.place)))
    ∙ ap (slice_index (lane_words j c.args.window.now)) (sym here)
    ∙ window.1 place c.requires.place ∙ ap (slice_index (schedule piece 48)) there in
    c.round.ensures j lt
    ∙ (λ x. round (before x) (slice_index round_constants t) (word x))
    ∙ sym (rounds_next h (schedule piece 48) t)
