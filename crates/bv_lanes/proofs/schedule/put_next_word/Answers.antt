use Rattle.std.proofs.Common.{◌≡◌, ◌+◌, ◌*◌, ◌/◌, slice_index, slice_set, ap, sym, ◌∙◌, arith}
use Rattle.std.proofs.lemmas.List.{map-set}
use Rattle.sha2.specs.Sha256.{schedule, window_word}
use Rattle.sha2.proofs.Schedule256.{IsWindow_next, window_word_at, window_word_place}
use Rattle.bv_lanes.specs.Lanes.{lane_words}
use Rattle.bv_lanes.proofs.schedule.put_next_word.Goals as goal

pub returns : goal.returns
returns c j lt piece t low high at window =
    let w = c.args.window.now in
    let turn : 16 * (t / 16) + c.args.place ≡ t = omega arith in
    let word : slice_index c.next_word.result j ≡ slice_index (schedule piece 48) t =
    c.next_word.ensures j lt ∙ window_word_place (lane_words j w) (t / 16) c.args.place
    ∙ ap (window_word (lane_words j w)) turn ∙ window_word_at piece (lane_words j w) t low (omega arith) window in
    let moved = map-set (λ v. slice_index v j) w c.args.place c.next_word.result
    ∙ (λ x. slice_set (lane_words j w) (sym at x) (word x)) in
    rw moved (IsWindow_next piece (lane_words j w) t low (omega arith) window)
