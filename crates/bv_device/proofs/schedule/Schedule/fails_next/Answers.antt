use Rattle.std.proofs.Common.{◌<◌, ℕ, ◌-◌, List, length, get_or, set, ap, ◌∙◌, arith, add-one}
use Rattle.bv_device.proofs.ScheduleLemmas.{partly_later-next, partly_later-same}
use Rattle.bv_device.proofs.schedule.Schedule.fails_next.Goals as goal

pub loop-number-preserved : goal.loop-number-preserved
loop-number-preserved c =
    let all : List ℕ = c.deref_mut-number-items.result.now in
    let i : ℕ = c.loop-number.number-index in
    let below : i < length all = omega arith in
    let next : ℕ = get_or all i 0 - 1 in
    rw add-one
    (ap (λ (n : ℕ). set c.loop-number.number-items i n)
    (c.saturating_sub.ensures ∙ ap (λ (l : List ℕ). get_or l i 0 - 1) c.loop-number.invariant ∙ ap (λ (n : ℕ). n - 1) (partly_later-same all i))
    ∙ ap (λ (l : List ℕ). set l i next) c.loop-number.invariant ∙ partly_later-next all i below)
