use Rattle.std.proofs.Common.{◌≡◌, ℕ, List, length, map, take, sym, ap, ◌∙◌, arith}
use Rattle.std.proofs.lemmas.List.{take_all, length-take-le}
use Rattle.bv_lanes.specs.declared.message.Message.{Message}
use Rattle.bv_lanes.specs.Messages.{bytes_of}
use Rattle.bv_check.specs.declared.waiting.Waiting.{Waiting}
use Rattle.bv_check.specs.Last.{last_bytes}
use Rattle.bv_check.proofs.WaitingLemmas.{messages_hashed}
use Rattle.bv_check.proofs.waiting.last_digests.Goals as goal

pub returns : goal.returns
returns c =
    let ws = c.args.waiting.now in
    let ms = c.loop-i.messages in
    let n : ℕ = length ws in
    let of : Message → List ℕ = λ m. bytes_of m in
    let last : Waiting → List ℕ = λ w. last_bytes w.last in
    let all : c.loop-i.i ≡ n = omega (arith, c.loop-i-test.false, c.loop-i.auto.i-end) in
    let same : map of (take n ms) ≡ map last ws =
    (λ t. map of (take (sym all t) ms)) ∙ c.loop-i.invariant.same ∙ (λ t. map last (take (all t) ws))
    ∙ ap (map last) (take_all n ws (omega arith)) in
    let count : length (take n ms) ≡ n = length-take-le n ms (omega (arith, c.loop-i.invariant.eight, c.requires.few)) in
    sym (ap (λ (k : ℕ). take k c.digests.result) count) ∙ c.digests.ensures ∙ messages_hashed ws (take n ms) same
