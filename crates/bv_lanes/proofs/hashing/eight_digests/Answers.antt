use Rattle.std.proofs.Common.{◌≡◌, ℕ, ◌<◌, List, [], ◌∷◌, length, map, refl, ap, ◌∙◌, arith}
use Rattle.sha2.specs.Sha256.{digest_bytes, sha256}
use Rattle.bv_lanes.specs.declared.message.Message.{Message}
use Rattle.bv_lanes.specs.Messages.{bytes_of, message_at}
use Rattle.bv_lanes.proofs.LaneLemmas.{eight_of}
use Rattle.bv_lanes.proofs.hashing.eight_digests.Goals as goal

-- a function of each of eight messages
map_eight : (f : Message → List ℕ) (ms : List Message) → length ms ≡ 8
    → f (message_at ms 0) ∷ f (message_at ms 1) ∷ f (message_at ms 2) ∷ f (message_at ms 3)
    ∷ f (message_at ms 4) ∷ f (message_at ms 5) ∷ f (message_at ms 6) ∷ f (message_at ms 7) ∷ [] ≡ map f ms
map_eight f = eight_of (λ ms. f (message_at ms 0) ∷ f (message_at ms 1) ∷ f (message_at ms 2) ∷ f (message_at ms 3)
    ∷ f (message_at ms 4) ∷ f (message_at ms 5) ∷ f (message_at ms 6) ∷ f (message_at ms 7) ∷ [] ≡ map f ms) (λ a b c d e f g h. refl)

pub returns : goal.returns
unfolding sha256
returns c =
    let hash = λ (j : ℕ) (lt : j < 8). ap (λ (h : List ℕ). digest_bytes h 8) (c.final_state-state.ensures j lt) in
    let d0 = c.lane_digest.ensures ∙ hash 0 (omega arith) in
    let d1 = c.lane_digest-2.ensures ∙ hash 1 (omega arith) in
    let d2 = c.lane_digest-3.ensures ∙ hash 2 (omega arith) in
    let d3 = c.lane_digest-4.ensures ∙ hash 3 (omega arith) in
    let d4 = c.lane_digest-5.ensures ∙ hash 4 (omega arith) in
    let d5 = c.lane_digest-6.ensures ∙ hash 5 (omega arith) in
    let d6 = c.lane_digest-7.ensures ∙ hash 6 (omega arith) in
    let d7 = c.lane_digest-8.ensures ∙ hash 7 (omega arith) in
    (λ x. d0 x ∷ d1 x ∷ d2 x ∷ d3 x ∷ d4 x ∷ d5 x ∷ d6 x ∷ d7 x ∷ [])
    ∙ map_eight (λ message. sha256 (bytes_of message)) c.args.messages.now c.told-messages
