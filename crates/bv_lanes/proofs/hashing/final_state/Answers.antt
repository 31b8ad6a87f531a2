use Rattle.std.proofs.Common.{◌≡◌, sym, ◌∙◌, arith}
use Rattle.sha2.specs.Sha256.{hash_after, initial_hash_256}
use Rattle.bv_lanes.specs.Messages.{message_at, piece_of}
use Rattle.bv_lanes.proofs.PieceLemmas.{final_hash_is, hash_after_more}
use Rattle.bv_lanes.proofs.hashing.final_state.Goals as goal

pub pieces-init : goal.pieces-init
unfolding hash_after
pieces-init c j lt =
    let m = message_at c.args.messages.now j in
    hash_after_more initial_hash_256 m 0 _ _ (c.initial_state-state.ensures j lt)
    (c.compress.ensures j lt (piece_of m 0) (c.put_first_words.ensures.words j lt))

pub pieces-preserved : goal.pieces-preserved
pieces-preserved c j lt =
    let m = message_at c.args.messages.now j in
    hash_after_more initial_hash_256 m c.pieces.piece _ _ (c.pieces.invariant j lt)
    (c.compress-in-pieces.ensures j lt (piece_of m c.pieces.piece) (c.put_middle_words.ensures j lt))

pub returns : goal.returns
returns c j lt =
    let m = message_at c.args.messages.now j in
    let done : c.pieces.piece ≡ 128 = omega (arith, c.pieces.auto.piece-end (omega arith)) in
    let before = rw done at (c.pieces.invariant j lt) in
    hash_after_more initial_hash_256 m 128 _ _ before (c.compress-2.ensures j lt (piece_of m 128) (c.put_last_words.ensures j lt))
    ∙ sym (final_hash_is initial_hash_256 m (c.put_first_words.ensures.sizes j lt))
