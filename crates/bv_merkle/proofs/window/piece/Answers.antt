use Rattle.bv_merkle.proofs.HashingLemmas.{piece-rest}
use Rattle.bv_merkle.proofs.window.piece.Goals as goal

pub returns-then-rest-lt-BLOCK_LEN : goal.returns-then-rest-lt-BLOCK_LEN
returns-then-rest-lt-BLOCK_LEN c = piece-rest c.args.bytes.now c.args.i c.if-rest-lt-BLOCK_LEN.true
