use Rattle.bv_merkle.proofs.HashingLemmas.{piece-rest}
use Rattle.bv_writer.proofs.blocks.piece.Goals as goal

pub returns-then-rest-lt-BLOCK_LEN-clause-piece : goal.returns-then-rest-lt-BLOCK_LEN-clause-piece
returns-then-rest-lt-BLOCK_LEN-clause-piece c = piece-rest c.args.bytes.now c.args.i c.if-rest-lt-BLOCK_LEN.true
