use Rattle.bv_journaled.proofs.drawing.tell_block.Goals as goal

pub returns : goal.returns
returns c = record { length_is = c.told-block; bytes_fit = c.tell_bytes.ensures }
