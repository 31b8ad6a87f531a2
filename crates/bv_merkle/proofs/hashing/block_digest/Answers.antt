use Rattle.std.proofs.Common.{◌≡◌, ◌<◌, length, arith}
use Rattle.std.proofs.lemmas.Grind.{common_steps}
use Rattle.bv_merkle.proofs.HashingLemmas.{block_digest-some, block_digest-none}
use Rattle.bv_merkle.proofs.hashing.block_digest.Goals as goal
use Rattle.bv_merkle.proofs.hashing.block_digest.Goals.{then-is_empty, else-is_empty}

-- the message is what the updates have added up to
pub returns : goal.returns
returns c =
    let is = c.finalize.ensures _ (c.update_zeros.ensures _ (c.update-3.ensures _ (c.update-2.ensures _ (c.update.ensures _ c.new-hasher.ensures)))) in
    elim c.if-is_empty.branch [
      | then-is_empty w ↦
          let none : length c.args.bytes.now ≡ 0 = grind (arith, common_steps) in
          block_digest-none c.args.level c.args.offset c.args.bytes.now _ _ _ c.if-is_empty.place c.to_le_bytes.ensures c.to_le_bytes-2.ensures w.place-is none c.requires.digests is
      | else-is_empty w ↦
          let some : 0 < length c.args.bytes.now = grind (arith, common_steps) in
          block_digest-some c.args.level c.args.offset c.args.bytes.now _ _ _ c.if-is_empty.place c.to_le_bytes.ensures c.to_le_bytes-2.ensures w.place-is some is
    ]
