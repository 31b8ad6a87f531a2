use Rattle.std.proofs.Common.{◌≡◌, ◌∙◌, min, length, arith, rules}
use Rattle.bv_check.proofs.HashLemmas.{taken_waits}
use Rattle.bv_check.proofs.data_hasher.DataHasher.take.Goals as goal

pub returns-clause-takes : goal.returns-clause-takes
returns-clause-takes c =
    let h = c.make_room.new.self in
    let count : c.min-count.result ≡ min h.left 8192 = search rules in
    let size : length c.args.block.now ≡ 8192 = search rules in
    λ blocks t. taken_waits h blocks c.args.block.now (c.make_room.ensures.takes blocks t) c.put_block.new.window c.min-count.result (c.make_room.ensures.wants ∙ c.requires.wanted) size count (c.put_block.ensures c.min-count.result (omega (arith, count)))
