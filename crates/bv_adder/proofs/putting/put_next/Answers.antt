use Rattle.std.proofs.Common.{arith}
use Rattle.bv_volume.specs.Answers.{put_reply}
use Rattle.bv_adder.proofs.StepLemmas.{next_err, next_low, next_ok, put_happens, under_way}
use Rattle.bv_adder.proofs.putting.put_next.Goals as goal

pub put-answer-requires-clause-spare : goal.put-answer-requires-clause-spare
put-answer-requires-clause-spare g c = omega (arith, c.requires.puts.spare, c.requires.low)

pub put-answer-requires-clause-add : goal.put-answer-requires-clause-add
put-answer-requires-clause-add g c = under_way c.args.adding.now c.args.index c.args.who.session c.args.volume.now c.args.add.now c.requires.puts.add

pub put-answer-requires-clause-next : goal.put-answer-requires-clause-next
put-answer-requires-clause-next g c = next_low c.args.adding.now c.args.index c.args.who.session c.args.volume.now c.args.add.now c.requires.puts c.requires.low

pub returns-clause-happens : goal.returns-clause-happens
returns-clause-happens g c =
    put_happens c.args.adding.now c.args.index c.args.volume.now c.put-answer.new.self c.args.who c.block-block.result c.args.add.now c.put-answer.new.add c.requires.puts c.requires.low (put_reply c.put-answer.result) c.put-answer.ensures.row

pub returns-clause-ok : goal.returns-clause-ok
returns-clause-ok g c =
    next_ok c.args.adding.now c.args.index c.args.volume.now c.put-answer.new.self c.args.who c.block-block.result c.args.add.now c.put-answer.new.add c.requires.puts c.requires.low c.put-answer.result c.requires.blob c.block-block.ensures
    c.put-answer.ensures.row c.put-answer.ensures.ok c.put-answer.ensures.wrote c.history-before.ensures.puts c.history-after.ensures.counted

pub returns-clause-err : goal.returns-clause-err
returns-clause-err g c =
    next_err c.args.adding.now c.args.index c.args.volume.now c.put-answer.new.self c.args.who c.block-block.result c.args.add.now c.put-answer.new.add c.requires.puts c.requires.low c.put-answer.result c.put-answer.ensures.row c.put-answer.ensures.err
