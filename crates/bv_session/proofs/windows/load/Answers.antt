use Rattle.bv_session.proofs.WindowLemmas.{load_keeps, load_knows, load_apart, same_keeps, load_first}
use Rattle.std.proofs.Common.{◌<◌, length, arith}
use Rattle.bv_session.proofs.windows.load.Goals as goal

pub returns-in-Ok-clause-keeps : goal.returns-in-Ok-clause-keeps
returns-in-Ok-clause-keeps c = load_keeps _ _ _ _ c.in-Ok.ensures.ok c.size-size.ensures.reading c.requires.window

pub returns-in-Ok-clause-loads : goal.returns-in-Ok-clause-loads
returns-in-Ok-clause-loads c = load_knows _ _ _ _ c.in-Ok.ensures.ok c.size-size.ensures.reading c.requires.window

pub returns-in-Mismatch-clause-keeps : goal.returns-in-Mismatch-clause-keeps
returns-in-Mismatch-clause-keeps c = same_keeps _ _ c.in-Err.ensures.err

pub returns-in-Mismatch-clause-loads : goal.returns-in-Mismatch-clause-loads
returns-in-Mismatch-clause-loads c = load_apart c.args.reader.now c.args.raw _ _ c.in-Err.ensures.answer c.in-Mismatch.is

pub returns-in-NoMemory-clause-keeps : goal.returns-in-NoMemory-clause-keeps
returns-in-NoMemory-clause-keeps c = same_keeps _ _ c.in-Err.ensures.err

pub returns-in-Ok-clause-made : goal.returns-in-Ok-clause-made
returns-in-Ok-clause-made c =
    let low : c.args.raw.window < length c.args.reader.now.known = omega (arith, c.size-size.ensures.reading.count, c.requires.window) in
    (low, c.in-Ok.ensures.ok)

pub returns-in-Mismatch-clause-made : goal.returns-in-Mismatch-clause-made
returns-in-Mismatch-clause-made c = (c.in-Err.ensures.err, load_first c.args.reader.now c.args.raw _ _ c.in-Err.ensures.answer c.in-Mismatch.is)
