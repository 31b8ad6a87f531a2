use Rattle.std.proofs.KnownBytes.{Consumes-trans}
use Rattle.std.proofs.lemmas.Result.{MatchResult-from_err}
use Rattle.bv_io.specs.Streams.{TakesSome}
use Rattle.bv_io.proofs.reading.read_all.Goals as goal

pub returns-then-count-room-clause-err : goal.returns-then-count-room-clause-err
returns-then-count-room-clause-err g c = (_, Consumes-trans _ _ _ _ _ c.loop-bytes.invariant.taken c.in_ok-count.ensures.ok.moved)

pub returns-in_err-extend_from_slice-clause-err : goal.returns-in_err-extend_from_slice-clause-err
returns-in_err-extend_from_slice-clause-err g c =
    let some : TakesSome (g.S.Source.seen c.args.source.now).told (g.S.Source.seen c.take.new.self).told =
    (_, Consumes-trans _ _ _ _ _ c.loop-bytes.invariant.taken c.in_ok-count.ensures.ok.moved) in
    MatchResult-from_err c.from_residual-in_err-extend_from_slice.result _ _ c.from_residual-in_err-extend_from_slice.ensures.0 (λ _. some)
