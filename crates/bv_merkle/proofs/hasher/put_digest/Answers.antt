use Rattle.bv_merkle.proofs.LevelsLemmas.{put_mid-first, put_mid-later}
use Rattle.bv_merkle.proofs.hasher.put_digest.Goals as goal
use Rattle.bv_merkle.proofs.hasher.put_digest.Goals.{then-place-eq0, else-place-eq0}

pub returns-clause-put : goal.returns-clause-put
returns-clause-put c =
    elim c.if-place-eq0.branch [
      | then-place-eq0 w ↦ put_mid-first _ _ _ _ _ w.if-place-eq0.true w.block-is c.copy_from_slice.ensures.after
      | else-place-eq0 w ↦ put_mid-later _ _ _ _ _ w.if-place-eq0.false w.block-is c.copy_from_slice.ensures.after
    ]
