use Rattle.bv_journaled.specs.Inodes.{bytes_at}
use Rattle.bv_journaled.proofs.ReadingLemmas.{used_place}
use Rattle.bv_journaled.proofs.reading.is_free.Goals as goal

pub returns-then-get-ne0 : goal.returns-then-get-ne0
returns-then-get-ne0 c =
    used_place c.place_of-place.result.now (bytes_at c.args.meta.now c.args.node) c.get.result c.args.meta.now.geometry.version c.place_of-place.ensures c.get.ensures.value c.if-get-ne0.true
