use Rattle.bv_fetch.proofs.Steps.{told_blocks_whole}
use Rattle.bv_fetch.proofs.places.are_whole.Goals as goal

pub returns : goal.returns
returns g c =
    let s = g.S.Store.seen c.args.store.now in
    told_blocks_whole s.geometry c.args._places.now s.told c.requires c.geometry-geometry.ensures.whole
