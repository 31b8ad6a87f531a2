use Rattle.bv_space.proofs.space.Space.owned_are_blocks.Goals as goal

pub returns : goal.returns
returns c = rw (← c.self.view_is) (c.self.invariant.table.within)
