use Rattle.std.proofs.Common.{◌∙◌}
use Rattle.bv_claims.specs.Tokens.{block_count}
use Rattle.bv_mounted.proofs.OpenLemmas.{blobs_within, blobs_once}
use Rattle.bv_mounted.proofs.prepared.parts_of.Goals as goal

pub space_of-space-requires-clause-within : goal.space_of-space-requires-clause-within
space_of-space-requires-clause-within c =
    blobs_within c.args.inspected.now (block_count c.args.claims.now) c.deref.result.now (c.deref.ensures.value ∙ c.requires.taken.blobs_are) c.requires.blocks

pub space_of-space-requires-clause-once : goal.space_of-space-requires-clause-once
space_of-space-requires-clause-once c = blobs_once c.args.inspected.now c.deref.result.now (c.deref.ensures.value ∙ c.requires.taken.blobs_are)
