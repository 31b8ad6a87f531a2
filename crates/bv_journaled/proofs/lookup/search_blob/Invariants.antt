use Rattle.std.proofs.Common.{◌≡◌, None}
use Rattle.std.specs.Prelude.{find}
use Rattle.spec_image.specs.WellFormed.{records_below}
use Rattle.spec_meta.proofs.MapLemmas.{named}
use Rattle.bv_txn.specs.Metas.{metadata_of}
use Rattle.bv_journaled.proofs.lookup.search_blob.Given as goal

-- none so far has the root
abbrev pub invariant-loop-node : goal.invariant-loop-node
invariant-loop-node l =
    find (named l.root) (records_below (metadata_of l.meta).nodes l.meta.geometry.blocks l.node) ≡ None
