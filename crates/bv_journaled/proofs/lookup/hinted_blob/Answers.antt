use Rattle.std.proofs.Common.{◌≡◌, ◌<◌, ap, arith}
use Rattle.spec_record.specs.declared.geometry.Geometry.{Geometry}
use Rattle.bv_txn.specs.Metas.{metadata_of}
use Rattle.bv_journaled.proofs.HintLemmas.{only_one}
use Rattle.bv_journaled.proofs.PlaceLemmas.{if_ok_from}
use Rattle.bv_journaled.proofs.lookup.hinted_blob.Goals as goal

pub returns : goal.returns
returns c =
    let all : c.geometry.result.nodes ≡ c.args.meta.now.geometry.nodes = ap (λ (g : Geometry). g.nodes) c.geometry.ensures.value in
    let within : c.from-node.result < c.args.meta.now.geometry.nodes = omega (arith, c.if-node-geometry.false, all) in
    if_ok_from c.blob_named.result _ _
    (λ found is some. only_one (metadata_of c.args.meta.now) c.args.root.now c.from-node.result found c.requires within is some)
    c.blob_named.ensures
