-- The node stands in its block of the node map.
use Rattle.std.proofs.Common.{◌≡◌, ◌<◌, ◌∙◌, ◌+◌, ◌/◌, ◌%◌, ℕ, List, [], length, get_or, ap, sym, arith}
use Rattle.spec_record.specs.declared.geometry.Geometry.{Geometry}
use Rattle.spec_record.specs.Geometry.{bitmap_blocks}
use Rattle.bv_node.proofs.WalkLemmas.{chunk_at}
use Rattle.bv_journaled.proofs.LookupLemmas.{node_placed}
use Rattle.bv_journaled.proofs.reading.place_of.Goals as goal

pub returns : goal.returns
returns c =
    let k : ℕ = c.args.node in
    let g : Geometry = c.args.meta.now.geometry in
    let bs : List (List ℕ) = c.blocks-2.result.now in
    let at : ℕ = 1 + c.bitmap.result + k / 128 in
    let same : c.geometry.result ≡ g = c.geometry.ensures.value in
    let at_is : at ≡ 1 + bitmap_blocks g + k / 128 = omega (arith, c.bitmap.ensures ∙ ap bitmap_blocks same) in
    let whole : g.nodes % 128 ≡ 0 = ap (λ (x : Geometry). x.nodes % 128) (sym same) ∙ c.geometry.ensures.limits.whole_node_blocks in
    let pieces : ℕ = length (get_or bs at []) / 64 in
    let within : k % 128 < pieces = omega (arith, c.as_chunks.ensures.front_len) in
    ap (λ (xs : List (List ℕ)). get_or xs (k % 128) []) c.as_chunks.ensures.front
    ∙ chunk_at 64 pieces (k % 128) (get_or bs at []) [] within
    ∙ node_placed c.args.meta.now bs at k c.blocks-2.ensures.value at_is c.requires whole
