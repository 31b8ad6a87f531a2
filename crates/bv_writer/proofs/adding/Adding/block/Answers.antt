use Rattle.std.proofs.Common.{◌≡◌, ◌-◌, ◌<◌, ◌≤◌, [], length, get_or, refl, ap, ◌∙◌, arith}
use Rattle.std.proofs.lemmas.List.{get_or_read}
use Rattle.spec_tree.specs.Tree.{data_blocks}
use Rattle.bv_writer.specs.Plans.{Plan}
use Rattle.bv_writer.proofs.PlacedLemmas.{data_first, tree_after, tree_first, data_after, within_need}
use Rattle.bv_writer.proofs.adding.Adding.block.Goals as goal

pub returns-then-index-data : goal.returns-then-index-data
returns-then-index-data c =
    let a = c.self.inside in
    let low : c.args.index < data_blocks (length a.bytes.items) = omega (arith, a.bytes.ok.0) in
    data_first a.version a.tree.items a.bytes.items _ c.deref.ensures.value c.args.index _ c.if-self-eq2.true low c.block_of.ensures
    ∙ ap (λ (p : Plan). get_or p.blocks c.args.index []) c.self.view_is

pub returns-else-index-data : goal.returns-else-index-data
returns-else-index-data c =
    let a = c.self.inside in let i = c.args.index in
    let need = within_need a.version (length a.bytes.items) _ _ (length a.tree.items) i (ap (λ (p : Plan). p.version) c.self.view_is) (ap (λ (p : Plan). p.size) c.self.view_is) c.requires c.self.invariant in
    let high : data_blocks (length a.bytes.items) ≤ i = omega (arith, a.bytes.ok.0) in
    let place : i - c.div_ceil-data.result ≡ i - data_blocks (length a.bytes.items) = omega (arith, a.bytes.ok.0) in
    let there : i - c.div_ceil-data.result < length a.tree.items = omega (arith, need, a.bytes.ok.0) in
    tree_after a.version a.tree.items a.bytes.items _ refl i (i - c.div_ceil-data.result) _ c.if-self-eq2.true high place (get_or_read a.tree.items _ _ there c.index.ensures [])
    ∙ ap (λ (p : Plan). get_or p.blocks i []) c.self.view_is

pub returns-then-index-len : goal.returns-then-index-len
returns-then-index-len c =
    let a = c.self.inside in let i = c.args.index in
    let low : i < length a.tree.items = omega (arith, a.tree.ok.0) in
    tree_first a.version a.tree.items a.bytes.items _ refl i _ c.if-self-eq2.false low (get_or_read a.tree.items _ _ low c.index-then-index-len.ensures [])
    ∙ ap (λ (p : Plan). get_or p.blocks i []) c.self.view_is

pub returns-else-index-len : goal.returns-else-index-len
returns-else-index-len c =
    let a = c.self.inside in let i = c.args.index in
    let need = within_need a.version (length a.bytes.items) _ _ (length a.tree.items) i (ap (λ (p : Plan). p.version) c.self.view_is) (ap (λ (p : Plan). p.size) c.self.view_is) c.requires c.self.invariant in
    let high : length a.tree.items ≤ i = omega (arith, a.tree.ok.0) in
    let place : i - c.len-else-index-len.result ≡ i - length a.tree.items = omega (arith, a.tree.ok.0) in
    let low : i - c.len-else-index-len.result < data_blocks (length a.bytes.items) = omega (arith, need, a.tree.ok.0) in
    data_after a.version a.tree.items a.bytes.items _ c.deref-else-index-len.ensures.value i (i - c.len-else-index-len.result) _ c.if-self-eq2.false high place low c.block_of-else-index-len.ensures
    ∙ ap (λ (p : Plan). get_or p.blocks i []) c.self.view_is
