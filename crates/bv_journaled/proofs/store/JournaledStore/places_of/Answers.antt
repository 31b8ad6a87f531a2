use Rattle.std.proofs.Common.{◌≡◌, ◌≤◌, ◌^◌, Some, ap, sym, ◌∙◌, arith}
use Rattle.spec_record.proofs.SuperLemmas.{most_blocks-le}
use Rattle.spec_image.specs.Metadata.{Metadata}
use Rattle.spec_image.specs.Volume.{blob_in}
use Rattle.spec_core.specs.State.{find}
use Rattle.spec_meta.specs.Blocks.{metadata_at}
use Rattle.bv_journaled.specs.Standing.{Standing, placed_at}
use Rattle.bv_journaled.proofs.PlaceLemmas.{found_small, found_placed, if_ok_from}
use Rattle.bv_journaled.proofs.store.JournaledStore.places_of.Goals as goal

pub blocks_of_blob-requires : goal.blocks_of_blob-requires
blocks_of_blob-requires g c =
    let geometry = c.self.inside.meta.geometry in
    let m : Metadata = metadata_at geometry c.self.inside.meta.blocks in
    let found : blob_in m c.args.root ≡ Some c.in-Some.blob = sym c.in_ok-blob.ensures ∙ c.in-Some.is in
    let few : geometry.blocks ≤ 2 ^ 48 = omega (arith, c.self.invariant.lawful.blocks.to_high, most_blocks-le geometry.version) in
    found_small m c.args.root c.in-Some.blob few found

pub returns : goal.returns
returns g c =
    let m : Metadata = metadata_at c.self.inside.meta.geometry c.self.inside.meta.blocks in
    let found : blob_in m c.args.root ≡ Some c.in-Some.blob = sym c.in_ok-blob.ensures ∙ c.in-Some.is in
    let there = ap (λ (s : Standing). find (placed_at s.meta.geometry s.meta.blocks) c.args.root) (sym c.self.view_is) ∙ found_placed m c.args.root c.in-Some.blob found in
    if_ok_from c.blocks_of_blob.result _ _ (λ v is. there ∙ ap (λ x. Some x) (sym is)) c.blocks_of_blob.ensures
