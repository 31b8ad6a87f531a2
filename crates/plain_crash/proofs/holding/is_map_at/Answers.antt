use Rattle.std.proofs.Common.{◌≡◌, Decides, rules, sym, ◌∙◌}
use Rattle.std.proofs.lemmas.Map.Lookups.{btree_map_eq-Decides}
use Rattle.spec_tree.specs.declared.Digest.{Digest}
use Rattle.spec_tree.specs.declared.blob.Blob.{Blob}
use Rattle.spec_tree.specs.contracts.DigestPartialEq.TheImpl as digests
use Rattle.spec_tree.specs.contracts.blob.BlobPartialEq.TheImpl as the_blobs
use Rattle.plain_crash.proofs.holding.is_map_at.Goals as goal

digest_decides : (a b : Digest) → Decides (digests.ghosts.eq a b) (a ≡ b)
digest_decides a b = (search rules, search rules)

blob_decides : (a b : Blob) → Decides (the_blobs.ghosts.eq a b) (a ≡ b)
blob_decides a b = (search rules, search rules)

pub returns : goal.returns
returns c =
    let equal = btree_map_eq-Decides digest_decides blob_decides c.in_ok-map.map c.args.held.now c.eq.result c.eq.ensures in
    let boundary = rw (c.deref.ensures.value, c.requires.logged.lengths) at (c.is_boundary.ensures.0 c.if-not-is_boundary.false) in (
      λ yes. (boundary, sym c.in_ok-map.ensures ∙ equal.0 yes),
      λ (_, map). equal.1 (c.in_ok-map.ensures ∙ map),
    )
