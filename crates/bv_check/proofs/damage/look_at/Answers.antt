use Rattle.std.proofs.Common.{◌≡◌, ◌++◌, List, None, ap, ◌∙◌}
use Rattle.spec_tree.specs.declared.Digest.{Digest}
use Rattle.spec_tree.specs.Tree.{root_of}
use Rattle.spec_image.specs.Stored.{bytes_in}
use Rattle.bv_device.proofs.ReadsLemmas.{Reads-weaker}
use Rattle.bv_check.specs.Last.{damaged_of, ending_root, unless_found}
use Rattle.bv_check.proofs.WaitingLemmas.{one_damaged}
use Rattle.bv_check.proofs.damage.look_at.Goals as goal

pub returns-in-Ok-clause-reads : goal.returns-in-Ok-clause-reads
returns-in-Ok-clause-reads g c =
    let v = c.args.geometry.now in
    let b = c.args.blob.now in
    let e = c.in_ok-ending.ending in
    let old : List Digest = damaged_of c.args.looked.now in
    Reads-weaker None _ _ (λ j. ending_root e ≡ root_of (bytes_in v j b)) _ c.in_ok-ending.ensures.reads
    (λ j is.
    c.in-Ok.ensures.more
    ∙ ap (λ (r : Digest). old ++ unless_found r (ending_root e)) c.root.ensures
    ∙ ap (λ (ds : List Digest). old ++ ds) (one_damaged v j b (ending_root e) is))
