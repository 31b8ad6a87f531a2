use Rattle.std.proofs.Common.{◌≡◌, ◌+◌, ◌<◌, ◌++◌, ℕ, List, None, take, get_or, length, sym, ap, ◌∙◌, subst, arith}
use Rattle.std.proofs.lemmas.List.{take_all, map-append}
use Rattle.std.specs.List.{range_with_len}
use Rattle.spec_disk.specs.Disk.{block}
use Rattle.spec_record.specs.declared.extent.Extent.{Extent}
use Rattle.spec_record.specs.Geometry.{block_at}
use Rattle.spec_tree.specs.Tree.{root_of}
use Rattle.spec_image.specs.Chain.{lengths}
use Rattle.spec_image.specs.Stored.{blocks_of}
use Rattle.bv_device.proofs.ReadsLemmas.{Reads-append, Reads-weaker}
use Rattle.bv_check.specs.Hashed.{HasTaken, HashesData}
use Rattle.bv_check.specs.Checks.{data_at}
use Rattle.bv_check.proofs.CheckLemmas.{blocks_more, lengths_more, bytes_are}
use Rattle.bv_check.proofs.damage.ending_of.Goals as goal

pub loop-extent-preserved : goal.loop-extent-preserved
loop-extent-preserved g c =
    let i = c.loop-extent.extent-index in
    let v = c.args.geometry.now in
    let es = c.args.blob.now.extents in
    let none : Extent = record { start = 0; len = 0 } in
    let e : Extent = get_or c.extents-extent-items.result.now i none in
    let is : e ≡ get_or es i none = ap (λ (xs : List Extent). get_or xs i none) c.extents-extent-items.ensures in
    let within : i < length es = omega (arith, ap (λ (xs : List Extent). length xs) c.extents-extent-items.ensures) in
    let old = c.loop-extent.hasher in
    let new = c.read_extent.new.hasher in
    record {
      lawful = c.in_ok-read_extent.ensures.lawful;
      plan = c.in_ok-read_extent.ensures.plan ∙ c.loop-extent.invariant.plan;
      came =
          c.in_ok-read_extent.ensures.came ∙ ap (λ (n : ℕ). n + e.len) c.loop-extent.invariant.came
          ∙ ap (λ (x : Extent). lengths (take i es) + x.len) is ∙ sym (lengths_more es i none within);
      reads =
          Reads-append None _ _ _ (λ j. HasTaken old (data_at v j (blocks_of (take i es))))
          (λ j. (blocks : List (List ℕ)) → HasTaken old blocks → HasTaken new (blocks ++ data_at v j (range_with_len e.start e.len))) _ c.loop-extent.invariant.reads c.in_ok-read_extent.ensures.reads
          (λ j before more.
          subst (HasTaken new)
          (ap (λ (x : Extent). data_at v j (blocks_of (take i es)) ++ data_at v j (range_with_len x.start x.len)) is
          ∙ sym (map-append (λ d. block j (block_at v d)) (blocks_of (take i es)) (range_with_len (get_or es i none).start (get_or es i none).len))
          ∙ ap (data_at v j) (sym (blocks_more es i none within)))
          (more (data_at v j (blocks_of (take i es))) before));
    }

pub returns-clause-reads : goal.returns-clause-reads
returns-clause-reads g c =
    let i = c.loop-extent.extent-index in
    let v = c.args.geometry.now in
    let b = c.args.blob.now in
    let es = b.extents in
    let h0 = c.begin.new.self in
    let h = c.loop-extent.hasher in
    let all : take i es ≡ es = take_all i es (omega (arith, ap (λ (xs : List Extent). length xs) c.extents-extent-items.ensures)) in
    let plan : HashesData b.version b.size h0 =
    subst (λ (n : ℕ). HashesData b.version n h0) c.size.ensures (subst (λ (n : ℕ). HashesData n c.size.result h0) c.version.ensures c.begin.ensures.plan) in
    Reads-weaker None _ _ (λ j. HasTaken h (data_at v j (blocks_of (take i es)))) _ c.loop-extent.invariant.reads
    (λ j t.
    let t2 : HasTaken h (data_at v j (blocks_of es)) = subst (λ (xs : List Extent). HasTaken h (data_at v j (blocks_of xs))) all t in
    c.finish.ensures.root (data_at v j (blocks_of es)) t2 ∙ ap root_of (bytes_are h0 h v j b plan c.loop-extent.invariant.plan c.requires.stored.need))
