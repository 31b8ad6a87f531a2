use Rattle.std.proofs.Common.{◌+◌, ◌∷◌, [], ◌++◌, List, ℕ, None, ap, sym, ◌∙◌, subst, arith, append_assoc}
use Rattle.std.proofs.lemmas.List.FromFn.{map-range_with_len_more}
use Rattle.std.specs.List.{range_with_len}
use Rattle.spec_disk.specs.Disk.{block}
use Rattle.spec_record.specs.Geometry.{block_at}
use Rattle.bv_device.proofs.ReadsLemmas.{Reads-append}
use Rattle.bv_check.specs.Hashed.{HasTaken}
use Rattle.bv_check.specs.Checks.{data_at}
use Rattle.bv_check.proofs.damage.read_extent.Goals as goal

pub loop-index-preserved : goal.loop-index-preserved
loop-index-preserved g c =
    let i = c.loop-index.index in
    let v = c.args.geometry.now in
    let start = c.args.extent.now.start in
    let at = c.block_at.result in
    let new = c.read_one.new.hasher in
    record {
      lawful = c.in_ok-read_one.ensures.lawful;
      plan = c.in_ok-read_one.ensures.plan ∙ c.loop-index.invariant.plan;
      came = omega (arith, c.in_ok-read_one.ensures.came, c.loop-index.invariant.came);
      reads =
          Reads-append None _ _ _ (λ j. (blocks : List (List ℕ)) → HasTaken c.args.hasher.now blocks → HasTaken c.loop-index.hasher (blocks ++ data_at v j (range_with_len start i)))
          (λ j. (blocks : List (List ℕ)) → HasTaken c.loop-index.hasher blocks → HasTaken new (blocks ++ block j at ∷ [])) _ c.loop-index.invariant.reads c.in_ok-read_one.ensures.reads
          (λ j before one. λ blocks t.
          subst (HasTaken new)
          (append_assoc blocks (data_at v j (range_with_len start i)) (block j at ∷ [])
          ∙ ap (λ (x : List ℕ). blocks ++ (data_at v j (range_with_len start i) ++ x ∷ [])) (ap (block j) c.block_at.ensures)
          ∙ ap (λ (x : List (List ℕ)). blocks ++ x) (sym (map-range_with_len_more (λ d. block j (block_at v d)) start i (start + i) (omega arith))))
          (one (blocks ++ data_at v j (range_with_len start i)) (before blocks t)));
    }
