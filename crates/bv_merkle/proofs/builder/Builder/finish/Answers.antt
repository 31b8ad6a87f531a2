use Rattle.std.proofs.Common.{◌≡◌, ℕ, List, ◌++◌, Some, map, take, length, subst, sym, ap, ◌∙◌}
use Rattle.bv_merkle.specs.Hasher.{Holds, shape_of}
use Rattle.bv_merkle.specs.TreeShape.{tree_shape}
use Rattle.bv_merkle.proofs.BuilderLemmas.{kept-whole, kept-some, all-bytes}
use Rattle.bv_merkle.proofs.builder.Builder.finish.Goals as goal
use Rattle.bv_merkle.proofs.builder.Builder.finish.Goals.{in-Some, in-None}

pub returns-clause-levels : goal.returns-clause-levels
returns-clause-levels c = λ m b.
    let pending : take c.args.self.held c.deref.result.now ≡ take c.args.self.held c.args.self.pending.items =
    ap (take c.args.self.held) c.deref.ensures.value in
    let all : take c.args.self.hasher.taken m ++ take c.args.self.held c.deref.result.now ≡ m =
    ap (λ (bs : List ℕ). take c.args.self.hasher.taken m ++ bs) pending
    ∙ all-bytes m c.args.self.pending.items c.args.self.hasher.taken c.args.self.held b.rest in
    let held : Holds c.window.new.self m = subst (Holds c.window.new.self) all (c.window.ensures.holds _ b.front) in
    let size : c.args.self.size ≡ length m = sym c.requires ∙ b.count in
    let shape : shape_of c.close-root.new.self ≡ Some (tree_shape (length m)) =
    c.close-root.ensures.shape ∙ c.window.ensures.shape ∙ b.shape ∙ ap (λ (n : ℕ). Some (tree_shape n)) size in
    elim c.match-into_kept.branch [
      | in-Some w ↦
          ap (λ v. map (λ blocks. blocks.items) v.items) w.levels-is
          ∙ w.into_levels-levels.ensures
          ∙ kept-whole c.close-root.new.self.kept w.in-Some.kept m (sym w.in-Some.ensures) shape
          (λ k low. c.close-root.ensures.kept m k held low)
      | in-None w ↦ absurd (kept-some c.close-root.new.self.kept _ w.in-None.ensures shape)
    ]
