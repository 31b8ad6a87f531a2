use Rattle.std.proofs.Common.{ℕ, List, All, map, sym, subst, arith}
use Rattle.std.proofs.lemmas.List.{take_all}
use Rattle.std.proofs.lemmas.List.Elements.{All-contains, All-map, All-more}
use Rattle.spec_disk.proofs.ProgramLemmas.{told_true, told_false, holds_at, fails_at}
use Rattle.spec_record.specs.Entry.{Entry}
use Rattle.plain_crash.specs.declared.chances.Placed.{Placed}
use Rattle.plain_crash.specs.Placed.{placed_entry, IsKnown}
use Rattle.plain_crash.proofs.ChanceLemmas.{Contains-read}
use Rattle.plain_crash.proofs.chances.are_known.Goals as goal

pub returns-then-not-is_known : goal.returns-then-not-is_known
returns-then-not-is_known c =
    let a = c.args in
    let known : ℕ × Entry → Type 0 = IsKnown (map placed_entry a.synced.now) a.geometry.now a.image.now a.last.now in
    let xs : List Placed = a.accepted.now in
    told_false _ (λ all. fails_at c.is_known.result _ c.is_known.ensures c.if-not-is_known.true
    (subst (λ (p : Placed). known (placed_entry p)) (sym c.placed-item.is)
    (All-contains known (map placed_entry xs) _ all (Contains-read placed_entry xs c.loop-placed.placed-index c.placed-item.result c.loop-placed-test.true))))

pub loop-placed-preserved : goal.loop-placed-preserved
loop-placed-preserved c =
    let a = c.args in
    let known : Placed → Type 0 = λ p. IsKnown (map placed_entry a.synced.now) a.geometry.now a.image.now a.last.now (placed_entry p) in
    All-more known a.accepted.now c.loop-placed.placed-index c.placed-item.result c.loop-placed-test.true c.loop-placed.invariant
    (subst known c.placed-item.is (holds_at c.is_known.result _ c.is_known.ensures c.if-not-is_known.false))

pub returns : goal.returns
returns c =
    let a = c.args in
    let known : ℕ × Entry → Type 0 = IsKnown (map placed_entry a.synced.now) a.geometry.now a.image.now a.last.now in
    let xs : List Placed = a.accepted.now in
    told_true _ (All-map known placed_entry xs
    (subst (All (λ (p : Placed). known (placed_entry p))) (take_all c.loop-placed.placed-index xs (omega (arith, c.loop-placed-test.false))) c.loop-placed.invariant))
