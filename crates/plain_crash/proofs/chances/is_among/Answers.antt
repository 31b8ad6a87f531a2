use Rattle.std.proofs.Common.{◌≢◌, ℕ, List, All, map, refl, subst, arith}
use Rattle.std.proofs.lemmas.List.{take_all}
use Rattle.std.proofs.lemmas.List.Elements.{All-contains, All-map}
use Rattle.spec_disk.proofs.ProgramLemmas.{told_false}
use Rattle.spec_record.specs.Entry.{Entry}
use Rattle.plain_crash.specs.declared.chances.Placed.{Placed}
use Rattle.plain_crash.specs.Placed.{placed_entry}
use Rattle.plain_crash.proofs.chances.is_among.Goals as goal

pub returns : goal.returns
returns c =
    let xs : List Placed = c.args.placed.now in
    let x : ℕ × Entry = placed_entry c.args.wanted.now in
    let none = subst (All (λ (p : Placed). placed_entry p ≢ x)) (take_all c.loop-other.other-index xs (omega (arith, c.loop-other-test.false))) c.loop-other.invariant in
    told_false _ (λ has. All-contains (λ (q : ℕ × Entry). q ≢ x) (map placed_entry xs) x (All-map (λ (q : ℕ × Entry). q ≢ x) placed_entry xs none) has refl)
