-- Where the flag is 1 the magic is put back; else the payload is as it is stored.
use Rattle.std.proofs.Common.{◌≡◌, ◌++◌, ◌∷◌, [], ℕ, List, Bool, false, cond, eqb, drop, ap, sym, ◌∙◌, arith}
use Rattle.spec_record.specs.Field.{bytes_of}
use Rattle.spec_record.specs.Places.{entry_magic}
use Rattle.spec_record.specs.Entry.{restored}
use Rattle.bv_entry.proofs.read.push_restored.Goals as goal

-- the targets with one more
abbrev more : List (ℕ × List ℕ) → ℕ → List ℕ → List (ℕ × List ℕ)
more targets target payload = targets ++ (target, payload) ∷ []

-- a flag that isn't 1 leaves a payload
as_it_is : (flag : ℕ) (block : List ℕ) → eqb flag 1 ≡ false → restored flag block ≡ block
unfolding restored
as_it_is flag block test = ap (λ (b : Bool). cond b (bytes_of 8 entry_magic ++ drop 8 block) block) test

pub returns-in_ok-push : goal.returns-in_ok-push
returns-in_ok-push c =
    let block : List ℕ = c.args.block.now in
    let flag : restored 1 block ≡ restored c.args.flag block = ap (λ (n : ℕ). restored n block) (sym c.if-flag-eq1.true) in
    c.in_ok-push.ensures.items ∙ ap (more c.args.targets.now.items c.args.target) (c.with_magic.ensures ∙ flag)

pub returns-in_ok-push-2 : goal.returns-in_ok-push-2
returns-in_ok-push-2 c =
    let test : eqb c.args.flag 1 ≡ false = grind (arith, c.if-flag-eq1.false) in
    c.in_ok-push-2.ensures.items ∙ sym (ap (more c.args.targets.now.items c.args.target) (as_it_is c.args.flag c.args.block.now test))
