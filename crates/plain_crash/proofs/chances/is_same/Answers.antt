-- Slots and numbers are equal where the targets are compared.
use Rattle.std.proofs.Common.{◌≡◌, rules}
use Rattle.plain_crash.proofs.ChanceLemmas.{same_entry}
use Rattle.plain_crash.proofs.chances.is_same.Goals as goal

pub returns : goal.returns
returns c =
    let a = c.args.a.now in let b = c.args.b.now in
    let slots : a.slot ≡ b.slot = search rules in
    let numbers : a.entry.number ≡ b.entry.number = search rules in
    same_entry a.slot b.slot a.entry.number b.entry.number a.entry.targets b.entry.targets c.eq.result slots numbers (search rules)
