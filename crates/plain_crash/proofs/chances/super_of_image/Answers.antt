use Rattle.std.proofs.Common.{◌≡◌, length, sym, ◌∙◌, rules}
use Rattle.plain_crash.proofs.ChanceLemmas.{no_block}
use Rattle.plain_crash.proofs.chances.super_of_image.Goals as goal

pub returns-in_err-first-clause-value : goal.returns-in_err-first-clause-value
returns-in_err-first-clause-value c =
    let none : length c.args.image.now ≡ 0 = search rules in
    c.from_residual.ensures ∙ sym (no_block c.args.image.now none)
