-- The superblock gives the journal.
use Rattle.std.proofs.Common.{map, ap, sym, ◌∙◌}
use Rattle.std.proofs.lemmas.Result.{IfOk-weaker}
use Rattle.plain_crash.specs.Placed.{placed_entry}
use Rattle.plain_crash.proofs.ChanceLemmas.{accepts_none, accepts_read}
use Rattle.plain_crash.proofs.chances.accepted_in.Goals as goal

pub returns-in_default : goal.returns-in_default
returns-in_default c =
    accepts_none c.args.image.now (map placed_entry c.new.result.items) (sym c.super_of_image.ensures.value ∙ c.in_default.is) (ap (map placed_entry) c.new.ensures.items)

pub returns : goal.returns
returns c =
    IfOk-weaker c.entries_in.result _ _
    (λ placed same. accepts_read c.args.image.now c.in-Some.superblock (map placed_entry placed.items) (sym c.super_of_image.ensures.value ∙ c.in-Some.is) same)
    c.entries_in.ensures
