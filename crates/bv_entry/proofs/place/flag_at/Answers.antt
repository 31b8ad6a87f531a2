-- The flag begins the bytes from its place on.
use Rattle.std.proofs.Common.{◌-◌, ◌∙◌, ap, arith, ℕ}
use Rattle.spec_record.specs.Field.{field}
use Rattle.bv_entry.proofs.PartLemmas.{field-from}
use Rattle.bv_entry.proofs.place.flag_at.Goals as goal

pub returns : goal.returns
returns c =
    let start : ℕ = c.flag_offset.result in
    c.get.ensures.value ∙ field-from c.args.header.now start (8192 - start) 4 (omega arith) ∙ ap (λ (at : ℕ). field c.args.header.now at 4) c.flag_offset.ensures
