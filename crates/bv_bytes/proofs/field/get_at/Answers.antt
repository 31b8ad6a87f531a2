-- The bytes are read as eight, with zeros above.
use Rattle.std.proofs.Common.{◌≡◌, ℕ, ◌++◌, length, take, drop, ap, ◌∙◌, sym, arith}
use Rattle.std.proofs.lemmas.List.{length-take, length-drop}
use Rattle.std.specs.Int.{w64, from_le_bytes}
use Rattle.spec_record.specs.Field.{field, number_of}
use Rattle.spec_record.proofs.FieldLemmas.{field_below}
use Rattle.bv_bytes.proofs.RowLemmas.{eight_read, eight_zeros}
use Rattle.bv_bytes.proofs.field.get_at.Goals as goal

pub returns-clause-value : goal.returns-clause-value
unfolding field number_of
returns-clause-value c =
    let part : c.copy_from_slice.new.self ≡ take c.args.width (drop c.args.offset c.args.bytes.now) = c.copy_from_slice.ensures.after ∙ ap (λ (n : ℕ). take n (drop c.args.offset c.args.bytes.now)) (omega arith) in
    let len : length c.copy_from_slice.new.self ≡ c.args.width = ap length part ∙ omega (arith, length-take c.args.width (drop c.args.offset c.args.bytes.now), length-drop c.args.offset c.args.bytes.now) in
    let read : c.from_le_bytes.result ≡ from_le_bytes w64 (c.copy_from_slice.new.self ++ drop c.args.width eight_zeros) = c.from_le_bytes.ensures in
    read ∙ ap (λ (n : ℕ). from_le_bytes w64 (c.copy_from_slice.new.self ++ drop n eight_zeros)) (sym len) ∙ eight_read c.copy_from_slice.new.self (omega arith) ∙ ap number_of part

pub returns-clause-below : goal.returns-clause-below
returns-clause-below c =
    rw (returns-clause-value c) (field_below c.args.bytes.now c.args.offset c.args.width (λ i. omega (arith, c.type_inv.bytes i)) c.requires.covered)
