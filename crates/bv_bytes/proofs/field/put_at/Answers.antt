-- The lowest bytes of the number are copied.
use Rattle.std.proofs.Common.{◌≡◌, ◌+◌, ◌-◌, take, drop, ap, ◌∙◌, sym, arith, append_assoc}
use Rattle.std.proofs.lemmas.List.{drop-drop}
use Rattle.spec_record.specs.Field.{bytes_of}
use Rattle.bv_bytes.specs.Rows.{with_field}
use Rattle.bv_bytes.proofs.RowLemmas.{take-bytes_of, eight_bytes}
use Rattle.bv_bytes.proofs.field.put_at.Goals as goal

pub returns : goal.returns
unfolding with_field
returns c =
    let part : c.copy_from_slice.new.self ≡ bytes_of c.args.width c.args.value = c.copy_from_slice.ensures.after ∙ ap (take c.args.width) (c.to_le_bytes.ensures ∙ eight_bytes c.args.value) ∙ take-bytes_of c.args.width 8 c.args.value (omega arith) in
    let k : c.args.offset + c.args.width - c.args.offset ≡ c.args.width = omega arith in
    rw (part, k, drop-drop c.args.width c.args.offset c.args.bytes.now) (sym (append_assoc (take c.args.offset c.args.bytes.now) (bytes_of c.args.width c.args.value) (drop (c.args.offset + c.args.width) c.args.bytes.now)))
