-- The magic is written over with zeros where it stands.
use Rattle.std.proofs.Common.{◌≡◌, ◌++◌, true, false, cond, drop, ap, sym, ◌∙◌, Bool}
use Rattle.spec_record.specs.Field.{bytes_of}
use Rattle.spec_record.specs.Places.{begins_with_magic}
use Rattle.spec_record.specs.EntryBlocks.{stored}
use Rattle.bv_bytes.specs.Rows.{with_field}
use Rattle.bv_entry.proofs.payload.stored_of.Goals as goal

pub returns-then-has_magic : goal.returns-then-has_magic
unfolding stored with_field
returns-then-has_magic c =
    let test : begins_with_magic c.args.payload.now ≡ true = sym c.has_magic.ensures ∙ c.if-has_magic.true in
    c.put.ensures.bytes ∙ sym (ap (λ (b : Bool). cond b (bytes_of 8 0 ++ drop 8 c.args.payload.now) c.args.payload.now) test)

pub returns-else-has_magic : goal.returns-else-has_magic
unfolding stored
returns-else-has_magic c =
    let test : begins_with_magic c.args.payload.now ≡ false = sym c.has_magic.ensures ∙ c.if-has_magic.false in
    sym (ap (λ (b : Bool). cond b (bytes_of 8 0 ++ drop 8 c.args.payload.now) c.args.payload.now) test)
