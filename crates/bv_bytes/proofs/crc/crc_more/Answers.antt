-- A turn takes the first bytes off the rest; the message before counts by its CRC-32 alone.
use Rattle.std.proofs.Common.{◌≡◌, ℕ, [], ◌∙◌, ap, drop, bit_xor, refl}
use Rattle.std.proofs.lemmas.List.{drop_all}
use Rattle.spec_record.specs.Crc.{crc_register, message_bits}
use Rattle.bv_bytes.specs.Crc.{crc_after}
use Rattle.bv_bytes.proofs.MessageLemmas.{register_split, register_next, crc_after_message}
use Rattle.bv_bytes.proofs.crc.crc_more.Goals as goal

pub loop-rest-preserved : goal.loop-rest-preserved
loop-rest-preserved c =
    rw (c.after_eight-register.ensures, c.split_at.ensures.front, c.split_at.ensures.back) (
    register_split 8 c.loop-rest.rest.now c.loop-rest.register ∙ c.loop-rest.invariant)

pub loop-byte-preserved : goal.loop-byte-preserved
loop-byte-preserved c =
    rw c.after_one-register.ensures (
    register_next c.loop-rest.rest.now c.loop-byte.byte-index c.loop-byte.register _ c.loop-byte-test.true refl ∙ c.loop-byte.invariant)

pub returns-clause-message : goal.returns-clause-message
returns-clause-message c message is =
    let none : drop c.loop-byte.byte-index c.loop-rest.rest.now ≡ [] = drop_all c.loop-byte.byte-index c.loop-rest.rest.now c.loop-byte-test.false in
    let ended : c.loop-byte.register ≡ crc_register (bit_xor c.args.crc 0xFFFFFFFF) (message_bits c.args.bytes.now) = rw none at c.loop-byte.invariant in
    ap (λ (n : ℕ). bit_xor n 0xFFFFFFFF) ended ∙ ap (λ (n : ℕ). crc_after n c.args.bytes.now) is ∙ crc_after_message message c.args.bytes.now
