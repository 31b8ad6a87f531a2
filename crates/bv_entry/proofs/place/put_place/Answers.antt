-- Target and flag are written at their places.
use Rattle.std.proofs.Common.{◌≡◌, ◌+◌, ◌-◌, ◌*◌, ◌∙◌, ap, arith, ℕ, List, length, rules}
use borrow.Rule.Slice.PartMut.{put_mid}
use Rattle.bv_bytes.specs.Rows.{with_field}
use Rattle.bv_entry.proofs.PartLemmas.{put_from, length-with_field}
use Rattle.bv_entry.proofs.place.put_place.Goals as goal

pub returns-clause-header : goal.returns-clause-header
returns-clause-header c =
    let start : ℕ = c.target_offset.result in
    let flag_start : ℕ = c.flag_offset.result in
    let len : length c.args.header.now ≡ 8192 = search rules in
    let put : List ℕ = put_mid start (8192 - start) c.args.header.now c.put.new.bytes in
    let first : put ≡ with_field c.args.header.now (40 + 8 * c.args.place) 8 c.args.target =
    put_from c.args.header.now c.put.new.bytes start (40 + 8 * c.args.place) (8192 - start) 8 c.args.target c.target_offset.ensures (omega arith) c.put.ensures.bytes in
    let put_len : length put ≡ 8192 = ap length first ∙ length-with_field c.args.header.now (40 + 8 * c.args.place) 8 c.args.target (omega arith) ∙ len in
    put_from put c.put-2.new.bytes flag_start (5472 + 4 * c.args.place) (8192 - flag_start) 4 c.args.flag c.flag_offset.ensures (omega arith) c.put-2.ensures.bytes
    ∙ ap (λ (bytes : List ℕ). with_field bytes (5472 + 4 * c.args.place) 4 c.args.flag) first
