-- Each table passes its test, so the byte's word is right.
use Rattle.std.proofs.Common.{◌≡◌, ℕ, ◌+◌, ◌*◌, ◌∙◌, refl, ap, arith}
use Rattle.spec_record.specs.Crc.{crc_step}
use Rattle.bv_bytes.specs.Crc.{shifts}
use Rattle.bv_bytes.specs.declared.crc.TheConstants.{FAR}
use Rattle.bv_bytes.proofs.TableLemmas.{word_at}
use Rattle.bv_bytes.proofs.crc.far.Goals as goal

pub returns : goal.returns
unfolding shifts crc_step
returns c =
    let steps : 40 + 8 * c.args.k ≡ 8 * (c.args.k + 5) = omega arith in
    word_at 40 FAR c.args.k c.args.byte refl c.requires (omega arith) ∙ ap (λ (n : ℕ). shifts n c.args.byte) steps
