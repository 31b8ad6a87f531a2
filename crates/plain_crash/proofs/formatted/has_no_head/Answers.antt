use Rattle.std.proofs.Common.{◌≡◌, length, replicate, rules}
use Rattle.spec_crash.proofs.FormatLemmas.{head-refused}
use Rattle.spec_crash.specs.Format.{head}
use Rattle.plain_crash.proofs.formatted.has_no_head.Goals as goal

-- a head of zeros is refused by its magic
pub returns : goal.returns
returns c =
    let j = c.args.image.now in (
      λ yes.
          let zeros : head j ≡ replicate 512 0 = search rules in
          record { zeros = zeros; refused = head-refused j (length j) zeros },
      λ none. let zeros : head j ≡ replicate 512 0 = none.zeros in search rules,
    )
