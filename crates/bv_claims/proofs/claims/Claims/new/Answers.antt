use Rattle.std.proofs.Common.{◌∙◌}
use Rattle.std.proofs.lemmas.List.{length-replicate}
use Rattle.bv_claims.proofs.Opening.{opens}
use Rattle.bv_claims.proofs.claims.Claims.new.Goals as goal

pub of_words-requires : goal.of_words-requires
of_words-requires c = opens c.args.blocks c.deref.result.now c.requires.0 (c.deref.ensures.value ∙ c.in_ok-words.ensures) (length-replicate _ 0)
