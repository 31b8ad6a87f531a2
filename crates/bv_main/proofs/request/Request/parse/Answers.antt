use Rattle.std.proofs.Common.{sym, ◌∙◌, rules}
use Rattle.std.specs.Prelude.{codes}
use Rattle.std.proofs.lemmas.Slice.Eq.{bytes_eq-Decides}
use Rattle.bv_serve.proofs.WordsLemmas.{map-one}
use Rattle.bv_main.proofs.RequestLemmas.{is_run}
use Rattle.bv_main.proofs.request.Request.parse.Goals as goal

pub returns-in-len1-clause-some : goal.returns-in-len1-clause-some
returns-in-len1-clause-some c =
    map-one _ c.args.words.now c.word-item.result _ c.in-len1.len_at_least c.in-len1.len_below c.word-item.is
    (sym c.as_str.ensures.value ∙ (bytes_eq-Decides _ (codes "--help")).0 (sym c.if-eq.ensures))

pub returns-in-len1-2-clause-some : goal.returns-in-len1-2-clause-some
returns-in-len1-2-clause-some c =
    map-one _ c.args.words.now c.word-item-then-words-lt2.result _ c.in-len1.len_at_least c.in-len1.len_below c.word-item-then-words-lt2.is
    (sym c.as_str-then-words-lt2.ensures.value ∙ (bytes_eq-Decides _ (codes "--version")).0 (sym c.if-eq-2.ensures))

pub returns-in-len1-3-clause-some : goal.returns-in-len1-3-clause-some
returns-in-len1-3-clause-some c =
    map-one _ c.args.words.now c.word-item-then-words-lt2-2.result _ c.in-len1.len_at_least c.in-len1.len_below c.word-item-then-words-lt2-2.is
    (sym c.as_str-then-words-lt2-2.ensures.value ∙ (bytes_eq-Decides _ (codes "root")).0 (sym c.if-eq-3.ensures))

pub returns-in_ok-parse-in-len1-up-clause-some : goal.returns-in_ok-parse-in-len1-up-clause-some
returns-in_ok-parse-in-len1-up-clause-some c =
    is_run _ c.args.words.now c.word-item-2.result _ c.in_ok-device-in-len1-up.device _ c.in_ok-parse-in-len1-up.field-0 (search rules) c.word-item-2.is
    c.deref.ensures c.in_ok-device-in-len1-up.ensures.some c.in_ok-parse-in-len1-up.ensures.some c.of-access.ensures
