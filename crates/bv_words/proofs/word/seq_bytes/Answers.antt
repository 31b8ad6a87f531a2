use Rattle.std.proofs.Common.{◌≡◌, ℕ, ◌+◌, List, [], ◌∷◌, ◌++◌, length, map, ap, sym, ◌∙◌, arith}
use Rattle.std.specs.List.{range_with_len}
use Rattle.std.proofs.lemmas.List.FromFn.{map-range_with_len_more, length-map-range_with_len}
use Rattle.spec_script.specs.Tasks.{seq_byte}
use Rattle.bv_words.proofs.word.seq_bytes.Goals as goal

pub loop-i-preserved : goal.loop-i-preserved
loop-i-preserved c =
    let i = c.loop-i.i in let byte = seq_byte c.args.base in
    c.in_ok-push.ensures.items
    ∙ ap (λ (xs : List ℕ). xs ++ c.byte_at.result ∷ []) c.loop-i.invariant
    ∙ ap (λ (b : ℕ). map byte (range_with_len 0 i) ++ b ∷ []) c.byte_at.ensures
    ∙ sym (map-range_with_len_more byte 0 i i (omega arith))

pub returns-clause-bytes : goal.returns-clause-bytes
returns-clause-bytes c =
    let end : c.loop-i.i ≡ c.args.len = omega arith in
    c.loop-i.invariant ∙ ap (λ (n : ℕ). map (seq_byte c.args.base) (range_with_len 0 n)) end

pub returns-clause-len : goal.returns-clause-len
returns-clause-len c =
    let end : c.loop-i.i ≡ c.args.len = omega arith in
    ap length c.loop-i.invariant ∙ length-map-range_with_len (seq_byte c.args.base) 0 c.loop-i.i ∙ end
