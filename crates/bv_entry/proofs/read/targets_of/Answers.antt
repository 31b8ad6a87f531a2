-- One more place, until all are read.
use Rattle.std.proofs.Common.{◌≡◌, ◌+◌, ◌∙◌, ◌++◌, ◌∷◌, ℕ, List, [], take, get_or, ap, sym, arith, refl}
use Rattle.std.proofs.lemmas.List.{take_more, length-take}
use Rattle.spec_record.specs.Entry.{targets_in, restored}
use Rattle.spec_record.specs.Places.{target_in, flag_in}
use Rattle.bv_entry.proofs.EntryLemmas.{targets_more}
use Rattle.bv_entry.proofs.read.targets_of.Goals as goal

pub loop-place-preserved : goal.loop-place-preserved
loop-place-preserved c =
    let header : List ℕ = c.args.header.now in
    let payloads : List (List ℕ) = c.args.payloads.now in
    let i : ℕ = c.loop-place.place in
    let more : targets_in header 0 (take (i + 1) payloads) ≡ targets_in header 0 (take i payloads) ++ (target_in header i, restored (flag_in header i) (get_or payloads i [])) ∷ [] =
    ap (targets_in header 0) (take_more payloads i [] (omega arith)) ∙ targets_more header 0 (take i payloads) (get_or payloads i [])
    ∙ ap (λ (p : ℕ). targets_in header 0 (take i payloads) ++ (target_in header p, restored (flag_in header p) (get_or payloads i [])) ∷ []) (omega (arith, length-take i payloads)) in
    let pair : (c.target_at-target.result, restored c.flag_at.result (get_or payloads i [])) ≡ (target_in header i, restored (flag_in header i) (get_or payloads i [])) = rw (c.target_at-target.ensures, c.flag_at.ensures) refl in
    c.in_ok-push_restored.ensures
    ∙ ap (λ (ts : List (ℕ × List ℕ)). ts ++ (c.target_at-target.result, restored c.flag_at.result (get_or payloads i [])) ∷ []) c.loop-place.invariant
    ∙ ap (λ (t : ℕ × List ℕ). targets_in header 0 (take i payloads) ++ t ∷ []) pair
    ∙ sym more
