-- The first of the words, and the others.
use Rattle.std.proofs.Common.{◌≡◌, ◌≤◌, ℕ, ◌-◌, List, [], ◌∷◌, length, map, take, drop, get_or, ap, sym, ◌∙◌, arith}
use Rattle.std.proofs.lemmas.List.{take_all}
use Rattle.bv_run.specs.declared.work.Work.{Work}
use Rattle.bv_run.specs.Work.{Writes}
use Rattle.bv_main.specs.Access.{access_of}
use Rattle.bv_main.specs.declared.access.Access.{Access}
use Rattle.bv_main.specs.declared.device_word.DeviceWord.{DeviceWord}
use Rattle.bv_main.specs.Devices.{Names}
use Rattle.bv_main.specs.Program.{IsRun}

-- words by their first one and the others
map-first : {A : Type 0} (text_of : A → List ℕ) (words : List A) (word : A) → 1 ≤ length words → word ≡ get_or words 0 word
    → map text_of words ≡ text_of word ∷ map text_of (take (length words - 1) (drop 1 words))
map-first text_of [] word some is = absurd (omega (arith, some))
map-first text_of (x ∷ rest) word some is =
    let others : take (length (x ∷ rest) - 1) rest ≡ rest = take_all (length (x ∷ rest) - 1) rest (omega arith) in
    ap (λ (w : _). text_of w ∷ map text_of rest) (sym is) ∙ ap (λ (ws : List _). text_of word ∷ map text_of ws) (sym others)

-- words of which the first names a device, and the others write a command
pub is_run : {A : Type 0} (text_of : A → List ℕ) (words : List A) (word : A) (text : List ℕ) (device : DeviceWord) (access : Access) (work : Work) → 1 ≤ length words → word ≡ get_or words 0 word
    → text ≡ text_of word → Names text device → Writes (map text_of (take (length words - 1) (drop 1 words))) work
    → access ≡ access_of work → IsRun (map text_of words) device access (map text_of (take (length words - 1) (drop 1 words)))
is_run text_of words word text device access work some is same named form may = record {
  word = text;
  is = map-first text_of words word some is ∙ ap (λ (t : List ℕ). t ∷ map text_of (take (length words - 1) (drop 1 words))) (sym same);
  named = named;
  form = (work, form, may);
}
