-- Joining the calls of a loop over a stream.
use Rattle.std.proofs.Common.{◌≡◌, ℕ, ◌+◌, ◌≤◌, min, List, [], ◌++◌, length, take, drop, Option, Some, arith, refl, ap, sym, ◌∙◌, subst, append_assoc, append-nil, length-append, length-take, drop-drop}
use Rattle.std.proofs.lemmas.Grind.{common_steps}
use Rattle.std.proofs.lemmas.List.{take-append-drop, take-append-le, take-take}
use Rattle.std.proofs.Math.Seq.{take-append-add}
use Rattle.std.proofs.KnownBytes.{Appends-nil, Appends-trans, Appends-kept, Consumes-trans}
use Rattle.std.specs.Io.KnownBytes.{Appends, Consumes, Keeps}
use Rattle.bv_io.specs.Streams.{GivesPrefix, Takes}

-- all of these bytes but the rest were appended
pub record GivesFront (old new : Option (List ℕ)) (bytes rest : List ℕ) : Type 0 where
  pub front : List ℕ
  pub split : bytes ≡ front ++ rest
  pub appended : Appends old new front

pub GivesFront-none : (a : Option (List ℕ)) (bytes : List ℕ) → GivesFront a a bytes bytes
GivesFront-none a bytes = record { front = []; split = refl; appended = Appends-nil a }

pub GivesFront-more : (a b c : Option (List ℕ)) (bytes rest tail : List ℕ) (n : ℕ) → GivesFront a b bytes rest
    → Appends b c (take n rest) → tail ≡ drop n rest → GivesFront a c bytes tail
GivesFront-more a b c bytes rest tail n p q e =
    let joined : take n rest ++ tail ≡ rest = ap (λ l. take n rest ++ l) e ∙ take-append-drop n rest in
    record {
      front = p.front ++ take n rest;
      split = p.split ∙ ap (λ l. p.front ++ l) (sym joined) ∙ sym (append_assoc p.front (take n rest) tail);
      appended = Appends-trans a b c p.front (take n rest) p.appended q;
    }

pub GivesFront-all : (a b : Option (List ℕ)) (bytes rest : List ℕ) → GivesFront a b bytes rest → rest ≡ [] → Appends a b bytes
GivesFront-all a b bytes rest p e =
    let whole : p.front ≡ bytes = sym (append-nil p.front) ∙ ap (λ l. p.front ++ l) (sym e) ∙ sym p.split in
    subst (Appends a b) whole p.appended

pub GivesFront-failed : (a b c : Option (List ℕ)) (bytes rest : List ℕ) → GivesFront a b bytes rest → Keeps b c → GivesPrefix a c bytes
GivesFront-failed a b c bytes rest p k = record {
  front = p.front;
  rest = rest;
  split = p.split;
  appended = Appends-kept a b c p.front p.appended k;
}

-- what a source in memory does in one call
pub Takes-held : (bytes buffer : List ℕ) (taken n : ℕ) → n ≡ min (length (drop taken bytes)) (length buffer)
    → Takes (Some (drop taken bytes)) (Some (drop (taken + n) bytes)) (take n (drop taken bytes) ++ drop n buffer) n
Takes-held bytes buffer taken n e =
    let left : List ℕ = drop taken bytes in
    let fits : n ≤ length (take n left) = simp length-take (omega arith) in
    let front : take n (take n left ++ drop n buffer) ≡ take n left =
    take-append-le n (take n left) (drop n buffer) fits ∙ take-take n n left (omega arith) in
    record {
      within = simp length-append (omega arith);
      moved = sym (ap (λ l. l ++ drop (taken + n) bytes) front
          ∙ ap (λ l. take n left ++ l) (sym (drop-drop n taken bytes)) ∙ take-append-drop n left);
      ended = λ z h. grind (arith, common_steps);
    }

-- a buffer that is filled up to n, and then by k more of the bytes that came
abbrev pub filled_on : List ℕ → ℕ → List ℕ → List ℕ → List ℕ
filled_on buffer n came rest = take n buffer ++ (came ++ rest)

pub length-filled_on : (buffer came rest : List ℕ) (n k : ℕ) → n ≤ length buffer → k ≤ length came
    → n + k ≤ length (filled_on buffer n came rest)
length-filled_on buffer came rest n k within fits = simp (length-append, length-take) (omega arith)

pub take-filled_on : (buffer came rest : List ℕ) (n k : ℕ) → n ≤ length buffer → k ≤ length came
    → take (n + k) (filled_on buffer n came rest) ≡ take n buffer ++ take k came
take-filled_on buffer came rest n k within fits =
    let exact : length (take n buffer) ≡ n = simp length-take (omega arith) in
    ap (λ m. take (m + k) (take n buffer ++ (came ++ rest))) (sym exact)
    ∙ take-append-add (take n buffer) (came ++ rest) k
    ∙ ap (λ l. take n buffer ++ l) (take-append-le k came rest fits)

pub Consumes-filled_on : (a b c : Option (List ℕ)) (buffer came rest : List ℕ) (n k : ℕ) → n ≤ length buffer
    → k ≤ length came → Consumes a b (take n buffer) → Consumes b c (take k came)
    → Consumes a c (take (n + k) (filled_on buffer n came rest))
Consumes-filled_on a b c buffer came rest n k within fits p q =
    subst (Consumes a c) (sym (take-filled_on buffer came rest n k within fits)) (Consumes-trans a b c _ _ p q)
