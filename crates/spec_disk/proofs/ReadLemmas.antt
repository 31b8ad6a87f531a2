-- A read may be wrong only where the block's last write failed and no Ok sync came after.
use Rattle.std.proofs.Common.{◌≡◌, ◌⊎◌, ℕ, List, [], ◌∷◌, ◌++◌, Bool, true, false, cond, eqb, eq-eqb, refl, ap, sym, ◌∙◌, inl, inr}
use Rattle.std.proofs.lemmas.Bool.{false≢true}
use Rattle.std.proofs.lemmas.Bool.Decides.{eqb_tells}
use Rattle.spec_disk.specs.declared.event.Event.{Event}
use Rattle.spec_disk.specs.declared.event.Event.TheVariants.{Write, Sync}
use Rattle.spec_disk.specs.Disk.{has_sync, reads_right_from, reads_right}
use Rattle.spec_disk.specs.Images.{written_to}
use Rattle.spec_disk.specs.Laws.{FailedLast}
use Rattle.spec_disk.proofs.ImageLemmas.{written_to-other}

pub reads_right_from-append : (right : Bool) (b : ℕ) (p q : List Event) → reads_right_from right b (p ++ q) ≡ reads_right_from (reads_right_from right b p) b q
reads_right_from-append right b [] q = refl
reads_right_from-append right b (Write at bytes ok ∷ p) q = reads_right_from-append (cond (eqb at b) ok right) b p q
reads_right_from-append right b (Sync true ∷ p) q = reads_right_from-append true b p q
reads_right_from-append right b (Sync false ∷ p) q = reads_right_from-append right b p q

FailedLast-cons : (e : Event) (p : List Event) (b : ℕ) → FailedLast p b → FailedLast (e ∷ p) b
FailedLast-cons e p b last = record {
  before = e ∷ last.before;
  bytes = last.bytes;
  after = last.after;
  is = ap (λ (q : List Event). e ∷ q) last.is;
  no_sync = last.no_sync;
  no_write = last.no_write;
}

-- nothing among these events tells of the block
abbrev Silent : List Event → ℕ → Type 0
Silent p b = (has_sync p ≡ false) × (written_to b p ≡ [])

told_wrong : (right : Bool) (b : ℕ) (p : List Event) → reads_right_from right b p ≡ false → FailedLast p b ⊎ ((right ≡ false) × Silent p b)
told_wrong right b [] wrong = inr (wrong, (refl, refl))
told_wrong right b (Write at bytes ok ∷ p) wrong = elim (told_wrong (cond (eqb at b) ok right) b p wrong) [
  | inl later ↦ inl (FailedLast-cons (Write at bytes ok) p b later)
  | inr (before, (no_sync, no_write)) ↦ elim (eqb_tells at b) [
    | inl (same, at_is) ↦ inl (record {
      before = [];
      bytes = bytes;
      after = p;
      is = ap (λ (k : ℕ). Write k bytes ok ∷ p) at_is ∙ ap (λ (t : Bool). Write b bytes t ∷ p) (sym (ap (λ (t : Bool). cond t ok right) same) ∙ before);
      no_sync = no_sync;
      no_write = no_write;
    })
    | inr (other, ne) ↦ inr (sym (ap (λ (t : Bool). cond t ok right) other) ∙ before, (no_sync, ap (λ (t : Bool). cond t (bytes ∷ written_to b p) (written_to b p)) other ∙ no_write))
  ]
]
told_wrong right b (Sync true ∷ p) wrong = elim (told_wrong true b p wrong) [
  | inl later ↦ inl (FailedLast-cons (Sync true) p b later)
  | inr (never, silent) ↦ absurd (false≢true (sym never))
]
told_wrong right b (Sync false ∷ p) wrong = elim (told_wrong right b p wrong) [
  | inl later ↦ inl (FailedLast-cons (Sync false) p b later)
  | inr silent ↦ inr silent
]

reads_right_from-silent : (right : Bool) (b : ℕ) (p : List Event) → Silent p b → reads_right_from right b p ≡ right
reads_right_from-silent right b [] silent = refl
reads_right_from-silent right b (Write at bytes ok ∷ p) (no_sync, no_write) =
    let other = written_to-other at bytes ok p b no_write in
    ap (λ (t : Bool). reads_right_from (cond t ok right) b p) (other.0) ∙ reads_right_from-silent right b p (no_sync, other.1)
reads_right_from-silent right b (Sync true ∷ p) (no_sync, no_write) = absurd (false≢true (sym no_sync))
reads_right_from-silent right b (Sync false ∷ p) silent = reads_right_from-silent right b p silent

pub reads_right-only : (p : List Event) (b : ℕ) → reads_right p b ≡ false → FailedLast p b
reads_right-only p b wrong = elim (told_wrong true b p wrong) [ inl last ↦ last | inr (never, silent) ↦ absurd (false≢true (sym never)) ]

pub reads_right-failed : (p : List Event) (b : ℕ) → FailedLast p b → reads_right p b ≡ false
reads_right-failed p b last =
    let earlier : Bool = reads_right_from true b last.before in
    ap (λ (q : List Event). reads_right_from true b q) last.is
    ∙ reads_right_from-append true b last.before (Write b last.bytes false ∷ last.after)
    ∙ ap (λ (t : Bool). reads_right_from (cond t false earlier) b last.after) (eq-eqb b b refl)
    ∙ reads_right_from-silent false b last.after (last.no_sync, last.no_write)
