-- The synced part is the longest prefix that ends with an Ok sync or is empty.
use Rattle.std.proofs.Common.{◌≡◌, ◌≤◌, ℕ, ◌+◌, List, [], ◌∷◌, ◌++◌, length, take, Bool, true, false, cond, refl, ap, sym, ◌∙◌, inl, inr, arith, append_assoc}
use Rattle.std.proofs.lemmas.List.{length-append}
use Rattle.std.proofs.lemmas.Bool.{false≢true}
use Rattle.std.proofs.Math.Seq.{take-append_seam}
use Rattle.spec_disk.specs.declared.event.Event.{Event}
use Rattle.spec_disk.specs.declared.event.Event.TheVariants.{Write, Sync}
use Rattle.spec_disk.specs.Disk.{has_sync, synced_part, unsynced_part}
use Rattle.spec_disk.specs.Laws.{EndsSynced, IsSyncedPart}
use Rattle.spec_disk.proofs.EventLemmas.{synced-append-unsynced}

-- a list ends with an Ok sync
abbrev pub LastIsSync : List Event → Type 0
LastIsSync q = (r : List Event) × (q ≡ r ++ Sync true ∷ [])

LastIsSync-cons : (e : Event) (q : List Event) → LastIsSync q → LastIsSync (e ∷ q)
LastIsSync-cons e q (r, is) = (e ∷ r, ap (λ (x : List Event). e ∷ x) is)

pub synced_part-none : (p : List Event) → has_sync p ≡ false → synced_part p ≡ []
synced_part-none [] none = refl
synced_part-none (e ∷ p) none = ap (λ (t : Bool). cond t (e ∷ synced_part p) []) none

synced_part-some : (e : Event) (p : List Event) → has_sync (e ∷ p) ≡ true → synced_part (e ∷ p) ≡ e ∷ synced_part p
synced_part-some e p some = ap (λ (t : Bool). cond t (e ∷ synced_part p) []) some

-- the last Ok sync is the first, or a later one
ends_from_sync : (p : List Event) (t : Bool) → has_sync p ≡ t → (has_sync p ≡ true → LastIsSync (synced_part p)) → LastIsSync (Sync true ∷ synced_part p)
ends_from_sync p true some rest = LastIsSync-cons (Sync true) (synced_part p) (rest some)
ends_from_sync p false none rest = ([], ap (λ (x : List Event). Sync true ∷ x) (synced_part-none p none))

synced_part-ends : (p : List Event) → has_sync p ≡ true → LastIsSync (synced_part p)
synced_part-ends [] some = absurd (false≢true some)
synced_part-ends (Write at bytes ok ∷ p) some = rw (synced_part-some (Write at bytes ok) p some) (LastIsSync-cons (Write at bytes ok) (synced_part p) (synced_part-ends p some))
synced_part-ends (Sync true ∷ p) some = ends_from_sync p (has_sync p) refl (λ more. synced_part-ends p more)
synced_part-ends (Sync false ∷ p) some = rw (synced_part-some (Sync false) p some) (LastIsSync-cons (Sync false) (synced_part p) (synced_part-ends p some))

pub EndsSynced-synced_part : (p : List Event) → EndsSynced (synced_part p)
EndsSynced-synced_part p = by_cases (has_sync p) refl
  where
    by_cases : (t : Bool) → has_sync p ≡ t → EndsSynced (synced_part p)
    by_cases true some = inr (synced_part-ends p some)
    by_cases false none = inl (synced_part-none p none)

has_sync-inside : (a r : List Event) → has_sync (a ++ Sync true ∷ r) ≡ true
has_sync-inside [] r = refl
has_sync-inside (Write at bytes ok ∷ a) r = has_sync-inside a r
has_sync-inside (Sync true ∷ a) r = refl
has_sync-inside (Sync false ∷ a) r = has_sync-inside a r

-- the synced part reaches past each Ok sync
synced_part-reaches : (a r : List Event) → length a + 1 ≤ length (synced_part (a ++ Sync true ∷ r))
synced_part-reaches [] r = omega arith
synced_part-reaches (e ∷ a) r =
    let longer : length (synced_part (e ∷ (a ++ Sync true ∷ r))) ≡ length (e ∷ synced_part (a ++ Sync true ∷ r)) = ap (λ (q : List Event). length q) (synced_part-some e (a ++ Sync true ∷ r) (has_sync-inside (e ∷ a) r)) in
    omega (arith, longer, synced_part-reaches a r)

pub synced_part-longest : (p a r : List Event) → p ≡ a ++ r → EndsSynced a → length a ≤ length (synced_part p)
synced_part-longest p a r parts (inl empty) = omega (arith, ap (λ (q : List Event). length q) empty)
synced_part-longest p a r parts (inr (front, is)) =
    let whole : p ≡ front ++ Sync true ∷ r = parts ∙ ap (λ (q : List Event). q ++ r) is ∙ append_assoc front (Sync true ∷ []) r in
    let size : length a ≡ length front + 1 = omega (arith, ap (λ (q : List Event). length q) is, length-append front (Sync true ∷ [])) in
    omega (arith, size, synced_part-reaches front r, ap (λ (q : List Event). length (synced_part q)) whole)

pub IsSyncedPart-synced_part : (p : List Event) → IsSyncedPart p (synced_part p)
IsSyncedPart-synced_part p = record {
  prefix = (unsynced_part p, sym (synced-append-unsynced p));
  ends = EndsSynced-synced_part p;
  longest = synced_part-longest p;
}

prefix_is_take : (p q r : List Event) → p ≡ q ++ r → take (length q) p ≡ q
prefix_is_take p q r parts = ap (λ (x : List Event). take (length q) x) parts ∙ take-append_seam q r

pub IsSyncedPart-only : (p q : List Event) → IsSyncedPart p q → q ≡ synced_part p
IsSyncedPart-only p q part =
    let up : length q ≤ length (synced_part p) = synced_part-longest p q (part.prefix.0) (part.prefix.1) part.ends in
    let down : length (synced_part p) ≤ length q = part.longest (synced_part p) (unsynced_part p) (sym (synced-append-unsynced p)) (EndsSynced-synced_part p) in
    let size : length q ≡ length (synced_part p) = omega (arith, up, down) in
    sym (prefix_is_take p q (part.prefix.0) (part.prefix.1)) ∙ ap (λ (n : ℕ). take n p) size ∙ prefix_is_take p (synced_part p) (unsynced_part p) (sym (synced-append-unsynced p))

-- the synced part is that many events from the front
pub take-synced_len : (p : List Event) (n : ℕ) → n ≡ length (synced_part p) → take n p ≡ synced_part p
take-synced_len p n is = ap (λ (k : ℕ). take k p) is ∙ prefix_is_take p (synced_part p) (unsynced_part p) (sym (synced-append-unsynced p))
