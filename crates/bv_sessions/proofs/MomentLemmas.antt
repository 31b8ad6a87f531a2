-- What the disk had as each event of the sessions ended, also behind the unmount.
use Rattle.std.proofs.Common.{◌≡◌, ℕ, ◌≤◌, List, [], ◌∷◌, ◌++◌, length, take, Option, None, Some, sym, subst}
use Rattle.std.specs.Prelude.{IfSome}
use Rattle.std.proofs.lemmas.List.{take-append-le}
use Rattle.spec_disk.specs.declared.event.Event.{Event}
use Rattle.spec_tree.specs.declared.Digest.{Digest}
use Rattle.spec_tree.specs.declared.blob.Blob.{Blob}
use Rattle.spec_core.specs.History.{History, last_state}
use Rattle.spec_core.specs.State.{find}
use Rattle.spec_core.specs.declared.event.CoreEvent.{CoreEvent}
use Rattle.spec_seen.specs.Held.{up_to}
use Rattle.bv_device.specs.Told.{Disk, disk_with, now_of}
use Rattle.bv_shared.specs.Moments.{HasItsBlob, IsSure, Moment}
use Rattle.bv_shared.specs.Since.{EndBy}
use Rattle.bv_store.specs.Stored.{Grows}

-- ---- an event that isn't the last one

nothing : (before : List CoreEvent) (e : CoreEvent) (rest : List CoreEvent) → [] ≡ before ++ e ∷ rest → ⊥
nothing [] e rest is = cc
nothing (b ∷ before) e rest is = cc

pub front_split : (xs : List CoreEvent) (last : CoreEvent) (before : List CoreEvent) (e : CoreEvent) (rest : List CoreEvent) → xs ++ last ∷ [] ≡ before ++ e ∷ rest → ¬ (e ≡ last) → (front : List CoreEvent) × (xs ≡ before ++ e ∷ front)
front_split [] last [] e rest is other = let same : e ≡ last = cc in absurd (other same)
front_split [] last (b ∷ before) e rest is other = let none : [] ≡ before ++ e ∷ rest = cc in absurd (nothing before e rest none)
front_split (x ∷ xs) last [] e rest is other = (xs, cc)
front_split (x ∷ xs) last (b ∷ before) e rest is other =
    let tail : xs ++ last ∷ [] ≡ before ++ e ∷ rest = cc in
    let same : x ≡ b = cc in
    let r = front_split xs last before e rest tail other in
    (r.0, (λ i. same i ∷ r.1 i))

-- ---- what was told by then

ends_at : (calls : ℕ) (before : List CoreEvent) (e : CoreEvent) (rest : List CoreEvent) → EndBy calls (before ++ e ∷ rest) → e.calls ≤ calls
ends_at calls [] e rest k = k.0
ends_at calls (x ∷ before) e rest k = ends_at calls before e rest k.1

pub ends_within : (o : Option Disk) (es before : List CoreEvent) (e : CoreEvent) (rest : List CoreEvent) → es ≡ before ++ e ∷ rest → IfSome o (λ d. EndBy (length d.trace) es) → IfSome o (λ d. e.calls ≤ length d.trace)
ends_within None es before e rest is within = tt
ends_within (Some d) es before e rest is within = ends_at (length d.trace) before e rest (subst (λ (l : List CoreEvent). EndBy (length d.trace) l) is within)

-- a moment stays what it was, while more is told
pub later_moment : (began o new : Option Disk) (P : Disk → List Event → Type 0) (h : History) (next : ℕ) (events : List CoreEvent) (calls : ℕ) → Grows o new P → IfSome o (λ d. calls ≤ length d.trace)
    → Moment began o h next events calls → Moment began new h next events calls
later_moment began None new P h next events calls grows within m = subst (λ (x : Option Disk). Moment began x h next events calls) (sym grows) m
later_moment began (Some d) new P h next events calls grows within m =
    let same : take calls (d.trace ++ grows.0) ≡ take calls d.trace = take-append-le calls d.trace grows.0 within in
    let moved : Moment began (Some (disk_with d grows.0)) h next events calls = λ whole lined.
    subst (λ (told : List Event). IfSome began (λ b. (root : Digest) (blob : Blob) → find (last_state (up_to h events) next).map root ≡ Some blob → IsSure (last_state (up_to h events) next) root → HasItsBlob (now_of b) told events root blob)) (sym same) (m whole lined) in
    subst (λ (x : Option Disk). Moment began x h next events calls) (sym grows.1) moved
