-- What one event more, or a list of events more, changes of the disk and of what is pending.
use Rattle.std.proofs.Common.{◌≡◌, ◌≤◌, ℕ, List, [], ◌∷◌, ◌++◌, length, drop, map, Bool, true, false, cond, eqb, refl, ap, sym, ◌∙◌, arith, set}
use Rattle.std.proofs.lemmas.List.{append-nil, length-append, length-set, drop_all, drop-append-le, map-append}
use Rattle.std.proofs.lemmas.Bool.{false≢true}
use Rattle.spec_disk.specs.declared.event.Event.{Event}
use Rattle.spec_disk.specs.declared.event.Event.TheVariants.{Write, Sync}
use Rattle.spec_disk.specs.Disk.{block, sector, now_after, last_after, has_sync, synced_part, unsynced_part, synced_after}
use Rattle.spec_disk.specs.Images.{written_to, pending, candidates}

-- Now and Last, event by event

pub now_after-append : (base : List (List ℕ)) (p q : List Event) → now_after base (p ++ q) ≡ now_after (now_after base p) q
now_after-append base [] q = refl
now_after-append base (Write at bytes true ∷ p) q = now_after-append (set base at bytes) p q
now_after-append base (Write at bytes false ∷ p) q = now_after-append base p q
now_after-append base (Sync ok ∷ p) q = now_after-append base p q

pub length-now_after : (base : List (List ℕ)) (p : List Event) → length (now_after base p) ≡ length base
length-now_after base [] = refl
length-now_after base (Write at bytes true ∷ p) = length-now_after (set base at bytes) p ∙ length-set base at bytes
length-now_after base (Write at bytes false ∷ p) = length-now_after base p
length-now_after base (Sync ok ∷ p) = length-now_after base p

pub last_after-append : (base : List (List ℕ)) (p q : List Event) → last_after base (p ++ q) ≡ last_after (last_after base p) q
last_after-append base [] q = refl
last_after-append base (Write at bytes ok ∷ p) q = last_after-append (set base at bytes) p q
last_after-append base (Sync ok ∷ p) q = last_after-append base p q

pub length-last_after : (base : List (List ℕ)) (p : List Event) → length (last_after base p) ≡ length base
length-last_after base [] = refl
length-last_after base (Write at bytes ok ∷ p) = length-last_after (set base at bytes) p ∙ length-set base at bytes
length-last_after base (Sync ok ∷ p) = length-last_after base p

-- The part up to the last Ok sync

-- the event is an Ok sync
abbrev pub is_ok_sync : Event → Bool
is_ok_sync (Write at bytes ok) = false
is_ok_sync (Sync ok) = ok

pub has_sync-push : (p : List Event) (e : Event) → is_ok_sync e ≡ false → has_sync (p ++ e ∷ []) ≡ has_sync p
has_sync-push [] (Write at bytes ok) none = refl
has_sync-push [] (Sync true) none = absurd (false≢true (sym none))
has_sync-push [] (Sync false) none = refl
has_sync-push (Write a b o ∷ p) e none = has_sync-push p e none
has_sync-push (Sync true ∷ p) e none = refl
has_sync-push (Sync false ∷ p) e none = has_sync-push p e none

pub has_sync-push_sync : (p : List Event) → has_sync (p ++ Sync true ∷ []) ≡ true
has_sync-push_sync [] = refl
has_sync-push_sync (Write a b o ∷ p) = has_sync-push_sync p
has_sync-push_sync (Sync true ∷ p) = refl
has_sync-push_sync (Sync false ∷ p) = has_sync-push_sync p

pub synced_part-push : (p : List Event) (e : Event) → is_ok_sync e ≡ false → synced_part (p ++ e ∷ []) ≡ synced_part p
synced_part-push [] e none = rw (has_sync-push [] e none)
synced_part-push (x ∷ p) e none = rw (has_sync-push (x ∷ p) e none, synced_part-push p e none)

pub synced_part-push_sync : (p : List Event) → synced_part (p ++ Sync true ∷ []) ≡ p ++ Sync true ∷ []
synced_part-push_sync [] = refl
synced_part-push_sync (x ∷ p) = rw (has_sync-push_sync (x ∷ p), synced_part-push_sync p)

-- the two parts are the whole
pub synced-append-unsynced : (p : List Event) → synced_part p ++ unsynced_part p ≡ p
synced-append-unsynced [] = refl
synced-append-unsynced (e ∷ p) =
    elim (has_sync (e ∷ p)) as (λ b. (cond b (e ∷ synced_part p) []) ++ drop (length (cond b (e ∷ synced_part p) [])) (e ∷ p) ≡ e ∷ p)
    [ true ↦ ap (λ (q : List Event). e ∷ q) (synced-append-unsynced p) | false ↦ refl ]

pub length-synced_part : (p : List Event) → length (synced_part p) ≤ length p
length-synced_part p = omega (arith, length-append (synced_part p) (unsynced_part p), ap (λ (q : List Event). length q) (synced-append-unsynced p))

pub unsynced_part-push : (p : List Event) (e : Event) → is_ok_sync e ≡ false → unsynced_part (p ++ e ∷ []) ≡ unsynced_part p ++ e ∷ []
unsynced_part-push p e none = rw (synced_part-push p e none) (drop-append-le (length (synced_part p)) p (e ∷ []) (length-synced_part p))

pub unsynced_part-push_sync : (p : List Event) → unsynced_part (p ++ Sync true ∷ []) ≡ []
unsynced_part-push_sync p = rw (synced_part-push_sync p) (drop_all (length (p ++ Sync true ∷ [])) (p ++ Sync true ∷ []) (omega arith))

-- Synced

pub synced_after-push : (base : List (List ℕ)) (p : List Event) (e : Event) → is_ok_sync e ≡ false → synced_after base (p ++ e ∷ []) ≡ synced_after base p
synced_after-push base p e none = ap (λ (q : List Event). now_after base q) (synced_part-push p e none)

pub synced_after-push_sync : (base : List (List ℕ)) (p : List Event) → synced_after base (p ++ Sync true ∷ []) ≡ now_after base p
synced_after-push_sync base p = ap (λ (q : List Event). now_after base q) (synced_part-push_sync p) ∙ now_after-append base p (Sync true ∷ [])

pub length-synced_after : (base : List (List ℕ)) (p : List Event) → length (synced_after base p) ≡ length base
length-synced_after base p = length-now_after base (synced_part p)

-- Now is Synced with the events since
pub now_after-from_synced : (base : List (List ℕ)) (p : List Event) → now_after base p ≡ now_after (synced_after base p) (unsynced_part p)
now_after-from_synced base p = ap (λ (q : List Event). now_after base q) (sym (synced-append-unsynced p)) ∙ now_after-append base (synced_part p) (unsynced_part p)

-- What is pending

pub written_to-append : (b : ℕ) (p q : List Event) → written_to b (p ++ q) ≡ written_to b p ++ written_to b q
written_to-append b [] q = refl
written_to-append b (Write at bytes ok ∷ p) q =
    rw (written_to-append b p q) (elim (eqb at b) as (λ t. cond t (bytes ∷ (written_to b p ++ written_to b q)) (written_to b p ++ written_to b q) ≡ (cond t (bytes ∷ written_to b p) (written_to b p)) ++ written_to b q) [ true ↦ refl | false ↦ refl ])
written_to-append b (Sync ok ∷ p) q = written_to-append b p q

pub pending-push : (p : List Event) (e : Event) (b : ℕ) → is_ok_sync e ≡ false → pending (p ++ e ∷ []) b ≡ pending p b ++ written_to b (e ∷ [])
pending-push p e b none = rw (unsynced_part-push p e none) (written_to-append b (unsynced_part p) (e ∷ []))

pub pending-push_sync : (p : List Event) (b : ℕ) → pending (p ++ Sync true ∷ []) b ≡ []
pending-push_sync p b = rw (unsynced_part-push_sync p)

pub pending-push_failed_sync : (p : List Event) (b : ℕ) → pending (p ++ Sync false ∷ []) b ≡ pending p b
pending-push_failed_sync p b = pending-push p (Sync false) b refl ∙ append-nil (pending p b)

-- The candidates of a sector

pub candidates-push : (base : List (List ℕ)) (p : List Event) (e : Event) (b s : ℕ) → is_ok_sync e ≡ false → candidates base (p ++ e ∷ []) b s ≡ candidates base p b s ++ map (λ bytes. sector bytes s) (written_to b (e ∷ []))
candidates-push base p e b s none =
    rw (synced_after-push base p e none, pending-push p e b none)
    (ap (λ (q : List (List ℕ)). sector (block (synced_after base p) b) s ∷ q) (map-append (λ (w : List ℕ). sector w s) (pending p b) (written_to b (e ∷ []))))

-- a write adds its bytes to what is written to its block
pub map-written_one : {X : Type 0} (f : List ℕ → X) (at : ℕ) (bytes : List ℕ) (ok : Bool) (b : ℕ) → map f (written_to b (Write at bytes ok ∷ [])) ≡ cond (eqb at b) (f bytes ∷ []) []
map-written_one f at bytes ok b = elim (eqb at b) as (λ t. map f (cond t (bytes ∷ []) []) ≡ cond t (f bytes ∷ []) []) [ true ↦ refl | false ↦ refl ]

pub candidates-push_write : (base : List (List ℕ)) (p : List Event) (at : ℕ) (bytes : List ℕ) (ok : Bool) (b s : ℕ) → candidates base (p ++ Write at bytes ok ∷ []) b s ≡ candidates base p b s ++ cond (eqb at b) (sector bytes s ∷ []) []
candidates-push_write base p at bytes ok b s = candidates-push base p (Write at bytes ok) b s refl ∙ ap (λ (q : List (List ℕ)). candidates base p b s ++ q) (map-written_one (λ w. sector w s) at bytes ok b)

pub candidates-push_failed_sync : (base : List (List ℕ)) (p : List Event) (b s : ℕ) → candidates base (p ++ Sync false ∷ []) b s ≡ candidates base p b s
candidates-push_failed_sync base p b s = candidates-push base p (Sync false) b s refl ∙ append-nil (candidates base p b s)

pub candidates-push_sync : (base : List (List ℕ)) (p : List Event) (b s : ℕ) → candidates base (p ++ Sync true ∷ []) b s ≡ sector (block (now_after base p) b) s ∷ []
candidates-push_sync base p b s = rw (synced_after-push_sync base p, pending-push_sync p b)
