-- What a session's reader comes to know, window by window.
use Rattle.std.proofs.Common.{◌≡◌, ◌≢◌, ℕ, ◌<◌, List, [], ◌∷◌, ◌++◌, length, ◌==◌, refl, sym, ap, ◌∙◌, subst, inr, arith, eqb, eq-eqb}
use Rattle.std.proofs.lemmas.Bool.{eqb-true, eqb-false}
use Rattle.std.proofs.lemmas.List.{get_or-set_other, get_or-set_same}
use Rattle.std.specs.Prelude.{Bool, true, false, Option, Some, None, IsSome, IfSome, is_some, Result, Ok, Err, find, if◌then◌else◌}
use Rattle.std.specs.declared.alloc.AllocError.{AllocError}
use Rattle.std.specs.Str.{bytes_eq}
use Rattle.std.proofs.lemmas.Slice.Eq.{bytes_eq-Decides}
use Rattle.spec_core.specs.declared.act.Act.{Act}
use Rattle.spec_core.specs.declared.act.Act.TheVariants.{Fetch, Open}
use Rattle.spec_core.specs.declared.reply.Reply.{Reply}
use Rattle.spec_core.specs.declared.reply.Reply.TheVariants.{Fetched, Opened, ReadFault}
use Rattle.spec_core.specs.declared.event.CoreEvent.{CoreEvent}
use Rattle.spec_core.specs.declared.who.Who.{Who}
use Rattle.spec_session.specs.Own.{Named, slot_after, slot_from, slot_holds}
use Rattle.spec_session.specs.declared.result.LineResult.{LineResult}
use Rattle.spec_served.specs.Answers.{IsReply}
use Rattle.spec_tree.specs.declared.Digest.{Digest}
use Rattle.spec_tree.specs.Tree.{windows_of}
use Rattle.spec_window.specs.declared.mismatch.Mismatch.{Mismatch}
use Rattle.spec_window.specs.Mismatch.{comparisons, fails, first_mismatch}
use Rattle.spec_window.specs.Page.{Page}
use Rattle.bv_pager.specs.Reading.{AnswersLoad, FitsIn, IsReading, Reading, known_at, page_in, with_page}
use Rattle.bv_pager.specs.declared.fault.LoadFault.{LoadFault}
use Rattle.bv_pager.specs.declared.fault.LoadFault.TheVariants as loads
use Rattle.bv_proof.specs.declared.raw.RawWindow.{RawWindow}
use Rattle.bv_session.specs.declared.serves.Answer.{Answer}
use Rattle.bv_session.specs.declared.serves.Answer.TheVariants.{Done, Refused}
use Rattle.bv_session.specs.Events.{IfDone, IfRefused, IsReadFault, IsRefusal}
use Rattle.bv_session.specs.Sessions.{Gains}
use Rattle.bv_session.specs.Windows.{FailsBy, Finds, KeepsKnown, Loads}
use Rattle.bv_session.proofs.Moves.{since_one}

-- ---- slots

slot_from-append : (slot : ℕ) (held : Option Named) (es fs : List CoreEvent) → slot_from slot held (es ++ fs) ≡ slot_from slot (slot_from slot held es) fs
slot_from-append slot held [] fs = refl
slot_from-append slot held (e ∷ es) fs = slot_from-append slot (slot_after slot held e.act e.reply) es fs

-- what the slot holds after one event more
pub slot_gains : (slot : ℕ) (who : Who) (act : Act) (q : Reply) (old new : List CoreEvent) → Gains who act q old new → slot_holds slot new ≡ slot_after slot (slot_holds slot old) act q
slot_gains slot who act q old new g = ap (slot_holds slot) g.1 ∙ slot_from-append slot None old _

-- an open that went well
pub opened_holds : (slot : ℕ) (who : Who) (root : Digest) (n : ℕ) (old new : List CoreEvent) (r : Reading) → Gains who (Open slot root) (Opened n) old new → r.root ≡ root → r.size ≡ n
    → slot_holds slot new ≡ Some (r.root, r.size)
opened_holds slot who root n old new r g is_root is_size =
    let here : (slot == slot) ≡ true = eq-eqb slot slot refl in
    let holds : slot_holds slot new ≡ Some (root, n) = slot_gains slot who (Open slot root) (Opened n) old new g ∙ rw here refl in
    holds ∙ (λ i. Some (sym is_root i, sym is_size i))

-- the slot's blob, once a read or a scan of it has begun
pub looked_holds : (slot : ℕ) (own mid : List CoreEvent) (blob : Named) (r : Reading) → slot_holds slot own ≡ Some blob → slot_holds slot mid ≡ slot_holds slot own
    → r.root ≡ blob.0 → r.size ≡ blob.1 → slot_holds slot mid ≡ Some (r.root, r.size)
looked_holds slot own mid blob r holds same is_root is_size = same ∙ holds ∙ (λ i. Some (sym is_root i, sym is_size i))

-- what a look said
pub looked : (slot : ℕ) (own : List CoreEvent) (a : Answer Named) (x : Named) → IfDone a (λ x. slot_holds slot own ≡ Some x) → a ≡ Done x → slot_holds slot own ≡ Some x
looked slot own a x h is = subst (λ (y : Answer Named). IfDone y (λ x. slot_holds slot own ≡ Some x)) is h

-- the slot's blob, before it
pub looked_start : (slot : ℕ) (own : List CoreEvent) (blob : Named) (r : Reading) → slot_holds slot own ≡ Some blob → r.root ≡ blob.0 → r.size ≡ blob.1 → slot_holds slot own ≡ Some (r.root, r.size)
looked_start slot own blob r holds is_root is_size = holds ∙ (λ i. Some (sym is_root i, sym is_size i))

-- ---- replies

-- a refused fetch ends its line with its own fault
pub refused_fails : (q : Reply) (r : LineResult) → IsReadFault q → IsReply q r → FailsBy q r
refused_fails (ReadFault f) r h is = is
refused_fails _ r h is = absurd h

-- what is said of a refusal's reply
pub refused_has : {X : Type 0} (P : Reply → Type 0) (a : Answer X) (q : Reply) → IfRefused a P → a ≡ Refused q → P q
refused_has {X} P a q h is = subst (λ (y : Answer X). IfRefused y P) is h

-- a fault of the device is a refusal
pub faults_refuse : (q : Reply) → IsReadFault q → IsRefusal q
faults_refuse (ReadFault f) h = tt
faults_refuse _ h = absurd h

-- a window that was fetched has the lengths of its place in the slot's blob
pub fetched_fits : (slot w : ℕ) (own : List CoreEvent) (root : Digest) (size : ℕ) (a : Answer RawWindow) (x : RawWindow)
    → IfDone a (λ x. IfSome (slot_holds slot own) (λ blob. (x.window ≡ w) × FitsIn blob.1 x)) → a ≡ Done x → slot_holds slot own ≡ Some (root, size)
    → (x.window ≡ w) × FitsIn size x
fetched_fits slot w own root size a x h is holds =
    subst (λ (o : Option Named). IfSome o (λ blob. (x.window ≡ w) × FitsIn blob.1 x)) holds
    (subst (λ (y : Answer RawWindow). IfDone y (λ x. IfSome (slot_holds slot own) (λ blob. (x.window ≡ w) × FitsIn blob.1 x))) is h)

-- what a load makes of a window that was fetched
pub loads_finds : (who : Who) (slot w raw : ℕ) (new : Reading) (result : Result (Option LineResult) AllocError) (old now : List CoreEvent) → raw ≡ w
    → Loads raw new result → Gains who (Fetch slot w) Fetched old now → Finds who slot w new result old now
loads_finds who slot w raw new (Ok None) old now place h g = (subst (λ (k : ℕ). IsSome (known_at new k)) place h, inr (since_one who (Fetch slot w) Fetched old now g))
loads_finds who slot w raw new (Ok (Some r)) old now place h g = (Fetched, h, since_one who (Fetch slot w) Fetched old now g)
loads_finds who slot w raw new (Err e) old now place h g = inr (since_one who (Fetch slot w) Fetched old now g)

-- ---- mismatches

-- what is found by a test passes it
found_passes : {X : Type 0} (p : X → Bool) (xs : List X) (x : X) → find p xs ≡ Some x → p x ≡ true
found_passes {X} p [] x e = absurd (cc)
found_passes {X} p (y ∷ ys) x e = by_test (found_passes p ys x) (p y) refl e where
  by_test : (find p ys ≡ Some x → p x ≡ true) → (b : Bool) → p y ≡ b → (if b then Some y else find p ys) ≡ Some x → p x ≡ true
  by_test rest true is f = let same : y ≡ x = cc in ap p (sym same) ∙ is
  by_test rest false is f = rest f

-- a comparison that fails has two digests that differ
fails_apart : (m : Mismatch) → fails m ≡ true → ¬ (m.wanted ≡ m.found)
fails_apart m failed same =
    let bytes : m.found.0 ≡ m.wanted.0 = ap (λ d. d.0) (sym same) in
    let equal : bytes_eq m.found.0 m.wanted.0 ≡ true = (bytes_eq-Decides m.found.0 m.wanted.0).1 bytes in
    let not_failed : fails m ≡ false = rw equal refl in
    absurd (cc)

-- so has the first that fails
pub mismatch_apart : (p : Page) (m : Mismatch) → first_mismatch p ≡ Some m → ¬ (m.wanted ≡ m.found)
mismatch_apart p m e = fails_apart m (found_passes fails (comparisons p) m e)

-- ---- readers

-- what was known before a window is taken in is known after it
pub with_page_keeps : (r : Reading) (w : ℕ) (p : Page) → w < length r.known → KeepsKnown r (with_page r w p)
with_page_keeps r w p there = record {
  root = refl;
  size = refl;
  known = λ k h. at k h (eqb k w) refl;
} where
  at : (k : ℕ) → IsSome (known_at r k) → (b : Bool) → eqb k w ≡ b → IsSome (known_at (with_page r w p) k)
  at k h true e =
      let same : k ≡ w = eqb-true k w e in
      subst (λ (o : Option Page). IsSome o) (sym (ap (λ (j : ℕ). known_at (with_page r w p) j) same ∙ get_or-set_same r.known w (Some p) None there)) refl
  at k h false e =
      let other : k ≢ w = eqb-false k w e in
      subst (λ (o : Option Page). IsSome o) (sym (get_or-set_other r.known w k (Some p) None other)) h

-- and so is the window
pub with_page_knows : (r : Reading) (w : ℕ) (p : Page) → w < length r.known → IsSome (known_at (with_page r w p) w)
with_page_knows r w p there = ap is_some (get_or-set_same r.known w (Some p) None there)

-- a load that went well
module _ (old new : Reading) (w : ℕ) (p : Page) (same : new ≡ with_page old w p) (reading : IsReading old) (there : w < windows_of old.size) where
  low : w < length old.known
  low = omega (arith, reading.count)

  pub load_keeps : KeepsKnown old new
  load_keeps = subst (λ (r : Reading). KeepsKnown old r) (sym same) (with_page_keeps old w p low)

  pub load_knows : IsSome (known_at new w)
  load_knows = subst (λ (r : Reading). IsSome (known_at r w)) (sym same) (with_page_knows old w p low)

-- a load that found a mismatch
pub load_apart : (r : Reading) (raw : RawWindow) (fault : LoadFault) (m : Mismatch) → AnswersLoad r raw (Err fault) → fault ≡ loads.Mismatch m → ¬ (m.wanted ≡ m.found)
load_apart r raw fault m h is = mismatch_apart _ m (subst (λ (f : LoadFault). AnswersLoad r raw (Err f)) is h)

-- and which it was
pub load_first : (r : Reading) (raw : RawWindow) (fault : LoadFault) (m : Mismatch) → AnswersLoad r raw (Err fault) → fault ≡ loads.Mismatch m → first_mismatch (page_in r raw) ≡ Some m
load_first r raw fault m h is = subst (λ (f : LoadFault). AnswersLoad r raw (Err f)) is h

-- a reader that is as it was knows what it knew
pub same_keeps : (old new : Reading) → new ≡ old → KeepsKnown old new
same_keeps old new same = record {
  root = ap (λ (r : Reading). r.root) same;
  size = ap (λ (r : Reading). r.size) same;
  known = λ w h. subst (λ (r : Reading). IsSome (known_at r w)) (sym same) h;
}

-- a page that was hit is known
pub hit_known : {B : Type 0} (o : Option B) (k : Option Page) → is_some o ≡ is_some k → is_some o ≡ true → IsSome k
hit_known o k same hit = sym same ∙ hit
