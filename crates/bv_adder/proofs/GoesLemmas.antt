-- What one event makes of a volume, and what several make.
use Rattle.std.proofs.Common.{◌≡◌, ◌≤◌, ℕ, List, [], ◌∷◌, ◌++◌, refl, sym, ap, ◌∙◌, subst, arith, append_assoc}
use Rattle.std.proofs.lemmas.List.{append-nil}
use Rattle.spec_core.specs.History.{History}
use Rattle.spec_core.specs.Synced.{RiseWithin, fault_of, faults_of}
use Rattle.spec_core.specs.declared.act.Act.{Act}
use Rattle.spec_core.specs.declared.event.CoreEvent.{CoreEvent}
use Rattle.spec_core.specs.declared.reply.Reply.{Reply}
use Rattle.spec_core.specs.declared.who.Who.{Who}
use Rattle.bv_volume.proofs.Counting.{grows_so}
use Rattle.bv_volume.proofs.Joins.{grows_join}
use Rattle.bv_volume.proofs.Sessions.{grows_by_none}
use Rattle.bv_volume.specs.Events.{Happens, event_of}
use Rattle.bv_volume.specs.Seen.{Seen}
use Rattle.bv_adder.specs.Goes.{Goes}

-- ---- faults

rise_from : (a b c : ℕ) (fs : List ℕ) → a ≤ b → RiseWithin b c fs → RiseWithin a c fs
rise_from a b c [] low k = tt
rise_from a b c (f ∷ fs) low k = (omega (arith, k.0, low), k.1, k.2)

rise_join : (a b c : ℕ) (fs more : List ℕ) → a ≤ b → b ≤ c → RiseWithin a b fs → RiseWithin b c more → RiseWithin a c (fs ++ more)
rise_join a b c [] more low high k l = rise_from a b c more low l
rise_join a b c (f ∷ fs) more low high k l = (k.0, omega (arith, k.1, high), rise_join f b c fs more k.1 high k.2 l)

faults_join : (es fs : List CoreEvent) → faults_of (es ++ fs) ≡ faults_of es ++ faults_of fs
faults_join [] fs = refl
faults_join (e ∷ es) fs = ap (λ (xs : List ℕ). fault_of e.reply ++ xs) (faults_join es fs) ∙ sym (append_assoc (fault_of e.reply) (faults_of es) (faults_of fs))

-- ---- volumes

-- no event, and other room for events
pub goes_none : (v u : Seen) → u ≡ record v { spare = u.spare } → Goes v u
goes_none v u is = subst (λ (x : Seen). Goes v x) (sym is) same where
  same : Goes v (record v { spare = u.spare })
  same = record {
    more = [];
    history = ap (λ (es : List CoreEvent). record v.history { events = es }) (sym (append-nil v.history.events));
    next = refl;
    geometry = refl;
    began = refl;
    claims = refl;
    faults = (omega arith, tt);
    told = grows_by_none v.store.told;
  }

-- nothing
pub goes_same : (v u : Seen) → u ≡ v → Goes v u
goes_same v u is = subst (λ (x : Seen). Goes v x) (sym is) (goes_none v v refl)

-- one event
pub goes_one : (v w : Seen) (who : Who) (act : Act) (q : Reply) → Happens v w who act q → Goes v w
goes_one v w who act q h = record {
  more = event_of who act q w.store.calls ∷ [];
  history = h.history;
  next = h.next;
  geometry = h.geometry;
  began = h.began;
  claims = h.claims;
  faults = (h.faults.0, subst (λ (fs : List ℕ). RiseWithin v.store.faults w.store.faults fs) (sym (append-nil (fault_of q))) h.faults.1);
  told = grows_so v.store.told w.store.told _ _ (λ d written k. tt) h.told;
}

-- some events, and then others
pub goes_join : (u v w : Seen) → Goes u v → Goes v w → Goes u w
goes_join u v w a b = record {
  more = a.more ++ b.more;
  history = b.history ∙ ap (λ (h : History). record h { events = h.events ++ b.more }) a.history ∙ ap (λ (es : List CoreEvent). record u.history { events = es }) (append_assoc u.history.events a.more b.more);
  next = b.next ∙ a.next;
  geometry = b.geometry ∙ a.geometry;
  began = b.began ∙ a.began;
  claims = b.claims ∙ a.claims;
  faults = (
    omega (arith, a.faults.0, b.faults.0),
    subst (λ (fs : List ℕ). RiseWithin u.store.faults w.store.faults fs) (sym (faults_join a.more b.more))
        (rise_join u.store.faults v.store.faults w.store.faults (faults_of a.more) (faults_of b.more) a.faults.0 b.faults.0 a.faults.1 b.faults.1),
  );
  told = grows_join u.store.told v.store.told w.store.told (λ d written. Unit {0}) (λ d written. Unit {0}) (λ d written. Unit {0}) (λ d x y p q. tt) a.told b.told;
}

-- some events, and then one
pub goes_more : (u v w : Seen) (who : Who) (act : Act) (q : Reply) → Goes u v → Happens v w who act q → Goes u w
goes_more u v w who act q a h = goes_join u v w a (goes_one v w who act q h)
