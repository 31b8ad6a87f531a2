-- What moves are made from one list of a session's events to the next.
use Rattle.std.proofs.Common.{◌≡◌, ℕ, List, [], ◌∷◌, ◌++◌, refl, ap, ◌∙◌, subst, append_assoc}
use Rattle.std.specs.Prelude.{Option, None}
use Rattle.spec_core.specs.declared.act.Act.{Act}
use Rattle.spec_core.specs.declared.act.Act.TheVariants.{Begin, Admit, Put}
use Rattle.spec_core.specs.declared.reply.Reply.{Reply}
use Rattle.spec_core.specs.declared.reply.Reply.TheVariants.{Granted, Admitted, Written, Opened, Fetched, Reading}
use Rattle.spec_core.specs.declared.event.CoreEvent.{CoreEvent}
use Rattle.spec_core.specs.declared.who.Who.{Who}
use Rattle.spec_tree.specs.declared.Digest.{Digest}
use Rattle.spec_session.specs.Own.{OwnAdd, add_after, add_from, add_of}
use Rattle.spec_session.specs.Lines.{Move, Make}
use Rattle.bv_session.specs.declared.serves.Answer.{Answer}
use Rattle.bv_session.specs.declared.serves.Answer.TheVariants.{Done, Refused}
use Rattle.bv_session.specs.declared.serves.Outcome.{Outcome}
use Rattle.bv_session.specs.declared.serves.Outcome.TheVariants as outcomes
use Rattle.bv_session.specs.Events.{reply_by, reply_or, IfDone, IfRefused, IfRefuses, IsRefusal}
use Rattle.bv_session.specs.Sessions.{Gains, Grows, Since, Stays}
use Rattle.bv_session.specs.declared.entry.Entry.{Entry}
use Rattle.bv_session.specs.declared.entry.Basis.{Basis}
use Rattle.bv_turn.specs.declared.keeps.Keeps.{Ghosts}
use Rattle.bv_turn.specs.declared.turn.Share.{Share}
use Rattle.bv_turn.specs.declared.turn.Turn.{Turn}
use Rattle.bv_turn.specs.Tokens.{list_of}

append_nil : {A : Type 0} (xs : List A) → xs ≡ xs ++ []
append_nil [] = refl
append_nil (x ∷ xs) = ap (λ ys. x ∷ ys) (append_nil xs)

-- ---- answers

-- the event of a refusal
pub refused_gain : {X : Type 0} (who : Who) (act : Act) (f : X → Reply) (a : Answer X) (q : Reply) (old new : List CoreEvent) → Gains who act (reply_by f a) old new → a ≡ Refused q → Gains who act q old new
refused_gain {X} who act f a q old new g is = subst (λ (y : Answer X). Gains who act (reply_by f y) old new) is g

-- the event of what went well
pub done_gain : {X : Type 0} (who : Who) (act : Act) (f : X → Reply) (a : Answer X) (x : X) (old new : List CoreEvent) → Gains who act (reply_by f a) old new → a ≡ Done x → Gains who act (f x) old new
done_gain {X} who act f a x old new g is = subst (λ (y : Answer X). Gains who act (reply_by f y) old new) is g

-- the reply of a refusal is one
pub refused_is : {X : Type 0} (a : Answer X) (q : Reply) → IfRefused a IsRefusal → a ≡ Refused q → IsRefusal q
refused_is {X} a q h is = subst (λ (y : Answer X). IfRefused y IsRefusal) is h

-- what went well has what is said of it
pub done_is : {X : Type 0} (P : X → Type 0) (a : Answer X) (x : X) → IfDone a P → a ≡ Done x → P x
done_is {X} P a x h is = subst (λ (y : Answer X). IfDone y P) is h

-- the same of an event that gives nothing
pub refuses_gain : (who : Who) (act : Act) (done : Reply) (a : Outcome) (q : Reply) (old new : List CoreEvent) → Gains who act (reply_or done a) old new → a ≡ outcomes.Refused q → Gains who act q old new
refuses_gain who act done a q old new g is = subst (λ (y : Outcome). Gains who act (reply_or done y) old new) is g

pub does_gain : (who : Who) (act : Act) (done : Reply) (a : Outcome) (old new : List CoreEvent) → Gains who act (reply_or done a) old new → a ≡ outcomes.Done → Gains who act done old new
does_gain who act done a old new g is = subst (λ (y : Outcome). Gains who act (reply_or done y) old new) is g

pub refuses_is : (a : Outcome) (q : Reply) → IfRefuses a IsRefusal → a ≡ outcomes.Refused q → IsRefusal q
refuses_is a q h is = subst (λ (y : Outcome). IfRefuses y IsRefusal) is h

-- ---- moves

-- moves one after another
Make-append : (who : Who) (ms ns : List Move) (es fs : List CoreEvent) → Make who ms es → Make who ns fs → Make who (ms ++ ns) (es ++ fs)
Make-append who [] ns [] fs m n = n
Make-append who [] ns (e ∷ es) fs m n = absurd m
Make-append who (x ∷ ms) ns [] fs m n = absurd m
Make-append who (x ∷ ms) ns (e ∷ es) fs m n = (m.0, m.1, m.2, Make-append who ms ns es fs m.3 n)

-- nothing was done
pub since_none : (who : Who) (old new : List CoreEvent) → new ≡ old → Since who [] old new
since_none who old new same = record { part = []; is = same ∙ append_nil old; make = tt }

-- one event
pub since_one : (who : Who) (act : Act) (q : Reply) (old new : List CoreEvent) → Gains who act q old new → Since who ((act, q) ∷ []) old new
since_one who act q old new g = record {
  part = record { who = who; act = act; reply = q; calls = g.0 } ∷ [];
  is = g.1;
  make = (refl, refl, refl, tt);
}

-- some moves, and then others
pub since_join : (who : Who) (ms ns : List Move) (old mid new : List CoreEvent) → Since who ms old mid → Since who ns mid new → Since who (ms ++ ns) old new
since_join who ms ns old mid new s t = record {
  part = s.part ++ t.part;
  is = t.is ∙ ap (λ xs. xs ++ t.part) s.is ∙ append_assoc old s.part t.part;
  make = Make-append who ms ns s.part t.part s.make t.make;
}

-- some moves, and then one
pub since_more : (who : Who) (ms : List Move) (act : Act) (q : Reply) (old mid new : List CoreEvent) → Since who ms old mid → Gains who act q mid new → Since who (ms ++ (act, q) ∷ []) old new
since_more who ms act q old mid new s g = since_join who ms ((act, q) ∷ []) old mid new s (since_one who act q mid new g)

-- ---- the session's add

add_from-append : (add : Option OwnAdd) (es fs : List CoreEvent) → add_from add (es ++ fs) ≡ add_from (add_from add es) fs
add_from-append add [] fs = refl
add_from-append add (e ∷ es) fs = add_from-append (add_after add e.act e.reply) es fs

-- the add after one event more
pub add_gains : (who : Who) (act : Act) (q : Reply) (old new : List CoreEvent) → Gains who act q old new → add_of new ≡ add_after (add_of old) act q
add_gains who act q old new g = ap add_of g.1 ∙ add_from-append None old _

-- a refused begin leaves the add as it is
pub begin_refused : (add : Option OwnAdd) (r : Digest) (n : ℕ) (q : Reply) → IsRefusal q → add_after add (Begin r n) q ≡ add
begin_refused add r n Granted h = absurd h
begin_refused add r n _ h = refl

-- a refused admit ends it
pub admit_refused : (add : Option OwnAdd) (r : Digest) (q : Reply) → IsRefusal q → add_after add (Admit r) q ≡ None
admit_refused add r Admitted h = absurd h
admit_refused add r _ h = refl

-- a refused put leaves it as it is
pub put_refused : (add : Option OwnAdd) (index : ℕ) (q : Reply) → IsRefusal q → add_after add (Put index) q ≡ add
put_refused add index Written h = absurd h
put_refused add index _ h = refl

-- a refusal is none of the replies of what goes well
pub not_granted : (q : Reply) → IsRefusal q → ¬ (q ≡ Granted)
not_granted q h e = subst IsRefusal e h

pub not_admitted : (q : Reply) → IsRefusal q → ¬ (q ≡ Admitted)
not_admitted q h e = subst IsRefusal e h

pub not_written : (q : Reply) → IsRefusal q → ¬ (q ≡ Written)
not_written q h e = subst IsRefusal e h

pub not_fetched : (q : Reply) → IsRefusal q → ¬ (q ≡ Fetched)
not_fetched q h e = subst IsRefusal e h

pub not_reading : (q : Reply) → IsRefusal q → ¬ (q ≡ Reading)
not_reading q h e = subst IsRefusal e h

pub not_opened : (q : Reply) → IsRefusal q → (n : ℕ) → ¬ (q ≡ Opened n)
not_opened q h n e = subst IsRefusal e h

-- a share that stays, and stays again
pub stays_join : {T : Type 0} {k : Ghosts T Entry Basis} (t : Turn T Entry Basis) (old mid new : Share T Entry Basis k) → Stays t old mid → Stays t mid new → Stays t old new
stays_join t old mid new s n = record {
  this = n.this;
  idle = n.idle;
  session = n.session ∙ s.session;
  basis = n.basis ∙ s.basis;
  grows = grows_join s.grows n.grows;
} where
  grows_join : Grows (list_of old) (list_of mid) → Grows (list_of mid) (list_of new) → Grows (list_of old) (list_of new)
  grows_join a b = (a.0 ++ b.0, b.1 ∙ ap (λ (xs : List Entry). xs ++ b.0) a.1 ∙ append_assoc (list_of old) a.0 b.0)

-- a share that was left as it is
pub grows_not : {A : Type 0} (xs : List A) → xs ≡ xs ++ []
grows_not xs = append_nil xs
