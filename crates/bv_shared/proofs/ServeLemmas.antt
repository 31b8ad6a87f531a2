-- What a session is answered, by what the volume's entries gained.
use Rattle.std.proofs.Common.{◌≡◌, ℕ, Option, Some, List, sym, ap, ◌∙◌, subst}
use Rattle.std.specs.Prelude.{Result, Ok, Err, IfOk, OnErr}
use Rattle.spec_core.specs.declared.act.Act.{Act}
use Rattle.spec_core.specs.declared.event.CoreEvent.{CoreEvent}
use Rattle.spec_core.specs.declared.reply.Reply.{Reply}
use Rattle.spec_core.specs.declared.who.Who.{Who}
use Rattle.spec_session.specs.Conform.{events_of}
use Rattle.bv_session.specs.declared.entry.Entry.{Entry}
use Rattle.bv_session.specs.declared.serves.Answer.{Answer}
use Rattle.bv_session.specs.declared.serves.Answer.TheVariants as answers
use Rattle.bv_session.specs.declared.serves.Outcome.{Outcome}
use Rattle.bv_session.specs.Events.{IfDone, Notes, NotesAs, own_events, reply_by, reply_or}
use Rattle.bv_volume.specs.Seen.{Seen}
use Rattle.bv_shared.specs.Answers.{answer_reply, outcome_reply}
use Rattle.bv_shared.specs.Entries.{Gains, basis_of, entries_in}
use Rattle.bv_shared.proofs.GainLemmas.{basis_spared, entries_spared, own_is}

-- the basis after an event
pub basis_after : (u w o o' : Seen) → o' ≡ o → ((faults : ℕ) → basis_of w faults ≡ basis_of u faults) → basis_of w o'.store.faults ≡ basis_of u o.store.faults
basis_after u w o o' opening same = ap (λ (x : Seen). basis_of w x.store.faults) opening ∙ same o.store.faults

-- what went well has P
pub done_of : {X E F : Type 0} (P : X → Type 0) (result : Result (Answer X) E) (answer : Result X F) → IfOk result (λ a. IfDone a (λ x. answer ≡ Ok x)) → IfOk answer P → IfOk result (λ a. IfDone a P)
done_of P (Ok (answers.Done x)) answer is k = subst (λ r. IfOk r P) is k
done_of P (Ok (answers.Refused q)) answer is k = tt
done_of P (Err e) answer is k = tt

-- the same of one answer, by what was looked up
pub done_is : {X : Type 0} (P : X → Type 0) (found : Option X) (answer : Answer X) → IfDone answer (λ x. found ≡ Some x) → ((x : X) → found ≡ Some x → P x) → IfDone answer P
done_is P found (answers.Done x) is k = k x is
done_is P found (answers.Refused q) is k = tt

module _ (v u : Seen) (room : u ≡ record v { spare = u.spare }) where
  -- a session's own events
  pub own_now : (t : ℕ) (P : List CoreEvent → Type 0) → P (own_events (λ e. e.event.who.session) t (entries_in v)) → P (events_of t u.history.events)
  own_now t P k = subst P (own_is v 0 t ∙ ap (λ (x : Seen). events_of t x.history.events) (sym room)) k

  pub basis_roomed : (o o' : Seen) → o' ≡ o → basis_of u o'.store.faults ≡ basis_of v o.store.faults
  basis_roomed o o' first = ap (λ (x : Seen). basis_of u x.store.faults) first ∙ basis_spared v u room o.store.faults

-- the entries before are those before room was made
module _ (v u w : Seen) (room : u ≡ record v { spare = u.spare }) where
  moved : (P : List Entry → List Entry → Type 0) → P (entries_in u) (entries_in w) → P (entries_in v) (entries_in w)
  moved P k = subst (λ (es : List Entry). P es (entries_in w)) (entries_spared v u room) k

  pub basis_kept : (o o' o'' : Seen) → o' ≡ o → o'' ≡ o' → ((faults : ℕ) → basis_of w faults ≡ basis_of u faults) → basis_of w o''.store.faults ≡ basis_of v o.store.faults
  basis_kept o o' o'' first second same = basis_after u w o o'' (second ∙ first) same ∙ basis_spared v u room o.store.faults

  pub outcome_ok : {E : Type 0} (who : Who) (act : Act) (done : Reply) (result : Result Outcome E) (q : Option Reply) → Gains (entries_in u) (entries_in w) who act q → outcome_reply done result ≡ q → IfOk result (λ a. Notes (entries_in v) (entries_in w) who act (reply_or done a))
  outcome_ok who act done (Ok a) q gains is = moved (λ x y. Notes x y who act (reply_or done a)) (subst (Gains (entries_in u) (entries_in w) who act) (sym is) gains)
  outcome_ok who act done (Err e) q gains is = tt

  pub outcome_err : {E : Type 0} (who : Who) (act : Act) (done : Reply) (result : Result Outcome E) (q : Option Reply) → Gains (entries_in u) (entries_in w) who act q → outcome_reply done result ≡ q → OnErr result (entries_in w ≡ entries_in v)
  outcome_err who act done (Ok a) q gains is = tt
  outcome_err who act done (Err e) q gains is = moved (λ x y. y ≡ x) (subst (Gains (entries_in u) (entries_in w) who act) (sym is) gains)

  pub answer_ok : {X E : Type 0} (who : Who) (act : Act) (done : X → Reply) (result : Result (Answer X) E) (q : Option Reply) → Gains (entries_in u) (entries_in w) who act q → answer_reply done result ≡ q → IfOk result (λ a. Notes (entries_in v) (entries_in w) who act (reply_by done a))
  answer_ok who act done (Ok a) q gains is = moved (λ x y. Notes x y who act (reply_by done a)) (subst (Gains (entries_in u) (entries_in w) who act) (sym is) gains)
  answer_ok who act done (Err e) q gains is = tt

  pub answer_err : {X E : Type 0} (who : Who) (act : Act) (done : X → Reply) (result : Result (Answer X) E) (q : Option Reply) → Gains (entries_in u) (entries_in w) who act q → answer_reply done result ≡ q → OnErr result (entries_in w ≡ entries_in v)
  answer_err who act done (Ok a) q gains is = tt
  answer_err who act done (Err e) q gains is = moved (λ x y. y ≡ x) (subst (Gains (entries_in u) (entries_in w) who act) (sym is) gains)

  pub list_ok : {X E : Type 0} (who : Who) (act : Act) (reply : X → Reply) (P : X → Entry → Type 0) (result : Result X E) → IfOk result (λ x. NotesAs (entries_in u) (entries_in w) who act (reply x) (P x)) → IfOk result (λ x. NotesAs (entries_in v) (entries_in w) who act (reply x) (P x))
  list_ok who act reply P (Ok x) k = moved (λ a b. NotesAs a b who act (reply x) (P x)) k
  list_ok who act reply P (Err e) k = tt

  pub list_err : {X E : Type 0} (result : Result X E) → OnErr result (entries_in w ≡ entries_in u) → OnErr result (entries_in w ≡ entries_in v)
  list_err (Ok x) k = tt
  list_err (Err e) k = moved (λ a b. b ≡ a) k

  -- a look's entry, by what it answers
  pub look_ok : {X : Type 0} (who : Who) (act act' : Act) (done : X → Reply) (answer : Answer X) (q : Reply) → act' ≡ act → Gains (entries_in u) (entries_in w) who act' (Some q) → reply_by done answer ≡ q → Notes (entries_in v) (entries_in w) who act (reply_by done answer)
  look_ok who act act' done answer q same gains is =
      moved (λ x y. Notes x y who act (reply_by done answer))
      (subst (λ (a : Act). Notes (entries_in u) (entries_in w) who a (reply_by done answer)) same
      (subst (λ (r : Reply). Notes (entries_in u) (entries_in w) who act' r) (sym is) gains))
