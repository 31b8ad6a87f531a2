-- What a share gains in a holding, by what the value gained.
use Rattle.std.proofs.Common.{◌≡◌, ◌<◌, ℕ, List, [], ◌∷◌, ◌++◌, refl, sym, ap, ◌∙◌, subst}
use Rattle.std.specs.Prelude.{Bool, Option, Some, None, Result, Ok, Err, IfOk, IfSome, OnErr}
use Rattle.std.proofs.lemmas.List.{append-nil}
use Rattle.spec_session.specs.Own.{OwnAdd, slot_holds}
use Rattle.spec_tree.specs.Tree.{need_of}
use Rattle.bv_turn.specs.Entries.{entries_of}
use Rattle.bv_session.specs.declared.entry.Basis.{Basis}
use Rattle.spec_core.specs.declared.act.Act.{Act}
use Rattle.spec_core.specs.declared.reply.Reply.{Reply}
use Rattle.spec_core.specs.declared.event.CoreEvent.{CoreEvent}
use Rattle.spec_core.specs.declared.who.Who.{Who}
use Rattle.bv_session.specs.declared.entry.Entry.{Entry}
use Rattle.bv_session.specs.Events.{events_in, IsUnderWay, Notes, NotesAs}
use Rattle.bv_session.specs.Events.{IfDone}
use Rattle.bv_session.specs.Disk.{AreThere, IsOnDisk}
use Rattle.bv_session.specs.Pages.{Brings, SlotFrom}
use Rattle.bv_session.specs.Sessions.{Gains, Grows}
use Rattle.bv_session.specs.declared.serves.Answer.{Answer}
use Rattle.bv_session.specs.declared.serves.Answer.TheVariants.{Done, Refused}
use Rattle.bv_pager.specs.Reading.{Reading}
use Rattle.bv_proof.specs.declared.raw.RawWindow.{RawWindow}

-- the events of a list with one entry more
events_snoc : (es : List Entry) (e : Entry) → events_in (es ++ e ∷ []) ≡ events_in es ++ e.event ∷ []
events_snoc [] e = refl
events_snoc (x ∷ es) e = ap (λ xs. x.event ∷ xs) (events_snoc es e)

-- an event is what its parts say
event_is : (e : CoreEvent) (who : Who) (act : Act) (reply : Reply) → e.who ≡ who → e.act ≡ act → e.reply ≡ reply → e ≡ record { who = who; act = act; reply = reply; calls = e.calls }
event_is e who act reply p q r = λ i. record { who = p i; act = q i; reply = r i; calls = e.calls }

module _ (held entries after before kept new : List Entry) (out : held ≡ entries) (same : kept ≡ before)
    (one : (e : Entry) → after ≡ held ++ e ∷ [] → new ≡ kept ++ e ∷ []) where
  -- one event of the value is one of the share
  pub gains_one : (who : Who) (act : Act) (reply : Reply) → Notes entries after who act reply → Gains who act reply (events_in before) (events_in new)
  gains_one who act reply n =
      let e = n.0 in
      let list : new ≡ before ++ e ∷ [] = one e (n.1 ∙ ap (λ xs. xs ++ e ∷ []) (sym out)) ∙ ap (λ xs. xs ++ e ∷ []) same in
      (e.event.calls, ap events_in list ∙ events_snoc before e ∙ ap (λ x. events_in before ++ x ∷ []) (event_is e.event who act reply n.2 n.3 n.4))

  -- the same, where a call answered Ok
  pub gains_ok : {A E : Type 0} (who : Who) (act : Act) (reply : A → Reply) (result : Result A E)
      → IfOk result (λ a. Notes entries after who act (reply a)) → IfOk result (λ a. Gains who act (reply a) (events_in before) (events_in new))
  gains_ok who act reply (Ok a) n = gains_one who act (reply a) n
  gains_ok who act reply (Err e) n = n

  -- the entries of the share grow with them
  pub grows_by : (who : Who) (act : Act) (reply : Reply) → Notes entries after who act reply → Grows before new
  grows_by who act reply n =
      let e = n.0 in
      (e ∷ [], one e (n.1 ∙ ap (λ xs. xs ++ e ∷ []) (sym out)) ∙ ap (λ xs. xs ++ e ∷ []) same)

  pub grows_ok : {A E : Type 0} → (after ≡ held → new ≡ kept) → (who : Who) (act : Act) (reply : A → Reply) (result : Result A E)
      → IfOk result (λ a. Notes entries after who act (reply a)) → OnErr result (after ≡ entries) → Grows before new
  grows_ok none who act reply (Ok a) n e = grows_by who act (reply a) n
  grows_ok none who act reply (Err x) n e = ([], none (e ∙ sym out) ∙ same ∙ sym (append-nil before))

  -- an entry that brings pages, where it went well
  pub brought_ok : {X E : Type 0} (slot : ℕ) (who : Who) (act : Act) (reply : Answer X → Reply) (P : Entry → X → Type 0) (Q : Basis → Entry → X → Type 0) (o : Option Basis) → Brings slot act
      → ((b : Basis) → o ≡ Some b → (e : Entry) (x : X) → P e x → Q b e x) → (result : Result (Answer X) E)
      → IfOk result (λ a. NotesAs entries after who act (reply a) (λ e. IfDone a (λ x. P e x)))
      → IfOk result (λ a. IfDone a (λ x. (e : Entry) × (new ≡ before ++ e ∷ []) × Brings slot e.event.act × ((b : Basis) → o ≡ Some b → Q b e x)))
  brought_ok slot who act reply P Q o brings f (Ok (Done x)) n =
      let e = n.0 in (
        e,
        one e (n.1 ∙ ap (λ xs. xs ++ e ∷ []) (sym out)) ∙ ap (λ xs. xs ++ e ∷ []) same,
        subst (λ (a : Act). Brings slot a) (sym n.3) brings,
        λ b has. f b has e x n.5,
      )
  brought_ok slot who act reply P Q o brings f (Ok (Refused q)) n = tt
  brought_ok slot who act reply P Q o brings f (Err e) n = tt

-- of two facts that hold of an error
pub err_left : {A E : Type 0} (P Q : Type 0) (result : Result A E) → OnErr result (P × Q) → OnErr result P
err_left P Q (Ok a) h = tt
err_left P Q (Err e) h = h.0

-- the basis is the value's
basis_same : {o : Option Basis} {b c : Basis} → o ≡ Some b → o ≡ Some c → b ≡ c
basis_same {o} {b} {c} p q = let both : Some b ≡ Some c = sym p ∙ q in cc

-- a window that was fetched, as the share knows it
pub fetched_on : (o : Option Basis) (base : Basis) (slot : ℕ) (list es : List Entry) → o ≡ Some base → list ≡ es → (b : Basis) → o ≡ Some b → (e : Entry) (x : RawWindow)
    → IfSome (slot_holds slot (events_in es)) (λ blob. IsOnDisk base blob e x) → IfSome (slot_holds slot (events_in list)) (λ blob. IsOnDisk b blob e x)
fetched_on o base slot list es is held b has e x =
    subst (λ (y : Basis × List Entry). IfSome (slot_holds slot (events_in y.1)) (λ blob. IsOnDisk y.0 blob e x)) (λ i. (basis_same is has i, sym held i))

-- pages that were kept
pub opened_there : (o : Option Basis) (base : Basis) → o ≡ Some base → (b : Basis) → o ≡ Some b → (e : Entry) (x : ℕ × Option Reading) → IfSome x.1 (AreThere base e) → IfSome x.1 (AreThere b e)
opened_there o base is b has e x = subst (λ (y : Basis). IfSome x.1 (AreThere y e)) (basis_same is has)

-- what the reader of a slot knows, of the value's entries
pub held_pages : (pages : Option Reading) (o : Option Basis) (base : Basis) (slot : ℕ) (list es : List Entry) → o ≡ Some base → list ≡ es
    → IfSome pages (λ r. (b : Basis) → o ≡ Some b → SlotFrom b slot r list) → IfSome pages (λ r. SlotFrom base slot r es)
held_pages None o base slot list es is held h = tt
held_pages (Some r) o base slot list es is held h = subst (λ (xs : List Entry). SlotFrom base slot r xs) held (h base is)

-- the entry is this event's
pub notes_are : {A E : Type 0} (old new : List Entry) (who : Who) (act : Act) (reply : A → Reply) (P : A → Entry → Type 0) (result : Result A E)
    → IfOk result (λ a. NotesAs old new who act (reply a) (P a)) → IfOk result (λ a. Notes old new who act (reply a))
notes_are old new who act reply P (Ok a) n = (n.0, n.1, n.2, n.3, n.4)
notes_are old new who act reply P (Err e) n = tt

-- ---- what a share knows, of the value that it holds

-- the value's entries of the session are the share's list
pub held_list : (session : Entry → ℕ) (who mine old : ℕ) (es held list : List Entry) → who ≡ old → mine ≡ old → held ≡ list → held ≡ entries_of session mine es → list ≡ entries_of session who es
held_list session who mine old es held list w m same is = sym same ∙ is ∙ ap (λ (s : ℕ). entries_of session s es) (m ∙ sym w)

-- the add that the session has under way
pub held_add : (a : OwnAdd) (admitted : Bool) (list es : List Entry) → list ≡ es → IsUnderWay a admitted (events_in list) → IsUnderWay a admitted (events_in es)
held_add a admitted list es is = subst (λ (xs : List Entry). IsUnderWay a admitted (events_in xs)) is

-- there is a block to be put
pub held_next : (t : OwnAdd) (o : Option Basis) (b : Basis) → o ≡ Some b → IfSome o (λ b. t.puts < need_of b.geometry.version t.size) → t.puts < need_of b.geometry.version t.size
held_next t o b is h = subst (λ (x : Option Basis). IfSome x (λ b. t.puts < need_of b.geometry.version t.size)) is h

-- all are put
pub held_all : (t : OwnAdd) (o : Option Basis) (b : Basis) → o ≡ Some b → IfSome o (λ b. t.puts ≡ need_of b.geometry.version t.size) → t.puts ≡ need_of b.geometry.version t.size
held_all t o b is h = subst (λ (x : Option Basis). IfSome x (λ b. t.puts ≡ need_of b.geometry.version t.size)) is h
