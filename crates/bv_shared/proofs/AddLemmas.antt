-- What the calls of an add answer, by what the volume's calls answered.
use Rattle.std.proofs.Common.{◌≡◌, ◌+◌, ℕ, true, List, sym, ap, ◌∙◌, subst}
use Rattle.std.specs.Prelude.{Result, Ok, Err, IfOk, IfErr, OnOk, OnErr}
use Rattle.spec_tree.specs.Tree.{need_of}
use Rattle.spec_tree.specs.declared.Digest.{Digest}
use Rattle.spec_core.specs.declared.act.Act.{Act}
use Rattle.spec_core.specs.declared.reply.Reply.TheVariants.{Granted, Written}
use Rattle.spec_core.specs.declared.who.Who.{Who}
use Rattle.spec_session.specs.Own.{OwnAdd, admitted_add, new_add}
use Rattle.bv_claims.specs.Tokens.{IsGrantOf, grant_need}
use Rattle.bv_claims.specs.declared.claimed.Claimed.{Claimed}
use Rattle.bv_claims.specs.declared.claims.Claims.{Claims}
use Rattle.bv_claims.specs.declared.grant.Grant.{Grant}
use Rattle.bv_ledger.specs.Answers.{begin_reply}
use Rattle.bv_ledger.specs.declared.adds.BeginFault.{BeginFault}
use Rattle.bv_session.specs.declared.serves.Outcome.{Outcome}
use Rattle.bv_session.specs.Events.{NotesAs, put_by, reply_or}
use Rattle.bv_session.specs.Written.{Wrote}
use Rattle.bv_volume.specs.Admitted.{HandsBoth}
use Rattle.bv_volume.specs.Answers.{HandsBack}
use Rattle.bv_volume.specs.Events.{Does}
use Rattle.bv_volume.specs.Seen.{Seen}
use Rattle.bv_volume.specs.declared.admitting.AdmitFault.{AdmitFault}
use Rattle.bv_volume.specs.declared.admitting.AdmitFault.TheVariants as admitting
use Rattle.bv_volume.specs.declared.putting.PutFault.{PutFault}
use Rattle.bv_volume.specs.declared.putting.PutFault.TheVariants as putting
use Rattle.bv_volume.specs.declared.settling.SettleFault.{SettleFault}
use Rattle.bv_volume.specs.declared.settling.SettleFault.TheVariants as settling
use Rattle.bv_volume.specs.declared.tokens.Admitted.{Admitted}
use Rattle.bv_volume.specs.declared.tokens.Begun.{Begun}
use Rattle.bv_shared.specs.Answers.{put_outcome}
use Rattle.bv_shared.specs.Entries.{entries_in, told_of}
use Rattle.bv_shared.proofs.GainLemmas.{claims_stay}

-- an add as its session knows it
abbrev pub own_add : Admitted → OwnAdd
own_add a = record { root = a.root; size = a.size; admitted = true; puts = a.put }

-- ---- begin

pub begun_ok : {E : Type 0} (P : Begun → Type 0) (root : Digest) (size : ℕ) (result : Result (Begun × Grant) E) → IfOk result (λ p. (p.0.root ≡ root) × (p.0.size ≡ size) × P p.0) → IfOk result (λ p. (p.0.root ≡ root) × (p.0.size ≡ size))
begun_ok P root size (Ok p) k = (k.0, k.1)
begun_ok P root size (Err e) k = tt

pub grant_kept : (v w : Seen) (who : Who) (act : Act) (n : ℕ) (result : Result (Begun × Grant) BeginFault) → Does v w who act (begin_reply result) → IfOk result (λ p. IsGrantOf w.space.claims p.1 × (grant_need p.1 ≡ n)) → IfOk result (λ p. IsGrantOf v.space.claims p.1 × (grant_need p.1 ≡ n))
grant_kept v w who act n (Ok p) does k = (subst (λ (c : Claims). IsGrantOf c p.1) (claims_stay v w who act Granted does) k.0, k.1)
grant_kept v w who act n (Err e) does k = tt

pub begin_done : {E : Type 0} (v u : Seen) → u ≡ record v { spare = u.spare } → (root : Digest) (size : ℕ) (result : Result (Begun × Grant) E) → IfOk result (λ p. (p.0.root ≡ root) × (p.0.size ≡ size)) → IfOk result (λ p. IsGrantOf u.space.claims p.1 × (grant_need p.1 ≡ need_of u.history.version size))
    → IfOk result (λ p. (new_add p.0.root p.0.size ≡ new_add root size) × IsGrantOf v.space.claims p.1 × (grant_need p.1 ≡ need_of v.history.version size))
begin_done v u room root size (Ok p) k grant =
    let at = subst (λ (x : Seen). IsGrantOf x.space.claims p.1 × (grant_need p.1 ≡ need_of x.history.version size)) room grant in
    ((λ i. new_add (k.0 i) (k.1 i)), at.0, at.1)
begin_done v u room root size (Err e) k grant = tt

-- ---- admit

pub admitted_ok : {E : Type 0} (P : Admitted → Type 0) (a : Admitted) (result : Result Admitted E) → IfOk result (λ x. (x ≡ a) × P x) → IfOk result (λ x. x ≡ a)
admitted_ok P a (Ok x) k = k.0
admitted_ok P a (Err e) k = tt

pub admit_done : {E : Type 0} (b : Begun) (result : Result Admitted E) → IfOk result (λ a. a ≡ record { root = b.root; size = b.size; put = 0 }) → IfOk result (λ a. own_add a ≡ admitted_add (new_add b.root b.size))
admit_done b (Ok a) k = ap own_add k
admit_done b (Err e) k = tt

pub admit_back : {X : Type 0} (b : Begun) (claimed : Claimed) (result : Result X (Begun × Claimed)) (answer : Result Admitted AdmitFault) → IfErr result (λ r. answer ≡ Err (admitting.NoMemory r.0 r.1)) → HandsBoth answer b claimed → IfErr result (λ r. (new_add r.0.root r.0.size ≡ new_add b.root b.size) × (r.1 ≡ claimed))
admit_back b claimed (Ok x) answer is k = tt
admit_back b claimed (Err r) answer is k =
    let both = subst (λ (x : Result Admitted AdmitFault). HandsBoth x b claimed) is k in
    (ap (λ (x : Begun). new_add x.root x.size) both.0, both.1)

-- ---- put

put_add_is : (old new : Admitted) (answer : Result (Unit {0}) PutFault) → OnOk answer (new ≡ record old { put = old.put + 1 }) → OnErr answer (new ≡ old) → own_add new ≡ put_by (put_outcome answer) (own_add old)
put_add_is old new (Ok x) more same = ap own_add more
put_add_is old new (Err (putting.Stopped f)) more same = ap own_add same
put_add_is old new (Err (putting.DeviceFault f)) more same = ap own_add same

pub put_adds : (old new : Admitted) (outcome : Outcome) (answer : Result (Unit {0}) PutFault) → outcome ≡ put_outcome answer → OnOk answer (new ≡ record old { put = old.put + 1 }) → OnErr answer (new ≡ old) → own_add new ≡ put_by outcome (own_add old)
put_adds old new outcome answer is more same = put_add_is old new answer more same ∙ ap (λ (o : Outcome). put_by o (own_add old)) (sym is)

pub put_entry : (v u w : Seen) → u ≡ record v { spare = u.spare } → (who : Who) (act : Act) (bytes : List ℕ) (outcome : Outcome) (answer : Result (Unit {0}) PutFault) → outcome ≡ put_outcome answer → NotesAs (entries_in u) (entries_in w) who act (reply_or Written (put_outcome answer)) (Wrote (told_of u.store.began) (put_outcome answer) bytes) → NotesAs (entries_in v) (entries_in w) who act (reply_or Written outcome) (Wrote (told_of v.store.began) outcome bytes)
put_entry v u w room who act bytes outcome answer is k =
    subst (λ (o : Outcome). NotesAs (entries_in v) (entries_in w) who act (reply_or Written o) (Wrote (told_of v.store.began) o bytes)) (sym is)
    (subst (λ (x : Seen). NotesAs (entries_in x) (entries_in w) who act (reply_or Written (put_outcome answer)) (Wrote (told_of x.store.began) (put_outcome answer) bytes)) room k)

-- ---- settle

pub settle_back : {X : Type 0} (a : Admitted) (result : Result X Admitted) (answer : Result (Unit {0}) SettleFault) → IfErr result (λ r. answer ≡ Err (settling.NoMemory r)) → HandsBack answer a → IfErr result (λ r. own_add r ≡ own_add a)
settle_back a (Ok x) answer is k = tt
settle_back a (Err r) answer is k = ap own_add (subst (λ (x : Result (Unit {0}) SettleFault). HandsBack x a) is k)
