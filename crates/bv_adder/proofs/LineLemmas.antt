-- How an add line ends, call by call.
use Rattle.std.proofs.Common.{◌≡◌, ℕ, List, [], Option, None, Some, sym, ap, ◌∙◌, subst}
use Rattle.std.specs.Prelude.{Ok, Err}
use Rattle.std.specs.declared.alloc.AllocError.{AllocError}
use Rattle.spec_tree.specs.declared.Digest.{Digest}
use Rattle.spec_core.specs.declared.act.Act.{Act}
use Rattle.spec_core.specs.declared.act.Act.TheVariants.{Admit, Begin, Retire, Settle}
use Rattle.spec_core.specs.declared.reply.Reply.{Reply}
use Rattle.spec_core.specs.declared.reply.Reply.TheVariants.{Admitted as IsAdmitted, Granted, Retired}
use Rattle.spec_core.specs.declared.who.Who.{Who}
use Rattle.spec_session.specs.Lines.{Move, admits}
use Rattle.spec_session.specs.Own.{OwnAdd}
use Rattle.spec_session.specs.declared.result.LineResult.{LineResult}
use Rattle.spec_served.specs.Answers.{IsReply}
use Rattle.bv_session.proofs.AddLemmas as A
use Rattle.bv_session.proofs.Moves.{admit_refused, begin_refused}
use Rattle.bv_session.specs.Adds.{AddEnds, all_put, begins}
use Rattle.bv_session.specs.Events.{IsRefusal}
use Rattle.bv_session.specs.Sessions.{LineAnswer}
use Rattle.bv_volume.specs.Events.{Does, Happens}
use Rattle.bv_volume.specs.Seen.{Seen}
use Rattle.bv_volume.specs.Sessions.{own_add}
use Rattle.bv_volume.specs.declared.putting.PutFault.{PutFault}
use Rattle.bv_volume.specs.declared.tokens.Admitted.{Admitted}
use Rattle.bv_writer.specs.Plans.{Plan}
use Rattle.bv_adder.specs.Goes.{Goes}
use Rattle.bv_adder.specs.Steps.{RefusesBy, StopsPuts, put_refusal}
use Rattle.bv_adder.proofs.EventLemmas.{add_then, gains_all}
use Rattle.bv_adder.proofs.GoesLemmas.{goes_join, goes_none, goes_one, goes_same}

-- the events of an add line from one volume to another
abbrev pub Line : Plan → Who → List Move → LineAnswer → Seen → Seen → Type 0
Line a who before answer v w = AddEnds a who before answer v.history.events w.history.events

-- ---- room for events was made first

module _ (a : Plan) (v u w : Seen) (who : Who) (rest : u ≡ record v { spare = u.spare }) where
  pub line_after : (answer : LineAnswer) → Line a who [] answer u w → Line a who [] answer v w
  line_after answer = subst (λ (x : Seen). Line a who [] answer x w) rest

  pub goes_after : Goes u w → Goes v w
  goes_after goes = goes_join v u w (goes_none v u rest) goes

  pub idle_after : own_add v.history who.session ≡ None → own_add u.history who.session ≡ None
  idle_after = subst (λ (x : Seen). own_add x.history who.session ≡ None) (sym rest)

-- there was no memory for it
module _ (a : Plan) (v u : Seen) (who : Who) (same : u ≡ v) where
  pub line_none : (e : AllocError) → Line a who [] (Err e) v u
  line_none e = A.begin_err a who e v.history.events u.history.events (ap (λ (x : Seen). x.history.events) same)

  pub idle_none : own_add v.history who.session ≡ None → own_add u.history who.session ≡ None
  idle_none = subst (λ (x : Seen). own_add x.history who.session ≡ None) (sym same)

-- ---- begin

module _ (a : Plan) (u w : Seen) (who : Who) (root : Digest) (size : ℕ) (is_root : root ≡ a.root) (is_size : size ≡ a.size) where
  -- a begin that is refused ends the line
  pub line_begin : (q : Option Reply) (answer : LineAnswer) → Does u w who (Begin root size) q → RefusesBy q answer → Line a who [] answer u w
  line_begin (Some q) (Ok r) does k = A.begin_ends a who r q root size u.history.events w.history.events k.0 is_root is_size (gains_all u w who (Begin root size) q does) k.1
  line_begin (Some q) (Err e) does k = absurd k
  line_begin None (Ok r) does k = absurd k
  line_begin None (Err e) does k = line_none a u w who does e

  pub idle_begin : (q : Option Reply) (answer : LineAnswer) → Does u w who (Begin root size) q → RefusesBy q answer → own_add u.history who.session ≡ None → own_add w.history who.session ≡ None
  idle_begin (Some q) (Ok r) does k idle = add_then u w who (Begin root size) q does ∙ begin_refused (own_add u.history who.session) root size q k.0 ∙ idle
  idle_begin (Some q) (Err e) does k idle = absurd k
  idle_begin None (Ok r) does k idle = absurd k
  idle_begin None (Err e) does k idle = idle_none a u w who does idle

  -- one that isn't begins it
  pub line_begun : (x : Seen) (answer : LineAnswer) → Happens u w who (Begin root size) Granted → Line a who (begins a) answer w x → Line a who [] answer u x
  line_begun x answer h = A.begin_goes_on a who answer root size u.history.events w.history.events x.history.events is_root is_size (gains_all u w who (Begin root size) Granted h)

pub goes_by : (v w : Seen) (who : Who) (act : Act) (q : Option Reply) → Does v w who act q → Goes v w
goes_by v w who act None does = goes_same v w does
goes_by v w who act (Some q) does = goes_one v w who act q does

-- ---- what ends an add

module _ (a : Plan) (v w : Seen) (who : Who) (root : Digest) (is_root : root ≡ a.root) where
  -- a retire
  pub idle_retire : Happens v w who (Retire root) Retired → own_add w.history who.session ≡ None
  idle_retire h = add_then v w who (Retire root) Retired h

  -- a settle, whatever it answers
  pub idle_settle : (q : Reply) → Happens v w who (Settle root) q → own_add w.history who.session ≡ None
  idle_settle q h = add_then v w who (Settle root) q h

  pub line_settle : (q : Reply) (r : LineResult) → Happens v w who (Settle root) q → IsReply q r → Line a who (all_put a) (Ok r) v w
  line_settle q r h is = A.settle_ends a who r q root v.history.events w.history.events is_root (gains_all v w who (Settle root) q h) is

  -- an admit that is refused
  pub idle_admit : (q : Reply) → Happens v w who (Admit root) q → IsRefusal q → own_add w.history who.session ≡ None
  idle_admit q h refused = add_then v w who (Admit root) q h ∙ admit_refused (own_add v.history who.session) root q refused

  pub line_admit : (q : Reply) (r : LineResult) → Happens v w who (Admit root) q → IsRefusal q → IsReply q r → Line a who (begins a) (Ok r) v w
  line_admit q r h refused is = A.admit_ends a who r q root v.history.events w.history.events refused is_root (gains_all v w who (Admit root) q h) is

  -- one that isn't
  pub line_admitted : (x : Seen) (answer : LineAnswer) → Happens v w who (Admit root) IsAdmitted → Line a who (admits a.root a.size) answer w x → Line a who (begins a) answer v x
  line_admitted x answer h = A.admit_goes_on a who answer root v.history.events w.history.events x.history.events is_root (gains_all v w who (Admit root) IsAdmitted h)

-- a retire for want of memory, where nothing had changed
module _ (a : Plan) (v w x : Seen) (who : Who) (root : Digest) (is_root : root ≡ a.root) (same : w ≡ v) (h : Happens w x who (Retire root) Retired) where
  pub line_unadmitted : (e : AllocError) → Line a who (begins a) (Err e) v x
  line_unadmitted e = A.admit_err a who e root v.history.events w.history.events x.history.events is_root (ap (λ (y : Seen). y.history.events) same) (gains_all w x who (Retire root) Retired h)

  pub line_unsettled : (e : AllocError) → Line a who (all_put a) (Err e) v x
  line_unsettled e = A.settle_err a who e root v.history.events w.history.events x.history.events is_root (ap (λ (y : Seen). y.history.events) same) (gains_all w x who (Retire root) Retired h)

  pub goes_retired : Goes v x
  goes_retired = goes_join v w x (goes_same v w same) (goes_one w x who (Retire root) Retired h)

-- a retire once a put was refused
pub line_stopped : (a : Plan) (v w x : Seen) (who : Who) (fault : PutFault) (token : Admitted) (r : LineResult) → StopsPuts a who fault token v w → RefusesBy (Some (put_refusal fault)) (Ok r) → Happens w x who (Retire token.root) Retired → Line a who (admits a.root a.size) (Ok r) v x
line_stopped a v w x who fault token r stops k h =
    A.puts_refused a who r stops.count (put_refusal fault) token.root v.history.events w.history.events x.history.events k.0 (ap (λ (y : OwnAdd). y.root) stops.add.is) stops.low stops.since (gains_all w x who (Retire token.root) Retired h) k.1
