-- Which events have a reply, and which have one.
use Rattle.std.proofs.Common.{◌≡◌, ℕ, Bool, true, false, cond, is_some, ◌&&◌, not, ◌++◌, nat_lt, Option, Some, None, List, [], ◌∷◌, refl, ap, inl, inr, sym, ◌∙◌}
use Rattle.spec_tree.specs.Tree.{need_of}
use Rattle.spec_tree.specs.declared.Digest.{Digest}
use Rattle.spec_core.specs.Change.{change}
use Rattle.spec_core.specs.Choice.{choice, unless_stopped, unless_empty, if_added, begin_choice, open_choice, sync_choice, is_empty, place_of, at_number_end}
use Rattle.spec_core.specs.Laws.{MayCome, OneReply, SomeReply, LeavesOpen}
use Rattle.spec_core.specs.Room.{room_in}
use Rattle.spec_core.specs.State.{State, find, held, present, is_unlinked, count_present}
use Rattle.spec_core.specs.Step.{Chosen}
use Rattle.spec_core.specs.Synced.{fault_of, tells_durable}
use Rattle.spec_core.specs.declared.act.Act.{Act}
use Rattle.spec_core.specs.declared.act.Act.TheVariants.{Begin, Admit, Put, Settle, Retire, Open, Fetch, Read, Scan, Close, Unlink, Sync, List as ListAll, Unmount}
use Rattle.spec_tree.specs.declared.blob.Blob.{Blob}
use Rattle.spec_core.specs.declared.choice.Choice.{Choice}
use Rattle.spec_core.specs.declared.choice.Choice.TheVariants.{Only, Writes, Reads, Nodes, Never}
use Rattle.spec_core.specs.declared.reply.Reply.{Reply}
use Rattle.spec_core.specs.declared.reply.Reply.TheVariants.{Admitted, Written, Published, Retired, Fetched, Reading, Closed, Unlinked, NotFound, NoNodes, NumberEnd, Listed, Synced, Unmounted, DeviceFault, ReadFault}
use Rattle.spec_core.specs.declared.setting.Setting.{Setting}
use Rattle.spec_core.specs.declared.who.Who.{Who}

-- a property of choices that each row has, where no reply that a row leaves alone tells of a sync
module _ (P : Choice → Type 0) where
  cond_has : (b : Bool) (x y : Choice) → P x → P y → P (cond b x y)
  cond_has true x y p q = p
  cond_has false x y p q = q

  stopped_has : (o : Option ℕ) (c : Choice) → ((q : Reply) → tells_durable q ≡ false → P (Only q)) → P c → P (unless_stopped o c)
  stopped_has (Some f) c only p = only _ refl
  stopped_has None c only p = p

  empty_has : (o : Option Digest) (c : Choice) → ((q : Reply) → tells_durable q ≡ false → P (Only q)) → P c → P (unless_empty o c)
  empty_has None c only p = only _ refl
  empty_has (Some r) c only p = p

  added_has : (o : Option ℕ) (f : ℕ → Choice) → P Never → ((n : ℕ) → P (f n)) → P (if_added o f)
  added_has None f never p = never
  added_has (Some n) f never p = p n

  open_has : (o : Option Blob) (slot : Option Digest) → ((q : Reply) → tells_durable q ≡ false → P (Only q)) → P (open_choice o slot)
  open_has None slot only = only _ refl
  open_has (Some blob) (Some r) only = only _ refl
  open_has (Some blob) None only = only _ refl

  begin_has : (g : Setting) (s : State) (r : Digest) (n : ℕ) → ((q : Reply) → tells_durable q ≡ false → P (Only q)) → P (begin_choice g s r n)
  begin_has g s r n only =
      cond_has (is_some (present s r)) _ _ (only _ refl) (cond_has (is_unlinked s r) _ _ (only _ refl) (cond_has (is_some (find s.adds r)) _ _ (only _ refl)
      (cond_has (nat_lt (room_in g s) (need_of g.version n)) _ _ (only _ refl) (only _ refl))))

-- a reply of a choice
abbrev pub some_reply : Choice → Reply
some_reply (Only r) = r
some_reply (Writes r) = r
some_reply (Reads r) = r
some_reply (Nodes most least) = Admitted
some_reply Never = Retired

abbrev IsPossible : Choice → Type 0
IsPossible Never = ⊥
IsPossible _ = Unit {0}

is_chosen : (c : Choice) → IsPossible c → Chosen c (some_reply c)
is_chosen (Only r) p = refl
is_chosen (Writes r) p = inl refl
is_chosen (Reads r) p = inl refl
is_chosen (Nodes most least) p = inl refl
is_chosen Never p = absurd p

added_possible : (o : Option ℕ) (f : ℕ → Choice) → is_some o ≡ true → ((n : ℕ) → IsPossible (f n)) → IsPossible (if_added o f)
added_possible None f h p = cc
added_possible (Some n) f h p = p n

only_possible : (q : Reply) → tells_durable q ≡ false → IsPossible (Only q)
only_possible q none = tt

sync_possible : (s : State) (queue : List Digest) (done : Reply) → IsPossible (sync_choice s queue done)
sync_possible s queue done = cond_has IsPossible (not (is_empty queue) && at_number_end s) _ _ tt tt

possible : (g : Setting) (s : State) (w : Who) (a : Act) → MayCome s a → IsPossible (choice g s w a)
possible g s w (Begin r n) m = stopped_has IsPossible s.stopped _ only_possible (begin_has IsPossible g s r n only_possible)
possible g s w (Admit r) m = added_possible (find s.adds r) _ m (λ n. stopped_has IsPossible s.stopped _ only_possible tt)
possible g s w (Put i) m = stopped_has IsPossible s.stopped _ only_possible tt
possible g s w (Settle r) m = added_possible (find s.adds r) _ m (λ n. stopped_has IsPossible s.stopped _ only_possible (cond_has IsPossible (at_number_end s) _ _ tt tt))
possible g s w (Retire r) m = tt
possible g s w (Open slot r) m = open_has IsPossible (present s r) (held s.slots (place_of w slot)) only_possible
possible g s w (Fetch slot i) m = empty_has IsPossible (held s.slots (place_of w slot)) _ only_possible tt
possible g s w (Read slot off len) m = empty_has IsPossible (held s.slots (place_of w slot)) _ only_possible tt
possible g s w (Scan slot) m = empty_has IsPossible (held s.slots (place_of w slot)) _ only_possible tt
possible g s w (Close slot) m = empty_has IsPossible (held s.slots (place_of w slot)) _ only_possible tt
possible g s w (Unlink r) m = stopped_has IsPossible s.stopped _ only_possible (cond_has IsPossible (is_some (present s r)) _ _ tt tt)
possible g s w Sync m = stopped_has IsPossible s.stopped _ only_possible (sync_possible s s.queue Synced)
possible g s w ListAll m = tt
possible g s w Unmount m = rw m (stopped_has IsPossible s.stopped _ only_possible (sync_possible s (s.queue ++ s.leaving) Unmounted))

pub some_reply_fits : SomeReply
some_reply_fits g s w a calls m =
    let q : Reply = some_reply (choice g s w a) in (q, change g s w a q, (is_chosen (choice g s w a) (possible g s w a m), refl))

-- a choice with one reply, given whether the device failed and with which number
abbrev IsSingle : Choice → Type 0
IsSingle c = (q r : Reply) → Chosen c q → Chosen c r → fault_of q ≡ fault_of r → q ≡ r

only_single : (a : Reply) → tells_durable a ≡ false → IsSingle (Only a)
only_single a none q r p t f = p ∙ sym t

-- a reply that tells no fault is none that tells one
apart : {P : Type 0} (a q r : Reply) (f : ℕ) → fault_of a ≡ [] → q ≡ a → fault_of r ≡ f ∷ [] → fault_of q ≡ fault_of r → P
apart a q r f none p t same = let e = sym none ∙ ap fault_of (sym p) ∙ same ∙ t in cc

one_number : (f n : ℕ) → f ∷ [] ≡ n ∷ [] → f ≡ n
one_number f n e = cc

writes_single : (a : Reply) → fault_of a ≡ [] → IsSingle (Writes a)
writes_single a none q r (inl p) (inl t) same = p ∙ sym t
writes_single a none q r (inl p) (inr t) same = apart a q r t.0 none p (ap fault_of t.1) same
writes_single a none q r (inr p) (inl t) same = apart a r q p.0 none t (ap fault_of p.1) (sym same)
writes_single a none q r (inr p) (inr t) same =
    p.1 ∙ ap DeviceFault (one_number p.0 t.0 (ap fault_of (sym p.1) ∙ same ∙ ap fault_of t.1)) ∙ sym t.1

reads_single : (a : Reply) → fault_of a ≡ [] → IsSingle (Reads a)
reads_single a none q r (inl p) (inl t) same = p ∙ sym t
reads_single a none q r (inl p) (inr t) same = apart a q r t.0 none p (ap fault_of t.1) same
reads_single a none q r (inr p) (inl t) same = apart a r q p.0 none t (ap fault_of p.1) (sym same)
reads_single a none q r (inr p) (inr t) same =
    p.1 ∙ ap ReadFault (one_number p.0 t.0 (ap fault_of (sym p.1) ∙ same ∙ ap fault_of t.1)) ∙ sym t.1

never_single : IsSingle Never
never_single q r p t f = absurd p

-- a stopped core has one reply to an admit
admit_single : (o : Option ℕ) (c : Choice) → ¬ (o ≡ None) → IsSingle (unless_stopped o c)
admit_single (Some f) c stops = only_single _ refl
admit_single None c stops = absurd (stops refl)

sync_single : (s : State) (queue : List Digest) (done : Reply) → fault_of done ≡ [] → IsSingle (sync_choice s queue done)
sync_single s queue done none = cond_has IsSingle (not (is_empty queue) && at_number_end s) _ _ (only_single _ refl) (writes_single done none)

single : (g : Setting) (s : State) (w : Who) (a : Act) → ¬ LeavesOpen s a → IsSingle (choice g s w a)
single g s w (Begin r n) m = stopped_has IsSingle s.stopped _ only_single (begin_has IsSingle g s r n only_single)
single g s w (Admit r) m = added_has IsSingle (find s.adds r) _ never_single (λ n. admit_single s.stopped _ m)
single g s w (Put i) m = stopped_has IsSingle s.stopped _ only_single (writes_single Written refl)
single g s w (Settle r) m = added_has IsSingle (find s.adds r) _ never_single (λ n. stopped_has IsSingle s.stopped _ only_single (cond_has IsSingle (at_number_end s) _ _ (only_single _ refl) (writes_single Published refl)))
single g s w (Retire r) m = only_single _ refl
single g s w (Open slot r) m = open_has IsSingle (present s r) (held s.slots (place_of w slot)) only_single
single g s w (Fetch slot i) m = empty_has IsSingle (held s.slots (place_of w slot)) _ only_single (reads_single Fetched refl)
single g s w (Read slot off len) m = empty_has IsSingle (held s.slots (place_of w slot)) _ only_single (only_single _ refl)
single g s w (Scan slot) m = empty_has IsSingle (held s.slots (place_of w slot)) _ only_single (only_single _ refl)
single g s w (Close slot) m = empty_has IsSingle (held s.slots (place_of w slot)) _ only_single (only_single _ refl)
single g s w (Unlink r) m = stopped_has IsSingle s.stopped _ only_single (cond_has IsSingle (is_some (present s r)) _ _ (only_single _ refl) (only_single _ refl))
single g s w Sync m = stopped_has IsSingle s.stopped _ only_single (sync_single s s.queue Synced refl)
single g s w ListAll m = only_single _ refl
single g s w Unmount m = cond_has IsSingle (is_empty s.adds) _ _ (stopped_has IsSingle s.stopped _ only_single (sync_single s (s.queue ++ s.leaving) Unmounted refl)) never_single

pub one_reply : OneReply
one_reply g s w a q r p t same m = single g s w a m q r p t same

-- ---- which events tell that the log is durable

-- this reply is none of the choice
abbrev pub Lacks : Reply → Choice → Type 0
Lacks q c = ¬ Chosen c q

module _ (q : Reply) (tells : tells_durable q ≡ true) where
  lacks_only : (a : Reply) → tells_durable a ≡ false → Lacks q (Only a)
  lacks_only a none e = let same = ap tells_durable e in cc

  lacks_writes : (a : Reply) → ¬ (q ≡ a) → Lacks q (Writes a)
  lacks_writes a other (inl e) = other e
  lacks_writes a other (inr (f, e)) = lacks_only (DeviceFault f) refl e

  lacks_reads : (a : Reply) → tells_durable a ≡ false → Lacks q (Reads a)
  lacks_reads a none (inl e) = lacks_only a none e
  lacks_reads a none (inr (f, e)) = lacks_only (ReadFault f) refl e

  lacks_nodes : (most least : ℕ) → Lacks q (Nodes most least)
  lacks_nodes most least (inl e) = lacks_only Admitted refl e
  lacks_nodes most least (inr (need, free, e, over, within, from)) = lacks_only (NoNodes need free) refl e

  lacks_never : Lacks q Never
  lacks_never c = c

  pub lacks_sync : (s : State) (queue : List Digest) (done : Reply) → ¬ (q ≡ done) → Lacks q (unless_stopped s.stopped (sync_choice s queue done))
  lacks_sync s queue done other = stopped_has (Lacks q) s.stopped _ lacks_only (cond_has (Lacks q) (not (is_empty queue) && at_number_end s) _ _ (lacks_only NumberEnd refl) (lacks_writes done other))

  pub lacks_unmount : (s : State) (queue : List Digest) → ¬ (q ≡ Unmounted) → Lacks q (cond (is_empty s.adds) (unless_stopped s.stopped (sync_choice s queue Unmounted)) Never)
  lacks_unmount s queue other = cond_has (Lacks q) (is_empty s.adds) _ _ (lacks_sync s queue Unmounted other) lacks_never

  pub lacks : (g : Setting) (s : State) (w : Who) (a : Act) → ¬ (a ≡ Sync) → ¬ (a ≡ Unmount) → Lacks q (choice g s w a)
  lacks g s w (Begin r n) sync unmount = stopped_has (Lacks q) s.stopped _ lacks_only (begin_has (Lacks q) g s r n lacks_only)
  lacks g s w (Admit r) sync unmount = added_has (Lacks q) (find s.adds r) _ lacks_never (λ n. stopped_has (Lacks q) s.stopped _ lacks_only (lacks_nodes _ _))
  lacks g s w (Put i) sync unmount = stopped_has (Lacks q) s.stopped _ lacks_only (lacks_writes Written (λ e. lacks_only Written refl e))
  lacks g s w (Settle r) sync unmount = added_has (Lacks q) (find s.adds r) _ lacks_never (λ n. stopped_has (Lacks q) s.stopped _ lacks_only (cond_has (Lacks q) (at_number_end s) _ _ (lacks_only NumberEnd refl) (lacks_writes Published (λ e. lacks_only Published refl e))))
  lacks g s w (Retire r) sync unmount = lacks_only Retired refl
  lacks g s w (Open slot r) sync unmount = open_has (Lacks q) (present s r) (held s.slots (place_of w slot)) lacks_only
  lacks g s w (Fetch slot i) sync unmount = empty_has (Lacks q) (held s.slots (place_of w slot)) _ lacks_only (lacks_reads Fetched refl)
  lacks g s w (Read slot off len) sync unmount = empty_has (Lacks q) (held s.slots (place_of w slot)) _ lacks_only (lacks_only Reading refl)
  lacks g s w (Scan slot) sync unmount = empty_has (Lacks q) (held s.slots (place_of w slot)) _ lacks_only (lacks_only Reading refl)
  lacks g s w (Close slot) sync unmount = empty_has (Lacks q) (held s.slots (place_of w slot)) _ lacks_only (lacks_only Closed refl)
  lacks g s w (Unlink r) sync unmount = stopped_has (Lacks q) s.stopped _ lacks_only (cond_has (Lacks q) (is_some (present s r)) _ _ (lacks_only Unlinked refl) (lacks_only NotFound refl))
  lacks g s w Sync sync unmount = absurd (sync refl)
  lacks g s w ListAll sync unmount = lacks_only (Listed (count_present s)) refl
  lacks g s w Unmount sync unmount = absurd (unmount refl)
