-- The adds of sessions: what each call makes of them.
use Rattle.std.proofs.Common.{◌≡◌, ◌<◌, ◌∷◌, ◌++◌, [], ℕ, zero, suc, Bool, true, false, is_some, List, length, Option, None, Some, IfSome, Result, Ok, Err, OnOk, OnErr, refl, ap, sym, ◌∙◌, subst, arith, append_assoc}
use Rattle.std.specs.BTreeMap.{insert_entry}
use Rattle.std.specs.Global.{Vec}
use Rattle.std.proofs.lemmas.List.{append-nil, length-append}
use Rattle.spec_disk.specs.Disk.{block, now_after}
use Rattle.spec_disk.specs.declared.event.Event.{Event}
use Rattle.spec_disk.proofs.EventLemmas.{length-now_after}
use Rattle.spec_record.specs.Geometry.{block_at}
use Rattle.spec_record.specs.declared.geometry.Geometry.{Geometry}
use Rattle.spec_tree.specs.Order.{digest_cmp, same_digest}
use Rattle.spec_tree.specs.Tree.{need_of}
use Rattle.spec_tree.specs.declared.Digest.{Digest}
use Rattle.spec_core.proofs.EntryLemmas.{lookup-insert_entry, lookup-remove_other}
use Rattle.spec_core.proofs.Holding.{digest_total, one_digest, same_self}
use Rattle.spec_core.specs.History.{History, last_state, with_event}
use Rattle.spec_core.specs.Log.{without}
use Rattle.spec_core.specs.State.{find}
use Rattle.spec_core.specs.declared.act.Act.{Act}
use Rattle.spec_core.specs.declared.act.Act.TheVariants.{Begin, Admit, Sync}
use Rattle.spec_core.specs.declared.event.CoreEvent.{CoreEvent}
use Rattle.spec_core.specs.declared.reply.Reply.{Reply}
use Rattle.spec_core.specs.declared.reply.Reply.TheVariants as replies
use Rattle.spec_core.specs.declared.who.Who.{Who}
use Rattle.spec_crash.specs.Timing.{IsWritten}
use Rattle.spec_rest.specs.Rest.{Map}
use Rattle.spec_session.specs.Conform.{events_of}
use Rattle.spec_session.specs.Own.{OwnAdd, add_after, add_of, admitted_add, new_add}
use Rattle.spec_orderly.specs.Orderly.{IsInOrder}
use Rattle.spec_orderly.proofs.Ordered.{Agrees, agrees_last}
use Rattle.bv_device.specs.Told.{Disk, disk_with, now_of}
use Rattle.bv_model.specs.Noted.{Noted}
use Rattle.bv_space.specs.Owned.{Owned}
use Rattle.bv_ledger.specs.Answers.{admit_reply, begin_reply, look_act}
use Rattle.bv_ledger.specs.Tables.{Tables}
use Rattle.bv_claims.specs.declared.grant.Grant.{Grant}
use Rattle.bv_ledger.specs.declared.adds.BeginFault.{BeginFault}
use Rattle.bv_ledger.specs.declared.adds.BeginFault.TheVariants as beginning
use Rattle.bv_ledger.specs.declared.faults.NoNodes.{NoNodes}
use Rattle.bv_ledger.specs.declared.opening.Look.{Look}
use Rattle.bv_ledger.specs.declared.opening.Look.TheVariants as look
use Rattle.bv_store.specs.Stored.{Stored, Grows, HasWholeBlocks, SameData, blocks_on}
use Rattle.bv_writer.specs.Blocks.{IsBlobOf}
use Rattle.bv_volume.specs.Adding.{Admitting, Begins, Ending, IsAdmitted, IsBegun, IsPut}
use Rattle.bv_volume.specs.Events.{event_of, noted}
use Rattle.bv_volume.specs.Kept.{Kept, seen_of}
use Rattle.bv_volume.specs.Sessions.{AreWrites, HasAdmitted, HasBegun, HasPut, MayBegin, Ordered, PutsAreWrites, Stands, Waits, Works, blocks_written, own_add}
use Rattle.spec_served.specs.Adds.{puts_after, puts_of, was_published}
use Rattle.bv_volume.specs.Spaced.{Freed, Handed, Noded, nodes_at}
use Rattle.bv_volume.specs.declared.tokens.Admitted.{Admitted}
use Rattle.bv_volume.specs.declared.tokens.Begun.{Begun}
use Rattle.bv_space.proofs.Entries.{put_back}
use Rattle.bv_volume.proofs.Adds.{tabled_add, unset}
use Rattle.bv_volume.proofs.Admits.{less_none}
use Rattle.bv_volume.proofs.Counting.{grows_so}
use Rattle.bv_volume.proofs.Joins.{grows_join}
use Rattle.bv_volume.proofs.Contents.{KeepsIn, keeps_quiet, keeps_silent}
use Rattle.bv_volume.proofs.Located.{LocatedIn, located_quiet}
use Rattle.bv_volume.proofs.Sessions.{SameAt, grows_by_none, keeps_unwritten, not_put, ordered_after, ordered_idle, same_all, writes_bytes}

in_range : (image : List (List ℕ)) (at : ℕ) → length (block image at) ≡ 8192 → at < length image
in_range [] at is = absurd (omega (arith, is))
in_range (x ∷ image) zero is = omega arith
in_range (x ∷ image) (suc at) is = omega (arith, in_range image at is)

-- a disk with whole data blocks has all of them
whole_room : (g : Geometry) (o : Option Disk) → IfSome o (HasWholeBlocks g) → IfSome o (λ d. (b : ℕ) → b < g.blocks → block_at g b < length d.base)
whole_room g None whole = tt
whole_room g (Some d) whole = λ b low. omega (arith, in_range (now_of d) (block_at g b) (whole b low), length-now_after d.base d.trace)

-- no event was made
pub ordered_fresh : (h : History) (o : Owned) (s : Stored) → h.events ≡ [] → IfSome s.told (HasWholeBlocks s.geometry) → LocatedIn h s → KeepsIn h s → Ordered h o s
ordered_fresh h o s none whole located contents = record {
  order = rw none tt;
  each = λ x a is. let never : None ≡ Some a = sym (ap (λ (es : List CoreEvent). add_of (events_of x es)) none) ∙ is in absurd (cc);
  room = whole_room s.geometry s.told whole;
  puts = no_puts s.told;
  located = located;
  contents = contents;
}
  where
    no_puts : (o : Option Disk) → IfSome o (λ d. PutsAreWrites d.trace h.events)
    no_puts None = tt
    no_puts (Some d) = rw none tt

-- the event takes no add on
pub record TakesNone (act : Act) (q : Reply) : Type 0 where
  pub order : (add : Option OwnAdd) → IsInOrder add act q
  pub add : (add : Option OwnAdd) → add_after add act q ≡ add
  pub puts : (puts : List ℕ) (calls : ℕ) → puts_after puts act q calls ≡ puts
  pub unput : (who : Who) (calls : ℕ) → ¬ IsWritten (event_of who act q calls)
  pub unpublished : was_published act q ≡ false

-- neither a call of the device nor an add
pub ordered_silent : (n n' : Noted) (o : Owned) (s : Stored) (who : Who) (act : Act) (q : Option Reply) (calls : ℕ) → n' ≡ noted n who act q calls → IfSome q (TakesNone act) → Ordered n.history o s → Ordered n'.history o s
ordered_silent n n' o s who act None calls is none old = subst (λ (m : Noted). Ordered m.history o s) (sym is) old
ordered_silent n n' o s who act (Some q) calls is none old =
    subst (λ (m : Noted). Ordered m.history o s) (sym is)
    (ordered_idle n.history o o s s (event_of who act q calls) old refl (λ d more. Unit {0}) (grows_by_none s.told)
    (none.order (own_add n.history who.session)) (located_quiet n.history s s (event_of who act q calls) (λ d more. Unit {0}) refl refl (grows_by_none s.told) old.puts none.unpublished (λ r places there. there) old.located) (keeps_silent n.history s (event_of who act q calls) old.puts none.unpublished old.contents) (none.unput who calls) (none.add (own_add n.history who.session)) (none.puts _ calls) (λ r. keeps_unwritten o o s s.faults r refl refl))

-- whatever the reply is
pub by_any : (act : Act) (q : Option Reply) → ((x : Reply) → TakesNone act x) → IfSome q (TakesNone act)
by_any act None each = tt
by_any act (Some x) each = each x

pub look_takes_none : (slot : ℕ) (what : Look) (q : Reply) → TakesNone (look_act slot what) q
look_takes_none slot (look.Read off len) q = record { order = λ add. tt; add = λ add. refl; puts = λ puts calls. refl; unput = λ who calls w. w.0; unpublished = refl }
look_takes_none slot look.Scan q = record { order = λ add. tt; add = λ add. refl; puts = λ puts calls. refl; unput = λ who calls w. w.0; unpublished = refl }

-- blocks of purges were freed, or a call failed
pub freed_adds : (o o' : Owned) (bs : List ℕ) (failed : Option ℕ) → (failed ≡ None → Freed o o' bs) → ((f : ℕ) → failed ≡ Some f → o' ≡ o) → o'.adds ≡ o.adds
freed_adds o o' bs None done kept = (done refl).adds
freed_adds o o' bs (Some f) done kept = ap (λ (x : Owned). x.adds) (kept f refl)

pub freed_nodes : (o o' : Owned) (bs : List ℕ) (failed : Option ℕ) → (failed ≡ None → Freed o o' bs) → ((f : ℕ) → failed ≡ Some f → o' ≡ o) → o'.nodes ≡ o.nodes
freed_nodes o o' bs None done kept = (done refl).nodes
freed_nodes o o' bs (Some f) done kept = ap (λ (x : Owned). x.nodes) (kept f refl)

pub freed_claims : (o o' : Owned) (bs : List ℕ) (failed : Option ℕ) → (failed ≡ None → Freed o o' bs) → ((f : ℕ) → failed ≡ Some f → o' ≡ o) → o'.claims ≡ o.claims
freed_claims o o' bs None done kept = (done refl).claims
freed_claims o o' bs (Some f) done kept = ap (λ (x : Owned). x.claims) (kept f refl)

-- an add's blocks were handed over, and the purges buried or not
pub handed_adds : (o o' : Owned) (r : Digest) (bs : List ℕ) (failed : Option ℕ) → (failed ≡ None → Handed o o' r bs) → ((f : ℕ) → failed ≡ Some f → Handed o o' r []) → o'.adds ≡ without o.adds r
handed_adds o o' r bs None done kept = (done refl).adds
handed_adds o o' r bs (Some f) done kept = (kept f refl).adds

pub handed_nodes : (o o' : Owned) (r : Digest) (bs : List ℕ) (failed : Option ℕ) → (failed ≡ None → Handed o o' r bs) → ((f : ℕ) → failed ≡ Some f → Handed o o' r []) → o'.nodes ≡ without o.nodes r
handed_nodes o o' r bs None done kept = (done refl).nodes
handed_nodes o o' r bs (Some f) done kept = (kept f refl).nodes

pub handed_claims : (o o' : Owned) (r : Digest) (bs : List ℕ) (failed : Option ℕ) → (failed ≡ None → Handed o o' r bs) → ((f : ℕ) → failed ≡ Some f → Handed o o' r []) → o'.claims ≡ o.claims
handed_claims o o' r bs None done kept = (done refl).claims
handed_claims o o' r bs (Some f) done kept = (kept f refl).claims

-- ---- an add of another root

unlike : (x r : Digest) → ¬ (x ≡ r) → same_digest x r ≡ false
unlike x r other = by_test (same_digest x r) refl
  where
    by_test : (b : Bool) → same_digest x r ≡ b → b ≡ false
    by_test true e = absurd (other (one_digest x r e))
    by_test false e = refl

find_put : {X : Type 0} (es : List (Digest × X)) (r x : Digest) (v : X) → ¬ (x ≡ r) → find (insert_entry digest_cmp es r v) x ≡ find es x
find_put es r x v other = lookup-insert_entry digest_total es r v x ∙ rw (unlike x r other) refl

find_here : {X : Type 0} (es : List (Digest × X)) (r : Digest) (v : X) → find (insert_entry digest_cmp es r v) r ≡ Some v
find_here es r v = lookup-insert_entry digest_total es r v r ∙ rw (same_self r) refl

pub find_less : {X : Type 0} (es : List (Digest × X)) (r x : Digest) → ¬ (r ≡ x) → find (without es r) x ≡ find es x
find_less es r x other = lookup-remove_other digest_total es r x (unlike r x other)

-- ---- what the disk has

pub same_data : (g : Geometry) (o : Option Disk) → Grows o o (λ d more. SameData g d more)
same_data g None = refl
same_data g (Some d) = ([], ap (λ (p : List Event). Some (record { base = d.base; trace = p })) (sym (append-nil d.trace)), λ b. ap (λ (p : List Event). block (now_after d.base p) (block_at g b)) (append-nil d.trace))

pub data_join : (g m : Geometry) (o mid p : Option Disk) → m ≡ g → Grows o mid (λ d more. SameData g d more) → Grows mid p (λ d more. SameData m d more) → Grows o p (λ d more. SameData g d more)
data_join g m o mid p same first second = grows_join o mid p _ _ _ (λ d x y p q b. join d x y b p q) first second
  where
    join : (d : Disk) (x y : List Event) (b : ℕ) → SameData g d x → SameData m (disk_with d x) y → block (now_of (disk_with d (x ++ y))) (block_at g b) ≡ block (now_of d) (block_at g b)
    join d x y b p q =
        ap (λ (t : List Event). block (now_after d.base t) (block_at g b)) (sym (append_assoc d.trace x y))
        ∙ subst (λ (k : Geometry). block (now_of (disk_with (disk_with d x) y)) (block_at k b) ≡ block (now_of (disk_with d x)) (block_at k b)) same (q b) ∙ p b

all_data : (g : Geometry) (o p : Option Disk) (bs : List ℕ) → Grows o p (λ d more. SameData g d more) → Grows o p (λ d more. SameAt g d more bs)
all_data g o p bs grown = grows_so o p _ _ (λ d more same. same_all g d more bs same) grown

-- ---- a sync

pub ordered_sync : (n n' : Noted) (o o' : Owned) (s s' : Stored) (who : Who) (q : Reply) (calls : ℕ) → n' ≡ noted n who Sync (Some q) calls → s'.geometry ≡ s.geometry → s'.began ≡ s.began → ((r : Digest) (places : List ℕ) → find s'.placed r ≡ Some places → find s.placed r ≡ Some places) → o'.adds ≡ o.adds → o'.nodes ≡ o.nodes → Grows s.told s'.told (λ d more. SameData s.geometry d more) → Ordered n.history o s → Ordered n'.history o' s'
ordered_sync n n' o o' s s' who q calls is geometry began less adds nodes stays old =
    subst (λ (m : Noted). Ordered m.history o' s') (sym is)
    (ordered_idle n.history o o' s s' (event_of who Sync q calls) old geometry (λ d more. SameData s.geometry d more) stays tt (located_quiet n.history s s' (event_of who Sync q calls) (λ d more. SameData s.geometry d more) geometry began stays old.puts refl less old.located) (keeps_quiet n.history s s' (event_of who Sync q calls) (λ d more. SameData s.geometry d more) geometry stays old.puts refl less (λ d more same r places there. same_all s.geometry d more places same) old.contents) (λ w. w.0) refl refl
    (λ r. record {
      blocks = ap (λ (es : List (Digest × Vec ℕ)). find es r) adds;
      nodes = ap (λ (es : List (Digest × ℕ)). find es r) nodes;
      stays = λ v has. all_data s.geometry s.told s'.told v.items stays;
    }))

-- ---- what the tokens say

module _ (n : Noted) (next : ℕ) (t : Tables) (o : Owned) (s : Stored) (Both : Map → Map → Type 0) (x : ℕ) (kept : Kept n next t s Both) (old : Ordered n.history o s) where
  pub agrees : Agrees (λ y. own_add n.history y) (last_state n.history next).adds
  agrees = agrees_last n.history next kept.legal old.order

  pub begun_is : (b : Begun) → HasBegun n.history x b → IsBegun (seen_of n next t o s) b
  begun_is b is =
      let w = old.each x (new_add b.root b.size) is in
      record { under_way = agrees.mine x (new_add b.root b.size) is; blocks = w.blocks; has = w.has; none = w.none; nodes = w.unset }

  abbrev pub its : Admitted → OwnAdd
  its a = record { root = a.root; size = a.size; admitted = true; puts = a.put }

  pub works : (a : Admitted) → HasAdmitted n.history x a → Works n.history.version o.adds o.nodes s.geometry s.told (puts_of (events_of x n.history.events)) (its a)
  works a is = old.each x (its a) is

  pub admitted_is : (a : Admitted) → HasAdmitted n.history x a → IsAdmitted (seen_of n next t o s) a
  admitted_is a is =
      let w = works a is in
      record {
        under_way = agrees.mine x (its a) is;
        blocks = w.blocks;
        has = w.has;
        need = w.need;
        put = omega (arith, w.count, ap (λ (bs : List ℕ). length bs) w.parts, length-append w.done w.rest);
        nodes = w.aside;
      }

  -- all of its blocks were put
  whole : (bs cs : List ℕ) → length (bs ++ cs) ≡ length bs → bs ++ cs ≡ bs
  whole bs [] same = append-nil bs
  whole bs (c ∷ cs) same = absurd (omega (arith, same, length-append bs (c ∷ cs)))

  all_done : (a : Admitted) (is : HasAdmitted n.history x a) → a.put ≡ need_of n.history.version a.size → (works a is).blocks.items ≡ (works a is).done
  all_done a is put =
      let w = works a is in
      w.parts ∙ whole w.done w.rest (omega (arith, w.count, w.need, put, ap (λ (bs : List ℕ). length bs) w.parts))

  pub put_wrote : (a : Admitted) → HasAdmitted n.history x a → a.put ≡ need_of n.history.version a.size → (blocks : Vec ℕ) → find o.adds a.root ≡ Some blocks → IfSome s.told (λ d. AreWrites s.geometry d (puts_of (events_of x n.history.events)) blocks.items)
  put_wrote a is put blocks has =
      let w = works a is in
      let both : Some w.blocks ≡ Some blocks = sym w.has ∙ has in
      let same : w.blocks ≡ blocks = cc in
      subst (λ (bs : List ℕ). IfSome s.told (λ d. AreWrites s.geometry d (puts_of (events_of x n.history.events)) bs)) (sym (all_done a is put) ∙ ap (λ (v : Vec ℕ). v.items) same) w.wrote

  pub put_is : (a : Admitted) → HasAdmitted n.history x a → HasPut (seen_of n next t o s) x a → IsPut (seen_of n next t o s) a
  put_is a is put = record { all = put.all; there = rw (w.has) (go s.told w.wrote put.there) }
    where
      w : Works n.history.version o.adds o.nodes s.geometry s.told (puts_of (events_of x n.history.events)) (its a)
      w = works a is

      all : w.blocks.items ≡ w.done
      all = all_done a is put.all

      go : (told : Option Disk) → IfSome told (λ d. AreWrites s.geometry d (puts_of (events_of x n.history.events)) w.done) → IfSome told (λ d. IsBlobOf n.history.version a.root a.size (blocks_written d.trace (events_of x n.history.events)))
          → IfSome told (λ d. IsBlobOf n.history.version a.root a.size (blocks_on s.geometry d w.blocks.items))
      go None wrote there = tt
      go (Some d) wrote there =
          subst (λ (bs : List (List ℕ)). IsBlobOf n.history.version a.root a.size bs)
          (writes_bytes s.geometry d (puts_of (events_of x n.history.events)) w.done wrote ∙ ap (λ (bs : List ℕ). blocks_on s.geometry d bs) (sym all)) there

  -- an add that ends
  pub ordered_ends : (n' : Noted) (o' : Owned) (s' : Stored) (who : Who) (act : Act) (q : Reply) (calls : ℕ) (a : OwnAdd) → who.session ≡ x → own_add n.history x ≡ Some a → n' ≡ noted n who act (Some q) calls → s'.geometry ≡ s.geometry → IsInOrder (Some a) act q → LocatedIn (with_event n.history (event_of who act q calls)) s' → KeepsIn (with_event n.history (event_of who act q calls)) s' → ¬ IsWritten (event_of who act q calls) → add_after (Some a) act q ≡ None → o'.adds ≡ without o.adds a.root → o'.nodes ≡ without o.nodes a.root
      → Grows s.told s'.told (λ d more. SameData s.geometry d more) → Ordered n'.history o' s'
  ordered_ends n' o' s' who act q calls a me is noted_is geometry order located contents none gone adds nodes stays =
      let mine : own_add n.history who.session ≡ Some a = ap (λ (y : ℕ). own_add n.history y) me ∙ is in
      subst (λ (m : Noted). Ordered m.history o' s') (sym noted_is)
      (ordered_after n.history o o' s s' (event_of who act q calls) old geometry (λ d more. SameData s.geometry d more) stays
      (subst (λ (add : Option OwnAdd). IsInOrder add act q) (sym mine) order) located contents (not_put s'.told (event_of who act q calls) none)
      (λ b now. let never : Some b ≡ None = sym now ∙ ap (λ (add : Option OwnAdd). add_after add act q) mine ∙ gone in absurd (cc))
      (λ y b other its.
      let apart : ¬ (a.root ≡ b.root) = agrees.apart who.session y a b other mine its in
      record {
        blocks = ap (λ (es : List (Digest × Vec ℕ)). find es b.root) adds ∙ find_less o.adds a.root b.root apart;
        nodes = ap (λ (es : List (Digest × ℕ)). find es b.root) nodes ∙ find_less o.nodes a.root b.root apart;
        stays = λ v has. all_data s.geometry s.told s'.told v.items stays;
      }))

  -- one that was retired, or refused
  pub ordered_ended : (n' : Noted) (o' : Owned) (who : Who) (act : Act) (q : Reply) (calls : ℕ) (a : OwnAdd) → who.session ≡ x → own_add n.history x ≡ Some a → n' ≡ noted n who act (Some q) calls → IsInOrder (Some a) act q → ¬ IsWritten (event_of who act q calls) → was_published act q ≡ false → add_after (Some a) act q ≡ None → o'.adds ≡ without o.adds a.root → o'.nodes ≡ without o.nodes a.root → Ordered n'.history o' s
  ordered_ended n' o' who act q calls a me is noted_is order none unpublished gone adds nodes =
      ordered_ends n' o' s who act q calls a me is noted_is refl order
      (located_quiet n.history s s (event_of who act q calls) (λ d more. Unit {0}) refl refl (grows_by_none s.told) old.puts unpublished (λ r places there. there) old.located) (keeps_silent n.history s (event_of who act q calls) old.puts unpublished old.contents) none gone adds nodes (same_data s.geometry s.told)

  -- an add that was admitted, or that has no nodes
  pub ordered_admit : (n' : Noted) (mid o' : Owned) (who : Who) (r : Digest) (size free count calls : ℕ) (res : Result (Unit {0}) NoNodes) → who.session ≡ x → own_add n.history x ≡ Some (new_add r size) → n' ≡ noted n who (Admit r) (Some (admit_reply res)) calls → mid ≡ record o { nodes = insert_entry digest_cmp o.nodes r 0 } → find o.nodes r ≡ None → count ≡ need_of n.history.version size
      → OnOk res (Admitting mid o' r free count) → OnErr res (Ending mid o' r count) → Ordered n'.history o' s
  ordered_admit n' mid o' who r size free count calls (Err e) me is noted_is marked unset need ok err =
      ordered_ended n' o' who (Admit r) (replies.NoNodes e.need e.free) calls (new_add r size) me is noted_is refl (λ w. w.0) refl refl
      (ap (λ (y : Owned). y.adds) err.is ∙ ap (λ (y : Owned). without y.adds r) marked)
      (ap (λ (y : Owned). y.nodes) err.is ∙ ap (λ (y : Owned). without y.nodes r) marked ∙ put_back o.nodes r 0 unset ∙ sym (less_none o.nodes r unset))
  ordered_admit n' mid o' who r size free count calls (Ok v) me is noted_is marked unset need m err =
      let mine : own_add n.history who.session ≡ Some (new_add r size) = ap (λ (y : ℕ). own_add n.history y) me ∙ is in
      let k : ℕ = nodes_at m.blocks.items in
      let now_adds : o'.adds ≡ insert_entry digest_cmp o.adds r m.blocks = ap (λ (y : Owned). y.adds) m.is ∙ ap (λ (y : Owned). insert_entry digest_cmp y.adds r m.blocks) marked in
      let now_nodes : o'.nodes ≡ insert_entry digest_cmp (insert_entry digest_cmp o.nodes r 0) r k = ap (λ (y : Owned). y.nodes) m.is ∙ ap (λ (y : Owned). insert_entry digest_cmp y.nodes r k) marked in
      let works_now : Works n.history.version o'.adds o'.nodes s.geometry s.told [] (admitted_add (new_add r size)) = record {
        blocks = m.blocks;
        has = ap (λ (es : List (Digest × Vec ℕ)). find es r) now_adds ∙ find_here o.adds r m.blocks;
        need = m.count ∙ need;
        aside = ap (λ (y : Option ℕ). is_some y) (ap (λ (es : List (Digest × ℕ)). find es r) now_nodes ∙ find_here (insert_entry digest_cmp o.nodes r 0) r k);
        done = [];
        rest = m.blocks.items;
        parts = refl;
        count = refl;
        wrote = nothing s.told;
      } in
      subst (λ (y : Noted). Ordered y.history o' s) (sym noted_is)
      (ordered_after n.history o o' s s (event_of who (Admit r) replies.Admitted calls) old refl (λ d more. Unit {0}) (grows_by_none s.told)
      (subst (λ (add : Option OwnAdd). IsInOrder add (Admit r) replies.Admitted) (sym mine) refl)
      (located_quiet n.history s s (event_of who (Admit r) replies.Admitted calls) (λ d more. Unit {0}) refl refl (grows_by_none s.told) old.puts refl (λ y places there. there) old.located) (keeps_silent n.history s (event_of who (Admit r) replies.Admitted calls) old.puts refl old.contents) (not_put s.told (event_of who (Admit r) replies.Admitted calls) (λ w. w.0))
      (λ b now.
      let both : Some (admitted_add (new_add r size)) ≡ Some b = sym (ap (λ (add : Option OwnAdd). add_after add (Admit r) replies.Admitted) mine) ∙ now in
      let same : admitted_add (new_add r size) ≡ b = cc in
      subst (λ (a : OwnAdd). Stands a.admitted n.history.version o'.adds o'.nodes s.geometry s.told [] a) same works_now)
      (λ y b other its.
      let apart : ¬ (b.root ≡ r) = λ e. agrees.apart who.session y (new_add r size) b other mine its (sym e) in
      keeps_unwritten o o' s s.faults b.root
      (ap (λ (es : List (Digest × Vec ℕ)). find es b.root) now_adds ∙ find_put o.adds r b.root m.blocks apart)
      (ap (λ (es : List (Digest × ℕ)). find es b.root) now_nodes ∙ find_put (insert_entry digest_cmp o.nodes r 0) r b.root k apart ∙ find_put o.nodes r b.root 0 apart)))
    where
      nothing : (told : Option Disk) → IfSome told (λ d. AreWrites s.geometry d [] [])
      nothing None = tt
      nothing (Some d) = tt

-- ---- an add that begins

module _ (n : Noted) (next : ℕ) (t new : Tables) (o o' : Owned) (s : Stored) (Both : Map → Map → Type 0) (who : Who) (r : Digest) (size calls : ℕ) (kept : Kept n next t s Both) (old : Ordered n.history o s) (noded : Noded t o s) (may : MayBegin n.history who.session r) where
  under : (x : ℕ) (a : OwnAdd) → own_add n.history x ≡ Some a → find t.adds a.root ≡ Some a.size
  under x a is = tabled_add n next t s Both kept a.root a.size ((agrees n next t o s Both x kept old).mine x a is)

  foreign : find t.adds r ≡ None → (x : ℕ) (a : OwnAdd) → own_add n.history x ≡ Some a → ¬ (a.root ≡ r)
  foreign fresh x a is same =
      let there : find t.adds r ≡ Some a.size = subst (λ (y : Digest). find t.adds y ≡ Some a.size) same (under x a is) in
      let never : None ≡ Some a.size = sym fresh ∙ there in cc

  none_yet : find t.adds r ≡ None → (add : Option OwnAdd) → own_add n.history who.session ≡ add → IfSome add (λ a. a.root ≡ r) → add ≡ None
  none_yet fresh None is same = refl
  none_yet fresh (Some a) is same = absurd (foreign fresh who.session a is same)

  refused : (f : BeginFault) → IfSome (begin_reply {T = Grant} (Err f)) (TakesNone (Begin r size))
  refused (beginning.Stopped f) = record { order = λ add. tt; add = λ add. refl; puts = λ puts calls. refl; unput = λ who calls w. w.0; unpublished = refl }
  refused beginning.Exists = record { order = λ add. tt; add = λ add. refl; puts = λ puts calls. refl; unput = λ who calls w. w.0; unpublished = refl }
  refused (beginning.Leaving h) = record { order = λ add. tt; add = λ add. refl; puts = λ puts calls. refl; unput = λ who calls w. w.0; unpublished = refl }
  refused beginning.InFlight = record { order = λ add. tt; add = λ add. refl; puts = λ puts calls. refl; unput = λ who calls w. w.0; unpublished = refl }
  refused (beginning.NoSpace a b) = record { order = λ add. tt; add = λ add. refl; puts = λ puts calls. refl; unput = λ who calls w. w.0; unpublished = refl }
  refused beginning.NoMemory = tt

  granted : Begins t new o o' r size → Ordered (with_event n.history (event_of who (Begin r size) replies.Granted calls)) o' s
  granted b =
      let now_adds : o'.adds ≡ insert_entry digest_cmp o.adds r b.blocks = ap (λ (y : Owned). y.adds) b.space in
      let now_nodes : o'.nodes ≡ o.nodes = ap (λ (y : Owned). y.nodes) b.space in
      let waits : Waits o'.adds o'.nodes (new_add r size) = record {
        puts = refl;
        blocks = b.blocks;
        has = ap (λ (es : List (Digest × Vec ℕ)). find es r) now_adds ∙ find_here o.adds r b.blocks;
        none = b.none;
        unset = ap (λ (es : List (Digest × ℕ)). find es r) now_nodes ∙ unset t o s noded r b.tables.fresh;
      } in
      ordered_after n.history o o' s s (event_of who (Begin r size) replies.Granted calls) old refl (λ d more. Unit {0}) (grows_by_none s.told)
      (none_yet b.tables.fresh (own_add n.history who.session) refl may)
      (located_quiet n.history s s (event_of who (Begin r size) replies.Granted calls) (λ d more. Unit {0}) refl refl (grows_by_none s.told) old.puts refl (λ y places there. there) old.located) (keeps_silent n.history s (event_of who (Begin r size) replies.Granted calls) old.puts refl old.contents) (not_put s.told (event_of who (Begin r size) replies.Granted calls) (λ w. w.0))
      (λ a now. let same : new_add r size ≡ a = cc in subst (λ (y : OwnAdd). Stands y.admitted n.history.version o'.adds o'.nodes s.geometry s.told (puts_of (events_of who.session n.history.events)) y) same waits)
      (λ y a other its.
      keeps_unwritten o o' s s.faults a.root
      (ap (λ (es : List (Digest × Vec ℕ)). find es a.root) now_adds ∙ find_put o.adds r a.root b.blocks (foreign b.tables.fresh y a its))
      (ap (λ (es : List (Digest × ℕ)). find es a.root) now_nodes))

  pub ordered_begin : (n' : Noted) (res : Result Grant BeginFault) → n' ≡ noted n who (Begin r size) (begin_reply res) calls → OnOk res (Begins t new o o' r size) → OnErr res (o' ≡ o) → Ordered n'.history o' s
  ordered_begin n' (Ok g) is b err = subst (λ (m : Noted). Ordered m.history o' s) (sym is) (granted b)
  ordered_begin n' (Err f) is b err = subst (λ (y : Owned). Ordered n'.history y s) (sym err) (ordered_silent n n' o s who (Begin r size) (begin_reply {T = Grant} (Err f)) calls is (refused f) old)
