-- A whole admit: the tables and the space go on together.
use Rattle.std.proofs.Common.{◌≡◌, ◌≤◌, ◌<◌, ℕ, ◌+◌, ◌-◌, [], sum, List, length, Option, Some, None, Result, Ok, Err, OnOk, OnErr, IfOk, IfErr, cond, is_some, IfSome, ◌++◌, refl, ap, sym, ◌∙◌, subst, arith}
use Rattle.std.specs.BTreeMap.{insert_entry}
use Rattle.std.specs.Global.{Vec}
use Rattle.std.specs.List.Sorted.{IsStrictlySortedBy}
use Rattle.std.specs.Map.{keys_of, values_of}
use Rattle.spec_tree.specs.Order.{digest_cmp, same_digest}
use Rattle.spec_tree.specs.Tree.{need_of}
use Rattle.spec_tree.specs.declared.Digest.{Digest}
use Rattle.spec_core.specs.Log.{without}
use Rattle.spec_core.specs.Room.{worst_nodes}
use Rattle.spec_core.specs.State.{State, find}
use Rattle.spec_core.specs.declared.act.Act.TheVariants.{Admit}
use Rattle.spec_core.specs.declared.map_change.MapChange.{MapChange}
use Rattle.spec_core.specs.declared.reply.Reply.TheVariants as replies
use Rattle.spec_core.specs.declared.who.Who.{Who}
use Rattle.bv_claims.specs.Blocks.{times, HasEachOnce, HaveSameBlocks, Rises}
use Rattle.bv_claims.specs.Tokens.{block_count}
use Rattle.bv_claims.proofs.Counts.{times-append}
use Rattle.bv_model.specs.Sole.{Sole}
use Rattle.bv_space.specs.Owned.{Owned}
use Rattle.bv_space.proofs.Entries.{put_back}
use Rattle.bv_space.proofs.Freeing.{freed_again}
use Rattle.bv_ledger.specs.Answers as A
use Rattle.bv_ledger.specs.Tables as L
use Rattle.bv_ledger.specs.Tables.{Tables, Accounts}
use Rattle.bv_ledger.specs.declared.faults.NoNodes.{NoNodes}
use Rattle.bv_store.specs.Stored.{Stored}
use Rattle.spec_core.proofs.EntryLemmas.{lookup-insert_entry}
use Rattle.spec_core.proofs.Holding.{digest_total, same_self}
use Rattle.spec_core.specs.declared.setting.Setting.{Setting}
use Rattle.spec_rest.specs.Rest.{Map}
use Rattle.bv_claims.specs.declared.claimed.Claimed.{Claimed}
use Rattle.bv_claims.specs.declared.claims.Claims.{Claims}
use Rattle.bv_model.specs.Noted.{Noted}
use Rattle.bv_volume.specs.Adding.{Admitting, Ending, IsAdmitted}
use Rattle.bv_volume.specs.Admitted.{Gathered, HandsBoth, IsAnswer, IsGiven, IsNeedOf, TellsNodes, free_in}
use Rattle.bv_volume.specs.Kept.{Kept, seen_of}
use Rattle.bv_volume.specs.Seen.{Seen}
use Rattle.bv_volume.specs.declared.admitting.AdmitFault.{AdmitFault}
use Rattle.bv_volume.specs.declared.tokens.Admitted.{Admitted}
use Rattle.bv_volume.specs.declared.tokens.Begun.{Begun}
use Rattle.bv_volume.specs.Spaced.{nodes_at, Spaced}
use Rattle.bv_volume.proofs.Adds.{Ends, seen_add, spaced_ends}
use Rattle.bv_volume.proofs.Admits.{Admits, less_none, nodes_within, spaced_admits}
use Rattle.bv_volume.proofs.Still.{still, spaced_still}
use Rattle.bv_volume.proofs.Ties.{IsSilent}

pub admit_silent : (r : Result (Unit {0}) NoNodes) → IsSilent (Some (A.admit_reply r))
admit_silent (Ok v) = (refl, refl)
admit_silent (Err e) = (refl, refl)

pub admit_claims : (o mid o' : Owned) (r : Digest) (free count : ℕ) (res : Result (Unit {0}) NoNodes) → mid ≡ record o { nodes = insert_entry digest_cmp o.nodes r 0 } → OnOk res (Admitting mid o' r free count) → OnErr res (Ending mid o' r count) → o'.claims ≡ o.claims
admit_claims o mid o' r free count (Ok v) marked ok err = ap (λ (x : Owned). x.claims) ok.is ∙ ap (λ (x : Owned). x.claims) marked
admit_claims o mid o' r free count (Err e) marked ok err = ap (λ (x : Owned). x.claims) err.is ∙ ap (λ (x : Owned). x.claims) marked

module _ (t new : Tables) (o mid o' : Owned) (s : Stored) (Held : ℕ → Type 0) (log : List MapChange) (durable : ℕ) (who : Who) (r : Digest) (size free count : ℕ) (w : Vec ℕ) (accounts : Accounts t log durable) (spaced : Spaced t o s Held) (under : find t.adds r ≡ Some size) (had : find o.adds r ≡ Some w) (empty : w.items ≡ []) (unset : find o.nodes r ≡ None) (sole : Sole t.adds)
    (noted : mid ≡ record o { nodes = insert_entry digest_cmp o.nodes r 0 }) (counts : count ≡ need_of t.setting.version size) (frees : free ≡ s.geometry.nodes - s.used_nodes - sum (values_of o.nodes)) where
  abbrev marked : Owned
  marked = record o { nodes = insert_entry digest_cmp o.nodes r 0 }

  given : Admitting mid o' r free count → L.Does t new who (Admit r) (Some replies.Admitted) → Spaced new o' s Held
  given is does =
      let m : Admitting marked o' r free count = subst (λ (x : Owned). Admitting x o' r free count) noted is in
      let a : Admits o o' r (nodes_at m.blocks.items) = record {
        blocks = m.blocks;
        owned = m.owned;
        rising = m.rising;
        room = ap (λ (x : Owned). x.room) m.is;
        adds = ap (λ (x : Owned). x.adds) m.is;
        noted = ap (λ (x : Owned). x.nodes) m.is;
        nodes = refl;
        claims = ap (λ (x : Owned). x.claims) m.is;
        gone = ap (λ (x : Owned). x.gone) m.is;
        once = m.once;
        sorted = m.sorted;
        sorted_nodes = m.sorted_nodes;
      } in
      spaced_still t new o' s Held (still t new log durable who (Admit r) replies.Admitted accounts does refl) (sym (ap (λ (x : State). x.adds) (does.1 log durable accounts).state))
      (spaced_admits t o o' s Held r size (nodes_at m.blocks.items) w spaced a under had empty unset (m.count ∙ counts) (omega (arith, m.enough, frees, spaced.nodes.room, spaced.nodes.count)))

  taken_back : (need here : ℕ) → Ending mid o' r count → L.Does t new who (Admit r) (Some (replies.NoNodes need here)) → Spaced new o' s Held
  taken_back need here is does =
      let m : Ending marked o' r count = subst (λ (x : Owned). Ending x o' r count) noted is in
      let e : Ends o o' r (need_of t.setting.version size) w.items = record {
        owned = λ b. omega (arith, m.owned b, times-append b o'.owned w.items, ap (times b) empty);
        room = m.room ∙ ap (λ (k : ℕ). o.room + k) counts;
        adds = ap (λ (x : Owned). x.adds) m.is;
        claims = ap (λ (x : Owned). x.claims) m.is;
        gone = ap (λ (x : Owned). x.gone) m.is;
        nodes = ap (λ (x : Owned). x.nodes) m.is ∙ put_back o.nodes r 0 unset ∙ sym (less_none o.nodes r unset);
        once = m.once;
      } in
      spaced_ends t new o o' s Held r size w (still t new log durable who (Admit r) (replies.NoNodes need here) accounts does refl) (sym (ap (λ (x : State). x.adds) (does.1 log durable accounts).state)) under had sole e spaced

  pub spaced_admit : (res : Result (Unit {0}) NoNodes) → L.Does t new who (Admit r) (Some (A.admit_reply res)) → OnOk res (Admitting mid o' r free count) → OnErr res (Ending mid o' r count) → Spaced new o' s Held
  spaced_admit (Ok v) does ok err = given ok does
  spaced_admit (Err e) does ok err = taken_back e.need e.free err does

-- ---- what is gathered, given and released

abbrev IsInOrder : {X : Type 0} → List (Digest × X) → Type 0
IsInOrder es = IsStrictlySortedBy digest_cmp (keys_of es)

pub most_of : (version k sum : ℕ) (bs : List ℕ) (o : Option ℕ) → IfSome o (λ n. sum ≡ need_of version n) → length bs ≡ sum → k ≡ nodes_at bs → IfSome o (λ n. k ≤ worst_nodes version n)
most_of version k sum bs None h len is = tt
most_of version k sum bs (Some n) h len is = omega (arith, is, nodes_within version n bs (len ∙ h))

module _ (old mid new : Owned) (r : Digest) (k sum : ℕ) (blocks : Vec ℕ) (gathered : mid ≡ record old { owned = mid.owned }) (had : HaveSameBlocks mid.owned (old.owned ++ blocks.items)) (len : length blocks.items ≡ sum) where
  pub admitting_of : (free : ℕ) → new ≡ record mid { adds = insert_entry digest_cmp mid.adds r blocks; nodes = insert_entry digest_cmp mid.nodes r k } → k ≡ nodes_at blocks.items → k ≤ free → Rises 1 blocks.items (block_count old.claims) → HasEachOnce mid.owned → IsInOrder mid.adds × IsInOrder new.adds → IsInOrder mid.nodes × IsInOrder new.nodes → Admitting old new r free sum
  admitting_of free given is enough rising once sorted sorted_nodes =
      let adds = ap (λ (x : Owned). x.adds) gathered in
      let nodes = ap (λ (x : Owned). x.nodes) gathered in
      let owned : new.owned ≡ mid.owned = ap (λ (x : Owned). x.owned) given in
      let whole : new ≡ record old { owned = mid.owned; adds = insert_entry digest_cmp old.adds r blocks; nodes = insert_entry digest_cmp old.nodes r k } = given ∙ ap (λ (x : Owned). record x { adds = insert_entry digest_cmp x.adds r blocks; nodes = insert_entry digest_cmp x.nodes r k }) gathered in
      record {
        blocks = blocks;
        owned = λ b. ap (λ (xs : List ℕ). times b xs) owned ∙ had b;
        rising = rising;
        count = len;
        is = whole ∙ ap (λ (xs : List ℕ). record old { owned = xs; adds = insert_entry digest_cmp old.adds r blocks; nodes = insert_entry digest_cmp old.nodes r k }) (sym owned)
            ∙ ap (λ (x : ℕ). record old { owned = new.owned; adds = insert_entry digest_cmp old.adds r blocks; nodes = insert_entry digest_cmp old.nodes r x }) is;
        enough = omega (arith, enough, is);
        once = subst (λ (xs : List ℕ). HasEachOnce xs) (sym owned) once;
        sorted = (subst (λ (es : List (Digest × Vec ℕ)). IsInOrder es) adds sorted.0, sorted.1);
        sorted_nodes = (subst (λ (es : List (Digest × ℕ)). IsInOrder es) nodes sorted_nodes.0, sorted_nodes.1);
      }

  pub ending_of : HaveSameBlocks mid.owned (new.owned ++ blocks.items) → new.room ≡ mid.room + length blocks.items → new ≡ record mid { owned = new.owned; room = new.room; adds = without mid.adds r; nodes = without mid.nodes r } → HasEachOnce new.owned → Ending old new r sum
  ending_of freed room rest once = record {
    owned = freed_again old.owned blocks.items mid.owned new.owned had freed;
    room = room ∙ ap (λ (x : Owned). x.room + length blocks.items) gathered ∙ ap (λ (n : ℕ). old.room + n) len;
    is = rest ∙ ap (λ (x : Owned). record x { owned = new.owned; room = new.room; adds = without x.adds r; nodes = without x.nodes r }) gathered;
    once = once;
  }

-- ---- what the answer says

module _ (n n' : Noted) (next : ℕ) (t new : Tables) (o mid o' : Owned) (s : Stored) (Both : Map → Map → Type 0) (who : Who) (r : Digest) (size free count : ℕ) (kept : Kept n next t s Both) (after : Kept n' next new s Both) (under : find t.adds r ≡ Some size) (counts : count ≡ need_of t.setting.version size) where
  itself : {X : Type 0} (x : X) (other : Option X) → cond (same_digest r r) (Some x) other ≡ Some x
  itself x other = rw (same_self r) refl

  is_now : Admitting mid o' r free count → new.adds ≡ t.adds → new.setting ≡ t.setting → IsAdmitted (seen_of n' next new o' s) (record { root = r; size = size; put = 0 })
  is_now m adds setting =
      let found_nodes : find o'.nodes r ≡ Some (nodes_at m.blocks.items) = ap (λ (x : Owned). find x.nodes r) m.is ∙ lookup-insert_entry digest_total mid.nodes r (nodes_at m.blocks.items) r ∙ itself (nodes_at m.blocks.items) (find mid.nodes r) in
      record {
        under_way = seen_add n' next new s Both after r size (ap (λ (es : List (Digest × ℕ)). find es r) adds ∙ under);
        blocks = m.blocks;
        has = ap (λ (x : Owned). find x.adds r) m.is ∙ lookup-insert_entry digest_total mid.adds r m.blocks r ∙ itself m.blocks (find mid.adds r);
        need = m.count ∙ counts ∙ ap (λ (g : Setting). need_of g.version size) (sym setting ∙ after.setting);
        put = omega arith;
        nodes = ap (λ (x : Option ℕ). is_some x) found_nodes;
      }

  pub now_admitted : (res : Result (Unit {0}) NoNodes) (result : Result Admitted AdmitFault) → IsAnswer res result r size → L.Does t new who (Admit r) (Some (A.admit_reply res)) → OnOk res (Admitting mid o' r free count)
      → IfOk result (λ a. (a ≡ record { root = r; size = size; put = 0 }) × IsAdmitted (seen_of n' next new o' s) a)
  now_admitted (Ok v) result is does ok =
      let adds = sym (ap (λ (x : State). x.adds) (does.1 _ _ kept.accounts).state) in
      subst (λ (x : Result Admitted AdmitFault). IfOk x (λ a. (a ≡ record { root = r; size = size; put = 0 }) × IsAdmitted (seen_of n' next new o' s) a)) (sym is) (refl, is_now ok adds does.0)
  now_admitted (Err e) result is does ok = subst (λ (x : Result Admitted AdmitFault). IfOk x (λ a. (a ≡ record { root = r; size = size; put = 0 }) × IsAdmitted (seen_of n' next new o' s) a)) (sym is) tt

-- the add's blocks are those that were gathered
pub given_of : (mid new : Owned) (r : Digest) (k : ℕ) (blocks : Vec ℕ) (claims : Claims) (claimed : Claimed) (free : ℕ) → new ≡ record mid { adds = insert_entry digest_cmp mid.adds r blocks; nodes = insert_entry digest_cmp mid.nodes r k } → Gathered claims claimed blocks.items → nodes_at blocks.items ≤ free → IsGiven new.adds r claims claimed free
given_of mid new r k blocks claims claimed free is gathered enough =
    let here : cond (same_digest r r) (Some blocks) (find mid.adds r) ≡ Some blocks = rw (same_self r) refl in
    record {
      blocks = blocks;
      has = ap (λ (x : Owned). find x.adds r) is ∙ lookup-insert_entry digest_total mid.adds r blocks r ∙ here;
      gathered = gathered;
      enough = enough;
    }

-- and so of the volumes before and after
pub answer_nodes : (old new : Seen) (claimed : Claimed) (claims : Claims) (r : Digest) (n free : ℕ) (res : Result (Unit {0}) NoNodes) (result : Result Admitted AdmitFault) → IsAnswer res result r n → OnOk res (IsGiven new.space.adds r claims claimed free) → IfErr res (λ e. (free < e.need) × (e.free ≡ free) × IsNeedOf claims claimed e.need) → claims ≡ old.space.claims → free ≡ free_in old → TellsNodes old new claimed result
answer_nodes old new claimed claims r n free (Ok v) result is given told table frees =
    subst (λ (x : Result Admitted AdmitFault). TellsNodes old new claimed x) (sym is)
    (subst (λ (k : ℕ). IsGiven new.space.adds r old.space.claims claimed k) frees (subst (λ (x : Claims). IsGiven new.space.adds r x claimed free) table given))
answer_nodes old new claimed claims r n free (Err e) result is given told table frees =
    subst (λ (x : Result Admitted AdmitFault). TellsNodes old new claimed x) (sym is)
    (omega (arith, told.0, told.1), told.1 ∙ frees, subst (λ (x : Claims). IsNeedOf x claimed e.need) table told.2)

pub answer_back : (begun : Begun) (claimed : Claimed) (r : Digest) (n : ℕ) (res : Result (Unit {0}) NoNodes) (result : Result Admitted AdmitFault) → IsAnswer res result r n → HandsBoth result begun claimed
answer_back begun claimed r n (Ok v) result is = subst (λ (x : Result Admitted AdmitFault). HandsBoth x begun claimed) (sym is) tt
answer_back begun claimed r n (Err e) result is = subst (λ (x : Result Admitted AdmitFault). HandsBoth x begun claimed) (sym is) tt
