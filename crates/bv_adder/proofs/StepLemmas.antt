-- From one call of an add to the next.
use Rattle.std.proofs.Common.{◌≡◌, ◌≤◌, ◌<◌, ◌+◌, ℕ, List, length, take, Option, None, Some, sym, ap, ◌∙◌, subst, arith, take_all}
use Rattle.std.specs.Prelude.{[], IfSome, OnErr, OnOk, Result, Ok, Err, slice_index_or}
use Rattle.spec_tree.specs.Tree.{need_of}
use Rattle.spec_tree.specs.declared.Digest.{Digest}
use Rattle.spec_core.specs.declared.act.Act.TheVariants.{Admit, Begin, Put}
use Rattle.spec_core.specs.declared.reply.Reply.{Reply}
use Rattle.spec_core.specs.declared.reply.Reply.TheVariants as replies
use Rattle.spec_core.specs.declared.reply.Reply.TheVariants.{Admitted as IsAdmitted, Granted, Written}
use Rattle.spec_core.specs.declared.who.Who.{Who}
use Rattle.spec_session.specs.Own.{OwnAdd, add_after, new_add}
use Rattle.bv_claims.specs.Tokens.{IsClaimedOf, claimed_gained, claimed_left}
use Rattle.bv_claims.specs.declared.claimed.Claimed.{Claimed}
use Rattle.bv_claims.specs.declared.claims.Claims.{Claims}
use Rattle.bv_session.proofs.AddLemmas.{put_has, put_keeps}
use Rattle.bv_session.proofs.WrittenLemmas.{blob_length}
use Rattle.bv_session.specs.Adds.{HasPut, put_of}
use Rattle.bv_session.specs.Events.{IsRefusal}
use Rattle.bv_device.specs.Told.{Disk}
use Rattle.bv_volume.specs.Adding.{ClaimsFor, Writes}
use Rattle.bv_volume.specs.Answers.{put_reply}
use Rattle.bv_volume.specs.Events.{Happens}
use Rattle.bv_volume.specs.Seen.{Seen}
use Rattle.bv_volume.specs.Sessions as S
use Rattle.bv_volume.specs.Sessions.{HasAdmitted, HasBegun, MayBegin, PutsAreWrites, blocks_written, own_add}
use Rattle.bv_volume.specs.declared.putting.PutFault.{PutFault}
use Rattle.bv_volume.specs.declared.putting.PutFault.TheVariants as faults
use Rattle.bv_volume.specs.declared.tokens.Admitted.{Admitted}
use Rattle.bv_volume.specs.declared.tokens.Begun.{Begun}
use Rattle.bv_writer.specs.Blocks.{IsBlobOf}
use Rattle.bv_writer.specs.Plans.{Plan}
use Rattle.bv_adder.specs.Steps.{HasClaimed, HasPuts, add_by, own}
use Rattle.bv_adder.proofs.EventLemmas.{add_then, gains_own, same_version, spare_falls}
use Rattle.bv_adder.proofs.WroteLemmas.{none_written, put_wrote}

-- the add is under way, as the token tells
pub under_way : (a : Plan) (k session : ℕ) (v : Seen) (token : Admitted) → HasPut a k (add_by token) (own session v) → HasAdmitted v.history session token
under_way a k session v token has = has.add ∙ ap (λ (x : OwnAdd). Some x) (sym has.is)

-- ---- begin

module _ (a : Plan) (v u : Seen) (session : ℕ) (rest : u ≡ record v { spare = u.spare }) where
  pub may_begin : (root : Digest) → own_add v.history session ≡ None → MayBegin u.history session root
  may_begin root idle =
      let none : own_add u.history session ≡ None = subst (λ (x : Seen). own_add x.history session ≡ None) (sym rest) idle in
      subst (λ (o : Option OwnAdd). IfSome o (λ x. x.root ≡ root)) (sym none) tt

  pub few_blocks : (size : ℕ) → size ≡ a.size → v.history.version ≡ a.version → need_of a.version a.size ≤ 65535 → need_of u.history.version size ≤ 65535
  few_blocks size is version few =
      subst (λ (x : Seen). need_of x.history.version size ≤ 65535) (sym rest)
      (subst (λ (n : ℕ). n ≤ 65535) (λ i. need_of (sym version i) (sym is i)) few)

-- the grant is of the table of the caller
pub grant_of : {T : Type 0} (P : Claims → T → Type 0) (grant : T) (v u w : Seen) (claims : Claims) → u ≡ record v { spare = u.spare } → v.space.claims ≡ claims → w.space.claims ≡ u.space.claims → P w.space.claims grant → P claims grant
grant_of {T} P grant v u w claims rest table kept of =
    subst (λ (c : Claims). P c grant) (kept ∙ ap (λ (x : Seen). x.space.claims) rest ∙ table) of

-- the add is begun, and its blocks are claimed
pub has_claimed : (a : Plan) (v u w : Seen) (who : Who) (root : Digest) (size need : ℕ) (claims : Claims) (begun : Begun) (claimed : Claimed) → u ≡ record v { spare = u.spare } → v.history.version ≡ a.version → root ≡ a.root → size ≡ a.size
    → need_of a.version a.size + 4 ≤ u.spare → (begun.root ≡ root) × (begun.size ≡ size) → Happens u w who (Begin root size) Granted → v.space.claims ≡ claims → IsClaimedOf claims claimed
    → length (claimed_gained claimed) + claimed_left claimed ≡ need → need ≡ need_of u.history.version size → HasClaimed a who.session w begun claimed
has_claimed a v u w who root size need claims begun claimed rest version is_root is_size room token h table of budget grant =
    let was : u.history.version ≡ a.version = ap (λ (x : Seen). x.history.version) rest ∙ version in
    let now = same_version u w who (Begin root size) Granted h a.version was in
    let tables : claims ≡ w.space.claims = sym table ∙ sym (ap (λ (x : Seen). x.space.claims) rest) ∙ sym h.claims in
    record {
      version = now;
      token = λ i. record { root = (token.0 ∙ is_root) i; size = (token.1 ∙ is_size) i };
      add = add_then u w who (Begin root size) Granted h ∙ (λ i. Some (new_add (sym token.0 i) (sym token.1 i)));
      claim = record {
        table = subst (λ (c : Claims). IsClaimedOf c claimed) tables of;
        budget = budget ∙ grant ∙ (λ i. need_of ((was ∙ sym now) i) (sym token.1 i));
      };
      spare = omega (arith, room, spare_falls u w who (Begin root size) Granted h);
    }

-- ---- admit

-- both tokens came back, and nothing changed
module _ (a : Plan) (v w : Seen) (session : ℕ) (begun back : Begun) (claimed claim : Claimed) (has : HasClaimed a session v begun claimed) (same : w ≡ v) (both : (back ≡ begun) × (claim ≡ claimed)) where
  pub begun_back : HasBegun w.history session back
  begun_back = subst (λ (x : Seen × Begun). HasBegun x.0.history session x.1) (λ i. (sym same i, sym both.0 i)) has.add

  pub claim_back : ClaimsFor w.space.claims claim (need_of w.history.version back.size)
  claim_back = subst (λ (x : Seen × Begun × Claimed). ClaimsFor x.0.space.claims x.2 (need_of x.0.history.version x.1.size)) (λ i. (sym same i, sym both.0 i, sym both.1 i)) has.claim

-- the add is admitted
pub has_admitted : (a : Plan) (v w : Seen) (who : Who) (begun : Begun) (claimed : Claimed) (token : Admitted) → HasClaimed a who.session v begun claimed → token ≡ record { root = begun.root; size = begun.size; put = 0 } → Happens v w who (Admit begun.root) IsAdmitted
    → HasPuts a 0 who.session w token
has_admitted a v w who begun claimed token has is h =
    let add : add_by token ≡ put_of a 0 = ap add_by is ∙ ap (λ (b : Begun). add_by (record { root = b.root; size = b.size; put = 0 })) has.token in
    record {
      version = same_version v w who (Admit begun.root) IsAdmitted h a.version has.version;
      add = record {
        within = omega arith;
        is = add;
        add = add_then v w who (Admit begun.root) IsAdmitted h
            ∙ ap (λ (o : Option OwnAdd). add_after o (Admit begun.root) IsAdmitted) (has.add ∙ ap (λ (b : Begun). Some (new_add b.root b.size)) has.token);
      };
      wrote = none_written v w who begun.root h;
      spare = omega (arith, has.spare, spare_falls v w who (Admit begun.root) IsAdmitted h);
    }

-- ---- put

-- a put names the next block
pub put_next : (a : Plan) (k session : ℕ) (v w : Seen) (who : Who) (q : Reply) (token : Admitted) → HasPuts a k session v token → Happens v w who (Put token.put) q → Happens v w who (Put k) q
put_next a k session v w who q token has h = subst (λ (n : ℕ). Happens v w who (Put n) q) (ap (λ (x : OwnAdd). x.puts) has.add.is) h

-- there is a next block
pub next_low : (a : Plan) (k session : ℕ) (v : Seen) (token : Admitted) → HasPuts a k session v token → k < need_of a.version a.size → token.put < need_of v.history.version token.size
next_low a k session v token has low =
    subst (λ (x : ℕ × ℕ × ℕ). x.0 < need_of x.1 x.2)
    (λ i. (ap (λ (x : OwnAdd). x.puts) (sym has.add.is) i, sym has.version i, ap (λ (x : OwnAdd). x.size) (sym has.add.is) i)) low

-- one block more is put
pub puts_more : (a : Plan) (k : ℕ) (v w : Seen) (who : Who) (bytes : List ℕ) (token after : Admitted) → HasPuts a k who.session v token → k < need_of a.version a.size → IsBlobOf a.version a.root a.size a.blocks → bytes ≡ slice_index_or a.blocks k []
    → Happens v w who (Put k) Written → after ≡ record token { put = token.put + 1 } → Writes v w token bytes
    → IfSome v.store.told (λ d. PutsAreWrites d.trace v.history.events) → IfSome w.store.told (λ d. length d.trace ≡ w.store.calls) → HasPuts a (k + 1) who.session w after
puts_more a k v w who bytes token after has low blob is h next writes write counted = record {
  version = same_version v w who (Put k) Written h a.version has.version;
  add = put_has a who k (add_by token) (add_by after) (own who.session v) (own who.session w) low has.add (ap add_by next) (gains_own v w who (Put k) Written h);
  wrote = put_wrote v w who k token bytes a.blocks h writes write counted (omega (arith, low, blob_length a.version a.root a.size a.blocks blob)) is has.wrote;
  spare = omega (arith, has.spare, spare_falls v w who (Put k) Written h);
}

-- ---- settle

told_map : (o : Option Disk) (P Q : Disk → Type 0) → ((d : Disk) → P d → Q d) → IfSome o P → IfSome o Q
told_map None P Q f k = tt
told_map (Some d) P Q f k = f d k

-- all blocks are put, and the device has written them
pub all_put_by : (a : Plan) (session : ℕ) (v : Seen) (token : Admitted) → HasPuts a (need_of a.version a.size) session v token → IsBlobOf a.version a.root a.size a.blocks → S.HasPut v session token
all_put_by a session v token has blob =
    let size : token.size ≡ a.size = ap (λ (x : OwnAdd). x.size) has.add.is in
    let past : length a.blocks ≤ need_of a.version a.size = omega (arith, blob_length a.version a.root a.size a.blocks blob) in
    record {
      all = ap (λ (x : OwnAdd). x.puts) has.add.is ∙ (λ i. need_of (sym has.version i) (sym size i));
      there =
          told_map v.store.told
          (λ d. blocks_written d.trace (own session v) ≡ take (need_of a.version a.size) a.blocks)
          (λ d. IsBlobOf v.history.version token.root token.size (blocks_written d.trace (own session v)))
          (λ d is. subst (λ (x : ℕ × Digest × ℕ × List (List ℕ)). IsBlobOf x.0 x.1 x.2 x.3)
          (λ i. (sym has.version i, sym (ap (λ (x : OwnAdd). x.root) has.add.is) i, sym size i, sym (is ∙ take_all (need_of a.version a.size) a.blocks past) i)) blob)
          has.wrote;
    }

-- the add came back, and nothing changed
pub admitted_back : (v w : Seen) (session : ℕ) (token back : Admitted) → HasAdmitted v.history session token → w ≡ v → back ≡ token → HasAdmitted w.history session back
admitted_back v w session token back has same is = subst (λ (x : Seen × Admitted). HasAdmitted x.0.history session x.1) (λ i. (sym same i, sym is i)) has

-- ---- what a put answers

module _ (a : Plan) (k : ℕ) (v w : Seen) (who : Who) (bytes : List ℕ) (token after : Admitted) (has : HasPuts a k who.session v token) (low : k < need_of a.version a.size) where
  pub put_happens : (q : Reply) → Happens v w who (Put token.put) q → Happens v w who (Put k) q
  put_happens q h = put_next a k who.session v w who q token has h

  pub next_ok : (result : Result (Unit {0}) PutFault) → IsBlobOf a.version a.root a.size a.blocks → bytes ≡ slice_index_or a.blocks k [] → Happens v w who (Put token.put) (put_reply result)
      → OnOk result (after ≡ record token { put = token.put + 1 }) → OnOk result (Writes v w token bytes)
      → IfSome v.store.told (λ d. PutsAreWrites d.trace v.history.events) → IfSome w.store.told (λ d. length d.trace ≡ w.store.calls) → OnOk result (HasPuts a (k + 1) who.session w after)
  next_ok (Ok x) blob is h next writes write counted = puts_more a k v w who bytes token after has low blob is (put_happens Written h) next writes write counted
  next_ok (Err e) blob is h next writes write counted = tt

  refused : (q : Reply) → IsRefusal q → after ≡ token → Happens v w who (Put token.put) q → HasPut a k (add_by after) (own who.session w)
  refused q refusal same h =
      put_keeps a who k q (add_by token) (add_by after) (own who.session v) (own who.session w) refusal has.add (ap add_by same) (gains_own v w who (Put k) q (put_happens q h))

  pub next_err : (result : Result (Unit {0}) PutFault) → Happens v w who (Put token.put) (put_reply result) → OnErr result (after ≡ token) → OnErr result (HasPut a k (add_by after) (own who.session w))
  next_err (Ok x) h same = tt
  next_err (Err (faults.Stopped f)) h same = refused (replies.Stopped f) tt same h
  next_err (Err (faults.DeviceFault f)) h same = refused (replies.DeviceFault f) tt same h
