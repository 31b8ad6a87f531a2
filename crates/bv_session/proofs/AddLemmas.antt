-- The exits of an add line.
use Rattle.std.proofs.Common.{◌≡◌, ℕ, ◌+◌, ◌<◌, ◌≤◌, List, [], ◌∷◌, ◌++◌, refl, sym, ap, ◌∙◌, subst, inl, inr, arith, append_assoc}
use Rattle.std.specs.Prelude.{true, false, Option, Some, Ok, Err, IsSomeAnd}
use Rattle.std.specs.declared.alloc.AllocError.{AllocError}
use Rattle.std.proofs.lemmas.List.FromFn.{map-range_with_len_more}
use Rattle.spec_core.specs.declared.act.Act.{Act}
use Rattle.spec_core.specs.declared.act.Act.TheVariants.{Begin, Admit, Put, Settle, Retire}
use Rattle.spec_core.specs.declared.reply.Reply.{Reply}
use Rattle.spec_core.specs.declared.reply.Reply.TheVariants.{Granted, Admitted, Written, Retired}
use Rattle.spec_core.specs.declared.event.CoreEvent.{CoreEvent}
use Rattle.spec_core.specs.declared.who.Who.{Who}
use Rattle.spec_tree.specs.declared.Digest.{Digest}
use Rattle.spec_tree.specs.Tree.{need_of}
use Rattle.spec_session.specs.Own.{OwnAdd, new_add, put_add, add_after, add_of}
use Rattle.spec_session.specs.Lines.{Move, admits, puts}
use Rattle.bv_writer.specs.Plans.{Plan}
use Rattle.bv_session.specs.Adds.{begins, all_put, put_of, AddEnds, HasPut, PutsEnd, IfAllPut}
use Rattle.bv_session.specs.declared.serves.Outcome.{Outcome}
use Rattle.bv_session.specs.declared.serves.Outcome.TheVariants.{Done, Refused}
use Rattle.bv_session.specs.Events.{IsRefusal, IsUnderWay, put_by}
use Rattle.spec_session.specs.Told.{is_retire}
use Rattle.spec_session.specs.declared.result.LineResult.{LineResult}
use Rattle.spec_served.specs.Answers.{IsReply, last_reply}
use Rattle.bv_session.specs.Sessions.{LineAnswer, Gains, Since}
use Rattle.bv_session.proofs.Moves.{since_none, since_one, since_more, since_join, not_granted, not_admitted, not_written, add_gains, put_refused}

-- a retire names the add's root
retires : (who : Who) (r root : Digest) (old new : List CoreEvent) → r ≡ root → Gains who (Retire r) Retired old new → Gains who (Retire root) Retired old new
retires who r root old new is = subst (λ (x : Digest). Gains who (Retire x) Retired old new) is

-- ---- what is replied

last_reply-append : (found : Option Reply) (xs ys : List Move) → last_reply found (xs ++ ys) ≡ last_reply (last_reply found xs) ys
last_reply-append found [] ys = refl
last_reply-append found (x ∷ xs) ys = last_reply-append _ xs ys

-- the last move answers, where it isn't a retire
answers_last : (found : Option Reply) (xs : List Move) (act : Act) (q : Reply) (r : LineResult) → is_retire act ≡ false → IsReply q r → IsSomeAnd (last_reply found (xs ++ (act, q) ∷ [])) (λ p. IsReply p r)
answers_last found xs act q r other is =
    let one : last_reply (last_reply found xs) ((act, q) ∷ []) ≡ Some q = rw other refl in
    subst (λ (p : Option Reply). IsSomeAnd p (λ p. IsReply p r)) (sym (last_reply-append found xs ((act, q) ∷ []) ∙ one)) is

-- also with a retire after it
answers_before : (found : Option Reply) (xs : List Move) (act : Act) (root : Digest) (q p : Reply) (r : LineResult) → is_retire act ≡ false → IsReply q r
    → IsSomeAnd (last_reply found ((xs ++ (act, q) ∷ []) ++ (Retire root, p) ∷ [])) (λ p. IsReply p r)
answers_before found xs act root q p r other is =
    subst (λ (o : Option Reply). IsSomeAnd o (λ p. IsReply p r)) (sym (last_reply-append found (xs ++ (act, q) ∷ []) ((Retire root, p) ∷ []))) (answers_last found xs act q r other is)

-- a token that tells of this add, which is under way
pub token_under_way : (token add : OwnAdd) (now : List CoreEvent) → token ≡ add → add_of now ≡ Some add → IsUnderWay token add.admitted now
token_under_way token add now is h = record { is = h ∙ ap (λ (t : OwnAdd). Some t) (sym is); state = ap (λ (t : OwnAdd). t.admitted) is }

module _ (a : Plan) (who : Who) where
  -- ---- what is known of the add

  pub begin_has : (r : Digest) (n : ℕ) (old new : List CoreEvent) → r ≡ a.root → n ≡ a.size → Gains who (Begin r n) Granted old new → add_of new ≡ Some (new_add a.root a.size)
  begin_has r n old new is_root is_size g = add_gains who (Begin r n) Granted old new g ∙ (λ i. Some (new_add (is_root i) (is_size i)))

  pub admit_has : (r : Digest) (old new : List CoreEvent) → add_of old ≡ Some (new_add a.root a.size) → Gains who (Admit r) Admitted old new → add_of new ≡ Some (put_of a 0)
  admit_has r old new add g = add_gains who (Admit r) Admitted old new g ∙ ap (λ (x : Option OwnAdd). add_after x (Admit r) Admitted) add

  -- a put names the next block
  pub put_next : (k : ℕ) (q : Reply) (token : OwnAdd) (old mid new : List CoreEvent) → HasPut a k token mid → Gains who (Put token.puts) q old new → Gains who (Put k) q old new
  put_next k q token old mid new has = subst (λ (n : ℕ). Gains who (Put n) q old new) (ap (λ (x : OwnAdd). x.puts) has.is)

  pub put_has : (k : ℕ) (token after : OwnAdd) (old new : List CoreEvent) → k < need_of a.version a.size → HasPut a k token old → after ≡ put_add token → Gains who (Put k) Written old new → HasPut a (k + 1) after new
  put_has k token after old new low has same g = record {
    within = omega arith;
    is = same ∙ ap put_add has.is;
    add = add_gains who (Put k) Written old new g ∙ ap (λ (x : Option OwnAdd). add_after x (Put k) Written) has.add;
  }

  pub put_keeps : (k : ℕ) (q : Reply) (token after : OwnAdd) (old new : List CoreEvent) → IsRefusal q → HasPut a k token old → after ≡ token → Gains who (Put k) q old new → HasPut a k after new
  put_keeps k q token after old new h has same g = record {
    within = has.within;
    is = same ∙ has.is;
    add = add_gains who (Put k) q old new g ∙ put_refused (add_of old) k q h ∙ has.add;
  }

  -- the token is as it was
  pub put_stays : (k : ℕ) (token after : OwnAdd) (old new : List CoreEvent) → HasPut a k token old → after ≡ token → new ≡ old → HasPut a k after new
  put_stays k token after old new has same stays = record {
    within = has.within;
    is = same ∙ has.is;
    add = ap add_of stays ∙ has.add;
  }

  -- the add is under way, as the token tells
  pub under_way : (k : ℕ) (token : OwnAdd) (now : List CoreEvent) → HasPut a k token now → IsUnderWay token true now
  under_way k token now has = record { is = has.add ∙ ap (λ (t : OwnAdd). Some t) (sym has.is); state = ap (λ (t : OwnAdd). t.admitted) has.is }

  pub first_has : (token : OwnAdd) (now : List CoreEvent) → token ≡ put_of a 0 → add_of now ≡ Some (put_of a 0) → HasPut a 0 token now
  first_has token now same add = record { within = omega arith; is = same; add = add }

  -- ---- begin

  -- a begin names the blob that is added
  begins_as : (q : Reply) (r : Digest) (n : ℕ) (old new : List CoreEvent) → r ≡ a.root → n ≡ a.size → Gains who (Begin r n) q old new → Gains who (Begin a.root a.size) q old new
  begins_as q r n old new is_root is_size = subst (λ (x : Digest × ℕ). Gains who (Begin x.0 x.1) q old new) (λ i. (is_root i, is_size i))

  pub begin_err : (e : AllocError) (old new : List CoreEvent) → new ≡ old → AddEnds a who [] (Err e) old new
  begin_err e old new same = record { moves = []; since = since_none who old new same; allowed = inl refl }

  pub begin_ends : (res : LineResult) (q : Reply) (r : Digest) (n : ℕ) (old new : List CoreEvent) → IsRefusal q → r ≡ a.root → n ≡ a.size → Gains who (Begin r n) q old new → IsReply q res → AddEnds a who [] (Ok res) old new
  begin_ends res q r n old new h is_root is_size g is = record {
    moves = (Begin a.root a.size, q) ∷ [];
    since = since_one who _ q old new (begins_as q r n old new is_root is_size g);
    allowed = (inl (q, not_granted q h, refl), is);
  }

  pub begin_goes_on : (ok : LineAnswer) (r : Digest) (n : ℕ) (old mid new : List CoreEvent) → r ≡ a.root → n ≡ a.size → Gains who (Begin r n) Granted old mid → AddEnds a who (begins a) ok mid new → AddEnds a who [] ok old new
  begin_goes_on ok r n old mid new is_root is_size g e = record {
    moves = begins a ++ e.moves;
    since = since_join who (begins a) e.moves old mid new (since_one who _ Granted old mid (begins_as Granted r n old mid is_root is_size g)) e.since;
    allowed = e.allowed;
  }

  -- ---- admit

  pub admit_err : (e : AllocError) (r : Digest) (old mid new : List CoreEvent) → r ≡ a.root → mid ≡ old → Gains who (Retire r) Retired mid new → AddEnds a who (begins a) (Err e) old new
  admit_err e r old mid new is same g = record {
    moves = (Retire a.root, Retired) ∷ [];
    since = subst (λ (x : List CoreEvent). Since who ((Retire a.root, Retired) ∷ []) x new) same (since_one who _ Retired mid new (retires who r a.root mid new is g));
    allowed = inr (inl refl);
  }

  pub admit_ends : (res : LineResult) (q : Reply) (r : Digest) (old new : List CoreEvent) → IsRefusal q → r ≡ a.root → Gains who (Admit r) q old new → IsReply q res → AddEnds a who (begins a) (Ok res) old new
  admit_ends res q r old new h is g reply = record {
    moves = (Admit a.root, q) ∷ [];
    since = since_one who _ q old new (subst (λ (x : Digest). Gains who (Admit x) q old new) is g);
    allowed = (inr (inl (q, not_admitted q h, refl)), reply);
  }

  pub admit_goes_on : (ok : LineAnswer) (r : Digest) (old mid new : List CoreEvent) → r ≡ a.root → Gains who (Admit r) Admitted old mid → AddEnds a who (admits a.root a.size) ok mid new → AddEnds a who (begins a) ok old new
  admit_goes_on ok r old mid new is g e = record {
    moves = (Admit a.root, Admitted) ∷ e.moves;
    since = since_join who ((Admit a.root, Admitted) ∷ []) e.moves old mid new (since_one who _ Admitted old mid (subst (λ (x : Digest). Gains who (Admit x) Admitted old mid) is g)) e.since;
    allowed = e.allowed;
  }

  -- ---- puts

  pub puts_more : (k : ℕ) (old mid new : List CoreEvent) → Since who (puts k) old mid → Gains who (Put k) Written mid new → Since who (puts (k + 1)) old new
  puts_more k old mid new s g =
      subst (λ (ms : List Move). Since who ms old new) (sym (map-range_with_len_more (λ (i : ℕ). (Put i, Written)) 0 k k (omega arith))) (since_more who (puts k) (Put k) Written old mid new s g)

  pub refused_puts : (o : Outcome) (q : Reply) (token : OwnAdd) (old new : List CoreEvent) → PutsEnd a who (Ok o) token old new → o ≡ Refused q
      → PutsEnd a who (Ok (Refused q)) token old new
  refused_puts o q token old new p is = subst (λ (y : Outcome). PutsEnd a who (Ok y) token old new) is p

  pub done_puts : (o : Outcome) (token : OwnAdd) (old new : List CoreEvent) → PutsEnd a who (Ok o) token old new → o ≡ Done
      → PutsEnd a who (Ok Done) token old new
  done_puts o token old new p is = subst (λ (y : Outcome). PutsEnd a who (Ok y) token old new) is p

  pub done_all : (o : Outcome) (P : Type 0) → IfAllPut (Ok o) P → o ≡ Done → P
  done_all o P p is = subst (λ (y : Outcome). IfAllPut (Ok y) P) is p

  -- what a put makes of the token
  pub done_token : (o : Outcome) (token after : OwnAdd) → after ≡ put_by o token → o ≡ Done → after ≡ put_add token
  done_token o token after h is = subst (λ (y : Outcome). after ≡ put_by y token) is h

  pub refused_token : (o : Outcome) (q : Reply) (token after : OwnAdd) → after ≡ put_by o token → o ≡ Refused q → after ≡ token
  refused_token o q token after h is = subst (λ (y : Outcome). after ≡ put_by y token) is h

  -- some are put, and there is no memory
  pub puts_cut : (e : AllocError) (k : ℕ) (token after : OwnAdd) (old mid now : List CoreEvent) → HasPut a k token mid → after ≡ token → now ≡ mid → Since who (puts k) old mid → PutsEnd a who (Err e) after old now
  puts_cut e k token after old mid now has is same s = (k, put_stays k token after mid now has is same, subst (λ (x : List CoreEvent). Since who (puts k) old x) (sym same) s)

  -- all are put
  pub puts_done : (k : ℕ) (token : OwnAdd) (old now : List CoreEvent) → need_of a.version a.size ≤ k → HasPut a k token now → Since who (puts k) old now → PutsEnd a who (Ok Done) token old now
  puts_done k token old now past has s =
      let end : k ≡ need_of a.version a.size = omega (arith, has.within, past) in
      subst (λ (n : ℕ). HasPut a n token now × Since who (puts n) old now) end (has, s)

  pub puts_err : (e : AllocError) (k : ℕ) (r : Digest) (old mid new : List CoreEvent) → r ≡ a.root → k ≤ need_of a.version a.size → Since who (puts k) old mid → Gains who (Retire r) Retired mid new → AddEnds a who (admits a.root a.size) (Err e) old new
  puts_err e k r old mid new is within s g = record {
    moves = puts k ++ (Retire a.root, Retired) ∷ [];
    since = since_more who (puts k) _ Retired old mid new s (retires who r a.root mid new is g);
    allowed = inr (inr (k, within, refl));
  }

  pub puts_refused : (res : LineResult) (k : ℕ) (q : Reply) (r : Digest) (old mid new : List CoreEvent) → IsRefusal q → r ≡ a.root → k < need_of a.version a.size → Since who (puts k ++ (Put k, q) ∷ []) old mid → Gains who (Retire r) Retired mid new → IsReply q res → AddEnds a who (admits a.root a.size) (Ok res) old new
  puts_refused res k q r old mid new h is within s g reply = record {
    moves = (puts k ++ (Put k, q) ∷ []) ++ (Retire a.root, Retired) ∷ [];
    since = since_more who (puts k ++ (Put k, q) ∷ []) _ Retired old mid new s (retires who r a.root mid new is g);
    allowed = (
      inr (inr (inl (k, q, within, not_written q h, ap (λ (xs : List Move). admits a.root a.size ++ xs) (append_assoc (puts k) ((Put k, q) ∷ []) ((Retire a.root, Retired) ∷ []))))),
      answers_before (Some Admitted) (puts k) (Put k) a.root q Retired res refl reply,
    );
  }

  pub puts_go_on : (ok : LineAnswer) (old mid new : List CoreEvent) → Since who (puts (need_of a.version a.size)) old mid → AddEnds a who (all_put a) ok mid new → AddEnds a who (admits a.root a.size) ok old new
  puts_go_on ok old mid new s e = record {
    moves = puts (need_of a.version a.size) ++ e.moves;
    since = since_join who _ e.moves old mid new s e.since;
    allowed = e.allowed;
  }

  -- ---- settle

  pub settle_err : (e : AllocError) (r : Digest) (old mid new : List CoreEvent) → r ≡ a.root → mid ≡ old → Gains who (Retire r) Retired mid new → AddEnds a who (all_put a) (Err e) old new
  settle_err e r old mid new is same g = record {
    moves = (Retire a.root, Retired) ∷ [];
    since = subst (λ (x : List CoreEvent). Since who ((Retire a.root, Retired) ∷ []) x new) same (since_one who _ Retired mid new (retires who r a.root mid new is g));
    allowed = inr (inr (need_of a.version a.size, omega arith, refl));
  }

  pub settle_ends : (res : LineResult) (q : Reply) (r : Digest) (old new : List CoreEvent) → r ≡ a.root → Gains who (Settle r) q old new → IsReply q res → AddEnds a who (all_put a) (Ok res) old new
  settle_ends res q r old new is g reply = record {
    moves = (Settle a.root, q) ∷ [];
    since = since_one who _ q old new (subst (λ (x : Digest). Gains who (Settle x) q old new) is g);
    allowed = (inr (inr (inr (q, refl))), answers_last (Some Admitted) (puts (need_of a.version a.size)) (Settle a.root) q res refl reply);
  }
