-- What an add writes, put by put.
use Rattle.std.proofs.Common.{◌≡◌, ℕ, ◌+◌, ◌<◌, ◌≤◌, ◌==◌, List, [], ◌∷◌, ◌++◌, length, length-append, take, refl, sym, ap, ◌∙◌, subst, arith, take_all}
use Rattle.std.specs.Prelude.{Bool, true, false, if◌then◌else◌, Option, Some, None, IfSome, IsSomeAnd, Result, Ok, Err, IfOk, slice_index_or}
use Rattle.std.proofs.lemmas.List.{take_more}
use Rattle.std.proofs.lemmas.List.FromFn.{length-map-range_with_len}
use Rattle.spec_disk.specs.declared.event.Event.{Event}
use Rattle.spec_disk.specs.declared.event.Event.TheVariants as device
use Rattle.spec_core.specs.declared.act.Act.{Act}
use Rattle.spec_core.specs.declared.act.Act.TheVariants.{Admit, Put}
use Rattle.spec_core.specs.declared.reply.Reply.{Reply}
use Rattle.spec_core.specs.declared.reply.Reply.TheVariants.{Written}
use Rattle.spec_core.specs.declared.who.Who.{Who}
use Rattle.spec_session.specs.Own.{OwnAdd}
use Rattle.spec_tree.specs.declared.Digest.{Digest}
use Rattle.spec_tree.specs.Tree.{data_blocks, need_of, filled, piece}
use Rattle.bv_writer.specs.Blocks.{IsBlobOf, blob_blocks, data_of, tree_blocks}
use Rattle.bv_writer.specs.Plans.{IsPlanOf, Plan}
use Rattle.bv_writer.proofs.PlacedLemmas.{length-tree_blocks}
use Rattle.bv_session.specs.declared.entry.Basis.{Basis}
use Rattle.bv_session.specs.declared.entry.Entry.{Entry}
use Rattle.bv_session.specs.declared.entry.Told.{Told}
use Rattle.bv_session.specs.declared.serves.Answer.{Answer}
use Rattle.bv_session.specs.declared.serves.Answer.TheVariants as answers
use Rattle.bv_session.specs.declared.serves.Outcome.{Outcome}
use Rattle.bv_session.specs.declared.serves.Outcome.TheVariants.{Done, Refused}
use Rattle.bv_session.specs.Adds.{put_of}
use Rattle.bv_session.specs.Events.{IfDone, Notes, NotesAs, reply_or}
use Rattle.bv_session.specs.Written.{EndsInWrite, HasWritten, Writes, Wrote, last_bytes, told_bytes, written, written_after, written_from}

-- ---- entries

-- events that end in a write have its bytes last
last_written : (first : List Event) (at : ℕ) (bytes : List ℕ) → last_bytes (first ++ device.Write at bytes true ∷ []) ≡ bytes
last_written [] at bytes = refl
last_written (device.Write b bs ok ∷ []) at bytes = refl
last_written (device.Write b bs ok ∷ y ∷ ys) at bytes = last_written (y ∷ ys) at bytes
last_written (device.Sync ok ∷ ys) at bytes = last_written ys at bytes

written_from-append : (blocks : List (List ℕ)) (es fs : List Entry) → written_from blocks (es ++ fs) ≡ written_from (written_from blocks es) fs
written_from-append blocks [] fs = refl
written_from-append blocks (e ∷ es) fs = written_from-append (written_after blocks e.event.act e.event.reply e.told) es fs

-- one entry more
written_more : (es : List Entry) (e : Entry) → written (es ++ e ∷ []) ≡ written_after (written es) e.event.act e.event.reply e.told
written_more es e = written_from-append [] es (e ∷ [])

told_is : (told : Option Told) (bytes : List ℕ) → IsSomeAnd told (λ d. EndsInWrite d.trace bytes) → told_bytes told ≡ bytes
told_is None bytes h = absurd h
told_is (Some d) bytes h = ap last_bytes h.2 ∙ last_written h.0 h.1 bytes

module _ (held entries after before kept new : List Entry) (out : held ≡ entries) (same : kept ≡ before)
    (one : (e : Entry) → after ≡ held ++ e ∷ [] → new ≡ kept ++ e ∷ []) where
  list_is : (e : Entry) → after ≡ entries ++ e ∷ [] → new ≡ before ++ e ∷ []
  list_is e is = one e (is ∙ ap (λ xs. xs ++ e ∷ []) (sym out)) ∙ ap (λ xs. xs ++ e ∷ []) same

  admits : (who : Who) (r : Digest) (reply : Reply) → Notes entries after who (Admit r) reply → written new ≡ []
  admits who r reply n =
      let e = n.0 in
      ap written (list_is e n.1) ∙ written_more before e ∙ ap (λ (act : Act). written_after (written before) act e.event.reply e.told) n.3

  -- once an add is admitted, none of its blocks is written
  pub admits_none : {A E : Type 0} (who : Who) (r : Digest) (reply : Answer A → Reply) (result : Result (Answer A) E)
      → IfOk result (λ a. Notes entries after who (Admit r) (reply a)) → IfOk result (λ a. IfDone a (λ x. written new ≡ []))
  admits_none who r reply (Ok (answers.Done x)) n = admits who r (reply (answers.Done x)) n
  admits_none who r reply (Ok (answers.Refused q)) n = tt
  admits_none who r reply (Err e) n = tt

  put_writes : (told : Option Told) (who : Who) (index : ℕ) (bytes : List ℕ) → NotesAs entries after who (Put index) Written (Wrote told Done bytes) → Writes told Done bytes before new
  put_writes None who index bytes n = tt
  put_writes (Some d) who index bytes n =
      let e = n.0 in
      ap written (list_is e n.1) ∙ written_more before e
      ∙ (λ i. written_after (written before) (n.3 i) (n.4 i) e.told)
      ∙ ap (λ (bs : List ℕ). written before ++ bs ∷ []) (told_is e.told bytes n.5)

  -- the block that a put wrote
  pub writes_ok : {E : Type 0} (o : Option Basis) (b : Basis) (who : Who) (index : ℕ) (bytes : List ℕ) (result : Result Outcome E) → o ≡ Some b
      → IfOk result (λ a. NotesAs entries after who (Put index) (reply_or Written a) (Wrote b.told a bytes)) → IfSome o (λ b. IfOk result (λ a. Writes b.told a bytes before new))
  writes_ok {E} o b who index bytes result is n =
      subst (λ (x : Option Basis). IfSome x (λ b. IfOk result (λ a. Writes b.told a bytes before new))) (sym is) (at result n) where
        at : (result : Result Outcome E) → IfOk result (λ a. NotesAs entries after who (Put index) (reply_or Written a) (Wrote b.told a bytes)) → IfOk result (λ a. Writes b.told a bytes before new)
        at (Ok Done) n = put_writes b.told who index bytes n
        at (Ok (Refused q)) n = tt
        at (Err e) n = tt

-- ---- blocks of a blob

placed_length : (b : Bool) (tree content : List (List ℕ)) → length (if b then content ++ tree else tree ++ content) ≡ length content + length tree
placed_length true tree content = length-append content tree
placed_length false tree content = omega (arith, length-append tree content)

-- a blob has as many blocks as it needs
pub blob_length : (version : ℕ) (root : Digest) (size : ℕ) (blocks : List (List ℕ)) → IsBlobOf version root size blocks → length blocks ≡ need_of version size
unfolding need_of
blob_length version root size blocks blob =
    let bytes = blob.bytes in
    let count : length (data_of bytes) ≡ data_blocks (length bytes) = length-map-range_with_len (λ (i : ℕ). filled (piece bytes i)) 0 (data_blocks (length bytes)) in
    ap length blob.blocks_are ∙ placed_length (version == 2) (tree_blocks version bytes) (data_of bytes)
    ∙ (λ i. count i + length-tree_blocks version bytes i)
    ∙ ap (need_of version) blob.long

-- a plan is of a blob
pub plan_is : (a : Plan) (version : ℕ) (bytes : List ℕ) → IsPlanOf a version bytes → IsBlobOf a.version a.root a.size a.blocks
plan_is a version bytes p = record {
  bytes = bytes;
  root_is = sym p.of_root;
  long = sym p.of_size;
  blocks_are = p.of_blocks ∙ ap (λ (v : ℕ). blob_blocks v bytes) (sym p.of_version);
}

-- ---- the puts of an add

-- nothing is written yet
pub none_written : (o : Option Basis) (es : List Entry) → written es ≡ [] → IfSome o (λ b. HasWritten b.told [] es)
none_written None es none = tt
none_written (Some b) es none = at b.told where
  at : (told : Option Told) → HasWritten told [] es
  at None = tt
  at (Some d) = none

told_more : (told : Option Told) (i : ℕ) (blocks : List (List ℕ)) (bytes : List ℕ) (es fs : List Entry) → i < length blocks → bytes ≡ slice_index_or blocks i []
    → HasWritten told (take i blocks) es → Writes told Done bytes es fs → HasWritten told (take (i + 1) blocks) fs
told_more None i blocks bytes es fs low is has more = tt
told_more (Some d) i blocks bytes es fs low is has more =
    more ∙ ap (λ (bs : List (List ℕ)). bs ++ bytes ∷ []) has ∙ ap (λ (b : List ℕ). take i blocks ++ b ∷ []) is ∙ sym (take_more blocks i [] low)

-- one block more
pub writes_more : (old mid : Option Basis) (o : Outcome) (i : ℕ) (blocks : List (List ℕ)) (bytes : List ℕ) (es fs : List Entry) → mid ≡ old → o ≡ Done → i < length blocks
    → bytes ≡ slice_index_or blocks i [] → IfSome old (λ b. HasWritten b.told (take i blocks) es) → IfSome mid (λ b. Writes b.told o bytes es fs)
    → IfSome old (λ b. HasWritten b.told (take (i + 1) blocks) fs)
writes_more None mid o i blocks bytes es fs same done low is has more = tt
writes_more (Some b) mid o i blocks bytes es fs same done low is has more =
    told_more b.told i blocks bytes es fs low is has
    (subst (λ (x : Option Basis × Outcome). IfSome x.0 (λ b. Writes b.told x.1 bytes es fs)) (λ j. (same j, done j)) more)

-- all blocks
pub writes_all : (o : Option Basis) (i : ℕ) (blocks : List (List ℕ)) (es : List Entry) → length blocks ≤ i → IfSome o (λ b. HasWritten b.told (take i blocks) es) → IfSome o (λ b. HasWritten b.told blocks es)
writes_all o i blocks es past = subst (λ (bs : List (List ℕ)). IfSome o (λ b. HasWritten b.told bs es)) (take_all i blocks past)

-- ---- what a share's basis has

-- what a settle asks, of the share that holds the value
pub held_written : (a : OwnAdd) (o : Option Basis) (b : Basis) (list es : List Entry) → o ≡ Some b → list ≡ es
    → IfSome o (λ b. IfSome b.told (λ d. IsBlobOf b.geometry.version a.root a.size (written list)))
    → IfSome b.told (λ d. IsBlobOf b.geometry.version a.root a.size (written es))
held_written a o b list es is same h =
    subst (λ (x : Option Basis × List Entry). IfSome x.0 (λ b. IfSome b.told (λ d. IsBlobOf b.geometry.version a.root a.size (written x.1)))) (λ i. (is i, same i)) h

-- what is said of an add that was admitted
pub done_none : {X : Type 0} (es : List Entry) (a : Answer X) (x : X) → IfDone a (λ x. written es ≡ []) → a ≡ answers.Done x → written es ≡ []
done_none {X} es a x h is = subst (λ (y : Answer X). IfDone y (λ x. written es ≡ [])) is h

pub admitted_token : {X : Type 0} (f : X → OwnAdd) (t : OwnAdd) (a : Answer X) (x : X) → IfDone a (λ x. f x ≡ t) → a ≡ answers.Done x → f x ≡ t
admitted_token {X} f t a x h is = subst (λ (y : Answer X). IfDone y (λ x. f x ≡ t)) is h

-- what two facts say of a basis
pub has_both : (old mid : Option Basis) (P Q : Basis → Type 0) → mid ≡ old → IfSome old P → IfSome old Q → IfSome mid (λ b. P b × Q b)
has_both old mid P Q same p q = subst (λ (x : Option Basis). IfSome x (λ b. P b × Q b)) (sym same) (at old p q) where
  at : (o : Option Basis) → IfSome o P → IfSome o Q → IfSome o (λ b. P b × Q b)
  at None p q = tt
  at (Some b) p q = (p, q)

module _ (a : Plan) (token : OwnAdd) (k : ℕ) (is : token ≡ put_of a k) where
  -- there is a block to be put
  pub put_low : (old mid : Option Basis) → mid ≡ old → IfSome old (λ b. b.geometry.version ≡ a.version) → k < need_of a.version a.size
      → IfSome mid (λ b. token.puts < need_of b.geometry.version token.size)
  put_low old mid same h low = subst (λ (x : Option Basis). IfSome x (λ b. token.puts < need_of b.geometry.version token.size)) (sym same) (at old h) where
    at : (o : Option Basis) → IfSome o (λ b. b.geometry.version ≡ a.version) → IfSome o (λ b. token.puts < need_of b.geometry.version token.size)
    at None h = tt
    at (Some b) h = subst (λ (x : ℕ × ℕ × ℕ). x.0 < need_of x.1 x.2) (λ i. (sym (ap (λ (t : OwnAdd). t.puts) is) i, sym h i, sym (ap (λ (t : OwnAdd). t.size) is) i)) low

  -- all are put
  pub put_full : (o : Option Basis) (es : List Entry) → IfSome o (λ b. (b.geometry.version ≡ a.version) × HasWritten b.told a.blocks es) → k ≡ need_of a.version a.size
      → IfSome o (λ b. token.puts ≡ need_of b.geometry.version token.size)
  put_full None es h all = tt
  put_full (Some b) es h all = subst (λ (x : ℕ × ℕ × ℕ). x.0 ≡ need_of x.1 x.2) (λ i. (sym (ap (λ (t : OwnAdd). t.puts) is) i, sym h.0 i, sym (ap (λ (t : OwnAdd). t.size) is) i)) all

  -- and written
  pub put_written : (o : Option Basis) (es : List Entry) → IfSome o (λ b. (b.geometry.version ≡ a.version) × HasWritten b.told a.blocks es) → IsBlobOf a.version a.root a.size a.blocks
      → IfSome o (λ b. IfSome b.told (λ d. IsBlobOf b.geometry.version token.root token.size (written es)))
  put_written None es h blob = tt
  put_written (Some b) es h blob = at b.told h.1 where
    at : (told : Option Told) → HasWritten told a.blocks es → IfSome told (λ d. IsBlobOf b.geometry.version token.root token.size (written es))
    at None w = tt
    at (Some d) w =
        subst (λ (x : ℕ × Digest × ℕ × List (List ℕ)). IsBlobOf x.0 x.1 x.2 x.3)
        (λ i. (sym h.0 i, sym (ap (λ (t : OwnAdd). t.root) is) i, sym (ap (λ (t : OwnAdd). t.size) is) i, sym w i)) blob
