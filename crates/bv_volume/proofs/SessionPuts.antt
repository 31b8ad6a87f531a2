-- The adds of sessions: what a put makes of them.
use Rattle.std.proofs.Common.{◌≡◌, ◌≢◌, ◌<◌, ◌+◌, ◌==◌, ◌∷◌, ◌++◌, [], ℕ, suc, Bool, true, false, get_or, List, length, Option, None, Some, IfSome, IsSomeAnd, refl, ap, sym, ◌∙◌, subst, arith, append_assoc, if◌then◌else◌}
use Rattle.std.specs.Global.{Vec}
use Rattle.std.proofs.lemmas.Bool.{eqb-false}
use Rattle.std.proofs.lemmas.List.{length-append, get_or-set_same, get_or-set_other}
use Rattle.spec_disk.specs.Disk.{block}
use Rattle.spec_disk.specs.declared.event.Event.{Event}
use Rattle.spec_disk.specs.declared.event.Event.TheVariants as device
use Rattle.spec_disk.proofs.EventLemmas.{now_after-append, length-now_after}
use Rattle.spec_record.specs.Geometry.{block_at}
use Rattle.spec_record.specs.declared.geometry.Geometry.{Geometry}
use Rattle.spec_tree.specs.Tree.{need_of}
use Rattle.spec_tree.specs.declared.Digest.{Digest}
use Rattle.spec_core.specs.Log.{without}
use Rattle.spec_core.specs.State.{find}
use Rattle.spec_core.specs.declared.act.Act.TheVariants.{Put}
use Rattle.spec_core.specs.declared.reply.Reply.TheVariants as replies
use Rattle.spec_core.specs.declared.who.Who.{Who}
use Rattle.spec_crash.specs.Timing.{event_at, IsOkWrite, IsWritten}
use Rattle.spec_rest.specs.Rest.{Map}
use Rattle.spec_session.specs.Conform.{events_of}
use Rattle.spec_session.specs.Own.{OwnAdd, add_after, put_add}
use Rattle.bv_claims.specs.Blocks.{times}
use Rattle.bv_claims.proofs.Counts.{times-append, times_same}
use Rattle.bv_device.specs.Told.{Disk, disk_with, now_of}
use Rattle.bv_model.specs.Noted.{Noted}
use Rattle.bv_space.specs.Owned.{Owned}
use Rattle.bv_ledger.specs.Answers.{device_reply}
use Rattle.bv_ledger.specs.Tables as L
use Rattle.bv_ledger.specs.Tables.{Tables}
use Rattle.bv_ledger.proofs.Sums.{sum_less}
use Rattle.bv_store.specs.Stored.{Stored, Grows}
use Rattle.bv_volume.specs.Events.{event_of, noted}
use Rattle.bv_volume.specs.Kept.{Kept}
use Rattle.bv_volume.specs.Sessions.{AreWrites, HasAdmitted, Ordered, Stands, Works}
use Rattle.spec_served.specs.Adds.{puts_of}
use Rattle.bv_volume.specs.Sound.{PublishedAreSound}
use Rattle.bv_volume.specs.Spaced.{Spaced}
use Rattle.bv_volume.specs.declared.tokens.Admitted.{Admitted}
use Rattle.bv_volume.proofs.Counting.{grows_so}
use Rattle.bv_volume.proofs.Contents.{keeps_quiet}
use Rattle.bv_volume.proofs.Located.{located_quiet}
use Rattle.bv_volume.proofs.SessionCalls.{agrees, find_less, its, works}
use Rattle.bv_volume.proofs.Sessions.{SameAt, event_last, not_put, ordered_after, works_on, writes_kept, writes_push}
use Rattle.bv_volume.proofs.Sound.{put_map, sound_quiet}
use Rattle.bv_volume.proofs.Syncs.{in_disk, on_disk}

-- ---- blocks that aren't the one that was written

apart_of : (b at k : ℕ) → (if b == at then 1 else 0) + k ≡ 0 → b ≢ at
apart_of b at k none same = by_test (b == at) refl none
  where
    by_test : (c : Bool) → (b == at) ≡ c → (if c then 1 else 0) + k ≡ 0 → ⊥
    by_test true e z = absurd (omega (arith, z))
    by_test false e z = eqb-false b at e same

same_but : (g : Geometry) (d : Disk) (more : List Event) (at : ℕ) (bs : List ℕ) → ((b : ℕ) → b ≢ at → block (now_of (disk_with d more)) (block_at g b) ≡ block (now_of d) (block_at g b)) → times at bs ≡ 0 → SameAt g d more bs
same_but g d more at [] each none = tt
same_but g d more at (b ∷ bs) each none = (each b (apart_of b at (times at bs) none), same_but g d more at bs each (omega (arith, none)))

-- ---- the next block of an add

get_next : (done : List ℕ) (b : ℕ) (tail : List ℕ) → get_or (done ++ b ∷ tail) (length done) 0 ≡ b
get_next [] b tail = refl
get_next (x ∷ done) b tail = get_next done b tail

record Next (rest : List ℕ) (at : ℕ) : Type 0 where
  tail : List ℕ
  is : rest ≡ at ∷ tail

next_of : (done rest : List ℕ) → length done < length (done ++ rest) → Next rest (get_or (done ++ rest) (length done) 0)
next_of done [] below = absurd (omega (arith, below, length-append done []))
next_of done (b ∷ tail) below = record { tail = tail; is = ap (λ (x : ℕ). x ∷ tail) (sym (get_next done b tail)) }

now_here : (d : Disk) (at : ℕ) (bytes : List ℕ) → at < length d.base → block (now_of (disk_with d (device.Write at bytes true ∷ []))) at ≡ bytes
now_here d at bytes lt =
    ap (λ (x : List (List ℕ)). block x at) (now_after-append d.base d.trace (device.Write at bytes true ∷ []))
    ∙ get_or-set_same (now_of d) at bytes [] (omega (arith, lt, length-now_after d.base d.trace))

now_there : (d : Disk) (at : ℕ) (bytes : List ℕ) (b : ℕ) → at ≢ b → block (now_of (disk_with d (device.Write at bytes true ∷ []))) b ≡ block (now_of d) b
now_there d at bytes b other =
    ap (λ (x : List (List ℕ)). block x b) (now_after-append d.base d.trace (device.Write at bytes true ∷ []))
    ∙ get_or-set_other (now_of d) at b bytes [] (λ e. absurd (omega (arith, e, other)))

-- ---- a put

module _ (n n' : Noted) (next : ℕ) (t : Tables) (o : Owned) (s s' : Stored) (Both : Map → Map → Type 0) (Held : ℕ → Type 0) (who : Who) (a : Admitted) (kept : Kept n next t s Both) (spaced : Spaced t o s Held) (old : Ordered n.history o s) (mine : HasAdmitted n.history who.session a) (geometry : s'.geometry ≡ s.geometry) (began : s'.began ≡ s.began) (placed : s'.placed ≡ s.placed) where
  less : (r : Digest) (places : List ℕ) → find s'.placed r ≡ Some places → find s.placed r ≡ Some places
  less r places there = ap (λ (es : List (Digest × List ℕ)). find es r) (sym placed) ∙ there

  abbrev its_works : Works n.history.version o.adds o.nodes s.geometry s.told (puts_of (events_of who.session n.history.events)) (its n next t o s Both who.session kept old a)
  its_works = works n next t o s Both who.session kept old a mine

  abbrev puts : List ℕ
  puts = puts_of (events_of who.session n.history.events)

  abbrev this : OwnAdd
  this = record { root = a.root; size = a.size; admitted = true; puts = a.put }

  abbrev at : ℕ
  at = get_or its_works.blocks.items a.put 0

  module _ (below : a.put < need_of n.history.version a.size) where
    next_block : Next its_works.rest at
    next_block =
        let is : Next its_works.rest (get_or (its_works.done ++ its_works.rest) (length its_works.done) 0) =
        next_of its_works.done its_works.rest (omega (arith, below, its_works.need, its_works.count, ap (λ (bs : List ℕ). length bs) its_works.parts)) in
        subst (λ (k : ℕ). Next its_works.rest k) (ap (λ (bs : List ℕ). get_or bs (length its_works.done) 0) (sym its_works.parts) ∙ ap (λ (k : ℕ). get_or its_works.blocks.items k 0) its_works.count) is

    stands : times at its_works.blocks.items ≡ times at its_works.done + (1 + times at next_block.tail)
    stands =
        ap (λ (bs : List ℕ). times at bs) its_works.parts ∙ times-append at its_works.done its_works.rest
        ∙ ap (λ (bs : List ℕ). times at its_works.done + times at bs) next_block.is
        ∙ ap (λ (k : ℕ). times at its_works.done + k) (times-append at (at ∷ []) next_block.tail ∙ ap (λ (k : ℕ). k + times at next_block.tail) (times_same at))

    unput : times at its_works.done ≡ 0
    unput = omega (arith, stands, sum_less (λ (v : Vec ℕ). times at v.items) o.adds a.root its_works.blocks its_works.has, spaced.within at, spaced.once at)

    not_theirs : (x : Digest) (v : Vec ℕ) → ¬ (a.root ≡ x) → find o.adds x ≡ Some v → times at v.items ≡ 0
    not_theirs x v other has =
        omega (
          arith,
          stands,
          sum_less (λ (w : Vec ℕ). times at w.items) o.adds a.root its_works.blocks its_works.has,
          sum_less (λ (w : Vec ℕ). times at w.items) (without o.adds a.root) x v (find_less o.adds a.root x other ∙ has),
          spaced.within at,
          spaced.once at,
        )

    not_placed : (r : Digest) (places : List ℕ) → find s.placed r ≡ Some places → times at places ≡ 0
    not_placed r places lies =
        omega (arith, stands, sum_less (λ (v : Vec ℕ). times at v.items) o.adds a.root its_works.blocks its_works.has, sum_less (times at) s.placed r places lies, spaced.within at, spaced.once at)

    abbrev Apart : Disk → List Event → Type 0
    Apart d more = (b : ℕ) → b ≢ at → block (now_of (disk_with d more)) (block_at s.geometry b) ≡ block (now_of d) (block_at s.geometry b)

    -- no blob that is placed has the block
    unplaced : (r : Digest) (places : List ℕ) → find s.placed r ≡ Some places → times at places ≡ 0
    unplaced r places has =
        omega (
          arith,
          stands,
          sum_less (λ (v : Vec ℕ). times at v.items) o.adds a.root its_works.blocks its_works.has,
          sum_less (times at) s.placed r places has,
          spaced.within at,
          spaced.once at,
        )

    still : (d : Disk) (more : List Event) → Apart d more → (r : Digest) (places : List ℕ) → find s.placed r ≡ Some places → SameAt s.geometry d more places
    still d more each r places has = same_but s.geometry d more at places each (unplaced r places has)

    module _ (apart : Grows s.told s'.told Apart) where
      but : (bs : List ℕ) → times at bs ≡ 0 → Grows s.told s'.told (λ d more. SameAt s.geometry d more bs)
      but bs none = grows_so s.told s'.told _ _ (λ d more each. same_but s.geometry d more at bs each none) apart

      wrote_on : (bytes : List ℕ) (calls : ℕ) (p q : Option Disk) → Grows p q (λ d more. more ≡ device.Write (block_at s.geometry at) bytes true ∷ []) → IfSome p (λ d. AreWrites s.geometry d puts its_works.done)
          → IfSome p (λ d. (b : ℕ) → b < s.geometry.blocks → block_at s.geometry b < length d.base) → at < s.geometry.blocks → IfSome q (λ d. length d.trace ≡ calls)
          → IfSome q (λ d. AreWrites s'.geometry d (puts ++ calls ∷ []) (its_works.done ++ at ∷ []))
      wrote_on bytes calls None q grown wrote room lies counted = rw grown tt
      wrote_on bytes calls (Some d) q grown wrote room lies counted =
          let w : Event = device.Write (block_at s.geometry at) bytes true in
          let e : Disk = disk_with d (w ∷ []) in
          let is : q ≡ Some e = grown.1 ∙ ap (λ (m : List Event). Some (disk_with d m)) grown.2 in
          let counts : length (d.trace ++ w ∷ []) ≡ calls = on_disk (λ x. length x.trace ≡ calls) q e is counted in
          let place : suc (length d.trace) ≡ calls = omega (arith, counts, length-append d.trace (w ∷ [])) in
          let there : event_at e.trace calls ≡ Some w = subst (λ (k : ℕ). event_at e.trace k ≡ Some w) place (event_last d.trace w) in
          let holds : block (now_of e) (block_at s.geometry at) ≡ bytes = now_here d (block_at s.geometry at) bytes (room at lies) in
          let still : SameAt s.geometry d (w ∷ []) its_works.done = same_but s.geometry d (w ∷ []) at its_works.done (λ b other. now_there d (block_at s.geometry at) bytes (block_at s.geometry b) (λ same. other (omega (arith, same)))) unput in
          let all : AreWrites s.geometry e (puts ++ calls ∷ []) (its_works.done ++ at ∷ []) =
          writes_push s.geometry e puts its_works.done calls at (there ∙ ap (λ (x : List ℕ). Some (device.Write (block_at s.geometry at) x true)) (sym holds)) (writes_kept s.geometry d (w ∷ []) puts its_works.done still wrote) in
          in_disk (λ x. AreWrites s'.geometry x (puts ++ calls ∷ []) (its_works.done ++ at ∷ [])) q e is (subst (λ (g : Geometry). AreWrites g e (puts ++ calls ∷ []) (its_works.done ++ at ∷ [])) (sym geometry) all)

      -- the write stands at the place that the number of calls tells
      wrote_at : (bytes : List ℕ) (calls : ℕ) (p q : Option Disk) → Grows p q (λ d more. more ≡ device.Write (block_at s.geometry at) bytes true ∷ []) → IfSome q (λ d. length d.trace ≡ calls) → IfSome q (λ d. IsSomeAnd (event_at d.trace calls) IsOkWrite)
      wrote_at bytes calls None q grown counted = rw grown tt
      wrote_at bytes calls (Some d) q grown counted =
          let w : Event = device.Write (block_at s.geometry at) bytes true in
          let e : Disk = disk_with d (w ∷ []) in
          let is : q ≡ Some e = grown.1 ∙ ap (λ (m : List Event). Some (disk_with d m)) grown.2 in
          let counts : length (d.trace ++ w ∷ []) ≡ calls = on_disk (λ x. length x.trace ≡ calls) q e is counted in
          let place : suc (length d.trace) ≡ calls = omega (arith, counts, length-append d.trace (w ∷ [])) in
          let there : event_at e.trace calls ≡ Some w = subst (λ (k : ℕ). event_at e.trace k ≡ Some w) place (event_last d.trace w) in
          in_disk (λ x. IsSomeAnd (event_at x.trace calls) IsOkWrite) q e is (subst (λ (o : Option Event). IsSomeAnd o IsOkWrite) (sym there) refl)

      -- the put that was written
      written_put : (index : ℕ) (bytes : List ℕ) (calls : ℕ) (p q : Option Disk) → Grows p q (λ d more. more ≡ device.Write (block_at s.geometry at) bytes true ∷ []) → IfSome q (λ d. length d.trace ≡ calls) → IfSome q (λ d. IsWritten (event_of who (Put index) replies.Written calls) → IsSomeAnd (event_at d.trace calls) IsOkWrite)
      written_put index bytes calls p None grown counted = tt
      written_put index bytes calls p (Some d) grown counted = λ w. wrote_at bytes calls p (Some d) grown counted

      pub ordered_put : (index calls : ℕ) (failed : Option ℕ) (bytes : List ℕ) → n' ≡ noted n who (Put index) (Some (device_reply replies.Written failed)) calls → (failed ≡ None → Grows s.told s'.told (λ d more. more ≡ device.Write (block_at s.geometry at) bytes true ∷ [])) → at < s.geometry.blocks → IfSome s'.told (λ d. length d.trace ≡ calls) → Ordered n'.history o s'
      ordered_put index calls None bytes is wrote lies counted =
          let now : Works n.history.version o.adds o.nodes s'.geometry s'.told (puts ++ calls ∷ []) (put_add this) = record {
            blocks = its_works.blocks;
            has = its_works.has;
            need = its_works.need;
            aside = its_works.aside;
            done = its_works.done ++ at ∷ [];
            rest = next_block.tail;
            parts = its_works.parts ∙ ap (λ (bs : List ℕ). its_works.done ++ bs) next_block.is ∙ sym (append_assoc its_works.done (at ∷ []) next_block.tail);
            count = omega (arith, its_works.count, length-append its_works.done (at ∷ []));
            wrote = wrote_on bytes calls s.told s'.told (wrote refl) its_works.wrote old.room lies counted;
          } in
          subst (λ (m : Noted). Ordered m.history o s') (sym is)
          (ordered_after n.history o o s s' (event_of who (Put index) replies.Written calls) old geometry Apart apart tt (located_quiet n.history s s' (event_of who (Put index) replies.Written calls) Apart geometry began apart old.puts refl less old.located) (keeps_quiet n.history s s' (event_of who (Put index) replies.Written calls) Apart geometry apart old.puts refl less still old.contents) (written_put index bytes calls s.told s'.told (wrote refl) counted)
          (λ b after.
          let both : Some (put_add this) ≡ Some b = sym (ap (λ (add : Option OwnAdd). add_after add (Put index) replies.Written) mine) ∙ after in
          let same : put_add this ≡ b = cc in
          subst (λ (x : OwnAdd). Stands x.admitted n.history.version o.adds o.nodes s'.geometry s'.told (puts ++ calls ∷ []) x) same now)
          (λ y b other theirs. record { blocks = refl; nodes = refl; stays = λ v has. but v.items (not_theirs b.root v ((agrees n next t o s Both who.session kept old).apart who.session y this b other mine theirs) has) }))
      ordered_put index calls (Some f) bytes is wrote lies counted =
          let now : Works n.history.version o.adds o.nodes s'.geometry s'.told puts this = works_on n.history.version o o s s' puts this geometry refl refl its_works (but its_works.done unput) in
          subst (λ (m : Noted). Ordered m.history o s') (sym is)
          (ordered_after n.history o o s s' (event_of who (Put index) (replies.DeviceFault f) calls) old geometry Apart apart tt (located_quiet n.history s s' (event_of who (Put index) (replies.DeviceFault f) calls) Apart geometry began apart old.puts refl less old.located) (keeps_quiet n.history s s' (event_of who (Put index) (replies.DeviceFault f) calls) Apart geometry apart old.puts refl less still old.contents) (not_put s'.told (event_of who (Put index) (replies.DeviceFault f) calls) (λ w. cc))
          (λ b after.
          let both : Some this ≡ Some b = sym mine ∙ after in
          let same : this ≡ b = cc in
          subst (λ (x : OwnAdd). Stands x.admitted n.history.version o.adds o.nodes s'.geometry s'.told puts x) same now)
          (λ y b other theirs. record { blocks = refl; nodes = refl; stays = λ v has. but v.items (not_theirs b.root v ((agrees n next t o s Both who.session kept old).apart who.session y this b other mine theirs) has) }))

      -- a put goes to no block of a blob
      pub sound_put : (new : Tables) (index calls : ℕ) (failed : Option ℕ) → n' ≡ noted n who (Put index) (Some (device_reply replies.Written failed)) calls → L.Does t new who (Put index) (Some (device_reply replies.Written failed)) → PublishedAreSound n.history t.map s → PublishedAreSound n'.history new.map s'
      sound_put new index calls failed is does sound =
          subst (λ (k : Noted). PublishedAreSound k.history new.map s') (sym is)
          (sound_quiet n.history t.map new.map s s' (event_of who (Put index) (device_reply replies.Written failed) calls) Apart geometry apart refl
          (λ r blob has. ap (λ (m : Map). find m r) (sym (put_map t new _ _ who index failed kept.accounts does)) ∙ has) less
          (λ d more each r places lies. same_but s.geometry d more at places each (not_placed r places lies)) sound)
