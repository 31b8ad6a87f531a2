-- An unmount, from what it did to the device to its event.
use Rattle.bv_volume.proofs.SoundNow.{published_now, sound_found}
use Rattle.bv_volume.proofs.Sound.{map_sub, same_map, sound_quiet}
use Rattle.bv_volume.proofs.Sessions.{same_all}
use Rattle.bv_volume.proofs.Located.{LocatedIn, less_places, located_quiet}
use Rattle.bv_volume.proofs.Contents.{KeepsIn, keeps_quiet}
use Rattle.bv_volume.specs.Sessions.{PutsAreWrites}
use Rattle.bv_volume.specs.Sound.{FoundAreSoundNow, PublishedAreSound, PublishedAreSoundNow}
use Rattle.bv_model.specs.Sole.{Sole}
use Rattle.spec_tree.specs.declared.blob.Blob.{Blob}
use Rattle.spec_core.specs.declared.map_change.MapChange.{MapChange}
use Rattle.spec_core.specs.declared.event.CoreEvent.{CoreEvent}
use Rattle.std.proofs.lemmas.List.{append-nil}
use Rattle.std.proofs.Common.{◌≡◌, ◌≤◌, ℕ, ◌+◌, ◌-◌, ◌++◌, [], cond, List, length, Option, Some, None, Result, Ok, Err, IfSome, OnOk, refl, ap, sym, subst, arith, ◌⊎◌, inl, inr, ◌∙◌}
use Rattle.spec_disk.specs.Images.{IsSettled}
use Rattle.spec_tree.specs.declared.Digest.{Digest}
use Rattle.spec_core.specs.Choice.{is_empty}
use Rattle.spec_core.specs.History.{Legal, last_state}
use Rattle.spec_core.specs.Log.{purges, changed}
use Rattle.spec_core.specs.State.{State, find}
use Rattle.spec_core.specs.declared.act.Act.TheVariants.{Unmount}
use Rattle.spec_core.specs.declared.reply.Reply.{Reply}
use Rattle.spec_core.specs.declared.reply.Reply.TheVariants.{Unmounted}
use Rattle.spec_core.specs.declared.who.Who.{Who}
use Rattle.spec_image.specs.Leaves.{Leaves}
use Rattle.spec_rest.specs.Rest.{Map, HoldsEither}
use Rattle.bv_model.specs.Noted.{Noted, with_noted}
use Rattle.bv_space.specs.Owned.{Owned}
use Rattle.bv_ledger.specs.Answers.{device_reply, refusal_reply}
use Rattle.bv_ledger.specs.declared.faults.Refusal.{Refusal}
use Rattle.bv_ledger.specs.declared.faults.Refusal.TheVariants as refusal
use Rattle.bv_ledger.specs.Tables as L
use Rattle.bv_ledger.specs.Tables.{Tables}
use Rattle.bv_store.specs.Stored.{Stored, Grows, SameData, placed_without}
use Rattle.bv_volume.specs.Answers.{unmount_reply}
use Rattle.bv_volume.specs.Ended.{AsksNothing, EndsMount, Unmounts, device_answer, refusal_answer}
use Rattle.bv_volume.specs.Events.{Does, event_of, noted}
use Rattle.bv_volume.specs.Kept.{Kept, seen_of}
use Rattle.bv_volume.specs.Seen.{HasBlobsNow, Seen, IsSafe}
use Rattle.bv_volume.specs.Wrote.{Lasts}
use Rattle.bv_volume.specs.declared.unmounting.UnmountFault.{UnmountFault}
use Rattle.bv_volume.specs.declared.unmounting.UnmountFault.TheVariants as unmount
use Rattle.bv_volume.proofs.Calls.{unmount_call}
use Rattle.bv_volume.proofs.Silent.{has_room, quiet_call}
use Rattle.bv_device.specs.Told.{now_of}
use Rattle.bv_store.specs.Shown.{HasRecords}
use Rattle.bv_volume.proofs.Shown.{blobs_now}
use Rattle.bv_volume.proofs.Ties.{IsSilent, kept_planned, safe_of}

-- the replies of the answers
pub device_replies : (failed : Option ℕ) → unmount_reply (device_answer failed) ≡ Some (device_reply Unmounted failed)
device_replies None = refl
device_replies (Some f) = refl

pub refusal_replies : (r : Refusal) → unmount_reply (refusal_answer r) ≡ Some (refusal_reply r)
refusal_replies (refusal.Stopped f) = refl
refusal_replies refusal.NumberEnd = refl

-- an emptied journal leaves blobs where they lie
pub placed_on : (old mid new after : List (Digest × List ℕ)) → new ≡ mid → (mid ≡ old) ⊎ (mid ≡ after) → (new ≡ old) ⊎ (new ≡ after)
placed_on old mid new after same (inl was) = inl (same ∙ was)
placed_on old mid new after same (inr was) = inr (same ∙ was)

-- what was done, by the answer
pub unmounts_device : (stopped : Option ℕ) (old new : Stored) (Both New : Map → Map → Type 0) (queue : List Digest) (failed : Option ℕ) → EndsMount stopped old new Both New queue failed → Unmounts stopped old new Both New queue (device_answer failed)
unmounts_device stopped old new Both New queue None e = e
unmounts_device stopped old new Both New queue (Some f) e = e

pub unmounts_refused : (stopped : Option ℕ) (old new : Stored) (Both New : Map → Map → Type 0) (queue : List Digest) (r : Refusal) → AsksNothing old new Both New → Unmounts stopped old new Both New queue (refusal_answer r)
unmounts_refused stopped old new Both New queue (refusal.Stopped f) a = a
unmounts_refused stopped old new Both New queue refusal.NumberEnd a = a

-- the volume that would show the event
abbrev pub Shows : Seen → Noted → Stored → Who → Option Reply → Type 0
Shows old n s who reply = (v : Seen) × (v.history ≡ n.history) × (v.store ≡ record s { planned = None }) × Does old v who Unmount reply × Legal v.history v.next × IsSafe v × HasBlobsNow v × PublishedAreSoundNow v × FoundAreSoundNow v

module _ (n : Noted) (next : ℕ) (t new : Tables) (o : Owned) (s s' : Stored) (Both New : Map → Map → Type 0) (who : Who) (kept : Kept n next t s Both) (room : 1 ≤ n.spare - length t.adds)
    (counted : IfSome s'.told (λ d. length d.trace ≡ s'.calls)) (holds : (a b : Map) → New a b → IfSome s'.told (λ d. Leaves d.base d.trace (HoldsEither a b)))
    (before : (a b : Map) → Both a b → IfSome s.told (λ d. HasRecords s.geometry s.placed b (now_of d))) (shown : (a b : Map) → New a b → IfSome s'.told (λ d. HasRecords s'.geometry s'.placed b (now_of d)))
    (sound : PublishedAreSound n.history t.map s) (located : LocatedIn n.history s) (contents : KeepsIn n.history s) (puts : IfSome s.told (λ d. PutsAreWrites d.trace n.history.events)) (soles : t.stopped ≡ None → Sole t.map × Sole s.placed)
    (same : Grows s.told s'.told (λ d more. SameData s.geometry d more)) (either : (s'.placed ≡ s.placed) ⊎ (s'.placed ≡ placed_without s.placed (t.queue ++ t.leaving))) where
  -- what is sound stays so, where the map and the places only lose
  sound_now_on : (n' : Noted) (q : Reply) → n' ≡ with_noted n (event_of who Unmount q s'.calls) → s'.geometry ≡ s.geometry → s'.began ≡ s.began → ((r : Digest) (places : List ℕ) → find s'.placed r ≡ Some places → find s.placed r ≡ Some places) → ((r : Digest) (blob : Blob) → find new.map r ≡ Some blob → find t.map r ≡ Some blob)
      → Kept n' next new s' New → PublishedAreSoundNow (seen_of n' next new o s') × FoundAreSoundNow (seen_of n' next new o s')
  sound_now_on n' q is geometry began less fewer after =
      let e : CoreEvent = event_of who Unmount q s'.calls in
      let v : Seen = seen_of n' next new o s' in
      let blobs : HasBlobsNow v = blobs_now n' next new o s' New after shown in
      let sound_on : PublishedAreSound n'.history new.map s' = subst (λ (k : Noted). PublishedAreSound k.history new.map s') (sym is)
      (sound_quiet n.history t.map new.map s s' e (λ d more. SameData s.geometry d more) geometry same refl fewer less (λ d more sd r places lies. same_all s.geometry d more places sd) sound) in
      let located_on : LocatedIn n'.history s' = subst (λ (k : Noted). LocatedIn k.history s') (sym is) (located_quiet n.history s s' e (λ d more. SameData s.geometry d more) geometry began same puts refl less located) in
      let contents_on : KeepsIn n'.history s' = subst (λ (k : Noted). KeepsIn k.history s') (sym is) (keeps_quiet n.history s s' e (λ d more. SameData s.geometry d more) geometry same puts refl less (λ d more sd r places lies. same_all s.geometry d more places sd) contents) in
      (published_now v blobs (subst (λ (m : Map). PublishedAreSound n'.history m s') (sym (ap (λ (x : State). x.map) after.state)) sound_on), sound_found v blobs after.legal located_on contents_on)

  unmounted_map : (failed : Option ℕ) → t.stopped ≡ None → L.Does t new who Unmount (Some (device_reply Unmounted failed)) → (r : Digest) (blob : Blob) → find new.map r ≡ Some blob → find t.map r ≡ Some blob
  unmounted_map None going does r blob has =
      let now : new.map ≡ changed t.map (purges t.map (t.queue ++ t.leaving)) = sym (ap (λ (x : State). x.map) (does.1 _ _ kept.accounts).state) ∙ ap (λ (cs : List MapChange). changed t.map cs) (append-nil (purges t.map (t.queue ++ t.leaving))) in
      map_sub t.map (t.queue ++ t.leaving) (soles going).0 r blob (ap (λ (k : Map). find k r) (sym now) ∙ has)
  unmounted_map (Some f) going does r blob has = ap (λ (k : Map). find k r) (ap (λ (x : State). x.map) (does.1 _ _ kept.accounts).state) ∙ has

  asked : (failed : Option ℕ) (n' : Noted) → n' ≡ with_noted n (event_of who Unmount (device_reply Unmounted failed) s'.calls) → L.Does t new who Unmount (Some (device_reply Unmounted failed)) → EndsMount t.stopped s s' Both New (t.queue ++ t.leaving) failed → Shows (seen_of n next t o s) n' s' who (Some (device_reply Unmounted failed))
  asked failed n' is does e =
      let last : State = last_state n.history next in
      let queue : t.queue ++ t.leaving ≡ last.queue ++ last.leaving = ap (λ (x : State). x.queue ++ x.leaving) (sym kept.state) in
      let d = unmount_call n next t new o o refl s s' Both New who kept e.going counted holds (omega (arith, room)) failed n' is does
      (subst (λ (q : List Digest). Lasts s s' Both New (λ m. purges m q ++ []) failed) queue e.lasts)
      (subst (λ (q : List Digest). failed ≡ None → s'.number ≡ cond (is_empty q) s.number (s.number + 1)) queue e.number) in
      let both = sound_now_on n' (device_reply Unmounted failed) is e.lasts.moves.geometry e.lasts.moves.began (less_places s.placed s'.placed (t.queue ++ t.leaving) (soles e.going).1 either) (unmounted_map failed e.going does) d.kept in
      (seen_of n' next new o s', refl, refl, d.does, d.kept.legal, d.safe, blobs_now n' next new o s' New d.kept shown, both.0, both.1)

  unasked : (q : Reply) (n' : Noted) → n' ≡ with_noted n (event_of who Unmount q s'.calls) → L.Does t new who Unmount (Some q) → IsSilent (Some q) → AsksNothing s s' Both New → Shows (seen_of n next t o s) n' s' who (Some q)
  unasked q n' is does silent a =
      let after = kept_planned n next t s s' Both New a.planned a.is a.both kept in
      let d = quiet_call n n' next t new o o s' New who Unmount (Some q) refl is after does silent (has_room n next t new s Both who Unmount (Some q) kept does (λ x. refl) room) counted in
      let both = sound_now_on n' q is (ap (λ (x : Stored). x.geometry) a.is) (ap (λ (x : Stored). x.began) a.is) (λ r places lies. ap (λ (x : Stored). find x.placed r) (sym a.is) ∙ lies)
      (λ r blob has. ap (λ (k : Map). find k r) (sym (same_map t new _ _ who Unmount (Some q) kept.accounts does silent)) ∙ has) d.kept in
      (seen_of n' next new o s', refl, refl, subst (λ (v : Seen). Does v (seen_of n' next new o s') who Unmount (Some q)) (ap (λ (x : Stored). seen_of n next t o x) a.is) d.does, d.kept.legal, d.safe, blobs_now n' next new o s' New d.kept shown, both.0, both.1)

  pub unmount_shows : (res : Result (Unit {0}) UnmountFault) (n' : Noted) → n' ≡ noted n who Unmount (unmount_reply res) s'.calls → IfSome (unmount_reply res) (λ q. L.Does t new who Unmount (Some q)) → Unmounts t.stopped s s' Both New (t.queue ++ t.leaving) res → Shows (seen_of n next t o s) n' s' who (unmount_reply res)
  unmount_shows (Ok v) n' is does u = asked None n' is does u
  unmount_shows (Err (unmount.DeviceFault f)) n' is does u = asked (Some f) n' is does u
  unmount_shows (Err (unmount.Stopped f)) n' is does u = unasked _ n' is does (refl, refl) u
  unmount_shows (Err unmount.NumberEnd) n' is does u = unasked _ n' is does (refl, refl) u
  unmount_shows (Err unmount.NoMemory) n' is does u =
      (seen_of n next t o s, ap (λ (x : Noted). x.history) (sym is), ap (λ (x : Stored). record x { planned = None }) (sym u.is), refl, kept.legal, safe_of n next t o s Both kept, blobs_now n next t o s Both kept before, (published_now (seen_of n next t o s) (blobs_now n next t o s Both kept before) (subst (λ (m : Map). PublishedAreSound n.history m s) (sym (ap (λ (x : State). x.map) kept.state)) sound)), sound_found (seen_of n next t o s) (blobs_now n next t o s Both kept before) kept.legal located contents)

  pub unmount_settles : (res : Result (Unit {0}) UnmountFault) → Unmounts t.stopped s s' Both New (t.queue ++ t.leaving) res → OnOk res (IfSome s'.told (λ d. IsSettled d.trace))
  unmount_settles (Ok v) u = u.settled refl
  unmount_settles (Err e) u = tt
