-- What the disk has now of a volume's blobs.
use Rattle.std.proofs.Common.{◌≡◌, ℕ, ◌++◌, [], false, List, Option, None, Some, IfSome, refl, ap, sym, ◌∙◌, ◌⊎◌, inl, inr}
use Rattle.std.proofs.lemmas.List.{append-nil}
use Rattle.spec_disk.specs.declared.event.Event.{Event}
use Rattle.spec_tree.specs.declared.Digest.{Digest}
use Rattle.spec_core.specs.History.{last_state}
use Rattle.spec_core.specs.Log.{changed, purges}
use Rattle.spec_core.specs.State.{State, among, find}
use Rattle.spec_core.specs.declared.map_change.MapChange.{MapChange}
use Rattle.spec_rest.specs.Rest.{Map, Rests}
use Rattle.bv_device.specs.Told.{Disk, now_of}
use Rattle.bv_model.specs.Noted.{Noted}
use Rattle.bv_space.specs.Owned.{Owned}
use Rattle.bv_ledger.specs.Tables.{Tables}
use Rattle.bv_store.specs.Shown.{HasRecords}
use Rattle.bv_store.specs.Stored.{Stored, Grows}
use Rattle.bv_volume.specs.Kept.{Kept, seen_of}
use Rattle.bv_volume.specs.Seen.{HasBlobsNow, HasTheMap, Opened}
use Rattle.bv_volume.specs.Wrote.{HasMapNow}
use Rattle.bv_volume.proofs.Growing.{Grown}
use Rattle.bv_volume.proofs.Placed.{purged_other}

-- the map that the disk has now, for this state
abbrev pub ShowsState : Stored → State → Type 0
ShowsState s state = IfSome s.told (λ d. HasTheMap s.geometry s.placed state (now_of d))

-- an event that leaves the map, and after which no more than before is out of the queue
pub still_shown : (s : Stored) (before after : State) → after.map ≡ before.map → after.stopped ≡ before.stopped → Grown before.queue after.queue → ShowsState s before → ShowsState s after
still_shown s before after map stopped queue shown = go s.told shown
  where
    go : (o : Option Disk) → IfSome o (λ d. HasTheMap s.geometry s.placed before (now_of d)) → IfSome o (λ d. HasTheMap s.geometry s.placed after (now_of d))
    go None x = tt
    go (Some d) x = record {
      map = x.map;
      records = x.records;
      going = λ none. x.going (sym stopped ∙ none) ∙ sym map;
      agrees = λ r h. x.agrees r (queue r h) ∙ ap (λ (m : Map). find m r) (sym map);
    }

-- a call has failed, after which the disk has a map that is the state's but for what is queued
pub failed_shown : (s : Stored) (after : State) (f : ℕ) (m : Map) → after.stopped ≡ Some f → ((r : Digest) → among after.queue r ≡ false → find m r ≡ find after.map r) → HasMapNow s m → ShowsState s after
failed_shown s after f m stopped agrees has = go s.told has
  where
    go : (o : Option Disk) → IfSome o (λ d. HasRecords s.geometry s.placed m (now_of d)) → IfSome o (λ d. HasTheMap s.geometry s.placed after (now_of d))
    go None x = tt
    go (Some d) x = record {
      map = m;
      records = x;
      going = λ none. let both : Some f ≡ None = sym stopped ∙ none in cc;
      agrees = agrees;
    }

-- the map as it was, or without what is queued
pub either_shown : (s : Stored) (after : State) (f : ℕ) → after.stopped ≡ Some f → HasMapNow s after.map ⊎ HasMapNow s (changed after.map (purges after.map after.queue ++ [])) → ShowsState s after
either_shown s after f stopped (inl has) = failed_shown s after f after.map stopped (λ r h. refl) has
either_shown s after f stopped (inr has) =
    failed_shown s after f (changed after.map (purges after.map after.queue ++ [])) stopped
    (λ r h. ap (λ (cs : List MapChange). find (changed after.map cs) r) (append-nil (purges after.map after.queue)) ∙ purged_other after.map after.queue r h) has

-- what follows where the disk could go on from the last map follows anyway, as what tells nothing shows
-- nothing
pub shown_on : (n : Noted) (next : ℕ) (t : Tables) (s s' : Stored) (Both : Map → Map → Type 0) (P : Disk → List Event → Type 0) (after : State) → Kept n next t s Both → (last_state n.history next).stopped ≡ None → Grows s.told s'.told P → ((a : Map) → Both a (last_state n.history next).map → ShowsState s' after) → Opened s n.history → ShowsState s' after
shown_on n next t s s' Both P after kept going grows from opened = go s.told grows (kept.safe opened)
  where
    go : (o : Option Disk) → Grows o s'.told P → IfSome o (λ d. Rests Both d.base d.trace n.history next) → ShowsState s' after
    go None gone old = rw gone tt
    go (Some d) g old = from _ (old.going going).both

-- while nothing has failed the disk has the state's map
pub blobs_now : (n : Noted) (next : ℕ) (t : Tables) (o : Owned) (s : Stored) (Both : Map → Map → Type 0) → Kept n next t s Both → ((a b : Map) → Both a b → HasMapNow s b) → HasBlobsNow (seen_of n next t o s)
blobs_now n next t o s Both kept shown = λ opened. by_case (last_state n.history next).stopped refl opened
  where
    all : (d : Option Disk) → IfSome d (λ x. Rests Both x.base x.trace n.history next) → ((a b : Map) → Both a b → IfSome d (λ x. HasRecords s.geometry s.placed b (now_of x))) → (last_state n.history next).stopped ≡ None → IfSome d (λ x. HasTheMap s.geometry s.placed (last_state n.history next) (now_of x))
    all None rests law going = tt
    all (Some d) rests law going = record { map = (last_state n.history next).map; records = law _ _ (rests.going going).both; going = λ none. refl; agrees = λ r h. refl }

    by_case : (x : Option ℕ) → (last_state n.history next).stopped ≡ x → Opened s n.history → ShowsState s (last_state n.history next)
    by_case None is opened = all s.told (kept.safe opened) shown is
    by_case (Some f) is opened = kept.shown opened f (sym (ap (λ (x : State). x.stopped) kept.state) ∙ is)
