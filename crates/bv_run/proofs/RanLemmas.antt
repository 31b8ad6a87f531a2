-- From the sessions over a mounted volume to what became of its device.
use Rattle.std.proofs.Common.{◌≡◌, ℕ, Bool, true, false, List, [], ◌∷◌, ◌++◌, drop, take, Option, None, Some, Result, Ok, Err, refl, ap, sym, ◌∙◌, subst, append_assoc, inr}
use Rattle.std.specs.Prelude.{IfSome, IsSomeAnd, option_map}
use Rattle.std.proofs.lemmas.List.{take-append-drop}
use Rattle.spec_disk.specs.declared.event.Event.{Event}
use Rattle.spec_disk.specs.Images.{IsSettled}
use Rattle.spec_tree.specs.declared.Digest.{Digest}
use Rattle.spec_tree.specs.declared.blob.Blob.{Blob}
use Rattle.spec_core.specs.History.{History, last_state, opening_map}
use Rattle.spec_core.specs.State.{find}
use Rattle.spec_core.specs.declared.act.Act.{Act}
use Rattle.spec_core.specs.declared.act.Act.TheVariants.{Unmount}
use Rattle.spec_core.specs.declared.event.CoreEvent.{CoreEvent}
use Rattle.spec_crash.specs.Crash.{HoldsWhole}
use Rattle.spec_script.specs.Lawful.{AreLawful}
use Rattle.spec_script.specs.declared.line.ScriptLine.{ScriptLine}
use Rattle.spec_session.specs.Conform.{events_of}
use Rattle.spec_session.specs.Own.{Named}
use Rattle.spec_session.specs.declared.end.SessionEnd.{SessionEnd}
use Rattle.spec_served.specs.Adds.{AreByLine}
use Rattle.spec_served.specs.Device.{At, blob_by}
use Rattle.spec_seen.proofs.ByLineLemmas.{front_by}
use Rattle.spec_seen.specs.Held.{up_to}
use Rattle.spec_headline.specs.Run.{Run, CutShort, Ended, HasSoundBlobs, HasWholeBlobs, MetMismatch, OpensWith, Seen as SeenOf, run_of}
use Rattle.spec_headline.specs.Headline.{IsUnmounted, LeavesSettled, LeavesSound, Survives}
use Rattle.spec_unmounted.proofs.Leaving.{leaves_all}
use Rattle.spec_complete.specs.Fit.{IsAbout}
use Rattle.spec_complete.specs.Sound.{HoldsThere}
use Rattle.spec_complete.proofs.Holding.{held_lines_fit}
use Rattle.spec_complete.proofs.Meeting.{meet_none}
use Rattle.spec_complete.proofs.Moving.{lines_hold}
use Rattle.bv_claims.specs.declared.claims.Claims.{Claims}
use Rattle.bv_device.specs.Seen.{Seen}
use Rattle.bv_device.specs.Told.{Disk, disk_with, now_of}
use Rattle.bv_journaled.specs.Since.{began_at, since}
use Rattle.bv_journaled.specs.Standing.{Standing, stored_of}
use Rattle.bv_mount.specs.declared.inspected.Inspected.{Inspected}
use Rattle.bv_mounted.specs.Mounts.{Gives, Mounts, recovered}
use Rattle.bv_mounted.specs.Opens.{GoesOn}
use Rattle.bv_mounted.proofs.ImageLemmas.{holds_whole}
use Rattle.bv_mounted.proofs.OpensLemmas.{opens_with_its_image, survives_from_its_image}
use Rattle.bv_sessions.specs.Runs.{Runs}
use Rattle.bv_shared.specs.Moments.{BeganWhole, HasItsBlob, IsSure, Moment, held_by}
use Rattle.bv_shared.specs.Since.{AreOfOneDisk}
use Rattle.bv_store.specs.Stored.{Stored}
use Rattle.bv_volume.specs.Seen.{Seen as Volume}
use Rattle.bv_serve.specs.declared.refusal.Refusal.{Refusal}
use Rattle.bv_run.specs.declared.finished.Finished.{Finished}
use Rattle.bv_run.specs.Begun.{Begins}
use Rattle.bv_run.specs.Mounted.{RunsOver}
use Rattle.bv_run.specs.Outcomes.{Came}
use Rattle.bv_run.specs.Reports.{OutOfMemory, Done}
use Rattle.bv_run.specs.Runs.{Went}
use Rattle.bv_run.proofs.AboutLemmas.{line_unqueued}
use Rattle.bv_run.proofs.SoundLemmas.{by_line, if_some, leaves_sound}

some_and : {A : Type 0} (P : A → Type 0) (o : Option A) (x : A) → o ≡ Some x → IsSomeAnd o P → P x
some_and {A} P o x is h = let Q : Option A → Type 0 = λ y. IsSomeAnd y P in subst Q is h

some_is : {A : Type 0} (x y : A) → Some x ≡ Some y → x ≡ y
some_is x y e = cc e

-- ---- a mounted volume is one that sessions can run over

one_disk : (i : Inspected) (o : Option Disk) → AreOfOneDisk o (option_map (recovered i) o)
one_disk i None = tt
one_disk i (Some d) = refl

pub mounted_disk : (old : Seen) (i : Inspected) (claims : Claims) (v : Volume) → Mounts old i claims v → AreOfOneDisk v.store.began v.store.told
mounted_disk old i claims v m =
    subst (λ (p : Option Disk × Option Disk). AreOfOneDisk p.0 p.1) (λ k. ((sym m.began) k, (sym m.told) k)) (one_disk i old.told)

-- the own event of a line that opens, reads or scans a blob is no unmount
no_unmount : (before : List CoreEvent) (e : CoreEvent) (blob : Named) → blob_by (events_of e.who.session before) e.act e.reply ≡ Some blob → ¬ (e.act ≡ Unmount)
no_unmount before e blob is same =
    let none : None ≡ Some blob = subst (λ (a : Act). blob_by (events_of e.who.session before) a e.reply ≡ Some blob) same is in cc

-- ---- what a run leaves

module _ (old : Seen) (i : Inspected) (claims : Claims) (first : Volume) (m : Mounts old i claims first) (gives : Gives old i)
    (lines : List ScriptLine) (h : History) (ends : List SessionEnd) (whole : Bool) (s : Standing) (new : Seen) (device : new ≡ s.device)
    (runs : Runs lines first h ends whole (stored_of s)) where
  -- the run, and the volume that shows its end
  abbrev run : Run
  run = run_of lines h ends

  abbrev last : Volume
  last = runs.last

  goes : GoesOn first last
  goes = record {
    opening = runs.later.opening;
    blocks = runs.later.blocks;
    nodes = runs.later.nodes;
    version = runs.later.version;
    next = runs.later.next;
    began = runs.later.began;
    disk = runs.later.disk;
  }

  -- what the run began with
  ran_begins : Begins None run first.next old
  ran_begins = record {
    before = old;
    is_made = refl;
    opens = subst (λ (p : History × ℕ). IfSome old.told (λ d. IsSettled d.trace → OpensWith (now_of d) p.0 p.1))
        (λ k. ((sym runs.history_is) k, runs.later.next k))
        (opens_with_its_image old i claims first last m gives goes);
  }

  -- the counts of faults are those of the device
  first_faults : first.store.faults ≡ old.fault_count
  first_faults = m.faults

  last_faults : (stored_of s).faults ≡ new.fault_count
  last_faults = ap (λ (x : Seen). x.fault_count) (sym device)

  module _ (d e : Disk) (is : old.told ≡ Some d) (is_new : new.told ≡ Some e) where
    -- the device's events since the mount began
    abbrev events : List Event
    events = drop s.opened e.trace

    now_told : s.device.told ≡ Some e
    now_told = ap (λ (x : Seen). x.told) (sym device) ∙ is_new

    began : began_at s.opened e ≡ d
    began = some_is _ _
        (sym (ap (λ (o : Option Disk). option_map (began_at s.opened) o) now_told)
        ∙ (ap (λ (x : Stored). x.began) runs.store_is ∙ (runs.later.began ∙ (m.began ∙ is))))

    last_told : last.store.told ≡ Some (since s.opened e)
    last_told = sym (ap (λ (x : Stored). x.told) runs.store_is) ∙ ap (λ (o : Option Disk). option_map (since s.opened) o) now_told

    joined : e ≡ disk_with d events
    joined =
        (λ k. record { base = e.base; trace = (sym (take-append-drop s.opened e.trace)) k })
        ∙ ap (λ (x : Disk). disk_with x events) began

    -- wherever the machine stops
    ran_survives : IsSettled d.trace → HasWholeBlobs (now_of d) → Survives (now_of d) events h first.next
    ran_survives settled blobs =
        let from = survives_from_its_image old i claims first last m gives goes runs.safe in
        let at = if_some (λ x. IsSettled x.trace → HasWholeBlobs (now_of x) → IsSomeAnd last.store.told (λ y. (y.base ≡ now_of x) × Survives (now_of x) y.trace last.history last.next)) old.told d is from settled blobs in
        let there = some_and (λ y. (y.base ≡ now_of d) × Survives (now_of d) y.trace last.history last.next) last.store.told (since s.opened e) last_told at in
        subst (λ (p : History × ℕ). Survives (now_of d) events p.0 p.1) (λ k. ((sym runs.history_is) k, runs.later.next k)) there.1

    -- after a reply `unmounted`
    leaves : whole ≡ true → Survives (now_of d) events h first.next → IsUnmounted h → LeavesSettled (now_of d) events h
    leaves full survives unmounted =
        let told : (stored_of s).told ≡ Some (since s.opened e) = ap (λ (o : Option Disk). option_map (since s.opened) o) now_told in
        let settled : IsSettled events = if_some (λ x. IsSettled x.trace) (stored_of s).told (since s.opened e) told (runs.settled full unmounted) in
        let left = leaves_all (now_of d) events h survives.stops settled unmounted in
        record { settled = settled; map = left.is; whole = left.whole }

    -- and which blobs are sound then
    leaves_these : AreLawful lines → whole ≡ true → IsSettled d.trace → HasWholeBlobs (now_of d) → OpensWith (now_of d) h first.next → IsUnmounted h → LeavesSound (now_of d) events h
    leaves_these lawful full settled blobs opens unmounted =
        let ended = runs.ended full in
        let was : last.store.began ≡ Some d = runs.later.began ∙ (m.began ∙ is) in
        let same : (since s.opened e).base ≡ now_of d =
        some_and (λ y. y.base ≡ now_of d) last.store.told (since s.opened e) last_told
        (if_some (λ x. IsSomeAnd last.store.told (λ y. y.base ≡ now_of x)) last.store.began d was runs.later.disk) in
        leaves_sound lines lawful last d (since s.opened e) was last_told same (runs.published full) (runs.found full) settled blobs
        h first.next (sym runs.history_is) runs.later.next opens ended.legal ended.conform ended.unmount unmounted

    -- what the results say of the device
    sees : whole ≡ true → IsSettled d.trace → HasWholeBlobs (now_of d) → OpensWith (now_of d) h first.next → SeenOf (now_of d) events run
    sees full settled blobs opens =
        let was : last.store.began ≡ Some d = runs.later.began ∙ (m.began ∙ is) in
        let at =
        if_some (λ b. IfSome last.store.told (λ t. IsSettled b.trace → HoldsWhole (now_of b) (opening_map h) → SeenOf (now_of b) t.trace run))
        last.store.began d was (runs.seen full) in
        if_some (λ t. IsSettled d.trace → HoldsWhole (now_of d) (opening_map h) → SeenOf (now_of d) t.trace run)
        last.store.told (since s.opened e) last_told at
        settled (record { is = opens.map; whole = holds_whole (now_of d) (opening_map h) opens.map blobs })

    -- as the own event of a line that opens, reads or scans a blob ended, the disk had the blob
    line_has : AreLawful lines → whole ≡ true → IsSettled d.trace → HasWholeBlobs (now_of d) → OpensWith (now_of d) h first.next
        → (at : At) → IsAbout h at → (blob : Blob) → find (last_state (up_to h (at.before ++ at.own ∷ [])) first.next).map at.blob.0 ≡ Some blob
        → HoldsThere (now_of d) (take at.own.calls events) (at.before ++ at.own ∷ []) at.blob.0 blob
    line_has lawful full settled blobs opens at about blob found =
        let then : List CoreEvent = at.before ++ at.own ∷ [] in
        let was : last.store.began ≡ Some d = runs.later.began ∙ (m.began ∙ is) in
        let split : h.events ≡ then ++ about.rest = about.is ∙ sym (append_assoc at.before (at.own ∷ []) about.rest) in
        let mine = runs.had full at.before at.own about.rest (ap (λ (x : History). x.events) (sym runs.history_is) ∙ about.is) (no_unmount at.before at.own at.blob about.blob) in
        let moment : Moment last.store.began last.store.told h first.next then at.own.calls =
        subst (λ (p : History × ℕ). Moment last.store.began last.store.told p.0 p.1 then at.own.calls) (λ k. ((sym runs.history_is) k, runs.later.next k)) mine in
        let began_so : BeganWhole (Some d) h = (settled, record { is = opens.map; whole = holds_whole (now_of d) (opening_map h) opens.map blobs }) in
        let ended = runs.ended full in
        let all = moment (subst (λ (o : Option Disk). BeganWhole o h) (sym was) began_so)
        (front_by [] then about.rest (subst (AreByLine []) split (by_line lines h lawful ended.conform ended.unmount))) in
        let Its : Disk → Disk → Type 0 = λ x y. (root : Digest) (b : Blob) → find (last_state (up_to h then) first.next).map root ≡ Some b
        → IsSure (last_state (up_to h then) first.next) root → HasItsBlob (now_of x) (take at.own.calls y.trace) then root b in
        let its = if_some (λ y. Its d y) last.store.told (since s.opened e) last_told (if_some (λ x. IfSome last.store.told (λ y. Its x y)) last.store.began d was all) at.blob.0 blob found (inr (line_unqueued h first.next at ended.legal about)) in
        record { opening = λ none. its.4 ∙ ap (held_by (now_of d) (take at.own.calls events) then at.blob.0) none; published = its.5 }

    -- over sound blobs no line meets a mismatch
    meets : AreLawful lines → whole ≡ true → IsSettled d.trace → HasWholeBlobs (now_of d) → OpensWith (now_of d) h first.next → HasSoundBlobs (now_of d) → ¬ MetMismatch run
    meets lawful full settled blobs opens sound =
        let ended = runs.ended full in
        meet_none (now_of d) events run lawful ended.served (sees full settled blobs opens)
        (held_lines_fit (now_of d) events h first.next ended.legal opens.map sound
        (lines_hold (now_of d) events h first.next ended.legal (line_has lawful full settled blobs opens)))

  -- a device that told still does
  told_last : last.store.told ≡ option_map (since s.opened) new.told
  told_last = sym (ap (λ (x : Stored). x.told) runs.store_is) ∙ ap (λ (x : Seen). option_map (since s.opened) x.told) (sym device)

  ran_tells : IfSome old.told (λ d. IsSomeAnd new.told (λ e. Unit {0}))
  ran_tells = by old.told refl where
    told : (o : Option Disk) (b : Disk) → IsSomeAnd (option_map (since s.opened) o) (λ y. y.base ≡ now_of b) → IsSomeAnd o (λ e. Unit {0})
    told None b k = absurd k
    told (Some e) b k = tt

    by : (o : Option Disk) → old.told ≡ o → IfSome o (λ d. IsSomeAnd new.told (λ e. Unit {0}))
    by None is = tt
    by (Some d) is =
        let was : last.store.began ≡ Some d = runs.later.began ∙ (m.began ∙ is) in
        told new.told d
        (subst (λ (o : Option Disk). IsSomeAnd o (λ y. y.base ≡ now_of d)) told_last
        (if_some (λ x. IsSomeAnd last.store.told (λ y. y.base ≡ now_of x)) last.store.began d was runs.later.disk))

  ran_done : AreLawful lines → whole ≡ true → Went None (Done run first.next) old new
  ran_done lawful full = record {
    begins = ran_begins;
    holds = subst (λ (p : ℕ × ℕ). Ended run first.next p.0 p.1) (λ k. (first_faults k, last_faults k)) (runs.ended full);
    tells = ran_tells;
    told = λ d e is is_new premises.
        let survives = ran_survives d e is is_new premises.0 premises.1 in
        record {
          opening = d;
          is_opening = refl;
          events = events d e is is_new;
          is = joined d e is is_new;
          holds = (
            record { survives = survives; legal = (runs.ended full).legal; conform = (runs.ended full).conform; unmount = (runs.ended full).unmount },
            λ unmounted. (
              leaves d e is is_new full survives unmounted,
              leaves_these d e is is_new lawful full premises.0 premises.1 survives.opens unmounted,
            ),
            sees d e is is_new full premises.0 premises.1 survives.opens,
            meets d e is is_new lawful full premises.0 premises.1 survives.opens,
          );
        };
  }

  ran_short : whole ≡ false → Went None (OutOfMemory run first.next) old new
  ran_short cut = record {
    begins = ran_begins;
    holds = subst (λ (p : ℕ × ℕ). CutShort run first.next p.0 p.1) (λ k. (first_faults k, last_faults k)) (runs.cut cut);
    tells = tt;
    told = λ d e is is_new premises. record {
      opening = d;
      is_opening = refl;
      events = events d e is is_new;
      is = joined d e is is_new;
      holds = ran_survives d e is is_new premises.0 premises.1;
    };
  }

pub ran : (old : Seen) (i : Inspected) (claims : Claims) (first : Volume) (lines : List ScriptLine) (result : Result Finished Refusal) (new : Seen)
    → Mounts old i claims first → Gives old i → RunsOver lines first result new → Came lines None result old new
ran old i claims first lines (Ok f) new m gives r = (
  r.runs.count refl,
  (first.next, ran_done old i claims first m gives lines f.history.history f.ends.items true r.store new r.device r.runs r.lawful refl),
)
ran old i claims first lines (Err refusal) new m gives r = (
  OutOfMemory (run_of lines r.history r.ends) first.next,
  (r.refused, refl),
  ran_short old i claims first m gives lines r.history r.ends false r.store new r.device r.runs refl,
)
