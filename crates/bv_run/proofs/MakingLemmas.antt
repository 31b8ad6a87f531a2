-- A run on a volume that was made first, from the run on the volume that is there.
use Rattle.std.proofs.Common.{◌≡◌, ℕ, inl, inr, List, [], Option, None, Some, Result, Ok, Err, refl, ap, sym, ◌∙◌, subst}
use Rattle.std.specs.Prelude.{All, IfSome, IsSomeAnd}
use Rattle.std.proofs.lemmas.List.Elements.{All-nil}
use Rattle.spec_faults.specs.Faults.{Rose}
use Rattle.spec_tree.specs.declared.Digest.{Digest}
use Rattle.spec_tree.specs.declared.blob.Blob.{Blob}
use Rattle.spec_record.specs.declared.geometry.Geometry.{Geometry}
use Rattle.spec_image.specs.Volume.{blobs, IsWhole}
use Rattle.spec_script.specs.declared.line.ScriptLine.{ScriptLine}
use Rattle.spec_headline.specs.Run.{Run, HasWholeBlobs, run_of}
use Rattle.bv_device.specs.Seen.{Seen}
use Rattle.bv_device.specs.Told.{Disk, now_of, disk_with}
use Rattle.bv_format.specs.declared.fault.FormatFault.{FormatFault}
use Rattle.bv_format.specs.declared.fault.FormatFault.TheVariants as fault
use Rattle.bv_format.specs.Answers.{AnswersCounts, AnswersShort, IsRefusal}
use Rattle.spec_inspect.specs.declared.mount_fault.MountFault.{MountFault}
use Rattle.bv_serve.specs.Format.{refusal_of}
use Rattle.bv_format.specs.Formats.{Formats, IsMade as IsMadeVolume, StopsWell}
use Rattle.bv_serve.specs.declared.refusal.Refusal.{Refusal}
use Rattle.bv_serve.specs.declared.refusal.Refusal.TheVariants as refusals
use Rattle.bv_run.specs.declared.finished.Finished.{Finished}
use Rattle.bv_run.specs.Begun.{CannotMake, Begins, BeginsBy, IsRefusedBy, RefusesImage}
use Rattle.bv_run.specs.Outcomes.{Came, IsOfDevice, IsRefusalOf}
use Rattle.bv_run.specs.Reports.{Answer, NotBegun, OutOfMemory, Done}
use Rattle.bv_run.specs.Runs.{Holds, StillTells, Went}
use Rattle.bv_run.specs.Told.{HoldsSince, IsOpening, IsTold}

if_some : {A : Type 0} (P : A → Type 0) (o : Option A) (x : A) → o ≡ Some x → IfSome o P → P x
if_some {A} P o x is h = let Q : Option A → Type 0 = λ y. IfSome y P in subst Q is h

module _ (g : Geometry) (old made : Seen) (f : Formats g (Ok tt) old made) where
  -- the disk as the making left it
  record MadeDisk (d : Disk) : Type 0 where
    disk : Disk
    is : made.told ≡ Some disk
    opening : IsOpening (Some g) d disk

  made_disk : (d : Disk) → old.told ≡ Some d → MadeDisk d
  made_disk d is =
      let stops : StopsWell g d made.told = if_some (λ x. StopsWell g x made.told) old.told d is f.stops in
      let e : Disk = disk_with d stops.events in
      let whole : IsMadeVolume g e = if_some (IsMadeVolume g) made.told e stops.is (if_some (λ x. IfSome made.told (IsMadeVolume g)) old.told d is f.made) in
      record { disk = e; is = stops.is; opening = ((stops.events, refl, stops.stop), whole.settled, whole.now) }

  -- an empty volume has whole blobs
  none_whole : (e : Disk) → blobs (now_of e) ≡ Some [] → HasWholeBlobs (now_of e)
  none_whole e empty =
      let P : Option (List (Digest × Blob)) → Type 0 = λ o. IsSomeAnd o (λ held. All (λ entry. IsWhole (now_of e) entry.0) held) in
      subst P (sym empty) (All-nil (λ (entry : Digest × Blob). IsWhole (now_of e) entry.0))

  -- what holds since the making
  raised : (answer : Answer) (d m e : Disk) → IsOpening (Some g) d m → HoldsSince None answer m e → HoldsSince (Some g) answer d e
  raised answer d m e opening since = record {
    opening = since.opening;
    is_opening = subst (IsOpening (Some g) d) (sym since.is_opening) opening;
    events = since.events;
    is = since.is;
    holds = since.holds;
  }

  raise : (answer : Answer) (d m e : Disk) → IsOpening (Some g) d m → IsTold None answer m e → IsTold (Some g) answer d e
  raise (NotBegun r) d m e opening (inl same) = inr (inr (inl (subst (IsOpening (Some g) d) (sym same) opening)))
  raise (NotBegun r) d m e opening (inr (inl none)) = absurd none
  raise (NotBegun r) d m e opening (inr (inr (inl same))) = inr (inr (inl (subst (IsOpening (Some g) d) (sym same) opening)))
  raise (NotBegun r) d m e opening (inr (inr (inr since))) = inr (inr (inr (raised (NotBegun r) d m e opening since)))
  raise (OutOfMemory run next) d m e opening since = raised (OutOfMemory run next) d m e opening since
  raise (Done run next) d m e opening since = raised (Done run next) d m e opening since

  raise_image : (why : MountFault) (new : Seen) → RefusesImage None why made new → RefusesImage (Some g) why old new
  raise_image why new r = record {
    before = r.before;
    is_made = subst (λ (x : Seen). Formats g (Ok tt) old x) (sym r.is_made) f;
    named = r.named;
    reads = r.reads;
  }

  raise_begun : (run : Run) (next : ℕ) → Begins None run next made → Begins (Some g) run next old
  raise_begun run next b = record {
    before = b.before;
    is_made = subst (λ (x : Seen). Formats g (Ok tt) old x) (sym b.is_made) f;
    opens = b.opens;
  }

  raise_refusal : (r : Refusal) (new : Seen) → IsOfDevice r → IsRefusedBy None r made new → IsRefusedBy (Some g) r old new
  raise_refusal refusals.DeviceFault new of rose = subst (λ n. Rose n new.fault_count) f.device rose
  raise_refusal (refusals.Volume why) new of (inl none) = absurd none
  raise_refusal (refusals.Volume why) new of (inr image) = inr (raise_image why new image)
  raise_refusal refusals.NoMemory new of by = tt
  raise_refusal refusals.Usage new of by = absurd of
  raise_refusal refusals.TooLong new of by = absurd of
  raise_refusal (refusals.Script line kind) new of by = absurd of
  raise_refusal refusals.SourceFault new of by = absurd of

  -- the answer is one that may come behind a making
  abbrev IsBehind : Answer → Type 0
  IsBehind (NotBegun r) = IsOfDevice r
  IsBehind (OutOfMemory run next) = Unit {0}
  IsBehind (Done run next) = Unit {0}

  raise_begins : (answer : Answer) (new : Seen) → IsBehind answer → BeginsBy None answer made new → BeginsBy (Some g) answer old new
  raise_begins (NotBegun r) new behind by = raise_refusal r new behind by
  raise_begins (OutOfMemory run next) new behind by = raise_begun run next by
  raise_begins (Done run next) new behind by = raise_begun run next by

  -- a device that tells does so behind the making
  raise_done : (new : Seen) → IfSome made.told (λ x. IsSomeAnd new.told (λ e. Unit {0})) → IfSome old.told (λ d. IsSomeAnd new.told (λ e. Unit {0}))
  raise_done new tells = by old.told refl where
    by : (o : Option Disk) → old.told ≡ o → IfSome o (λ d. IsSomeAnd new.told (λ e. Unit {0}))
    by None is = tt
    by (Some d) is = let m = made_disk d is in if_some (λ x. IsSomeAnd new.told (λ e. Unit {0})) made.told m.disk m.is tells

  raise_tells : (answer : Answer) (new : Seen) → StillTells answer made.told new.told → StillTells answer old.told new.told
  raise_tells (NotBegun r) new tells = tt
  raise_tells (OutOfMemory run next) new tells = tt
  raise_tells (Done run next) new tells = raise_done new tells

  pub raise_went : (answer : Answer) (new : Seen) → IsBehind answer → Went None answer made new → Went (Some g) answer old new
  raise_went answer new behind w = record {
    begins = raise_begins answer new behind w.begins;
    holds = subst (λ n. Holds answer n new.fault_count) f.device w.holds;
    tells = raise_tells answer new w.tells;
    told = λ d e is is_new premises.
        let m = made_disk d is in
        raise answer d m.disk e m.opening (w.told m.disk e m.is is_new (m.opening.1, none_whole m.disk m.opening.2.empty));
  }

  behind : (lines : List ScriptLine) (refusal : Refusal) (answer : Answer) → IsRefusalOf lines refusal answer → IsBehind answer
  behind lines refusal (NotBegun r) is = is.1
  behind lines refusal (OutOfMemory run next) is = tt
  behind lines refusal (Done run next) is = tt

  pub raise_came : (lines : List ScriptLine) (result : Result Finished Refusal) (new : Seen) → Came lines None result made new → Came lines (Some g) result old new
  raise_came lines (Ok x) new came = (came.0, (came.1.0, raise_went (Done (run_of lines x.history.history x.ends.items) came.1.0) new tt came.1.1))
  raise_came lines (Err refusal) new came = (came.0, came.1, raise_went came.0 new (behind lines refusal came.0 came.1) came.2)

-- ---- no volume was made

some_is : {A : Type 0} (x y : A) → Some x ≡ Some y → x ≡ y
some_is x y e = cc e

told_same : (old new : Seen) (d e : Disk) → new ≡ old → old.told ≡ Some d → new.told ≡ Some e → e ≡ d
told_same old new d e same is is_new = some_is e d (sym is_new ∙ (ap (λ (s : Seen). s.told) same ∙ is))

-- counts that can't be made leave the device
not_made_counts : (lines : List ScriptLine) (g : Geometry) (why : FormatFault) (mounts : MountFault) (old new : Seen) → CannotMake g old.block_count why
    → refusal_of why ≡ refusals.Volume mounts → new ≡ old → Came lines (Some g) (Err (refusals.Volume mounts)) old new
not_made_counts lines g why mounts old new cannot named same = (
  NotBegun (refusals.Volume mounts),
  (refl, tt),
  record {
    begins = inl (why, cannot, named, same);
    holds = tt;
    tells = tt;
    told = λ d e is is_new premises. inl (told_same old new d e same is is_new);
  },
)

pub not_made : (lines : List ScriptLine) (g : Geometry) (why : FormatFault) (old new : Seen) → AnswersCounts g (Err why) → AnswersShort g old.block_count (Err why)
    → (IsRefusal (Err why) → new ≡ old) → Formats g (Err why) old new → Came lines (Some g) (Err (refusal_of why)) old new
not_made lines g (fault.Counts field value) old new counts short same f =
    not_made_counts lines g (fault.Counts field value) _ old new ((counts field value).0 refl) refl (same tt)
not_made lines g (fault.ShortDevice wanted has) old new counts short same f =
    not_made_counts lines g (fault.ShortDevice wanted has) _ old new ((short wanted has).0 refl) refl (same tt)
not_made lines g (fault.DeviceFault count) old new counts short same f = (
  NotBegun refusals.DeviceFault,
  (refl, tt),
  record {
    begins = f.device.0;
    holds = tt;
    tells = tt;
    told = λ d e is is_new premises.
        let stops : StopsWell g d new.told = if_some (λ x. StopsWell g x new.told) old.told d is f.stops in
        inr (inl (stops.events, some_is e (disk_with d stops.events) (sym is_new ∙ stops.is), stops.stop));
  },
)
