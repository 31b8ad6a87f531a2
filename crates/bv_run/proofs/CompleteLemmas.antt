-- A command whose call is in order ends well where nothing fails and there is enough.
use Rattle.std.proofs.Common.{◌≡◌, ◌⊎◌, inl, inr, ℕ, ◌≤◌, List, [], ◌∷◌, ◌++◌, length, Option, None, Some, Result, Ok, Err, is_some, refl, ap, ◌∙◌, subst, arith, append-nil}
use Rattle.std.specs.Prelude.{IfSome, IsOk, IsSome, IsSomeAnd}
use Rattle.std.specs.Io.KnownBytes.{Consumes, IsAtEnd}
use Rattle.std.proofs.lemmas.List.{length-append}
use Rattle.std.proofs.lemmas.List.Elements.{All-contains}
use Rattle.spec_faults.specs.Faults.{Rose}
use Rattle.spec_disk.specs.Disk.{Blocks}
use Rattle.spec_disk.specs.declared.event.Event.{Event}
use Rattle.spec_disk.specs.Images.{IsSettled}
use Rattle.spec_record.specs.declared.geometry.Geometry.{Geometry}
use Rattle.spec_record.specs.Geometry.{total_blocks}
use Rattle.spec_image.specs.Volume.{blobs}
use Rattle.spec_inspect.specs.declared.mount_fault.MountFault.{MountFault}
use Rattle.spec_inspect.specs.declared.mount_fault.MountFault.TheVariants as mount
use Rattle.spec_inspect.specs.Inspection.{Inspection, inspect_of}
use Rattle.spec_inspect.proofs.OutcomeLemmas.{blobs_are_ok, volume_or_none}
use Rattle.spec_core.specs.declared.act.Act.{Act}
use Rattle.spec_core.specs.declared.act.Act.TheVariants.{Sync}
use Rattle.spec_core.specs.declared.event.CoreEvent.{CoreEvent}
use Rattle.spec_core.specs.declared.reply.Reply.TheVariants as replies
use Rattle.spec_script.specs.Grammar.{script_of}
use Rattle.spec_script.specs.declared.fault.ScriptFault.{ScriptFault}
use Rattle.spec_script.specs.declared.line.ScriptLine.{ScriptLine}
use Rattle.spec_headline.specs.Complete.{HasEnough}
use Rattle.spec_headline.specs.Run.{Ended, MetFault, MetMismatch, Run}
use Rattle.spec_complete.specs.Good.{IsGood}
use Rattle.spec_complete.proofs.Going.{events_go_well}
use Rattle.spec_complete.proofs.Results.{runs_go_well}
use Rattle.bv_device.specs.Plan.{with_events}
use Rattle.bv_device.specs.Reads.{ReadsRight, Sees}
use Rattle.bv_device.specs.Seen.{Seen}
use Rattle.bv_device.specs.Told.{Disk, disk_with, now_of}
use Rattle.bv_format.specs.declared.fault.FormatFault.{FormatFault}
use Rattle.bv_format.specs.declared.fault.FormatFault.TheVariants as fault
use Rattle.bv_format.specs.Plan.{format_plan}
use Rattle.bv_format.specs.Formats.{Formats, IsMade as IsMadeVolume}
use Rattle.bv_layout.specs.Counts.{counts_or_fault}
use Rattle.bv_mount.specs.Inspects.{RefusesMount}
use Rattle.bv_mount.proofs.StayLemmas.{settled_right}
use Rattle.bv_serve.specs.declared.refusal.Refusal.{Refusal}
use Rattle.bv_serve.specs.declared.refusal.Refusal.TheVariants as refusals
use Rattle.bv_serve.specs.declared.status.Status.{Status}
use Rattle.bv_serve.specs.declared.status.Status.TheVariants as status
use Rattle.bv_serve.specs.Lines.{mount_refusal, refusal_status}
use Rattle.bv_serve.specs.Runs.{Change, ReadsAll, ReadsTooMuch}
use Rattle.bv_run.specs.declared.form.Form.{Form}
use Rattle.bv_run.specs.declared.form.Form.TheVariants.{Script, Fresh, Demo}
use Rattle.bv_run.specs.Asked.{Answers, IsRefusedAt, IsUnasked, IsUnread, script_limit}
use Rattle.bv_run.specs.Begun.{CannotMake, IsRefusedBy, RefusesCounts, RefusesImage}
use Rattle.bv_run.specs.Complete.{Completes, EndsWell, IsGiven, IsReady, IsReadyDisk, IsText}
use Rattle.bv_run.specs.Reports.{Answer, NotBegun, OutOfMemory, Done, EndsAs, Reports}
use Rattle.bv_run.specs.Runs.{RunsScript, Went}
use Rattle.bv_run.specs.Words.{made_by}
use Rattle.bv_run.proofs.CalmLemmas.{opening_sound, ready_is}

-- ---- replies

-- a reply of a fault isn't one that comes where nothing fails
device_fault : (act : Act) (f : ℕ) → IsGood act (replies.DeviceFault f) → ⊥
device_fault Sync f good = good
device_fault act f good = good

read_fault : (act : Act) (f : ℕ) → IsGood act (replies.ReadFault f) → ⊥
read_fault Sync f good = good
read_fault act f good = good

-- ---- the source

-- what was taken of known bytes is their front
taken : (o : Option (List ℕ)) (new : Option (List ℕ)) (all bytes : List ℕ) → o ≡ Some all → Consumes o new bytes → (rest : List ℕ) × (all ≡ bytes ++ rest) × (new ≡ Some rest)
taken None new all bytes is moved = cc
taken (Some xs) None all bytes is moved = absurd moved
taken (Some xs) (Some ys) all bytes is moved = (ys, cc, refl)

module _ (input : Change) (all : List ℕ) (is : input.old ≡ Some all) (text : IsText all) where
  too_long : ReadsTooMuch script_limit input → ⊥
  too_long reads =
      let front = taken input.old input.new all reads.bytes is reads.moved in
      omega (arith, text.within, reads.over, ap length front.1, length-append reads.bytes front.0)

  whole : (bytes : List ℕ) → ReadsAll script_limit input bytes → all ≡ bytes
  whole bytes reads =
      let front = taken input.old input.new all bytes is reads.all.moved in
      let nothing : front.0 ≡ [] = at_end input.new front.0 front.2 reads.all.ended in
      front.1 ∙ ap (λ (rest : List ℕ). bytes ++ rest) nothing ∙ append-nil bytes
    where
      at_end : (new : Option (List ℕ)) (rest : List ℕ) → new ≡ Some rest → IsAtEnd new → rest ≡ []
      at_end None rest is_new ended = cc
      at_end (Some xs) rest is_new ended = cc

  no_error : (fault : ScriptFault) → script_of all ≡ Err fault → ⊥
  no_error fault wrong = by (script_of all) wrong text.read where
    by : (r : Result (List ScriptLine) ScriptFault) → r ≡ Err fault → IsOk r → ⊥
    by (Ok lines) wrong ok = cc
    by (Err f) wrong ok = cc

  -- a script that is there is read
  read_all : (refusal : Refusal) → ¬ Rose input.faults_before input.faults_after → IsUnread refusal input → refusal ≡ refusals.NoMemory
  read_all refusals.TooLong calm un = absurd (too_long un)
  read_all (refusals.Script line kind) calm (bytes, reads, wrong) = absurd (no_error _ (ap script_of (whole bytes reads) ∙ wrong))
  read_all refusals.SourceFault calm un = absurd (calm un.rose)
  read_all refusals.NoMemory calm un = refl
  read_all refusals.Usage calm un = absurd un
  read_all refusals.DeviceFault calm un = absurd un
  read_all (refusals.Volume why) calm un = absurd un

some_value : {A : Type 0} (P : A → Type 0) (o : Option A) → IsSomeAnd o P → (x : A) × (o ≡ Some x) × P x
some_value P None h = absurd h
some_value P (Some x) h = (x, refl, h)

-- why no script was asked for
unasked : (form : Form) (refusal : Refusal) (input : Change) → IsGiven form input → ¬ Rose input.faults_before input.faults_after → IsUnasked form refusal input → refusal ≡ refusals.NoMemory
unasked (Demo rounds) refusals.NoMemory input given calm un = refl
unasked (Demo rounds) refusal input given calm un = absurd un
unasked Script refusal input given calm un = let all = some_value IsText input.old given in read_all input all.0 all.1 all.2 refusal calm un
unasked (Fresh g) refusal input given calm un = let all = some_value IsText input.old given in read_all input all.0 all.1 all.2 refusal calm un

-- ---- the volume

wrong : {A : Type 0} (due : Result A MountFault) (fault : MountFault) → IsOk due → due ≡ Err fault → ⊥
wrong (Ok v) fault ok is = cc
wrong (Err f) fault ok is = cc

-- an image with a map of blobs isn't refused
not_refused : (j : Blocks) (why : MountFault) → IsSome (blobs j) → mount_refusal why ≡ refusals.Volume why → RefusesMount (inspect_of j) why → ⊥
not_refused j why some named refused = by why (inspect_of j) (blobs_are_ok j (volume_or_none j) some) named refused where
  by : (w : MountFault) (due : Result Inspection MountFault) → IsOk due → mount_refusal w ≡ refusals.Volume w → RefusesMount due w → ⊥
  by (mount.DeviceFault count) due ok named refused = cc
  by mount.NoMemory due ok named refused = cc
  by (mount.Super f) due ok named refused = wrong due (mount.Super f) ok refused
  by (mount.Replay f) due ok named refused = wrong due (mount.Replay f) ok refused
  by mount.Moved due ok named refused = wrong due mount.Moved ok refused
  by (mount.Node node f) due ok named refused = wrong due (mount.Node node f) ok refused
  by (mount.Overlap at) due ok named refused = wrong due (mount.Overlap at) ok refused
  by (mount.Twice root) due ok named refused = wrong due (mount.Twice root) ok refused
  by (mount.Bitmap at says) due ok named refused = wrong due (mount.Bitmap at says) ok refused
  by (mount.SuperCount field said found) due ok named refused = wrong due (mount.SuperCount field said found) ok refused

-- nor is a settled disk with one
no_refusal : (before : Seen) (d : Disk) (why : MountFault) → before.told ≡ Some d → IsSettled d.trace → IsSome (blobs (now_of d)) → mount_refusal why ≡ refusals.Volume why
    → Sees before (λ j. RefusesMount (inspect_of j) why) → ⊥
no_refusal before d why is settled some named sees =
    let P : Disk → Type 0 = λ x. ReadsRight x → RefusesMount (inspect_of (now_of x)) why in
    let at : P d = subst (λ (o : Option Disk). IfSome o P) is sees in
    not_refused (now_of d) why some named (at (λ b. settled_right d.trace b settled))

is_there : {A : Type 0} (P : A → Type 0) (o : Option A) → IsSomeAnd o P → IsSome o
is_there P None h = absurd h
is_there P (Some x) h = refl

-- what is told stays told
still_told : (d : Disk) (plan : List Event) → (e : Disk) × (with_events (Some d) plan ≡ Some e)
still_told d [] = (d, refl)
still_told d (x ∷ plan) = still_told (disk_with d (x ∷ [])) plan

no_volume : (made : Option Geometry) (why : MountFault) (old new : Seen) → IsReady made old → RefusesCounts made why old new ⊎ RefusesImage made why old new → ⊥
no_volume made why old new ready either = by made either (some_value (IsReadyDisk made old.block_count) old.told ready) where
  cannot : (g : Geometry) (f : FormatFault) → counts_or_fault g ≡ Ok tt → total_blocks g ≤ old.block_count → CannotMake g old.block_count f → ⊥
  cannot g (fault.Counts field value) counts room wrong = cc
  cannot g (fault.ShortDevice wanted has) counts room short = omega (arith, room, short.few)
  cannot g (fault.DeviceFault count) counts room wrong = wrong

  made_told : (g : Geometry) (before : Seen) (d e : Disk) → old.told ≡ Some d → before.told ≡ Some e → Formats g (Ok tt) old before → IsMadeVolume g e
  made_told g before d e is is_made formats =
      let P : Disk → Type 0 = IsMadeVolume g in
      let Q : Option Disk → Option Disk → Type 0 = λ o p. IfSome o (λ x. IfSome p P) in
      subst (λ (p : Option Disk × Option Disk). Q p.0 p.1) (λ k. (is k, is_made k)) formats.made

  by : (made : Option Geometry) → RefusesCounts made why old new ⊎ RefusesImage made why old new → (d : Disk) × (old.told ≡ Some d) × IsReadyDisk made old.block_count d → ⊥
  by None (inl counts) (d, is, ready) = counts
  by (Some g) (inl (f, wrong, named, same)) (d, is, ready) = cannot g f ready.0 ready.1 wrong
  by None (inr image) (d, is, ready) =
      no_refusal image.before d why (ap (λ (s : Seen). s.told) image.is_made ∙ is) ready.0 (is_there _ (blobs (now_of d)) ready.1) image.named image.reads.now
  by (Some g) (inr image) (d, is, ready) =
      let told = still_told d (format_plan g) in
      let is_made : image.before.told ≡ Some told.0 = image.is_made.plan ∙ ap (λ (o : Option Disk). with_events o (format_plan g)) is ∙ told.1 in
      let made = made_told g image.before d told.0 is is_made image.is_made in
      no_refusal image.before told.0 why is_made made.settled (ap is_some made.now.empty) image.named image.reads.now

-- a run that didn't begin found no memory
not_begun : (form : Form) (refusal : Refusal) (old new : Seen) (input : Change) → IsGiven form input → IsReady (made_by form) old
    → ¬ Rose old.fault_count new.fault_count → ¬ Rose input.faults_before input.faults_after
    → IsRefusedAt form refusal input → IsRefusedBy (made_by form) refusal old new → refusal ≡ refusals.NoMemory
not_begun form refusals.Usage old new input given ready calm fed at by = absurd by
not_begun form refusals.TooLong old new input given ready calm fed at by = unasked form refusals.TooLong input given fed at
not_begun form (refusals.Script line kind) old new input given ready calm fed at by = unasked form (refusals.Script line kind) input given fed at
not_begun form refusals.SourceFault old new input given ready calm fed at by = unasked form refusals.SourceFault input given fed at
not_begun form refusals.DeviceFault old new input given ready calm fed at by = absurd (calm by)
not_begun form (refusals.Volume why) old new input given ready calm fed at by = absurd (no_volume (made_by form) why old new ready by)
not_begun form refusals.NoMemory old new input given ready calm fed at by = refl

-- ---- the sessions

-- no event met a fault
no_fault : (run : Run) (next first last : ℕ) → Ended run next first last → ¬ Rose first last → HasEnough run.lines run.history next → MetFault run.history → ⊥
no_fault run next first last ended calm enough (e, f, has, either) =
    let good : IsGood e.act e.reply = All-contains (λ (x : CoreEvent). IsGood x.act x.reply) run.history.events e (events_go_well run next first last ended calm enough) has in
    elim either as (λ _. ⊥) [
      | inl is ↦ device_fault e.act f (subst (IsGood e.act) is good)
      | inr is ↦ read_fault e.act f (subst (IsGood e.act) is good)
    ]

-- the status of a run whose sessions did all their lines, where none met a mismatch
done_well : (run : Run) (next first last : ℕ) (ended : Status) → Ended run next first last → ¬ Rose first last → HasEnough run.lines run.history next → ¬ MetMismatch run → EndsAs run ended → EndsWell (Done run next) ended
done_well run next first last status.Ok holds calm enough none at = (refl, runs_go_well run next first last holds calm enough none)
done_well run next first last status.Damage holds calm enough none at = absurd (none at.1)
done_well run next first last status.Device holds calm enough none at = absurd (no_fault run next first last holds calm enough at)
done_well run next first last ended holds calm enough none at = absurd at

-- where the disk was ready, no line met a mismatch
met_none : (made : Option Geometry) (run : Run) (next : ℕ) (old new : Seen) → Went made (Done run next) old new → IsReady made old → ¬ MetMismatch run
met_none made run next old new went ready =
    let d = some_value (IsReadyDisk made old.block_count) old.told ready in
    let now : IsSomeAnd new.told (λ e. Unit {0}) = subst (λ (o : Option Disk). IfSome o (λ x. IsSomeAnd new.told (λ e. Unit {0}))) d.1 went.tells in
    let e = some_value (λ (x : Disk). Unit {0}) new.told now in
    let since = went.told d.0 e.0 d.1 e.1 (ready_is made old.block_count d.0 d.2) in
    since.holds.3 (opening_sound made old.block_count d.0 since.opening d.2 since.is_opening)

-- ---- any command

pub completes : (form : Form) (answer : Answer) (ended : Status) (old new : Seen) (input out : Change)
    → Answers form answer input → Reports form answer ended out → Went (made_by form) answer old new → Completes form answer ended old new input out
completes form (NotBegun refusal) ended old new input out asked reports went can =
    reports.0 ∙ ap refusal_status (not_begun form refusal old new input can.given can.ready can.calm.device can.calm.source asked went.begins)
completes form (OutOfMemory run next) ended old new input out asked reports went can = reports.0
completes form (Done run next) ended old new input out asked (inl part) went can = absurd (can.calm.sink part.1.rose)
completes form (Done run next) ended old new input out asked (inr text) went can =
    done_well run next old.fault_count new.fault_count ended went.holds can.calm.device can.enough
    (met_none (made_by form) run next old new went can.ready) text.1

-- from its parts to the clause of the command
pub runs_script : (form : Form) (answer : Answer) (ended : Status) (old new : Seen) (input out : Change)
    → Answers form answer input → Reports form answer ended out → Went (made_by form) answer old new → RunsScript form ended old new input out
runs_script form answer ended old new input out asked reports went = record {
  answer = answer;
  asked = asked;
  reports = reports;
  went = went;
  complete = completes form answer ended old new input out asked reports went;
}
