-- What the events of a volume say of its device since the opening.
use Rattle.std.specs.Prelude.{◌≡◌, ◌≤◌, ℕ, false, List, [], ◌∷◌, length, Option, None, Some, IfSome}
use Rattle.std.specs.Coded.{Coded-set, coded_bool, coded_list, coded_ℕ, ×_prop, Unit-prop, le_prop}
use Rattle.spec_core.specs.Synced.{Caused, RiseWithin, faults_of}
use Rattle.spec_core.specs.declared.event.CoreEvent.{CoreEvent}
use Rattle.spec_orderly.specs.Slots.{AreMounted, is_unmount}
use Rattle.bv_device.specs.Told.{Disk, now_of}
use Rattle.bv_volume.specs.Seen.{Seen}
use Rattle.bv_shared.specs.Moments.{EachMoment-prop, Moments}

-- each of these events ended within so many calls
abbrev pub EndBy : ℕ → List CoreEvent → Type 0
EndBy calls [] = Unit {0}
EndBy calls (e ∷ es) = (e.calls ≤ calls) × EndBy calls es

-- each event of the volume ended within what is told
abbrev pub AreWithin : Seen → Type 0
AreWithin v = IfSome v.store.told (λ d. EndBy (length d.trace) v.history.events)

-- what was told as the mount began, and what is told since, are of one disk, or nothing is told
abbrev pub AreOfOneDisk : Option Disk → Option Disk → Type 0
AreOfOneDisk None None = Unit {0}
AreOfOneDisk None (Some d) = ⊥
AreOfOneDisk (Some b) None = ⊥
AreOfOneDisk (Some b) (Some d) = d.base ≡ now_of b

-- What a volume keeps since it was o: faults of its history came from the device, none of its events is
-- an unmount, the device tells of one disk, and as each event ended the disk had the blobs of the map.
abbrev pub Since : Seen → Seen → Type 0
Since o v =
    (o.store.faults ≤ v.store.faults)
    × Caused v.history o.store.faults v.store.faults
    × AreMounted v.history.events
    × AreOfOneDisk v.store.began v.store.told
    × Moments v

-- ---- each of these facts has one proof at most

RiseWithin-prop : (first last : ℕ) (fs : List ℕ) → IsProp (RiseWithin first last fs)
RiseWithin-prop first last [] = Unit-prop
RiseWithin-prop first last (f ∷ fs) =
    λ x y i. (le_prop x.0 y.0 i, le_prop x.1 y.1 i, RiseWithin-prop f last fs x.2 y.2 i)

AreMounted-prop : (es : List CoreEvent) → IsProp (AreMounted es)
AreMounted-prop [] = Unit-prop
AreMounted-prop (e ∷ es) = ×_prop (Coded-set coded_bool (is_unmount e.act) false) (AreMounted-prop es)

AreOfOneDisk-prop : (b d : Option Disk) → IsProp (AreOfOneDisk b d)
AreOfOneDisk-prop None None = Unit-prop
AreOfOneDisk-prop None (Some d) = λ x y. absurd x
AreOfOneDisk-prop (Some b) None = λ x y. absurd x
AreOfOneDisk-prop (Some b) (Some d) = Coded-set (coded_list (coded_list coded_ℕ)) d.base (now_of b)

pub Since-prop : (o v : Seen) → IsProp (Since o v)
Since-prop o v =
    let caused = RiseWithin-prop o.store.faults v.store.faults (faults_of v.history.events) in
    let mounted = AreMounted-prop v.history.events in
    let disk = AreOfOneDisk-prop v.store.began v.store.told in
    let moments = EachMoment-prop v.store.began v.store.told v.history v.next in
    λ x y i. (le_prop x.0 y.0 i, caused x.1 y.1 i, mounted x.2 y.2 i, disk x.3 y.3 i, moments x.4 y.4 i)
