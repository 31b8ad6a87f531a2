-- Who published a blob that a slot holds, and where it lies (this project's profile).
use Rattle.std.specs.Prelude.{◌≡◌, ◌≤◌, ℕ, List, [], ◌++◌, take, Option, None, Some, All}
use Rattle.spec_tree.specs.declared.Digest.{Digest}
use Rattle.spec_core.specs.History.{History, Legal, last_state}
use Rattle.spec_core.specs.Laws.{Empties}
use Rattle.spec_core.specs.State.{held}
use Rattle.spec_core.specs.declared.event.CoreEvent.{CoreEvent}
use Rattle.spec_core.specs.declared.place.Place.{Place}
use Rattle.spec_core.specs.declared.who.Who.{Who}
use Rattle.spec_disk.specs.declared.event.Event.{Event}
use Rattle.spec_disk.specs.Disk.{Blocks}
use Rattle.spec_served.specs.Adds.{AreByLine}
use Rattle.spec_served.specs.Places.{publisher, blocks_by}

-- a history up to some moment
abbrev pub up_to : History → List CoreEvent → History
up_to h events = record h { events = events }

-- While a slot holds a root, nobody publishes it: who did so last stays the same. So the lines of a
-- session that holds a blob speak of the same blocks of it, whenever they fetch.
abbrev pub HeldBlobsStayPublished : Type 0
HeldBlobsStayPublished =
    (h : History) (next : ℕ) (before more : List CoreEvent) (p : Place) (r : Digest)
    → Legal (up_to h (before ++ more)) next
    → held (last_state (up_to h before) next).slots p ≡ Some r
    → All (λ e. ¬ Empties p e.who e.act) more
    → publisher r None (before ++ more) ≡ publisher r None before

-- Where lines made the history besides, its blocks stay the same too: what the device tells of a blob
-- at a fetch is of the blocks that were the blob's when the line began.
abbrev pub HeldBlobsStayWhere : Type 0
HeldBlobsStayWhere =
    (base : Blocks) (told : List Event) (h : History) (next : ℕ) (before more : List CoreEvent)
    (p : Place) (r : Digest)
    → Legal (up_to h (before ++ more)) next → AreByLine [] (before ++ more)
    → held (last_state (up_to h before) next).slots p ≡ Some r
    → All (λ e. ¬ Empties p e.who e.act) more
    → blocks_by base told (before ++ more) r (publisher r None (before ++ more))
    ≡ blocks_by base told before r (publisher r None before)

-- a blob's blocks are known by the device's events up to then: those of so many calls, where each
-- event ended within them
abbrev pub BlocksAreKnownByThen : Type 0
BlocksAreKnownByThen =
    (base : Blocks) (told : List Event) (before : List CoreEvent) (r : Digest) (who : Option Who)
    (calls : ℕ)
    → All (λ e. e.calls ≤ calls) before
    → blocks_by base (take calls told) before r who ≡ blocks_by base told before r who
