-- Who published a blob that the log has (this project's profile).
use Rattle.std.specs.Prelude.{◌≡◌, ℕ, true, false, Bool, None, is_some}
use Rattle.std.specs.List.{list_any}
use Rattle.spec_tree.specs.declared.Digest.{Digest}
use Rattle.spec_tree.specs.Order.{same_digest}
use Rattle.spec_core.specs.History.{History, last_state}
use Rattle.spec_core.specs.declared.map_change.MapChange.{MapChange}
use Rattle.spec_core.specs.declared.map_change.MapChange.TheVariants.{Publish, Purge}
use Rattle.spec_served.specs.Places.{publisher}

-- whether a change publishes this root
abbrev pub is_publication : Digest → MapChange → Bool
is_publication r (Publish x blob) = same_digest r x
is_publication r (Purge x blob) = false

-- while no write or sync has failed, a root that the log publishes was published by somebody
abbrev pub LoggedRootsHavePublishers : Type 0
LoggedRootsHavePublishers =
    (h : History) (next : ℕ) (r : Digest)
    → (last_state h next).stopped ≡ None
    → list_any (is_publication r) (last_state h next).log ≡ true
    → is_some (publisher r None h.events) ≡ true
