-- A mount begins: its history has no event.
use Rattle.std.proofs.Common.{◌≡◌, ℕ, [], ◌+◌, ◌-◌, List, Option, Some, None, IfSome, inl, refl, ap, sym, ◌∙◌, subst, arith}
use Rattle.spec_disk.specs.Disk.{Blocks}
use Rattle.spec_disk.specs.declared.event.Event.{Event}
use Rattle.spec_core.specs.History.{History, setting_of, opening_map, first_state, last_state, room}
use Rattle.spec_core.specs.State.{State}
use Rattle.spec_core.specs.Step.{state_after}
use Rattle.spec_core.specs.declared.event.CoreEvent.{CoreEvent}
use Rattle.spec_crash.specs.Crash.{CrashPrefix}
use Rattle.spec_rest.specs.Rest.{Map, Rests}
use Rattle.std.specs.List.{sum_by}
use Rattle.std.specs.Map.{values_of}
use Rattle.spec_tree.specs.Tree.{need_of}
use Rattle.spec_core.proofs.Numbers.{numbers_are_apart}
use Rattle.spec_core.specs.Room.{blob_need, taken}
use Rattle.spec_core.specs.declared.setting.Setting.{Setting}
use Rattle.bv_device.specs.Told.{Disk}
use Rattle.bv_model.specs.Noted.{Noted}
use Rattle.bv_ledger.specs.Tables.{Tables, state_with}
use Rattle.bv_store.specs.Stored.{Stored}
use Rattle.bv_volume.specs.Kept.{Kept}

pub first : (h : History) (next : ℕ) → h.events ≡ [] → last_state h next ≡ first_state (opening_map h) next
first h next fresh = ap (λ (es : List CoreEvent). state_after (setting_of h) (first_state (opening_map h) next) es) fresh

fresh_rests : (Both : Map → Map → Type 0) (base : Blocks) (events : List Event) (h : History) (next : ℕ) → h.events ≡ [] → CrashPrefix base events h → Both (opening_map h) (opening_map h) → Rests Both base events h next
fresh_rests Both base events h next fresh crash both = record {
  crash = crash;
  going = λ none. record {
    count = 0;
    durable = rw (first h next fresh) (omega arith);
    boundary = inl refl;
    both = rw (first h next fresh) both;
  };
}

pub fresh_told : (Both : Map → Map → Type 0) (o : Option Disk) (h : History) (next : ℕ) → h.events ≡ [] → IfSome o (λ d. CrashPrefix d.base d.trace h × Both (opening_map h) (opening_map h)) → IfSome o (λ d. Rests Both d.base d.trace h next)
fresh_told Both None h next fresh safe = tt
fresh_told Both (Some d) h next fresh safe = fresh_rests Both d.base d.trace h next fresh safe.0 safe.1

-- the room that the tables tell is the history's, while nothing failed
pub room_is : (n : Noted) (next : ℕ) (t : Tables) (s : Stored) (Both : Map → Map → Type 0) → Kept n next t s Both → t.stopped ≡ None → (x : ℕ) → x + (sum_by blob_need (values_of t.map) + sum_by (need_of t.setting.version) (values_of t.adds) + t.purged) ≡ t.setting.blocks - 1 → x ≡ room n.history
room_is n next t s Both kept going x is =
    let g : Setting = setting_of n.history in
    let last : State = last_state n.history next in
    let same : taken g (last_state n.history 0) ≡ taken g (state_with t last.log last.durable) = sym (ap (λ (y : State). taken g y) (numbers_are_apart n.history next)) ∙ ap (λ (y : State). taken g y) kept.state in
    let purged = kept.accounts.purged going in
    let its : x + (sum_by blob_need (values_of t.map) + sum_by (need_of g.version) (values_of t.adds) + t.purged) ≡ g.blocks - 1 = subst (λ (h : Setting). x + (sum_by blob_need (values_of t.map) + sum_by (need_of h.version) (values_of t.adds) + t.purged) ≡ h.blocks - 1) kept.setting is in
    omega (arith, same, purged, its)
