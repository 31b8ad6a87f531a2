-- The blocks of now beside the trace, event by event.
use Rattle.std.proofs.Common.{◌≡◌, ◌<◌, ℕ, ◌-◌, ◌^◌, List, [], ◌∷◌, ◌++◌, length, Bool, true, false, ap, sym, ◌∙◌, arith}
use Rattle.std.proofs.lemmas.List.{length_push}
use Rattle.spec_disk.specs.declared.event.Event.{Event}
use Rattle.spec_disk.specs.Disk.{now_after}
use Rattle.spec_disk.proofs.EventLemmas.{now_after-append, length-now_after}
use Rattle.bv_device.specs.Told.{Disk}
use Rattle.bv_device.specs.Memory.{IsTraced, base_of}

pub IsTraced-length : (d : Disk) (base now : List (List ℕ)) (trace : List Event) → IsTraced base now trace → base ≡ d.base → length now ≡ length d.base
IsTraced-length d base now trace t is = ap (λ (x : List (List ℕ)). length x) t.is ∙ length-now_after base trace ∙ ap (λ (x : List (List ℕ)). length x) is

-- an event that changes what reads give as it should
pub IsTraced-push : (base now new : List (List ℕ)) (p q : List Event) (e : Event) → IsTraced base now p → length p < 2 ^ 63 - 1
    → q ≡ p ++ e ∷ [] → new ≡ now_after now (e ∷ []) → IsTraced base new q
IsTraced-push base now new p q e t room is step = record {
  is = step ∙ ap (λ (d : List (List ℕ)). now_after d (e ∷ [])) t.is ∙ sym (now_after-append base p (e ∷ [])) ∙ ap (λ (r : List Event). now_after base r) (sym is);
  short = omega (arith, ap (λ (r : List Event). length r) is, length_push p e, room);
}

-- once the base is kept apart, writes of now don't change it
pub IsTraced-kept : (is_kept : Bool) (opening old base now new : List (List ℕ)) (p q : List Event) (e : Event) → is_kept ≡ true
    → base_of is_kept opening old ≡ base → IsTraced base now p → length p < 2 ^ 63 - 1 → q ≡ p ++ e ∷ []
    → new ≡ now_after now (e ∷ []) → IsTraced (base_of is_kept opening new) new q
IsTraced-kept true opening old base now new p q e kept is t room more step =
    IsTraced-push opening now new p q e (record { is = t.is ∙ ap (λ (b : List (List ℕ)). now_after b p) (sym is); short = t.short }) room more step
IsTraced-kept false opening old base now new p q e kept is t room more step = cc
