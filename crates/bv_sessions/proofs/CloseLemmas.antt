-- A volume that was closed.
use Rattle.std.proofs.Common.{◌≡◌, ℕ, sym, ap, ◌∙◌, subst}
use Rattle.std.specs.Prelude.{true, false, is_some, None, Some, Option, Result, Ok, Err, OnOk, IfSome}
use Rattle.spec_disk.specs.Images.{IsSettled}
use Rattle.spec_core.specs.History.{History, Legal}
use Rattle.spec_core.specs.declared.act.Act.TheVariants.{Unmount}
use Rattle.spec_core.specs.declared.reply.Reply.{Reply}
use Rattle.spec_core.specs.declared.reply.Reply.TheVariants as replies
use Rattle.spec_headline.specs.Run.{program}
use Rattle.bv_store.specs.Stored.{Stored}
use Rattle.bv_volume.specs.Answers.{unmount_reply}
use Rattle.bv_volume.specs.Events.{Does}
use Rattle.bv_volume.specs.Seen.{Seen as Volume, IsSafe}
use Rattle.bv_volume.specs.Sound.{FoundAreSoundNow, PublishedAreSoundNow}
use Rattle.bv_volume.specs.declared.unmounting.UnmountFault.{UnmountFault}
use Rattle.bv_volume.specs.declared.unmounting.UnmountFault.TheVariants as unmount
use Rattle.bv_sessions.specs.Closes.{GivesUp, Unmounts, with_room}

-- what an unmount showed
abbrev pub Shows : Volume → History → Stored → Option Reply → Type 0
Shows v h store reply =
    (w : Volume) × (w.history ≡ h) × (w.store ≡ record store { planned = None })
    × Does v w program Unmount reply × Legal w.history w.next × IsSafe w
    × PublishedAreSoundNow w × FoundAreSoundNow w

module _ (v : Volume) (h : History) (store : Stored) where
  -- without an event it was given up
  pub was_given_up : (answer : Result (Unit {0}) UnmountFault) → Shows v h store (unmount_reply answer) → is_some (unmount_reply answer) ≡ false → GivesUp v h store
  was_given_up (Ok u) s is = absurd (cc)
  was_given_up (Err (unmount.Stopped f)) s is = absurd (cc)
  was_given_up (Err unmount.NumberEnd) s is = absurd (cc)
  was_given_up (Err (unmount.DeviceFault f)) s is = absurd (cc)
  was_given_up (Err unmount.NoMemory) s is = record {
    history_is = sym s.1 ∙ ap (λ (x : Volume). x.history) s.3;
    store_is = sym s.2 ∙ ap (λ (x : Volume). x.store) s.3;
    legal = subst (λ (x : Volume). Legal x.history x.next) s.3 s.4;
    safe = subst IsSafe s.3 s.5;
  }

  one : (reply : Reply) → Shows v h store (Some reply) → (reply ≡ replies.Unmounted → IfSome store.told (λ d. IsSettled d.trace)) → Unmounts v h store
  one reply s settled = record {
    room = v.spare;
    last = s.0;
    reply = reply;
    happens = s.3;
    history_is = sym s.1;
    store_is = sym s.2;
    legal = s.4;
    safe = s.5;
    published = s.6;
    found = s.7;
    settled = settled;
  }

  -- with one it was unmounted
  pub was_unmounted : (answer : Result (Unit {0}) UnmountFault) → Shows v h store (unmount_reply answer) → OnOk answer (IfSome store.told (λ d. IsSettled d.trace)) → is_some (unmount_reply answer) ≡ true → Unmounts v h store
  was_unmounted (Ok u) s settled is = one replies.Unmounted s (λ same. settled)
  was_unmounted (Err (unmount.Stopped f)) s settled is = one (replies.Stopped f) s (λ same. absurd (cc))
  was_unmounted (Err unmount.NumberEnd) s settled is = one replies.NumberEnd s (λ same. absurd (cc))
  was_unmounted (Err (unmount.DeviceFault f)) s settled is = one (replies.DeviceFault f) s (λ same. absurd (cc))
  was_unmounted (Err unmount.NoMemory) s settled is = absurd (cc)

  -- with other room
  pub gives_roomy : (w : Volume) (n : ℕ) → w ≡ with_room v n → GivesUp w h store → GivesUp v h store
  gives_roomy w n is g = let k : GivesUp (with_room v n) h store = subst (λ (x : Volume). GivesUp x h store) is g in
      record { history_is = k.history_is; store_is = k.store_is; legal = k.legal; safe = k.safe }

  pub unmounts_roomy : (w : Volume) (n : ℕ) → w ≡ with_room v n → Unmounts w h store → Unmounts v h store
  unmounts_roomy w n is u = let k : Unmounts (with_room v n) h store = subst (λ (x : Volume). Unmounts x h store) is u in
      record {
        room = k.room;
        last = k.last;
        reply = k.reply;
        happens = k.happens;
        history_is = k.history_is;
        store_is = k.store_is;
        legal = k.legal;
        safe = k.safe;
        published = k.published;
        found = k.found;
        settled = k.settled;
      }
