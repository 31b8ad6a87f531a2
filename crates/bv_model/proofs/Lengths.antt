-- How long the log is, and how many roots are leaving and queued.
use Rattle.std.proofs.Common.{◌≡◌, ℕ, ◌+◌, ◌-◌, ◌<◌, ◌==◌, Bool, true, false, cond, not, ◌&&◌, Option, Some, None, List, [], ◌∷◌, ◌++◌, length, length-append, get_or, refl, ap, sym, ◌∙◌, arith}
use Rattle.std.specs.BTreeMap.{is_at}
use Rattle.std.specs.BTreeSet.{insert_key}
use Rattle.std.specs.Set.{remove_key}
use Rattle.std.proofs.lemmas.Map.Made.{length-remove_key}
use Rattle.spec_tree.specs.declared.Digest.{Digest}
use Rattle.spec_tree.specs.Order.{digest_cmp, same_digest}
use Rattle.spec_core.proofs.Counting.{length-insert_key}
use Rattle.spec_core.proofs.Deeds.{by_deed, alike, Alike, ready, deed_stopped, Ready, failing, was_going, its_deed}
use Rattle.spec_core.proofs.Holding.{same_self}
use Rattle.spec_core.proofs.Once.{Once, once_by_deed, once_first, once_run, once_slots_emptied, length-queued}
use Rattle.spec_core.proofs.Leaving.{is_held_by_count, less, holders_less}
use Rattle.bv_model.proofs.Rescans.{fits_at, steps_to, state_more}
use Rattle.spec_core.specs.Change.{change, emptied, unlinked, slots_emptied}
use Rattle.spec_core.specs.Choice.{choice}
use Rattle.spec_core.specs.History.{History, setting_of, opening_map, first_state, Legal}
use Rattle.spec_core.specs.Log.{queued, flushed}
use Rattle.spec_core.specs.Deeds.{deed_of, fails, published_by}
use Rattle.bv_model.specs.Rescan.{state_at, standing_for, standing_of_root, all_purged, lengths_next}
use Rattle.spec_core.specs.State.{State, among, held, holders}
use Rattle.spec_core.specs.Step.{Chosen}
use Rattle.spec_core.specs.declared.act.Act.{Act}
use Rattle.spec_core.specs.declared.deed.Deed.{Deed}
use Rattle.spec_core.specs.declared.deed.Deed.TheVariants.{Nothing, Opens, Closes, Unlinks, Publishes, Purges, Empties}
use Rattle.spec_core.specs.declared.event.CoreEvent.{CoreEvent}
use Rattle.spec_core.specs.declared.map_change.MapChange.{MapChange}
use Rattle.spec_core.specs.declared.place.Place.{Place}
use Rattle.spec_core.specs.declared.reply.Reply.{Reply}
use Rattle.spec_core.specs.declared.reply.Reply.TheVariants.{Unlinked}
use Rattle.bv_model.specs.declared.rescan.Lengths.{Lengths}
use Rattle.spec_core.specs.declared.setting.Setting.{Setting}
use Rattle.spec_core.specs.declared.who.Who.{Who}

pub once_at : (h : History) (next i : ℕ) → Legal h next → Once (state_at h next i)
once_at h next i legal = once_run (setting_of h) (first_state (opening_map h) next) _ (once_first (opening_map h) next) (steps_to h next legal i)

-- ---- how many

-- the lengths are those of a state, where a failed entry logged so much more
pub record LengthsOf (s : State) (t : Lengths) (failed : ℕ) : Type 0 where
  pub log : t.log + failed ≡ length s.log
  pub leaving : t.leaving ≡ length s.leaving
  pub queue : t.queue ≡ length s.queue

module _ (s : State) (t : Lengths) (failed : ℕ) (n : LengthsOf s t failed) where
  lengths_unlinked : (x : Digest) → among s.leaving x ≡ false → LengthsOf (unlinked s x Unlinked) (cond (holders s.slots x == 0) (record t { queue = t.queue + 1 }) (record t { leaving = t.leaving + 1 })) failed
  lengths_unlinked x free = rw (is_held_by_count s x) (go (holders s.slots x == 0))
    where
      go : (b : Bool) → LengthsOf (cond (not b) (record s { leaving = insert_key digest_cmp s.leaving x }) (record s { queue = s.queue ++ x ∷ [] })) (cond b (record t { queue = t.queue + 1 }) (record t { leaving = t.leaving + 1 })) failed
      go true = record { log = n.log; leaving = n.leaving; queue = omega (arith, n.queue, length-append s.queue (x ∷ [])) }
      go false = record { log = n.log; leaving = omega (arith, n.leaving, length-insert_key digest_cmp s.leaving x free); queue = n.queue }

  lengths_emptied : (p : Place) (o : Option Digest) → held s.slots p ≡ o → LengthsOf (emptied s p o) (lengths_next t (standing_of_root s o) (Closes p)) failed
  lengths_emptied p None h = n
  lengths_emptied p (Some x) h =
      let one : cond (same_digest x x) 1 0 ≡ 1 = ap (λ (b : Bool). cond {A = ℕ} b 1 0) (same_self x) in
      let fewer : holders s.slots x - 1 ≡ holders (less s p x h).slots x = omega (arith, holders_less s p x h x, one) in
      rw (is_held_by_count (less s p x h) x, fewer) (go (among s.leaving x) (holders (less s p x h).slots x == 0) refl)
    where
      go : (a b : Bool) → among s.leaving x ≡ a → LengthsOf (cond (a && not (not b)) (record (less s p x h) { leaving = remove_key (is_at (digest_cmp x)) s.leaving; queue = s.queue ++ x ∷ [] }) (less s p x h)) (cond (a && b) (record t { leaving = t.leaving - 1; queue = t.queue + 1 }) t) failed
      go true true e = record { log = n.log; leaving = omega (arith, n.leaving, length-remove_key (is_at (digest_cmp x)) s.leaving e); queue = omega (arith, n.queue, length-append s.queue (x ∷ [])) }
      go true false e = record { log = n.log; leaving = n.leaving; queue = n.queue }
      go false b e = record { log = n.log; leaving = n.leaving; queue = n.queue }

lengths_flushed : (s : State) (t : Lengths) (failed : ℕ) (cs : List MapChange) → Once s → LengthsOf s t failed → LengthsOf (flushed s cs) (record { log = t.log + t.queue + length cs; leaving = t.leaving; queue = 0 }) failed
lengths_flushed s t failed cs k n = record {
  log = omega (arith, n.log, n.queue, length-queued s k, length-append s.log (queued s ++ cs), length-append (queued s) cs);
  leaving = n.leaving;
  queue = refl;
}

lengths_purged : (s : State) (t : Lengths) (failed : ℕ) → Once s → LengthsOf s t failed → LengthsOf (flushed s []) (all_purged t) failed
lengths_purged s t failed k n =
    let u = lengths_flushed s t failed [] k n in record { log = omega (arith, u.log); leaving = u.leaving; queue = refl }

lengths_slots_emptied : (s : State) (t : Lengths) (failed : ℕ) → LengthsOf s t failed → LengthsOf (slots_emptied s) (record t { leaving = 0; queue = t.queue + t.leaving }) failed
lengths_slots_emptied s t failed n = record {
  log = n.log;
  leaving = refl;
  queue = omega (arith, n.queue, n.leaving, length-append s.queue s.leaving);
}

lengths_by_deed : (g : Setting) (s : State) (t : Lengths) (failed : ℕ) (d : Deed) → Once s → Ready s d → LengthsOf s t failed → LengthsOf (by_deed g s d) (lengths_next t (standing_for s d) d) failed
lengths_by_deed g s t failed Nothing k a n = n
lengths_by_deed g s t failed (Opens p x) k a n = record { log = n.log; leaving = n.leaving; queue = n.queue }
lengths_by_deed g s t failed (Closes p) k a n = lengths_emptied s t failed n p (held s.slots p) refl
lengths_by_deed g s t failed (Unlinks x) k a n = lengths_unlinked s t failed n x a.1
lengths_by_deed g s t failed (Publishes x) k a n = lengths_flushed s t failed _ k n
lengths_by_deed g s t failed Purges k a n = lengths_purged s t failed k n
lengths_by_deed g s t failed (Empties true) k a n =
    lengths_purged (slots_emptied s) (record t { leaving = 0; queue = t.queue + t.leaving }) failed (once_slots_emptied s k) (lengths_slots_emptied s t failed n)
lengths_by_deed g s t failed (Empties false) k a n = lengths_slots_emptied s t failed n

-- the lengths are the state's, where an entry failed only in a state that is stopped
pub record Follows (s : State) (t : Lengths) (failed : ℕ) : Type 0 where
  pub lengths : LengthsOf s t failed
  pub going : s.stopped ≡ None → failed ≡ 0

follows_change : (g : Setting) (s : State) (t : Lengths) (failed : ℕ) (w : Who) (a : Act) (q : Reply) (b : Bool) → Once s → Chosen (choice g s w a) q → Follows s t failed → fails a q ≡ b
    → Follows (change g s w a q) (lengths_next t (standing_for s (deed_of w a q)) (deed_of w a q)) (cond b ((lengths_next t (standing_for s (deed_of w a q)) (deed_of w a q)).queue + published_by a) failed)
follows_change g s t failed w a q b k c n e = go b e
  where
    d : Deed
    d = deed_of w a q

    by : State
    by = by_deed g s d

    same : Alike (fails a q) (change g s w a q) by
    same = alike g s w a q

    now : Lengths
    now = lengths_next t (standing_for s d) d

    u : LengthsOf by now failed
    u = lengths_by_deed g s t failed d k (ready g s w a q c) n.lengths

    go : (b : Bool) → fails a q ≡ b → Follows (change g s w a q) now (cond b (now.queue + published_by a) failed)
    go false e = record {
      lengths = record {
        log = u.log ∙ sym (ap length (same.log e));
        leaving = u.leaving ∙ sym (ap length same.leaving);
        queue = u.queue ∙ sym (ap length same.queue);
      };
      going = λ h. n.going (sym (deed_stopped g s d) ∙ same.going h);
    }
    go true e =
        let (cs, long, log, stops) = failing g s w a q e in
        record {
          lengths = record {
            log = omega (arith, u.log, u.queue, n.going (was_going g s w a q e c), long, ap length log, length-append by.log (queued by ++ cs), length-append (queued by) cs, length-queued by (once_by_deed g s d k (ready g s w a q c)));
            leaving = u.leaving ∙ sym (ap length same.leaving);
            queue = u.queue ∙ sym (ap length same.queue);
          };
          going = λ h. let no = rw h at stops in cc;
        }

pub lengths_more : (h : History) (next i : ℕ) (d : CoreEvent) (t : Lengths) (failed : ℕ) (b : Bool) → Legal h next → i < length h.events → fails (get_or h.events i d).act (get_or h.events i d).reply ≡ b → Follows (state_at h next i) t failed
    → Follows (state_at h next (i + 1)) (lengths_next t (standing_for (state_at h next i) (its_deed (get_or h.events i d))) (its_deed (get_or h.events i d))) (cond b ((lengths_next t (standing_for (state_at h next i) (its_deed (get_or h.events i d))) (its_deed (get_or h.events i d))).queue + published_by (get_or h.events i d).act) failed)
lengths_more h next i d t failed b legal short e n =
    let event : CoreEvent = get_or h.events i d in
    rw (state_more h next i d short) (follows_change (setting_of h) (state_at h next i) t failed event.who event.act event.reply b (once_at h next i legal) (fits_at h next legal i d short) n e)
