-- Who published a root that a slot holds, event by event.
use Rattle.std.proofs.Common.{◌≡◌, Bool, true, false, cond, is_some, Option, Some, None, List, [], ◌∷◌, ◌++◌, refl, ap, ◌∙◌, arith}
use Rattle.std.specs.Prelude.{if◌then◌else◌, All, ◌||◌}
use Rattle.std.specs.BTreeMap.{is_at}
use Rattle.std.proofs.lemmas.List.Elements.{All-head, All-tail}
use Rattle.spec_tree.specs.declared.Digest.{Digest}
use Rattle.spec_tree.specs.Order.{same_digest}
use Rattle.spec_core.proofs.Holding.{Keeps, Keeps-change, Keeps-run, one_digest, same_self}
use Rattle.spec_core.proofs.Slots.{slots_stay}
use Rattle.spec_core.specs.History.{first_state, opening_map, setting_of}
use Rattle.spec_core.specs.Laws.{Empties}
use Rattle.spec_core.specs.Order.{place_cmp}
use Rattle.spec_core.specs.State.{State, find, held, is_held}
use Rattle.spec_core.specs.Step.{Chosen, Steps, after, state_after}
use Rattle.spec_core.specs.Choice.{choice}
use Rattle.spec_core.specs.declared.act.Act.{Act}
use Rattle.spec_core.specs.declared.act.Act.TheVariants.{Settle}
use Rattle.spec_core.specs.declared.event.CoreEvent.{CoreEvent}
use Rattle.spec_core.specs.declared.place.Place.{Place}
use Rattle.spec_core.specs.declared.reply.Reply.{Reply}
use Rattle.spec_core.specs.declared.reply.Reply.TheVariants.{Published}
use Rattle.spec_core.specs.declared.setting.Setting.{Setting}
use Rattle.spec_core.specs.declared.who.Who.{Who}
use Rattle.spec_orderly.proofs.Adding.{Fresh, fresh_change, settles_new}
use Rattle.spec_served.specs.Places.{publisher, publisher_after}
use Rattle.spec_seen.specs.Held.{HeldBlobsStayPublished}

-- ---- events one after another

publisher-append : (r : Digest) (last : Option Who) (es fs : List CoreEvent) → publisher r last (es ++ fs) ≡ publisher r (publisher r last es) fs
publisher-append r last [] fs = refl
publisher-append r last (e ∷ es) fs = publisher-append r (publisher_after r last e.who e.act e.reply) es fs

steps_parts : (g : Setting) (s : State) (es fs : List CoreEvent) → Steps g s (es ++ fs) → Steps g s es × Steps g (state_after g s es) fs
steps_parts g s [] fs steps = (tt, steps)
steps_parts g s (e ∷ es) fs steps = let rest = steps_parts g (after g s e) es fs steps.1 in ((steps.0, rest.0), rest.1)

fresh_run : (g : Setting) (s : State) (es : List CoreEvent) → Fresh s → Steps g s es → Fresh (state_after g s es)
fresh_run g s [] k steps = k
fresh_run g s (e ∷ es) k steps = fresh_run g (after g s e) es (fresh_change g s e.who e.act e.reply k steps.0) steps.1

-- ---- one event

held_here : (slots : List (Place × Digest)) (p : Place) (r : Digest) → held slots p ≡ Some r → is_held slots r ≡ true
held_here [] p r h = cc
held_here (e ∷ es) p r h = go (is_at (place_cmp p) e.0) (held_here es p r) h
  where
    either : (b : Bool) → is_held es r ≡ true → (b || is_held es r) ≡ true
    either true there = refl
    either false there = there

    go : (b : Bool) → (held es p ≡ Some r → is_held es r ≡ true) → cond b (Some e.1) (held es p) ≡ Some r → (same_digest r e.1 || is_held es r) ≡ true
    go true rest is = let self = same_self r in let same : e.1 ≡ r = cc in rw (same, self) refl
    go false rest is = either (same_digest r e.1) (rest is)

-- another root is published
other_published : (r x : Digest) (last : Option Who) (w : Who) (q : Reply) → same_digest r x ≡ false → publisher_after r last w (Settle x) q ≡ last
other_published r x last w Published other = ap (λ (b : Bool). if b then Some w else last) other
other_published r x last w q other = refl

module _ (g : Setting) (s : State) (fresh : Fresh s) (keeps : Keeps s) (p : Place) (r : Digest) (is : held s.slots p ≡ Some r) where
  -- a root that settles isn't in the map, and one that a slot holds is
  apart : (w : Who) (x : Digest) (q : Reply) → Chosen (choice g s w (Settle x)) q → same_digest r x ≡ false
  apart w x q c = go (same_digest r x) refl
    where
      go : (b : Bool) → same_digest r x ≡ b → b ≡ false
      go true e =
          let there = (keeps r (held_here s.slots p r is)).0 in
          let none : is_some (find s.map r) ≡ false = ap (λ (y : Digest). is_some (find s.map y)) (one_digest r x e) ∙ ap is_some (settles_new g s w x q fresh c) in cc
      go false e = refl

  stays_one : (last : Option Who) (w : Who) (a : Act) (q : Reply) → Chosen (choice g s w a) q → publisher_after r last w a q ≡ last
  stays_one last w (Settle x) q c = other_published r x last w q (apart w x q c)
  stays_one last w a q c = refl

stays_all : (g : Setting) (s : State) (es : List CoreEvent) (p : Place) (r : Digest) (last : Option Who) → Fresh s → Keeps s → held s.slots p ≡ Some r → Steps g s es → All (λ e. ¬ Empties p e.who e.act) es → publisher r last es ≡ last
stays_all g s [] p r last fresh keeps is steps all = refl
stays_all g s (e ∷ es) p r last fresh keeps is steps all =
    ap (λ (o : Option Who). publisher r o es) (stays_one g s fresh keeps p r is last e.who e.act e.reply steps.0)
    ∙ stays_all g (after g s e) es p r last (fresh_change g s e.who e.act e.reply fresh steps.0) (Keeps-change s keeps g e.who e.act e.reply steps.0)
    (slots_stay g s e p r steps.0 is (All-head (λ e. ¬ Empties p e.who e.act) e es all)) steps.1 (All-tail (λ e. ¬ Empties p e.who e.act) e es all)

pub stay_published : HeldBlobsStayPublished
stay_published h next before more p r legal is all =
    let first : State = first_state (opening_map h) next in
    let parts = steps_parts (setting_of h) first before more legal.steps in
    publisher-append r None before more
    ∙ stays_all (setting_of h) (state_after (setting_of h) first before) more p r (publisher r None before)
    (fresh_run (setting_of h) first before (record { once = λ x. omega arith; new = λ x e. cc }) parts.0)
    (Keeps-run (setting_of h) first before (λ x e. cc) parts.0) is parts.1 all
