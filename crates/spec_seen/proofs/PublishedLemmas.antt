-- Who published the roots of the log, event by event.
use Rattle.std.proofs.Common.{◌≡◌, Bool, true, false, cond, not, is_some, ◌&&◌, ◌||◌, Option, Some, None, List, [], ◌∷◌, ◌++◌, refl, ap, sym, ◌∙◌}
use Rattle.std.specs.Prelude.{if◌then◌else◌}
use Rattle.std.specs.List.{list_any}
use Rattle.std.proofs.lemmas.List.Folds.{list_any-append}
use Rattle.spec_tree.specs.declared.Digest.{Digest}
use Rattle.spec_tree.specs.declared.blob.Blob.{Blob}
use Rattle.spec_tree.specs.Order.{same_digest}
use Rattle.spec_core.proofs.Deeds.{alike, by_deed, deed_stopped, failing}
use Rattle.std.specs.BTreeMap.{is_at}
use Rattle.std.specs.BTreeSet.{insert_key}
use Rattle.std.specs.Map.{remove_entry}
use Rattle.std.specs.Set.{remove_key}
use Rattle.spec_tree.specs.Order.{digest_cmp}
use Rattle.spec_core.specs.Order.{place_cmp}
use Rattle.spec_core.specs.Change.{blob_of, change, let_go, emptied}
use Rattle.spec_core.specs.Deeds.{deed_of, fails}
use Rattle.spec_core.specs.History.{first_state, opening_map, setting_of}
use Rattle.spec_core.specs.Log.{purge_of, purges, without}
use Rattle.spec_core.specs.State.{State, among, find, held, is_held}
use Rattle.spec_core.specs.Step.{after, state_after}
use Rattle.spec_core.specs.declared.act.Act.{Act}
use Rattle.spec_core.specs.declared.act.Act.TheVariants.{Settle}
use Rattle.spec_core.specs.declared.deed.Deed.{Deed}
use Rattle.spec_core.specs.declared.deed.Deed.TheVariants.{Nothing, Opens, Closes, Unlinks, Publishes, Purges, Empties}
use Rattle.spec_core.specs.declared.event.CoreEvent.{CoreEvent}
use Rattle.spec_core.specs.declared.map_change.MapChange.{MapChange}
use Rattle.spec_core.specs.declared.map_change.MapChange.TheVariants.{Publish}
use Rattle.spec_core.specs.declared.place.Place.{Place}
use Rattle.spec_core.specs.declared.reply.Reply.{Reply}
use Rattle.spec_core.specs.declared.reply.Reply.TheVariants.{Published}
use Rattle.spec_core.specs.declared.setting.Setting.{Setting}
use Rattle.spec_core.specs.declared.who.Who.{Who}
use Rattle.spec_served.specs.Places.{publisher, publisher_after}
use Rattle.spec_seen.specs.Published.{LoggedRootsHavePublishers, is_publication}
use Rattle.spec_seen.proofs.VersionLemmas.{PublishesNone, IsSilent, silent}

-- ---- what a deed that publishes nothing leaves of the log

let_go_log : (s : State) (x : Digest) → (let_go s x).log ≡ s.log
let_go_log s x = go (among s.leaving x && not (is_held s.slots x))
  where
    go : (b : Bool) → (cond b (record s { leaving = remove_key (is_at (digest_cmp x)) s.leaving; queue = s.queue ++ x ∷ [] }) s).log ≡ s.log
    go true = refl
    go false = refl

emptied_log : (s : State) (p : Place) (o : Option Digest) → (emptied s p o).log ≡ s.log
emptied_log s p None = refl
emptied_log s p (Some x) = let_go_log (record s { slots = remove_entry (is_at (place_cmp p)) s.slots }) x

module _ (r : Digest) where
  abbrev has : List MapChange → Bool
  has cs = list_any (is_publication r) cs

  no_purges : (m : List (Digest × Blob)) (rs : List Digest) (cs : List MapChange) → has (purges m rs ++ cs) ≡ has cs
  no_purges m [] cs = refl
  no_purges m (x ∷ rs) cs = go (find m x) (no_purges (without m x) rs cs)
    where
      go : (o : Option Blob) → has (purges (without m x) rs ++ cs) ≡ has cs → has ((purge_of o x ++ purges (without m x) rs) ++ cs) ≡ has cs
      go None rest = rest
      go (Some b) rest = rest

  or_none : (b : Bool) → (b || false) ≡ b
  or_none true = refl
  or_none false = refl

  purged_log : (log : List MapChange) (m : List (Digest × Blob)) (rs : List Digest) → has (log ++ (purges m rs ++ [])) ≡ has log
  purged_log log m rs = list_any-append (is_publication r) log (purges m rs ++ []) ∙ ap (λ (b : Bool). has log || b) (no_purges m rs []) ∙ or_none (has log)

  silent_log : (g : Setting) (s : State) (d : Deed) → IsSilent d → has (by_deed g s d).log ≡ has s.log
  silent_log g s Nothing quiet = refl
  silent_log g s (Opens p x) quiet = refl
  silent_log g s (Closes p) quiet = ap has (emptied_log s p (held s.slots p))
  silent_log g s (Unlinks x) quiet = go (is_held s.slots x)
    where
      go : (b : Bool) → has (cond b (record s { leaving = insert_key digest_cmp s.leaving x }) (record s { queue = s.queue ++ x ∷ [] })).log ≡ has s.log
      go true = refl
      go false = refl
  silent_log g s (Publishes x) quiet = absurd quiet
  silent_log g s Purges quiet = purged_log s.log s.map s.queue
  silent_log g s (Empties true) quiet = purged_log s.log s.map (s.queue ++ s.leaving)
  silent_log g s (Empties false) quiet = refl

  -- ---- one event

  abbrev Logged : Option Who → State → Type 0
  Logged last s = s.stopped ≡ None → has s.log ≡ true → is_some last ≡ true

  module _ (g : Setting) (last : Option Who) (s : State) (k : Logged last s) (w : Who) where
    not_failed : (a : Act) (q : Reply) → (change g s w a q).stopped ≡ None → fails a q ≡ false
    not_failed a q going = go (fails a q) refl
      where
        go : (b : Bool) → fails a q ≡ b → b ≡ false
        go true is = let stopped = (failing g s w a q is).3 in let none : is_some (change g s w a q).stopped ≡ false = ap is_some going in cc
        go false is = refl

    logged_quiet : (a : Act) (q : Reply) → PublishesNone a q → publisher_after r last w a q ≡ last → Logged (publisher_after r last w a q) (change g s w a q)
    logged_quiet a q none same going any =
        let like = alike g s w a q in
        let before : s.stopped ≡ None = sym (deed_stopped g s (deed_of w a q)) ∙ like.going going in
        ap is_some same ∙ k before (sym (silent_log g s (deed_of w a q) (silent w a q none)) ∙ ap has (sym (like.log (not_failed a q going))) ∙ any)

    logged_published : (x : Digest) → Logged (publisher_after r last w (Settle x) Published) (change g s w (Settle x) Published)
    logged_published x going any = go (same_digest r x) (sym (list_any-append (is_publication r) s.log (purges s.map s.queue ++ Publish x (blob_of g (find s.adds x)) ∷ []) ∙ ap (λ (b : Bool). has s.log || b) (no_purges s.map s.queue (Publish x (blob_of g (find s.adds x)) ∷ []))) ∙ any)
      where
        go : (b : Bool) → (has s.log || (b || false)) ≡ true → is_some (if b then Some w else last) ≡ true
        go true is = refl
        go false is = k going (sym (or_none (has s.log)) ∙ is)

    logged_settled : (x : Digest) (q : Reply) → Logged (publisher_after r last w (Settle x) q) (change g s w (Settle x) q)
    logged_settled x Published = logged_published x
    logged_settled x q = logged_quiet (Settle x) q tt refl

    logged_after : (a : Act) (q : Reply) → Logged (publisher_after r last w a q) (change g s w a q)
    logged_after (Settle x) q = logged_settled x q
    logged_after a q = logged_quiet a q tt refl

  logged_all : (g : Setting) (last : Option Who) (s : State) (es : List CoreEvent) → Logged last s → Logged (publisher r last es) (state_after g s es)
  logged_all g last s [] k = k
  logged_all g last s (e ∷ es) k = logged_all g (publisher_after r last e.who e.act e.reply) (after g s e) es (logged_after g last s k e.who e.act e.reply)

pub logged_published_by : LoggedRootsHavePublishers
logged_published_by h next r going any =
    logged_all r (setting_of h) None (first_state (opening_map h) next) h.events (λ none is. cc) going any
