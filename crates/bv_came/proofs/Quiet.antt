-- Events that look at a blob: they leave the map, who published, and where blobs lie.
use Rattle.std.proofs.Common.{◌≡◌, ℕ, ◌&&◌, Bool, true, false, cond, Option, None, Some, List, [], ◌∷◌, ◌++◌, map, refl, ap, ◌∙◌}
use Rattle.std.specs.Prelude.{filter}
use Rattle.std.proofs.lemmas.List.{append-nil}
use Rattle.std.proofs.lemmas.List.Elements.{filter-append}
use Rattle.spec_tree.specs.declared.Digest.{Digest}
use Rattle.spec_disk.specs.Disk.{Blocks, block, now_after}
use Rattle.spec_disk.specs.declared.event.Event.{Event}
use Rattle.spec_crash.specs.Timing.{event_at}
use Rattle.spec_core.proofs.Histories.{state_after-push}
use Rattle.spec_core.specs.Change.{change, opened}
use Rattle.spec_core.specs.Choice.{place_of}
use Rattle.spec_core.specs.History.{History, first_state, last_state, opening_map, setting_of}
use Rattle.spec_core.specs.State.{State}
use Rattle.spec_core.specs.Step.{state_after}
use Rattle.spec_core.specs.declared.act.Act.{Act}
use Rattle.spec_core.specs.declared.act.Act.TheVariants.{Open, Fetch, Read, Scan}
use Rattle.spec_core.specs.declared.event.CoreEvent.{CoreEvent}
use Rattle.spec_core.specs.declared.place.Place.{Place}
use Rattle.spec_core.specs.declared.reply.Reply.{Reply}
use Rattle.spec_core.specs.declared.reply.Reply.TheVariants.{Opened}
use Rattle.spec_core.specs.declared.setting.Setting.{Setting}
use Rattle.spec_core.specs.declared.who.Who.{Who}
use Rattle.spec_seen.specs.Held.{up_to}
use Rattle.spec_session.specs.Told.{same_who}
use Rattle.spec_served.specs.Places.{blocks_by, publisher, publisher_after, put_blocks, was_written, written_at}
use Rattle.bv_shared.specs.Moments.{there_at}

-- an open, a read, a scan or a fetch
abbrev pub IsLooking : Act → Type 0
IsLooking (Open i r) = Unit {0}
IsLooking (Fetch i w) = Unit {0}
IsLooking (Read i off len) = Unit {0}
IsLooking (Scan i) = Unit {0}
IsLooking a = ⊥

publishes_none : (r : Digest) (last : Option Who) (w : Who) (a : Act) (q : Reply) → IsLooking a → publisher_after r last w a q ≡ last
publishes_none r last w (Open i x) q k = refl
publishes_none r last w (Fetch i x) q k = refl
publishes_none r last w (Read i off len) q k = refl
publishes_none r last w (Scan i) q k = refl
publishes_none r last w a q k = absurd k

publisher_from : (r : Digest) (last : Option Who) (es : List CoreEvent) (e : CoreEvent) → IsLooking e.act → publisher r last (es ++ e ∷ []) ≡ publisher r last es
publisher_from r last [] e k = publishes_none r last e.who e.act e.reply k
publisher_from r last (x ∷ es) e k = publisher_from r (publisher_after r last x.who x.act x.reply) es e k

-- who published a root last
pub publisher_push : (r : Digest) (es : List CoreEvent) (e : CoreEvent) → IsLooking e.act → publisher r None (es ++ e ∷ []) ≡ publisher r None es
publisher_push r es e k = publisher_from r None es e k

writes_none : (a : Act) (q : Reply) → IsLooking a → was_written a q ≡ false
writes_none (Open i x) q k = refl
writes_none (Fetch i x) q k = refl
writes_none (Read i off len) q k = refl
writes_none (Scan i) q k = refl
writes_none a q k = absurd k

no_second : (b : Bool) → (b && false) ≡ false
no_second true = refl
no_second false = refl

puts_push : (told : List Event) (es : List CoreEvent) (e : CoreEvent) (who : Who) → IsLooking e.act → put_blocks told (es ++ e ∷ []) who ≡ put_blocks told es who
puts_push told es e who k =
    let p : CoreEvent → Bool = λ x. same_who x.who who && was_written x.act x.reply in
    ap (map (λ (x : CoreEvent). written_at (event_at told x.calls)))
    (filter-append p es (e ∷ [])
    ∙ ap (λ (b : Bool). filter p es ++ cond b (e ∷ []) []) (ap (λ (b : Bool). same_who e.who who && b) (writes_none e.act e.reply k) ∙ no_second (same_who e.who who))
    ∙ append-nil (filter p es))

-- where a blob lies
pub blocks_push : (base : Blocks) (told : List Event) (es : List CoreEvent) (e : CoreEvent) (r : Digest) (o : Option Who) → IsLooking e.act → blocks_by base told (es ++ e ∷ []) r o ≡ blocks_by base told es r o
blocks_push base told es e r None k = refl
blocks_push base told es e r (Some who) k = puts_push told es e who k

-- what the disk has there
pub there_push : (base : Blocks) (told : List Event) (es : List CoreEvent) (e : CoreEvent) (r : Digest) → IsLooking e.act → there_at base told (es ++ e ∷ []) r ≡ there_at base told es r
there_push base told es e r k =
    ap (map (block (now_after base told)))
    (ap (blocks_by base told (es ++ e ∷ []) r) (publisher_push r es e k) ∙ blocks_push base told es e r (publisher r None es) k)

opened_map : (s : State) (p : Place) (r : Digest) (q : Reply) → (opened s p r q).map ≡ s.map
opened_map s p r (Opened n) = refl
opened_map s p r q = refl

same_map : (g : Setting) (s : State) (w : Who) (a : Act) (q : Reply) → IsLooking a → (change g s w a q).map ≡ s.map
same_map g s w (Open i r) q k = opened_map s (place_of w i) r q
same_map g s w (Fetch i x) q k = refl
same_map g s w (Read i off len) q k = refl
same_map g s w (Scan i) q k = refl
same_map g s w a q k = absurd k

-- the map
pub map_push : (h : History) (next : ℕ) (es : List CoreEvent) (e : CoreEvent) → IsLooking e.act → (last_state (up_to h (es ++ e ∷ [])) next).map ≡ (last_state (up_to h es) next).map
map_push h next es e k =
    let g : Setting = setting_of h in
    let first : State = first_state (opening_map h) next in
    ap (λ (s : State). s.map) (state_after-push g first es e) ∙ same_map g (state_after g first es) e.who e.act e.reply k
