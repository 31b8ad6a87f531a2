-- Which blobs are sound behind an unmount.
use Rattle.std.proofs.Common.{◌≡◌, ◌⊎◌, inl, inr, ℕ, ◌<◌, ◌≤◌, Bool, true, false, cond, ◌||◌, List, [], ◌∷◌, ◌++◌, All, Option, None, Some, IfSome, is_some, arith, refl, ap, sym, ◌∙◌, subst}
use Rattle.std.specs.BTreeMap.{is_at}
use Rattle.std.specs.List.{AllByRecursion, list_any}
use Rattle.std.proofs.lemmas.Cmp.{eq_by_cmp_equiv}
use Rattle.std.proofs.lemmas.List.Elements.{All-from_recursion, All-push}
use Rattle.std.proofs.lemmas.List.Folds.{list_any-append}
use Rattle.spec_tree.specs.declared.Digest.{Digest}
use Rattle.spec_tree.specs.declared.blob.Blob.{Blob}
use Rattle.spec_tree.specs.Order.{digest_cmp}
use Rattle.spec_disk.specs.Disk.{Blocks, now_after}
use Rattle.spec_disk.specs.Images.{IsSettled}
use Rattle.spec_image.proofs.MapLemmas.{digest_total}
use Rattle.spec_image.specs.Volume.{IsSound}
use Rattle.spec_core.proofs.Logs.{log_makes_map}
use Rattle.spec_core.proofs.Numbers.{numbers_are_apart}
use Rattle.spec_core.specs.Change.{change}
use Rattle.spec_core.specs.Choice.{choice, is_empty, sync_choice, unless_stopped}
use Rattle.spec_core.specs.History.{History, Legal, first_state, last_state, log_of, opening_map, setting_of}
use Rattle.spec_core.specs.Log.{changed}
use Rattle.spec_core.specs.State.{State, find}
use Rattle.spec_core.specs.Step.{Chosen, Fits, Steps, after, state_after}
use Rattle.spec_core.specs.declared.act.Act.{Act}
use Rattle.spec_core.specs.declared.act.Act.TheVariants.{Unmount}
use Rattle.spec_core.specs.declared.choice.Choice.{Choice}
use Rattle.spec_core.specs.declared.choice.Choice.TheVariants.{Never}
use Rattle.spec_core.specs.declared.event.CoreEvent.{CoreEvent}
use Rattle.spec_core.specs.declared.map_change.MapChange.{MapChange}
use Rattle.spec_core.specs.declared.map_change.MapChange.TheVariants.{Publish}
use Rattle.spec_core.specs.declared.reply.Reply.{Reply}
use Rattle.spec_core.specs.declared.reply.Reply.TheVariants.{Unmounted}
use Rattle.spec_core.specs.declared.setting.Setting.{Setting}
use Rattle.spec_core.specs.declared.who.Who.{Who}
use Rattle.spec_crash.specs.Crash.{HoldsWhole}
use Rattle.spec_crash.specs.Timing.{LastHas}
use Rattle.spec_script.specs.Lawful.{AreLawful}
use Rattle.spec_script.specs.declared.line.ScriptLine.{ScriptLine}
use Rattle.spec_session.specs.Conform.{Conform}
use Rattle.spec_served.specs.Adds.{AreByLine}
use Rattle.spec_served.specs.Places.{publisher}
use Rattle.spec_seen.proofs.ByLineLemmas.{lines_add_once}
use Rattle.spec_seen.proofs.PublishedLemmas.{logged_published_by}
use Rattle.spec_seen.specs.ByLine.{AreOfSessions}
use Rattle.spec_seen.specs.Published.{is_publication}
use Rattle.spec_headline.specs.Run.{EndsWithUnmount, HasWholeBlobs, OpensWith}
use Rattle.spec_headline.specs.Headline.{IsUnmounted, LeavesSound, WasPublished}
use Rattle.bv_device.specs.Told.{Disk, now_of}
use Rattle.bv_mounted.proofs.ImageLemmas.{holds_whole}
use Rattle.bv_volume.specs.Seen.{Opened, Seen as Volume}
use Rattle.bv_volume.specs.Sound.{FoundAreSoundNow, PublishedAreSoundNow}
use Rattle.bv_run.proofs.ScriptLemmas.{begins}

pub if_some : {A : Type 0} (P : A → Type 0) (o : Option A) (x : A) → o ≡ Some x → IfSome o P → P x
if_some {A} P o x is h = let Q : Option A → Type 0 = λ y. IfSome y P in subst Q is h

-- ---- what a list has, a search for its root finds

abbrev IsThere : List (Digest × Blob) → Digest → Type 0
IsThere es r = (blob : Blob) × (find es r ≡ Some blob)

there_first : (e : Digest × Blob) (es : List (Digest × Blob)) → IsThere (e ∷ es) e.0
there_first e es = (e.1, ap (λ (b : Bool). cond b (Some e.1) (find es e.0)) ((eq_by_cmp_equiv digest_total).refl e.0))

there_more : (e : Digest × Blob) (es : List (Digest × Blob)) (r : Digest) → IsThere es r → IsThere (e ∷ es) r
there_more e es r h = go (is_at (digest_cmp r) e.0) refl where
  go : (b : Bool) → is_at (digest_cmp r) e.0 ≡ b → IsThere (e ∷ es) r
  go true is = (e.1, ap (λ (b : Bool). cond b (Some e.1) (find es r)) is)
  go false is = (h.0, ap (λ (b : Bool). cond b (Some e.1) (find es r)) is ∙ h.1)

all_there : (all es : List (Digest × Blob)) → ((r : Digest) → IsThere es r → IsThere all r) → AllByRecursion (λ e. IsThere all e.0) es
all_there all [] more = tt
all_there all (e ∷ es) more = (more e.0 (there_first e es), all_there all es (λ r h. more r (there_more e es r h)))

-- ---- behind a reply `unmounted` nothing has failed

going_by : (b : Bool) (o : Option ℕ) (c : Choice) → Chosen (cond b (unless_stopped o c) Never) Unmounted → o ≡ None
going_by true None c fits = refl
going_by true (Some f) c fits = absurd (cc)
going_by false o c fits = absurd fits

last_is : (P : CoreEvent → Type 0) (es : List CoreEvent) (e : CoreEvent) → LastHas P (es ++ e ∷ []) → P e
last_is P [] e k = k
last_is P (x ∷ []) e k = k
last_is P (x ∷ y ∷ es) e k = last_is P (y ∷ es) e k

module _ (g : Setting) (e : CoreEvent) (act : e.act ≡ Unmount) (reply : e.reply ≡ Unmounted) where
  one_going : (s : State) → Fits g s e → (after g s e).stopped ≡ None
  one_going s fits =
      let fit : Chosen (choice g s e.who Unmount) Unmounted = subst (λ (p : Act × Reply). Chosen (choice g s e.who p.0) p.1) (λ k. (act k, reply k)) fits in
      subst (λ (p : Act × Reply). (change g s e.who p.0 p.1).stopped ≡ None) (λ k. ((sym act) k, (sym reply) k))
      (going_by (is_empty s.adds) s.stopped (sync_choice s (s.queue ++ s.leaving) Unmounted) fit)

  all_going : (s : State) (es : List CoreEvent) → Steps g s (es ++ e ∷ []) → (state_after g s (es ++ e ∷ [])).stopped ≡ None
  all_going s [] steps = one_going s steps.0
  all_going s (x ∷ es) steps = all_going (after g s x) es steps.1

unmounted_going : (h : History) (next : ℕ) → Legal h next → EndsWithUnmount h → IsUnmounted h → (last_state h next).stopped ≡ None
unmounted_going h next legal ends unmounted =
    let reply : ends.unmount.reply ≡ Unmounted =
    last_is (λ e. e.reply ≡ Unmounted) ends.sessions ends.unmount (subst (λ (es : List CoreEvent). LastHas (λ e. e.reply ≡ Unmounted) es) ends.is unmounted) in
    subst (λ (es : List CoreEvent). (state_after (setting_of h) (first_state (opening_map h) next) es).stopped ≡ None) (sym ends.is)
    (all_going (setting_of h) ends.unmount ends.act reply (first_state (opening_map h) next) ends.sessions
    (subst (λ (es : List CoreEvent). Steps (setting_of h) (first_state (opening_map h) next) es) ends.is legal.steps))

-- ---- lines made the history

of_sessions : (h : History) → EndsWithUnmount h → AreOfSessions h.events
of_sessions h ends =
    subst (λ (es : List CoreEvent). AreOfSessions es) (sym ends.is)
    (All-push (λ (e : CoreEvent). (e.who.session ≤ 15) ⊎ (e.act ≡ Unmount)) ends.sessions ends.unmount
    (λ k d lt. let low = ends.others k d lt in inl (omega (arith, low))) (inr ends.act))

pub by_line : (lines : List ScriptLine) (h : History) → AreLawful lines → ((s : ℕ) → s < 16 → Conform lines h s) → EndsWithUnmount h → AreByLine [] h.events
by_line lines h lawful conform ends = lines_add_once lines h lawful (λ s le. begins lines h s (conform s (omega (arith, le)))) (of_sessions h ends)

-- ---- who published a root of the log

logged : (h : History) (next : ℕ) (r : Digest) → WasPublished h r → list_any (is_publication r) (last_state h next).log ≡ true
logged h next r was =
    ap (λ (s : State). list_any (is_publication r) s.log) (numbers_are_apart h next)
    ∙ ap (λ (cs : List MapChange). list_any (is_publication r) cs) was.3
    ∙ list_any-append (is_publication r) was.1 (Publish r was.0 ∷ was.2)
    ∙ ap (λ (b : Bool). list_any (is_publication r) was.1 || (b || list_any (is_publication r) was.2)) ((eq_by_cmp_equiv digest_total).refl r)
    ∙ or_true (list_any (is_publication r) was.1)
  where
    or_true : (b : Bool) → (b || true) ≡ true
    or_true true = refl
    or_true false = refl

-- ---- the blobs of the last map

-- the volume behind an unmount that replied so, of a settled disk with whole blobs
module _ (v : Volume) (b t : Disk) (began : v.store.began ≡ Some b) (told : v.store.told ≡ Some t) (same : t.base ≡ now_of b)
    (published : PublishedAreSoundNow v) (found : FoundAreSoundNow v) (opened : Opened v.store v.history)
    (going : (last_state v.history v.next).stopped ≡ None) (lined : AreByLine [] v.history.events) where
  abbrev h : History
  h = v.history

  abbrev blobs_now : List (Digest × Blob)
  blobs_now = (last_state h v.next).map

  abbrev Published : Disk → Type 0
  Published d = (r : Digest) (blob : Blob) (w : Who) → publisher r None h.events ≡ Some w → find blobs_now r ≡ Some blob → IsSound (now_of d) r

  abbrev Found : Disk → Disk → Type 0
  Found o d = d.base ≡ now_of o → (r : Digest) (blob : Blob) → publisher r None h.events ≡ None → find blobs_now r ≡ Some blob → IsSound (now_of o) r → IsSound (now_of d) r

  published_now : Published t
  published_now = if_some Published v.store.told t told (published opened going)

  found_now : Found b t
  found_now = if_some (λ d. Found b d) v.store.told t told (if_some (λ o. IfSome v.store.told (λ d. Found o d)) v.store.began b began (found opened going lined))

  one_sound : (r : Digest) → IsThere blobs_now r → WasPublished h r ⊎ IsSound (now_of b) r → IsSound (now_of t) r
  one_sound r there either = go (publisher r None h.events) refl either where
    go : (o : Option Who) → publisher r None h.events ≡ o → WasPublished h r ⊎ IsSound (now_of b) r → IsSound (now_of t) r
    go (Some w) is k = published_now r there.0 w is there.1
    go None is (inl was) = let some : is_some (publisher r None h.events) ≡ true = logged_published_by h v.next r going (logged h v.next r was) in absurd (cc)
    go None is (inr sound) = found_now same r there.0 is there.1 sound

  map_is : blobs_now ≡ changed (opening_map h) (log_of h)
  map_is = log_makes_map h v.next going ∙ ap (λ (s : State). changed (opening_map h) s.log) (numbers_are_apart h v.next)

  all_sound : LeavesSound (now_of b) t.trace h
  all_sound =
      let there = All-from_recursion (λ (e : Digest × Blob). IsThere blobs_now e.0) blobs_now (all_there blobs_now blobs_now (λ r k. k)) in
      subst (λ (p : List (Digest × Blob) × Blocks). All (λ e. WasPublished h e.0 ⊎ IsSound (now_of b) e.0 → IsSound (now_after p.1 t.trace) e.0) p.0)
      (λ k. (map_is k, same k))
      (λ k d lt. one_sound _ (there k d lt))

-- of a run whose sessions did all their lines
module _ (lines : List ScriptLine) (lawful : AreLawful lines) (v : Volume) (b t : Disk) (began : v.store.began ≡ Some b) (told : v.store.told ≡ Some t) (same : t.base ≡ now_of b)
    (published : PublishedAreSoundNow v) (found : FoundAreSoundNow v) (settled : IsSettled b.trace) (whole : HasWholeBlobs (now_of b)) where
  abbrev Sound : History → ℕ → Type 0
  Sound h next =
      OpensWith (now_of b) h next → Legal h next → ((s : ℕ) → s < 16 → Conform lines h s) → EndsWithUnmount h → IsUnmounted h
      → LeavesSound (now_of b) t.trace h

  last_sound : Sound v.history v.next
  last_sound opens legal conform ends unmounted =
      all_sound v b t began told same published found
      (subst (λ (o : Option Disk). IfSome o (λ d. IsSettled d.trace × HoldsWhole (now_of d) (opening_map v.history))) (sym began)
      (settled, record { is = opens.map; whole = holds_whole (now_of b) (opening_map v.history) opens.map whole }))
      (unmounted_going v.history v.next legal ends unmounted)
      (by_line lines v.history lawful conform ends)

  pub leaves_sound : (h : History) (next : ℕ) → v.history ≡ h → v.next ≡ next → Sound h next
  leaves_sound h next is at = subst (λ (p : History × ℕ). Sound p.0 p.1) (λ k. (is k, at k)) last_sound
