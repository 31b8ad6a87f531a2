-- What the disk has of a blob while nobody publishes it.
use Rattle.std.proofs.Common.{◌≡◌, ◌≤◌, ◌<◌, ◌+◌, ◌&&◌, ℕ, zero, suc, Bool, true, false, cond, Option, Some, None, List, [], ◌∷◌, ◌++◌, length, map, filter, take, refl, sym, ap, ◌∙◌, arith}
use Rattle.std.specs.Prelude.{All, slice_get}
use Rattle.std.proofs.lemmas.List.{append-nil}
use Rattle.std.proofs.lemmas.List.Elements.{filter-append}
use Rattle.std.proofs.Math.Seq.{take-append_seam}
use Rattle.spec_disk.specs.Disk.{Blocks}
use Rattle.spec_disk.specs.declared.event.Event.{Event}
use Rattle.spec_tree.specs.declared.Digest.{Digest}
use Rattle.spec_core.proofs.Deeds.{alike, deed_stopped}
use Rattle.spec_core.proofs.Histories.{Steps-front}
use Rattle.spec_core.specs.Deeds.{deed_of}
use Rattle.spec_core.specs.History.{History, Legal, NeverFall, first_state, last_state, opening_map, setting_of}
use Rattle.spec_core.specs.Laws.{Empties}
use Rattle.spec_core.specs.State.{State, held}
use Rattle.spec_core.specs.Step.{after, state_after}
use Rattle.spec_core.specs.declared.event.CoreEvent.{CoreEvent}
use Rattle.spec_core.specs.declared.place.Place.{Place}
use Rattle.spec_core.specs.declared.setting.Setting.{Setting}
use Rattle.spec_core.specs.declared.who.Who.{Who}
use Rattle.spec_crash.specs.Timing.{event_at}
use Rattle.spec_seen.proofs.HeldLemmas.{stay_published}
use Rattle.spec_seen.proofs.WhereLemmas.{stay_where}
use Rattle.spec_seen.specs.Held.{up_to}
use Rattle.spec_served.specs.Adds.{AreByLine}
use Rattle.spec_served.specs.Places.{blocks_by, publisher, put_blocks, was_written, written_at}
use Rattle.spec_session.specs.Told.{same_who}
use Rattle.bv_volume.proofs.Located.{apart_of, by_line_last}
use Rattle.bv_volume.specs.Contents.{bytes_of, put_contents}
use Rattle.bv_shared.specs.Moments.{held_by, there_at}
use Rattle.bv_shared.specs.Since.{EndBy}

-- ---- a history up to some moment

-- nothing empties `stopped`
going_before : (g : Setting) (s : State) (es : List CoreEvent) → (state_after g s es).stopped ≡ None → s.stopped ≡ None
going_before g s [] k = k
going_before g s (e ∷ es) k =
    sym (deed_stopped g s (deed_of e.who e.act e.reply)) ∙ (alike g s e.who e.act e.reply).going (going_before g (after g s e) es k)

pub after_both : (g : Setting) (s : State) (xs ys : List CoreEvent) → state_after g s (xs ++ ys) ≡ state_after g (state_after g s xs) ys
after_both g s [] ys = refl
after_both g s (x ∷ xs) ys = after_both g (after g s x) xs ys

-- what hasn't stopped by the end had not by then
pub going_then : (h : History) (next : ℕ) (xs ys : List CoreEvent) → (last_state (up_to h (xs ++ ys)) next).stopped ≡ None → (last_state (up_to h xs) next).stopped ≡ None
going_then h next xs ys k =
    going_before (setting_of h) (last_state (up_to h xs) next) ys (ap (λ (s : State). s.stopped) (sym (after_both (setting_of h) (first_state (opening_map h) next) xs ys)) ∙ k)

front_falls : (c : ℕ) (xs ys : List CoreEvent) → NeverFall c (xs ++ ys) → NeverFall c xs
front_falls c [] ys k = tt
front_falls c (x ∷ xs) ys k = (k.0, front_falls x.calls xs ys k.1)

-- a history that is legal was so by then
pub legal_then : (h : History) (next : ℕ) (xs ys : List CoreEvent) → Legal (up_to h (xs ++ ys)) next → Legal (up_to h xs) next
legal_then h next xs ys k = record {
  sorted = k.sorted;
  steps = Steps-front (setting_of h) (first_state (opening_map h) next) xs ys k.steps;
  calls = front_falls 0 xs ys k.calls;
}

-- ---- what puts wrote, by the events of the device up to then

get_taken : (xs : List Event) (c k : ℕ) → k < c → slice_get (take c xs) k ≡ slice_get xs k
get_taken xs zero k low = absurd (omega (arith, low))
get_taken [] (suc c) k low = refl
get_taken (x ∷ xs) (suc c) zero low = refl
get_taken (x ∷ xs) (suc c) (suc k) low = get_taken xs c k (omega (arith, low))

event_taken : (xs : List Event) (c n : ℕ) → n ≤ c → event_at (take c xs) n ≡ event_at xs n
event_taken xs c zero within = refl
event_taken xs c (suc k) within = get_taken xs c k (omega (arith, within))

contents_taken : (told : List Event) (es : List CoreEvent) (who : Who) (c : ℕ) → EndBy c es → put_contents (take c told) es who ≡ put_contents told es who
contents_taken told [] who c within = refl
contents_taken told (e ∷ es) who c within = go (same_who e.who who && was_written e.act e.reply) (contents_taken told es who c within.1) where
  go : (b : Bool) → put_contents (take c told) es who ≡ put_contents told es who
      → map (λ x. bytes_of (event_at (take c told) x.calls)) (cond b (e ∷ filter (λ x. same_who x.who who && was_written x.act x.reply) es) (filter (λ x. same_who x.who who && was_written x.act x.reply) es))
      ≡ map (λ x. bytes_of (event_at told x.calls)) (cond b (e ∷ filter (λ x. same_who x.who who && was_written x.act x.reply) es) (filter (λ x. same_who x.who who && was_written x.act x.reply) es))
  go true rest = λ i. bytes_of (event_taken told c e.calls within.0 i) ∷ rest i
  go false rest = rest

-- what a blob is to hold is known by the events of the device up to then
pub held_taken : (base : Blocks) (told : List Event) (es : List CoreEvent) (root : Digest) (o : Option Who) (c : ℕ) → EndBy c es → held_by base (take c told) es root o ≡ held_by base told es root o
held_taken base told es root None c within = refl
held_taken base told es root (Some who) c within = contents_taken told es who c within

-- and stays as the device goes on
pub held_grows : (base : Blocks) (told more : List Event) (es : List CoreEvent) (root : Digest) (o : Option Who) → EndBy (length told) es → held_by base (told ++ more) es root o ≡ held_by base told es root o
held_grows base told more es root o within =
    sym (held_taken base (told ++ more) es root o (length told) within) ∙ ap (λ (ts : List Event). held_by base ts es root o) (take-append_seam told more)

-- ---- one event more

contents_push : (told : List Event) (es : List CoreEvent) (e : CoreEvent) (w : Who) → (same_who e.who w && was_written e.act e.reply) ≡ false → put_contents told (es ++ e ∷ []) w ≡ put_contents told es w
contents_push told es e w none =
    ap (λ (xs : List CoreEvent). map (λ f. bytes_of (event_at told f.calls)) xs)
    (filter-append (λ f. same_who f.who w && was_written f.act f.reply) es (e ∷ [])
    ∙ ap (λ (b : Bool). filter (λ f. same_who f.who w && was_written f.act f.reply) es ++ cond b (e ∷ []) []) none
    ∙ append-nil (filter (λ f. same_who f.who w && was_written f.act f.reply) es))

-- who has published a blob puts nothing more, so what the blob is to hold stays
pub held_push : (base : Blocks) (told : List Event) (es : List CoreEvent) (e : CoreEvent) (root : Digest) (o : Option Who) → publisher root None es ≡ o → AreByLine [] (es ++ e ∷ []) → held_by base told (es ++ e ∷ []) root o ≡ held_by base told es root o
held_push base told es e root None is lined = refl
held_push base told es e root (Some w) is lined =
    contents_push told es e w (apart_of es e.who e.act e.reply (by_line_last [] es e lined).1 root w is)

-- ---- while a slot holds the blob

length-map : {X Y : Type 0} (f : X → Y) (xs : List X) → length (map f xs) ≡ length xs
length-map f [] = refl
length-map f (x ∷ xs) = ap suc (length-map f xs)

length-both : {X : Type 0} (xs ys : List X) → length (xs ++ ys) ≡ length xs + length ys
length-both [] ys = omega arith
length-both (x ∷ xs) ys = omega (arith, length-both xs ys)

none_of : {X : Type 0} (xs : List X) → length xs ≡ 0 → xs ≡ []
none_of [] k = refl
none_of (x ∷ xs) k = absurd (omega (arith, k))

module _ (base : Blocks) (told : List Event) (before more : List CoreEvent) (r : Digest) where
  -- who put no more blocks wrote no more
  no_more : (who : Who) → put_blocks told (before ++ more) who ≡ put_blocks told before who → put_contents told (before ++ more) who ≡ put_contents told before who
  no_more who same =
      let test : CoreEvent → Bool = λ (e : CoreEvent). same_who e.who who && was_written e.act e.reply in
      let both : filter test (before ++ more) ≡ filter test before ++ filter test more = filter-append test before more in
      let count : length (filter test (before ++ more)) ≡ length (filter test before) =
      sym (length-map (λ (e : CoreEvent). written_at (event_at told e.calls)) (filter test (before ++ more))) ∙ ap (λ (xs : List ℕ). length xs) same ∙ length-map (λ (e : CoreEvent). written_at (event_at told e.calls)) (filter test before) in
      let counts : length (filter test before) + length (filter test more) ≡ length (filter test before) = sym (length-both (filter test before) (filter test more)) ∙ sym (ap (λ (xs : List CoreEvent). length xs) both) ∙ count in
      let none : filter test more ≡ [] = none_of (filter test more) (omega (arith, counts)) in
      ap (map (λ (e : CoreEvent). bytes_of (event_at told e.calls))) (both ∙ ap (λ (xs : List CoreEvent). filter test before ++ xs) none ∙ append-nil (filter test before))

  held_by_puts : (o : Option Who) → blocks_by base told (before ++ more) r o ≡ blocks_by base told before r o → held_by base told (before ++ more) r o ≡ held_by base told before r o
  held_by_puts None same = refl
  held_by_puts (Some who) same = no_more who same

-- what a blob is to hold stays while a slot holds it
pub held_same : (base : Blocks) (told : List Event) (h : History) (next : ℕ) (before more : List CoreEvent) (p : Place) (r : Digest) → Legal (up_to h (before ++ more)) next → AreByLine [] (before ++ more) → held (last_state (up_to h before) next).slots p ≡ Some r → All (λ e. ¬ Empties p e.who e.act) more
    → held_by base told (before ++ more) r (publisher r None (before ++ more)) ≡ held_by base told before r (publisher r None before)
held_same base told h next before more p r legal lined is all =
    let same : publisher r None (before ++ more) ≡ publisher r None before = stay_published h next before more p r legal is all in
    ap (held_by base told (before ++ more) r) same
    ∙ held_by_puts base told before more r (publisher r None before)
    (sym (ap (blocks_by base told (before ++ more) r) same) ∙ stay_where base told h next before more p r legal lined is all)

-- so the disk has the same at its blocks, as any two events end meanwhile
pub stay_there : (base : Blocks) (told : List Event) (h : History) (next : ℕ) (before more : List CoreEvent) (first last : ℕ) (p : Place) (r : Digest) → Legal (up_to h (before ++ more)) next → AreByLine [] (before ++ more)
    → held (last_state (up_to h before) next).slots p ≡ Some r → All (λ e. ¬ Empties p e.who e.act) more → EndBy first before → EndBy last (before ++ more)
    → there_at base (take first told) before r ≡ held_by base (take first told) before r (publisher r None before)
    → there_at base (take last told) (before ++ more) r ≡ held_by base (take last told) (before ++ more) r (publisher r None (before ++ more))
    → there_at base (take first told) before r ≡ there_at base (take last told) (before ++ more) r
stay_there base told h next before more first last p r legal lined is all within later here there =
    here ∙ held_taken base told before r (publisher r None before) first within
    ∙ sym (held_same base told h next before more p r legal lined is all)
    ∙ sym (held_taken base told (before ++ more) r (publisher r None (before ++ more)) last later)
    ∙ sym there
