-- A line that has published puts nothing more, so that a blob's blocks stay the same.
use Rattle.std.proofs.Common.{◌≤◌, ◌<◌, zero, suc, take, arith, ◌≡◌, ◌⊎◌, inl, inr, ℕ, ◌==◌, ◌&&◌, Bool, true, false, cond, Option, Some, None, List, [], ◌∷◌, ◌++◌, map, refl, ap, sym, ◌∙◌, subst, append_assoc, eq-eqb}
use Rattle.std.specs.Prelude.{filter, if◌then◌else◌, All, slice_get}
use Rattle.std.proofs.lemmas.Bool.{eqb-true}
use Rattle.std.proofs.lemmas.List.{append-nil}
use Rattle.std.proofs.lemmas.List.Elements.{All-head, All-tail, filter-append}
use Rattle.spec_disk.specs.declared.event.Event.{Event}
use Rattle.spec_disk.specs.Disk.{Blocks}
use Rattle.spec_tree.specs.declared.Digest.{Digest}
use Rattle.spec_tree.specs.Order.{same_digest}
use Rattle.spec_crash.specs.Timing.{event_at}
use Rattle.spec_core.specs.declared.act.Act.{Act}
use Rattle.spec_core.specs.declared.act.Act.TheVariants.{Put, Settle}
use Rattle.spec_core.specs.declared.event.CoreEvent.{CoreEvent}
use Rattle.spec_core.specs.declared.reply.Reply.{Reply}
use Rattle.spec_core.specs.declared.reply.Reply.TheVariants.{Published, Written}
use Rattle.spec_core.specs.declared.who.Who.{Who}
use Rattle.spec_session.specs.Conform.{events_of}
use Rattle.spec_session.specs.Told.{same_who}
use Rattle.spec_served.specs.Adds.{AreByLine, IsByLine, published_by, was_published}
use Rattle.spec_served.specs.Places.{blocks_by, publisher, publisher_after, put_blocks, was_written, written_at}
use Rattle.spec_seen.specs.Held.{BlocksAreKnownByThen, HeldBlobsStayWhere}
use Rattle.spec_seen.proofs.HeldLemmas.{stay_published}

-- ---- who has published

abbrev own_of : Who → List CoreEvent → List CoreEvent
own_of who events = events_of who.session events

abbrev published : Who → List CoreEvent → List CoreEvent
published who events = published_by who (own_of who events)

-- this line has published
abbrev IsOver : Who → List CoreEvent → Type 0
IsOver who events = ¬ (published who events ≡ [])

published-append : (who : Who) (xs ys : List CoreEvent) → published who (xs ++ ys) ≡ published who xs ++ published who ys
published-append who xs ys =
    ap (published_by who) (filter-append (λ (x : CoreEvent). x.who.session == who.session) xs ys)
    ∙ filter-append (λ (x : CoreEvent). same_who x.who who && was_published x.act x.reply) (own_of who xs) (own_of who ys)

no_first : (xs ys : List CoreEvent) → xs ++ ys ≡ [] → xs ≡ []
no_first [] ys is = refl
no_first (x ∷ xs) ys is = absurd (cc)

no_last : (xs ys : List CoreEvent) → xs ++ ys ≡ [] → ys ≡ []
no_last [] ys is = is
no_last (x ∷ xs) ys is = absurd (cc)

over_more : (who : Who) (xs ys : List CoreEvent) → IsOver who xs → IsOver who (xs ++ ys)
over_more who xs ys over none = over (no_first (published who xs) (published who ys) (sym (published-append who xs ys) ∙ none))

over_before : (who : Who) (xs ys : List CoreEvent) → IsOver who ys → IsOver who (xs ++ ys)
over_before who xs ys over none = over (no_last (published who xs) (published who ys) (sym (published-append who xs ys) ∙ none))

same_self : (who : Who) → same_who who who ≡ true
same_self who = let s = eq-eqb who.session who.session refl in let l = eq-eqb who.line who.line refl in rw (s, l) refl

both : (a b : Bool) → (a && b) ≡ true → (a ≡ true) × (b ≡ true)
both true b is = (refl, is)
both false b is = absurd (cc)

one_who : (a b : Who) → same_who a b ≡ true → a ≡ b
one_who a b is =
    let parts = both (a.session == b.session) (a.line == b.line) is in
    let s = eqb-true a.session b.session parts.0 in let l = eqb-true a.line b.line parts.1 in
    λ i. record { session = s i; line = l i }

-- an event that published
published_one : (who : Who) (e : CoreEvent) → e.who ≡ who → was_published e.act e.reply ≡ true → published who (e ∷ []) ≡ e ∷ []
published_one who e by is =
    ap (λ (b : Bool). published_by who (cond b (e ∷ []) [])) (ap (λ (w : Who). w.session == who.session) by ∙ eq-eqb who.session who.session refl)
    ∙ ap (λ (b : Bool). cond (b && was_published e.act e.reply) (e ∷ []) []) (ap (λ (w : Who). same_who w who) by ∙ same_self who)
    ∙ ap (λ (b : Bool). cond b (e ∷ []) []) is

over_one : (who : Who) (e : CoreEvent) → e.who ≡ who → was_published e.act e.reply ≡ true → IsOver who (e ∷ [])
over_one who e by is none = let one = published_one who e by is in differ (sym one ∙ none) where
  differ : (e ∷ []) ≡ [] → ⊥
  differ same = cc

-- who published last is one of these, or was so before
after_one : (r : Digest) (last : Option Who) (w : Who) (a : Act) (q : Reply) (who : Who) → publisher_after r last w a q ≡ Some who → (last ≡ Some who) ⊎ ((w ≡ who) × (was_published a q ≡ true))
after_one r last w (Settle x) Published who is = go (same_digest r x) is where
  go : (b : Bool) → (if b then Some w else last) ≡ Some who → (last ≡ Some who) ⊎ ((w ≡ who) × (was_published (Settle x) Published ≡ true))
  go true same = inr (let one : w ≡ who = cc in one, refl)
  go false same = inl same
after_one r last w a q who is = inl is

publisher_over : (r : Digest) (last : Option Who) (es : List CoreEvent) (who : Who) → publisher r last es ≡ Some who → (last ≡ Some who) ⊎ IsOver who es
publisher_over r last [] who is = inl is
publisher_over r last (e ∷ es) who is = elim (publisher_over r (publisher_after r last e.who e.act e.reply) es who is) [
  | inl first ↦ elim (after_one r last e.who e.act e.reply who first) [
    | inl before ↦ inl before
    | inr this ↦ inr (over_more who (e ∷ []) es (over_one who e this.0 this.1))
  ]
  | inr later ↦ inr (over_before who (e ∷ []) es later)
]

-- ---- no more puts

put_first : (cur : List CoreEvent) (w : Who) (a : Act) (q : Reply) → was_written a q ≡ true → IsByLine cur w a q → published w cur ≡ []
put_first cur w (Put i) Written is by = by
put_first cur w a q is by = absurd (cc)

rest_by : (cur xs ys : List CoreEvent) → AreByLine cur (xs ++ ys) → AreByLine (cur ++ xs) ys
rest_by cur [] ys by = subst (λ (l : List CoreEvent). AreByLine l ys) (sym (append-nil cur)) by
rest_by cur (x ∷ xs) ys by = subst (λ (l : List CoreEvent). AreByLine l ys) (append_assoc cur (x ∷ []) xs) (rest_by (cur ++ x ∷ []) xs ys by.1)

no_more : (who : Who) (es cur : List CoreEvent) → IsOver who cur → AreByLine cur es → filter (λ e. same_who e.who who && was_written e.act e.reply) es ≡ []
no_more who [] cur over by = refl
no_more who (e ∷ es) cur over by = go (same_who e.who who && was_written e.act e.reply) refl (no_more who es (cur ++ e ∷ []) (over_more who cur (e ∷ []) over) by.1) where
  go : (b : Bool) → (same_who e.who who && was_written e.act e.reply) ≡ b → filter (λ x. same_who x.who who && was_written x.act x.reply) es ≡ []
      → cond b (e ∷ filter (λ x. same_who x.who who && was_written x.act x.reply) es) (filter (λ x. same_who x.who who && was_written x.act x.reply) es) ≡ []
  go true is rest =
      let parts = both (same_who e.who who) (was_written e.act e.reply) is in
      absurd (over (subst (λ (w : Who). published w cur ≡ []) (one_who e.who who parts.0) (put_first cur e.who e.act e.reply parts.1 by.0)))
  go false is rest = rest

same_puts : (told : List Event) (before more : List CoreEvent) (who : Who) → IsOver who before → AreByLine before more → put_blocks told (before ++ more) who ≡ put_blocks told before who
same_puts told before more who over by =
    let at : CoreEvent → ℕ = λ (e : CoreEvent). written_at (event_at told e.calls) in
    ap (map at) (filter-append (λ (e : CoreEvent). same_who e.who who && was_written e.act e.reply) before more
    ∙ ap (λ (l : List CoreEvent). filter (λ e. same_who e.who who && was_written e.act e.reply) before ++ l) (no_more who more before over by)
    ∙ append-nil (filter (λ e. same_who e.who who && was_written e.act e.reply) before))

same_blocks : (base : Blocks) (told : List Event) (before more : List CoreEvent) (r : Digest) (o : Option Who) → publisher r None before ≡ o → AreByLine before more
    → blocks_by base told (before ++ more) r o ≡ blocks_by base told before r o
same_blocks base told before more r None is by = refl
same_blocks base told before more r (Some who) is by = elim (publisher_over r None before who is) [
  | inl none ↦ absurd (differ none)
  | inr over ↦ same_puts told before more who over by
] where
  differ : None ≡ Some who → ⊥
  differ same = cc

pub stay_where : HeldBlobsStayWhere
stay_where base told h next before more p r legal by is all =
    ap (λ (o : Option Who). blocks_by base told (before ++ more) r o) (stay_published h next before more p r legal is all)
    ∙ same_blocks base told before more r (publisher r None before) refl (rest_by [] before more by)

-- ---- by so many of the device's events

get_taken : (xs : List Event) (c k : ℕ) → k < c → slice_get (take c xs) k ≡ slice_get xs k
get_taken xs zero k low = absurd (omega (arith, low))
get_taken [] (suc c) k low = refl
get_taken (x ∷ xs) (suc c) zero low = refl
get_taken (x ∷ xs) (suc c) (suc k) low = get_taken xs c k (omega (arith, low))

event_taken : (xs : List Event) (c n : ℕ) → n ≤ c → event_at (take c xs) n ≡ event_at xs n
event_taken xs c zero within = refl
event_taken xs c (suc k) within = get_taken xs c k (omega (arith, within))

puts_taken : (told : List Event) (before : List CoreEvent) (who : Who) (c : ℕ) → All (λ e. e.calls ≤ c) before → put_blocks (take c told) before who ≡ put_blocks told before who
puts_taken told [] who c within = refl
puts_taken told (e ∷ es) who c within = go (same_who e.who who && was_written e.act e.reply) (puts_taken told es who c (All-tail (λ x. x.calls ≤ c) e es within)) where
  go : (b : Bool) → put_blocks (take c told) es who ≡ put_blocks told es who
      → map (λ x. written_at (event_at (take c told) x.calls)) (cond b (e ∷ filter (λ x. same_who x.who who && was_written x.act x.reply) es) (filter (λ x. same_who x.who who && was_written x.act x.reply) es))
      ≡ map (λ x. written_at (event_at told x.calls)) (cond b (e ∷ filter (λ x. same_who x.who who && was_written x.act x.reply) es) (filter (λ x. same_who x.who who && was_written x.act x.reply) es))
  go true rest = λ i. written_at (event_taken told c e.calls (All-head (λ x. x.calls ≤ c) e es within) i) ∷ rest i
  go false rest = rest

pub known_by_then : BlocksAreKnownByThen
known_by_then base told before r None c within = refl
known_by_then base told before r (Some who) c within = puts_taken told before who c within
