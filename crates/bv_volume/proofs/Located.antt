-- Where the blobs of the map lie: what an event makes of it.
use Rattle.std.proofs.Common.{◌≡◌, ◌⊎◌, inl, inr, ℕ, ◌==◌, ◌&&◌, ◌∷◌, ◌++◌, [], Bool, true, false, cond, List, map, filter, Option, None, Some, IfSome, IsSomeAnd, refl, ap, sym, ◌∙◌, subst, append_assoc, eq-eqb, if◌then◌else◌}
use Rattle.std.specs.BTreeMap.{insert_entry}
use Rattle.std.proofs.lemmas.Bool.{eqb-true}
use Rattle.std.proofs.lemmas.List.{append-nil}
use Rattle.std.proofs.lemmas.List.Elements.{filter-append}
use Rattle.spec_disk.specs.Disk.{Blocks}
use Rattle.spec_disk.specs.Images.{IsSettled}
use Rattle.spec_disk.specs.declared.event.Event.{Event}
use Rattle.spec_record.specs.Geometry.{block_at}
use Rattle.spec_record.specs.declared.geometry.Geometry.{Geometry}
use Rattle.spec_tree.specs.declared.Digest.{Digest}
use Rattle.spec_tree.specs.Order.{digest_cmp, same_digest}
use Rattle.spec_core.proofs.EntryLemmas.{lookup-insert_entry}
use Rattle.spec_core.proofs.Holding.{digest_total}
use Rattle.spec_core.specs.Log.{without}
use Rattle.spec_core.specs.History.{History, with_event}
use Rattle.spec_core.specs.State.{find}
use Rattle.spec_core.specs.declared.act.Act.{Act}
use Rattle.spec_core.specs.declared.act.Act.TheVariants as acts
use Rattle.spec_core.specs.declared.event.CoreEvent.{CoreEvent}
use Rattle.spec_core.specs.declared.reply.Reply.{Reply}
use Rattle.spec_core.specs.declared.reply.Reply.TheVariants as replies
use Rattle.spec_core.specs.declared.who.Who.{Who}
use Rattle.spec_crash.specs.Timing.{event_at, IsOkWrite, IsWritten}
use Rattle.spec_session.specs.Conform.{events_of}
use Rattle.spec_session.specs.Told.{same_who}
use Rattle.spec_served.specs.Adds.{AreByLine, IsByLine, line_puts, published_by, puts_of, was_published}
use Rattle.spec_served.specs.Places.{blocks_by, publisher, publisher_after, put_blocks, was_written, written_at}
use Rattle.bv_device.specs.Told.{Disk, disk_with, now_of}
use Rattle.bv_model.specs.Sole.{Sole}
use Rattle.bv_model.proofs.Adds.{find-without, sole-without}
use Rattle.bv_ledger.specs.Answers.{device_reply, refusal_reply}
use Rattle.bv_ledger.specs.declared.faults.Refusal.{Refusal}
use Rattle.bv_ledger.specs.declared.faults.Refusal.TheVariants as refusal
use Rattle.bv_store.specs.Stored.{Stored, Grows, SameData, placed_without}
use Rattle.bv_volume.specs.Events.{event_of}
use Rattle.bv_volume.specs.Located.{LiesBy, Located}
use Rattle.bv_volume.specs.Sessions.{AreWrites, PutsAreWrites}
use Rattle.bv_volume.proofs.Sessions.{event_more}
use Rattle.bv_volume.proofs.Syncs.{in_disk}

-- ---- a session and a line

same_self : (w : Who) → same_who w w ≡ true
same_self w = rw (eq-eqb w.session w.session refl, eq-eqb w.line w.line refl) refl

pub both_true : (a b : Bool) → (a && b) ≡ true → (a ≡ true) × (b ≡ true)
both_true true b is = (refl, is)
both_true false b is = absurd (cc)

same_who_is : (a b : Who) → same_who a b ≡ true → a ≡ b
same_who_is a b is =
    let both = both_true (a.session == b.session) (a.line == b.line) is in
    ap (λ (x : ℕ). record { session = x; line = a.line }) (eqb-true a.session b.session both.0)
    ∙ ap (λ (x : ℕ). record { session = b.session; line = x }) (eqb-true a.line b.line both.1)

-- ---- the events of a session

-- a test that holds of the session's events alone finds as much among them
filter_own : (q : CoreEvent → Bool) (x : ℕ) (es : List CoreEvent) → ((e : CoreEvent) → (e.who.session == x) ≡ false → q e ≡ false) → filter q (events_of x es) ≡ filter q es
filter_own q x [] none = refl
filter_own q x (e ∷ es) none = go (e.who.session == x) refl (filter_own q x es none)
  where
    go : (b : Bool) → (e.who.session == x) ≡ b → filter q (events_of x es) ≡ filter q es → filter q (cond b (e ∷ events_of x es) (events_of x es)) ≡ cond (q e) (e ∷ filter q es) (filter q es)
    go true is rest = ap (λ (xs : List CoreEvent). cond (q e) (e ∷ xs) xs) rest
    go false is rest = rw (none e is) rest

other_line : (w : Who) (k : Who → CoreEvent → Bool) (e : CoreEvent) → (e.who.session == w.session) ≡ false → (same_who e.who w && k w e) ≡ false
other_line w k e is = rw is refl

pub line_own : (w : Who) (es : List CoreEvent) → line_puts w (events_of w.session es) ≡ line_puts w es
line_own w es = ap (λ (xs : List CoreEvent). map (λ e. e.calls) xs) (filter_own (λ e. same_who e.who w && was_written e.act e.reply) w.session es (other_line w (λ x e. was_written e.act e.reply)))

pub published_own : (w : Who) (es : List CoreEvent) → published_by w (events_of w.session es) ≡ published_by w es
published_own w es = filter_own (λ e. same_who e.who w && was_published e.act e.reply) w.session es (other_line w (λ x e. was_published e.act e.reply))

-- ---- who published

pub publisher_push : (r : Digest) (last : Option Who) (es : List CoreEvent) (e : CoreEvent) → publisher r last (es ++ e ∷ []) ≡ publisher_after r (publisher r last es) e.who e.act e.reply
publisher_push r last [] e = refl
publisher_push r last (f ∷ es) e = publisher_push r (publisher_after r last f.who f.act f.reply) es e

pub unpublished : (r : Digest) (last : Option Who) (who : Who) (act : Act) (q : Reply) → was_published act q ≡ false → publisher_after r last who act q ≡ last
unpublished r last who (acts.Settle x) replies.Published none = absurd (cc)
unpublished r last who act q none = refl

after_who : (r : Digest) (last : Option Who) (who : Who) (act : Act) (q : Reply) (w : Who) → (same_who who w && was_published act q) ≡ false → publisher_after r last who act q ≡ Some w → last ≡ Some w
after_who r last who (acts.Settle x) replies.Published w none is = go (same_digest r x) is
  where
    go : (b : Bool) → (if b then Some who else last) ≡ Some w → last ≡ Some w
    go true same =
        let its : who ≡ w = cc in
        let never : true ≡ false = ap (λ (b : Bool). b && true) (sym (same_self w)) ∙ subst (λ (y : Who). (same_who y w && true) ≡ false) its none in
        absurd (cc)
    go false same = same
after_who r last who act q w none is = is

none_first : {X : Type 0} (b : Bool) (x : X) (xs ys : List X) → cond b (x ∷ xs) ys ≡ [] → (b ≡ false) × (ys ≡ [])
none_first true x xs ys is = absurd (cc)
none_first false x xs ys is = (refl, is)

publisher_was : (r : Digest) (last : Option Who) (es : List CoreEvent) (w : Who) → published_by w es ≡ [] → publisher r last es ≡ Some w → last ≡ Some w
publisher_was r last [] w none is = is
publisher_was r last (e ∷ es) w none is =
    let first = none_first (same_who e.who w && was_published e.act e.reply) e (published_by w es) (published_by w es) none in
    after_who r last e.who e.act e.reply w first.0 (publisher_was r (publisher_after r last e.who e.act e.reply) es w first.1 is)

-- a line that has published nothing is nobody's publisher
pub no_publisher : (r : Digest) (es : List CoreEvent) (who w : Who) → published_by who es ≡ [] → publisher r None es ≡ Some w → same_who who w ≡ false
no_publisher r es who w none is = go (same_who who w) refl
  where
    go : (b : Bool) → same_who who w ≡ b → b ≡ false
    go true same =
        let its : published_by w es ≡ [] = subst (λ (x : Who). published_by x es ≡ []) (same_who_is who w same) none in
        let never : None ≡ Some w = publisher_was r None es w its is in absurd (cc)
    go false same = refl

-- ---- the blocks that puts wrote

pub written_is : (act : Act) (q : Reply) (who : Who) (calls : ℕ) → was_written act q ≡ true → IsWritten (record { who = who; act = act; reply = q; calls = calls })
written_is (acts.Put index) replies.Written who calls is = (tt, refl)
written_is act q who calls is = absurd (cc)

pub write_more : (trace more : List Event) (n : ℕ) (o : Option Event) → event_at trace n ≡ o → IsSomeAnd o IsOkWrite → event_at (trace ++ more) n ≡ event_at trace n
write_more trace more n None is w = absurd w
write_more trace more n (Some x) is w = event_more trace more n x is ∙ sym is

-- they stay as the device goes on
put_blocks_more : (trace more : List Event) (es : List CoreEvent) (w : Who) → PutsAreWrites trace es → put_blocks (trace ++ more) es w ≡ put_blocks trace es w
put_blocks_more trace more [] w p = refl
put_blocks_more trace more (e ∷ es) w p = go (same_who e.who w && was_written e.act e.reply) refl (put_blocks_more trace more es w p.1)
  where
    go : (b : Bool) → (same_who e.who w && was_written e.act e.reply) ≡ b → put_blocks (trace ++ more) es w ≡ put_blocks trace es w
        → map (λ f. written_at (event_at (trace ++ more) f.calls)) (cond b (e ∷ filter (λ f. same_who f.who w && was_written f.act f.reply) es) (filter (λ f. same_who f.who w && was_written f.act f.reply) es))
        ≡ map (λ f. written_at (event_at trace f.calls)) (cond b (e ∷ filter (λ f. same_who f.who w && was_written f.act f.reply) es) (filter (λ f. same_who f.who w && was_written f.act f.reply) es))
    go true is rest =
        let wrote = p.0 (written_is e.act e.reply e.who e.calls (both_true (same_who e.who w) (was_written e.act e.reply) is).1) in
        ap (λ (o : Option Event). written_at o ∷ put_blocks (trace ++ more) es w) (write_more trace more e.calls (event_at trace e.calls) refl wrote)
        ∙ ap (λ (xs : List ℕ). written_at (event_at trace e.calls) ∷ xs) rest
    go false is rest = rest

put_blocks_push : (trace : List Event) (es : List CoreEvent) (e : CoreEvent) (w : Who) → (same_who e.who w && was_written e.act e.reply) ≡ false → put_blocks trace (es ++ e ∷ []) w ≡ put_blocks trace es w
put_blocks_push trace es e w none =
    ap (λ (xs : List CoreEvent). map (λ f. written_at (event_at trace f.calls)) xs)
    (filter-append (λ f. same_who f.who w && was_written f.act f.reply) es (e ∷ [])
    ∙ ap (λ (b : Bool). filter (λ f. same_who f.who w && was_written f.act f.reply) es ++ cond b (e ∷ []) []) none
    ∙ append-nil (filter (λ f. same_who f.who w && was_written f.act f.reply) es))

map_calls : (f : ℕ → ℕ) (es : List CoreEvent) → map (λ e. f e.calls) es ≡ map f (map (λ e. e.calls) es)
map_calls f [] = refl
map_calls f (e ∷ es) = ap (λ (xs : List ℕ). f e.calls ∷ xs) (map_calls f es)

pub writes_at : (g : Geometry) (d : Disk) (cs bs : List ℕ) → AreWrites g d cs bs → map (λ c. written_at (event_at d.trace c)) cs ≡ map (block_at g) bs
writes_at g d [] [] w = refl
writes_at g d [] (b ∷ bs) w = absurd w
writes_at g d (c ∷ cs) [] w = absurd w
writes_at g d (c ∷ cs) (b ∷ bs) w =
    ap (λ (x : ℕ). x ∷ map (λ k. written_at (event_at d.trace k)) cs) (ap written_at w.0)
    ∙ ap (λ (xs : List ℕ). block_at g b ∷ xs) (writes_at g d cs bs w.1)

-- where a line's puts are these calls, its blocks are where these wrote
pub line_blocks : (trace : List Event) (es : List CoreEvent) (w : Who) (cs : List ℕ) → line_puts w es ≡ cs → put_blocks trace es w ≡ map (λ c. written_at (event_at trace c)) cs
line_blocks trace es w cs is = map_calls (λ c. written_at (event_at trace c)) (filter (λ e. same_who e.who w && was_written e.act e.reply) es) ∙ ap (λ (xs : List ℕ). map (λ c. written_at (event_at trace c)) xs) is

-- ---- one event more

-- an event leaves a blob where it was
blocks_kept : (base : Blocks) (trace more : List Event) (es : List CoreEvent) (e : CoreEvent) (r : Digest) (o : Option Who) → PutsAreWrites trace es → ((w : Who) → o ≡ Some w → (same_who e.who w && was_written e.act e.reply) ≡ false) → blocks_by base (trace ++ more) (es ++ e ∷ []) r o ≡ blocks_by base trace es r o
blocks_kept base trace more es e r None puts apart = refl
blocks_kept base trace more es e r (Some w) puts apart = put_blocks_push (trace ++ more) es e w (apart w refl) ∙ put_blocks_more trace more es w puts

-- ---- events that lines made

pub and_false : (x b : Bool) → b ≡ false → (x && b) ≡ false
and_false true b is = is
and_false false b is = refl

pub by_line_last : (before es : List CoreEvent) (e : CoreEvent) → AreByLine before (es ++ e ∷ []) → AreByLine before es × IsByLine (before ++ es) e.who e.act e.reply
by_line_last before [] e all = (tt, subst (λ (xs : List CoreEvent). IsByLine xs e.who e.act e.reply) (sym (append-nil before)) all.0)
by_line_last before (f ∷ es) e all =
    let rest = by_line_last (before ++ f ∷ []) es e all.1 in
    ((all.0, rest.0), subst (λ (xs : List CoreEvent). IsByLine xs e.who e.act e.reply) (append_assoc before (f ∷ []) es) rest.1)

-- a put is by a line that isn't the publisher of any root
pub apart_of : (before : List CoreEvent) (who : Who) (act : Act) (q : Reply) → IsByLine before who act q → (r : Digest) (w : Who) → publisher r None before ≡ Some w → (same_who who w && was_written act q) ≡ false
apart_of before who (acts.Put index) replies.Written line r w is = ap (λ (b : Bool). b && true) (no_publisher r before who w (sym (published_own who before) ∙ line) is)
apart_of before who act q line r w is = and_false (same_who who w) false refl

abbrev pub LocatedIn : History → Stored → Type 0
LocatedIn h s = Located h s.geometry s.began s.told s.placed

-- each blob that is there lay there, or is what the event published
abbrev pub Comes : History → CoreEvent → Stored → Disk → Digest → List ℕ → Type 0
Comes h e s d r places =
    (find s.placed r ≡ Some places) × (publisher r None (h.events ++ e ∷ []) ≡ publisher r None h.events)
    ⊎ (map (block_at s.geometry) places ≡ put_blocks d.trace h.events e.who) × (publisher r None (h.events ++ e ∷ []) ≡ Some e.who) × (was_written e.act e.reply ≡ false)

module _ (h : History) (s s' : Stored) (e : CoreEvent) (P : Disk → List Event → Type 0) (geometry : s'.geometry ≡ s.geometry) (grows : Grows s.told s'.told P) (puts : IfSome s.told (λ d. PutsAreWrites d.trace h.events)) where
  -- what was there lies as before
  lies_on : (b d : Disk) (more : List Event) (r : Digest) (places : List ℕ) → PutsAreWrites d.trace h.events → publisher r None (h.events ++ e ∷ []) ≡ publisher r None h.events → ((w : Who) → publisher r None h.events ≡ Some w → (same_who e.who w && was_written e.act e.reply) ≡ false) → LiesBy s.geometry b d h r places → LiesBy s'.geometry b (disk_with d more) (with_event h e) r places
  lies_on b d more r places wrote same apart old =
      ap (λ (g : Geometry). map (block_at g) places) geometry ∙ old
      ∙ sym (ap (λ (o : Option Who). blocks_by (now_of b) (d.trace ++ more) (h.events ++ e ∷ []) r o) same ∙ blocks_kept (now_of b) d.trace more h.events e r (publisher r None h.events) wrote apart)

  abbrev Lie : Disk → Stored → History → Type 0
  Lie b x k = IfSome x.told (λ d. (r : Digest) (places : List ℕ) → find x.placed r ≡ Some places → LiesBy x.geometry b d k r places)

  one : (b d : Disk) (more : List Event) (r : Digest) (places : List ℕ) → PutsAreWrites d.trace h.events → IsByLine h.events e.who e.act e.reply → ((x : Digest) (ps : List ℕ) → find s.placed x ≡ Some ps → LiesBy s.geometry b d h x ps) → Comes h e s d r places → LiesBy s'.geometry b (disk_with d more) (with_event h e) r places
  one b d more r places wrote line old (inl c) = lies_on b d more r places wrote c.1 (apart_of h.events e.who e.act e.reply line r) (old r places c.0)
  one b d more r places wrote line old (inr c) =
      ap (λ (g : Geometry). map (block_at g) places) geometry ∙ c.0
      ∙ sym (ap (λ (o : Option Who). blocks_by (now_of b) (d.trace ++ more) (h.events ++ e ∷ []) r o) c.1
      ∙ put_blocks_push (d.trace ++ more) h.events e e.who (and_false (same_who e.who e.who) (was_written e.act e.reply) c.2) ∙ put_blocks_more d.trace more h.events e.who wrote)

  module _ (comes : IsByLine h.events e.who e.act e.reply → IfSome s.told (λ d. (r : Digest) (places : List ℕ) → find s'.placed r ≡ Some places → Comes h e s d r places)) where
    lie_on : (b : Disk) (o : Option Disk) → s.told ≡ o → IsByLine h.events e.who e.act e.reply → Lie b s h → Lie b s' (with_event h e)
    lie_on b None is line old = let gone = rw is at grows in rw gone tt
    lie_on b (Some d) is line old =
        let g = rw is at grows in
        let was = rw is at old in
        let from = rw is at (comes line) in
        let wrote = rw is at puts in
        in_disk (λ x. (r : Digest) (places : List ℕ) → find s'.placed r ≡ Some places → LiesBy s'.geometry b x (with_event h e) r places) s'.told (disk_with d g.0) g.1
        (λ r places there. one b d g.0 r places wrote line was (from r places there))

    over : (o p : Option Disk) → p ≡ o → IfSome o (λ b. IsSettled b.trace → AreByLine [] h.events → Lie b s h) → IfSome p (λ b. IsSettled b.trace → AreByLine [] (h.events ++ e ∷ []) → Lie b s' (with_event h e))
    over None p is old = rw is tt
    over (Some b) p is old = rw is (λ settled all. let last = by_line_last [] h.events e all in lie_on b s.told refl last.1 (old settled last.0))

    pub located_after : s'.began ≡ s.began → LocatedIn h s → LocatedIn (with_event h e) s'
    located_after began old = over s.began s'.began began old

-- ---- what calls make of it

-- where nothing is told there is nothing to say
pub told_all : (Q : Disk → Type 0) (o : Option Disk) → ((d : Disk) → Q d) → IfSome o Q
told_all Q None all = tt
told_all Q (Some d) all = all d

-- an event that publishes nothing
pub located_quiet : (h : History) (s s' : Stored) (e : CoreEvent) (P : Disk → List Event → Type 0) → s'.geometry ≡ s.geometry → s'.began ≡ s.began → Grows s.told s'.told P → IfSome s.told (λ d. PutsAreWrites d.trace h.events) → was_published e.act e.reply ≡ false
    → ((r : Digest) (places : List ℕ) → find s'.placed r ≡ Some places → find s.placed r ≡ Some places) → LocatedIn h s → LocatedIn (with_event h e) s'
located_quiet h s s' e P geometry began grows puts none less old =
    located_after h s s' e P geometry grows puts
    (λ line. told_all _ s.told (λ d r places there. inl (less r places there, publisher_push r None h.events e ∙ unpublished r (publisher r None h.events) e.who e.act e.reply none)))
    began old

-- a publication, by the line whose puts the add has
pub located_settled : (h : History) (s s' : Stored) (who : Who) (root : Digest) (calls : ℕ) (mine : List ℕ) (less : List (Digest × List ℕ)) (P : Disk → List Event → Type 0) → s'.geometry ≡ s.geometry → s'.began ≡ s.began → Grows s.told s'.told P → IfSome s.told (λ d. PutsAreWrites d.trace h.events)
    → s'.placed ≡ insert_entry digest_cmp less root mine → ((r : Digest) (places : List ℕ) → find less r ≡ Some places → find s.placed r ≡ Some places)
    → IfSome s.told (λ d. AreWrites s.geometry d (puts_of (events_of who.session h.events)) mine)
    → LocatedIn h s → LocatedIn (with_event h (event_of who (acts.Settle root) replies.Published calls)) s'
located_settled h s s' who root calls mine less P geometry began grows puts placed sub wrote old =
    located_after h s s' e P geometry grows puts (comes s.told wrote) began old
  where
    e : CoreEvent
    e = event_of who (acts.Settle root) replies.Published calls

    next : (r : Digest) (b : Bool) → same_digest r root ≡ b → publisher r None (h.events ++ e ∷ []) ≡ (if b then Some who else publisher r None h.events)
    next r b is = publisher_push r None h.events e ∙ ap (λ (c : Bool). if c then Some who else publisher r None h.events) is

    from : (d : Disk) → AreWrites s.geometry d (puts_of (events_of who.session h.events)) mine → line_puts who (events_of who.session h.events) ≡ puts_of (events_of who.session h.events) → (r : Digest) (places : List ℕ) (b : Bool) → same_digest r root ≡ b → cond b (Some mine) (find less r) ≡ Some places → Comes h e s d r places
    from d w line r places true is there =
        let same : mine ≡ places = cc in
        inr (
          ap (λ (bs : List ℕ). map (block_at s.geometry) bs) (sym same)
              ∙ sym (line_blocks d.trace h.events who (puts_of (events_of who.session h.events)) (sym (line_own who h.events) ∙ line) ∙ writes_at s.geometry d (puts_of (events_of who.session h.events)) mine w),
          next r true is,
          refl,
        )
    from d w line r places false is there = inl (sub r places there, next r false is)

    comes : (o : Option Disk) → IfSome o (λ d. AreWrites s.geometry d (puts_of (events_of who.session h.events)) mine) → IsByLine h.events who (acts.Settle root) replies.Published → IfSome o (λ d. (r : Digest) (places : List ℕ) → find s'.placed r ≡ Some places → Comes h e s d r places)
    comes None w line = tt
    comes (Some d) w line = λ r places there. from d w line r places (same_digest r root) refl (sym (lookup-insert_entry digest_total less root mine r) ∙ ap (λ (es : List (Digest × List ℕ)). find es r) (sym placed) ∙ there)

-- where blobs lie without some roots
pub placed_sub : (placed : List (Digest × List ℕ)) (rs : List Digest) → Sole placed → (r : Digest) (places : List ℕ) → find (placed_without placed rs) r ≡ Some places → find placed r ≡ Some places
placed_sub placed [] sole r places is = is
placed_sub placed (x ∷ rs) sole r places is = go (same_digest r x) (sym (find-without placed x r sole) ∙ placed_sub (without placed x) rs (sole-without placed x sole) r places is)
  where
    go : (b : Bool) → cond b None (find placed r) ≡ Some places → find placed r ≡ Some places
    go true never = absurd (cc)
    go false there = there

pub less_places : (placed placed' : List (Digest × List ℕ)) (rs : List Digest) → Sole placed → (placed' ≡ placed) ⊎ (placed' ≡ placed_without placed rs) → (r : Digest) (places : List ℕ) → find placed' r ≡ Some places → find placed r ≡ Some places
less_places placed placed' rs sole (inl same) r places there = ap (λ (es : List (Digest × List ℕ)). find es r) (sym same) ∙ there
less_places placed placed' rs sole (inr less) r places there = placed_sub placed rs sole r places (ap (λ (es : List (Digest × List ℕ)). find es r) (sym less) ∙ there)

-- where the blob of one root lies
pub lies_by : (h : History) (s : Stored) (r : Digest) (places : List ℕ) → find s.placed r ≡ Some places → LocatedIn h s → IfSome s.began (λ b. IsSettled b.trace → AreByLine [] h.events → IfSome s.told (λ d. LiesBy s.geometry b d h r places))
lies_by h s r places there old = go s.began old
  where
    one_disk : (b : Disk) (o : Option Disk) → IfSome o (λ d. (x : Digest) (ps : List ℕ) → find s.placed x ≡ Some ps → LiesBy s.geometry b d h x ps) → IfSome o (λ d. LiesBy s.geometry b d h r places)
    one_disk b None all = tt
    one_disk b (Some d) all = all r places there

    go : (o : Option Disk) → IfSome o (λ b. IsSettled b.trace → AreByLine [] h.events → IfSome s.told (λ d. (x : Digest) (ps : List ℕ) → find s.placed x ≡ Some ps → LiesBy s.geometry b d h x ps)) → IfSome o (λ b. IsSettled b.trace → AreByLine [] h.events → IfSome s.told (λ d. LiesBy s.geometry b d h r places))
    go None all = tt
    go (Some b) all = λ settled by. one_disk b s.told (all settled by)

pub refusal_unpublished : (root : Digest) (r : Refusal) → was_published (acts.Settle root) (refusal_reply r) ≡ false
refusal_unpublished root (refusal.Stopped f) = refl
refusal_unpublished root refusal.NumberEnd = refl

-- a settle whose entry was written, or failed
pub located_publish : (h : History) (s s' : Stored) (who : Who) (root : Digest) (calls : ℕ) (failed : Option ℕ) (mine : List ℕ) (queue : List Digest) → s'.geometry ≡ s.geometry → s'.began ≡ s.began → Grows s.told s'.told (λ d more. SameData s.geometry d more) → IfSome s.told (λ d. PutsAreWrites d.trace h.events) → Sole s.placed
    → (failed ≡ None → s'.placed ≡ insert_entry digest_cmp (placed_without s.placed queue) root mine) → ((f : ℕ) → failed ≡ Some f → s'.placed ≡ s.placed) → IfSome s.told (λ d. AreWrites s.geometry d (puts_of (events_of who.session h.events)) mine)
    → LocatedIn h s → LocatedIn (with_event h (event_of who (acts.Settle root) (device_reply replies.Published failed) calls)) s'
located_publish h s s' who root calls None mine queue geometry began stays puts sole placed kept wrote old =
    located_settled h s s' who root calls mine (placed_without s.placed queue) (λ d more. SameData s.geometry d more) geometry began stays puts (placed refl) (placed_sub s.placed queue sole) wrote old
located_publish h s s' who root calls (Some f) mine queue geometry began stays puts sole placed kept wrote old =
    located_quiet h s s' (event_of who (acts.Settle root) (replies.DeviceFault f) calls) (λ d more. SameData s.geometry d more) geometry began stays puts refl
    (λ r places there. ap (λ (es : List (Digest × List ℕ)). find es r) (sym (kept f refl)) ∙ there) old
