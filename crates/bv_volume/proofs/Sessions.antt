-- The adds of sessions: what an event makes of them.
use Rattle.std.proofs.Common.{◌≡◌, ◌<◌, ℕ, zero, suc, ◌==◌, ◌∷◌, ◌++◌, [], Bool, true, false, cond, List, length, map, is_some, slice_get, Option, None, Some, IfSome, IsSomeAnd, refl, ap, sym, ◌∙◌, subst, append_assoc, eq-eqb}
use Rattle.std.specs.Global.{Vec}
use Rattle.std.proofs.lemmas.Bool.{eqb-true, eqb-false}
use Rattle.std.proofs.lemmas.List.{append-nil}
use Rattle.std.proofs.lemmas.List.Elements.{filter-append}
use Rattle.spec_disk.specs.Disk.{block, now_after}
use Rattle.spec_disk.specs.declared.event.Event.{Event}
use Rattle.spec_disk.specs.declared.event.Event.TheVariants as device
use Rattle.spec_record.specs.Geometry.{block_at}
use Rattle.spec_record.specs.declared.geometry.Geometry.{Geometry}
use Rattle.spec_tree.specs.declared.Digest.{Digest}
use Rattle.spec_core.specs.History.{History, with_event}
use Rattle.spec_core.specs.State.{find}
use Rattle.spec_core.specs.declared.event.CoreEvent.{CoreEvent}
use Rattle.spec_crash.specs.Timing.{event_at, IsOkWrite, IsWritten}
use Rattle.spec_session.specs.Conform.{events_of}
use Rattle.spec_session.specs.Own.{OwnAdd, add_after, add_from, add_of}
use Rattle.spec_orderly.specs.Orderly.{AreInOrder, IsInOrder}
use Rattle.bv_device.specs.Told.{Disk, disk_with, now_of}
use Rattle.bv_space.specs.Owned.{Owned}
use Rattle.bv_store.specs.Stored.{Stored, Grows}
use Rattle.bv_volume.proofs.Counting.{grows_so}
use Rattle.bv_volume.proofs.Syncs.{in_disk, on_disk}
use Rattle.bv_volume.specs.Contents.{KeepsContents}
use Rattle.bv_volume.specs.Located.{Located}
use Rattle.bv_volume.specs.Sessions.{AreWrites, Ordered, PutsAreWrites, Stands, Works, bytes_of, own_add}
use Rattle.spec_served.specs.Adds.{puts_after, puts_from, puts_of}

-- ---- what puts wrote

slice_more : (events more : List Event) (k : ℕ) (x : Event) → slice_get events k ≡ Some x → slice_get (events ++ more) k ≡ Some x
slice_more [] more k x is = absurd (cc)
slice_more (y ∷ events) more zero x is = is
slice_more (y ∷ events) more (suc k) x is = slice_more events more k x is

pub event_more : (events more : List Event) (n : ℕ) (x : Event) → event_at events n ≡ Some x → event_at (events ++ more) n ≡ Some x
event_more events more zero x is = absurd (cc)
event_more events more (suc k) x is = slice_more events more k x is

slice_last : (events : List Event) (x : Event) → slice_get (events ++ x ∷ []) (length events) ≡ Some x
slice_last [] x = refl
slice_last (y ∷ events) x = slice_last events x

-- the last event stands at the place that is their number
pub event_last : (events : List Event) (x : Event) → event_at (events ++ x ∷ []) (suc (length events)) ≡ Some x
event_last events x = slice_last events x

-- these data blocks are as they were
abbrev pub SameAt : Geometry → Disk → List Event → List ℕ → Type 0
SameAt g d more [] = Unit {0}
SameAt g d more (b ∷ bs) = (block (now_of (disk_with d more)) (block_at g b) ≡ block (now_of d) (block_at g b)) × SameAt g d more bs

same_front : (g : Geometry) (d : Disk) (more : List Event) (bs cs : List ℕ) → SameAt g d more (bs ++ cs) → SameAt g d more bs
same_front g d more [] cs same = tt
same_front g d more (b ∷ bs) cs same = (same.0, same_front g d more bs cs same.1)

pub same_nil : (g : Geometry) (d : Disk) (bs : List ℕ) → SameAt g d [] bs
same_nil g d [] = tt
same_nil g d (b ∷ bs) = (ap (λ (p : List Event). block (now_after d.base p) (block_at g b)) (append-nil d.trace), same_nil g d bs)

pub same_all : (g : Geometry) (d : Disk) (more : List Event) (bs : List ℕ) → ((b : ℕ) → block (now_of (disk_with d more)) (block_at g b) ≡ block (now_of d) (block_at g b)) → SameAt g d more bs
same_all g d more [] same = tt
same_all g d more (b ∷ bs) same = (same b, same_all g d more bs same)

pub writes_kept : (g : Geometry) (d : Disk) (more : List Event) (cs bs : List ℕ) → SameAt g d more bs → AreWrites g d cs bs → AreWrites g (disk_with d more) cs bs
writes_kept g d more [] [] same w = tt
writes_kept g d more [] (b ∷ bs) same w = absurd w
writes_kept g d more (c ∷ cs) [] same w = absurd w
writes_kept g d more (c ∷ cs) (b ∷ bs) same w = (
  event_more d.trace more c (device.Write (block_at g b) (block (now_of d) (block_at g b)) true) w.0 ∙ ap (λ (x : List ℕ). Some (device.Write (block_at g b) x true)) (sym same.0),
  writes_kept g d more cs bs same.1 w.1,
)

pub writes_push : (g : Geometry) (d : Disk) (cs bs : List ℕ) (c b : ℕ) → event_at d.trace c ≡ Some (device.Write (block_at g b) (block (now_of d) (block_at g b)) true) → AreWrites g d cs bs → AreWrites g d (cs ++ c ∷ []) (bs ++ b ∷ [])
writes_push g d [] [] c b is w = (is, tt)
writes_push g d [] (x ∷ bs) c b is w = absurd w
writes_push g d (y ∷ cs) [] c b is w = absurd w
writes_push g d (y ∷ cs) (x ∷ bs) c b is w = (w.0, writes_push g d cs bs c b is w.1)

pub writes_bytes : (g : Geometry) (d : Disk) (cs bs : List ℕ) → AreWrites g d cs bs → map (λ c. bytes_of (event_at d.trace c)) cs ≡ map (λ b. block (now_of d) (block_at g b)) bs
writes_bytes g d [] [] w = refl
writes_bytes g d [] (b ∷ bs) w = absurd w
writes_bytes g d (c ∷ cs) [] w = absurd w
writes_bytes g d (c ∷ cs) (b ∷ bs) w =
    ap (λ (x : List ℕ). x ∷ map (λ k. bytes_of (event_at d.trace k)) cs) (ap bytes_of w.0)
    ∙ ap (λ (xs : List (List ℕ)). block (now_of d) (block_at g b) ∷ xs) (writes_bytes g d cs bs w.1)

-- ---- each put is a write

some_more : (trace more : List Event) (n : ℕ) (o : Option Event) → event_at trace n ≡ o → IsSomeAnd o IsOkWrite → IsSomeAnd (event_at (trace ++ more) n) IsOkWrite
some_more trace more n None is w = absurd w
some_more trace more n (Some x) is w = subst (λ (o : Option Event). IsSomeAnd o IsOkWrite) (sym (event_more trace more n x is)) w

pub put_writes_more : (trace more : List Event) (es : List CoreEvent) → PutsAreWrites trace es → PutsAreWrites (trace ++ more) es
put_writes_more trace more [] w = tt
put_writes_more trace more (e ∷ es) w = (λ x. some_more trace more e.calls (event_at trace e.calls) refl (w.0 x), put_writes_more trace more es w.1)

pub put_writes_push : (trace : List Event) (es : List CoreEvent) (e : CoreEvent) → PutsAreWrites trace es → (IsWritten e → IsSomeAnd (event_at trace e.calls) IsOkWrite) → PutsAreWrites trace (es ++ e ∷ [])
put_writes_push trace [] e w last = (last, tt)
put_writes_push trace (f ∷ es) e w last = (w.0, put_writes_push trace es e w.1 last)

-- those of one session
pub put_writes_own : (trace : List Event) (x : ℕ) (es : List CoreEvent) → PutsAreWrites trace es → PutsAreWrites trace (events_of x es)
put_writes_own trace x [] w = tt
put_writes_own trace x (e ∷ es) w = go (e.who.session == x) (put_writes_own trace x es w.1)
  where
    go : (b : Bool) → PutsAreWrites trace (events_of x es) → PutsAreWrites trace (cond b (e ∷ events_of x es) (events_of x es))
    go true rest = (w.0, rest)
    go false rest = rest

-- an event that is no put, or wasn't written
pub not_put : (o : Option Disk) (e : CoreEvent) → ¬ IsWritten e → IfSome o (λ d. IsWritten e → IsSomeAnd (event_at d.trace e.calls) IsOkWrite)
not_put None e none = tt
not_put (Some d) e none = λ w. absurd (none w)

told_puts : (P : Disk → List Event → Type 0) (o p : Option Disk) (es : List CoreEvent) (e : CoreEvent) → Grows o p P → IfSome o (λ d. PutsAreWrites d.trace es) → IfSome p (λ d. IsWritten e → IsSomeAnd (event_at d.trace e.calls) IsOkWrite) → IfSome p (λ d. PutsAreWrites d.trace (es ++ e ∷ []))
told_puts P None p es e grown old new = rw grown tt
told_puts P (Some d) p es e grown old new =
    in_disk (λ x. PutsAreWrites x.trace (es ++ e ∷ [])) p (disk_with d grown.0) grown.1
    (put_writes_push (d.trace ++ grown.0) es e (put_writes_more d.trace grown.0 es old)
    (on_disk (λ x. IsWritten e → IsSomeAnd (event_at x.trace e.calls) IsOkWrite) p (disk_with d grown.0) grown.1 new))

-- ---- an add that an event leaves as it was

-- its blocks and nodes are as they were, and so is what the disk has there
pub record Keeps (o o' : Owned) (s s' : Stored) (r : Digest) : Type 0 where
  pub blocks : find o'.adds r ≡ find o.adds r
  pub nodes : find o'.nodes r ≡ find o.nodes r
  pub stays : (v : Vec ℕ) → find o.adds r ≡ Some v → Grows s.told s'.told (λ d more. SameAt s.geometry d more v.items)

told_kept : (g g' : Geometry) (o p : Option Disk) (cs bs : List ℕ) → g' ≡ g → Grows o p (λ d more. SameAt g d more bs) → IfSome o (λ d. AreWrites g d cs bs) → IfSome p (λ d. AreWrites g' d cs bs)
told_kept g g' None p cs bs same grown w = rw grown tt
told_kept g g' (Some d) p cs bs same grown w = rw (grown.1, same) (writes_kept g d grown.0 cs bs grown.2 w)

front_kept : (g : Geometry) (o p : Option Disk) (bs rest : List ℕ) → Grows o p (λ d more. SameAt g d more (bs ++ rest)) → Grows o p (λ d more. SameAt g d more bs)
front_kept g o p bs rest grown = grows_so o p _ _ (λ d more same. same_front g d more bs rest same) grown

-- an admitted add is where it was, and what was put stays
pub works_on : (version : ℕ) (o o' : Owned) (s s' : Stored) (cs : List ℕ) (a : OwnAdd) → s'.geometry ≡ s.geometry → find o'.adds a.root ≡ find o.adds a.root → find o'.nodes a.root ≡ find o.nodes a.root → (w : Works version o.adds o.nodes s.geometry s.told cs a) → Grows s.told s'.told (λ d more. SameAt s.geometry d more w.done) → Works version o'.adds o'.nodes s'.geometry s'.told cs a
works_on version o o' s s' cs a same blocks nodes w grown = record {
  blocks = w.blocks;
  has = blocks ∙ w.has;
  need = w.need;
  aside = ap (λ (x : Option ℕ). is_some x) nodes ∙ w.aside;
  done = w.done;
  rest = w.rest;
  parts = w.parts;
  count = w.count;
  wrote = told_kept s.geometry s'.geometry s.told s'.told cs w.done same grown w.wrote;
}

kept_stands : (version : ℕ) (o o' : Owned) (s s' : Stored) (cs : List ℕ) (a : OwnAdd) (b : Bool) → s'.geometry ≡ s.geometry → Keeps o o' s s' a.root → Stands b version o.adds o.nodes s.geometry s.told cs a → Stands b version o'.adds o'.nodes s'.geometry s'.told cs a
kept_stands version o o' s s' cs a false same k w = record { puts = w.puts; blocks = w.blocks; has = k.blocks ∙ w.has; none = w.none; unset = k.nodes ∙ w.unset }
kept_stands version o o' s s' cs a true same k w =
    works_on version o o' s s' cs a same k.blocks k.nodes w (front_kept s.geometry s.told s'.told w.done w.rest (subst (λ (bs : List ℕ). Grows s.told s'.told (λ d more. SameAt s.geometry d more bs)) w.parts (k.stays w.blocks w.has)))

grows_none : (g : Geometry) (o : Option Disk) (bs : List ℕ) → Grows o o (λ d more. SameAt g d more bs)
grows_none g None bs = refl
grows_none g (Some d) bs = ([], ap (λ (p : List Event). Some (record { base = d.base; trace = p })) (sym (append-nil d.trace)), same_nil g d bs)

-- where nothing was written, an add with the same blocks and nodes is kept
pub keeps_unwritten : (o o' : Owned) (s : Stored) (f : ℕ) (r : Digest) → find o'.adds r ≡ find o.adds r → find o'.nodes r ≡ find o.nodes r → Keeps o o' s (record s { faults = f }) r
keeps_unwritten o o' s f r blocks nodes = record { blocks = blocks; nodes = nodes; stays = λ v has. grows_none s.geometry s.told v.items }

-- ---- one event more

in_order_more : (before es : List CoreEvent) (e : CoreEvent) → AreInOrder before es → IsInOrder (add_of (events_of e.who.session (before ++ es))) e.act e.reply → AreInOrder before (es ++ e ∷ [])
in_order_more before [] e order last = (subst (λ (xs : List CoreEvent). IsInOrder (add_of (events_of e.who.session xs)) e.act e.reply) (append-nil before) last, tt)
in_order_more before (f ∷ es) e order last =
    (order.0, in_order_more (before ++ f ∷ []) es e order.1 (subst (λ (xs : List CoreEvent). IsInOrder (add_of (events_of e.who.session xs)) e.act e.reply) (sym (append_assoc before (f ∷ []) es)) last))

add_more : (add : Option OwnAdd) (es : List CoreEvent) (e : CoreEvent) → add_from add (es ++ e ∷ []) ≡ add_after (add_from add es) e.act e.reply
add_more add [] e = refl
add_more add (f ∷ es) e = add_more (add_after add f.act f.reply) es e

puts_more : (puts : List ℕ) (es : List CoreEvent) (e : CoreEvent) → puts_from puts (es ++ e ∷ []) ≡ puts_after (puts_from puts es) e.act e.reply e.calls
puts_more puts [] e = refl
puts_more puts (f ∷ es) e = puts_more (puts_after puts f.act f.reply f.calls) es e

events_own : (x : ℕ) (es : List CoreEvent) (e : CoreEvent) → (e.who.session == x) ≡ true → events_of x (es ++ e ∷ []) ≡ events_of x es ++ e ∷ []
events_own x es e mine = filter-append (λ (f : CoreEvent). f.who.session == x) es (e ∷ []) ∙ ap (λ (b : Bool). events_of x es ++ cond b (e ∷ []) []) mine

events_other : (x : ℕ) (es : List CoreEvent) (e : CoreEvent) → (e.who.session == x) ≡ false → events_of x (es ++ e ∷ []) ≡ events_of x es
events_other x es e other = filter-append (λ (f : CoreEvent). f.who.session == x) es (e ∷ []) ∙ ap (λ (b : Bool). events_of x es ++ cond b (e ∷ []) []) other ∙ append-nil (events_of x es)

room_kept : (g g' : Geometry) (P : Disk → List Event → Type 0) (o p : Option Disk) → g' ≡ g → Grows o p P → IfSome o (λ d. (b : ℕ) → b < g.blocks → block_at g b < length d.base) → IfSome p (λ d. (b : ℕ) → b < g'.blocks → block_at g' b < length d.base)
room_kept g g' P None p same grown room = rw grown tt
room_kept g g' P (Some d) p same grown room = rw (grown.1, same) room

-- an event, by what it makes of the session's own add, where other adds are kept
module _ (h : History) (o o' : Owned) (s s' : Stored) (e : CoreEvent) (old : Ordered h o s) (geometry : s'.geometry ≡ s.geometry) (P : Disk → List Event → Type 0) (grows : Grows s.told s'.told P) where
  abbrev session : ℕ
  session = e.who.session

  abbrev mine : Option OwnAdd
  mine = own_add h session

  abbrev puts : List ℕ
  puts = puts_of (events_of session h.events)

  abbrev OwnStands : Type 0
  OwnStands = (a : OwnAdd) → add_after mine e.act e.reply ≡ Some a → Stands a.admitted h.version o'.adds o'.nodes s'.geometry s'.told (puts_after puts e.act e.reply e.calls) a

  own_stands : OwnStands → (a : OwnAdd) → own_add (with_event h e) session ≡ Some a → Stands a.admitted h.version o'.adds o'.nodes s'.geometry s'.told (puts_of (events_of session (h.events ++ e ∷ []))) a
  own_stands own a is =
      let now = events_own session h.events e (eq-eqb session session refl) in
      subst (λ (cs : List ℕ). Stands a.admitted h.version o'.adds o'.nodes s'.geometry s'.told cs a) (sym (ap puts_of now ∙ puts_more [] (events_of session h.events) e))
      (own a (sym (ap add_of now ∙ add_more None (events_of session h.events) e) ∙ is))

  by_session : OwnStands → ((x : ℕ) (a : OwnAdd) → ¬ (session ≡ x) → own_add h x ≡ Some a → Keeps o o' s s' a.root) → (x : ℕ) (a : OwnAdd) (b : Bool) → (session == x) ≡ b → own_add (with_event h e) x ≡ Some a
      → Stands a.admitted h.version o'.adds o'.nodes s'.geometry s'.told (puts_of (events_of x (h.events ++ e ∷ []))) a
  by_session own others x a true same is =
      subst (λ (y : ℕ). own_add (with_event h e) y ≡ Some a → Stands a.admitted h.version o'.adds o'.nodes s'.geometry s'.told (puts_of (events_of y (h.events ++ e ∷ []))) a) (eqb-true session x same) (own_stands own a) is
  by_session own others x a false other is =
      let same = events_other x h.events e other in
      let was : own_add h x ≡ Some a = sym (ap add_of same) ∙ is in
      subst (λ (es : List CoreEvent). Stands a.admitted h.version o'.adds o'.nodes s'.geometry s'.told (puts_of es) a) (sym same)
      (kept_stands h.version o o' s s' (puts_of (events_of x h.events)) a a.admitted geometry (others x a (eqb-false session x other) was) (old.each x a was))

  pub ordered_after : IsInOrder mine e.act e.reply → Located (with_event h e) s'.geometry s'.began s'.told s'.placed → KeepsContents (with_event h e) s'.geometry s'.told s'.placed → IfSome s'.told (λ d. IsWritten e → IsSomeAnd (event_at d.trace e.calls) IsOkWrite) → OwnStands → ((x : ℕ) (a : OwnAdd) → ¬ (session ≡ x) → own_add h x ≡ Some a → Keeps o o' s s' a.root) → Ordered (with_event h e) o' s'
  ordered_after order located contents put own others = record {
    order = in_order_more [] h.events e old.order order;
    each = λ x a is. by_session own others x a (session == x) refl is;
    room = room_kept s.geometry s'.geometry P s.told s'.told geometry grows old.room;
    puts = told_puts P s.told s'.told h.events e grows old.puts put;
    located = located;
    contents = contents;
  }

  -- an event that leaves the session's add as it is too
  pub ordered_idle : IsInOrder mine e.act e.reply → Located (with_event h e) s'.geometry s'.began s'.told s'.placed → KeepsContents (with_event h e) s'.geometry s'.told s'.placed → ¬ IsWritten e → add_after mine e.act e.reply ≡ mine → puts_after puts e.act e.reply e.calls ≡ puts → ((r : Digest) → Keeps o o' s s' r) → Ordered (with_event h e) o' s'
  ordered_idle order located contents none same_add same_puts keeps =
      ordered_after order located contents (not_put s'.told e none)
      (λ a is. let was : mine ≡ Some a = sym same_add ∙ is in
      subst (λ (cs : List ℕ). Stands a.admitted h.version o'.adds o'.nodes s'.geometry s'.told cs a) (sym same_puts)
      (kept_stands h.version o o' s s' puts a a.admitted geometry (keeps a.root) (old.each session a was)))
      (λ x a other is. keeps a.root)

-- nothing was written
pub grows_by_none : (o : Option Disk) → Grows o o (λ d more. Unit {0})
grows_by_none None = refl
grows_by_none (Some d) = ([], ap (λ (p : List Event). Some (record { base = d.base; trace = p })) (sym (append-nil d.trace)), tt)
