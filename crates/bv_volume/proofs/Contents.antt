-- What the blobs of the map hold: what an event makes of it.
use Rattle.std.proofs.Common.{◌≡◌, ℕ, ◌&&◌, ◌∷◌, ◌++◌, [], Bool, true, false, cond, List, map, filter, Option, None, Some, IfSome, refl, ap, sym, ◌∙◌, subst, if◌then◌else◌}
use Rattle.std.specs.BTreeMap.{insert_entry}
use Rattle.std.proofs.lemmas.List.{append-nil}
use Rattle.std.proofs.lemmas.List.Elements.{filter-append}
use Rattle.spec_disk.specs.Disk.{block, now_after}
use Rattle.spec_disk.specs.declared.event.Event.{Event}
use Rattle.spec_record.specs.Geometry.{block_at}
use Rattle.spec_record.specs.declared.geometry.Geometry.{Geometry}
use Rattle.spec_tree.specs.Order.{digest_cmp, same_digest}
use Rattle.spec_tree.specs.declared.Digest.{Digest}
use Rattle.spec_core.proofs.EntryLemmas.{lookup-insert_entry}
use Rattle.spec_core.proofs.Holding.{digest_total}
use Rattle.spec_core.specs.History.{History, with_event}
use Rattle.spec_core.specs.State.{find}
use Rattle.spec_core.specs.declared.act.Act.TheVariants as acts
use Rattle.spec_core.specs.declared.event.CoreEvent.{CoreEvent}
use Rattle.spec_core.specs.declared.reply.Reply.TheVariants as replies
use Rattle.spec_core.specs.declared.who.Who.{Who}
use Rattle.spec_crash.specs.Timing.{event_at}
use Rattle.spec_session.specs.Conform.{events_of}
use Rattle.spec_session.specs.Told.{same_who}
use Rattle.spec_served.specs.Adds.{IsByLine, line_puts, puts_of, was_published}
use Rattle.spec_served.specs.Places.{publisher, was_written}
use Rattle.bv_device.specs.Told.{Disk, disk_with}
use Rattle.bv_model.specs.Sole.{Sole}
use Rattle.bv_ledger.specs.Answers.{device_reply}
use Rattle.bv_store.specs.Stored.{Stored, Grows, SameData, placed_without}
use Rattle.bv_volume.specs.Contents.{HoldsIts, KeepsContents, bytes_of, contents_at, put_contents}
use Rattle.bv_volume.specs.Events.{event_of}
use Rattle.bv_volume.specs.Sessions.{AreWrites, PutsAreWrites}
use Rattle.bv_volume.proofs.Located.{and_false, apart_of, both_true, by_line_last, line_own, placed_sub, publisher_push, unpublished, write_more, written_is}
use Rattle.bv_volume.proofs.Sessions.{SameAt, same_all, writes_bytes}
use Rattle.bv_volume.proofs.Syncs.{in_disk}

abbrev pub KeepsIn : History → Stored → Type 0
KeepsIn h s = KeepsContents h s.geometry s.told s.placed

-- ---- what puts wrote

-- it stays as the device goes on
contents_more : (trace more : List Event) (es : List CoreEvent) (w : Who) → PutsAreWrites trace es → put_contents (trace ++ more) es w ≡ put_contents trace es w
contents_more trace more [] w p = refl
contents_more trace more (e ∷ es) w p = go (same_who e.who w && was_written e.act e.reply) refl (contents_more trace more es w p.1)
  where
    go : (b : Bool) → (same_who e.who w && was_written e.act e.reply) ≡ b → put_contents (trace ++ more) es w ≡ put_contents trace es w
        → map (λ f. bytes_of (event_at (trace ++ more) f.calls)) (cond b (e ∷ filter (λ f. same_who f.who w && was_written f.act f.reply) es) (filter (λ f. same_who f.who w && was_written f.act f.reply) es))
        ≡ map (λ f. bytes_of (event_at trace f.calls)) (cond b (e ∷ filter (λ f. same_who f.who w && was_written f.act f.reply) es) (filter (λ f. same_who f.who w && was_written f.act f.reply) es))
    go true is rest =
        let wrote = p.0 (written_is e.act e.reply e.who e.calls (both_true (same_who e.who w) (was_written e.act e.reply) is).1) in
        ap (λ (o : Option Event). bytes_of o ∷ put_contents (trace ++ more) es w) (write_more trace more e.calls (event_at trace e.calls) refl wrote)
        ∙ ap (λ (xs : List (List ℕ)). bytes_of (event_at trace e.calls) ∷ xs) rest
    go false is rest = rest

contents_push : (trace : List Event) (es : List CoreEvent) (e : CoreEvent) (w : Who) → (same_who e.who w && was_written e.act e.reply) ≡ false → put_contents trace (es ++ e ∷ []) w ≡ put_contents trace es w
contents_push trace es e w none =
    ap (λ (xs : List CoreEvent). map (λ f. bytes_of (event_at trace f.calls)) xs)
    (filter-append (λ f. same_who f.who w && was_written f.act f.reply) es (e ∷ [])
    ∙ ap (λ (b : Bool). filter (λ f. same_who f.who w && was_written f.act f.reply) es ++ cond b (e ∷ []) []) none
    ∙ append-nil (filter (λ f. same_who f.who w && was_written f.act f.reply) es))

map_calls : (f : ℕ → List ℕ) (es : List CoreEvent) → map (λ e. f e.calls) es ≡ map f (map (λ e. e.calls) es)
map_calls f [] = refl
map_calls f (e ∷ es) = ap (λ (xs : List (List ℕ)). f e.calls ∷ xs) (map_calls f es)

line_contents : (trace : List Event) (es : List CoreEvent) (w : Who) (cs : List ℕ) → line_puts w es ≡ cs → put_contents trace es w ≡ map (λ c. bytes_of (event_at trace c)) cs
line_contents trace es w cs is = map_calls (λ c. bytes_of (event_at trace c)) (filter (λ e. same_who e.who w && was_written e.act e.reply) es) ∙ ap (λ (xs : List ℕ). map (λ c. bytes_of (event_at trace c)) xs) is

-- ---- what the disk has

same_contents : (g : Geometry) (d : Disk) (more : List Event) (places : List ℕ) → SameAt g d more places → contents_at g (disk_with d more) places ≡ contents_at g d places
same_contents g d more [] same = refl
same_contents g d more (b ∷ places) same = λ i. same.0 i ∷ same_contents g d more places same.1 i

-- ---- one event more

-- an event leaves what a blob holds
holds_on : (h : History) (e : CoreEvent) (g g' : Geometry) (d : Disk) (more : List Event) (places : List ℕ) (o : Option Who) → g' ≡ g → PutsAreWrites d.trace h.events → SameAt g d more places
    → ((w : Who) → o ≡ Some w → (same_who e.who w && was_written e.act e.reply) ≡ false) → HoldsIts g d h places o → HoldsIts g' (disk_with d more) (with_event h e) places o
holds_on h e g g' d more places None geometry wrote same apart old =
    ap (λ (k : Geometry). contents_at k (disk_with d more) places) geometry ∙ same_contents g d more places same ∙ old
    ∙ ap (λ (k : Geometry). map (λ b. block d.base (block_at k b)) places) (sym geometry)
holds_on h e g g' d more places (Some w) geometry wrote same apart old =
    ap (λ (k : Geometry). contents_at k (disk_with d more) places) geometry ∙ same_contents g d more places same ∙ old
    ∙ sym (contents_push (d.trace ++ more) h.events e w (apart w refl) ∙ contents_more d.trace more h.events w wrote)

module _ (h : History) (s s' : Stored) (e : CoreEvent) (P : Disk → List Event → Type 0) (geometry : s'.geometry ≡ s.geometry) where
  abbrev Hold : Stored → History → Disk → Type 0
  Hold x k d = (r : Digest) (places : List ℕ) → find x.placed r ≡ Some places → HoldsIts x.geometry d k places (publisher r None k.events)

  -- by what becomes of each root's blob
  abbrev Goes : Disk → List Event → Type 0
  Goes d more = (r : Digest) (places : List ℕ) → find s'.placed r ≡ Some places → HoldsIts s'.geometry (disk_with d more) (with_event h e) places (publisher r None (h.events ++ e ∷ []))

  hold_on : (o p : Option Disk) → Grows o p P → IfSome o (λ d. (more : List Event) → P d more → Goes d more) → IfSome p (Hold s' (with_event h e))
  hold_on None p grown goes = rw grown tt
  hold_on (Some d) p grown goes = in_disk (Hold s' (with_event h e)) p (disk_with d grown.0) grown.1 (goes grown.0 grown.2)

  -- what was there is held as before, where the publisher stays
  old_goes : (d : Disk) (more : List Event) (r : Digest) (places : List ℕ) → PutsAreWrites d.trace h.events → IsByLine h.events e.who e.act e.reply → Hold s h d → publisher r None (h.events ++ e ∷ []) ≡ publisher r None h.events → find s.placed r ≡ Some places
      → SameAt s.geometry d more places → HoldsIts s'.geometry (disk_with d more) (with_event h e) places (publisher r None (h.events ++ e ∷ []))
  old_goes d more r places wrote line old same there stays =
      subst (λ (o : Option Who). HoldsIts s'.geometry (disk_with d more) (with_event h e) places o) (sym same)
      (holds_on h e s.geometry s'.geometry d more places (publisher r None h.events) geometry wrote stays (apart_of h.events e.who e.act e.reply line r) (old r places there))

both_told : (Q R T : Disk → Type 0) (o : Option Disk) → ((d : Disk) → Q d → R d → T d) → IfSome o Q → IfSome o R → IfSome o T
both_told Q R T None f q r = tt
both_told Q R T (Some d) f q r = f d q r

-- an event that publishes nothing, and leaves the data of all blobs
pub keeps_quiet : (h : History) (s s' : Stored) (e : CoreEvent) (P : Disk → List Event → Type 0) → s'.geometry ≡ s.geometry → Grows s.told s'.told P → IfSome s.told (λ d. PutsAreWrites d.trace h.events) → was_published e.act e.reply ≡ false
    → ((r : Digest) (places : List ℕ) → find s'.placed r ≡ Some places → find s.placed r ≡ Some places)
    → ((d : Disk) (more : List Event) → P d more → (r : Digest) (places : List ℕ) → find s.placed r ≡ Some places → SameAt s.geometry d more places) → KeepsIn h s → KeepsIn (with_event h e) s'
keeps_quiet h s s' e P geometry grown puts none less stays old all =
    let last = by_line_last [] h.events e all in
    hold_on h s s' e P geometry s.told s'.told grown
    (both_told (λ d. PutsAreWrites d.trace h.events) (Hold h s s' e P geometry s h) (λ d. (more : List Event) → P d more → Goes h s s' e P geometry d more) s.told
    (λ d wrote holds more p r places there.
    let was = less r places there in
    old_goes h s s' e P geometry d more r places wrote last.1 holds (publisher_push r None h.events e ∙ unpublished r (publisher r None h.events) e.who e.act e.reply none) was (stays d more p r places was))
    puts (old last.0))

-- a publication, by the line whose puts the add has
pub keeps_settled : (h : History) (s s' : Stored) (who : Who) (root : Digest) (calls : ℕ) (mine : List ℕ) (less : List (Digest × List ℕ)) → s'.geometry ≡ s.geometry → Grows s.told s'.told (λ d more. SameData s.geometry d more) → IfSome s.told (λ d. PutsAreWrites d.trace h.events)
    → s'.placed ≡ insert_entry digest_cmp less root mine → ((r : Digest) (places : List ℕ) → find less r ≡ Some places → find s.placed r ≡ Some places)
    → IfSome s.told (λ d. AreWrites s.geometry d (puts_of (events_of who.session h.events)) mine)
    → KeepsIn h s → KeepsIn (with_event h (event_of who (acts.Settle root) replies.Published calls)) s'
keeps_settled h s s' who root calls mine less geometry grown puts placed sub wrote old all =
    let last = by_line_last [] h.events e all in
    hold_on h s s' e P geometry s.told s'.told grown
    (both_told (λ d. PutsAreWrites d.trace h.events × AreWrites s.geometry d own mine) (Hold h s s' e P geometry s h) (λ d. (more : List Event) → P d more → Goes h s s' e P geometry d more) s.told
    (λ d w holds more p r places there.
    from d more w.0 w.1 last.1 holds p r places (same_digest r root) refl (sym (lookup-insert_entry digest_total less root mine r) ∙ ap (λ (es : List (Digest × List ℕ)). find es r) (sym placed) ∙ there))
    (both_told (λ d. PutsAreWrites d.trace h.events) (λ d. AreWrites s.geometry d own mine) (λ d. PutsAreWrites d.trace h.events × AreWrites s.geometry d own mine) s.told (λ d a b. (a, b)) puts wrote) (old last.0))
  where
    e : CoreEvent
    e = event_of who (acts.Settle root) replies.Published calls

    P : Disk → List Event → Type 0
    P d more = SameData s.geometry d more

    own : List ℕ
    own = puts_of (events_of who.session h.events)

    next : (r : Digest) (b : Bool) → same_digest r root ≡ b → publisher r None (h.events ++ e ∷ []) ≡ (if b then Some who else publisher r None h.events)
    next r b is = publisher_push r None h.events e ∙ ap (λ (c : Bool). if c then Some who else publisher r None h.events) is

    from : (d : Disk) (more : List Event) → PutsAreWrites d.trace h.events → AreWrites s.geometry d own mine → IsByLine h.events who (acts.Settle root) replies.Published → Hold h s s' e P geometry s h d → SameData s.geometry d more
        → (r : Digest) (places : List ℕ) (b : Bool) → same_digest r root ≡ b → cond b (Some mine) (find less r) ≡ Some places → HoldsIts s'.geometry (disk_with d more) (with_event h e) places (publisher r None (h.events ++ e ∷ []))
    from d more wrote w line holds p r places true is there =
        let same : mine ≡ places = cc in
        let was : contents_at s.geometry d mine ≡ put_contents d.trace h.events who =
        sym (line_contents d.trace h.events who own (sym (line_own who h.events) ∙ line) ∙ writes_bytes s.geometry d own mine w) in
        subst (λ (o : Option Who). HoldsIts s'.geometry (disk_with d more) (with_event h e) places o) (sym (next r true is))
        (ap (λ (k : Geometry). contents_at k (disk_with d more) places) geometry ∙ same_contents s.geometry d more places (same_all s.geometry d more places p)
        ∙ ap (contents_at s.geometry d) (sym same) ∙ was
        ∙ sym (contents_push (d.trace ++ more) h.events e who (and_false (same_who who who) false refl) ∙ contents_more d.trace more h.events who wrote))
    from d more wrote w line holds p r places false is there =
        old_goes h s s' e P geometry d more r places wrote line holds (next r false is) (sub r places there) (same_all s.geometry d more places p)

-- a settle whose entry was written, or failed
pub keeps_publish : (h : History) (s s' : Stored) (who : Who) (root : Digest) (calls : ℕ) (failed : Option ℕ) (mine : List ℕ) (queue : List Digest) → s'.geometry ≡ s.geometry → Grows s.told s'.told (λ d more. SameData s.geometry d more) → IfSome s.told (λ d. PutsAreWrites d.trace h.events) → Sole s.placed
    → (failed ≡ None → s'.placed ≡ insert_entry digest_cmp (placed_without s.placed queue) root mine) → ((f : ℕ) → failed ≡ Some f → s'.placed ≡ s.placed) → IfSome s.told (λ d. AreWrites s.geometry d (puts_of (events_of who.session h.events)) mine)
    → KeepsIn h s → KeepsIn (with_event h (event_of who (acts.Settle root) (device_reply replies.Published failed) calls)) s'
keeps_publish h s s' who root calls None mine queue geometry stays puts sole placed kept wrote old =
    keeps_settled h s s' who root calls mine (placed_without s.placed queue) geometry stays puts (placed refl) (placed_sub s.placed queue sole) wrote old
keeps_publish h s s' who root calls (Some f) mine queue geometry stays puts sole placed kept wrote old =
    keeps_quiet h s s' (event_of who (acts.Settle root) (replies.DeviceFault f) calls) (λ d more. SameData s.geometry d more) geometry stays puts refl
    (λ r places there. ap (λ (es : List (Digest × List ℕ)). find es r) (sym (kept f refl)) ∙ there)
    (λ d more same r places there. same_all s.geometry d more places same) old

-- nothing was written
unmoved : (g : Geometry) (o : Option Disk) → Grows o o (λ d more. SameData g d more)
unmoved g None = refl
unmoved g (Some d) = ([], ap (λ (p : List Event). Some (record { base = d.base; trace = p })) (sym (append-nil d.trace)), λ b. ap (λ (p : List Event). block (now_after d.base p) (block_at g b)) (append-nil d.trace))

pub keeps_silent : (h : History) (s : Stored) (e : CoreEvent) → IfSome s.told (λ d. PutsAreWrites d.trace h.events) → was_published e.act e.reply ≡ false → KeepsIn h s → KeepsIn (with_event h e) s
keeps_silent h s e puts none old =
    keeps_quiet h s s e (λ d more. SameData s.geometry d more) refl (unmoved s.geometry s.told) puts none (λ r places there. there) (λ d more same r places there. same_all s.geometry d more places same) old
