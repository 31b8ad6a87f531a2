-- What the readers of a session's slots know, while its share gains entries.
use Rattle.std.proofs.Common.{◌≡◌, ℕ, List, [], ◌∷◌, ◌++◌, map, refl, sym, ap, ◌∙◌, subst, inl, inr}
use Rattle.std.specs.Prelude.{Option, Some, None, Result, Ok, Err, OnOk, IfSome, replicate}
use Rattle.std.proofs.lemmas.Bool.{cases_eq}
use Rattle.spec_core.specs.declared.act.Act.{Act}
use Rattle.spec_core.specs.declared.act.Act.TheVariants.{Begin, Open, Fetch, Put, Read, Scan, Close}
use Rattle.spec_core.specs.declared.event.CoreEvent.{CoreEvent}
use Rattle.spec_core.specs.declared.reply.Reply.{Reply}
use Rattle.spec_core.specs.declared.reply.Reply.TheVariants.{Written}
use Rattle.spec_core.specs.declared.who.Who.{Who}
use Rattle.spec_tree.specs.declared.Digest.{Digest}
use Rattle.spec_tree.specs.Tree.{need_of}
use Rattle.std.specs.List.{range_with_len}
use Rattle.spec_session.specs.Lines.{AddCut, AddMoves, CutMoves, LineMoves, Move, OpenMoves, RangeMoves, Windows, fetches, puts}
use Rattle.bv_pager.specs.Reading.{Reading}
use Rattle.bv_turn.specs.declared.keeps.Keeps.{Ghosts}
use Rattle.bv_turn.specs.declared.turn.Share.{Share}
use Rattle.bv_turn.specs.declared.turn.Turn.{Turn}
use Rattle.bv_turn.specs.Tokens.{list_of}
use Rattle.bv_session.specs.declared.entry.Basis.{Basis}
use Rattle.bv_session.specs.declared.entry.Entry.{Entry}
use Rattle.bv_session.specs.Pages.{Closes, GrowsOpen, IsKept, ReaderKnows, SameBut, SlotKnows, SlotsKnow, reader_at}
use Rattle.bv_session.specs.Sessions.{Allowed, Ends, Gains, LineAnswer, Since, Stays, own}
use Rattle.bv_session.proofs.PageLemmas.{NoCloses, grows_one, grows_open, replicated, slot_grows, slot_kept}

-- ---- moves that close no slot

NoCloses-append : (slot : ℕ) (xs ys : List Move) → NoCloses slot xs → NoCloses slot ys → NoCloses slot (xs ++ ys)
NoCloses-append slot [] ys x y = y
NoCloses-append slot (m ∷ xs) ys x y = (x.0, NoCloses-append slot xs ys x.1 y)

NoCloses-front : (slot : ℕ) (xs ys : List Move) → NoCloses slot (xs ++ ys) → NoCloses slot xs
NoCloses-front slot [] ys h = tt
NoCloses-front slot (m ∷ xs) ys h = (h.0, NoCloses-front slot xs ys h.1)

none : ¬ ⊥
none x = x

put_all_open : (slot : ℕ) (is : List ℕ) → NoCloses slot (map (λ i. (Put i, Written)) is)
put_all_open slot [] = tt
put_all_open slot (i ∷ is) = (none, put_all_open slot is)

pub fetches_open : (slot s : ℕ) (ws : List ℕ) → NoCloses slot (fetches s ws)
fetches_open slot s [] = tt
fetches_open slot s (w ∷ ws) = (none, fetches_open slot s ws)

pub failed_open : (slot s w : ℕ) (q : Reply) (ws : List ℕ) → NoCloses slot (fetches s ws ++ (Fetch s w, q) ∷ [])
failed_open slot s w q ws = NoCloses-append slot (fetches s ws) ((Fetch s w, q) ∷ []) (fetches_open slot s ws) (none, tt)

module _ (slot version : ℕ) (r : Digest) (n : ℕ) (ms : List Move) where
  by : (xs : List Move) → ms ≡ xs → NoCloses slot xs → NoCloses slot ms
  by xs is = subst (NoCloses slot) (sym is)

  add_open : AddMoves version r n ms → NoCloses slot ms
  add_open (inl a) = by _ a.2 (none, tt)
  add_open (inr (inl a)) = by _ a.2 (none, (none, tt))
  add_open (inr (inr (inl a))) = by _ a.4 (none, (none, NoCloses-append slot (puts a.0) _ (put_all_open slot (range_with_len 0 a.0)) (none, (none, tt))))
  add_open (inr (inr (inr a))) = by _ a.1 (none, (none, NoCloses-append slot (puts (need_of version n)) _ (put_all_open slot (range_with_len 0 (need_of version n))) (none, tt)))

  add_cut_open : AddCut version r n ms → NoCloses slot ms
  add_cut_open (inl a) = by _ a tt
  add_cut_open (inr (inl a)) = by _ a (none, (none, tt))
  add_cut_open (inr (inr a)) = by _ a.2 (none, (none, NoCloses-append slot (puts a.0) _ (put_all_open slot (range_with_len 0 a.0)) (none, tt)))

  open_open : (s : ℕ) → ¬ (s ≡ slot) → OpenMoves s r ms → NoCloses slot ms
  open_open s other (inl a) = by _ a.2 (none, tt)
  open_open s other (inr (inl (m, inl a))) = by _ a (none, tt)
  open_open s other (inr (inl (m, inr a))) = by _ a (none, (none, tt))
  open_open s other (inr (inr a)) = by _ a.3 (none, (none, (other, tt)))

range_open : (slot s : ℕ) (act : Act) (range : Windows) (ms : List Move) → ¬ (Closes slot act) → RangeMoves act s range ms → NoCloses slot ms
range_open slot s act range ms apart (inl a) = subst (NoCloses slot) (sym a.2) (apart, tt)
range_open slot s act range ms apart (inr (inl a)) = subst (NoCloses slot) (sym a.2) (apart, fetches_open slot s a.0)
range_open slot s act range ms apart (inr (inr a)) = subst (NoCloses slot) (sym a.5) (apart, failed_open slot s a.1 a.2 a.0)

-- the act is an open of this slot, or its close
abbrev pub Touches : ℕ → Act → Type 0
Touches slot (Open s r) = s ≡ slot
Touches slot (Close s) = s ≡ slot
Touches slot act = ⊥

-- the act of a line is what it computes to
pub touches_as : (slot : ℕ) (act own_one : Act) → own_one ≡ act → ¬ (Touches slot act) → ¬ (Touches slot own_one)
touches_as slot act own_one is = subst (λ (a : Act). ¬ (Touches slot a)) (sym is)

line_open : (slot version : ℕ) (before : List CoreEvent) (act : Act) (ms : List Move) → ¬ (Touches slot act) → LineMoves version before act ms → NoCloses slot ms
line_open slot version before (Begin r n) ms apart m = add_open slot version r n ms m
line_open slot version before (Open s r) ms apart m = open_open slot version r 0 ms s apart m
line_open slot version before (Read s off len) ms apart m = range_open slot s (Read s off len) _ ms none m
line_open slot version before (Scan s) ms apart m = range_open slot s (Scan s) _ ms none m
line_open slot version before act ms apart m = subst (NoCloses slot) (sym m.1) (apart, tt)

cut_open : (slot version : ℕ) (before : List CoreEvent) (act : Act) (ms : List Move) → ¬ (Touches slot act) → CutMoves version before act ms → NoCloses slot ms
cut_open slot version before (Begin r n) ms apart m = add_cut_open slot version r n ms m
cut_open slot version before act ms apart m = NoCloses-front slot ms m.0 (line_open slot version before act (ms ++ m.0) apart m.1)

allowed_open : (slot version : ℕ) (before : List CoreEvent) (act : Act) (answer : LineAnswer) (ms : List Move) → ¬ (Touches slot act) → Allowed version before act answer ms → NoCloses slot ms
allowed_open slot version before act (Ok r) ms apart a = line_open slot version before act ms apart a.0
allowed_open slot version before act (Err e) ms apart a = cut_open slot version before act ms apart a

-- ---- readers of a share

module _ {T : Type 0} {k : Ghosts T Entry Basis} (t : Turn T Entry Basis) (old new : Share T Entry Basis k) (stays : Stays t old new) where
  -- the entries of one event
  pub share_one : (slot : ℕ) (who : Who) (act : Act) (q : Reply) → Gains who act q (own old) (own new) → ¬ (Closes slot act) → GrowsOpen slot (list_of old) (list_of new)
  share_one slot who act q gain apart = grows_one slot who act q (list_of old) (list_of new) stays.grows gain apart

  pub share_moves : (slot : ℕ) (who : Who) (ms : List Move) → Since who ms (own old) (own new) → NoCloses slot ms → GrowsOpen slot (list_of old) (list_of new)
  share_moves slot who ms since apart = grows_open slot who ms (list_of old) (list_of new) stays.grows since apart

  pub reader_stays : (slot : ℕ) (r : Reading) → GrowsOpen slot (list_of old) (list_of new) → ReaderKnows slot old r → ReaderKnows slot new r
  reader_stays slot r grows knows b has = slot_grows b slot r (list_of old) (list_of new) grows (knows b (sym stays.basis ∙ has))

  pub slot_stays : (slot : ℕ) (readers more : List (Option Reading)) → GrowsOpen slot (list_of old) (list_of new) → reader_at more slot ≡ reader_at readers slot → SlotKnows slot old readers → SlotKnows slot new more
  slot_stays slot readers more grows same knows r at = reader_stays slot r grows (knows r (sym same ∙ at))

  module _ (version : ℕ) (who : Who) (act : Act) (answer : LineAnswer) (ends : Ends version who act answer (own old) (own new)) where
    line_grows : (slot : ℕ) → ¬ (Touches slot act) → GrowsOpen slot (list_of old) (list_of new)
    line_grows slot apart = share_moves slot who ends.moves ends.since (allowed_open slot version (own old) act answer ends.moves apart ends.allowed)

    -- a line of no slot
    pub slots_kept : (readers : List (Option Reading)) → ((slot : ℕ) → ¬ (Touches slot act)) → SlotsKnow old readers → SlotsKnow new readers
    slots_kept readers apart knows slot = slot_stays slot readers readers (line_grows slot (apart slot)) refl (knows slot)

    -- a line of this slot
    pub slots_but : (slot : ℕ) (readers more : List (Option Reading)) → ((s : ℕ) → ¬ (s ≡ slot) → ¬ (Touches s act)) → SameBut slot readers more → SlotKnows slot new more → SlotsKnow old readers → SlotsKnow new more
    slots_but slot readers more apart others here knows s = elim (cases_eq s slot) [
      | inl same ↦ subst (λ (n : ℕ). SlotKnows n new more) (sym same) here
      | inr other ↦ slot_stays s readers more (line_grows s (apart s other)) (others s other) (knows s)
    ]

-- a slot that has no reader
pub slot_none : {T : Type 0} {k : Ghosts T Entry Basis} (s : Share T Entry Basis k) (slot : ℕ) (readers : List (Option Reading)) → reader_at readers slot ≡ None → SlotKnows slot s readers
slot_none s slot readers empty r at = absurd (cc)

-- a slot that has this one
pub slot_some : {T : Type 0} {k : Ghosts T Entry Basis} (s : Share T Entry Basis k) (slot : ℕ) (readers : List (Option Reading)) (r : Reading) → reader_at readers slot ≡ Some r → ReaderKnows slot s r → SlotKnows slot s readers
slot_some s slot readers r here knows x at = let same : r ≡ x = cc in subst (λ (y : Reading). ReaderKnows slot s y) same knows

-- a reader that knows a page only where it is the slot's
pub reader_kept : {T : Type 0} {k : Ghosts T Entry Basis} (s : Share T Entry Basis k) (slot : ℕ) (readers : List (Option Reading)) (r : Reading) → IsKept (reader_at readers slot) r → SlotKnows slot s readers → ReaderKnows slot s r
reader_kept s slot readers r kept knows b has = slot_kept b slot (reader_at readers slot) r (list_of s) kept (λ x at. knows x at b has)

pub ok_then : {A E : Type 0} {P Q : Type 0} (result : Result A E) → (P → Q) → OnOk result P → OnOk result Q
ok_then (Ok a) f p = f p
ok_then (Err e) f p = p

pub ok_any : {A E : Type 0} {P : Type 0} (result : Result A E) → P → OnOk result P
ok_any (Ok a) p = p
ok_any (Err e) p = tt

-- a reader that was taken out of its slot
pub taken_knows : {T : Type 0} {k : Ghosts T Entry Basis} (s : Share T Entry Basis k) (slot : ℕ) (readers : List (Option Reading)) (there : Option Reading) → there ≡ reader_at readers slot → SlotKnows slot s readers → IfSome there (λ r. ReaderKnows slot s r)
taken_knows s slot readers None is knows = tt
taken_knows s slot readers (Some r) is knows = knows r (sym is)

-- slots with no reader
pub none_know : {T : Type 0} {k : Ghosts T Entry Basis} (s : Share T Entry Basis k) (readers : List (Option Reading)) → readers ≡ replicate 64 None → SlotsKnow s readers
none_know s readers none slot = slot_none s slot readers (ap (λ (xs : List (Option Reading)). reader_at xs slot) none ∙ replicated Reading 64 slot)

-- readers of other slots, after two changes
pub same_join : (slot : ℕ) (a b c : List (Option Reading)) → SameBut slot a b → SameBut slot b c → SameBut slot a c
same_join slot a b c p q t other = q t other ∙ p t other

pub same_all : (slot : ℕ) (a : List (Option Reading)) → SameBut slot a a
same_all slot a t other = refl
