-- A torn add is no chance: the entry that was being written is accepted whole or not at all.
use Rattle.std.proofs.Common.{◌≡◌, ℕ, zero, suc, ◌+◌, ◌-◌, ◌%◌, ◌<◌, ◌≤◌, ◌⊎◌, List, [], ◌∷◌, ◌++◌, length, take, drop, get_or, set, true, false, eqb, leb, Option, Some, None, refl, ap, sym, ◌∙◌, subst, inl, inr, arith}
use Rattle.std.proofs.lemmas.Bool.{cases_lt}
use Rattle.std.proofs.lemmas.List.{length-set}
use Rattle.std.proofs.lemmas.List.Elements.{Contains-append_cases, Contains-push_cases}
use Rattle.std.proofs.Math.Nat.{mod-lt, mod-add-mod}
use Rattle.std.specs.Prelude.{IsSomeAnd, Contains}
use Rattle.spec_disk.specs.declared.event.Event.{Event}
use Rattle.spec_disk.specs.declared.event.Event.TheVariants.{Write, Sync}
use Rattle.spec_disk.specs.Disk.{block, now_after, last_after, synced_part, synced_after}
use Rattle.spec_record.specs.declared.geometry.Geometry.{Geometry}
use Rattle.spec_record.specs.declared.superblock.Super.{Super}
use Rattle.spec_record.specs.declared.info.Info.{Info}
use Rattle.spec_record.specs.Geometry.{meta_blocks, ring_slots, slot_at, ring_in, total_blocks}
use Rattle.spec_record.specs.Field.{field}
use Rattle.spec_record.specs.Superblock.{super_in, super_tests, super_or_fault, super_of}
use Rattle.spec_record.specs.Info.{info_of}
use Rattle.spec_record.specs.Places.{begins_with_magic, block_in}
use Rattle.spec_record.specs.Entry.{Entry, is_commit, entry_of}
use Rattle.spec_record.specs.EntryBlocks.{entry_slots, ring_from, entry_at}
use Rattle.spec_record.proofs.TestLemmas.{value_passed, some_ok, both_true, at_most}
use Rattle.spec_image.specs.Journal.{Journal, journal_of, slot_past}
use Rattle.spec_image.specs.Replay.{slots_of_all, StandFrom, onto, entries_from, replay_at, replay, next_slot, next_number}
use Rattle.spec_image.specs.Volume.{image_super, HasGeometry}
use Rattle.spec_image.specs.Chance.{placed_from, placed_at, Accepts, SameSlots, NoChance}
use Rattle.spec_image.specs.Torn.{bears, slot_block, IsUnfinished, IsFinished, TornAdd}
use Rattle.spec_image.proofs.ReplayLemmas.{slots_more, slot_after, entries_stand, entries_go_on, few_entries}
use Rattle.spec_image.proofs.VolumeLemmas.{some_and}
use Rattle.spec_image.proofs.SameLemmas.{length-whole_ring, ring_slot}
use Rattle.spec_image.proofs.EntryLemmas.{entry_read, read_slots, entry_local, length-ring_from, ring_from_get, count_of, commit_test}

-- ---- lengths

length-last : (base : List (List ℕ)) (p : List Event) → length (last_after base p) ≡ length base
length-last base [] = refl
length-last base (Write at bytes ok ∷ p) = length-last (set base at bytes) p ∙ length-set base at bytes
length-last base (Sync ok ∷ p) = length-last base p

length-now : (base : List (List ℕ)) (p : List Event) → length (now_after base p) ≡ length base
length-now base [] = refl
length-now base (Write at bytes true ∷ p) = length-now (set base at bytes) p ∙ length-set base at bytes
length-now base (Write at bytes false ∷ p) = length-now base p
length-now base (Sync ok ∷ p) = length-now base p

super_long : (bytes : List ℕ) (n : ℕ) (s : Super) → super_of bytes n ≡ Some s → total_blocks s.geometry ≤ n
unfolding super_or_fault
super_long bytes n s is =
    let r = value_passed (super_tests bytes n) (super_in bytes) s (some_ok _ s is) in
    let fits : total_blocks (super_in bytes).geometry ≤ n = at_most (total_blocks (super_in bytes).geometry) n r.0.1.1.1.1.1.1.1.1.1.1.1.1.0 in
    subst (λ (x : Super). total_blocks x.geometry ≤ n) r.1 fits

pub to_some : {A B : Type 0} (o : Option A) (f : A → B) (b : B) (Q : B → Type 0) → IsSomeAnd o (λ x. f x ≡ b) → Q b → IsSomeAnd o (λ x. Q (f x))
to_some (Some x) f b Q e q = subst Q (sym e) q
to_some None f b Q e q = absurd e

pub from_some : {A B : Type 0} (o : Option A) (f : A → B) (b : B) (Q : B → Type 0) → IsSomeAnd o (λ x. f x ≡ b) → IsSomeAnd o (λ x. Q (f x)) → Q b
from_some (Some x) f b Q e q = subst Q e q
from_some None f b Q e q = absurd e

-- a ring is whole
abbrev pub HasRing : Geometry → List (List ℕ) → Type 0
HasRing g image = length (ring_in g image) ≡ ring_slots g

pub has_total : (g : Geometry) (image : List (List ℕ)) → HasGeometry image g → total_blocks g ≤ length image
has_total g image h =
    let s = some_and (image_super image) (λ x. x.geometry) g h in
    let fits : total_blocks (s.0).geometry ≤ length image = super_long (block image 0) (length image) s.0 s.1 in
    subst (λ (x : Geometry). total_blocks x ≤ length image) s.2 fits

pub has_ring : (g : Geometry) (image : List (List ℕ)) → total_blocks g ≤ length image → HasRing g image
has_ring g image fits = length-whole_ring g image fits

-- ---- slots

-- a block of the ring, from a slot on
pub slot_get : (g : Geometry) (image : List (List ℕ)) (slot k : ℕ) → HasRing g image → k < ring_slots g → get_or (ring_from (ring_in g image) slot) k [] ≡ slot_block g image slot k
slot_get g image slot k has lt =
    let below : (slot + k) % ring_slots g < ring_slots g = mod-lt (slot + k) (omega (arith, lt)) in
    ring_from_get (ring_in g image) slot k (omega (arith, lt, has)) ∙ ap (λ (n : ℕ). get_or (ring_in g image) ((slot + k) % n) []) has ∙ ring_slot g image ((slot + k) % ring_slots g) below

-- images with the same blocks there have the same entry
pub moved : (g : Geometry) (a b : List (List ℕ)) (slot number : ℕ) (e : Entry) → HasRing g a → HasRing g b → SameSlots g b a slot (entry_slots e)
    → entry_at (ring_in g a) slot number (meta_blocks g) ≡ Some e → entry_at (ring_in g b) slot number (meta_blocks g) ≡ Some e
moved g a b slot number e has_a has_b same is =
    let from_a = ring_from (ring_in g a) slot in
    let from_b = ring_from (ring_in g b) slot in
    let long_a : length from_a ≡ ring_slots g = length-ring_from (ring_in g a) slot ∙ has_a in
    let long_b : length from_b ≡ ring_slots g = length-ring_from (ring_in g b) slot ∙ has_b in
    let fits = (read_slots from_a number (meta_blocks g) e (entry_read from_a number (meta_blocks g) e is)).1 in
    entry_local from_a from_b number (meta_blocks g) e (long_a ∙ sym long_b) is (λ k lt.
    let below : k < ring_slots g = omega (arith, lt, fits, long_a) in
    slot_get g a slot k has_a below ∙ sym (same k lt) ∙ sym (slot_get g b slot k has_b below))

-- ---- no entry without its header and its commit

no_bearer : (number : ℕ) (bytes other : List ℕ) → other ≡ bytes → begins_with_magic other ≡ true → eqb (field other 8 8) number ≡ true → bears number bytes ≡ false → ⊥
no_bearer number bytes other same magic is none =
    let yes : bears number other ≡ true = rw (magic, is) refl in
    let no_one : bears number other ≡ false = ap (bears number) same ∙ none in
    cc

unread_by : (g : Geometry) (image : List (List ℕ)) (slot number : ℕ) (o : Option Entry) → HasRing g image → IsUnfinished g image slot number → entry_at (ring_in g image) slot number (meta_blocks g) ≡ o → o ≡ None
unread_by g image slot number None has u is = refl
unread_by g image slot number (Some e) has u is =
    let blocks = ring_from (ring_in g image) slot in
    let r = entry_read blocks number (meta_blocks g) e is in
    let long : length blocks ≡ ring_slots g = length-ring_from (ring_in g image) slot ∙ has in
    let slots = read_slots blocks number (meta_blocks g) e r in
    let n = count_of blocks in
    let header : block_in blocks 0 ≡ slot_block g image slot 0 = slot_get g image slot 0 has (omega (arith, slots.0, slots.1, long)) in
    elim u [
      | inl missing ↦ absurd (no_bearer number (slot_block g image slot 0) (block_in blocks 0) header r.tests.0 (both_true _ _ r.tests.1.0).0 missing)
      | inr missing ↦
          let below : n + 1 < ring_slots g = omega (arith, slots.0, slots.1, long) in
          let commit : block_in blocks (n + 1) ≡ slot_block g image slot (n + 1) = slot_get g image slot (n + 1) has below in
          let is_one : is_commit (block_in blocks (n + 1)) number ≡ true = commit_test blocks number (meta_blocks g) e r in
          let parts = both_true _ _ (both_true _ _ (both_true _ _ (both_true _ _ is_one).0).0).0 in
          absurd (no_bearer number (slot_block g image slot (n + 1)) (block_in blocks (n + 1)) commit parts.0 parts.1 (missing (n + 1) (omega arith) below))
    ]

pub unread : (g : Geometry) (image : List (List ℕ)) (slot number : ℕ) → HasRing g image → IsUnfinished g image slot number → entry_at (ring_in g image) slot number (meta_blocks g) ≡ None
unread g image slot number has u = unread_by g image slot number (entry_at (ring_in g image) slot number (meta_blocks g)) has u refl

-- ---- what stays of the synced disk

pub mod_shift : (slot n k len : ℕ) → ((slot + n) % len + k) % len ≡ (slot + (n + k)) % len
mod_shift slot n k len =
    let e : slot + n + k ≡ slot + (n + k) = omega arith in
    mod-add-mod (slot + n) len k ∙ ap (λ (x : ℕ). x % len) e

-- slots that are one around the ring
pub same_slots_at : (g : Geometry) (a b : List (List ℕ)) (x y n : ℕ) → x % ring_slots g ≡ y % ring_slots g → SameSlots g a b x n → SameSlots g a b y n
same_slots_at g a b x y n is same k lt =
    let m = ring_slots g in
    let e : (x + k) % m ≡ (y + k) % m = sym (mod-add-mod x m k) ∙ ap (λ (z : ℕ). (z + k) % m) is ∙ mod-add-mod y m k in
    ap (λ (z : ℕ). block a (slot_at g z)) (sym e) ∙ same k lt ∙ ap (λ (z : ℕ). block b (slot_at g z)) e

pub entry_at_one : (ring : List (List ℕ)) (x y number meta : ℕ) → x % length ring ≡ y % length ring → entry_at ring x number meta ≡ entry_at ring y number meta
entry_at_one ring x y number meta is = ap (λ (z : ℕ). entry_of (drop z ring ++ take z ring) number meta) is

-- entries whose slots are the same stand in both images
pub stand_same : (g : Geometry) (a b : List (List ℕ)) (slot number : ℕ) (es : List Entry) → HasRing g a → HasRing g b → SameSlots g b a slot (slots_of_all es)
    → StandFrom (journal_of g a) slot number es → StandFrom (journal_of g b) slot number es
unfolding journal_of
stand_same g a b slot number [] has_a has_b same stand = tt
stand_same g a b slot number (e ∷ es) has_a has_b same stand =
    let n = entry_slots e in
    let more = slots_more e es in
    let here = moved g a b slot number e has_a has_b (λ k lt. same k (omega (arith, lt, more))) stand.0 in
    let next : (slot + n) % length (ring_in g a) ≡ (slot + n) % length (ring_in g b) = ap (λ (x : ℕ). (slot + n) % x) (has_a ∙ sym has_b) in
    let there : StandFrom (journal_of g a) ((slot + n) % length (ring_in g b)) (number + 1) es = subst (λ (x : ℕ). StandFrom (journal_of g a) x (number + 1) es) next stand.1 in
    let around : (slot + n) % ring_slots g ≡ (slot + n) % length (ring_in g b) = ap (λ (x : ℕ). (slot + n) % x) (sym has_b) in
    let rest : SameSlots g b a ((slot + n) % length (ring_in g b)) (slots_of_all es) = λ k lt.
    let e : (slot + (n + k)) % ring_slots g ≡ ((slot + n) % length (ring_in g b) + k) % ring_slots g = sym (mod_shift slot n k (ring_slots g)) ∙ ap (λ (x : ℕ). (x + k) % ring_slots g) around in
    ap (λ (z : ℕ). block b (slot_at g z)) (sym e) ∙ same (n + k) (omega (arith, lt, more)) ∙ ap (λ (z : ℕ). block a (slot_at g z)) e in
    (here, stand_same g a b ((slot + n) % length (ring_in g b)) (number + 1) es has_a has_b rest there)

-- the slot after some entries, around the ring
pub slot_after-mod : (j : Journal) (slot : ℕ) (es : List Entry) → slot_after j slot es % length j.ring ≡ (slot + slots_of_all es) % length j.ring
slot_after-mod j slot [] = let e : slot ≡ slot + 0 = omega arith in ap (λ (x : ℕ). x % length j.ring) e
slot_after-mod j slot (e ∷ es) =
    let n = entry_slots e in
    let sum : n + slots_of_all es ≡ slots_of_all (e ∷ es) = sym (slots_more e es) in
    slot_after-mod j (slot_past j slot n) es ∙ mod_shift slot n (slots_of_all es) (length j.ring) ∙ ap (λ (x : ℕ). (slot + x) % length j.ring) sum

-- ---- what is read behind it

abbrev pub Read : Journal → ℕ → ℕ → Option Entry
Read j slot number = entry_at j.ring slot number j.meta

pub none_from : (j : Journal) (most room slot number : ℕ) → Read j slot number ≡ None → entries_from j most room slot number ≡ []
unfolding entries_from
none_from j zero room slot number none = refl
none_from j (suc most) room slot number none = ap (λ (o : Option Entry). onto o room (λ e. entries_from j most (room - entry_slots e) (slot_past j slot (entry_slots e)) (number + 1))) none

one_onto : (room : ℕ) (e : Entry) (rest : Entry → List Entry) → rest e ≡ [] → (onto (Some e) room rest ≡ []) ⊎ (onto (Some e) room rest ≡ e ∷ [])
one_onto room e rest none =
    elim (cases_lt room (entry_slots e)) [
      | inl over ↦ let t : leb (entry_slots e) room ≡ false = grind (arith, over) in inl (rw t refl)
      | inr fits ↦ let t : leb (entry_slots e) room ≡ true = grind (arith, fits) in inr (rw t (ap (λ (x : List Entry). e ∷ x) none))
    ]

one_from : (j : Journal) (most room slot number : ℕ) (e : Entry) → Read j slot number ≡ Some e → Read j (slot_past j slot (entry_slots e)) (number + 1) ≡ None
    → (entries_from j most room slot number ≡ []) ⊎ (entries_from j most room slot number ≡ e ∷ [])
unfolding entries_from
one_from j zero room slot number e is none = inl refl
one_from j (suc most) room slot number e is none =
    let rest : Entry → List Entry = λ x. entries_from j most (room - entry_slots x) (slot_past j slot (entry_slots x)) (number + 1) in
    let same : onto (Read j slot number) room rest ≡ onto (Some e) room rest = ap (λ (o : Option Entry). onto o room rest) is in
    elim (one_onto room e rest (none_from j most (room - entry_slots e) (slot_past j slot (entry_slots e)) (number + 1) none)) [
      | inl a ↦ inl (same ∙ a)
      | inr b ↦ inr (same ∙ b)
    ]

-- ---- entries with their slots

pub placed-append : (j : Journal) (slot : ℕ) (xs ys : List Entry) → placed_from j slot (xs ++ ys) ≡ placed_from j slot xs ++ placed_from j (slot_after j slot xs) ys
placed-append j slot [] ys = refl
placed-append j slot (x ∷ xs) ys = ap (λ (l : List (ℕ × Entry)). (slot, x) ∷ l) (placed-append j (slot_past j slot (entry_slots x)) xs ys)

pub placed_same : (a b : Journal) (slot : ℕ) (es : List Entry) → length a.ring ≡ length b.ring → placed_from a slot es ≡ placed_from b slot es
placed_same a b slot [] long = refl
placed_same a b slot (e ∷ es) long =
    let next : slot_past a slot (entry_slots e) ≡ slot_past b slot (entry_slots e) = ap (λ (n : ℕ). (slot + entry_slots e) % n) long in
    ap (λ (l : List (ℕ × Entry)). (slot, e) ∷ l) (ap (λ (x : ℕ). placed_from a x es) next ∙ placed_same a b (slot_past b slot (entry_slots e)) es long)

-- ---- the torn add

-- which slots an image's replay accepts, for its geometry
abbrev pub AcceptsIn : Geometry → List (List ℕ) → ℕ → Entry → Type 0
AcceptsIn g image slot e = Contains (placed_at (journal_of g image) (journal_of g image).info) (slot, e)

pub accepts_in : (g : Geometry) (image : List (List ℕ)) (slot : ℕ) (e : Entry) → HasGeometry image g → Accepts image slot e → AcceptsIn g image slot e
accepts_in g image slot e has a = from_some (image_super image) (λ s. s.geometry) g (λ x. AcceptsIn x image slot e) has a

pub accepts : (g : Geometry) (image : List (List ℕ)) (slot : ℕ) (e : Entry) → HasGeometry image g → AcceptsIn g image slot e → Accepts image slot e
accepts g image slot e has a = to_some (image_super image) (λ s. s.geometry) g (λ x. AcceptsIn x image slot e) has a

pub mod_twice : (x m : ℕ) → x % m % m ≡ x % m
mod_twice x m =
    let a : x % m + 0 ≡ x % m = omega arith in
    let b : x + 0 ≡ x = omega arith in
    ap (λ (y : ℕ). y % m) (sym a) ∙ mod-add-mod x m 0 ∙ ap (λ (y : ℕ). y % m) b

-- the replay of two journals of one ring, the first of which has these entries in all
pub record Behind (a b : Journal) (i : Info) : Type 0 where
  pub long : length a.ring ≡ length b.ring
  pub read_a : a.info ≡ Some i
  pub read_b : b.info ≡ Some i
  pub stand : StandFrom b i.start i.number (replay a)
  pub fit : slots_of_all (replay a) ≤ length b.ring

-- the slot behind them
abbrev pub slot_behind : Journal → Journal → Info → ℕ
slot_behind a b i = slot_after b i.start (replay a)

-- what the second has behind them
abbrev pub rest_of : Journal → Journal → Info → List Entry
rest_of a b i = entries_from b (length b.ring - length (replay a)) (length b.ring - slots_of_all (replay a)) (slot_behind a b i) (i.number + length (replay a))

pub replay_goes_on : (a b : Journal) (i : Info) → Behind a b i → replay b ≡ replay a ++ rest_of a b i
unfolding replay
replay_goes_on a b i h =
    ap (replay_at b) h.read_b ∙ entries_go_on b (length b.ring) (length b.ring) i.start i.number (replay a) h.stand h.fit (omega (arith, few_entries (replay a), h.fit))

-- an entry that the second accepts, the first accepts, or it stands behind
pub accepted_cases : (a b : Journal) (i : Info) (slot : ℕ) (e : Entry) → Behind a b i → Contains (placed_at b b.info) (slot, e)
    → Contains (placed_at a a.info) (slot, e) ⊎ Contains (placed_from b (slot_behind a b i) (rest_of a b i)) (slot, e)
accepted_cases a b i slot e h is =
    let start = i.start in
    let all : placed_at b b.info ≡ placed_from b start (replay a) ++ placed_from b (slot_behind a b i) (rest_of a b i) =
    ap (placed_at b) h.read_b ∙ ap (placed_from b start) (replay_goes_on a b i h) ∙ placed-append b start (replay a) (rest_of a b i) in
    let first : placed_from b start (replay a) ≡ placed_at a a.info = placed_same b a start (replay a) (sym h.long) ∙ ap (placed_at a) (sym h.read_a) in
    elim (Contains-append_cases (placed_from b start (replay a)) (placed_from b (slot_behind a b i) (rest_of a b i)) (slot, e) (subst (λ (l : List (ℕ × Entry)). Contains l (slot, e)) all is)) [
      | inl old ↦ inl (subst (λ (l : List (ℕ × Entry)). Contains l (slot, e)) first old)
      | inr new ↦ inr new
    ]

contains_none : (b : Journal) (at : ℕ) (es : List Entry) (slot : ℕ) (e : Entry) → es ≡ [] → Contains (placed_from b at es) (slot, e) → ⊥
contains_none b at es slot e none is =
    let h : Contains (placed_from b at []) (slot, e) = subst (λ (l : List Entry). Contains (placed_from b at l) (slot, e)) none is in
    omega (arith, h.1)

contains_one : (b : Journal) (at : ℕ) (f : Entry) (es : List Entry) (slot : ℕ) (e : Entry) → es ≡ f ∷ [] → Contains (placed_from b at es) (slot, e) → (at ≡ slot) × (f ≡ e)
contains_one b at f es slot e one is =
    let h : Contains (placed_from b at (f ∷ [])) (slot, e) = subst (λ (l : List Entry). Contains (placed_from b at l) (slot, e)) one is in
    elim (Contains-push_cases [] (at, f) (slot, e) h) [
      | inl no_one ↦ absurd (omega (arith, no_one.1))
      | inr same ↦ (ap (λ (x : ℕ × Entry). x.0) same, ap (λ (x : ℕ × Entry). x.1) same)
    ]

-- an image without entries accepts none
pub placed_none : (j : Journal) (o : Option Info) → replay j ≡ [] → placed_at j o ≡ []
placed_none j None none = refl
placed_none j (Some i) none = ap (placed_from j i.start) none

pub no_entries : (g : Geometry) (base : List (List ℕ)) (p : List Event) (j : List (List ℕ)) → HasGeometry j g → replay (journal_of g j) ≡ [] → NoChance base p j
no_entries g base p j has none s slot e is accepted =
    let journal = journal_of g j in
    let nowhere : Contains [] (slot, e) =
    subst (λ (l : List (ℕ × Entry)). Contains l (slot, e)) (placed_none journal journal.info none) (accepts_in g j slot e has accepted) in
    absurd (omega (arith, nowhere.1))

module _ (g : Geometry) (i : Info) (base : List (List ℕ)) (p : List Event) (j : List (List ℕ)) (t : TornAdd g i base p j) where
  abbrev Synced : List (List ℕ)
  Synced = synced_after base p

  abbrev Last : List (List ℕ)
  Last = last_after base p

  abbrev a : Journal
  a = journal_of g Synced

  abbrev b : Journal
  b = journal_of g j

  has_synced : HasRing g Synced
  has_synced = has_ring g Synced (has_total g Synced t.synced)

  has_j : HasRing g j
  has_j = has_ring g j (has_total g j t.image)

  has_last : HasRing g Last
  has_last =
      let long : length Last ≡ length Synced = length-last base p ∙ sym (length-now base (synced_part p)) in
      has_ring g Last (omega (arith, long, has_total g Synced t.synced))

  ring_a : length a.ring ≡ ring_slots g
  unfolding journal_of
  ring_a = has_synced

  ring_b : length b.ring ≡ ring_slots g
  unfolding journal_of
  ring_b = has_j

  read_b : b.info ≡ Some i
  unfolding journal_of
  read_b = ap (λ (x : List ℕ). info_of x (ring_slots g)) t.info ∙ t.read

  replay_is_from : replay a ≡ entries_from a (length a.ring) (length a.ring) i.start i.number
  unfolding replay
  replay_is_from = ap (replay_at a) t.read

  stands : StandFrom a i.start i.number (replay a) × (slots_of_all (replay a) ≤ length a.ring)
  stands =
      let s = entries_stand a (length a.ring) (length a.ring) i.start i.number in
      (subst (λ (es : List Entry). StandFrom a i.start i.number es) (sym replay_is_from) s.stand, subst (λ (es : List Entry). slots_of_all es ≤ length a.ring) (sym replay_is_from) s.fit)

  behind : Behind a b i
  behind = record {
    long = ring_a ∙ sym ring_b;
    read_a = t.read;
    read_b = read_b;
    stand = stand_same g Synced j i.start i.number (replay a) has_synced has_j t.entries stands.0;
    fit = omega (arith, stands.1, ring_a, ring_b);
  }

  -- the slot behind the entries, in the two ways of counting
  abbrev at : ℕ
  at = slot_behind a b i

  abbrev next : ℕ
  next = next_slot a i

  one_slot : next % ring_slots g ≡ at % ring_slots g
  one_slot =
      let sum : ℕ = i.start + slots_of_all (replay a) in
      ap (λ (n : ℕ). (sum % n) % ring_slots g) ring_a ∙ mod_twice sum (ring_slots g) ∙ ap (λ (n : ℕ). sum % n) (sym ring_b)
      ∙ sym (slot_after-mod b i.start (replay a)) ∙ ap (λ (n : ℕ). at % n) ring_b

  read_at : (number : ℕ) (o : Option Entry) → entry_at (ring_in g j) next number (meta_blocks g) ≡ o → Read b at number ≡ o
  unfolding journal_of
  read_at number o is =
      let same : at % length (ring_in g j) ≡ next % length (ring_in g j) =
      ap (λ (n : ℕ). at % n) has_j ∙ sym one_slot ∙ ap (λ (n : ℕ). next % n) (sym has_j) in
      entry_at_one (ring_in g j) at next number (meta_blocks g) same ∙ is

  -- behind the entry that follows
  read_past : (n number : ℕ) → entry_at (ring_in g j) (next + n) number (meta_blocks g) ≡ None → Read b (slot_past b at n) number ≡ None
  unfolding journal_of
  read_past n number is =
      let m = length (ring_in g j) in
      let one : at % m ≡ next % m = ap (λ (x : ℕ). at % x) has_j ∙ sym one_slot ∙ ap (λ (x : ℕ). next % x) (sym has_j) in
      let same : (at + n) % m % m ≡ (next + n) % m =
      mod_twice (at + n) m ∙ sym (mod-add-mod at m n) ∙ ap (λ (x : ℕ). (x + n) % m) one ∙ mod-add-mod next m n in
      entry_at_one (ring_in g j) ((at + n) % m) (next + n) number (meta_blocks g) same ∙ is

  abbrev Outcome : ℕ → Entry → Type 0
  Outcome slot e = Accepts Synced slot e ⊎ SameSlots g j Last slot (entry_slots e)

  chance_unfinished : IsUnfinished g j next (next_number a i) → (slot : ℕ) (e : Entry) → Contains (placed_from b at (rest_of a b i)) (slot, e) → ⊥
  chance_unfinished u slot e is =
      let none = read_at (next_number a i) None (unread g j next (next_number a i) has_j u) in
      contains_none b at (rest_of a b i) slot e (none_from b _ _ at (next_number a i) none) is

  chance_finished : IsFinished g j Last next (next_number a i) → (slot : ℕ) (e : Entry) → Contains (placed_from b at (rest_of a b i)) (slot, e) → SameSlots g j Last slot (entry_slots e)
  chance_finished f slot e is =
      let there = read_at (next_number a i) (Some f.entry) (moved g Last j next (next_number a i) f.entry has_last has_j f.there f.written) in
      let past = read_past (entry_slots f.entry) (next_number a i + 1) (unread g j (next + entry_slots f.entry) (next_number a i + 1) has_j f.no_more) in
      elim (one_from b _ _ at (next_number a i) f.entry there past) [
        | inl nothing ↦ absurd (contains_none b at (rest_of a b i) slot e nothing is)
        | inr one ↦
            let same = contains_one b at f.entry (rest_of a b i) slot e one is in
            let here : SameSlots g j Last at (entry_slots f.entry) = same_slots_at g j Last next at (entry_slots f.entry) one_slot f.there in
            subst (λ (x : Entry). SameSlots g j Last slot (entry_slots x)) same.1 (subst (λ (x : ℕ). SameSlots g j Last x (entry_slots f.entry)) same.0 here)
      ]

  chance_in : (slot : ℕ) (e : Entry) → AcceptsIn g j slot e → Outcome slot e
  chance_in slot e is =
      elim (accepted_cases a b i slot e behind is) [
        | inl old ↦ inl (accepts g Synced slot e t.synced old)
        | inr new ↦ elim t.next [
          | inl u ↦ absurd (chance_unfinished u slot e new)
          | inr f ↦ inr (chance_finished f slot e new)
        ]
      ]

  pub torn_add : NoChance base p j
  torn_add s slot e is accepted =
      let here = some_and (image_super j) (λ (x : Super). x.geometry) g t.image in
      let one : here.0 ≡ s = cc (here.1, is) in
      let same : g ≡ s.geometry = sym here.2 ∙ ap (λ (x : Super). x.geometry) one in
      elim (chance_in slot e (accepts_in g j slot e t.image accepted)) [
        | inl old ↦ inl old
        | inr new ↦ inr (subst (λ (x : Geometry). SameSlots x j Last slot (entry_slots e)) same new)
      ]
