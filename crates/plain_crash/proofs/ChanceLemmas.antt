-- Accepted entries with their slots, and those that aren't by chance.
use Rattle.std.proofs.Common.{refl, ◌≡◌, ◌↔◌, ◌⊎◌, ℕ, ◌+◌, ◌%◌, ◌<◌, List, [], ◌∷◌, ◌++◌, length, map, get_or, Bool, eqb, ◌&&◌, Decides, IsTrue, All, Option, Some, None, ap, sym, subst, ◌∙◌, inl, inr, arith}
use Rattle.std.proofs.lemmas.List.{append_assoc, append-nil, get_or-map, length-map}
use Rattle.std.proofs.lemmas.List.Elements.{All-contains, All-contains_itself, All-weaker, Contains-get_or}
use Rattle.std.proofs.lemmas.Bool.Decides.{Decides-eqb, Decides-and, Decides-like}
use Rattle.std.proofs.lemmas.Slice.Eq.{slice_eq-Decides, bytes_eq-Decides}
use Rattle.std.proofs.Math.Nat.{mod-add-mod}
use Rattle.std.specs.Cmp.Lexicographic.{pointwise}
use Rattle.std.specs.List.{Contains}
use Rattle.std.specs.Str.{bytes_eq}
use Rattle.std.specs.Option.{IsSomeAnd}
use Rattle.spec_disk.specs.declared.event.Event.{Event}
use Rattle.spec_disk.specs.Disk.{synced_after, last_after}
use Rattle.spec_record.specs.declared.superblock.Super.{Super}
use Rattle.spec_record.specs.Entry.{Entry}
use Rattle.spec_record.specs.Superblock.{super_of, super_or_fault}
use Rattle.spec_record.specs.Field.{field, number_of}
use Rattle.spec_record.specs.EntryBlocks.{entry_slots}
use Rattle.spec_image.specs.Journal.{Journal, journal_of, slot_past}
use Rattle.spec_image.specs.Chance.{placed_from, placed_at, Accepts, SameSlots, NoChance}
use Rattle.spec_image.specs.Volume.{image_super}
use Rattle.plain_crash.specs.Placed.{IsKnown}

-- the entries so far stand where they were placed, and whatever follows them stands from this slot on
abbrev pub ArePlaced : Journal → ℕ → List Entry → List (ℕ × Entry) → ℕ → Type 0
ArePlaced j start es placed slot = (rest : List Entry) → placed_from j start (es ++ rest) ≡ placed ++ placed_from j slot rest

pub placed_more : (j : Journal) (start : ℕ) (es more : List Entry) (placed after : List (ℕ × Entry)) (slot next : ℕ) (e : Entry) → ArePlaced j start es placed slot
    → more ≡ es ++ e ∷ [] → after ≡ placed ++ (slot, e) ∷ [] → next ≡ slot_past j slot (entry_slots e) → ArePlaced j start more after next
placed_more j start es more placed after slot next e so_far more_is after_is next_is = λ rest.
    ap (λ (xs : List Entry). placed_from j start (xs ++ rest)) more_is
    ∙ ap (placed_from j start) (append_assoc es (e ∷ []) rest)
    ∙ so_far (e ∷ rest)
    ∙ ap (λ (s : ℕ). placed ++ (slot, e) ∷ placed_from j s rest) (sym next_is)
    ∙ sym (append_assoc placed ((slot, e) ∷ []) (placed_from j next rest))
    ∙ ap (λ (ps : List (ℕ × Entry)). ps ++ placed_from j next rest) (sym after_is)

pub placed_all : (j : Journal) (start : ℕ) (es : List Entry) (placed : List (ℕ × Entry)) (slot : ℕ) → ArePlaced j start es placed slot → placed ≡ placed_from j start es
placed_all j start es placed slot so_far =
    sym (append-nil placed) ∙ sym (so_far []) ∙ ap (placed_from j start) (append-nil es)

-- the entries that an image with a superblock accepts are those of its journal
abbrev AcceptsWith : List (List ℕ) → ℕ → Entry → Option Super → Type 0
AcceptsWith image slot e o = IsSomeAnd o (λ s. let j = journal_of s.geometry image in Contains (placed_at j j.info) (slot, e))

abbrev Has : ℕ → Entry → List (ℕ × Entry) → Type 0
Has slot e ps = Contains ps (slot, e)

pub accepts_read : (image : List (List ℕ)) (s : Super) (ps : List (ℕ × Entry)) → image_super image ≡ Some s → (let j = journal_of s.geometry image in ps ≡ placed_at j j.info)
    → (slot : ℕ) (e : Entry) → Contains ps (slot, e) ↔ Accepts image slot e
accepts_read image s ps some same slot e = (
  λ has. subst (AcceptsWith image slot e) (sym some) (subst (Has slot e) same has),
  λ accepts. subst (Has slot e) (sym same) (subst (AcceptsWith image slot e) some accepts),
)

pub accepts_none : (image : List (List ℕ)) (ps : List (ℕ × Entry)) → image_super image ≡ None → ps ≡ [] → (slot : ℕ) (e : Entry) → Contains ps (slot, e) ↔ Accepts image slot e
accepts_none image ps none empty slot e = (
  λ has. absurd (omega (arith, has.1, ap (length {A = ℕ × Entry}) empty)),
  λ accepts. absurd (subst (AcceptsWith image slot e) none accepts),
)

pub reads_as : (ps qs : List (ℕ × Entry)) (a b : List (List ℕ)) → ps ≡ qs → a ≡ b → ((slot : ℕ) (e : Entry) → Contains qs (slot, e) ↔ Accepts a slot e)
    → (slot : ℕ) (e : Entry) → Contains ps (slot, e) ↔ Accepts b slot e
reads_as ps qs a b same is reads slot e = (
  λ has. subst (λ (image : List (List ℕ)). Accepts image slot e) is ((reads slot e).0 (subst (Has slot e) same has)),
  λ accepts. subst (Has slot e) (sym same) ((reads slot e).1 (subst (λ (image : List (List ℕ)). Accepts image slot e) (sym is) accepts)),
)

-- entries are the same where their parts are
abbrev pub same_target : ℕ × List ℕ → ℕ × List ℕ → Bool
same_target a b = eqb a.0 b.0 && bytes_eq a.1 b.1

target_decides : (a b : ℕ × List ℕ) → Decides (same_target a b) (a ≡ b)
target_decides a b =
    Decides-like (same_target a b) (λ parts k. (parts.0 k, parts.1 k)) (λ same. (ap (λ (t : ℕ × List ℕ). t.0) same, ap (λ (t : ℕ × List ℕ). t.1) same))
    (Decides-and (eqb a.0 b.0) (bytes_eq a.1 b.1) (Decides-eqb a.0 b.0) (bytes_eq-Decides a.1 b.1))

abbrev pub entry_with : ℕ → List (ℕ × List ℕ) → Entry
entry_with number targets = record { number = number; targets = targets }

pub same_entry : (slot other number different : ℕ) (targets others : List (ℕ × List ℕ)) (r : Bool) → slot ≡ other → number ≡ different → r ≡ pointwise same_target targets others
    → let a : ℕ × Entry = (slot, entry_with number targets) in let b : ℕ × Entry = (other, entry_with different others) in IsTrue r ↔ (a ≡ b)
same_entry slot other number different targets others r slot_is number_is tells =
    Decides-like r (λ same k. (slot_is k, record { number = number_is k; targets = same k })) (λ (same : _). ap (λ (p : ℕ × Entry). p.1.targets) same)
    (slice_eq-Decides target_decides targets others r tells)

-- one slot more around the ring
pub next_at : (slot k at n : ℕ) → at ≡ (slot + k) % n → (at + 1) % n ≡ (slot + (k + 1)) % n
next_at slot k at n is =
    ap (λ (m : ℕ). (m + 1) % n) is ∙ mod-add-mod (slot + k) n 1 ∙ ap (λ (m : ℕ). m % n) (let e : slot + k + 1 ≡ slot + (k + 1) = omega arith in e)

-- an element of a list that is read as another
pub Contains-read : {X Y : Type 0} (f : X → Y) (xs : List X) (i : ℕ) (d : X) → i < length xs → Contains (map f xs) (f (get_or xs i d))
Contains-read f xs i d lt =
    subst (Contains (map f xs)) (get_or-map f xs i d (f d) lt) (Contains-get_or (map f xs) i (f d) (omega (arith, lt, length-map xs f)))

-- no entry is by chance where each that is accepted is known
pub no_chance_read : (base : List (List ℕ)) (p : List Event) (j : List (List ℕ)) (s : Super) (accepted synced : List (ℕ × Entry)) (last : List (List ℕ)) (r : Bool)
    → image_super j ≡ Some s → ((slot : ℕ) (e : Entry) → Contains accepted (slot, e) ↔ Accepts j slot e)
    → ((slot : ℕ) (e : Entry) → Contains synced (slot, e) ↔ Accepts (synced_after base p) slot e) → last ≡ last_after base p
    → IsTrue r ↔ All (IsKnown synced s.geometry j last) accepted → IsTrue r ↔ NoChance base p j
no_chance_read base p j s accepted synced last r some reads reads_synced last_is tells = (
  λ yes t slot e found accepts.
      let same : s ≡ t = let one : Some s ≡ Some t = sym some ∙ found in cc in
      to_chance t slot e same (All-contains (IsKnown synced s.geometry j last) accepted (slot, e) (tells.0 yes) ((reads slot e).1 accepts)),
  λ none. tells.1 (All-weaker (Contains accepted) (IsKnown synced s.geometry j last)
      (λ x has. to_known x (none s x.0 x.1 some ((reads x.0 x.1).0 has))) accepted (All-contains_itself accepted)),
)
  where
    to_chance : (t : Super) (slot : ℕ) (e : Entry) → s ≡ t → IsKnown synced s.geometry j last (slot, e)
        → Accepts (synced_after base p) slot e ⊎ SameSlots t.geometry j (last_after base p) slot (entry_slots e)
    to_chance t slot e same (inl has) = inl ((reads_synced slot e).0 has)
    to_chance t slot e same (inr blocks) =
        inr (subst (λ (u : Super). SameSlots u.geometry j (last_after base p) slot (entry_slots e)) same
        (subst (λ (d : List (List ℕ)). SameSlots s.geometry j d slot (entry_slots e)) last_is blocks))

    to_known : (x : ℕ × Entry) → Accepts (synced_after base p) x.0 x.1 ⊎ SameSlots s.geometry j (last_after base p) x.0 (entry_slots x.1)
        → IsKnown synced s.geometry j last x
    to_known x (inl accepts) = inl ((reads_synced x.0 x.1).1 accepts)
    to_known x (inr blocks) = inr (subst (λ (d : List (List ℕ)). SameSlots s.geometry j d x.0 (entry_slots x.1)) (sym last_is) blocks)

no_bytes : super_of [] 0 ≡ None
unfolding super_or_fault field number_of
no_bytes = refl

-- an image without a block has no superblock
pub no_block : (image : List (List ℕ)) → length image ≡ 0 → image_super image ≡ None
no_block [] none = no_bytes
no_block (b ∷ bs) none = absurd cc
