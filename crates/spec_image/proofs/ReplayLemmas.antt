-- The replay of a journal is the longest list of entries, and the only one.
use Rattle.std.proofs.Common.{◌≡◌, ℕ, zero, suc, ◌+◌, ◌-◌, ◌≤◌, List, [], ◌∷◌, ◌++◌, length, Bool, true, false, cond, leb, Option, Some, None, MatchOption, refl, ap, sym, ◌∙◌, subst, inl, inr, arith, length-append}
use Rattle.std.proofs.lemmas.Bool.{cases_lt}
use Rattle.std.proofs.lemmas.List.Sums.{sum_by-cons}
use Rattle.spec_record.specs.declared.info.Info.{Info}
use Rattle.spec_record.specs.Entry.{Entry}
use Rattle.spec_record.specs.EntryBlocks.{entry_slots, entry_at}
use Rattle.spec_image.specs.Journal.{Journal, slot_past}
use Rattle.spec_image.specs.Replay.{slots_of_all, StandFrom, IsReplay, onto, entries_from, replay_at, replay}

-- one entry more
pub slots_more : (e : Entry) (es : List Entry) → slots_of_all (e ∷ es) ≡ entry_slots e + slots_of_all es
slots_more e es = sum_by-cons entry_slots e es

-- what the journal has at a slot with a number
abbrev pub read : Journal → ℕ → ℕ → Option Entry
read j slot number = entry_at j.ring slot number j.meta

-- the entries of a list stand one after another, within so many slots
pub record Stands (j : Journal) (room slot number : ℕ) (es : List Entry) : Type 0 where
  pub stand : StandFrom j slot number es
  pub fit : slots_of_all es ≤ room

none_stands : (j : Journal) (room slot number : ℕ) → Stands j room slot number []
none_stands j room slot number = record { stand = tt; fit = omega arith }

onto_stands : (j : Journal) (room slot number : ℕ) (o : Option Entry) (rest : Entry → List Entry) → read j slot number ≡ o
    → ((e : Entry) → Stands j (room - entry_slots e) (slot_past j slot (entry_slots e)) (number + 1) (rest e))
    → Stands j room slot number (onto o room rest)
onto_stands j room slot number None rest is stands = none_stands j room slot number
onto_stands j room slot number (Some e) rest is stands =
    elim (cases_lt room (entry_slots e)) [
      | inl over ↦
          let t : leb (entry_slots e) room ≡ false = grind (arith, over) in
          rw t (none_stands j room slot number)
      | inr fits ↦
          let t : leb (entry_slots e) room ≡ true = grind (arith, fits) in
          let s = stands e in
          rw t (record { stand = (is, s.stand); fit = omega (arith, s.fit, fits, slots_more e (rest e)) })
    ]

pub entries_stand : (j : Journal) (most room slot number : ℕ) → Stands j room slot number (entries_from j most room slot number)
unfolding entries_from
entries_stand j zero room slot number = none_stands j room slot number
entries_stand j (suc most) room slot number =
    onto_stands j room slot number (read j slot number) _ refl (λ e. entries_stand j most (room - entry_slots e) (slot_past j slot (entry_slots e)) (number + 1))

-- an entry has slots
pub few_entries : (es : List Entry) → length es ≤ slots_of_all es
few_entries [] = omega arith
few_entries (e ∷ es) = omega (arith, few_entries es, slots_more e es)

-- entries that stand there are a beginning of what is read, and what is read goes on behind them
abbrev pub slot_after : Journal → ℕ → List Entry → ℕ
slot_after j slot [] = slot
slot_after j slot (e ∷ es) = slot_after j (slot_past j slot (entry_slots e)) es

pub onto_first : (room : ℕ) (o : Option Entry) (e : Entry) (rest : Entry → List Entry) → o ≡ Some e → entry_slots e ≤ room → onto o room rest ≡ e ∷ rest e
onto_first room o e rest is fits =
    let t : leb (entry_slots e) room ≡ true = grind (arith, fits) in
    ap (λ (x : Option Entry). onto x room rest) is ∙ ap (λ (b : Bool). cond b (e ∷ rest e) []) t

pub entries_go_on : (j : Journal) (most room slot number : ℕ) (es : List Entry) → StandFrom j slot number es → slots_of_all es ≤ room → length es ≤ most
    → entries_from j most room slot number ≡ es ++ entries_from j (most - length es) (room - slots_of_all es) (slot_after j slot es) (number + length es)
unfolding entries_from
entries_go_on j most room slot number [] stand fit few =
    let a : most ≡ most - 0 = omega arith in
    let b : room ≡ room - 0 = omega arith in
    let c : number ≡ number + 0 = omega arith in
    ap (λ (x : ℕ). entries_from j x room slot number) a ∙ ap (λ (x : ℕ). entries_from j (most - 0) x slot number) b ∙ ap (λ (x : ℕ). entries_from j (most - 0) (room - 0) slot x) c
entries_go_on j zero room slot number (e ∷ es) stand fit few = absurd (omega (arith, few))
entries_go_on j (suc most) room slot number (e ∷ es) stand fit few =
    let more = slots_more e es in
    let next = slot_past j slot (entry_slots e) in
    let left = room - entry_slots e in
    let first = onto_first room (read j slot number) e (λ x. entries_from j most (room - entry_slots x) (slot_past j slot (entry_slots x)) (number + 1)) stand.0 (omega (arith, fit, more)) in
    let rest = entries_go_on j most left next (number + 1) es stand.1 (omega (arith, fit, more)) (omega (arith, few)) in
    let a : most - length es ≡ suc most - suc (length es) = omega arith in
    let b : left - slots_of_all es ≡ room - slots_of_all (e ∷ es) = omega (arith, more) in
    let c : number + 1 + length es ≡ number + suc (length es) = omega arith in
    let after = slot_after j next es in
    first ∙ ap (λ (x : List Entry). e ∷ x) (rest ∙ ap (λ (x : List Entry). es ++ x)
    (ap (λ (x : ℕ). entries_from j x (left - slots_of_all es) after (number + 1 + length es)) a
    ∙ ap (λ (x : ℕ). entries_from j (suc most - suc (length es)) x after (number + 1 + length es)) b
    ∙ ap (λ (x : ℕ). entries_from j (suc most - suc (length es)) (room - slots_of_all (e ∷ es)) after x) c))

-- no list is longer
pub entries_longest : (j : Journal) (most room slot number : ℕ) (es : List Entry) → Stands j room slot number es → length es ≤ most → length es ≤ length (entries_from j most room slot number)
entries_longest j most room slot number es s few =
    omega (arith, ap (length {A = Entry}) (entries_go_on j most room slot number es s.stand s.fit few), length-append {A = Entry})

-- lists that stand at one place and are as long are one
pub one_list : (j : Journal) (slot number : ℕ) (a b : List Entry) → StandFrom j slot number a → StandFrom j slot number b → length a ≡ length b → a ≡ b
one_list j slot number [] [] s t e = refl
one_list j slot number [] (y ∷ ys) s t e = absurd (omega (arith, e))
one_list j slot number (x ∷ xs) [] s t e = absurd (omega (arith, e))
one_list j slot number (x ∷ xs) (y ∷ ys) s t e =
    let same : y ≡ x = cc (s.0, t.0) in
    let there : StandFrom j (slot_past j slot (entry_slots x)) (number + 1) ys = subst (λ (z : Entry). StandFrom j (slot_past j slot (entry_slots z)) (number + 1) ys) same t.1 in
    ap (λ (z : Entry). z ∷ xs) (sym same) ∙ ap (λ (zs : List Entry). y ∷ zs) (one_list j (slot_past j slot (entry_slots x)) (number + 1) xs ys s.1 there (omega (arith, e)))

-- the same by whether the info was read
module _ (j : Journal) where
  StandAt : Option Info → List Entry → Type 0
  StandAt o es = MatchOption o (es ≡ []) (λ i. StandFrom j i.start i.number es)

  replay_stands : (o : Option Info) → StandAt o (replay_at j o) × (slots_of_all (replay_at j o) ≤ length j.ring)
  unfolding StandAt
  replay_stands None = (refl, omega arith)
  replay_stands (Some i) = let s = entries_stand j (length j.ring) (length j.ring) i.start i.number in (s.stand, s.fit)

  replay_longest : (o : Option Info) (es : List Entry) → StandAt o es → slots_of_all es ≤ length j.ring → length es ≤ length (replay_at j o)
  unfolding StandAt
  replay_longest None es s fit = omega (arith, ap (length {A = Entry}) s)
  replay_longest (Some i) es s fit = entries_longest j (length j.ring) (length j.ring) i.start i.number es (record { stand = s; fit = fit }) (omega (arith, few_entries es, fit))

  one_at : (o : Option Info) (a b : List Entry) → StandAt o a → StandAt o b → length a ≡ length b → a ≡ b
  unfolding StandAt
  one_at None a b s t e = s ∙ sym t
  one_at (Some i) a b s t e = one_list j i.start i.number a b s t e

  pub replay_is : IsReplay j (replay j)
  unfolding replay StandAt
  replay_is =
      let s = replay_stands j.info in
      record { accepted = record { stand = s.0; fit = s.1 }; longest = λ others a. replay_longest j.info others a.stand a.fit }

  pub replay_alone : (a b : List Entry) → IsReplay j a → IsReplay j b → a ≡ b
  unfolding StandAt
  replay_alone a b r s =
      one_at j.info a b r.accepted.stand s.accepted.stand (omega (arith, r.longest b s.accepted, s.longest a r.accepted))
