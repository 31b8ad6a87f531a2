-- Where a ring stands: behind the entries of its journal.
use Rattle.std.proofs.Common.{◌≡◌, ◌<◌, ◌≤◌, ℕ, ◌+◌, ◌%◌, List, [], ◌∷◌, ◌++◌, ap, sym, ◌∙◌, arith, length-append}
use Rattle.std.proofs.lemmas.List.Sums.{sum_by-append, sum_by-cons}
use Rattle.std.proofs.Math.Nat.{mod-eq_of_lt}
use Rattle.spec_record.specs.declared.geometry.Geometry.{Geometry}
use Rattle.spec_record.specs.declared.info.Info.{Info}
use Rattle.spec_record.specs.Geometry.{ring_slots}
use Rattle.spec_record.specs.Entry.{Entry}
use Rattle.spec_record.specs.EntryBlocks.{entry_slots}
use Rattle.spec_image.specs.Replay.{slots_of_all}
use Rattle.spec_image.proofs.TornLemmas.{mod_shift}
use Rattle.bv_ring.specs.Cursor.{Cursor, cursor_at, StandsBehind, past, emptied, info_at_cursor}

-- a new ring stands behind an empty journal
pub stands-new : (g : Geometry) (slot number : ℕ) → slot < ring_slots g → StandsBehind (cursor_at g slot number (ring_slots g)) (record { start = slot; number = number }) []
stands-new g slot number lt =
    let same : slot + slots_of_all [] ≡ slot = omega arith in
    record {
      slot = sym (ap (λ (n : ℕ). n % ring_slots g) same ∙ mod-eq_of_lt lt);
      number = omega arith;
      room = omega arith;
    }

-- past an entry that fits it stands behind that entry too
pub stands-past : (c : Cursor) (i : Info) (es : List Entry) (e : Entry) (n : ℕ) → n ≡ entry_slots e → n ≤ c.room → StandsBehind c i es → StandsBehind (past c n) i (es ++ e ∷ [])
stands-past c i es e n size fits stands =
    let one : slots_of_all (e ∷ []) ≡ entry_slots e + 0 = sum_by-cons entry_slots e [] in
    let sum : slots_of_all (es ++ e ∷ []) ≡ slots_of_all es + n = omega (arith, sum_by-append entry_slots es (e ∷ []), one, size) in
    let all : i.start + (slots_of_all es + n) ≡ i.start + slots_of_all (es ++ e ∷ []) = omega (arith, sum) in
    record {
      slot = ap (λ (x : ℕ). (x + n) % ring_slots c.geometry) stands.slot ∙ mod_shift i.start (slots_of_all es) n (ring_slots c.geometry) ∙ ap (λ (x : ℕ). x % ring_slots c.geometry) all;
      number = omega (arith, stands.number, length-append es (e ∷ []));
      room = omega (arith, sum, stands.room, fits);
    }

-- after a checkpoint it stands behind the empty journal of the info block that was written
pub stands-emptied : (c : Cursor) → c.slot < ring_slots c.geometry → StandsBehind (emptied c) (info_at_cursor c) []
stands-emptied c lt = stands-new c.geometry c.slot c.number lt
