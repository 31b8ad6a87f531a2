-- What is kept, over the calls that a session makes.
use Rattle.std.proofs.Common.{◌≡◌, ◌⊎◌, inl, inr, ℕ, Option, Some, None, List, [], ◌∷◌, ◌++◌, refl, sym, subst}
use Rattle.std.specs.Prelude.{IfOk, IfSome, IsSomeAnd, Result, Ok, Err, false}
use Rattle.std.specs.Map.{lookup, remove_entry}
use Rattle.spec_tree.specs.declared.Digest.{Digest}
use Rattle.spec_core.specs.History.{Legal}
use Rattle.spec_core.specs.declared.act.Act.{Act}
use Rattle.spec_core.specs.declared.act.Act.TheVariants as acts
use Rattle.spec_core.specs.declared.reply.Reply.{Reply}
use Rattle.spec_core.specs.declared.reply.Reply.TheVariants as replies
use Rattle.spec_core.specs.declared.who.Who.{Who}
use Rattle.spec_served.specs.Adds.{was_published}
use Rattle.bv_cache.specs.Kept.{is_root, kept_first}
use Rattle.bv_ledger.specs.Answers as A
use Rattle.bv_ledger.specs.declared.opening.Look.{Look}
use Rattle.bv_ledger.specs.declared.opening.Look.TheVariants as look
use Rattle.bv_ledger.specs.declared.opening.OpenFault.{OpenFault}
use Rattle.bv_pager.specs.Reading.{Reading}
use Rattle.bv_session.specs.declared.entry.Basis.{Basis}
use Rattle.bv_session.specs.declared.entry.Entry.{Entry}
use Rattle.bv_session.specs.declared.serves.Answer.{Answer}
use Rattle.bv_session.specs.declared.serves.Answer.TheVariants as answers
use Rattle.bv_session.specs.Disk.{AreThere}
use Rattle.bv_session.specs.Events.{IfDone, NotesAs, reply_by}
use Rattle.bv_session.specs.Pages.{SlotFrom}
use Rattle.bv_turn.specs.Entries.{entries_of}
use Rattle.bv_volume.specs.Seen.{Seen}
use Rattle.bv_shared.specs.Answers.{answer_reply}
use Rattle.bv_shared.specs.Entries.{Gains, GainsAs, basis_of, entries_in}
use Rattle.bv_shared.specs.KeptPages.{KeptPages, OpensKept, ReaderHas}
use Rattle.bv_shared.specs.Since.{Since}
use Rattle.bv_shared.proofs.FromLemmas.{reader_has}
use Rattle.bv_shared.proofs.GainLemmas.{entries_spared}
use Rattle.bv_shared.proofs.KeptLemmas.{kept_found, kept_more, kept_without}

-- a look publishes nothing
pub look_published : (slot : ℕ) (what : Look) (reply : Reply) → was_published (A.look_act slot what) reply ≡ false
look_published slot (look.Read off len) reply = refl
look_published slot look.Scan reply = refl

-- room is made
pub pages_spared : (v u : Seen) (kept : List (Digest × Reading)) → u ≡ record v { spare = u.spare } → KeptPages v kept → KeptPages u kept
pages_spared v u kept is k = subst (λ (x : Seen). KeptPages x kept) (sym is) k

pub pages_fresh : (v : Seen) (kept : List (Digest × Reading)) → kept ≡ [] → KeptPages v kept
pages_fresh v kept is = subst (KeptPages v) (sym is) tt

-- a reader was taken out, or not
pub pages_forgot : (v : Seen) (root : Digest) (old new : List (Digest × Reading)) → (new ≡ old) ⊎ (new ≡ remove_entry (is_root root) old) → KeptPages v old → KeptPages v new
pages_forgot v root old new (inl same) k = subst (KeptPages v) (sym same) k
pages_forgot v root old new (inr out) k = subst (KeptPages v) (sym out) (kept_without (ReaderHas v) root old k)

-- a reader was kept, or not
pub pages_closed : (v : Seen) (pages : Option Reading) (old new : List (Digest × Reading)) → (new ≡ old) ⊎ IsSomeAnd pages (λ r. new ≡ kept_first old r.root r) → IfSome pages (ReaderHas v) → KeptPages v old → KeptPages v new
pages_closed v pages old new (inl same) has k = subst (KeptPages v) (sym same) k
pages_closed v None old new (inr more) has k = absurd more
pages_closed v (Some r) old new (inr more) has k = subst (KeptPages v) (sym more) (kept_more (ReaderHas v) r.root r old refl has k)

-- the reader of a slot that is closed, once room was made
pub reader_roomed : (o v u : Seen) → u ≡ record v { spare = u.spare } → Since o v → Legal u.history u.next → (faults session slot : ℕ) (pages : Option Reading) → IfSome pages (λ r. SlotFrom (basis_of v faults) slot r (entries_of (λ (e : Entry). e.event.who.session) session (entries_in v)))
    → IfSome pages (ReaderHas u)
reader_roomed o v u room since legal faults session slot None from = tt
reader_roomed o v u room since legal faults session slot (Some r) from =
    subst (λ (x : Seen). ReaderHas x r) (sym room)
    (reader_has o v since (subst (λ (x : Seen). Legal x.history x.next) room legal) faults session slot r from)

pub readers_on : (u w : Seen) (pages : Option Reading) → ((r : Reading) → ReaderHas u r → ReaderHas w r) → IfSome pages (ReaderHas u) → IfSome pages (ReaderHas w)
readers_on u w None on has = tt
readers_on u w (Some r) on has = on r has

-- ---- an open

pub gains_of : (old new : List Entry) (who : Who) (act : Act) (q : Option Reply) (P : Entry → Type 0) → GainsAs old new who act q P → Gains old new who act q
gains_of old new who act None P g = g
gains_of old new who act (Some reply) P g = (g.0, g.1, g.2, g.3, g.4)

module _ (v u w : Seen) (room : u ≡ record v { spare = u.spare }) (who : Who) (slot : ℕ) (root : Digest) (x y : Basis) (same : x ≡ y) (kept : List (Digest × Reading)) (k : KeptPages w kept) where
  abbrev Opens : Result ℕ OpenFault → Type 0
  Opens answer = GainsAs (entries_in u) (entries_in w) who (acts.Open slot root) (A.open_reply answer) (OpensKept w x root answer)

  -- what is handed out is there
  handed : (e : Entry) (n : ℕ) (pages : Option Reading) → ((r : Reading) → ReaderHas w r → r.root ≡ root → r.size ≡ n → AreThere x e r) → IfSome pages (λ p. lookup (is_root root) kept ≡ Some p) → IfSome pages (λ p. (p.root ≡ root) × (p.size ≡ n)) → IfSome pages (AreThere y e)
  handed e n None opens found of = tt
  handed e n (Some r) opens found of = subst (λ (b : Basis). AreThere b e r) same (opens r (kept_found (ReaderHas w) root r kept k found) of.0 of.1)

  pub open_ok : {E : Type 0} (result : Result (Answer (ℕ × Option Reading)) E) (answer : Result ℕ OpenFault) → Opens answer → answer_reply (λ a. replies.Opened a.0) result ≡ A.open_reply answer
      → IfOk result (λ a. IfDone a (λ p. (answer ≡ Ok p.0) × IfSome p.1 (λ r. lookup (is_root root) kept ≡ Some r))) → IfOk result (λ a. IfDone a (λ p. IfSome p.1 (λ r. (r.root ≡ root) × (r.size ≡ p.0))))
      → IfOk result (λ a. NotesAs (entries_in v) (entries_in w) who (acts.Open slot root) (reply_by (λ p. replies.Opened p.0) a) (λ e. IfDone a (λ p. IfSome p.1 (AreThere y e))))
  open_ok (Ok (answers.Done p)) answer opens reply found of =
      let g : Opens (Ok p.0) = subst Opens found.0 opens in
      (g.0, subst (λ (es : List Entry). entries_in w ≡ es ++ g.0 ∷ []) (entries_spared v u room) g.1, g.2, g.3, g.4, handed g.0 p.0 p.1 g.5 found.1 of)
  open_ok (Ok (answers.Refused q)) answer opens reply found of =
      let g : Gains (entries_in u) (entries_in w) who (acts.Open slot root) (Some q) = subst (Gains (entries_in u) (entries_in w) who (acts.Open slot root)) (sym reply) (gains_of (entries_in u) (entries_in w) who (acts.Open slot root) (A.open_reply answer) (OpensKept w x root answer) opens) in
      (g.0, subst (λ (es : List Entry). entries_in w ≡ es ++ g.0 ∷ []) (entries_spared v u room) g.1, g.2, g.3, g.4, tt)
  open_ok (Err e) answer opens reply found of = tt
