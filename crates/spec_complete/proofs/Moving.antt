-- The own event of a line that opened, reads or scans a blob leaves the blob where it is: what the
-- device had of the map's blobs as each event ended is what such lines' blobs hold.
use Rattle.std.proofs.Common.{◌≡◌, ℕ, ◌≤◌, ◌&&◌, Bool, true, false, cond, is_some, Option, None, Some, List, [], ◌∷◌, ◌++◌, map, filter, take, refl, ap, sym, ◌∙◌, subst, arith, append-nil}
use Rattle.std.specs.Prelude.{IsSomeAnd}
use Rattle.std.specs.List.{AllByRecursion}
use Rattle.std.proofs.lemmas.List.Elements.{All-from_recursion, All-push, filter-append}
use Rattle.spec_tree.specs.declared.Digest.{Digest}
use Rattle.spec_tree.specs.declared.blob.Blob.{Blob}
use Rattle.spec_disk.specs.declared.event.Event.{Event}
use Rattle.spec_disk.specs.Disk.{Blocks, block}
use Rattle.spec_core.specs.History.{History, Legal, NeverFall, last_state, opening_map}
use Rattle.spec_core.specs.State.{find}
use Rattle.spec_core.specs.declared.act.Act.{Act}
use Rattle.spec_core.specs.declared.act.Act.TheVariants.{Open, Read, Scan}
use Rattle.spec_core.specs.declared.event.CoreEvent.{CoreEvent}
use Rattle.spec_core.specs.declared.reply.Reply.{Reply}
use Rattle.spec_core.specs.declared.who.Who.{Who}
use Rattle.spec_crash.specs.Timing.{event_at}
use Rattle.spec_session.specs.Conform.{events_of}
use Rattle.spec_session.specs.Own.{Named}
use Rattle.spec_session.specs.Told.{same_who}
use Rattle.spec_served.specs.Device.{At, blob_by, now_at, stored_at}
use Rattle.spec_served.specs.Places.{blocks_by, publisher, publisher_after, put_blocks, was_written, written_at}
use Rattle.spec_seen.proofs.VersionLemmas.{IsOf, versioned_last}
use Rattle.spec_seen.proofs.WhereLemmas.{known_by_then}
use Rattle.spec_seen.specs.Held.{up_to}
use Rattle.spec_complete.specs.Fit.{IsAbout}
use Rattle.spec_complete.specs.Sound.{ContentsVerify, HoldsBy, HoldsThere, LinesHoldTheirs, MomentsHoldTheirs, there_at}
use Rattle.spec_complete.proofs.Mapped.{has_then, legal_then}

-- ---- the own event

-- it publishes nothing, and writes nothing
pub record IsStill (who : Who) (act : Act) (q : Reply) : Type 0 where
  pub published : (root : Digest) (last : Option Who) → publisher_after root last who act q ≡ last
  pub written : was_written act q ≡ false

still : (own : List CoreEvent) (who : Who) (act : Act) (q : Reply) (blob : Named) → blob_by own act q ≡ Some blob → IsStill who act q
still own who (Open slot r) q blob is = record { published = λ root last. refl; written = refl }
still own who (Read slot off len) q blob is = record { published = λ root last. refl; written = refl }
still own who (Scan slot) q blob is = record { published = λ root last. refl; written = refl }
still own who act q blob is = absurd cc

publisher_more : (root : Digest) (last : Option Who) (es : List CoreEvent) (e : CoreEvent) → publisher root last (es ++ e ∷ []) ≡ publisher_after root (publisher root last es) e.who e.act e.reply
publisher_more root last [] e = refl
publisher_more root last (x ∷ es) e = publisher_more root (publisher_after root last x.who x.act x.reply) es e

puts_more : (told : List Event) (es : List CoreEvent) (e : CoreEvent) (who : Who) → was_written e.act e.reply ≡ false → put_blocks told (es ++ e ∷ []) who ≡ put_blocks told es who
puts_more told es e who quiet =
    let test : CoreEvent → Bool = λ x. same_who x.who who && was_written x.act x.reply in
    ap (λ (xs : List CoreEvent). map (λ x. written_at (event_at told x.calls)) xs)
    (filter-append test es (e ∷ []) ∙ ap (λ (b : Bool). filter test es ++ cond (same_who e.who who && b) (e ∷ []) []) quiet ∙ none (same_who e.who who) ∙ append-nil (filter test es))
  where
    none : (b : Bool) → filter (λ x. same_who x.who who && was_written x.act x.reply) es ++ cond (b && false) (e ∷ []) [] ≡ filter (λ x. same_who x.who who && was_written x.act x.reply) es ++ []
    none true = refl
    none false = refl

blocks_more : (base : Blocks) (told : List Event) (es : List CoreEvent) (e : CoreEvent) (root : Digest) (o : Option Who) → was_written e.act e.reply ≡ false → blocks_by base told (es ++ e ∷ []) root o ≡ blocks_by base told es root o
blocks_more base told es e root None quiet = refl
blocks_more base told es e root (Some who) quiet = puts_more told es e who quiet

-- each event before ended within the last one's calls
ends : (n : ℕ) (xs : List CoreEvent) (e : CoreEvent) → NeverFall n (xs ++ e ∷ []) → AllByRecursion (λ x. x.calls ≤ e.calls) xs × (n ≤ e.calls)
ends n [] e never = (tt, never.0)
ends n (x ∷ xs) e never = let rest = ends x.calls xs e never.1 in ((rest.1, rest.0), omega (arith, never.0, rest.1))

-- ---- a line's blob

module _ (base : Blocks) (told : List Event) (h : History) (next : ℕ) (at : At) (legal : Legal h next) (about : IsAbout h at) where
  abbrev root : Digest
  root = at.blob.0

  abbrev then : List CoreEvent
  then = at.before ++ at.own ∷ []

  quiet : IsStill at.own.who at.own.act at.own.reply
  quiet = still (events_of at.own.who.session at.before) at.own.who at.own.act at.own.reply at.blob about.blob

  same_publisher : publisher root None then ≡ publisher root None at.before
  same_publisher = publisher_more root None at.before at.own ∙ quiet.published root (publisher root None at.before)

  same_blocks : (o : Option Who) → blocks_by base (take at.own.calls told) then root o ≡ blocks_by base told at.before root o
  same_blocks o =
      let all = ends 0 at.before at.own (legal_then h next at legal about).calls in
      known_by_then base told then root o at.own.calls
      (All-push (λ (x : CoreEvent). x.calls ≤ at.own.calls) at.before at.own (All-from_recursion (λ (x : CoreEvent). x.calls ≤ at.own.calls) at.before all.0) (omega arith))
      ∙ blocks_more base told at.before at.own root o quiet.written

  same_there : there_at base (take at.own.calls told) then root ≡ stored_at base told h at
  same_there =
      ap (map (block (now_at base told h at)))
      (same_blocks (publisher root None then) ∙ ap (blocks_by base told at.before root) same_publisher)

  moment_holds : (blob : Blob) → find (last_state (up_to h then) next).map root ≡ Some blob → blob.size ≡ at.blob.1
      → HoldsThere base (take at.own.calls told) then root blob → (o : Option Who) → publisher root None at.before ≡ o → HoldsBy base told h at o
  moment_holds blob is size holds None none =
      sym same_there ∙ holds.opening (same_publisher ∙ none) ∙ ap (map (block base)) (same_blocks None)
  moment_holds blob is size holds (Some who) some =
      let version : blob.version ≡ h.version = subst (λ (o : Option Who). IsOf h.version (opening_map h) root blob o) (same_publisher ∙ some) ((versioned_last (up_to h then) next root (legal_then h next at legal about)).told blob is) in
      let verifies = holds.published (ap is_some (same_publisher ∙ some)) in
      subst (λ (p : ℕ × ℕ × List (List ℕ)). ContentsVerify root p.0 p.1 p.2) (λ i. (size i, version i, same_there i)) verifies

-- where the disk has the blob of each such line as its own event ends, its blocks hold theirs
pub lines_hold : (base : Blocks) (told : List Event) (h : History) (next : ℕ) → Legal h next
    → ((at : At) → IsAbout h at → (blob : Blob) → find (last_state (up_to h (at.before ++ at.own ∷ [])) next).map at.blob.0 ≡ Some blob
    → HoldsThere base (take at.own.calls told) (at.before ++ at.own ∷ []) at.blob.0 blob)
    → LinesHoldTheirs base told h
lines_hold base told h next legal each at about =
    by (find (last_state (up_to h (at.before ++ at.own ∷ [])) next).map at.blob.0) refl (has_then h next at legal about) where
      by : (o : Option Blob) → find (last_state (up_to h (at.before ++ at.own ∷ [])) next).map at.blob.0 ≡ o → IsSomeAnd o (λ b. b.size ≡ at.blob.1) → HoldsBy base told h at (publisher at.blob.0 None at.before)
      by None is size = absurd size
      by (Some blob) is size = moment_holds base told h next at legal about blob is size (each at about blob is) (publisher at.blob.0 None at.before) refl

pub moments_hold : MomentsHoldTheirs
moments_hold base told h next legal each =
    lines_hold base told h next legal (λ at about blob is. each at.before at.own about.rest about.is at.blob.0 blob is)
