-- A mount without an event keeps the theorem of stops where its blobs stay.
use Rattle.std.proofs.Common.{◌≡◌, ℕ, nat_le, ◌&&◌, List, [], ◌++◌, length, take, refl, ap, sym, subst, inl, inr, arith}
use Rattle.std.proofs.lemmas.Bool.{cases_lt}
use Rattle.std.proofs.lemmas.List.{take-append-le}
use Rattle.spec_tree.specs.declared.Digest.{Digest}
use Rattle.spec_tree.specs.declared.blob.Blob.{Blob}
use Rattle.spec_disk.specs.declared.event.Event.{Event}
use Rattle.spec_disk.specs.Disk.{Blocks}
use Rattle.spec_disk.specs.Images.{IsImage}
use Rattle.spec_disk.proofs.ImageLemmas.{image-settled}
use Rattle.spec_image.specs.Chance.{NoChance}
use Rattle.spec_core.specs.declared.event.CoreEvent.{CoreEvent}
use Rattle.spec_core.specs.History.{History, setting_of, opening_map, first_state, log_of}
use Rattle.spec_core.specs.Synced.{synced_by, last_or, lengths_where, lengths_from, tells_durable}
use Rattle.spec_crash.specs.Crash.{HoldsWhole, HoldsPrefix, CrashPrefix}
use Rattle.spec_crash.proofs.TimingLemmas.{IsTimed-none}
use Rattle.spec_crash.proofs.CrashLemmas.{HoldsWhole-empty}
use Rattle.spec_image.specs.Leaves.{LeavesWithin}
use Rattle.spec_laws.specs.Keeps.{KeepsBlobs}

none_synced : (h : History) (n : ℕ) → h.events ≡ [] → synced_by h n ≡ 0
none_synced h n none = ap (λ (es : List CoreEvent). last_or 0 (lengths_where (λ e. tells_durable e.reply && nat_le e.calls n) (lengths_from (setting_of h) (first_state (opening_map h) 0) es))) none

holds_none : (h : History) (n : ℕ) (j : Blocks) → h.events ≡ [] → HoldsWhole j (opening_map h) → HoldsPrefix h n j
holds_none h n j none holds = record {
  count = 0;
  durable = omega (arith, none_synced h n none);
  logged = omega arith;
  boundary = inl refl;
  holds = holds;
}

pub keeps_theorem : (base : Blocks) (events : List Event) (h : History) → h.events ≡ [] → KeepsBlobs base events (opening_map h) → CrashPrefix base events h
keeps_theorem base events h none keeps = record {
  stops = λ n j within image chance. holds_none h n j none (keeps n within j image chance);
  timed = IsTimed-none events h none;
}

pub theorem_keeps : (base : Blocks) (events : List Event) (h : History) → log_of h ≡ [] → CrashPrefix base events h → KeepsBlobs base events (opening_map h)
theorem_keeps base events h empty crash n within j image chance = HoldsWhole-empty h n j empty (crash.stops n j within image chance)

pub keeps_first : (base : Blocks) (held : List (Digest × Blob)) → HoldsWhole base held → KeepsBlobs base [] held
keeps_first base held holds n within j image chance =
    let first : n ≡ 0 = omega (arith, within) in
    let same : j ≡ base = image-settled base [] j (λ b. refl) (subst (λ k. IsImage base (take k []) j) first image) in
    subst (λ x. HoldsWhole x held) (sym same) holds

pub keeps_more : (base : Blocks) (events more : List Event) (held : List (Digest × Blob)) → KeepsBlobs base events held → LeavesWithin base events more (λ j. HoldsWhole j held) → KeepsBlobs base (events ++ more) held
keeps_more base events more held keeps later n within j image chance =
    elim (cases_lt (length events) n) [
      | inl behind ↦ later n behind within j image chance
      | inr before ↦
          let same : take n (events ++ more) ≡ take n events = take-append-le n events more before in
          keeps n before j (subst (λ p. IsImage base p j) same image) (subst (λ p. NoChance base p j) same chance)
    ]
