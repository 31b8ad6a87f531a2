-- What follows from the crash theorem where the log is empty or durable, and where nothing was done yet.
use Rattle.std.proofs.Common.{◌≡◌, ◌≤◌, ℕ, nat_le, ◌&&◌, List, [], length, take, refl, ap, sym, ◌∙◌, subst, inl, arith}
use Rattle.std.proofs.lemmas.List.{take_all}
use Rattle.spec_disk.specs.Disk.{Blocks}
use Rattle.spec_disk.specs.Images.{IsImage}
use Rattle.spec_disk.proofs.ImageLemmas.{image-settled}
use Rattle.spec_core.specs.History.{History, setting_of, opening_map, first_state, log_of}
use Rattle.spec_core.specs.declared.event.CoreEvent.{CoreEvent}
use Rattle.spec_core.specs.Log.{changed}
use Rattle.spec_core.specs.Synced.{synced_by, last_or, lengths_where, lengths_from, tells_durable}
use Rattle.spec_core.specs.declared.map_change.MapChange.{MapChange}
use Rattle.spec_crash.proofs.TimingLemmas.{IsTimed-none}
use Rattle.spec_crash.specs.Crash.{map_after, HoldsWhole, HoldsPrefix, CrashPrefix}

map_after-all : (h : History) (k : ℕ) → length (log_of h) ≤ k → map_after h k ≡ changed (opening_map h) (log_of h)
map_after-all h k all = ap (λ (l : List MapChange). changed (opening_map h) l) (take_all k (log_of h) all)

pub HoldsWhole-durable : (h : History) (n : ℕ) (j : Blocks) → synced_by h n ≡ length (log_of h) → HoldsPrefix h n j → HoldsWhole j (changed (opening_map h) (log_of h))
HoldsWhole-durable h n j durable p = subst (λ m. HoldsWhole j m) (map_after-all h p.count (omega (arith, durable, p.durable))) p.holds

pub HoldsWhole-empty : (h : History) (n : ℕ) (j : Blocks) → log_of h ≡ [] → HoldsPrefix h n j → HoldsWhole j (opening_map h)
HoldsWhole-empty h n j empty p =
    let none : map_after h p.count ≡ opening_map h =
    map_after-all h p.count (omega (arith, ap (λ (l : List MapChange). length l) empty))
    ∙ ap (λ (l : List MapChange). changed (opening_map h) l) empty in
    subst (λ m. HoldsWhole j m) none p.holds

synced_by-none : (h : History) (n : ℕ) → h.events ≡ [] → synced_by h n ≡ 0
synced_by-none h n none = ap (λ (es : List CoreEvent). last_or 0 (lengths_where (λ e. tells_durable e.reply && nat_le e.calls n) (lengths_from (setting_of h) (first_state (opening_map h) 0) es))) none

-- a mount that has done nothing, of a disk whose blobs are whole
pub CrashPrefix-fresh : (base : Blocks) (h : History) → h.events ≡ [] → HoldsWhole base (opening_map h) → CrashPrefix base [] h
CrashPrefix-fresh base h none holds = record {
  stops = λ n j within image chance.
      let first : n ≡ 0 = omega (arith, within) in
      let same : j ≡ base = image-settled base [] j (λ b. refl) (subst (λ k. IsImage base (take k []) j) first image) in
      record {
        count = 0;
        durable = omega (arith, synced_by-none h n none);
        logged = omega arith;
        boundary = inl refl;
        holds = subst (λ x. HoldsWhole x (opening_map h)) (sym same) holds;
      };
  timed = IsTimed-none [] h none;
}
