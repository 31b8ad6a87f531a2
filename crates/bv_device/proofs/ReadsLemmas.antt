-- Runs that only read: joined, and their answers weakened.
use Rattle.std.proofs.Common.{◌≡◌, ℕ, length, Option, Some, None, IfSome, refl, ◌∙◌, subst}
use Rattle.spec_disk.specs.Disk.{Blocks}
use Rattle.spec_disk.proofs.EventLemmas.{length-now_after}
use Rattle.bv_device.specs.Told.{Disk, now_of}
use Rattle.bv_device.specs.Seen.{Seen}
use Rattle.bv_device.specs.Reads.{ReadsRight, Sees, CountsReported, OnlyReads, Reads}

-- the counts of two runs, of which the first reported nothing
counts-append : (reported : Option ℕ) (before mid now : ℕ) → CountsReported None before mid → CountsReported reported mid now → CountsReported reported before now
counts-append None before mid now first second = second ∙ first
counts-append (Some fault) before mid now first second =
    subst (λ (n : ℕ). CountsReported (Some fault) n now) first second

pub OnlyReads-append : (reported : Option ℕ) (old mid new : Seen) → OnlyReads None old mid → OnlyReads reported mid new → OnlyReads reported old new
OnlyReads-append reported old mid new first second = record {
  told = second.told ∙ first.told;
  blocks = second.blocks ∙ first.blocks;
  calls = second.calls ∙ first.calls;
  faults = counts-append reported old.fault_count mid.fault_count new.fault_count first.faults second.faults;
}

sees-weaker : (told : Option Disk) (P Q : Blocks → Type 0) → ((j : Blocks) → P j → Q j) → IfSome told (λ d. ReadsRight d → P (now_of d)) → IfSome told (λ d. ReadsRight d → Q (now_of d))
sees-weaker None P Q weaker sees = tt
sees-weaker (Some d) P Q weaker sees = λ right. weaker (now_of d) (sees right)

sees-both : (told : Option Disk) (P Q R : Blocks → Type 0) → ((j : Blocks) → P j → Q j → R j) → IfSome told (λ d. ReadsRight d → P (now_of d)) → IfSome told (λ d. ReadsRight d → Q (now_of d))
    → IfSome told (λ d. ReadsRight d → R (now_of d))
sees-both None P Q R both first second = tt
sees-both (Some d) P Q R both first second = λ right. both (now_of d) (first right) (second right)

-- a run that reports no fault leaves what is seen
pub OnlyReads-same : (old new : Seen) → OnlyReads None old new → new ≡ old
OnlyReads-same old new only =
    let told = only.told in
    let blocks = only.blocks in
    let calls = only.calls in
    let faults = only.faults in
    λ i. record { told = told i; block_count = blocks i; calls_made = calls i; fault_count = faults i }

-- nothing was read
pub Reads-nothing : (s : Seen) (P : Blocks → Type 0) → Sees s P → Reads None s s P
Reads-nothing s P sees = record { only = record { told = refl; blocks = refl; calls = refl; faults = refl }; now = sees }

-- what holds of every image is seen
pub Sees-all : (s : Seen) (P : Blocks → Type 0) → ((j : Blocks) → P j) → Sees s P
Sees-all s P all = all_told s.told where
  all_told : (told : Option Disk) → IfSome told (λ d. ReadsRight d → P (now_of d))
  all_told None = tt
  all_told (Some d) = λ right. all (now_of d)

-- an answer that says less
pub Reads-weaker : (reported : Option ℕ) (old new : Seen) (P Q : Blocks → Type 0) → Reads reported old new P → ((j : Blocks) → P j → Q j) → Reads reported old new Q
Reads-weaker reported old new P Q reads weaker = record { only = reads.only; now = sees-weaker old.told P Q weaker reads.now }

-- one run after another
pub Reads-append : (reported : Option ℕ) (old mid new : Seen) (P Q R : Blocks → Type 0) → Reads None old mid P → Reads reported mid new Q → ((j : Blocks) → P j → Q j → R j)
    → Reads reported old new R
Reads-append reported old mid new P Q R first second both = record {
  only = OnlyReads-append reported old mid new first.only second.only;
  now = sees-both old.told P Q R both first.now (subst (λ (told : Option Disk). IfSome told (λ d. ReadsRight d → Q (now_of d))) first.only.told second.now);
}

-- ---- how many blocks are seen

-- an image that is seen has as many blocks as the device
pub Sees-length : (s : Seen) → IfSome s.told (λ d. length d.base ≡ s.block_count) → Sees s (λ j. length j ≡ s.block_count)
Sees-length s count = counted s.told count where
  counted : (told : Option Disk) → IfSome told (λ d. length d.base ≡ s.block_count) → IfSome told (λ d. ReadsRight d → length (now_of d) ≡ s.block_count)
  counted None count = tt
  counted (Some d) count = λ right. length-now_after d.base d.trace ∙ count
