-- FormatStop of the plan: a walk along it, from the old head over zeros to the new superblock.
use Rattle.std.proofs.Common.{◌≡◌, ◌≢◌, ◌⊎◌, ◌<◌, ◌≤◌, ℕ, zero, suc, ◌+◌, List, [], ◌∷◌, ◌++◌, length, take, replicate, true, cond, refl, ap, sym, ◌∙◌, subst, inl, inr, arith, set, lit≤}
use Rattle.std.proofs.lemmas.List.{take-replicate, get_or-set_same, get_or-set_other}
use Rattle.std.proofs.lemmas.Bool.Decides.{eqb_tells}
use Rattle.spec_disk.specs.declared.event.Event.{Event}
use Rattle.spec_disk.specs.declared.event.Event.TheVariants.{Write, Sync}
use Rattle.spec_disk.specs.Disk.{Blocks, block, sector, now_after, synced_after}
use Rattle.spec_disk.specs.Images.{written_to, pending, IsImage, IsSettled}
use Rattle.spec_disk.proofs.EventLemmas.{now_after-append, length-now_after, pending-push, pending-push_sync, synced_after-push, synced_after-push_sync}
use Rattle.spec_disk.proofs.ImageLemmas.{Contains-cons_cases, Contains-one, image-quiet, image-settled, IsSettled-push_sync}
use Rattle.spec_disk.proofs.BlockLemmas.{image-one_sector}
use Rattle.spec_disk.proofs.SettledLemmas.{image-from_settled}
use Rattle.spec_record.specs.declared.geometry.Geometry.{Geometry}
use Rattle.spec_record.specs.Geometry.{IsGeometry, total_blocks}
use Rattle.spec_record.specs.Superblock.{super_bytes}
use Rattle.spec_image.specs.Empty.{zero_block, empty_behind, empty_super, BeginsEmpty}
use Rattle.spec_crash.specs.Format.{head, HasOldHead, HasNoHead, IsEmptyVolume, FormatStop}
use Rattle.spec_crash.proofs.FormatLemmas.{head-refused}
use Rattle.bv_device.specs.Told.{Disk, disk_with}
use Rattle.bv_device.specs.Plan.{writes, a_sync}
use Rattle.bv_device.specs.Crash.{EachStop}
use Rattle.bv_device.proofs.CrashLemmas.{Walks, EachKeeps, Crash-walk, Walks-append, Walks-kept, EachKeeps-end}
use Rattle.bv_format.specs.Plan.{behind_plan, super_plan, format_plan}
use Rattle.spec_image.proofs.EmptyLemmas.{BeginsEmpty-is}
use Rattle.bv_format.proofs.SuperLemmas.{super-other_sectors}
use Rattle.bv_format.proofs.PlanLemmas.{behind_made, all_made, behind_made-at, BeginsEmpty-made, plan-unsynced}

-- The three cases of an image

pub IsEmptyVolume-begins : (g : Geometry) (j : Blocks) → IsGeometry g → BeginsEmpty g j → IsEmptyVolume g j
IsEmptyVolume-begins g j lawful begins =
    let is = BeginsEmpty-is g j lawful begins in
    record { made = is.0; empty = is.1 }

zero_head : sector zero_block 0 ≡ replicate 512 0
unfolding zero_block
zero_head = take-replicate 512 8192 0 (lit≤ tt)

HasNoHead-zeros : (j : Blocks) → head j ≡ replicate 512 0 → HasNoHead j
HasNoHead-zeros j zeros = record { zeros = zeros; refused = head-refused j (length j) zeros }

HasNoHead-block : (j : Blocks) → block j 0 ≡ zero_block → HasNoHead j
HasNoHead-block j is = HasNoHead-zeros j (ap (λ (bytes : List ℕ). sector bytes 0) is ∙ zero_head)

-- what an image has after k events of the plan, on a disk that was `now` at the call
abbrev At : Blocks → Geometry → ℕ → Blocks → Type 0
At now g k j = ((head j ≡ head now) × (k ≤ 1)) ⊎ (HasNoHead j ⊎ IsEmptyVolume g j)

-- Block 0 is zeros, and nothing is pending there

pub record ZeroHead (x : Disk) : Type 0 where
  pub quiet : pending x.trace 0 ≡ []
  pub synced : block (synced_after x.base x.trace) 0 ≡ zero_block
  pub now : block (now_after x.base x.trace) 0 ≡ zero_block

EachStop-zero_head : (x : Disk) → ZeroHead x → EachStop x HasNoHead
EachStop-zero_head x s j i = HasNoHead-block j (image-quiet x.base x.trace j 0 i s.quiet ∙ s.synced)

elsewhere : (at : ℕ) (bytes : List ℕ) (b : ℕ) → at ≢ b → written_to b (Write at bytes true ∷ []) ≡ []
elsewhere at bytes b other = elim (eqb_tells at b) [
  | inl t ↦ absurd (other (t.1))
  | inr f ↦ ap (λ t. cond t (bytes ∷ []) []) (f.0)
]

quiet-write : (x : Disk) (at : ℕ) (bytes : List ℕ) (b : ℕ) → at ≢ b → pending x.trace b ≡ [] → pending (x.trace ++ Write at bytes true ∷ []) b ≡ []
quiet-write x at bytes b other quiet = pending-push x.trace (Write at bytes true) b refl ∙ rw (quiet, elsewhere at bytes b other)

ZeroHead-write : (x : Disk) (at : ℕ) (bytes : List ℕ) → 1 ≤ at → ZeroHead x → ZeroHead (disk_with x (Write at bytes true ∷ []))
ZeroHead-write x at bytes behind s = record {
  quiet = quiet-write x at bytes 0 (λ e. absurd (omega (arith, e, behind))) s.quiet;
  synced = ap (λ (d : Blocks). block d 0) (synced_after-push x.base x.trace (Write at bytes true) refl) ∙ s.synced;
  now = ap (λ (d : Blocks). block d 0) (now_after-append x.base x.trace (Write at bytes true ∷ []))
      ∙ get_or-set_other (now_after x.base x.trace) at 0 bytes [] (λ e. absurd (omega (arith, e, behind))) ∙ s.now;
}

ZeroHead-sync : (x : Disk) → ZeroHead x → ZeroHead (disk_with x (Sync true ∷ []))
ZeroHead-sync x s = record {
  quiet = pending-push_sync x.trace 0;
  synced = ap (λ (d : Blocks). block d 0) (synced_after-push_sync x.base x.trace) ∙ s.now;
  now = ap (λ (d : Blocks). block d 0) (now_after-append x.base x.trace (Sync true ∷ [])) ∙ s.now;
}

EachKeeps-behind : (at : ℕ) (blocks : Blocks) → 1 ≤ at → EachKeeps ZeroHead (writes at blocks ++ a_sync)
EachKeeps-behind at [] behind = (ZeroHead-sync, tt)
EachKeeps-behind at (bytes ∷ rest) behind = (λ x s. ZeroHead-write x at bytes behind s, EachKeeps-behind (at + 1) rest (omega (arith, behind)))

-- The first phase

-- the disk that was `now` at the call, with these events
abbrev from : Blocks → List Event → Disk
from now events = record { base = now; trace = events }

abbrev cleared : List Event
cleared = Write 0 zero_block true ∷ Sync true ∷ []

EachStop-old : (now : Blocks) (g : Geometry) → EachStop (from now []) (At now g 0)
EachStop-old now g j i = inl (ap (λ (d : Blocks). head d) (image-settled now [] j (λ b. refl) i), omega arith)

EachStop-clearing : (now : Blocks) (g : Geometry) → EachStop (from now (Write 0 zero_block true ∷ [])) (At now g 1)
EachStop-clearing now g j i =
    elim (Contains-cons_cases (head now) (sector zero_block 0 ∷ []) (head j) (i.each_sector 0 0)) [
      | inl old ↦ inl (sym old, omega arith)
      | inr new ↦ inr (inl (HasNoHead-zeros j (sym (Contains-one (sector zero_block 0) (head j) new) ∙ zero_head)))
    ]

ZeroHead-cleared : (now : Blocks) → 0 < length now → ZeroHead (from now cleared)
ZeroHead-cleared now some =
    let zeros : block (set now 0 zero_block) 0 ≡ zero_block = get_or-set_same now 0 zero_block [] some in
    record { quiet = refl; synced = zeros; now = zeros }

-- The last phase

-- all behind the superblock is on the device for good, and block 0 is zeros
pub record Behind (now : Blocks) (g : Geometry) (x : Disk) : Type 0 where
  pub head : ZeroHead x
  pub settled : IsSettled x.trace
  pub base : length x.base ≡ length now
  pub synced : synced_after x.base x.trace ≡ behind_made g now
  pub is : now_after x.base x.trace ≡ behind_made g now

abbrev written : Geometry → List Event → List Event
written g trace = trace ++ Write 0 (super_bytes (empty_super g)) true ∷ []

-- with the superblock pending: it is there or it isn't
EachStop-pending : (now : Blocks) (g : Geometry) (x : Disk) → IsGeometry g → total_blocks g ≤ length now → Behind now g x
    → EachStop (disk_with x (Write 0 (super_bytes (empty_super g)) true ∷ [])) (λ j. HasNoHead j ⊎ IsEmptyVolume g j)
EachStop-pending now g x lawful room s j i =
    let sup : List ℕ = super_bytes (empty_super g) in
    let once : pending (written g x.trace) 0 ≡ sup ∷ [] = pending-push x.trace (Write 0 sup true) 0 refl ∙ ap (λ (ws : List (List ℕ)). ws ++ (sup ∷ [])) s.head.quiet in
    let synced : synced_after x.base (written g x.trace) ≡ synced_after x.base x.trace = synced_after-push x.base x.trace (Write 0 sup true) refl in
    let zeros : block (synced_after x.base (written g x.trace)) 0 ≡ zero_block = ap (λ (d : Blocks). block d 0) synced ∙ s.head.synced in
    let others : (t : ℕ) → t ≢ 0 → sector sup t ≡ sector (block (synced_after x.base (written g x.trace)) 0) t =
    λ t ne. super-other_sectors (empty_super g) t (omega (arith, ne)) ∙ ap (λ (bytes : List ℕ). sector bytes t) (sym zeros) in
    elim (image-one_sector x.base (written g x.trace) j 0 0 sup once others i) [
      | inl old ↦ inl (HasNoHead-block j (old ∙ zeros))
      | inr new ↦ inr (IsEmptyVolume-begins g j lawful (record {
        room = omega (arith, room, i.as_long, s.base);
        super = new;
        behind = λ k below.
            image-quiet x.base (written g x.trace) j (1 + k) i (quiet-write x 0 sup (1 + k) (λ e. absurd (omega (arith, e))) (s.settled (1 + k)))
            ∙ ap (λ (d : Blocks). block d (1 + k)) (synced ∙ s.synced)
            ∙ behind_made-at now g lawful room k below;
      }))
    ]

-- once it is synced
EachStop-made : (now : Blocks) (g : Geometry) (x : Disk) → IsGeometry g → total_blocks g ≤ length now → Behind now g x
    → EachStop (disk_with (disk_with x (Write 0 (super_bytes (empty_super g)) true ∷ [])) a_sync) (λ j. HasNoHead j ⊎ IsEmptyVolume g j)
EachStop-made now g x lawful room s j i =
    let sup : List ℕ = super_bytes (empty_super g) in
    let made : now_after x.base (written g x.trace) ≡ all_made g now =
    now_after-append x.base x.trace (Write 0 sup true ∷ []) ∙ ap (λ (d : Blocks). set d 0 sup) s.is in
    let is : j ≡ all_made g now =
    image-settled x.base (written g x.trace ++ Sync true ∷ []) j (IsSettled-push_sync (written g x.trace)) i
    ∙ synced_after-push_sync x.base (written g x.trace) ∙ made in
    inr (IsEmptyVolume-begins g j lawful (subst (BeginsEmpty g) (sym is) (BeginsEmpty-made now g lawful room)))

-- The whole walk

Walks-weaker : (P Q : ℕ → Blocks → Type 0) (d : Disk) (plan : List Event) (n : ℕ) → ((k : ℕ) (j : Blocks) → P k j → Q k j) → Walks d plan P n → Walks d plan Q n
Walks-weaker P Q d [] n weaker w = λ j i. weaker n j (w j i)
Walks-weaker P Q d (e ∷ plan) n weaker w = (λ j i. weaker n j (w.0 j i), Walks-weaker P Q (disk_with d (e ∷ [])) plan (n + 1) weaker (w.1))

Behind-written : (now : Blocks) (g : Geometry) → ZeroHead (disk_with (from now cleared) (behind_plan g)) → Behind now g (disk_with (from now cleared) (behind_plan g))
Behind-written now g s =
    let events : List Event = cleared ++ writes 1 (empty_behind g) in
    record {
      head = s;
      settled = IsSettled-push_sync events;
      base = refl;
      synced = synced_after-push_sync now events;
      is = now_after-append now events a_sync;
    }

Walks-super : (now : Blocks) (g : Geometry) (x : Disk) (n : ℕ) → IsGeometry g → total_blocks g ≤ length now → Behind now g x → Walks x (super_plan g) (At now g) n
Walks-super now g x n lawful room s = (
  λ j i. inr (inl (EachStop-zero_head x s.head j i)),
  (λ j i. inr (EachStop-pending now g x lawful room s j i), λ j i. inr (EachStop-made now g x lawful room s j i)),
)

Walks-format : (now : Blocks) (g : Geometry) → IsGeometry g → total_blocks g ≤ length now → Walks (from now []) (format_plan g) (At now g) 0
Walks-format now g lawful room =
    let start : ZeroHead (from now cleared) = ZeroHead-cleared now (omega (arith, room)) in
    let keeps : EachKeeps ZeroHead (behind_plan g) = EachKeeps-behind 1 (empty_behind g) (omega arith) in
    let end : ZeroHead (disk_with (from now cleared) (behind_plan g)) = EachKeeps-end ZeroHead (from now cleared) (behind_plan g) keeps start in
    let kept : Walks (from now cleared) (behind_plan g) (λ _. HasNoHead) 2 = Walks-kept ZeroHead HasNoHead (from now cleared) (behind_plan g) 2 EachStop-zero_head keeps start in
    let behind : Walks (from now cleared) (behind_plan g) (At now g) 2 = Walks-weaker (λ _. HasNoHead) (At now g) (from now cleared) (behind_plan g) 2 (λ k j h. inr (inl h)) kept in
    let last = Walks-super now g (disk_with (from now cleared) (behind_plan g)) (2 + length (behind_plan g)) lawful room (Behind-written now g end) in
    (EachStop-old now g, (EachStop-clearing now g, Walks-append (from now cleared) (behind_plan g) (super_plan g) (At now g) 2 behind last))

-- FormatStop of the plan
pub FormatStop-plan : (base : Blocks) (before : List Event) (g : Geometry) → IsGeometry g → total_blocks g ≤ length base → FormatStop base before (format_plan g) g
FormatStop-plan base before g lawful room settled n j le i =
    let now : Blocks = now_after base before in
    let long : total_blocks g ≤ length now = omega (arith, room, length-now_after base before) in
    let crash = Crash-walk (from now []) (format_plan g) (At now g) (Walks-format now g lawful long) in
    elim (crash n le j (image-from_settled base j before (take n (format_plan g)) settled i)) [
      | inl old ↦ inl (record { old = old.0; unsynced = plan-unsynced g n (old.1) })
      | inr other ↦ inr other
    ]

-- on a device that isn't touched
stop-none : (base : Blocks) (before : List Event) (g : Geometry) (n : ℕ) (j : Blocks) → IsSettled before → n ≤ 0 → IsImage base (before ++ take n []) j
    → HasOldHead base before (take n []) j ⊎ (HasNoHead j ⊎ IsEmptyVolume g j)
stop-none base before g zero j settled le i =
    let is : j ≡ now_after base before = image-settled (now_after base before) [] j (λ b. refl) (image-from_settled base j before [] settled i) in
    inl (record { old = ap (λ (d : Blocks). head d) is; unsynced = refl })
stop-none base before g (suc n) j settled le i = absurd (omega (arith, le))

pub FormatStop-none : (base : Blocks) (before : List Event) (g : Geometry) → FormatStop base before [] g
FormatStop-none base before g settled n j le i = stop-none base before g n j settled le i
