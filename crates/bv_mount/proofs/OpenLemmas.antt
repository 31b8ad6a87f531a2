-- What each step of an opening says of an image, joined.
use Rattle.std.proofs.Common.{◌≡◌, ℕ, List, [], ◌∷◌, length, Option, Some, None, Result, Ok, Err, refl, ap, sym, ◌∙◌, subst}
use Rattle.std.specs.Result.{result_ok}
use Rattle.spec_disk.specs.Disk.{Blocks, block}
use Rattle.spec_record.specs.declared.geometry.Geometry.{Geometry}
use Rattle.spec_record.specs.declared.info.Info.{Info}
use Rattle.spec_record.specs.declared.superblock.Super.{Super}
use Rattle.spec_record.specs.declared.super_fault.SuperFault.{SuperFault}
use Rattle.spec_record.specs.declared.super_fault.SuperFault.TheVariants as supers
use Rattle.spec_record.specs.Field.{field, number_of}
use Rattle.spec_record.specs.Superblock.{super_in, super_or_fault, super_of}
use Rattle.spec_image.specs.After.{after}
use Rattle.spec_image.specs.Volume.{replayed_super}
use Rattle.spec_meta.specs.Blocks.{counts_in}
use Rattle.spec_inspect.specs.Faults.{or_fault}
use Rattle.spec_inspect.specs.Readable.{super_or_why, info_or_why, or_moved, readable_with, readable}
use Rattle.spec_inspect.specs.declared.open_fault.OpenFault.{OpenFault}
use Rattle.spec_inspect.specs.declared.open_fault.OpenFault.TheVariants as opening
use Rattle.spec_inspect.specs.Faults.{◌>>=◌}
use Rattle.spec_inspect.proofs.OutcomeLemmas.{kept_some, same_is, super_is}
use Rattle.spec_record.specs.Laws.{SpellsSuper}
use Rattle.spec_record.specs.Superblock.{IsSuper, super_bytes}
use Rattle.bv_mount.specs.Opens.{Refuses, IsOutside, IsSpelled, IsFirst, kept_super}

-- a refusal that is due to a first step is due to all of it
pub Refuses-first : {A B : Type 0} (due : Result A OpenFault) (next : A → Result B OpenFault) (f : OpenFault) → Refuses due f → Refuses (due >>= next) f
Refuses-first due next (opening.Super f) refuses = ap (λ r. r >>= next) refuses
Refuses-first due next (opening.Replay f) refuses = ap (λ r. r >>= next) refuses
Refuses-first due next opening.Moved refuses = ap (λ r. r >>= next) refuses
Refuses-first due next (opening.DeviceFault count) refuses = tt
Refuses-first due next opening.NoMemory refuses = tt

-- one that is due to a second step is, where the first gave what it goes on with
pub Refuses-second : {A B : Type 0} (first : Result A OpenFault) (next : A → Result B OpenFault) (x : A) (f : OpenFault) → first ≡ Ok x → Refuses (next x) f → Refuses (first >>= next) f
Refuses-second first next x f is refuses = subst (λ r. Refuses (r >>= next) f) (sym is) refuses

-- what comes from outside may come at any image
pub Refuses-outside : {A : Type 0} (due : Result A OpenFault) (f : OpenFault) → IsOutside f → Refuses due f
Refuses-outside due (opening.Super f) outside = absurd outside
Refuses-outside due (opening.Replay f) outside = absurd outside
Refuses-outside due opening.Moved outside = absurd outside
Refuses-outside due (opening.DeviceFault count) outside = tt
Refuses-outside due opening.NoMemory outside = tt

-- a refusal of the superblock is one of the image
pub refuse_super : (j : Blocks) (f : OpenFault) → Refuses (super_or_why j) f → Refuses (readable j) f
unfolding readable
refuse_super j f refuses = Refuses-first (super_or_why j) (λ s. readable_with s.geometry j) f refuses

-- ---- the superblock of a device

no_magic : super_or_fault [] 0 ≡ Err supers.Magic
unfolding super_or_fault field number_of
no_magic = refl

-- an image without a block has none
pub no_super : (j : Blocks) → length j ≡ 0 → super_or_why j ≡ Err (opening.Super supers.Magic)
no_super [] none = ap (or_fault (λ f. opening.Super f)) no_magic
no_super (b ∷ bs) none = absurd cc

-- what was read of block 0, on a device of so many blocks
pub super_read : (j : Blocks) (bytes : List ℕ) (n : ℕ) (r : Result Super SuperFault) → r ≡ super_or_fault bytes n → length j ≡ n → bytes ≡ block j 0
    → super_or_why j ≡ or_fault (λ f. opening.Super f) r
super_read j bytes n r read count is =
    ap (or_fault (λ f. opening.Super f)) (sym (read ∙ λ i. super_or_fault (is i) (sym count i)))

-- ---- the superblock that the replay leaves

or_moved_ok : (o : Option Super) (s : Super) → or_moved o ≡ Ok s → o ≡ Some s
or_moved_ok None s e = absurd cc
or_moved_ok (Some x) s e = cc

-- the counts that a superblock's block says are its own
counts_are : (bytes : List ℕ) (n : ℕ) (s : Super) → super_of bytes n ≡ Some s → counts_in s.geometry bytes ≡ s
counts_are bytes n s is =
    let value : super_in bytes ≡ s = super_is bytes n s is in
    λ i. record { geometry = s.geometry; blobs = (value i).blobs; used_blocks = (value i).used_blocks; used_nodes = (value i).used_nodes }

-- a block that was read as a superblock spells it
pub is_spelled : (bytes : List ℕ) (n : ℕ) (s : Super) → super_or_fault bytes n ≡ Ok s → SpellsSuper bytes n s → IsSpelled s.geometry bytes
is_spelled bytes n s read spells =
    let counts : counts_in s.geometry bytes ≡ s = counts_are bytes n s (ap result_ok read) in
    record {
      lawful = subst IsSuper (sym counts) spells.lawful;
      bytes_are = spells.bytes_are ∙ ap super_bytes (sym counts);
    }

-- what was read of block 0 of a device, which is the image's
pub first_read : (j : Blocks) (bytes : List ℕ) (n : ℕ) (s : Super) → Ok s ≡ super_or_fault bytes n → SpellsSuper bytes n s → length j ≡ n → bytes ≡ block j 0 → IsFirst j s
first_read j bytes n s read spells count is = record {
  read = super_read j bytes n (Ok s) read count is;
  head = subst (λ (b : List ℕ). IsSpelled s.geometry b) is (is_spelled bytes n s (sym read) spells);
}

-- a superblock that is kept has this geometry, and is what the block counts
pub record IsKept (g : Geometry) (bytes : List ℕ) (s : Super) : Type 0 where
  pub geometry : s.geometry ≡ g
  pub counts : counts_in s.geometry bytes ≡ s

pub kept_is : (g : Geometry) (bytes : List ℕ) (n : ℕ) (s : Super) → Ok s ≡ or_moved (kept_super g bytes n) → IsKept g bytes s
kept_is g bytes n s e =
    let found = kept_some g (super_of bytes n) s (or_moved_ok (kept_super g bytes n) s (sym e)) in
    record { geometry = same_is s.geometry g found.1; counts = counts_are bytes n s found.0 }

-- ---- all of it

-- the superblock that the replay leaves, as it was read
pub moved_same : (g : Geometry) (j : Blocks) (meta : Blocks) (n : ℕ) → meta ≡ after g j → length j ≡ n → or_moved (kept_super g (block meta 0) n) ≡ or_moved (replayed_super g j)
moved_same g j meta n is count = λ i. or_moved (kept_super g (block (is i) 0) (sym count i))

module _ (j : Blocks) (s0 : Super) (first : super_or_why j ≡ Ok s0) where
  g : Geometry
  g = s0.geometry

  pub refuse_first : (f : OpenFault) → Refuses (info_or_why s0.geometry j) f → Refuses (readable j) f
  unfolding readable
  refuse_first f refuses = Refuses-second (super_or_why j) (λ s. readable_with s.geometry j) s0 f first (Refuses-first (info_or_why s0.geometry j) _ f refuses)

  module _ (info : Info) (read : info_or_why s0.geometry j ≡ Ok info) where
    pub refuse_moved : (f : OpenFault) → Refuses (or_moved (replayed_super s0.geometry j)) f → Refuses (readable j) f
    unfolding readable
    refuse_moved f refuses =
        Refuses-second (super_or_why j) (λ s. readable_with s.geometry j) s0 f first
        (Refuses-second (info_or_why s0.geometry j) _ info f read (Refuses-first (or_moved (replayed_super s0.geometry j)) _ f refuses))

    pub readable_all : (s : Super) → or_moved (replayed_super s0.geometry j) ≡ Ok s → readable j ≡ Ok (record { info = info; super = s })
    unfolding readable
    readable_all s moved =
        ap (λ (r : Result Super OpenFault). r >>= λ x. readable_with x.geometry j) first
        ∙ ap (λ (r : Result Info OpenFault). r >>= λ i. or_moved (replayed_super s0.geometry j) >>= λ x. Ok (record { info = i; super = x })) read
        ∙ ap (λ (r : Result Super OpenFault). r >>= λ x. Ok (record { info = info; super = x })) moved
