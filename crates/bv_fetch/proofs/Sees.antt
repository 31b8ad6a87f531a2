-- What reads give, from read to read.
use Rattle.std.proofs.Common.{◌≡◌, ℕ, List, Option, Some, None, IfSome, Result, Ok, Err, OnOk, refl, ap, sym, ◌∙◌, subst, arith}
use Rattle.std.specs.Prelude.{Contains}
use Rattle.spec_disk.specs.Disk.{block}
use Rattle.spec_disk.specs.Images.{IsSettled}
use Rattle.spec_faults.specs.Faults.{CountsFaults}
use Rattle.spec_rest.specs.Rest.{Map}
use Rattle.bv_device.specs.Told.{Disk, now_of}
use Rattle.spec_record.specs.Geometry.{block_at}
use Rattle.spec_record.specs.declared.geometry.Geometry.{Geometry}
use Rattle.bv_store.specs.Stored.{Stored, blocks_in}
use Rattle.bv_fetch.specs.Reading.{OnlyReads, SeesNow}

-- what holds of the disk by two facts
pub sees_two : (s : Stored) (P Q R : Disk → Type 0) → ((d : Disk) → P d → Q d → R d) → SeesNow s P → SeesNow s Q → SeesNow s R
sees_two s P Q R so p q = go s.told p q
  where
    go : (o : Option Disk) → IfSome o (λ d. IfSome s.began (λ b. IsSettled b.trace) → P d) → IfSome o (λ d. IfSome s.began (λ b. IsSettled b.trace) → Q d)
        → IfSome o (λ d. IfSome s.began (λ b. IsSettled b.trace) → R d)
    go None p q = tt
    go (Some d) p q = λ settled. so d (p settled) (q settled)

-- by one
pub sees_so : (s : Stored) (P R : Disk → Type 0) → ((d : Disk) → P d → R d) → SeesNow s P → SeesNow s R
sees_so s P R so p = sees_two s P P R (λ d x y. so d x) p p

-- by what is told, whatever reads give
pub sees_given : (s : Stored) (P R : Disk → Type 0) → IfSome s.told P → SeesNow s (λ d. P d → R d) → SeesNow s R
sees_given s P R told h = go s.told told h
  where
    go : (o : Option Disk) → IfSome o P → IfSome o (λ d. IfSome s.began (λ b. IsSettled b.trace) → P d → R d) → IfSome o (λ d. IfSome s.began (λ b. IsSettled b.trace) → R d)
    go None p h = tt
    go (Some d) p h = λ settled. h settled p

-- by none
pub sees_all : (s : Stored) (R : Disk → Type 0) → ((d : Disk) → R d) → SeesNow s R
sees_all s R all = go s.told
  where
    go : (o : Option Disk) → IfSome o (λ d. IfSome s.began (λ b. IsSettled b.trace) → R d)
    go None = tt
    go (Some d) = λ settled. all d

-- reads that were Ok left all as it was
pub record Stays (old new : Stored) (Both New : Map → Map → Type 0) (Held Hold : ℕ → Type 0) : Type 0 where
  pub same : new ≡ old
  pub both : (a b : Map) → Both a b → New a b
  pub held : (b : ℕ) → Hold b → Held b

pub stays_here : (s : Stored) (Both : Map → Map → Type 0) (Held : ℕ → Type 0) → Stays s s Both Both Held Held
stays_here s Both Held = record { same = refl; both = λ a b h. h; held = λ b h. h }

module _ (s mid new : Stored) (Both Mid New : Map → Map → Type 0) (Held Middle Hold : ℕ → Type 0) where
  pub stays_then : Stays s mid Both Mid Held Middle → Stays mid new Mid New Middle Hold → Stays s new Both New Held Hold
  stays_then a b = record {
    same = b.same ∙ a.same;
    both = λ x y h. b.both x y (a.both x y h);
    held = λ x h. a.held x (b.held x h);
  }

  pub reads_then : {T E : Type 0} (r : Result T E) → Stays s mid Both Mid Held Middle → OnlyReads r mid new Mid New Middle Hold → OnlyReads r s new Both New Held Hold
  reads_then r a b = record {
    rest = b.rest ∙ ap (λ (x : Stored). record x { faults = new.faults }) a.same;
    faults = subst (λ (x : Stored). CountsFaults x.faults new.faults r) a.same b.faults;
    both = λ x y h. b.both x y (a.both x y h);
    held = λ x h. a.held x (b.held x h);
  }

module _ (s new : Stored) (Both New : Map → Map → Type 0) (Held Hold : ℕ → Type 0) where
  pub stays_of : {T E : Type 0} (v : T) → OnlyReads {T = T} {E = E} (Ok v) s new Both New Held Hold → Stays s new Both New Held Hold
  stays_of v b = record {
    same = b.rest ∙ ap (λ (x : ℕ). record s { faults = x }) b.faults.kept;
    both = b.both;
    held = b.held;
  }

  pub reads_of : {T E : Type 0} (v : T) → Stays s new Both New Held Hold → OnlyReads {T = T} {E = E} (Ok v) s new Both New Held Hold
  reads_of v a = record {
    rest = a.same ∙ ap (λ (x : Stored). record s { faults = x.faults }) (sym a.same);
    faults = record { later = omega (arith, ap (λ (x : Stored). x.faults) a.same); failed = tt; kept = ap (λ (x : Stored). x.faults) a.same };
    both = a.both;
    held = a.held;
  }

-- one block of a blob that was read
pub one_block : (s : Stored) (x : List ℕ) (at : ℕ) → Contains (blocks_in s.placed) at → IfSome s.told (λ d. IfSome s.began (λ b. IsSettled b.trace) → Contains (blocks_in s.placed) at → x ≡ block (now_of d) (block_at s.geometry at))
    → SeesNow s (λ d. x ≡ block (now_of d) (block_at s.geometry at))
one_block s x at of read = go s.told read
  where
    go : (o : Option Disk) → IfSome o (λ d. IfSome s.began (λ b. IsSettled b.trace) → Contains (blocks_in s.placed) at → x ≡ block (now_of d) (block_at s.geometry at))
        → IfSome o (λ d. IfSome s.began (λ b. IsSettled b.trace) → x ≡ block (now_of d) (block_at s.geometry at))
    go None read = tt
    go (Some d) read = λ settled. read settled of

-- what is seen after reads was so before them
pub sees_on : (s new : Stored) (f : ℕ) (P : Geometry → Disk → Type 0) → new ≡ record s { faults = f } → SeesNow new (P new.geometry) → SeesNow s (P s.geometry)
sees_on s new f P is h = subst (λ (x : Stored). SeesNow x (P x.geometry)) is h

pub sees_same : (s new : Stored) (P : Geometry → Disk → Type 0) → new ≡ s → SeesNow new (P new.geometry) → SeesNow s (P s.geometry)
sees_same s new P is h = subst (λ (x : Stored). SeesNow x (P x.geometry)) is h

pub ok_then : {T E A B : Type 0} (r : Result T E) → OnOk r A → (A → B) → OnOk r B
ok_then (Ok v) a f = f a
ok_then (Err e) a f = tt
