-- The adds of sessions as the history tells of them, and how far each is.
use Rattle.std.specs.Prelude.{◌≡◌, ◌<◌, ◌∷◌, ◌++◌, [], ℕ, Bool, true, false, List, length, map, is_some, Option, None, Some, IfSome, IsSomeAnd}
use Rattle.std.specs.Global.{Vec}
use Rattle.spec_disk.specs.Disk.{block}
use Rattle.spec_disk.specs.declared.event.Event.{Event}
use Rattle.spec_disk.specs.declared.event.Event.TheVariants as device
use Rattle.spec_record.specs.Geometry.{block_at}
use Rattle.spec_record.specs.declared.geometry.Geometry.{Geometry}
use Rattle.spec_tree.specs.Tree.{need_of}
use Rattle.spec_tree.specs.declared.Digest.{Digest}
use Rattle.spec_core.specs.History.{History}
use Rattle.spec_core.specs.State.{find}
use Rattle.spec_core.specs.declared.event.CoreEvent.{CoreEvent}
use Rattle.spec_crash.specs.Timing.{event_at, IsOkWrite, IsWritten}
use Rattle.spec_session.specs.Conform.{events_of}
use Rattle.spec_session.specs.Own.{OwnAdd, add_of, new_add}
use Rattle.spec_orderly.specs.Orderly.{AreInOrder}
use Rattle.spec_served.specs.Adds.{puts_of}
use Rattle.bv_device.specs.Told.{Disk, now_of}
use Rattle.bv_space.specs.Owned.{Owned}
use Rattle.bv_store.specs.Stored.{Stored}
use Rattle.bv_writer.specs.Blocks.{IsBlobOf}
pub use Rattle.bv_volume.specs.Contents.{bytes_of}
use Rattle.bv_volume.specs.Contents.{KeepsContents}
use Rattle.bv_volume.specs.Located.{Located}
use Rattle.bv_volume.specs.Seen.{Seen}
use Rattle.bv_volume.specs.declared.tokens.Admitted.{Admitted}
use Rattle.bv_volume.specs.declared.tokens.Begun.{Begun}

-- the add that a session has under way
abbrev pub own_add : History → ℕ → Option OwnAdd
own_add h session = add_of (events_of session h.events)

-- the blocks that the add of a session with these events has written, by the device's events
abbrev pub blocks_written : List Event → List CoreEvent → List (List ℕ)
blocks_written trace own = map (λ c. bytes_of (event_at trace c)) (puts_of own)

-- each put that was written is, by the number of its calls, an Ok write of the device's
abbrev pub PutsAreWrites : List Event → List CoreEvent → Type 0
PutsAreWrites trace [] = Unit {0}
PutsAreWrites trace (e ∷ es) =
    (IsWritten e → IsSomeAnd (event_at trace e.calls) IsOkWrite) × PutsAreWrites trace es

-- ---- what the calls ask

-- the session has no add of another root
abbrev pub MayBegin : History → ℕ → Digest → Type 0
MayBegin h session r = IfSome (own_add h session) (λ a. a.root ≡ r)

-- the session has begun this add, which isn't admitted
abbrev pub HasBegun : History → ℕ → Begun → Type 0
HasBegun h session b = own_add h session ≡ Some (new_add b.root b.size)

-- the session has this add, which is admitted and of which so many blocks were put
abbrev pub HasAdmitted : History → ℕ → Admitted → Type 0
HasAdmitted h session a =
    own_add h session ≡ Some (record { root = a.root; size = a.size; admitted = true; puts = a.put })

-- all blocks of the session's add were put and, where the device tells, they are the blocks, tree and
-- data in their order, of bytes with its root and size
pub record HasPut (v : Seen) (session : ℕ) (a : Admitted) : Type 0 where
  pub all : a.put ≡ need_of v.history.version a.size
  pub there : IfSome v.store.told (λ d. IsBlobOf v.history.version a.root a.size
      (blocks_written d.trace (events_of session v.history.events)))

-- ---- what a volume keeps

-- these data blocks were written by the device's events at these numbers, and hold what was written
abbrev pub AreWrites : Geometry → Disk → List ℕ → List ℕ → Type 0
AreWrites g d [] [] = Unit {0}
AreWrites g d [] (b ∷ bs) = ⊥
AreWrites g d (c ∷ cs) [] = ⊥
AreWrites g d (c ∷ cs) (b ∷ bs) =
    (event_at d.trace c
    ≡ Some (device.Write (block_at g b) (block (now_of d) (block_at g b)) true))
    × AreWrites g d cs bs

-- an add that isn't admitted has no blocks
pub record Waits (adds : List (Digest × Vec ℕ)) (nodes : List (Digest × ℕ)) (a : OwnAdd) : Type 0
  where
    pub puts : a.puts ≡ 0
    pub blocks : Vec ℕ
    pub has : find adds a.root ≡ Some blocks
    pub none : blocks.items ≡ []
    pub unset : find nodes a.root ≡ None

-- an admitted add has as many blocks as its blob needs; the first were put, and hold what was put
pub record Works (version : ℕ) (adds : List (Digest × Vec ℕ)) (nodes : List (Digest × ℕ))
    (g : Geometry) (told : Option Disk) (puts : List ℕ) (a : OwnAdd) : Type 0 where
  pub blocks : Vec ℕ
  pub has : find adds a.root ≡ Some blocks
  pub need : length blocks.items ≡ need_of version a.size
  pub aside : is_some (find nodes a.root) ≡ true
  pub done : List ℕ
  pub rest : List ℕ
  pub parts : blocks.items ≡ done ++ rest
  pub count : length done ≡ a.puts
  pub wrote : IfSome told (λ d. AreWrites g d puts done)

-- an add, by whether it is admitted
abbrev pub Stands : Bool → ℕ → List (Digest × Vec ℕ) → List (Digest × ℕ) → Geometry → Option Disk
    → List ℕ → OwnAdd → Type 0
Stands false version adds nodes g told puts a = Waits adds nodes a
Stands true version adds nodes g told puts a = Works version adds nodes g told puts a

-- each session takes its adds on in order, and the space has the blocks of each; a disk that is told
-- has all data blocks of the volume, and each put's write; and blobs lie where the history says
pub record AllStand (h : History) (adds : List (Digest × Vec ℕ)) (nodes : List (Digest × ℕ))
    (g : Geometry) (began told : Option Disk) (placed : List (Digest × List ℕ)) : Type 0 where
  pub order : AreInOrder [] h.events
  pub each : (session : ℕ) (a : OwnAdd) → own_add h session ≡ Some a
      → Stands a.admitted h.version adds nodes g told (puts_of (events_of session h.events)) a
  pub room : IfSome told (λ d. (b : ℕ) → b < g.blocks → block_at g b < length d.base)
  pub puts : IfSome told (λ d. PutsAreWrites d.trace h.events)
  pub located : Located h g began told placed
  pub contents : KeepsContents h g told placed

-- the same of the parts of a volume
abbrev pub Ordered : History → Owned → Stored → Type 0
Ordered h o s = AllStand h o.adds o.nodes s.geometry s.began s.told s.placed
