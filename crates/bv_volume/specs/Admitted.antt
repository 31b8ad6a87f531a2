-- What an admit answers.
use Rattle.std.specs.Prelude.{◌≡◌, ◌<◌, ◌≤◌, ◌+◌, ◌-◌, ℕ, List, length, sum, Option, None, Some, Result, Ok, Err}
use Rattle.std.specs.Global.{Vec}
use Rattle.std.specs.Map.{values_of}
use Rattle.spec_tree.specs.declared.Digest.{Digest}
use Rattle.spec_core.specs.declared.reply.Reply.{Reply}
use Rattle.spec_core.specs.declared.reply.Reply.TheVariants as replies
use Rattle.spec_core.specs.State.{find}
use Rattle.bv_claims.specs.Blocks.{IsPartOf, Rises}
use Rattle.bv_claims.specs.Tokens.{block_count, claimed_gained, claimed_left}
use Rattle.bv_claims.specs.declared.claims.Claims.{Claims}
use Rattle.bv_claims.specs.declared.claimed.Claimed.{Claimed}
use Rattle.bv_ledger.specs.declared.faults.NoNodes.{NoNodes}
use Rattle.bv_volume.specs.Seen.{Seen}
use Rattle.bv_volume.specs.Spaced.{nodes_at}
use Rattle.bv_volume.specs.declared.admitting.AdmitFault.{AdmitFault}
use Rattle.bv_volume.specs.declared.admitting.AdmitFault.TheVariants as admit
use Rattle.bv_volume.specs.declared.tokens.Admitted.{Admitted}
use Rattle.bv_volume.specs.declared.tokens.Begun.{Begun}

-- the reply of an admit
abbrev pub admit_reply : Result Admitted AdmitFault → Option Reply
admit_reply (Ok a) = Some replies.Admitted
admit_reply (Err (admit.Stopped f)) = Some (replies.Stopped f)
admit_reply (Err (admit.NoMemory b c)) = None
admit_reply (Err (admit.NoNodes need free)) = Some (replies.NoNodes need free)

-- want of memory hands back the add and its claim
abbrev pub HandsBoth : Result Admitted AdmitFault → Begun → Claimed → Type 0
HandsBoth (Err (admit.NoMemory b c)) begun claimed = (b ≡ begun) × (c ≡ claimed)
HandsBoth _ begun claimed = Unit {0}

-- how many nodes neither the map's blobs nor adds take
abbrev pub free_in : Seen → ℕ
free_in v = v.store.geometry.nodes - v.store.used_nodes - sum (values_of v.space.nodes)

-- blocks to which a claim was completed: those that it gained, and as many more as were left
pub record Gathered (claims : Claims) (claimed : Claimed) (blocks : List ℕ) : Type 0 where
  pub gained : IsPartOf (claimed_gained claimed) blocks
  pub need : length blocks ≡ length (claimed_gained claimed) + claimed_left claimed
  pub rising : Rises 1 blocks (block_count claims)

-- so many nodes are what the blocks take to which the claim was completed
pub record IsNeedOf (claims : Claims) (claimed : Claimed) (need : ℕ) : Type 0 where
  pub blocks : List ℕ
  pub gathered : Gathered claims claimed blocks
  pub is : need ≡ nodes_at blocks

-- the add has the blocks to which its claim was completed, and these take no more than so many nodes
pub record IsGiven (adds : List (Digest × Vec ℕ)) (root : Digest) (claims : Claims)
    (claimed : Claimed) (free : ℕ) : Type 0 where
  pub blocks : Vec ℕ
  pub has : find adds root ≡ Some blocks
  pub gathered : Gathered claims claimed blocks.items
  pub enough : nodes_at blocks.items ≤ free

-- no-nodes tells of more nodes than neither the map's blobs nor the adds have: those of the blocks
-- that were gathered; an add that was admitted takes no more than these have
abbrev pub TellsNodes : Seen → Seen → Claimed → Result Admitted AdmitFault → Type 0
TellsNodes old new claimed (Ok a) =
    IsGiven new.space.adds a.root old.space.claims claimed (free_in old)
TellsNodes old new claimed (Err (admit.NoNodes need free)) =
    (free < need) × (free ≡ free_in old) × IsNeedOf old.space.claims claimed need
TellsNodes old new claimed (Err e) = Unit {0}

-- the token, or the nodes that were too few
abbrev pub IsAnswer : Result (Unit {0}) NoNodes → Result Admitted AdmitFault → Digest → ℕ → Type 0
IsAnswer (Ok v) result r n = result ≡ Ok (record { root = r; size = n; put = 0 })
IsAnswer (Err e) result r n = result ≡ Err (admit.NoNodes e.need e.free)
