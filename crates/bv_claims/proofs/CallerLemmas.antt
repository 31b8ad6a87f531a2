-- For callers: what the boss took over, it may free, also after it took over more.
use Rattle.std.proofs.Common.{ℕ, List, ◌++◌, arith}
use Rattle.bv_claims.specs.Blocks.{HaveSameBlocks, IsPartOf}
use Rattle.bv_claims.proofs.Counts.{times-append}

-- what was taken is a part of what the boss owns then
pub taken_is_part : (had blocks has : List ℕ) → HaveSameBlocks has (had ++ blocks) → IsPartOf blocks has
taken_is_part had blocks has same b = let s = same b in let a = times-append b had blocks in omega arith

-- a part that the boss had, and what it took besides
pub part-append : (part had blocks has : List ℕ) → IsPartOf part had → HaveSameBlocks has (had ++ blocks) → IsPartOf (part ++ blocks) has
part-append part had blocks has old same b =
    let s = same b in let a = times-append b had blocks in let p = times-append b part blocks in let o = old b in omega arith

-- either half of a part is a part
pub part_left : (xs ys had : List ℕ) → IsPartOf (xs ++ ys) had → IsPartOf xs had
part_left xs ys had whole b = let a = times-append b xs ys in let w = whole b in omega arith

-- once one half of a part was freed, the other half is still the boss's
pub part_freed : (xs ys had has : List ℕ) → IsPartOf (xs ++ ys) had → HaveSameBlocks had (has ++ xs) → IsPartOf ys has
part_freed xs ys had has whole freed b =
    let a = times-append b xs ys in let w = whole b in let f = freed b in let h = times-append b has xs in omega arith
