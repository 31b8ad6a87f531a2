-- Blobs whose last block waits to be hashed, and the damaged ones among them.
use Rattle.std.specs.Prelude.{◌≤◌, ℕ, List, [], ◌∷◌, ◌++◌, length, if◌then◌else◌}
use Rattle.std.specs.List.{flat_map}
use Rattle.sha2.specs.Sha256.{sha256}
use Rattle.spec_tree.specs.declared.Digest.{Digest}
use Rattle.spec_tree.specs.Order.{same_digest}
use Rattle.bv_check.specs.declared.last_block.LastBlock.{LastBlock}
use Rattle.bv_check.specs.declared.data_hasher.Ending.{Ending}
use Rattle.bv_check.specs.declared.data_hasher.Ending.TheVariants as endings
use Rattle.bv_check.specs.declared.waiting.Waiting.{Waiting}
use Rattle.bv_check.specs.declared.waiting.Looked.{Looked}

-- what is hashed of a last block
abbrev pub last_bytes : LastBlock → List ℕ
last_bytes last = last.prefix ++ last.block

-- the digest of a last block
abbrev pub last_digest : LastBlock → Digest
last_digest last = record { 0 = sha256 (last_bytes last) }

-- the root with which the bytes of a blob end
abbrev pub ending_root : Ending → Digest
ending_root (endings.Root root) = root
ending_root (endings.Last last) = last_digest last

-- the root, where another one was found
abbrev pub unless_found : Digest → Digest → List Digest
unless_found root found = if same_digest found root then [] else root ∷ []

-- the roots of those that have another one
abbrev pub damaged_among : List Waiting → List Digest
damaged_among ws = flat_map (λ w. unless_found w.root (last_digest w.last)) ws

-- all roots of damaged blobs among those that were looked at
abbrev pub damaged_of : Looked → List Digest
damaged_of l = l.roots.items ++ damaged_among l.waiting.items

-- at most eight wait
abbrev pub AreFew : Looked → Type 0
AreFew l = length l.waiting.items ≤ 8
