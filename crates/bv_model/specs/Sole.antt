-- Entries by their roots: how many a root has.
use Rattle.std.specs.Prelude.{ℕ, ◌≤◌, List}
use Rattle.std.specs.List.{count_by}
use Rattle.std.specs.BTreeMap.{is_at}
use Rattle.spec_tree.specs.declared.Digest.{Digest}
use Rattle.spec_tree.specs.Order.{digest_cmp}

-- how many entries a root has
abbrev pub entries_at : {X : Type 0} → Digest → List (Digest × X) → ℕ
entries_at r es = count_by (λ e. is_at (digest_cmp r) e.0) es

-- each root is there at most once
abbrev pub Sole : {X : Type 0} → List (Digest × X) → Type 0
Sole es = (r : Digest) → entries_at r es ≤ 1
