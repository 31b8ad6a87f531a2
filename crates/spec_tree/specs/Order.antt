-- The order of digests, by which maps keep their entries, as the derived `Ord` compares them. This
-- project's profile.
use Rattle.std.specs.Prelude.{Bool}
use Rattle.std.specs.declared.cmp.Ordering.{Ordering}
use Rattle.std.specs.Ordering.{nat_cmp, eq_by_cmp}
use Rattle.std.specs.Cmp.Lexicographic.{slice_cmp}
use Rattle.spec_tree.specs.declared.Digest.{Digest}

-- digests in the order of their bytes: the first byte that differs decides
abbrev pub digest_cmp : Digest → Digest → Ordering
digest_cmp a b = slice_cmp nat_cmp a.0 b.0

-- two digests are one
abbrev pub same_digest : Digest → Digest → Bool
same_digest = eq_by_cmp digest_cmp
