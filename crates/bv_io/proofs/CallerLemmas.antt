-- What a caller of `read_all` and `give_all`, or of a loop of its own, joins calls by.
use Rattle.std.proofs.Common.{◌≡◌, ℕ, ◌-◌, List, length, Option, None, Some, IfSome, subst, arith, length-append}
use Rattle.std.specs.Io.KnownBytes.{Consumes}
use Rattle.bv_io.specs.Streams.{taken_count}

-- the count of what was taken is the length of the bytes that were
pub taken_count-Consumes : (P : ℕ → Type 0) (a b : Option (List ℕ)) (bs : List ℕ) → Consumes a b bs → P (length bs) → IfSome (taken_count a b) P
taken_count-Consumes P None b bs p q = tt
taken_count-Consumes P (Some x) None bs p q = absurd p
taken_count-Consumes P (Some x) (Some y) bs p q =
    let same : length bs ≡ length x - length y = simp (p, length-append) (omega arith) in
    subst P same q
