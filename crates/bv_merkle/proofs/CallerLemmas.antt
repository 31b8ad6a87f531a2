-- For callers that feed a hasher window by window.
use Rattle.std.proofs.Common.{◌≡◌, ℕ, ◌+◌, ◌-◌, ◌*◌, ◌/◌, ◌<◌, List, ◌++◌, take, drop, length, length-take, length-drop, ap, sym, ◌∙◌, arith}
use Rattle.std.proofs.Math.Seq.{take-add}
use Rattle.bv_merkle.specs.declared.hasher.RootHasher.{RootHasher}
use Rattle.bv_merkle.specs.Hasher.{Holds, taken}

-- a hasher has taken as many bytes as it holds
pub holds-taken : (h : RootHasher) (m : List ℕ) → Holds h m → taken h ≡ length m
unfolding Holds
holds-taken h m held = held.0

-- the windows so far, and one more
pub window-front : (bytes : List ℕ) (i : ℕ)
    → take (65536 * i) bytes ++ take ((i + 1) * 65536 - i * 65536) (drop (i * 65536) bytes) ≡ take (65536 * (i + 1)) bytes
window-front bytes i =
    let n : ℕ = 65536 * i in
    let from : i * 65536 ≡ n = omega arith in
    let wide : (i + 1) * 65536 - i * 65536 ≡ 65536 = omega arith in
    let next : n + 65536 ≡ 65536 * (i + 1) = omega arith in
    ap (λ (k : ℕ). take n bytes ++ take k (drop (i * 65536) bytes)) wide
    ∙ ap (λ (k : ℕ). take n bytes ++ take 65536 (drop k bytes)) from
    ∙ sym (take-add n 65536 bytes)
    ∙ ap (λ (k : ℕ). take k bytes) next

-- a window of the bytes is whole
pub window-length : (bytes : List ℕ) (i : ℕ) → i < length bytes / 65536
    → length (take ((i + 1) * 65536 - i * 65536) (drop (i * 65536) bytes)) ≡ 65536
window-length bytes i h =
    length-take ((i + 1) * 65536 - i * 65536) (drop (i * 65536) bytes)
    ∙ omega (arith, h, length-drop (i * 65536) bytes)
