-- A superblock has all its fields in its first sector: in all others it is a block of zeros.
use Rattle.std.proofs.Common.{◌≡◌, ◌≤◌, ℕ, zero, suc, ◌+◌, ◌-◌, ◌*◌, List, [], ◌∷◌, ◌++◌, length, take, drop, replicate, refl, ap, ◌∙◌, arith}
use Rattle.std.proofs.lemmas.List.{length-append, drop-replicate, append-nil}
use Rattle.std.proofs.Math.Seq.{drop-append-add}
use Rattle.spec_disk.specs.Disk.{sector}
use Rattle.spec_record.specs.declared.superblock.Super.{Super}
use Rattle.spec_record.specs.Field.{bytes_of, spelled, total_width}
use Rattle.spec_record.specs.Superblock.{super_widths, super_rows, super_bytes}
use Rattle.spec_record.proofs.FieldLemmas.{length-bytes_of}
use Rattle.spec_record.proofs.TableLemmas.{spelled-append}
use Rattle.spec_image.specs.Empty.{zero_block}

bytes_of-zero : (width : ℕ) → bytes_of width 0 ≡ replicate width 0
unfolding bytes_of
bytes_of-zero zero = refl
bytes_of-zero (suc width) = ap (λ (rest : List ℕ). 0 ∷ rest) (bytes_of-zero width)

length-spelling : (widths numbers : List ℕ) → length widths ≡ length numbers → length (spelled widths numbers) ≡ total_width widths
length-spelling [] numbers same = refl
length-spelling (w ∷ ws) [] same = absurd (omega (arith, same))
length-spelling (w ∷ ws) (n ∷ ns) same =
    omega (arith, length-append (bytes_of w n) (spelled ws ns), length-bytes_of w n, length-spelling ws ns (omega (arith, same)))

-- a sector that lies behind the front has zeros alone
zeros-behind : (front : List ℕ) (zeros at skip : ℕ) → at ≡ length front + skip → drop at (front ++ replicate zeros 0) ≡ drop at (replicate (length front + zeros) 0)
zeros-behind front zeros at skip at_is =
    let past : drop at (front ++ replicate zeros 0) ≡ drop skip (replicate zeros 0) = ap (λ (n : ℕ). drop n (front ++ replicate zeros 0)) at_is ∙ drop-append-add front (replicate zeros 0) skip in
    let left : zeros - skip ≡ (length front + zeros) - at = omega (arith, at_is) in
    let counted : replicate {A = ℕ} (zeros - skip) 0 ≡ replicate ((length front + zeros) - at) 0 = ap (λ (n : ℕ). replicate n 0) left in
    rw (past, drop-replicate {X = ℕ} skip zeros 0, drop-replicate {X = ℕ} at (length front + zeros) 0) counted

sector-behind : (front : List ℕ) (zeros s : ℕ) → length front ≤ 512 → 1 ≤ s → sector (front ++ replicate zeros 0) s ≡ sector (replicate (length front + zeros) 0) s
sector-behind front zeros s short after =
    let at_is : 512 * s ≡ length front + (512 * s - length front) = omega (arith, short, after) in
    ap (λ (bytes : List ℕ). take 512 bytes) (zeros-behind front zeros (512 * s) (512 * s - length front) at_is)

-- the numbers of all rows but the last
abbrev front_rows : Super → List ℕ
front_rows s = take 12 (super_rows s)

super-zeros : (s : Super) → super_bytes s ≡ spelled (take 12 super_widths) (front_rows s) ++ replicate 8104 0
super-zeros s =
    spelled-append (take 12 super_widths) (8104 ∷ []) (front_rows s) (0 ∷ []) refl
    ∙ ap (λ (rest : List ℕ). spelled (take 12 super_widths) (front_rows s) ++ rest) (append-nil (bytes_of 8104 0) ∙ bytes_of-zero 8104)

pub super-other_sectors : (s : Super) (t : ℕ) → 1 ≤ t → sector (super_bytes s) t ≡ sector zero_block t
unfolding zero_block
super-other_sectors s t after =
    let front : List ℕ = spelled (take 12 super_widths) (front_rows s) in
    let long : length front ≡ 88 = length-spelling (take 12 super_widths) (front_rows s) refl in
    let whole : length front + 8104 ≡ 8192 = omega (arith, long) in
    ap (λ (bytes : List ℕ). sector bytes t) (super-zeros s)
    ∙ sector-behind front 8104 t (omega (arith, long)) after
    ∙ ap (λ (n : ℕ). sector (replicate n 0) t) whole
