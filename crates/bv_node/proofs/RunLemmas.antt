-- Runs of blocks: they have the blocks, and no other extents that have them are fewer.
use Rattle.std.proofs.Common.{◌≡◌, ◌<◌, ◌≤◌, ℕ, zero, suc, ◌+◌, ◌-◌, List, [], ◌∷◌, ◌++◌, length, Bool, true, false, cond, eqb, ltb, ◌&&◌, refl, ap, sym, ◌∙◌, subst, arith}
use Rattle.std.proofs.lemmas.List.Elements.{All-nil, All-cons, All-head, All-tail}
use Rattle.std.specs.Prelude.{All}
use Rattle.std.specs.List.{range_with_len}
use Rattle.spec_record.specs.declared.extent.Extent.{Extent}
use Rattle.spec_record.specs.Tests.{IsBetween}
use Rattle.spec_image.specs.Stored.{blocks_of}
use Rattle.bv_node.specs.Runs.{extends, runs_from, runs, AreFewest}

-- each has between 1 and 65,535 blocks
abbrev Lens : List Extent → Type 0
Lens [] = Unit {0}
Lens (e ∷ es) = (1 ≤ e.len) × (e.len ≤ 65535) × Lens es

-- extents of these blocks, not more than so many
record Trimmed (ds : List ℕ) (most : ℕ) : Type 0 where
  pub es : List Extent
  pub lens : Lens es
  pub blocks : blocks_of es ≡ ds
  pub few : length es ≤ most

-- one block less takes no more extents
trim : (x : ℕ) (ds : List ℕ) (es : List Extent) → Lens es → blocks_of es ≡ x ∷ ds → Trimmed ds (length es)
trim x ds [] lens e = absurd cc
trim x ds (o ∷ os) lens e = by_len o.start o.len lens.0 lens.1 e
  where
    by_len : (s n : ℕ) → 1 ≤ n → n ≤ 65535 → range_with_len s n ++ blocks_of os ≡ x ∷ ds → Trimmed ds (suc (length os))
    by_len s zero some few e = absurd (omega (arith, some))
    by_len s (suc zero) some few e = record { es = os; lens = lens.2; blocks = cc; few = omega arith }
    by_len s (suc (suc n)) some few e = record {
      es = (record { start = s + 1; len = suc n }) ∷ os;
      lens = (omega arith, omega (arith, few), lens.2);
      blocks = cc;
      few = omega arith;
    }

-- nor do some blocks less
trims : (xs ds : List ℕ) (es : List Extent) → Lens es → blocks_of es ≡ xs ++ ds → Trimmed ds (length es)
trims [] ds es lens e = record { es = es; lens = lens; blocks = e; few = omega arith }
trims (x ∷ xs) ds es lens e =
    let one = trim x (xs ++ ds) es lens e in
    let rest = trims xs ds one.es one.lens one.blocks in
    record { es = rest.es; lens = rest.lens; blocks = rest.blocks; few = omega (arith, rest.few, one.few) }

-- where the block behind a run doesn't go on with it, or the run is as long as can be, the first of
-- any extents that have them ends in the run
split : (n s c d : ℕ) (ds : List ℕ) (m t : ℕ) (os : List Extent) → range_with_len t m ++ blocks_of os ≡ range_with_len s (suc n) ++ d ∷ ds → 1 ≤ m → m ≤ c → Lens os → (d ≡ s + suc n → suc n < c → ⊥)
    → Trimmed (d ∷ ds) (length os)
split n s c d ds zero t os e some few lens ends = absurd (omega (arith, some))
split zero s c d ds (suc zero) t os e some few lens ends = record { es = os; lens = lens; blocks = cc; few = omega arith }
split zero s c d ds (suc (suc m)) t os e some few lens ends =
    let first : t ≡ s = cc in
    let next : t + 1 ≡ d = cc in
    absurd (ends (omega (arith, first, next)) (omega (arith, few)))
split (suc n) s c d ds (suc zero) t os e some few lens ends =
    let rest : blocks_of os ≡ range_with_len (s + 1) (suc n) ++ d ∷ ds = cc in
    trims (range_with_len (s + 1) (suc n)) (d ∷ ds) os lens rest
split (suc n) s c d ds (suc (suc m)) t os e some few lens ends =
    let rest : range_with_len (t + 1) (suc m) ++ blocks_of os ≡ range_with_len (s + 1) (suc n) ++ d ∷ ds = cc in
    split n (s + 1) (c - 1) d ds (suc m) (t + 1) os rest (omega arith) (omega (arith, few)) lens (λ is less. ends (omega (arith, is)) (omega (arith, less)))

range_more : (n s : ℕ) (ds : List ℕ) → range_with_len s (suc n) ++ ds ≡ range_with_len s n ++ (s + n) ∷ ds
range_more zero s ds =
    let same : s ≡ s + 0 = omega arith in ap (λ (x : ℕ). x ∷ ds) same
range_more (suc n) s ds =
    let same : s + 1 + n ≡ s + suc n = omega arith in
    ap (λ (xs : List ℕ). s ∷ xs) (range_more n (s + 1) ds ∙ ap (λ (x : ℕ). range_with_len (s + 1) n ++ x ∷ ds) same)

-- what the test of a run says
record GoesOn (s n d : ℕ) : Type 0 where
  pub next : d ≡ s + n
  pub room : n < 65535

both_true : (a b : Bool) → (a && b) ≡ true → (a ≡ true) × (b ≡ true)
both_true true b e = (refl, e)
both_true false b e = absurd cc

goes_on : (s n d : ℕ) → extends (record { start = s; len = n }) d ≡ true → GoesOn s n d
goes_on s n d e =
    let parts = both_true (eqb d (s + n)) (ltb n 65535) e in
    let is : eqb d (s + n) ≡ true = parts.0 in
    let less : ltb n 65535 ≡ true = parts.1 in
    record { next = grind (arith, is); room = grind (arith, less) }

ends_here : (s n d : ℕ) → extends (record { start = s; len = n }) d ≡ false → d ≡ s + n → n < 65535 → ⊥
ends_here s n d e is less =
    let a : eqb d (s + n) ≡ true = grind (arith, is) in
    let b : ltb n 65535 ≡ true = grind (arith, less) in
    let yes : (eqb d (s + n) && ltb n 65535) ≡ true = rw (a, b) refl in
    absurd cc

abbrev run : ℕ → ℕ → Extent
run s n = record { start = s; len = n }

-- the runs have between 1 and 65,535 blocks each
runs_lens : (ds : List ℕ) (s n : ℕ) → 1 ≤ n → n ≤ 65535 → Lens (runs_from (run s n) ds)
runs_lens [] s n some few = (some, few, tt)
runs_lens (d ∷ ds) s n some few =
    step (extends (run s n) d) refl (λ room. runs_lens ds s (n + 1) (omega arith) (omega (arith, room))) (runs_lens ds d 1 (omega arith) (omega arith))
  where
    step : (t : Bool) → extends (run s n) d ≡ t → (n < 65535 → Lens (runs_from (run s (n + 1)) ds)) → Lens (runs_from (run d 1) ds) → Lens (cond t (runs_from (run s (n + 1)) ds) (run s n ∷ runs_from (run d 1) ds))
    step true e longer next = longer (goes_on s n d e).room
    step false e longer next = (some, few, next)

-- they have the blocks
runs_blocks : (ds : List ℕ) (s n : ℕ) → blocks_of (runs_from (run s n) ds) ≡ range_with_len s n ++ ds
runs_blocks [] s n = refl
runs_blocks (d ∷ ds) s n =
    step (extends (run s n) d) refl (runs_blocks ds s (n + 1)) (runs_blocks ds d 1)
  where
    step : (t : Bool) → extends (run s n) d ≡ t → blocks_of (runs_from (run s (n + 1)) ds) ≡ range_with_len s (n + 1) ++ ds → blocks_of (runs_from (run d 1) ds) ≡ d ∷ ds
        → blocks_of (cond t (runs_from (run s (n + 1)) ds) (run s n ∷ runs_from (run d 1) ds)) ≡ range_with_len s n ++ d ∷ ds
    step true e longer next =
        let one : n + 1 ≡ suc n = omega arith in
        longer ∙ ap (λ (k : ℕ). range_with_len s k ++ ds) one ∙ range_more n s ds
        ∙ ap (λ (x : ℕ). range_with_len s n ++ x ∷ ds) (sym (goes_on s n d e).next)
    step false e longer next = ap (λ (xs : List ℕ). range_with_len s n ++ xs) next

-- no others are fewer
greedy : (ds : List ℕ) (s n : ℕ) (others : List Extent) → Lens others → blocks_of others ≡ range_with_len s (suc n) ++ ds → length (runs_from (run s (suc n)) ds) ≤ length others
greedy ds s n [] lens e = absurd cc
greedy [] s n (o ∷ os) lens e = omega arith
greedy (d ∷ ds) s n (o ∷ os) lens e =
    step (extends (run s (suc n)) d) refl (greedy ds s (suc n) (o ∷ os) lens) (greedy ds d 0)
  where
    step : (t : Bool) → extends (run s (suc n)) d ≡ t → (blocks_of (o ∷ os) ≡ range_with_len s (suc (suc n)) ++ ds → length (runs_from (run s (suc (suc n))) ds) ≤ suc (length os))
        → ((rest : List Extent) → Lens rest → blocks_of rest ≡ d ∷ ds → length (runs_from (run d 1) ds) ≤ length rest)
        → length (cond t (runs_from (run s (suc n + 1)) ds) (run s (suc n) ∷ runs_from (run d 1) ds)) ≤ suc (length os)
    step true more longer next =
        let one : suc n + 1 ≡ suc (suc n) = omega arith in
        let g = goes_on s (suc n) d more in
        let same : blocks_of (o ∷ os) ≡ range_with_len s (suc (suc n)) ++ ds = e ∙ ap (λ (x : ℕ). range_with_len s (suc n) ++ x ∷ ds) g.next ∙ sym (range_more (suc n) s ds) in
        subst (λ (k : ℕ). length (runs_from (run s k) ds) ≤ suc (length os)) (sym one) (longer same)
    step false last longer next =
        let rest = split n s 65535 d ds o.len o.start os e lens.0 lens.1 lens.2 (ends_here s (suc n) d last) in
        omega (arith, next rest.es rest.lens rest.blocks, rest.few)

-- ---- both ways between the two words for all

all_lens : (es : List Extent) → Lens es → All (λ e. IsBetween 1 e.len 65535) es
all_lens [] lens = All-nil (λ e. IsBetween 1 e.len 65535)
all_lens (e ∷ es) lens =
    All-cons (λ x. IsBetween 1 x.len 65535) e es (record { from_low = lens.0; to_high = lens.1 }) (all_lens es lens.2)

lens_all : (es : List Extent) → All (λ e. IsBetween 1 e.len 65535) es → Lens es
lens_all [] all = tt
lens_all (e ∷ es) all =
    let head = All-head (λ x. IsBetween 1 x.len 65535) e es all in
    (head.from_low, head.to_high, lens_all es (All-tail (λ x. IsBetween 1 x.len 65535) e es all))

pub runs_fewest : (ds : List ℕ) → AreFewest ds (runs ds)
runs_fewest [] = record {
  runs = record { lens = All-nil (λ e. IsBetween 1 e.len 65535); blocks = refl };
  fewest = λ others are. omega arith;
}
runs_fewest (d ∷ ds) = record {
  runs = record {
    lens = all_lens (runs_from (run d 1) ds) (runs_lens ds d 1 (omega arith) (omega arith));
    blocks = runs_blocks ds d 1;
  };
  fewest = λ others are. greedy ds d 0 others (lens_all others are.lens) are.blocks;
}

-- extents that are the runs
pub fewest_of : (ds : List ℕ) (es : List Extent) → es ≡ runs ds → AreFewest ds es
fewest_of ds es is = subst (AreFewest ds) (sym is) (runs_fewest ds)
