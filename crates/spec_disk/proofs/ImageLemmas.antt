-- What the images of a disk are: where nothing is pending, and with one event more.
use Rattle.std.proofs.Common.{◌≡◌, ◌≤◌, ◌⊎◌, ℕ, zero, suc, ◌+◌, ◌*◌, List, [], ◌∷◌, ◌++◌, length, take, drop, map, Bool, true, false, cond, eqb, refl, ap, sym, ◌∙◌, subst, inl, inr, arith, set}
use Rattle.std.specs.List.{Contains}
use Rattle.std.proofs.lemmas.List.{length-set, drop-drop, take-append-drop, nil_from_length, length-drop, get_or_past, set_past, ext_get_or, get_or-set_same, get_or-set_other}
use Rattle.std.proofs.lemmas.List.Elements.{Contains-push_cases, Contains-append_left, Contains-append_right, Contains-append_cases}
use Rattle.std.proofs.lemmas.Bool.{cases_eq, cases_lt}
use Rattle.std.proofs.lemmas.Bool.Decides.{eqb_tells}
use Rattle.spec_disk.specs.declared.event.Event.{Event}
use Rattle.spec_disk.specs.declared.event.Event.TheVariants.{Write, Sync}
use Rattle.spec_disk.specs.Disk.{block, sector, now_after, unsynced_part, synced_after}
use Rattle.spec_disk.specs.Images.{written_to, pending, candidates, IsImage, IsSettled}
use Rattle.spec_disk.specs.Laws.{IsImageWith}
use Rattle.spec_disk.proofs.EventLemmas.{is_ok_sync, length-now_after, length-synced_after, now_after-from_synced, pending-push_sync, candidates-push}

-- Members of a list

pub Contains-one : {X : Type 0} → (y x : X) → Contains (y ∷ []) x → y ≡ x
Contains-one y x c = elim (Contains-push_cases [] y x c) [ inl (k, below, is) ↦ absurd (omega (arith, below)) | inr is ↦ is ]

pub Contains-head : {X : Type 0} → (x : X) (xs : List X) → Contains (x ∷ xs) x
Contains-head x xs = Contains-append_left (x ∷ []) xs x (0, omega arith, refl)

pub Contains-cons : {X : Type 0} → (y : X) (xs : List X) (x : X) → Contains xs x → Contains (y ∷ xs) x
Contains-cons y xs x c = Contains-append_right (y ∷ []) xs x c

pub Contains-cons_cases : {X : Type 0} → (y : X) (xs : List X) (x : X) → Contains (y ∷ xs) x → (y ≡ x) ⊎ Contains xs x
Contains-cons_cases y xs x c = elim (Contains-append_cases (y ∷ []) xs x c) [ inl one ↦ inl (Contains-one y x one) | inr more ↦ inr more ]

pub Contains-map : {X Y : Type 0} → (f : X → Y) (xs : List X) (x : X) → Contains xs x → Contains (map f xs) (f x)
Contains-map f [] x (k, below, is) = absurd (omega (arith, below))
Contains-map f (y ∷ xs) x c = elim (Contains-cons_cases y xs x c) [
  | inl is ↦ subst (λ z. Contains (f y ∷ map f xs) z) (ap f is) (Contains-head (f y) (map f xs))
  | inr more ↦ Contains-cons (f y) (map f xs) (f x) (Contains-map f xs x more)
]

-- Blocks and disks by their parts

pub same_sectors_within : (m : ℕ) (x y : List ℕ) → length x ≤ 512 * m → length y ≤ 512 * m → ((s : ℕ) → sector x s ≡ sector y s) → x ≡ y
same_sectors_within zero x y hx hy h = nil_from_length x (omega arith) ∙ sym (nil_from_length y (omega arith))
same_sectors_within (suc m) x y hx hy h =
    let next : (s : ℕ) → sector (drop 512 x) s ≡ sector (drop 512 y) s = λ s.
    let e : 512 + 512 * s ≡ 512 * (s + 1) = omega arith in
    rw (drop-drop (512 * s) 512 x, drop-drop (512 * s) 512 y, e) (h (s + 1)) in
    let rest : drop 512 x ≡ drop 512 y = same_sectors_within m (drop 512 x) (drop 512 y) (omega (arith, length-drop 512 x)) (omega (arith, length-drop 512 y)) next in
    let front : take 512 x ≡ take 512 y = h 0 in
    sym (take-append-drop 512 x) ∙ ap (λ (z : List ℕ). z ++ drop 512 x) front ∙ ap (λ (z : List ℕ). take 512 y ++ z) rest ∙ take-append-drop 512 y

-- two blocks with the same sectors are the same
pub same_sectors : (x y : List ℕ) → ((s : ℕ) → sector x s ≡ sector y s) → x ≡ y
same_sectors x y h = same_sectors_within (length x + length y) x y (omega arith) (omega arith) h

-- two disks with the same blocks are the same
pub same_blocks : (x y : List (List ℕ)) → length x ≡ length y → ((b : ℕ) → block x b ≡ block y b) → x ≡ y
same_blocks x y l h = ext_get_or [] x y l (λ b lt. h b)

-- what stands at b after a write at `at`: the new bytes, or what stood there
pub block-set_cases : (d : List (List ℕ)) (at : ℕ) (bytes : List ℕ) (b : ℕ) → ((at ≡ b) × (block (set d at bytes) b ≡ bytes)) ⊎ (block (set d at bytes) b ≡ block d b)
block-set_cases d at bytes b =
    elim (cases_eq at b) [
      | inl same ↦ elim (cases_lt at (length d)) [
        | inl below ↦ inl (same, ap (λ (k : ℕ). block (set d at bytes) k) (sym same) ∙ get_or-set_same d at bytes [] below)
        | inr past ↦ inr (ap (λ (x : List (List ℕ)). block x b) (set_past d at bytes past))
      ]
      | inr other ↦ inr (get_or-set_other d at b bytes [] (λ e. other (sym e)))
    ]

-- Where nothing is pending

pub candidates-quiet : (base : List (List ℕ)) (p : List Event) (b s : ℕ) → pending p b ≡ [] → candidates base p b s ≡ sector (block (synced_after base p) b) s ∷ []
candidates-quiet base p b s quiet = ap (λ (ws : List (List ℕ)). sector (block (synced_after base p) b) s ∷ map (λ w. sector w s) ws) quiet

-- a block that nothing since the last Ok sync writes
pub image-quiet : (base : List (List ℕ)) (p : List Event) (j : List (List ℕ)) (b : ℕ) → IsImage base p j → pending p b ≡ [] → block j b ≡ block (synced_after base p) b
image-quiet base p j b image quiet =
    same_sectors (block j b) (block (synced_after base p) b)
    (λ s. let one = subst (λ cs. Contains cs (sector (block j b) s)) (candidates-quiet base p b s quiet) (image.each_sector b s) in
    sym (Contains-one (sector (block (synced_after base p) b) s) (sector (block j b) s) one))

-- what stood at the last Ok sync is an image
pub image-synced : (base : List (List ℕ)) (p : List Event) → IsImage base p (synced_after base p)
image-synced base p = record {
  as_long = length-synced_after base p;
  each_sector = λ b s. Contains-head (sector (block (synced_after base p) b) s) (map (λ bytes. sector bytes s) (pending p b));
}

pub image-settled : (base : List (List ℕ)) (p : List Event) (j : List (List ℕ)) → IsSettled p → IsImage base p j → j ≡ synced_after base p
image-settled base p j settled image = same_blocks j (synced_after base p) (image.as_long ∙ sym (length-synced_after base p)) (λ b. image-quiet base p j b image (settled b))

pub IsSettled-push_sync : (p : List Event) → IsSettled (p ++ Sync true ∷ [])
IsSettled-push_sync p b = pending-push_sync p b

written_to-cons : (at : ℕ) (bytes : List ℕ) (ok : Bool) (r : List Event) (b : ℕ) (x : List ℕ) → Contains (written_to b r) x → Contains (written_to b (Write at bytes ok ∷ r)) x
written_to-cons at bytes ok r b x c = elim (eqb at b) as (λ t. Contains (cond t (bytes ∷ written_to b r) (written_to b r)) x) [ true ↦ Contains-cons bytes (written_to b r) x c | false ↦ c ]

written_to-here : (at : ℕ) (bytes : List ℕ) (ok : Bool) (r : List Event) (b : ℕ) → at ≡ b → Contains (written_to b (Write at bytes ok ∷ r)) bytes
written_to-here at bytes ok r b same = elim (eqb_tells at b) [
  | inl t ↦ subst (λ k. Contains (cond k (bytes ∷ written_to b r) (written_to b r)) bytes) (sym (t.0)) (Contains-head bytes (written_to b r))
  | inr f ↦ absurd (f.1 same)
]

-- where nothing is written to b, a first write is elsewhere
pub written_to-other : (at : ℕ) (bytes : List ℕ) (ok : Bool) (r : List Event) (b : ℕ) → written_to b (Write at bytes ok ∷ r) ≡ [] → (eqb at b ≡ false) × (written_to b r ≡ [])
written_to-other at bytes ok r b none = elim (eqb_tells at b) [
  | inl t ↦ let never : bytes ∷ written_to b r ≡ [] = sym (ap (λ (k : Bool). cond k (bytes ∷ written_to b r) (written_to b r)) (t.0)) ∙ none in absurd (cc never)
  | inr f ↦ (f.0, sym (ap (λ (k : Bool). cond k (bytes ∷ written_to b r) (written_to b r)) (f.0)) ∙ none)
]

-- what one write more adds to a list of values that a block may have
written-more : (d : List (List ℕ)) (at : ℕ) (bytes : List ℕ) (ok : Bool) (r : List Event) (b : ℕ) (x : List ℕ) → Contains (block d b ∷ written_to b r) x → Contains (block d b ∷ written_to b (Write at bytes ok ∷ r)) x
written-more d at bytes ok r b x c = elim (Contains-cons_cases (block d b) (written_to b r) x c) [
  | inl is ↦ subst (λ z. Contains (block d b ∷ written_to b (Write at bytes ok ∷ r)) z) is (Contains-head (block d b) (written_to b (Write at bytes ok ∷ r)))
  | inr more ↦ Contains-cons (block d b) (written_to b (Write at bytes ok ∷ r)) x (written_to-cons at bytes ok r b x more)
]

-- each block of Now is one that was written there, or the one that stood there
pub now_after-written : (d : List (List ℕ)) (r : List Event) (b : ℕ) → Contains (block d b ∷ written_to b r) (block (now_after d r) b)
now_after-written d [] b = Contains-head (block d b) []
now_after-written d (Sync ok ∷ r) b = now_after-written d r b
now_after-written d (Write at bytes false ∷ r) b = written-more d at bytes false r b (block (now_after d r) b) (now_after-written d r b)
now_after-written d (Write at bytes true ∷ r) b =
    let now : List ℕ = block (now_after (set d at bytes) r) b in
    let rest : Contains (block (set d at bytes) b ∷ written_to b r) now = now_after-written (set d at bytes) r b in
    elim (block-set_cases d at bytes b) [
      | inl here ↦ elim (Contains-cons_cases (block (set d at bytes) b) (written_to b r) now rest) [
        | inl is ↦ Contains-cons (block d b) (written_to b (Write at bytes true ∷ r)) now
            (subst (λ z. Contains (written_to b (Write at bytes true ∷ r)) z) (sym (here.1) ∙ is) (written_to-here at bytes true r b (here.0)))
        | inr more ↦ Contains-cons (block d b) (written_to b (Write at bytes true ∷ r)) now (written_to-cons at bytes true r b now more)
      ]
      | inr same ↦ written-more d at bytes true r b now (subst (λ z. Contains (z ∷ written_to b r) now) same rest)
    ]

-- Now is an image
pub image-now : (base : List (List ℕ)) (p : List Event) → IsImage base p (now_after base p)
image-now base p = record {
  as_long = length-now_after base p;
  each_sector = λ b s.
      Contains-map (λ bytes. sector bytes s) (block (synced_after base p) b ∷ pending p b) (block (now_after base p) b)
      (subst (λ (d : List (List ℕ)). Contains (block (synced_after base p) b ∷ pending p b) (block d b)) (sym (now_after-from_synced base p)) (now_after-written (synced_after base p) (unsynced_part p) b));
}

-- One event more

-- disks whose sectors have the same candidates have the same images
pub image-same_candidates : (base : List (List ℕ)) (p q : List Event) (j : List (List ℕ)) → ((b s : ℕ) → candidates base p b s ≡ candidates base q b s) → IsImage base p j → IsImage base q j
image-same_candidates base p q j same image = record {
  as_long = image.as_long;
  each_sector = λ b s. subst (λ cs. Contains cs (sector (block j b) s)) (same b s) (image.each_sector b s);
}

-- an image stays one with one event more that is no Ok sync
pub image-push : (base : List (List ℕ)) (p : List Event) (e : Event) (j : List (List ℕ)) → is_ok_sync e ≡ false → IsImage base p j → IsImage base (p ++ e ∷ []) j
image-push base p e j none image = record {
  as_long = image.as_long;
  each_sector = λ b s.
      subst (λ cs. Contains cs (sector (block j b) s)) (sym (candidates-push base p e b s none))
      (Contains-append_left (candidates base p b s) (map (λ bytes. sector bytes s) (written_to b (e ∷ []))) (sector (block j b) s) (image.each_sector b s));
}

-- a sector of an image with one write more: as before, or as written
pub sector-push_write : (base : List (List ℕ)) (p : List Event) (at : ℕ) (bytes : List ℕ) (ok : Bool) (b s : ℕ) (x : List ℕ) → Contains (candidates base (p ++ Write at bytes ok ∷ []) b s) x → Contains (candidates base p b s) x ⊎ ((b ≡ at) × (x ≡ sector bytes s))
sector-push_write base p at bytes ok b s x c =
    let parts = subst (λ cs. Contains cs x) (candidates-push base p (Write at bytes ok) b s refl) c in
    elim (Contains-append_cases (candidates base p b s) (map (λ w. sector w s) (written_to b (Write at bytes ok ∷ []))) x parts) [
      | inl before ↦ inl before
      | inr new ↦ elim (eqb_tells at b) [
        | inl t ↦ inr (sym (t.1), sym (Contains-one (sector bytes s) x (subst (λ k. Contains (map (λ w. sector w s) (cond k (bytes ∷ []) [])) x) (t.0) new)))
        | inr f ↦ let never = subst (λ k. Contains (map (λ w. sector w s) (cond k (bytes ∷ []) [])) x) (f.0) new in absurd (omega (arith, never.1))
      ]
    ]

pub sector-from_write : (base : List (List ℕ)) (p : List Event) (at : ℕ) (bytes : List ℕ) (ok : Bool) (s : ℕ) → Contains (candidates base (p ++ Write at bytes ok ∷ []) at s) (sector bytes s)
sector-from_write base p at bytes ok s =
    subst (λ cs. Contains cs (sector bytes s)) (sym (candidates-push base p (Write at bytes ok) at s refl))
    (Contains-append_right (candidates base p at s) (map (λ w. sector w s) (written_to at (Write at bytes ok ∷ []))) (sector bytes s)
    (Contains-map (λ w. sector w s) (written_to at (Write at bytes ok ∷ [])) bytes (written_to-here at bytes ok [] at refl)))

-- the images with one write more, sector by sector
pub IsImageWith-from : (base : List (List ℕ)) (p : List Event) (at : ℕ) (bytes : List ℕ) (ok : Bool) (j : List (List ℕ)) → IsImage base (p ++ Write at bytes ok ∷ []) j → IsImageWith base p at bytes j
IsImageWith-from base p at bytes ok j image = record {
  as_long = image.as_long;
  each_sector = λ b s. sector-push_write base p at bytes ok b s (sector (block j b) s) (image.each_sector b s);
}

pub IsImageWith-to : (base : List (List ℕ)) (p : List Event) (at : ℕ) (bytes : List ℕ) (ok : Bool) (j : List (List ℕ)) → IsImageWith base p at bytes j → IsImage base (p ++ Write at bytes ok ∷ []) j
IsImageWith-to base p at bytes ok j image = record {
  as_long = image.as_long;
  each_sector = λ b s. elim (image.each_sector b s) [
    | inl before ↦
        subst (λ cs. Contains cs (sector (block j b) s)) (sym (candidates-push base p (Write at bytes ok) b s refl))
        (Contains-append_left (candidates base p b s) (map (λ w. sector w s) (written_to b (Write at bytes ok ∷ []))) (sector (block j b) s) before)
    | inr (here, is) ↦
        subst (λ k. Contains (candidates base (p ++ Write at bytes ok ∷ []) k s) (sector (block j b) s)) (sym here)
        (subst (λ x. Contains (candidates base (p ++ Write at bytes ok ∷ []) at s) x) (sym is) (sector-from_write base p at bytes ok s))
  ];
}

-- an image with one write more whose block is put back as an image before had it
pub image-put_back : (base i j : List (List ℕ)) (p : List Event) (at : ℕ) (bytes : List ℕ) (ok : Bool) → IsImage base (p ++ Write at bytes ok ∷ []) j → IsImage base p i → IsImage base p (set j at (block i at))
image-put_back base i j p at bytes ok image before = record {
  as_long = length-set j at (block i at) ∙ image.as_long;
  each_sector = λ b s. elim (cases_eq at b) [
    | inl same ↦
        let is : block (set j at (block i at)) b ≡ block i b = elim (cases_lt at (length j)) [
          | inl below ↦ subst (λ k. block (set j at (block i at)) k ≡ block i k) same (get_or-set_same j at (block i at) [] below)
          | inr past ↦
              ap (λ (x : List (List ℕ)). block x b) (set_past j at (block i at) past)
              ∙ get_or_past j b [] (omega (arith, past, same))
              ∙ sym (get_or_past i b [] (omega (arith, past, same, image.as_long, before.as_long)))
        ] in
        subst (λ (x : List ℕ). Contains (candidates base p b s) (sector x s)) (sym is) (before.each_sector b s)
    | inr other ↦
        let is : block (set j at (block i at)) b ≡ block j b = get_or-set_other j at b (block i at) [] (λ e. other (sym e)) in
        subst (λ (x : List ℕ). Contains (candidates base p b s) (sector x s)) (sym is)
        (elim (sector-push_write base p at bytes ok b s (sector (block j b) s) (image.each_sector b s)) [ inl old ↦ old | inr (here, w) ↦ absurd (other (sym here)) ])
  ];
}
