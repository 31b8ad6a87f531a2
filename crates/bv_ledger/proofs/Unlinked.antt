-- The set of unlinked roots, as roots come to leave, are queued and are purged.
use Rattle.std.proofs.Common.{◌≡◌, Bool, true, false, cond, not, ◌&&◌, ◌||◌, Option, None, is_some, List, [], ◌∷◌, ◌++◌, refl, sym, ◌∙◌}
use Rattle.std.specs.Cmp.{eq_by_cmp_equiv}
use Rattle.std.proofs.lemmas.List.Folds.{list_any-append}
use Rattle.spec_tree.specs.declared.Digest.{Digest}
use Rattle.spec_tree.specs.declared.blob.Blob.{Blob}
use Rattle.spec_tree.specs.Order.{same_digest}
use Rattle.spec_core.specs.State.{among}
use Rattle.spec_core.proofs.Holding.{digest_total, one_digest}

pub turned : (x r : Digest) → same_digest x r ≡ same_digest r x
turned x r = (eq_by_cmp_equiv digest_total).symm x r

-- a root more at the queue's end
pub queued_more : (q : List Digest) (x r : Digest) → among (q ++ x ∷ []) r ≡ (among q r || (same_digest r x || false))
queued_more q x r = list_any-append (same_digest r) q (x ∷ [])

-- a root moves from the leaving ones to the queue
moved : (s l q : Bool) → (s ≡ true → l ≡ true) → (cond s false l || (q || (s || false))) ≡ (l || q)
moved false true q h = refl
moved false false true h = refl
moved false false false h = refl
moved true true true h = refl
moved true true false h = refl
moved true false q h = let at = h refl in cc

pub moves : (leaving new q : List Digest) (x : Digest) → ((r : Digest) → among new r ≡ cond (same_digest x r) false (among leaving r)) → among leaving x ≡ true
    → (r : Digest) → (among new r || among (q ++ x ∷ []) r) ≡ (among leaving r || among q r)
moves leaving new q x gone here r =
    rw (gone r, queued_more q x r, turned x r)
    (moved (same_digest r x) (among leaving r) (among q r) (λ same. rw (one_digest r x same) here))

turn_about : (a b : Bool) → (a || b) ≡ (b || a)
turn_about true true = refl
turn_about true false = refl
turn_about false true = refl
turn_about false false = refl

-- all leaving roots are queued
pub all_moved : (q leaving : List Digest) (r : Digest) → among (q ++ leaving) r ≡ (among leaving r || among q r)
all_moved q leaving r = list_any-append (same_digest r) q leaving ∙ turn_about (among q r) (among leaving r)

-- a root is unlinked, and queued or leaving
more_queued : (s l q : Bool) → cond s true (l || q) ≡ (l || (q || (s || false)))
more_queued true true q = refl
more_queued true false true = refl
more_queued true false false = refl
more_queued false true q = refl
more_queued false false true = refl
more_queued false false false = refl

pub unlinked_queued : (u new leaving q : List Digest) (x : Digest) → ((r : Digest) → among u r ≡ (among leaving r || among q r)) → ((r : Digest) → among new r ≡ cond (same_digest x r) true (among u r))
    → (r : Digest) → among new r ≡ (among leaving r || among (q ++ x ∷ []) r)
unlinked_queued u new leaving q x was more r =
    more r ∙ rw (was r, queued_more q x r, turned x r) (more_queued (same_digest r x) (among leaving r) (among q r))

more_leaving : (s l q : Bool) → cond s true (l || q) ≡ (cond s true l || q)
more_leaving true l q = refl
more_leaving false l q = refl

pub unlinked_leaving : (u new leaving more q : List Digest) (x : Digest) → ((r : Digest) → among u r ≡ (among leaving r || among q r)) → ((r : Digest) → among new r ≡ cond (same_digest x r) true (among u r))
    → ((r : Digest) → among more r ≡ cond (same_digest x r) true (among leaving r)) → (r : Digest) → among new r ≡ (among more r || among q r)
unlinked_leaving u new leaving more q x was with_x left r =
    with_x r ∙ rw (was r, left r) (more_leaving (same_digest x r) (among leaving r) (among q r))

-- a root that came among these and is taken out again
back : (s b : Bool) → (s ≡ true → b ≡ false) → cond s false (cond s true b) ≡ b
back true b h = sym (h refl)
back false b h = refl

pub taken_back : (u new back_again : List Digest) (x : Digest) → among u x ≡ false → ((r : Digest) → among new r ≡ cond (same_digest x r) true (among u r))
    → ((r : Digest) → among back_again r ≡ cond (same_digest x r) false (among new r)) → (r : Digest) → among back_again r ≡ among u r
taken_back u new back_again x absent with_x without_x r =
    without_x r ∙ rw (with_x r) (back (same_digest x r) (among u r) (λ same. rw (← one_digest x r same) absent))

-- a root that is present isn't unlinked
pub not_unlinked : (b : Bool) (o : Option Blob) → is_some (cond b None o) ≡ true → b ≡ false
not_unlinked true o h = cc
not_unlinked false o h = refl

-- queued roots are forgotten, but for those that leave
kept_one : (b a s l : Bool) → (s ≡ true → l ≡ true) → (b && not (a && not l)) ≡ (b && not ((a || (s || false)) && not l))
kept_one b true false l h = refl
kept_one b false false l h = refl
kept_one b true true l h = refl
kept_one b false true true h = refl
kept_one b false true false h = let at = h refl in cc

gone_one : (b a s l : Bool) → (s ≡ true → l ≡ false) → cond s false (b && not (a && not l)) ≡ (b && not ((a || (s || false)) && not l))
gone_one b true false l h = refl
gone_one b false false l h = refl
gone_one true true true false h = refl
gone_one true false true false h = refl
gone_one false a true l h = refl
gone_one true a true true h = let at = h refl in cc

module _ (u old leaving done more : List Digest) (x : Digest) (so_far : (r : Digest) → among u r ≡ (among old r && not (among done r && not (among leaving r)))) (one : more ≡ done ++ x ∷ []) where
  pub forgets_none : among leaving x ≡ true → (r : Digest) → among u r ≡ (among old r && not (among more r && not (among leaving r)))
  forgets_none here r =
      so_far r ∙ rw (one, queued_more done x r) (kept_one (among old r) (among done r) (same_digest r x) (among leaving r) (λ same. rw (one_digest r x same) here))

  pub forgets_one : (new : List Digest) → among leaving x ≡ false → ((r : Digest) → among new r ≡ cond (same_digest x r) false (among u r))
      → (r : Digest) → among new r ≡ (among old r && not (among more r && not (among leaving r)))
  forgets_one new here gone r =
      gone r ∙ rw (turned x r, so_far r, one, queued_more done x r) (gone_one (among old r) (among done r) (same_digest r x) (among leaving r) (λ same. rw (one_digest r x same) here))

-- with the queue purged
left : (l q : Bool) → ((l || q) && not (q && not l)) ≡ (l || false)
left true true = refl
left true false = refl
left false true = refl
left false false = refl

pub all_forgotten : (u new leaving q : List Digest) → ((r : Digest) → among u r ≡ (among leaving r || among q r)) → ((r : Digest) → among new r ≡ (among u r && not (among q r && not (among leaving r))))
    → (r : Digest) → among new r ≡ (among leaving r || false)
all_forgotten u new leaving q was done r = done r ∙ rw (was r) (left (among leaving r) (among q r))

-- nothing is forgotten of no roots
pub none_yet : (b l : Bool) → b ≡ (b && not (false && not l))
none_yet true l = refl
none_yet false l = refl
