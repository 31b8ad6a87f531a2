-- A flush, root by root.
use Rattle.std.proofs.Common.{◌≡◌, ℕ, ◌+◌, ◌<◌, Bool, true, false, cond, Option, None, Some, List, [], ◌∷◌, ◌++◌, length, drop, get_or, refl, ap, sym, ◌∙◌, append_assoc, drop-cons, add-one}
use Rattle.std.proofs.lemmas.List.{append-nil}
use Rattle.std.specs.Map.{lookup, remove_entry}
use Rattle.spec_tree.specs.declared.Digest.{Digest}
use Rattle.std.specs.BTreeMap.{insert_entry, is_at}
use Rattle.spec_core.proofs.Holding.{changed-append}
use Rattle.spec_core.specs.Log.{changed, purges, purge_of, without, queued, flushed}
use Rattle.spec_tree.specs.Order.{digest_cmp}
use Rattle.spec_core.specs.State.{State, find}
use Rattle.spec_tree.specs.declared.blob.Blob.{Blob}
use Rattle.spec_core.specs.declared.map_change.MapChange.{MapChange}
use Rattle.spec_core.specs.declared.map_change.MapChange.TheVariants.{Publish}

-- to remove what isn't there changes nothing
remove_none : {K X : Type 0} (test : K → Bool) (es : List (K × X)) → lookup test es ≡ None → remove_entry test es ≡ es
remove_none test [] h = refl
remove_none test (e ∷ es) h =
    let tail = remove_none test es in
    elim (test e.0) as (λ b. cond b (Some e.1) (lookup test es) ≡ None → cond b es (e ∷ remove_entry test es) ≡ e ∷ es) [ true ↦ λ h. cc | false ↦ λ h. ap (λ xs. e ∷ xs) (tail h) ] h

pub changed_by_one : (m : List (Digest × Blob)) (r : Digest) (o : Option Blob) (cs : List MapChange) → find m r ≡ o → changed m (purge_of o r ++ cs) ≡ changed (without m r) cs
changed_by_one m r None cs h = ap (λ es. changed es cs) (sym (remove_none (is_at (digest_cmp r)) m h))
changed_by_one m r (Some b) cs h = refl

pub purges_step : (m : List (Digest × Blob)) (rs : List Digest) (i : ℕ) (d : Digest) → i < length rs → purges m (drop i rs) ≡ purge_of (find m (get_or rs i d)) (get_or rs i d) ++ purges (without m (get_or rs i d)) (drop (i + 1) rs)
purges_step m rs i d h = rw (add-one, drop-cons rs i d) refl

pub changed_step : (m : List (Digest × Blob)) (rs : List Digest) (i : ℕ) (d : Digest) → i < length rs → changed m (purges m (drop i rs)) ≡ changed (without m (get_or rs i d)) (purges (without m (get_or rs i d)) (drop (i + 1) rs))
changed_step m rs i d h = ap (changed m) (purges_step m rs i d h) ∙ changed_by_one m (get_or rs i d) _ _ refl

-- a flush and a publication, one after the other
pub published_state : (s : State) (r : Digest) (b : Blob) (n : ℕ) → record s { log = (s.log ++ queued s) ++ Publish r b ∷ []; map = insert_entry digest_cmp (changed s.map (queued s)) r b; queue = []; next = n } ≡ record (flushed s (Publish r b ∷ [])) { next = n }
published_state s r b n = rw (append_assoc s.log (queued s) (Publish r b ∷ []), changed-append s.map (queued s) (Publish r b ∷ [])) refl

pub publish_onto : (s t : State) (r : Digest) (b : Blob) → t ≡ flushed s [] → record t { map = insert_entry digest_cmp t.map r b; log = t.log ++ Publish r b ∷ []; next = t.next + 1 } ≡ record (flushed s (Publish r b ∷ [])) { next = s.next + 1 }
publish_onto s t r b h = rw (h, append-nil (queued s)) (published_state s r b (s.next + 1))
