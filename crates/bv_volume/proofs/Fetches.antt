-- A fetch: the tables and the blobs stay, and the device's count of faults may rise.
use Rattle.std.proofs.Common.{◌≡◌, ◌≤◌, ◌<◌, ◌+◌, ◌-◌, inl, inr, ℕ, [], ◌∷◌, ◌||◌, Bool, true, false, cond, get_or, List, length, Option, Some, None, IfSome, Result, Ok, Err, IfOk, is_some, refl, ap, sym, ◌∙◌, subst, arith}
use Rattle.std.specs.Prelude.{All}
use Rattle.std.specs.BTreeMap.{is_at}
use Rattle.std.proofs.lemmas.List.Elements.{Contains-get_or}
use Rattle.spec_tree.specs.Tree.{need_of}
use Rattle.spec_tree.specs.declared.Digest.{Digest}
use Rattle.spec_tree.specs.declared.blob.Blob.{Blob}
use Rattle.spec_tree.specs.Order.{same_digest}
use Rattle.spec_core.proofs.Holding.{held_roots_stay, same_self}
use Rattle.spec_core.specs.Choice.{place_of}
use Rattle.spec_core.specs.History.{last_state}
use Rattle.spec_core.specs.Order.{place_cmp}
use Rattle.spec_core.specs.State.{State, find, among, held, is_held}
use Rattle.spec_core.specs.Synced.{fault_of, RiseWithin}
use Rattle.spec_core.specs.declared.act.Act.TheVariants.{Fetch}
use Rattle.spec_core.specs.declared.place.Place.{Place}
use Rattle.spec_core.specs.declared.reply.Reply.{Reply}
use Rattle.spec_core.specs.declared.reply.Reply.TheVariants.{BadSlot, Fetched, ReadFault}
use Rattle.spec_core.specs.declared.who.Who.{Who}
use Rattle.spec_rest.specs.Rest.{Map}
use Rattle.bv_claims.specs.Blocks.{times}
use Rattle.bv_claims.specs.Tokens.{block_count}
use Rattle.bv_ledger.proofs.Sums.{sum_less}
use Rattle.bv_ledger.specs.Tables as L
use Rattle.bv_ledger.specs.Tables.{Tables}
use Rattle.bv_model.specs.Noted.{Noted, with_noted}
use Rattle.bv_proof.specs.declared.raw.RawWindow.{RawWindow}
use Rattle.bv_space.specs.Owned.{Owned}
use Rattle.bv_store.specs.Stored.{Stored}
use Rattle.bv_volume.specs.Events.{event_of, noted}
use Rattle.bv_volume.specs.Fetched.{Fetches, HasFetched, fetch_reply}
use Rattle.bv_volume.proofs.Located.{LocatedIn, lies_by}
use Rattle.bv_volume.specs.Seen.{HasBlobsNow}
use Rattle.bv_volume.specs.Kept.{Kept, seen_of}
use Rattle.bv_volume.specs.Spaced.{LiesAt, Spaced}
use Rattle.bv_volume.specs.declared.fetching.FetchFault.{FetchFault}
use Rattle.bv_volume.specs.declared.fetching.FetchFault.TheVariants as fetch
use Rattle.bv_volume.proofs.Freed.{counted}
use Rattle.bv_volume.proofs.Puts.{spaced_stored}
use Rattle.bv_volume.proofs.Quiet.{is_silent}
use Rattle.bv_volume.proofs.Silent.{CallDone}
use Rattle.bv_volume.proofs.Ties.{happens_silent, kept_silent, safe_of}

-- ---- the rows

module _ (t : Tables) (who : Who) (slot w : ℕ) where
  pub empty_row : held t.slots (place_of who slot) ≡ None → L.Does t t who (Fetch slot w) (Some BadSlot)
  empty_row holds = (refl, λ log durable a. record { fits = rw holds refl; state = refl; accounts = a })

  fetched_row : (r : Digest) → held t.slots (place_of who slot) ≡ Some r → L.Does t t who (Fetch slot w) (Some Fetched)
  fetched_row r holds = (refl, λ log durable a. record { fits = rw holds (inl refl); state = refl; accounts = a })

  fault_row : (r : Digest) (f : ℕ) → held t.slots (place_of who slot) ≡ Some r → L.Does t t who (Fetch slot w) (Some (ReadFault f))
  fault_row r f holds = (refl, λ log durable a. record { fits = rw holds (inr (f, refl)); state = refl; accounts = a })

-- ---- a whole call

module _ (n n' : Noted) (next : ℕ) (t : Tables) (a : Owned) (s s' : Stored) (Both New : Map → Map → Type 0) (Held Hold : ℕ → Type 0) (who : Who) (slot w : ℕ) (kept : Kept n next t s Both) (spare : 1 ≤ n.spare - length t.adds) (counts : IfSome s.told (λ d. length d.trace ≡ s.calls)) (rest : s' ≡ record s { faults = s'.faults }) (both : (x y : Map) → Both x y → New x y) where
  room : length t.adds + 1 ≤ n.spare
  room = omega (arith, spare)

  done_with : (q : Reply) → n' ≡ noted n who (Fetch slot w) (Some q) s'.calls → L.Does t t who (Fetch slot w) (Some q) → is_silent q ≡ true → (s.faults ≤ s'.faults) × RiseWithin s.faults s'.faults (fault_of q) → CallDone n n' next t t a a s s' New who (Fetch slot w) (Some q)
  done_with q is does silent faults =
      let kept_on = kept_silent n next t t s s'.faults Both New who (Fetch slot w) q kept does silent counts both room in
      let here : CallDone n (with_noted n (event_of who (Fetch slot w) q s.calls)) next t t a a s (record s { faults = s'.faults }) New who (Fetch slot w) (Some q) = record {
        kept = kept_on;
        does = happens_silent n next t t s s'.faults Both New who (Fetch slot w) q kept does silent counts both a a refl room faults;
        safe = safe_of _ next t a (record s { faults = s'.faults }) New kept_on;
      } in
      rw is (subst (λ (x : Stored). CallDone n (with_noted n (event_of who (Fetch slot w) q x.calls)) next t t a a s x New who (Fetch slot w) (Some q)) (sym rest) here)

  pub fetch_done : (r : Digest) (places : List ℕ) (blob : Blob) (result : Result RawWindow FetchFault) → held t.slots (place_of who slot) ≡ Some r → Fetches s s' Both New Held Hold places blob w result → n' ≡ noted n who (Fetch slot w) (fetch_reply result) s'.calls → CallDone n n' next t t a a s s' New who (Fetch slot w) (fetch_reply result)
  fetch_done r places blob (Ok raw) holds read is = done_with Fetched is (fetched_row t who slot w r holds) refl (read.faults, tt)
  fetch_done r places blob (Err fetch.BadSlot) holds read is = absurd read.faults
  fetch_done r places blob (Err fetch.NoMemory) holds read is = absurd read.faults
  fetch_done r places blob (Err (fetch.ReadFault f)) holds read is = done_with (ReadFault f) is (fault_row t who slot w r f holds) refl read.faults

pub fetch_spaced : (t : Tables) (a : Owned) (s s' : Stored) (Both New : Map → Map → Type 0) (Held Hold : ℕ → Type 0) (places : List ℕ) (blob : Blob) (w : ℕ) (result : Result RawWindow FetchFault) → Fetches s s' Both New Held Hold places blob w result → Spaced t a s Held → Spaced t a s' Hold
fetch_spaced t a s s' Both New Held Hold places blob w result read spaced =
    spaced_stored t a s s' Held Hold (ap (λ (x : Stored). x.geometry) read.rest) (ap (λ (x : Stored). x.placed) read.rest) (ap (λ (x : Stored). x.used_nodes) read.rest) read.held spaced

-- ---- where a blob lies that a slot holds

pub held_here : (slots : List (Place × Digest)) (p : Place) (r : Digest) → held slots p ≡ Some r → is_held slots r ≡ true
held_here [] p r h = cc
held_here (e ∷ es) p r h = go (is_at (place_cmp p) e.0) (held_here es p r) h
  where
    or_on : (b : Bool) → is_held es r ≡ true → (b || is_held es r) ≡ true
    or_on true later = refl
    or_on false later = later

    go : (b : Bool) → (held es p ≡ Some r → is_held es r ≡ true) → cond b (Some e.1) (held es p) ≡ Some r → (same_digest r e.1 || is_held es r) ≡ true
    go true after here = let is : e.1 ≡ r = cc in rw (is, same_self r) refl
    go false after later = or_on (same_digest r e.1) (after later)

some_lies : (blob : Blob) (o : Option (List ℕ)) → LiesAt (Some blob) o → is_some o ≡ true
some_lies blob None l = absurd l
some_lies blob (Some bs) l = refl

module _ (n : Noted) (next : ℕ) (t : Tables) (o : Owned) (s : Stored) (Both : Map → Map → Type 0) (Held : ℕ → Type 0) (who : Who) (slot : ℕ) (r : Digest) (kept : Kept n next t s Both) (spaced : Spaced t o s Held) (holds : held (last_state n.history next).slots (place_of who slot) ≡ Some r) where
  stays : (is_some (find (last_state n.history next).map r) ≡ true) × (among (last_state n.history next).queue r ≡ false)
  stays = held_roots_stay n.history next r kept.legal (held_here (last_state n.history next).slots (place_of who slot) r holds)

  pub in_tables : held t.slots (place_of who slot) ≡ Some r
  in_tables = ap (λ (x : State). held x.slots (place_of who slot)) (sym kept.state) ∙ holds

  pub in_map : is_some (find t.map r) ≡ true
  in_map = ap (λ (x : State). is_some (find x.map r)) (sym kept.state) ∙ stays.0

  lies : LiesAt (find t.map r) (find s.placed r)
  lies = spaced.lie r (ap (λ (x : State). among x.queue r) (sym kept.state) ∙ stays.1)

  -- it lies somewhere
  pub blob_lies : (blob : Blob) → find (last_state n.history next).map r ≡ Some blob → is_some (find s.placed r) ≡ true
  blob_lies blob has =
      let here : find t.map r ≡ Some blob = ap (λ (x : State). find x.map r) (sym kept.state) ∙ has in
      some_lies blob (find s.placed r) (rw here at lies)

  -- at as many blocks as it needs
  pub blob_need_is : (blob : Blob) (places : List ℕ) → find (last_state n.history next).map r ≡ Some blob → find s.placed r ≡ Some places → length places ≡ need_of blob.version blob.size
  blob_need_is blob places has there =
      let here : find t.map r ≡ Some blob = ap (λ (x : State). find x.map r) (sym kept.state) ∙ has in
      rw (here, there) at lies

  -- at the volume's data blocks
  pub blocks_within : (places : List ℕ) → find s.placed r ≡ Some places → ((b : ℕ) → 0 < times b o.owned → (1 ≤ b) × (b < block_count o.claims)) → All (λ b. b < s.geometry.blocks) places
  blocks_within places lies within k d low =
      let b : ℕ = get_or places k d in
      let stands : 0 < times b places = counted b places (Contains-get_or places k d low) in
      let owned : 0 < times b o.owned = omega (arith, stands, sum_less (times b) s.placed r places lies, spaced.within b) in
      omega (arith, (within b owned).1, spaced.table, spaced.geometry.0)

-- ---- what the tables say of a place

module _ (n : Noted) (next : ℕ) (t : Tables) (o : Owned) (s : Stored) (Both : Map → Map → Type 0) (Held : ℕ → Type 0) (who : Who) (slot : ℕ) (kept : Kept n next t s Both) (spaced : Spaced t o s Held) where
  abbrev place : Place
  place = place_of who slot

  pub held_is : (r : Digest) → held t.slots place ≡ Some r → held (last_state n.history next).slots place ≡ Some r
  held_is r h = ap (λ (x : State). held x.slots place) kept.state ∙ h

  pub map_is : (r : Digest) (blob : Blob) → find t.map r ≡ Some blob → find (last_state n.history next).map r ≡ Some blob
  map_is r blob h = ap (λ (x : State). find x.map r) kept.state ∙ h

  -- a root that is held is in the map
  pub none_held : IfSome (held t.slots place) (λ r. find t.map r ≡ None) → held (last_state n.history next).slots place ≡ None
  none_held missing = ap (λ (x : State). held x.slots place) kept.state ∙ go (held t.slots place) refl missing
    where
      go : (h : Option Digest) → held t.slots place ≡ h → IfSome h (λ r. find t.map r ≡ None) → h ≡ None
      go None is none = refl
      go (Some r) is none =
          let there : is_some (find t.map r) ≡ true = in_map n next t o s Both Held who slot r kept spaced (held_is r is) in
          absurd (let never : false ≡ true = ap (λ (x : Option Blob). is_some x) (sym none) ∙ there in cc)

pub for_any : (o : Option Reply) (P : Type 0) → P → IfSome o (λ r. P)
for_any None P p = tt
for_any (Some r) P p = p

-- the window is that of the blob that the place holds
pub fetched_is : (n : Noted) (next : ℕ) (t : Tables) (o : Owned) (s s' : Stored) (Both New : Map → Map → Type 0) (Held Hold : ℕ → Type 0) (place : Place) (r : Digest) (blob : Blob) (places : List ℕ) (w : ℕ) (result : Result RawWindow FetchFault) → held (last_state n.history next).slots place ≡ Some r → find (last_state n.history next).map r ≡ Some blob → find s.placed r ≡ Some places → LocatedIn n.history s → HasBlobsNow (seen_of n next t o s)
    → Fetches s s' Both New Held Hold places blob w result → IfOk result (HasFetched (seen_of n next t o s) place w)
fetched_is n next t o s s' Both New Held Hold p r blob places w (Ok raw) holds has there located shown read = record {
  root = r;
  holds = holds;
  blob = blob;
  has = has;
  places = places;
  lies = there;
  by = lies_by n.history s r places there located;
  shown = shown;
  lengths = read.lengths;
  now = read.now;
}
fetched_is n next t o s s' Both New Held Hold p r blob places w (Err e) holds has there located shown read = tt
