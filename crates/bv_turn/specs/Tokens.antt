-- What callers say of a turn and its shares.
use Rattle.std.specs.Prelude.{◌≡◌, ℕ, List, [], ◌∷◌, ◌++◌, ◌⊎◌, map, slice_get, Option, Some, None, Any, EachIndex}
use Rattle.bv_turn.specs.declared.keeps.Keeps.{Ghosts}
use Rattle.bv_turn.specs.declared.turn.Share.{Share}
use Rattle.bv_turn.specs.declared.turn.Turn.{Turn}
use Rattle.bv_turn.specs.Entries.{entries_of, numbered}
use Rattle.bv_turn.specs.Kinds.{Idle}
use Rattle.bv_turn.specs.Views.{first_entries, first_basis, taken_of}

module _ {T E B : Type 0} where
  -- the number of sessions of the turn
  abbrev pub seats_of : Turn T E B → ℕ
  seats_of t = t.table.shared.key.seats

  -- the value with which the turn was made
  abbrev pub first_of : Turn T E B → T
  first_of t = t.table.shared.key.first.value

module _ {T E B : Type 0} {k : Ghosts T E B} where
  -- the session whose token the share is
  abbrev pub session_of : Share T E B k → ℕ
  session_of s = s.session

  -- the share's list: the entries of its session
  abbrev pub list_of : Share T E B k → List E
  list_of s = map (λ x. x.1) (first_entries s.seat.me.0.parts)

  -- what the turn's value stands on
  abbrev pub basis_of : Share T E B k → Option B
  basis_of s = first_basis s.seat.me.0.parts

  -- the entries that the value had at the share's hold, while it is out with this share
  abbrev pub held_entries : Share T E B k → List E
  held_entries s = taken_of s.seat.me.0

  -- the share is of this turn
  abbrev pub IsOf : Turn T E B → Share T E B k → Type 0
  IsOf t s = s.seat.table_id ≡ t.table.shared.table_id

  -- the share holds no value and waits for none
  abbrev pub IsIdle : Share T E B k → Type 0
  IsIdle s = Idle s.seat.me

  -- the value is out with this share
  abbrev pub IsOut : Share T E B k → Type 0
  IsOut s =
      (s.seat.me.1 ≡ (0, None) ∷ []) × (s.seat.me.0.taken ≡ Some (held_entries s))
      × (first_entries s.seat.me.0.parts ≡ numbered k.session s.session 0 (held_entries s))

  -- the share's list is the value's entries of its session
  abbrev pub KnowsEntries : Share T E B k → T → Type 0
  KnowsEntries s x = list_of s ≡ entries_of k.session (session_of s) (k.entries x)

  -- the share's basis is the value's
  abbrev pub KnowsBasis : Share T E B k → T → Type 0
  KnowsBasis s x = basis_of s ≡ Some (k.basis x)

  -- the value has the entries that it had at the share's hold, or these and one of its session
  abbrev pub MayPass : Share T E B k → T → Type 0
  MayPass s x =
      (k.entries x ≡ held_entries s)
      ⊎ ((e : E) × (k.entries x ≡ held_entries s ++ e ∷ []) × (k.session e ≡ session_of s))

  -- from hold to pass the share's list gains what the value gained
  pub record Gains (old new : Share T E B k) (x : T) : Type 0 where
    pub none : k.entries x ≡ held_entries old → list_of new ≡ list_of old
    pub one : (e : E) → k.entries x ≡ held_entries old ++ e ∷ []
        → list_of new ≡ list_of old ++ e ∷ []

  -- the entry is of the session of one of these shares
  abbrev pub HasShare : List (Share T E B k) → E → Type 0
  HasShare shares e = Any (λ s. session_of s ≡ k.session e) shares

  -- the share of a new turn's session n stands at place n, idle and with an empty list
  abbrev pub FreshAt : Turn T E B → B → List (Share T E B k) → ℕ → Type 0
  FreshAt t base shares n =
      (s : Share T E B k) × (slice_get shares n ≡ Some s) × IsOf t s × IsIdle s
      × (session_of s ≡ n) × (list_of s ≡ []) × (basis_of s ≡ Some base)

  -- these are the shares of a new turn, one for each session in their order
  abbrev pub AreFresh : Turn T E B → B → List (Share T E B k) → Type 0
  AreFresh t base shares = EachIndex shares (FreshAt t base shares)
