-- What a token knows of the table, and how each kind of step changes that.
use Rattle.std.specs.Prelude.{ℕ, ◌+◌, ◌-◌, true, false, [], ◌∷◌, ◌++◌, length, if◌then◌else◌}
use Rattle.bv_claims.specs.declared.rule.View.{View}
use Rattle.bv_claims.specs.Blocks.{without, blocks_of_word}

-- how many blocks the view accounts for
abbrev pub worth : View → ℕ
worth v = length v.owned + v.budget + v.room

-- 1 for the boss, and 0 for any other
abbrev pub boss_count : View → ℕ
boss_count v = if v.boss then 1 else 0

-- the boss of a new table, who may still give out every block but block 0
abbrev pub first_view : ℕ → View
first_view blocks = record {
  boss = true;
  blocks = blocks;
  owned = [];
  saw = [];
  budget = 0;
  room = blocks - 1;
}

-- win: the block is gained for one of the budget
abbrev pub after_win : ℕ → View → View
after_win b v = record v { owned = v.owned ++ b ∷ []; budget = v.budget - 1 }

-- lose: the block was seen taken
abbrev pub after_loss : ℕ → View → View
after_loss b v = record v { saw = v.saw ++ b ∷ [] }

-- look full: every block of the word was seen taken
abbrev pub after_full_word : ℕ → View → View
after_full_word w v = record v { saw = v.saw ++ blocks_of_word w }

-- hold: the block is gained for one of the room
abbrev pub after_hold : ℕ → View → View
after_hold b v = record v { owned = v.owned ++ b ∷ []; room = v.room - 1 }

-- free: the block is given back to the room, and what was seen taken may be taken no more
abbrev pub after_free : ℕ → View → View
after_free b v = record v { owned = without b v.owned; saw = []; room = v.room + 1 }

-- grant: a budget leaves the room
abbrev pub after_grant : ℕ → View → View
after_grant need v = record v { room = v.room - need }

-- the view that has the budget of a grant
abbrev pub grant_view : ℕ → View
grant_view need = record { boss = false; blocks = 0; owned = []; saw = []; budget = need; room = 0 }

-- join: what the other owns and may still gain is added
abbrev pub after_join : View → View → View
after_join v w = record v { owned = v.owned ++ w.owned; budget = v.budget + w.budget }

-- a view that was joined away counts nothing
abbrev pub spent_view : View
spent_view = grant_view 0
