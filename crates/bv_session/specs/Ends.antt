-- How a session begins and ends.
use Rattle.std.specs.Prelude.{◌≡◌, ℕ, ◌⊎◌, Bool, true, false, cond, not, List, [], ◌∷◌, ◌++◌, Ok, Err}
use Rattle.std.specs.declared.alloc.AllocError.{AllocError}
use Rattle.spec_script.specs.declared.line.ScriptLine.{ScriptLine}
use Rattle.spec_script.specs.Tasks.{task_of}
use Rattle.spec_core.specs.declared.event.CoreEvent.{CoreEvent}
use Rattle.spec_session.specs.Conform.{DoLines, CutLines, requests_of, own_act}
use Rattle.spec_session.specs.Told.{who_of}
use Rattle.spec_session.specs.declared.end.SessionEnd.{SessionEnd}
use Rattle.spec_session.specs.declared.result.LineResult.{LineResult}
use Rattle.spec_served.specs.Served.{ServeLines, ServeSome}
use Rattle.bv_claims.specs.declared.claims.Claims.{Claims}
use Rattle.bv_turn.specs.declared.keeps.Keeps.{Ghosts}
use Rattle.bv_turn.specs.declared.turn.Share.{Share}
use Rattle.bv_turn.specs.declared.turn.Turn.{Turn}
use Rattle.bv_turn.specs.Tokens.{IsOf, IsIdle, session_of, list_of}
use Rattle.bv_session.specs.declared.entry.Entry.{Entry}
use Rattle.bv_session.specs.declared.entry.Basis.{Basis}
use Rattle.bv_session.specs.declared.session.Ended.{Ended}
use Rattle.bv_session.specs.Shown.{LinesShow}
use Rattle.bv_session.specs.Sessions.{own, LineAnswer, BasisHas, Stays, Ends}

-- a session's events: all its lines were done, or for want of memory some first ones and a beginning
-- of the next
abbrev pub Does : ℕ → List ScriptLine → ℕ → Bool → List CoreEvent → Type 0
Does version lines s whole es =
    cond whole
    (DoLines version [] (requests_of s lines) es)
    (CutLines version [] (requests_of s lines) es)

-- the same with the results of the lines that were done
abbrev pub Goes : ℕ → List ScriptLine → ℕ → Bool → List CoreEvent → List LineResult → Type 0
Goes version lines s whole es rs =
    cond whole
    (ServeLines version [] (requests_of s lines) es rs)
    (ServeSome version [] (requests_of s lines) es rs)

-- from old to now the line ended so
abbrev pub EndsLine : ℕ → ScriptLine → LineAnswer → List CoreEvent → List CoreEvent → Type 0
EndsLine version l answer old now =
    Ends version (who_of l) (own_act (task_of l.command)) answer old now

-- From old to now the line was done, and its result noted, where it is of session s, and else
-- nothing; or for want of memory it was cut short, or not begun, and nothing is noted.
abbrev pub GoesLine
    : ℕ → ℕ → ScriptLine → Bool → List CoreEvent → List CoreEvent → List LineResult
    → List LineResult → Type 0
GoesLine version s l true old now rs qs =
    ((l.session ≡ s)
    × ((r : LineResult) × (qs ≡ rs ++ r ∷ []) × EndsLine version l (Ok r) old now))
    ⊎ (¬ (l.session ≡ s) × (now ≡ old) × (qs ≡ rs))
GoesLine version s l false old now rs qs =
    (qs ≡ rs)
    × (((l.session ≡ s) × ((e : AllocError) × EndsLine version l (Err e) old now))
    ⊎ (now ≡ old))

module _ {T : Type 0} {k : Ghosts T Entry Basis} where
  -- a share of the turn that holds nothing and has no entry yet, whose basis has this table and
  -- version
  pub record IsReady (t : Turn T Entry Basis) (claims : Claims) (version : ℕ)
      (s : Share T Entry Basis k) : Type 0 where
    pub this : IsOf t s
    pub idle : IsIdle s
    pub empty : list_of s ≡ []
    pub basis : BasisHas s (λ b. (b.claims ≡ claims) × (b.geometry.version ≡ version))
    pub known : (version ≡ 1) ⊎ (version ≡ 2)

  -- a share comes back idle, with its session's part of the script as its list, and each line that
  -- was done has its result
  pub record ComesBack (t : Turn T Entry Basis) (lines : List ScriptLine) (version : ℕ)
      (old new : Share T Entry Basis k) (end : SessionEnd) : Type 0 where
    pub stays : Stays t old new
    pub does : Does version lines (session_of old) (not end.memory) (own new)
    pub goes : Goes version lines (session_of old) (not end.memory) (own new) end.results.items
    pub shows : LinesShow version lines (session_of old) new end.results.items

  -- what a session's run gives back
  abbrev pub EndOf
      : Turn T Entry Basis → List ScriptLine → ℕ → Share T Entry Basis k → Ended T Entry Basis k → Type 0
  EndOf t lines version old e = ComesBack t lines version old e.share e.end
