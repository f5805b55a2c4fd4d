-- The counts that the failed calls of a run rise: of a server, or of the host, at a place of the lines said.
use Rattle.std.specs.Prelude.{◌≡◌, ◌≤◌, ℕ, Bool, true, false, ◌&&◌, ◌||◌, Option, Some, None, length, nat_le}
use Rattle.tree_definitions.specs.Transcript.{Faults, AreFaultsOf}
use Rattle.core_definitions.specs.Runs.{State, Run, Stays, Goes, saids_of}
use Rattle.core_definitions.specs.Faults.{fails_at, is_of}

-- the place of a moment: how many lines are said
abbrev pub place_of : State → ℕ
place_of s = length (saids_of s.record_)

-- a call of the server failed in the run by a place
abbrev pub run_faults : (s v : State) → Run s v → Faults
run_faults s v Stays place server = false
run_faults s w (Goes {v = v} step run) place server = (is_of server (fails_at s v step) && nat_le (place_of s) place) || run_faults v w run place server

-- a call of the server failed in the run
abbrev pub has_failed : (s v : State) → Run s v → ℕ → Bool
has_failed s v Stays server = false
has_failed s w (Goes {v = v} step run) server = is_of server (fails_at s v step) || has_failed v w run server

-- each failed call of the run has risen its count
abbrev pub CountsAt : Faults → ℕ → Option ℕ → Type 0
CountsAt faults place None = Unit {0}
CountsAt faults place (Some party) = faults place party ≡ true

abbrev pub CountsEach : Faults → (s v : State) → Run s v → Type 0
CountsEach faults s v Stays = Unit {0}
CountsEach faults s w (Goes {v = v} step run) = CountsAt faults (place_of s) (fails_at s v step) × CountsEach faults v w run

-- faults that tell of each failed call of a run: what has risen by a place has by each later one
pub record TellFaults (faults : Faults) (s v : State) (run : Run s v) : Type 0 where
  pub stay : (early late server : ℕ) → early ≤ late → faults early server ≡ true → faults late server ≡ true
  pub counted : CountsEach faults s v run

-- those of the run itself: they are the faults of a call that has no others, and tell of each
abbrev pub RunHasItsFaults : Type 0
RunHasItsFaults =
    (s v : State) (run : Run s v) → AreFaultsOf (λ server. has_failed s v run server ≡ true) (run_faults s v run) × TellFaults (run_faults s v run) s v run
