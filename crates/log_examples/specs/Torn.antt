-- A record of which only some sectors stand, and records that share a sector.
use Rattle.std.specs.Prelude.{◌≡◌, ℕ, List, [], ◌∷◌, ◌++◌, map}
use Rattle.frang_base.specs.declared.change.Redo.{Redo}
use Rattle.ring_definitions.specs.RingRuns.{LogEvent, Placed}
use Rattle.ring_definitions.specs.RingRuns.LogEvent.{Append, Arrive, Issue}
use Rattle.log_examples.specs.Rows.{IsWorkedRun, left_by, log_left, new_log, redo_with}

-- where records begin, and where they end
abbrev pub begin_at : List Placed → List ℕ
begin_at ps = map (λ p. p.first) ps

abbrev pub end_at : List Placed → List ℕ
end_at ps = map (λ p. p.last) ps

-- of two records the first ends in 256; the second begins there and ends in 257
abbrev pub first_record : Redo
first_record = redo_with 1 400

abbrev pub torn_record : Redo
torn_record = redo_with 2 40

abbrev pub both_issued : List LogEvent
both_issued = Append first_record ∷ Append torn_record ∷ Issue ∷ Issue ∷ []

-- the sector in which it begins came, and that in which it ends is lost
abbrev pub torn : List LogEvent
torn = both_issued ++ Arrive 256 ∷ []

-- a mount behind it, whose first sector lies where that one would
abbrev pub next_record : Redo
next_record = redo_with 3 1

abbrev pub next_session : List LogEvent
next_session = Append next_record ∷ Issue ∷ Arrive 257 ∷ []

-- the log of a torn record ends before its end, and reads as those before it, also once a mount has gone on behind it; once its last sector stands it is read
pub record TornRecordsAreNotRead : Type 0 where
  pub none : IsWorkedRun new_log 255 both_issued 255 []
  pub torn_ : IsWorkedRun new_log 255 torn 256 (first_record ∷ [])
  pub mount : IsWorkedRun (log_left new_log 255 torn) 256 next_session 257 (first_record ∷ next_record ∷ [])
  pub mended : IsWorkedRun new_log 255 (torn ++ Arrive 257 ∷ []) 257 (first_record ∷ torn_record ∷ [])
  pub begin : begin_at (left_by new_log 255 both_issued).placed ≡ 256 ∷ 256 ∷ []
  pub end : end_at (left_by new_log 255 both_issued).placed ≡ 256 ∷ 257 ∷ []

-- the last sector came, and that in which it begins not yet
abbrev pub behind_gap : List LogEvent
behind_gap = both_issued ++ Arrive 257 ∷ []

-- of two records the first runs on into 257, where the second begins and ends
abbrev pub long_record : Redo
long_record = redo_with 1 460

abbrev pub shared_record : Redo
shared_record = redo_with 2 6

abbrev pub two_issued : List LogEvent
two_issued = Append long_record ∷ Append shared_record ∷ Issue ∷ Issue ∷ []

abbrev pub two_come : List LogEvent
two_come = two_issued ++ Arrive 256 ∷ Arrive 257 ∷ []

-- a mount behind them
abbrev pub third_session : List LogEvent
third_session = Append next_record ∷ Issue ∷ Arrive 258 ∷ []

-- both whose last sector stands with all before it are read at once, and none while a sector before it is missing
pub record SharedSectorsEndSeveral : Type 0 where
  pub none : IsWorkedRun new_log 255 behind_gap 255 []
  pub one : IsWorkedRun new_log 255 (two_issued ++ Arrive 256 ∷ []) 256 []
  pub both : IsWorkedRun new_log 255 two_come 257 (long_record ∷ shared_record ∷ [])
  pub mount : IsWorkedRun (log_left new_log 255 two_come) 257 third_session 258 (long_record ∷ shared_record ∷ next_record ∷ [])
  pub begin : begin_at (left_by new_log 255 two_issued).placed ≡ 256 ∷ 257 ∷ []
  pub end : end_at (left_by new_log 255 two_issued).placed ≡ 257 ∷ 257 ∷ []
