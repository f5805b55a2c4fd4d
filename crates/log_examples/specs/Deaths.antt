-- Five deaths with a gap in the log, a seal behind each and a mount behind that: until nothing whole is left of what was synced in the beginning.
use Rattle.std.specs.Prelude.{ℕ, ◌+◌, List, [], ◌∷◌}
use Rattle.frang_base.specs.declared.change.Redo.{Redo}
use Rattle.disk_definitions.specs.Logs.{Slots}
use Rattle.ring_definitions.specs.RingRuns.{LogEvent}
use Rattle.ring_definitions.specs.RingRuns.LogEvent.{Acknowledge, Append, Arrive, Issue}
use Rattle.log_examples.specs.Rows.{IsSealedAs, IsWorkedRun, log_left, new_log, redo_with, sealed_at}

-- one record is whole in 256, and acknowledged
abbrev pub synced : Redo
synced = redo_with 1 1

-- two records have a sector each behind an end; the first of these is lost, and the server dies
abbrev pub dies_behind : ℕ → List LogEvent
dies_behind end = Append (redo_with 2 1) ∷ Issue ∷ Append (redo_with 3 1) ∷ Issue ∷ Arrive (end + 2) ∷ []

abbrev pub first_life : List LogEvent
first_life = Append synced ∷ Issue ∷ Arrive 256 ∷ Acknowledge 256 ∷ dies_behind 256

-- the logs behind the seals of five deaths
abbrev pub once : Slots
once = sealed_at (log_left new_log 255 first_life) 256

abbrev pub twice : Slots
twice = sealed_at (log_left once 320 (dies_behind 320)) 320

abbrev pub three_times : Slots
three_times = sealed_at (log_left twice 384 (dies_behind 384)) 384

abbrev pub four_times : Slots
four_times = sealed_at (log_left three_times 448 (dies_behind 448)) 448

abbrev pub five_times : Slots
five_times = sealed_at (log_left four_times 512 (dies_behind 512)) 512

-- a sixth life, in which a record comes
abbrev pub last_record : Redo
last_record = redo_with 4 1

abbrev pub last_life : List LogEvent
last_life = Append last_record ∷ Issue ∷ Arrive 577 ∷ []

-- each death leaves the log as its mount read it, and each seal ends it 64 numbers further: from the third on the synced record isn't among the 192 numbers that are read
pub record FiveDeathsLeaveNothing : Type 0 where
  pub first : IsWorkedRun new_log 255 first_life 256 (synced ∷ [])
  pub once_ : IsSealedAs once 320 (synced ∷ [])
  pub second : IsWorkedRun once 320 (dies_behind 320) 320 (synced ∷ [])
  pub twice_ : IsSealedAs twice 384 (synced ∷ [])
  pub third : IsWorkedRun twice 384 (dies_behind 384) 384 (synced ∷ [])
  pub three_times_ : IsSealedAs three_times 448 []
  pub fourth : IsWorkedRun three_times 448 (dies_behind 448) 448 []
  pub four_times_ : IsSealedAs four_times 512 []
  pub fifth : IsWorkedRun four_times 512 (dies_behind 512) 512 []
  pub five_times_ : IsSealedAs five_times 576 []
  pub sixth : IsWorkedRun five_times 576 last_life 577 (last_record ∷ [])
