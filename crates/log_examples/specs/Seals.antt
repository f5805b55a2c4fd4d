-- A death within a seal: its sectors come one by one, by one recoverer or by several, and a mount goes on behind it.
use Rattle.std.specs.Prelude.{◌≡◌, false, List, [], ◌∷◌}
use Rattle.frang_base.specs.declared.change.Redo.{Redo}
use Rattle.disk_definitions.specs.Arriving.{with_sector}
use Rattle.disk_definitions.specs.LogSectors.{empty_sector}
use Rattle.disk_definitions.specs.Logs.{Slots, is_sealed}
use Rattle.ring_definitions.specs.RingRuns.{LogEvent}
use Rattle.ring_definitions.specs.RingRuns.LogEvent.{Append, Arrive, Issue}
use Rattle.ring_definitions.specs.Sealing.{IsSealedFrom, IsWithinFlight}
use Rattle.log_examples.specs.Rows.{IsSealedAs, IsWorkedRun, ReadAs, later_numbers, log_left, new_log, redo_with, with_seals}

-- three records have a sector each; that of the second is lost, and their server dies
abbrev pub first_record : Redo
first_record = redo_with 1 1

abbrev pub lost_record : Redo
lost_record = redo_with 2 1

abbrev pub third_record : Redo
third_record = redo_with 3 1

abbrev pub until_death : List LogEvent
until_death = Append first_record ∷ Issue ∷ Append lost_record ∷ Issue ∷ Append third_record ∷ Issue ∷ Arrive 256 ∷ Arrive 258 ∷ []

abbrev pub dead_log : Slots
dead_log = log_left new_log 255 until_death

-- the first recoverer writes some of the seal behind the gap, and dies; a second one, who reads the same end, writes others, and one again
abbrev pub begun_seal : Slots
begun_seal = with_seals dead_log (258 ∷ 300 ∷ 320 ∷ [])

abbrev pub second_seal : Slots
second_seal = with_seals begun_seal (319 ∷ 258 ∷ [])

-- a third one writes all, and in the end the first number, which closes the gap
abbrev pub later_seal : Slots
later_seal = with_seals second_seal (later_numbers 256)

abbrev pub whole_seal : Slots
whole_seal = with_sector later_seal (empty_sector 257)

-- a mount behind it: the dead session's sectors are gone, and a record comes behind the seal
abbrev pub next_record : Redo
next_record = redo_with 4 1

abbrev pub next_session : List LogEvent
next_session = Append next_record ∷ Issue ∷ Arrive 321 ∷ []

-- until the last sector of the seal stands the log ends and reads as its server left it, and isn't sealed; with it, it ends 64 further, is sealed, and reads the same, as the
-- law of sealing has it
pub record SealsComeBySectors : Type 0 where
  pub left : IsWorkedRun new_log 255 until_death 256 (first_record ∷ [])
  pub within : IsWithinFlight dead_log
  pub begun : ReadAs begun_seal 256 (first_record ∷ [])
  pub second : ReadAs second_seal 256 (first_record ∷ [])
  pub later : ReadAs later_seal 256 (first_record ∷ [])
  pub open_ : is_sealed later_seal ≡ false
  pub whole : IsSealedAs whole_seal 320 (first_record ∷ [])
  pub sealed : IsSealedFrom dead_log whole_seal
  pub mount : IsWorkedRun whole_seal 320 next_session 321 (first_record ∷ next_record ∷ [])
