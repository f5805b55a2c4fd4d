-- What a run of the core is of, and what it leaves in an outside.
use Rattle.std.specs.Prelude.{◌≡◌, ◌≤◌, ◌+◌, ◌-◌, ◌^◌, ℕ, min, Option, Some, None, List, [], ◌++◌}
use Rattle.frang_outside.specs.declared.act.Act.{Act}
use Rattle.frang_outside.specs.Outside.{State as Outside, Follows}
use Rattle.sector_bytes.specs.Sectors.{SameSectors}
use Rattle.core_definitions.specs.Runs.{State as RunMoment, Run, acts_of, first_state}
use Rattle.core_definitions.specs.Settings.{Setting, setting_of}
use Rattle.core_definitions.specs.Faults.{failed_calls}

-- its setting, and the outside as it was when the run began
pub record Outset : Type 0 where
  pub setting : Setting
  pub outside : Outside

-- the first moment
abbrev pub first_of : Outset → RunMoment
first_of outset = first_state outset.setting outset.outside.sectors

-- of no script, over an outside of nothing
abbrev pub no_outset : Outset
no_outset = record {
  setting = setting_of [] 0 0;
  outside = record { sectors = λ s. []; acts = None; faults = λ p. 0; say_faults = 0; mark = [] };
}

-- a record with more behind it, where it is told
abbrev pub told_behind : Option (List Act) → List Act → Option (List Act)
told_behind None more = None
told_behind (Some acts) more = Some (acts ++ more)

-- a count has risen by so many calls at least, or stands at its last value
abbrev pub IsWithin : ℕ → ℕ → ℕ → Type 0
IsWithin before calls now = min (before + calls) (2 ^ 64 - 1) ≤ now

-- a run from the outset comes to this moment, and leaves this outside: its sectors are the moment's; its record, where it is told, has the run's deeds behind
-- what it had; the failed calls of each party are within what its count has risen by; and no count fell, nor did the mark change
pub record RunsTo (outset : Outset) (moment : RunMoment) (now : Outside) : Type 0 where
  pub run : Run (first_of outset) moment
  pub sectors : SameSectors now.sectors moment.disk
  pub acts : now.acts ≡ told_behind outset.outside.acts (acts_of moment.record_)
  pub faults : (party : ℕ) → IsWithin (outset.outside.faults party) (failed_calls (first_of outset) moment run party) (now.faults party)
  pub fell : Follows outset.outside now
