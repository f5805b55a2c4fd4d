-- What is kept over all turns: a run of the core from the outset ends at this moment and leaves this outside.
use Rattle.std.specs.Prelude.{◌≡◌, ◌≤◌, ℕ, true, false, length, Option, Some, None}
use Rattle.frang_outside.specs.Outside.{State as Outside, Rose}
use Rattle.core_definitions.specs.Calls.{call_of}
use Rattle.core_definitions.specs.Events.{Event, Heard}
use Rattle.core_definitions.specs.Faults.{failed_calls, failing}
use Rattle.core_definitions.specs.Runs.{State as RunMoment, Makes, Run, next, saids_of}
use Rattle.core_definitions.specs.Scripts.{host_party}
use Rattle.hall_runs.specs.declared.event.End.{End}
use Rattle.hall_runs.specs.declared.event.End.TheVariants.{Ended, Mute, Fault}
use Rattle.hall_runs.specs.Asking.{sector_by}
use Rattle.hall_runs.specs.Outsets.{Outset, RunsTo, first_of}

-- on the way from one moment of a run to another a get or put of the host failed at this sector
pub record HostFailed (first moment : RunMoment) (sector : ℕ) : Type 0 where
  pub before : RunMoment
  pub event : Event
  pub heard : Heard
  pub run : Run first before
  pub makes : Makes before event heard
  pub failed : failing before.core event heard ≡ Some host_party
  pub at : sector_by (call_of before.core event) ≡ Some sector
  pub on : Run (next before event heard) moment

-- why it is over: the core is; a say failed; a call of the host failed, at this sector
abbrev pub Caused : Option End → Outset → RunMoment → Outside → Type 0
Caused None outset moment now = moment.core.over ≡ false
Caused (Some Ended) outset moment now = moment.core.over ≡ true
Caused (Some Mute) outset moment now = Rose outset.outside.say_faults now.say_faults
Caused (Some (Fault sector)) outset moment now = Rose (outset.outside.faults host_party) (now.faults host_party) × HostFailed (first_of outset) moment sector.0

-- a call of the host failed in the run exactly where it is over by that
abbrev pub HostFails : Option End → ℕ → Type 0
HostFails (Some (Fault sector)) failed = 1 ≤ failed
HostFails over failed = failed ≡ 0

-- what the type of a hall keeps at this moment: besides, its world is the moment's, by what the world's type says of that, and so many lines were said
pub record KeptAt (stands : RunMoment → Type 0) (outset : Outset) (moment : RunMoment) (over : Option End) (said : ℕ) (now : Outside) : Type 0 where
  pub runs : RunsTo outset moment now
  pub stands_for : stands moment
  pub count : said ≡ length (saids_of moment.record_)
  pub cause : Caused over outset moment now
  pub host : HostFails over (failed_calls (first_of outset) moment runs.run host_party)

pub record Kept (stands : RunMoment → Type 0) (outset : Outset) (over : Option End) (said : ℕ) (now : Outside) : Type 0 where
  pub moment : RunMoment
  pub is : KeptAt stands outset moment over said now
