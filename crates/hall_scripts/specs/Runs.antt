-- What a run of a script leaves in an outside, on a fresh disk or on that of an image, and why it ended.
use Rattle.std.specs.Prelude.{◌≡◌, ◌⊎◌, ℕ, Bool, if◌then◌else◌, Option, Some, None, Result, Ok, Err, List, MatchResult}
use Rattle.frang_base.specs.declared.fault.NoMemory.{NoMemory as Want}
use Rattle.frang_base.specs.declared.script.Line.{Line}
use Rattle.frang_base.specs.declared.sector.Sector.{Sector}
use Rattle.frang_outside.specs.Outside.{State as Outside, Rose}
use Rattle.core_definitions.specs.Opening.{Puts, fresh_puts, image_puts, next_param}
use Rattle.core_definitions.specs.Scripts.{host_party}
use Rattle.disk_definitions.specs.declared.param.Param.{Param}
use Rattle.core_definitions.specs.Settings.{setting_of}
use Rattle.hall_runs.specs.declared.event.End.{End}
use Rattle.hall_runs.specs.declared.event.End.TheVariants.{Ended, Mute, Fault}
use Rattle.hall_runs.specs.Keeping.{Kept}
use Rattle.hall_runs.specs.Outsets.{Outset}
use Rattle.opening.specs.declared.puts.OpenFault.{OpenFault}
use Rattle.opening.specs.declared.puts.OpenFault.TheVariants as opens
use Rattle.opening.specs.Puts.{HasPut, StopsAt}
use Rattle.frang_hall.specs.declared.room.Finish.{Finish}
use Rattle.disk_definitions.specs.FreshDisk.{fresh_param}
use Rattle.disk_definitions.specs.Params.{param_fits}
use Rattle.hall_scripts.specs.declared.disk.StartDisk.{StartDisk}
use Rattle.hall_scripts.specs.declared.disk.StartDisk.TheVariants as start
use Rattle.hall_scripts.specs.declared.fault.RunFault.{RunFault}
use Rattle.hall_scripts.specs.declared.fault.RunFault.TheVariants as run

-- sectors with their blocks
abbrev pub Blocks : Type 0
Blocks = List (ℕ × List ℕ)

-- what a run begins from: how many segments the disk has, the number of the run, and what the opening puts
pub record Beginning : Type 0 where
  pub segments : ℕ
  pub run : ℕ
  pub puts : Puts

-- a fresh disk
abbrev pub on_fresh : ℕ → Beginning
on_fresh segments = record { segments = segments; run = 1; puts = fresh_puts segments }

-- the disk of an image with these parameters, once its logs are replayed: its next run
abbrev pub on_image : Param → Blocks → Beginning
on_image p disk = record { segments = p.segments; run = (next_param p).run; puts = image_puts p disk }

-- what begins a run of a script in this outside
abbrev pub outset_of : List Line → Beginning → Outside → Outset
outset_of script from opened = record { setting = setting_of script from.segments from.run; outside = opened }

-- a run from the opening: an outside stands between that has the opening's puts, and from it a run of the core, over by this after so many lines said, comes to the outside after
pub record RanFrom (script : List Line) (from : Beginning) (before after : Outside) (over : Option End) (said : ℕ) : Type 0 where
  pub opened : Outside
  pub puts : HasPut before opened from.puts
  pub kept : Kept (λ moment. Unit {0}) (outset_of script from opened) over said after

-- the same, however many lines were said
pub record RanTo (script : List Line) (from : Beginning) (before after : Outside) (over : Option End) : Type 0 where
  pub said : ℕ
  pub ran : RanFrom script from before after over said

-- ---- whatever the result

-- what a run leaves: at first nothing; then the first of the opening's puts; then all of them, and what a run of the core leaves from there
pub data Leaves (script : List Line) (from : Beginning) (before after : Outside) : Type 0 where
  Untouched : after ≡ before → Leaves script from before after
  Stopped : (fault : OpenFault) → StopsAt before after from.puts fault → Leaves script from before after
  Went : (over : Option End) → RanTo script from before after over → Leaves script from before after

-- ---- by the result

-- why it wants memory: before anything, in the opening, or in the run, which then isn't over
pub data Wants (script : List Line) (from : Beginning) (before after : Outside) : Type 0 where
  AtFirst : after ≡ before → Wants script from before after
  InOpening : StopsAt before after from.puts opens.NoMemory → Wants script from before after
  InRun : RanTo script from before after None → Wants script from before after

-- why it ends so: the run came to its end; a say failed, after so many lines; a put of the opening failed at this sector, or a get or put of the host in the run
abbrev pub Ends : List Line → Beginning → Outside → Outside → Result (Unit {0}) RunFault → Type 0
Ends script from before after (Ok done) = RanTo script from before after (Some Ended)
Ends script from before after (Err (run.Mute said)) = Rose before.say_faults after.say_faults × RanFrom script from before after (Some Mute) said
Ends script from before after (Err (run.Fault sector)) =
    Rose (before.faults host_party) (after.faults host_party) × (StopsAt before after from.puts (opens.Failed sector) ⊎ RanTo script from before after (Some (Fault sector)))
Ends script from before after (Err run.NoMemory) = Wants script from before after

-- ---- its parts

-- the opening by its result
abbrev pub Opens : Beginning → Outside → Outside → Result (Unit {0}) RunFault → Type 0
Opens from before after (Ok done) = HasPut before after from.puts
Opens from before after (Err (run.Mute said)) = ⊥
Opens from before after (Err (run.Fault sector)) = StopsAt before after from.puts (opens.Failed sector)
Opens from before after (Err run.NoMemory) = StopsAt before after from.puts opens.NoMemory

abbrev pub opened_by : Result (Unit {0}) OpenFault → Result (Unit {0}) RunFault
opened_by (Ok done) = Ok tt
opened_by (Err (opens.Failed sector)) = Err (run.Fault sector)
opened_by (Err opens.NoMemory) = Err run.NoMemory

-- the result by what a run of the hall came to
abbrev pub fault_to : Option Sector → Result (Unit {0}) RunFault
fault_to None = Ok tt
fault_to (Some sector) = Err (run.Fault sector)

abbrev pub came_to_by : Finish → Result (Unit {0}) RunFault
came_to_by finish = if finish.mute then Err (run.Mute finish.said) else fault_to finish.fault

abbrev pub came_to : Result Finish Want → Result (Unit {0}) RunFault
came_to (Err want) = Err run.NoMemory
came_to (Ok finish) = came_to_by finish

-- ---- the disk on which a script is run

abbrev pub beginning_of : StartDisk → Beginning
beginning_of (start.Fresh segments) = on_fresh segments
beginning_of (start.Image param disk) = on_image param disk.now

-- its parameters may be put
abbrev pub may_begin : StartDisk → Bool
may_begin (start.Fresh segments) = param_fits (fresh_param segments)
may_begin (start.Image param disk) = param_fits (next_param param)

-- what its opening puts is put, or the first of it
abbrev pub IsOpened : StartDisk → Outside → Outside → Result (Unit {0}) OpenFault → Type 0
IsOpened disk before after result = MatchResult result (λ done. HasPut before after (beginning_of disk).puts) (λ fault. StopsAt before after (beginning_of disk).puts fault)
