-- What a watched run comes to: how it is over, and what was read of it.
use Rattle.std.specs.Prelude.{◌≡◌, ◌⊎◌, ◌+◌, ℕ, Option, None, Result, Ok, Err, List, length}
use Rattle.std.specs.Global.{Vec}
use Rattle.frang_base.specs.declared.fault.NoMemory.{NoMemory}
use Rattle.frang_outside.specs.Outside.{State as Outside}
use Rattle.frang_board.specs.declared.figures.Figures.{Figures}
use Rattle.frang_board.specs.Figures.{last_of}
use Rattle.core_definitions.specs.Effects.{Deed}
use Rattle.core_definitions.specs.Runs.{State as RunMoment}
use Rattle.core_definitions.specs.Settings.{Setting}
use Rattle.hall_runs.specs.declared.event.End.{End}
use Rattle.hall_runs.specs.Keeping.{Kept, KeptAt}
use Rattle.hall_runs.specs.Outsets.{Outset}
use Rattle.frang_hall.specs.declared.room.Finish.{Finish}
use Rattle.frang_hall.specs.Finishing.{Finished}
use Rattle.frang_hall.specs.Machines.{Stands}
use Rattle.watched_hall.specs.Counting.{figures_in}
use Rattle.watched_hall.specs.Desks.{AreOfPrefixes}

-- what was read of a run with this record in so many reads, and behind that the figures of the whole record
pub record IsWatched (deeds : List Deed) (reads : ℕ) (list : List Figures) : Type 0 where
  pub count : length list ≡ reads + 1
  pub prefixes : AreOfPrefixes deeds list
  pub last : last_of list ≡ figures_in deeds

-- the finish tells how it is over, and the figures were read of its record; at want of memory it isn't over, or was before
abbrev pub Came : List Deed → ℕ → Option End → Option End → ℕ → Result (Finish × Vec Figures) NoMemory → Type 0
Came deeds reads before over said (Err want) = (over ≡ None) ⊎ (over ≡ before)
Came deeds reads before over said (Ok came) = Finished over said (Ok came.0) × IsWatched deeds reads came.1.items

-- what the type of a hall keeps, and what was read of the record of the same moment
pub record Watched (stands : Stands) (outset : Outset) (before : Option End) (reads : ℕ) (over : Option End) (said : ℕ) (now : Outside) (result : Result (Finish × Vec Figures) NoMemory) : Type 0 where
  pub moment : RunMoment
  pub is : KeptAt stands outset moment over said now
  pub came : Came moment.record_ reads before over said result

-- the outside is as a run of the core from the outset leaves it, the finish tells how that is over, and the figures are of its record
pub record WatchedRun (setting : Setting) (before after : Outside) (reads : ℕ) (result : Result (Finish × Vec Figures) NoMemory) : Type 0 where
  pub over : Option End
  pub said : ℕ
  pub kept : Kept (λ moment. Unit {0}) (record { setting = setting; outside = before }) over said after
  pub came : Came kept.moment.record_ reads None over said result
