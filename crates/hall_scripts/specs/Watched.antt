-- What a watched run of a script comes to: the figures that were read of its record, or why it ended otherwise.
use Rattle.std.specs.Prelude.{ℕ, Some, Result, Ok, Err, List}
use Rattle.std.specs.Global.{Vec}
use Rattle.frang_base.specs.declared.fault.NoMemory.{NoMemory as Want}
use Rattle.frang_base.specs.declared.script.Line.{Line}
use Rattle.frang_outside.specs.Outside.{State as Outside}
use Rattle.frang_board.specs.declared.figures.Figures.{Figures}
use Rattle.hall_runs.specs.declared.event.End.TheVariants.{Ended}
use Rattle.frang_hall.specs.declared.room.Finish.{Finish}
use Rattle.watched_hall.specs.Watching.{IsWatched}
use Rattle.hall_scripts.specs.declared.fault.RunFault.{RunFault}
use Rattle.hall_scripts.specs.declared.fault.RunFault.TheVariants as run
use Rattle.hall_scripts.specs.Runs.{Beginning, Ends, RanFrom, came_to}

-- the run came to its end, and these figures were read of its record in so many reads, the last of them behind it
pub record EndedWatched (script : List Line) (from : Beginning) (before after : Outside) (reads : ℕ) (list : List Figures) : Type 0 where
  pub said : ℕ
  pub ran : RanFrom script from before after (Some Ended) said
  pub watched : IsWatched ran.kept.moment.record_ reads list

-- by the result
abbrev pub EndsWatched : List Line → Beginning → Outside → Outside → ℕ → Result (Vec Figures) RunFault → Type 0
EndsWatched script from before after reads (Ok list) = EndedWatched script from before after reads list.items
EndsWatched script from before after reads (Err fault) = Ends script from before after (Err fault)

-- ---- its parts

-- the figures, where nothing went wrong
abbrev pub unless_fault : Vec Figures → Result (Unit {0}) RunFault → Result (Vec Figures) RunFault
unless_fault list (Ok done) = Ok list
unless_fault list (Err fault) = Err fault

-- the result by what a watched run of the hall came to
abbrev pub figures_read : Result (Finish × Vec Figures) Want → Result (Vec Figures) RunFault
figures_read (Err want) = Err run.NoMemory
figures_read (Ok came) = unless_fault came.1 (came_to (Ok came.0))
