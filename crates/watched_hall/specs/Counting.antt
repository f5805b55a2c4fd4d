-- What the lines of a record come to in figures, and what an event adds to them.
use Rattle.std.specs.Prelude.{◌≡◌, ◌+◌, ◌-◌, ◌^◌, ◌<◌, ◌&&◌, nat_lt, ℕ, Bool, true, false, Option, Some, None, List, length, filter}
use Rattle.frang_base.specs.declared.said.Said.{Said}
use Rattle.frang_base.specs.declared.said.Said.TheVariants as said
use Rattle.frang_board.specs.declared.figures.Figures.{Figures}
use Rattle.core_definitions.specs.Effects.{Deed}
use Rattle.core_definitions.specs.Runs.{saids_of}
use Rattle.hall_runs.specs.declared.event.Event.{Event as Named}
use Rattle.hall_runs.specs.declared.event.Event.TheVariants as event
use Rattle.frang_hall.specs.Machines.{Stands}
use Rattle.watched_hall.specs.declared.line.LineKind.{LineKind}
use Rattle.watched_hall.specs.declared.line.LineKind.TheVariants as line

-- ---- what lines come to

abbrev pub is_answer : Said → Bool
is_answer (said.Answer server number reply) = true
is_answer other = false

abbrev pub is_dead : Said → Bool
is_dead (said.Dead server) = true
is_dead other = false

abbrev pub is_recovered : Said → Bool
is_recovered (said.Recovered server keeps) = true
is_recovered other = false

-- how many lines, answers, lines that a server is dead, and lines that one is recovered
abbrev pub figures_of : List Said → Figures
figures_of saids = record {
  said = length saids;
  answered = length (filter is_answer saids);
  dead = length (filter is_dead saids);
  recovered = length (filter is_recovered saids);
}

-- those of a record
abbrev pub figures_in : List Deed → Figures
figures_in deeds = figures_of (saids_of deeds)

-- ---- what an event adds

-- the line that an event says, if it says one
abbrev pub line_of : Named → Option LineKind
line_of (event.Commit a) = Some line.Answer
line_of (event.Answer a) = Some line.Answer
line_of (event.HostLine number) = Some line.Answer
line_of (event.Die a) = Some line.Dead
line_of (event.Finish by) = Some line.Recovered
line_of (event.Resume a) = Some line.Other
line_of (event.Recover dead by) = Some line.Other
line_of (event.Show place) = Some line.Other
line_of event.End = Some line.Other
line_of other = None

-- one line more
abbrev pub counted : Figures → LineKind → Figures
counted f line.Answer = record f { said = f.said + 1; answered = f.answered + 1 }
counted f line.Dead = record f { said = f.said + 1; dead = f.dead + 1 }
counted f line.Recovered = record f { said = f.said + 1; recovered = f.recovered + 1 }
counted f line.Other = record f { said = f.said + 1 }

abbrev pub counted_if : Figures → Option LineKind → Figures
counted_if f None = f
counted_if f (Some kind) = counted f kind

abbrev pub figures_after : Figures → Named → Figures
figures_after f event = counted_if f (line_of event)

-- none of the numbers is at its type's end
abbrev pub HasRoom : Figures → Type 0
HasRoom f = (f.said < 2 ^ 64 - 1) × (f.answered < 2 ^ 64 - 1) × (f.dead < 2 ^ 64 - 1) × (f.recovered < 2 ^ 64 - 1)

abbrev pub has_room : Figures → Bool
has_room f = nat_lt f.said (2 ^ 64 - 1) && nat_lt f.answered (2 ^ 64 - 1) && nat_lt f.dead (2 ^ 64 - 1) && nat_lt f.recovered (2 ^ 64 - 1)

-- of a moment, and what its record comes to is this
abbrev pub Counts : Stands → Figures → Stands
Counts stands figures = λ r. stands r × (figures ≡ figures_in r.record_)
