-- What an event asks of the outside, as the program names events and calls, and what the program is told of the answer.
use Rattle.std.specs.Prelude.{◌≡◌, ℕ, Option, Some, None, List}
use Rattle.frang_outside.specs.declared.act.Put.{Put}
use Rattle.core_definitions.specs.Calls.{call_of, Call as Asked, NoCall, Get, MakePut, Say}
use Rattle.core_definitions.specs.Cores.{Core}
use Rattle.core_definitions.specs.Events.{Event, Heard, Nothing, Got, GetFailed}
use Rattle.core_definitions.specs.Events as core
use Rattle.hall_runs.specs.declared.event.Event.{Event as Named}
use Rattle.hall_runs.specs.declared.event.Event.TheVariants as event
use Rattle.hall_runs.specs.declared.event.Call.{Call}
use Rattle.hall_runs.specs.declared.event.Call.TheVariants as call
use Rattle.hall_runs.specs.declared.event.Heard.{Heard as Told}
use Rattle.hall_runs.specs.declared.event.Heard.TheVariants as told

-- an event by the program's name of it
abbrev pub event_of : Named → Event
event_of (event.Begin a) = core.Begin a.0
event_of (event.Ask a lock mode) = core.Ask a.0 lock mode
event_of (event.Fetch a sector) = core.Fetch a.0 sector.0
event_of (event.Again a) = core.Again a.0
event_of (event.Clear a block) = core.Clear a.0 block
event_of (event.Commit a) = core.Commit a.0
event_of (event.Answer a) = core.Answer a.0
event_of (event.Give a lock) = core.Give a.0 lock
event_of (event.Issue a sector) = core.Issue a.0 sector.0
event_of (event.Doom a) = core.Doom a.0
event_of (event.Resume a) = core.Resume a.0
event_of (event.Arrive ticket) = core.Arrive ticket.0
event_of (event.Lose ticket) = core.Lose ticket.0
event_of (event.Die a) = core.Die a.0
event_of (event.Renew a) = core.Renew a.0
event_of event.Tick = core.Tick
event_of (event.Recover dead by) = core.Recover dead.0 by.0
event_of (event.Load by slot) = core.Load by.0 slot
event_of (event.Look by sector) = core.Look by.0 sector.0
event_of (event.Finish by) = core.Finish by.0
event_of (event.HostLine number) = core.HostLine number
event_of (event.Close a) = core.Close a.0
event_of (event.Read sector) = core.Read sector.0
event_of (event.Show place) = core.Show place
event_of event.End = core.End

-- the write with this ticket is made, a party's, at this sector
pub record AsksPut (c : Core) (event : Event) (ticket party sector : ℕ) : Type 0 where
  pub put : Put
  pub call_is : call_of c event ≡ MakePut ticket put
  pub party_is : party ≡ put.server.0
  pub sector_is : sector ≡ put.sector.0

-- what an event asks of the outside
abbrev pub Asks : Core → Event → Call → Type 0
Asks c event call.Nothing = call_of c event ≡ NoCall
Asks c event (call.Get party sector) = call_of c event ≡ Get party.0 sector.0
Asks c event (call.Put ticket party sector) = AsksPut c event ticket.0 party.0 sector.0
Asks c event (call.Say text) = call_of c event ≡ Say text

-- the sector of a call
abbrev pub sector_by : Asked → Option ℕ
sector_by (Get party sector) = Some sector
sector_by (MakePut ticket put) = Some put.sector.0
sector_by call = None

-- what is heard, as the program is told it
abbrev pub heard_of : Told → Heard
heard_of told.Nothing = Nothing
heard_of (told.Got block) = Got block
heard_of told.GetFailed = GetFailed
