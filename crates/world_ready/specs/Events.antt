-- The event for which something is ready.
use Rattle.core_definitions.specs.Events.{Event}
use Rattle.core_definitions.specs.Events as core
use Rattle.world_ready.specs.declared.kinds.Ready.{Ready}
use Rattle.world_ready.specs.declared.kinds.Ready.TheVariants as ready

abbrev pub event_in : Ready → Event
event_in (ready.Begin a under) = core.Begin a.0
event_in (ready.Ask a lock mode) = core.Ask a.0 lock mode
event_in (ready.FetchSector a sector cover) = core.Fetch a.0 sector.0
event_in (ready.FetchSlot a sector) = core.Fetch a.0 sector.0
event_in (ready.Again a again) = core.Again a.0
event_in (ready.Clear a block) = core.Clear a.0 block
event_in (ready.Commit a) = core.Commit a.0
event_in (ready.Answer a answer ring) = core.Answer a.0
event_in (ready.Give a lock) = core.Give a.0 lock
event_in (ready.Issue a sector write) = core.Issue a.0 sector.0
event_in (ready.Doom a fate) = core.Doom a.0
event_in (ready.Resume a) = core.Resume a.0
event_in (ready.Arrive ticket) = core.Arrive ticket.0
event_in (ready.Lose ticket) = core.Lose ticket.0
event_in (ready.Die a) = core.Die a.0
event_in (ready.Renew a) = core.Renew a.0
event_in ready.Tick = core.Tick
event_in (ready.Recover dead by demon) = core.Recover dead.0 by.0
event_in (ready.Load by slot) = core.Load by.0 slot
event_in (ready.Look by sector) = core.Look by.0 sector.0
event_in (ready.Finish by) = core.Finish by.0
event_in (ready.HostLine number) = core.HostLine number
event_in (ready.Close a) = core.Close a.0
event_in (ready.Read sector) = core.Read sector.0
event_in (ready.Show place) = core.Show place
event_in ready.End = core.End
