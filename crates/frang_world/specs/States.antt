-- What contracts see of the world with what its host has read, and the core that it is.
use Rattle.std.specs.Prelude.{◌≡◌, IfSome, IsSomeAnd, Option}
use Rattle.core_definitions.specs.Cores.{Core}
use Rattle.core_definitions.specs.Events.{Event}
use Rattle.hall_runs.specs.declared.event.Event.{Event as Named}
use Rattle.hall_runs.specs.declared.event.Event.TheVariants as named
use Rattle.host_tree.specs.Reading.{HostReading}
use Rattle.world_state.specs.States.{State as Servers}
use Rattle.world_next.specs.Over.{core_over}
use Rattle.world_ready.specs.Events.{event_in}
use Rattle.world_ready.specs.Making.{Fits}
use Rattle.world_ready.specs.Trees.{IsSaidInTime}
use Rattle.world_ready.specs.declared.kinds.Ready.{Ready}

-- the servers with all that is beside them, what the host has read and said of the tree, and what is ready for an event
pub record State : Type 0 where
  pub world : Servers
  pub tree : HostReading
  pub ready : Option Ready

-- the core that it is
abbrev pub core_of : State → Core
core_of s = core_over s.world s.tree

-- the host reads the tree of the same disk, says nothing of it before all is read and never more than there is, and what is ready fits
pub record IsKept (s : State) : Type 0 where
  pub disk : s.tree.segments ≡ s.world.parties.segments
  pub said : IsSaidInTime s.tree
  pub fits : IfSome s.ready (Fits s.world s.tree)

-- something is ready for this event
abbrev pub IsReadyFor : State → Event → Type 0
IsReadyFor s event = IsSomeAnd s.ready (λ ready. event_in ready ≡ event)

-- an event is no arrival, which the outside is called for
abbrev pub IsNoArrival : Named → Type 0
IsNoArrival (named.Arrive ticket) = ⊥
IsNoArrival (named.Begin a) = Unit {0}
IsNoArrival (named.Ask a lock mode) = Unit {0}
IsNoArrival (named.Fetch a sector) = Unit {0}
IsNoArrival (named.Again a) = Unit {0}
IsNoArrival (named.Clear a block) = Unit {0}
IsNoArrival (named.Commit a) = Unit {0}
IsNoArrival (named.Answer a) = Unit {0}
IsNoArrival (named.Give a lock) = Unit {0}
IsNoArrival (named.Issue a sector) = Unit {0}
IsNoArrival (named.Doom a) = Unit {0}
IsNoArrival (named.Resume a) = Unit {0}
IsNoArrival (named.Lose ticket) = Unit {0}
IsNoArrival (named.Die a) = Unit {0}
IsNoArrival (named.Renew a) = Unit {0}
IsNoArrival named.Tick = Unit {0}
IsNoArrival (named.Recover dead by) = Unit {0}
IsNoArrival (named.Load by slot) = Unit {0}
IsNoArrival (named.Look by sector) = Unit {0}
IsNoArrival (named.Finish by) = Unit {0}
IsNoArrival (named.HostLine number) = Unit {0}
IsNoArrival (named.Close a) = Unit {0}
IsNoArrival (named.Read sector) = Unit {0}
IsNoArrival (named.Show place) = Unit {0}
IsNoArrival named.End = Unit {0}
