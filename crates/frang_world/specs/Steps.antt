-- What a step makes of a world and of what its host has read; and for which events the world makes what is ready by itself.
use Rattle.std.specs.Prelude.{◌≡◌}
use Rattle.core_definitions.specs.Effects.{after}
use Rattle.core_definitions.specs.Events.{Event, Heard}
use Rattle.host_tree.specs.Reading.{HostReading}
use Rattle.world_state.specs.States.{State as Servers}
use Rattle.world_next.specs.Over.{core_over}
use Rattle.world_ready.specs.Trees.{IsSaidInTime}
use Rattle.world_ready.specs.declared.kinds.Ready.{Ready}
use Rattle.world_ready.specs.declared.kinds.Ready.TheVariants as ready

-- the core is what the event makes of it by what was heard, the disk is the same, and nothing is said of the tree before its time
pub record IsStep (old : Servers) (was : HostReading) (new : Servers) (tree : HostReading) (event : Event) (heard : Heard) : Type 0 where
  pub core : core_over new tree ≡ after (core_over old was) event heard
  pub disk : tree.segments ≡ new.parties.segments
  pub said : IsSaidInTime tree

-- all but an arrival, which the outside is called for
abbrev pub IsNoArrivalReady : Ready → Type 0
IsNoArrivalReady (ready.Arrive ticket) = ⊥
IsNoArrivalReady (ready.Begin a under) = Unit {0}
IsNoArrivalReady (ready.Ask a lock mode) = Unit {0}
IsNoArrivalReady (ready.FetchSector a sector cover) = Unit {0}
IsNoArrivalReady (ready.FetchSlot a sector) = Unit {0}
IsNoArrivalReady (ready.Again a again) = Unit {0}
IsNoArrivalReady (ready.Clear a block) = Unit {0}
IsNoArrivalReady (ready.Commit a) = Unit {0}
IsNoArrivalReady (ready.Answer a answer ring) = Unit {0}
IsNoArrivalReady (ready.Give a lock) = Unit {0}
IsNoArrivalReady (ready.Issue a sector write) = Unit {0}
IsNoArrivalReady (ready.Doom a fate) = Unit {0}
IsNoArrivalReady (ready.Resume a) = Unit {0}
IsNoArrivalReady (ready.Lose ticket) = Unit {0}
IsNoArrivalReady (ready.Die a) = Unit {0}
IsNoArrivalReady (ready.Renew a) = Unit {0}
IsNoArrivalReady ready.Tick = Unit {0}
IsNoArrivalReady (ready.Recover dead by demon) = Unit {0}
IsNoArrivalReady (ready.Load by slot) = Unit {0}
IsNoArrivalReady (ready.Look by sector) = Unit {0}
IsNoArrivalReady (ready.Finish by) = Unit {0}
IsNoArrivalReady (ready.HostLine number) = Unit {0}
IsNoArrivalReady (ready.Close a) = Unit {0}
IsNoArrivalReady (ready.Read sector) = Unit {0}
IsNoArrivalReady (ready.Show place) = Unit {0}
IsNoArrivalReady ready.End = Unit {0}
