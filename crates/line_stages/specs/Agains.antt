-- What is made ready for a line to go on again.
use Rattle.std.specs.Prelude.{◌≡◌, Option, Some, None, List}
use Rattle.disk_definitions.specs.Plans.{Lock}
use Rattle.set_definitions.specs.Seen.{SeenSectors}
use Rattle.set_definitions.specs.Sets.{LockSet, first_set}
use Rattle.core_definitions.specs.Lines.{Stage, Moving, Growing, Finishing}
use Rattle.core_definitions.specs.LineEffects.{again_by}
use Rattle.core_definitions.specs.Plans.{Outcome}
use Rattle.core_definitions.specs.Servers.{Server}
use Rattle.core_definitions.specs.Settings.{disk_logs}
use Rattle.server_core.specs.Effects.{GrowsTo}
use Rattle.line_stages.specs.declared.again.Again.{Again}
use Rattle.line_stages.specs.declared.again.Again.TheVariants as agains

-- a seen sector has moved, and this is the set with which a line begins
pub record IsAnew (at : Option Stage) (first : LockSet) : Type 0 where
  pub moved : at ≡ Some Moving
  pub is : first ≡ first_set

-- the set grows, and this is the set then and what is seen
pub record IsGrown (server : Server) (at : Option Stage) (set : LockSet) (seen : SeenSectors) : Type 0 where
  pub needs : List Lock
  pub grows : at ≡ Some (Growing needs seen)
  pub becomes : GrowsTo server.under needs set

-- the line is finished
pub record IsReclaim (at : Option Stage) : Type 0 where
  pub outcome : Outcome
  pub finishes : at ≡ Some (Finishing outcome)

-- it is what the stage makes of the server once the line goes on again
abbrev pub IsAgain : Server → Option Stage → Again → Type 0
IsAgain server at (agains.Anew first) = IsAnew at first
IsAgain server at (agains.Grown set seen) = IsGrown server at set seen
IsAgain server at agains.Reclaim = IsReclaim at

-- or nothing, where the stage makes nothing of the server
abbrev pub IsAgainAt : Server → Option Stage → Option Again → Type 0
IsAgainAt server at None = again_by disk_logs at server ≡ server
IsAgainAt server at (Some again) = IsAgain server at again

-- a line that begins anew does so with the set with which a line begins
abbrev pub IsFirstWhereAnew : Again → Type 0
IsFirstWhereAnew (agains.Anew first) = first ≡ first_set
IsFirstWhereAnew (agains.Grown set seen) = Unit {0}
IsFirstWhereAnew agains.Reclaim = Unit {0}
