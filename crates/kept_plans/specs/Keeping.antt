-- What leaves a kept plan what it is.
use Rattle.std.specs.Prelude.{◌≡◌, ℕ, Option}
use Rattle.sector_bytes.specs.Blocks.{Block}
use Rattle.set_definitions.specs.Sets.{LockSet}
use Rattle.set_definitions.specs.Usable.{usable}
use Rattle.core_definitions.specs.Flights.{Purpose}
use Rattle.core_definitions.specs.Servers.{Server}
use Rattle.core_definitions.specs.Settings.{Setting}
use Rattle.core_definitions.specs.WriteEffects.{acknowledged}
use Rattle.kept_plans.specs.declared.kept.KeptPlan.{KeptPlan}
use Rattle.kept_plans.specs.Kept.{IsKeptBeside}

-- the same line is under way, and it may use the same sectors of the cache, whatever its set
pub record SameBeside (old new : Server) : Type 0 where
  pub under : new.under ≡ old.under
  pub usable : (set : LockSet) → usable set new.cache ≡ usable set old.cache

-- then a kept plan stays
abbrev pub AKeptPlanStays : Type 0
AKeptPlanStays = (setting : Setting) (old new : Server) (plan : Option KeptPlan) → SameBeside old new → IsKeptBeside setting old plan → IsKeptBeside setting new plan

-- so it does when a write of its server is acknowledged
abbrev pub AnAcknowledgedWriteLeavesIt : Type 0
AnAcknowledgedWriteLeavesIt = (sector : ℕ) (block : Block) (purpose : Purpose) (server : Server) → SameBeside server (acknowledged sector block purpose server)
