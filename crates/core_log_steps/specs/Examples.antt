-- A run at which what the laws ask is met, and a dead server whose log stays replayed.
use Rattle.std.specs.Prelude.{◌≡◌, ◌<◌, ℕ, zero, suc, [], ◌∷◌}
use Rattle.frang_base.specs.declared.limits.TheConstants.{ROOT_INODE}
use Rattle.sector_bytes.specs.Blocks.{zero_block}
use Rattle.core_definitions.specs.Events.{Read, Got}
use Rattle.core_definitions.specs.Runs.{State as RunMoment, next}
use Rattle.core_definitions.specs.Trees.{inode_sector}
use Rattle.sector_world.specs.Kinds.{Good}
use Rattle.sector_world.specs.Steps.{Run, after}
use Rattle.sector_world.specs.Steps.Event.{Crash, Mount, Tick}
use Rattle.sector_world.specs.World.{World, Dead}
use Rattle.core_lives.specs.Examples.{empty_moment, empty_world}
use Rattle.core_world.specs.Journals.{Journal}
use Rattle.core_world.specs.Steps.{Leads}
use Rattle.core_readings.specs.Logs.{IsReplayed}
use Rattle.core_log_steps.specs.Steps.{Along, AreFit}
use Rattle.core_log_steps.specs.Worlds.{AlongWorlds, AreBeside}

-- ---- a run

-- the host has read the root's inode
abbrev pub read_moment : RunMoment
read_moment = next empty_moment (Read (inode_sector ROOT_INODE)) (Got zero_block)

-- from the first moment over a disk of zeros, without lines, events lead on to a world of the next; the logs stand and seals come behind the replay, at first and then
pub record StandsAlong (journal : ℕ → Journal) : Type 0 where
  pub fit : AreFit empty_moment
  pub named : Along empty_moment journal read_moment journal
  pub beside : AreBeside empty_moment empty_world journal
  pub leads : Leads empty_world read_moment journal
  pub along : AlongWorlds empty_moment empty_world journal read_moment leads.world journal
  pub beside_then : AreBeside read_moment leads.world journal

abbrev pub EmptyRunsStand : Type 0
EmptyRunsStand = (journal : ℕ → Journal) → StandsAlong journal

-- ---- a dead server

-- so many ticks on
abbrev pub ticked : ℕ → World → World
ticked zero w = w
ticked (suc n) w = ticked n (after w Tick)

-- the first server mounts, dies, and its lease is over
abbrev pub fallen_world : World
fallen_world = ticked 31 (after (after empty_world (Mount 0)) (Crash 0))

-- one tick more: what is asked is met, and its log stays replayed
pub record StaysReplayed : Type 0 where
  pub good : Good fallen_world
  pub run : Run fallen_world (Tick ∷ []) (after fallen_world Tick)
  pub dead : fallen_world.phase 0 ≡ Dead
  pub over : fallen_world.expiry 0 < fallen_world.now
  pub all : IsReplayed fallen_world 0
  pub all_then : IsReplayed (after fallen_world Tick) 0
