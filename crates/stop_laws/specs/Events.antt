-- What every event of servers keeps of sights and of recoveries.
use Rattle.std.specs.Prelude.{◌≡◌, ◌≢◌, ◌≤◌, ℕ, Bool, true}
use Rattle.frang_base.specs.declared.lock.LockId.{LockId}
use Rattle.sector_bytes.specs.Blocks.{Block}
use Rattle.sector_world.specs.Kinds.{Good}
use Rattle.sector_world.specs.Steps.{Event, Can, after}
use Rattle.sector_world.specs.World.{World, start}
use Rattle.sector_world.specs.World.Phase.{Off}
use Rattle.stop_laws.specs.Coverage.{RecoveriesRise, recovered_to}
use Rattle.stop_laws.specs.Sight.{AllSaw, AllShowed}
use Rattle.stop_laws.specs.Sure.{AreRecoveredOnce, has_mounted}
use Rattle.stop_laws.specs.Synced.{SyncsRise}

-- Each operation saw all that is under its locks where it happened, and showed what was known; no recovery removed what an earlier one of the same log kept, and
-- none would now; syncs rise; and who isn't off was mounted and not recovered since, as each was whose log was recovered
pub record IsInSight (w : World) : Type 0 where
  pub saw : AllSaw w.home w.history
  pub showed : AllShowed w.first w.history
  pub rise : RecoveriesRise w.history
  pub below : (server : ℕ) → recovered_to w.history server ≤ w.durable server
  pub syncs : SyncsRise w.history
  pub mounted : AreRecoveredOnce w.history
  pub active : (server : ℕ) → w.phase server ≢ Off → has_mounted server w.history ≡ true

-- so it is at the start
abbrev pub StartsAreInSight : Type 0
StartsAreInSight = (servers : ℕ) (disk : ℕ → Block) (logged of_files : ℕ → Bool) (home : ℕ → LockId) → IsInSight (start servers disk logged of_files home)

-- and after each event, where it was before it
abbrev pub EventsKeepSight : Type 0
EventsKeepSight = (w : World) (e : Event) → Can w e → Good w → IsInSight w → IsInSight (after w e)
