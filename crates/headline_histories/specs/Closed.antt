-- Servers that were closed, which are up by the lines said: what is asked of their logs is a fact of logs and of the world's history alone.
use Rattle.std.specs.Prelude.{◌≡◌, ◌≢◌, ◌≤◌, ℕ, true, IsTrue, List, [], ◌∷◌}
use Rattle.sector_world.specs.Histories.{Commit, Entry}
use Rattle.sector_world.specs.Histories.Entry.{Did, Mounted, Recovered, Synced}
use Rattle.sector_world.specs.World.{World}
use Rattle.sector_world.specs.World.Phase.{Off}
use Rattle.disk_definitions.specs.Replay.{greatest_of}
use Rattle.core_definitions.specs.LineGuards.{is_server}
use Rattle.core_definitions.specs.Runs.{State as RunMoment}
use Rattle.stop_laws.specs.Sure.{has_mounted}
use Rattle.kept_laws.specs.Moments.{LogsKeep}
use Rattle.headline_definitions.specs.Beginning.{Beginning}
use Rattle.headline_histories.specs.Left.{LogsKeepAll}
use Rattle.headline_histories.specs.Moments.{IsMomentOf}

-- so it is of each operation of the server since its last mount
abbrev pub EachOfItsMount : (Commit → Type 0) → ℕ → List Entry → Type 0
EachOfItsMount P server [] = Unit {0}
EachOfItsMount P server (Did c ∷ older) = (c.by ≡ server → P c) × EachOfItsMount P server older
EachOfItsMount P server (Recovered other durable ∷ older) = EachOfItsMount P server older
EachOfItsMount P server (Synced other number ∷ older) = EachOfItsMount P server older
EachOfItsMount P server (Mounted other number ∷ older) = other ≢ server → EachOfItsMount P server older

-- the log on the disk has no operation that isn't durable, and since the server's last mount none with a record is above its greatest
pub record HasItsRecords (s : RunMoment) (w : World) (server : ℕ) : Type 0 where
  pub within : greatest_of s.disk server ≤ w.durable server
  pub records : EachOfItsMount (λ c. c.changes ≢ [] → c.op ≤ greatest_of s.disk server) server w.history

-- so it is of each server that is off, and was mounted and not recovered since
abbrev pub OffLogsHaveTheirRecords : RunMoment → World → Type 0
OffLogsHaveTheirRecords s w = (server : ℕ) → IsTrue (is_server server) → w.phase server ≡ Off → has_mounted server w.history ≡ true → HasItsRecords s w server

-- then who was closed keeps what is durable: who is up by the lines said was mounted and not recovered since
abbrev pub ClosedServersKeepTheirs : Type 0
ClosedServersKeepTheirs =
    (b : Beginning) (s : RunMoment) (w : World) (when : ℕ → ℕ) (numbers : List ℕ) (m : IsMomentOf b s w when numbers) → LogsKeep b.opening.tree w (greatest_of s.disk) m.told.happened →
    OffLogsHaveTheirRecords s w → LogsKeepAll b.opening.tree s w m.told.happened
