-- How the logs of servers that are off go on: while a server is off nothing is written in its log, and as it leaves its log has the records of its mount.
use Rattle.std.specs.Prelude.{◌≡◌, ◌≢◌, ◌≤◌, ◌<◌, ◌⊎◌, ℕ, true, IsTrue, List, ◌∷◌}
use Rattle.frang_base.specs.declared.limits.TheConstants.{LOG_SECTORS}
use Rattle.tree_definitions.specs.Tree.{FileTree}
use Rattle.sector_world.specs.Histories.{Entry}
use Rattle.sector_world.specs.Histories.Entry.{Did, Mounted, Recovered, Synced}
use Rattle.sector_world.specs.Kinds.{Good}
use Rattle.sector_world.specs.World.{World}
use Rattle.sector_world.specs.World.Phase.{Off}
use Rattle.disk_definitions.specs.Replay.{greatest_of, slots_of}
use Rattle.core_definitions.specs.LineGuards.{is_server}
use Rattle.core_definitions.specs.Runs.{State as RunMoment, Step}
use Rattle.core_definitions.specs.Servers.{is_off}
use Rattle.core_world.specs.Steps.{IsReached}
use Rattle.core_commits.specs.Standing.{IsOfLines}
use Rattle.core_histories.specs.Tellings.{IsTold}
use Rattle.stop_laws.specs.Happened.{settle}
use Rattle.stop_laws.specs.Paired.{IsKeptBy}
use Rattle.stop_laws.specs.Sure.{has_mounted}
use Rattle.headline_histories.specs.Closed.{HasItsRecords}

-- over every run no step writes in the log of a server that is off
abbrev pub OffLogsAreUntouched : Type 0
OffLogsAreUntouched =
    (s v : RunMoment) → IsReached s → Step s v → (server slot : ℕ) → IsTrue (is_server server) → is_off (s.core.servers server).phase ≡ true → slot < LOG_SECTORS →
    slots_of v.disk server slot ≡ slots_of s.disk server slot

-- an entry that says nothing of the server but that all is synced
abbrev pub IsOfOthers : ℕ → Entry → Type 0
IsOfOthers server (Did c) = c.by ≢ server
IsOfOthers server (Recovered other durable) = other ≢ server
IsOfOthers server (Synced other number) = Unit {0}
IsOfOthers server (Mounted other number) = other ≢ server

-- the history is as before, or has such an entry
abbrev pub GoesOnByOthers : ℕ → World → World → Type 0
GoesOnByOthers server w u = (u.history ≡ w.history) ⊎ ((e : Entry) × (u.history ≡ e ∷ w.history) × IsOfOthers server e)

-- so a server that is off keeps the records of its last mount, where it was mounted before
abbrev pub OffLogsKeepTheirRecords : Type 0
OffLogsKeepTheirRecords =
    (s v : RunMoment) (w u : World) (server : ℕ) → IsReached s → Step s v → IsTrue (is_server server) → is_off (s.core.servers server).phase ≡ true → GoesOnByOthers server w u →
    w.durable server ≤ u.durable server → (has_mounted server w.history ≡ true → HasItsRecords s w server) → has_mounted server u.history ≡ true → HasItsRecords v u server

-- and one that leaves has them: all that it did is durable, and it kept what is durable
abbrev pub LeavingLogsHaveTheirRecords : Type 0
LeavingLogsHaveTheirRecords =
    (s v : RunMoment) (w u : World) (when : ℕ → ℕ) (first_tree : FileTree) (numbers : List ℕ) (server number : ℕ) → (told : IsTold when first_tree numbers s w) →
    IsOfLines s.core.setting.segments when first_tree numbers w → has_mounted server w.history ≡ true →
    IsKeptBy server (greatest_of s.disk server) (w.durable server) (settle first_tree told.happened) → v.disk ≡ s.disk → Good u → u.phase server ≡ Off →
    u.history ≡ Synced server number ∷ w.history → u.durable server ≡ w.durable server → HasItsRecords v u server
