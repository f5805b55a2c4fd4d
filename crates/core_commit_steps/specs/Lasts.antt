-- Last operations that are settled: where so it is, a log whose operations are acknowledged is so to its end; and quiet events keep it.
use Rattle.std.specs.Prelude.{◌≡◌, ◌≤◌, ◌⊎◌, ◌+◌, ℕ, IsTrue, List, [], ◌∷◌}
use Rattle.core_definitions.specs.LineGuards.{is_server}
use Rattle.core_definitions.specs.Rings.{is_all_reached}
use Rattle.core_definitions.specs.Runs.{State as RunMoment}
use Rattle.core_definitions.specs.Servers.{Server, is_in_mount}
use Rattle.sector_world.specs.Histories.{Entry, settled}
use Rattle.sector_world.specs.Histories.Entry.{Did, Mounted, Recovered, Synced}
use Rattle.sector_world.specs.Steps.{Event, Run}
use Rattle.sector_world.specs.World.{World}
use Rattle.core_world.specs.Journals.{Journal}
use Rattle.core_world.specs.Quiet.{AllQuiet}
use Rattle.core_world.specs.Steps.{IsWorldOf}
use Rattle.core_commits.specs.Clears.{IsReachedWithAll}
use Rattle.core_commit_steps.specs.Moments.{LastsAreSettled}

-- where all operations of a mounted server are acknowledged, so is its whole log, as a Clear asks
abbrev pub SettledLastsAreReached : Type 0
SettledLastsAreReached =
    (s : RunMoment) (w : World) (journal : ℕ → Journal) (a : ℕ) → IsWorldOf s w journal → IsTrue (is_server a) → IsTrue (is_in_mount (s.core.servers a).phase) → LastsAreSettled s.core.servers w →
    IsReachedWithAll s.core.servers w a

-- a server that is mounted then was so before, and its log stays acknowledged to its end where it was; or it is so then
abbrev pub KeepsReached : Server → Server → Type 0
KeepsReached old new =
    IsTrue (is_in_mount new.phase) → (IsTrue (is_in_mount old.phase) × (IsTrue (is_all_reached old.ring) → IsTrue (is_all_reached new.ring))) ⊎ IsTrue (is_all_reached new.ring)

-- how many recoveries have ended
abbrev pub recoveries_in : List Entry → ℕ
recoveries_in [] = 0
recoveries_in (Recovered d k ∷ history) = recoveries_in history + 1
recoveries_in (Did c ∷ history) = recoveries_in history
recoveries_in (Synced d n ∷ history) = recoveries_in history
recoveries_in (Mounted d n ∷ history) = recoveries_in history

-- behind quiet events that settle nothing, of which none ends a recovery, it stays so, where the logs of servers do
abbrev pub LastsStaySettled : Type 0
LastsStaySettled =
    (segments : ℕ) (servers next : ℕ → Server) (w u : World) (events : List Event) → Run w events u → AllQuiet segments w events → settled u.history ≡ settled w.history → recoveries_in u.history ≤ recoveries_in w.history →
    ((a : ℕ) → IsTrue (is_server a) → KeepsReached (servers a) (next a)) → LastsAreSettled servers w → LastsAreSettled next u
