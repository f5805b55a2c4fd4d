-- The covers of writes in place: their servers hold them alone, also where they are late.
use Rattle.std.specs.Prelude.{◌≡◌, ℕ, true, IsTrue, List, Some}
use Rattle.std.specs.List.{Contains}
use Rattle.frang_base.specs.declared.lock.LockId.{LockId}
use Rattle.frang_base.specs.declared.lock.Mode.TheVariants.{Sole}
use Rattle.lock_definitions.specs.Locks.{held}
use Rattle.tree_definitions.specs.Tree.{FileTree}
use Rattle.core_definitions.specs.Cores.{Core, stage}
use Rattle.core_definitions.specs.Flights.{Flight, InPlace}
use Rattle.core_definitions.specs.Lines.{Finishing}
use Rattle.core_definitions.specs.Logs.{is_none}
use Rattle.core_definitions.specs.Plans.{Outcome}
use Rattle.core_definitions.specs.Runs.{State as RunMoment, Step}
use Rattle.sector_world.specs.Kinds.{Good}
use Rattle.sector_world.specs.World.{World}
use Rattle.core_world.specs.Journals.{Journal}
use Rattle.core_world.specs.Steps.{IsReached}
use Rattle.core_world.specs.Ties.{AreTied}
use Rattle.core_commits.specs.Commits.{WritesHoldTheirCovers}
use Rattle.core_commits.specs.Moments.{IsOfARun, LinesAreNumbered}
use Rattle.core_line_steps.specs.Pending.{FreeDirtIsPending}

-- a write in place of a present mount: its server holds its cover alone
abbrev pub WritesAreHeld : Core → Type 0
WritesAreHeld c =
    (one : ℕ × Flight) (lock : LockId) → Contains c.flights one → one.1.present ≡ true → one.1.purpose ≡ InPlace lock → held c.locks one.1.server lock ≡ Some Sole

-- each sector that a line moves as it commits comes under a lock that its server holds alone
abbrev pub MovesAreHeld : Core → Type 0
MovesAreHeld c =
    (a : ℕ) (outcome : Outcome) → stage c a ≡ Some (Finishing outcome) → IsTrue (is_none (c.servers a).pending) → (sector : ℕ) (lock : LockId) → outcome.moves sector ≡ Some lock → held c.locks a lock ≡ Some Sole

-- at the first moment nothing is in flight, and each step of the core keeps it where that is so of lines
abbrev pub StepsKeepWritesHeld : Type 0
StepsKeepWritesHeld = (s v : RunMoment) (w : World) → IsReached s → Step s v → AreTied s.core s.disk w → Good w → MovesAreHeld s.core → WritesAreHeld s.core → WritesAreHeld v.core

-- so it is at a moment of a run, where each line under way is numbered and dirty pages of free sectors are pending
abbrev pub LinesMoveUnderHeldLocks : Type 0
LinesMoveUnderHeldLocks =
    (s : RunMoment) (w : World) (journal : ℕ → Journal) (when : ℕ → ℕ) (first_tree : FileTree) (numbers : List ℕ) → IsOfARun s w journal when first_tree numbers → FreeDirtIsPending s.core.servers w →
    ((a : ℕ) (outcome : Outcome) → stage s.core a ≡ Some (Finishing outcome) → LinesAreNumbered s w when first_tree numbers a) → MovesAreHeld s.core

-- in the words of a Commit
abbrev pub HeldWritesHoldTheirCovers : Type 0
HeldWritesHoldTheirCovers = (s : RunMoment) (w : World) → AreTied s.core s.disk w → WritesAreHeld s.core → WritesHoldTheirCovers w s.core.flights
