-- Journals account for the operations of their servers at first, and go on to do so at each mount, each Commit, and whatever else happens.
use Rattle.std.specs.Prelude.{◌≡◌, ◌≢◌, ◌≤◌, ◌<◌, ◌⊎◌, ℕ, IsTrue, Option, Some, None, List, [], ◌∷◌}
use Rattle.frang_base.specs.declared.change.Redo.{Redo}
use Rattle.disk_definitions.specs.Logs.{Slots, log_records}
use Rattle.disk_definitions.specs.Replay.{slots_of}
use Rattle.core_definitions.specs.Cores.{stage}
use Rattle.core_definitions.specs.Lines.{Finishing}
use Rattle.core_definitions.specs.Opening.{IsStart, Start, moment_of}
use Rattle.core_definitions.specs.Plans as plans
use Rattle.core_definitions.specs.LineGuards.{is_server}
use Rattle.core_definitions.specs.Runs.{State as RunMoment}
use Rattle.ring_definitions.specs.Rings.{last}
use Rattle.sector_world.specs.Histories.{Commit, Entry, redo_of}
use Rattle.sector_world.specs.Histories.Entry.{Did, Mounted, Recovered, Synced}
use Rattle.sector_world.specs.Kinds.{Good}
use Rattle.sector_world.specs.Steps.{after}
use Rattle.sector_world.specs.Steps.Event.{Do}
use Rattle.sector_world.specs.World.{World}
use Rattle.tree_definitions.specs.Tree.{FileTree}
use Rattle.core_world.specs.Journals.{Journal, journal_at}
use Rattle.core_world.specs.Steps.{IsWorldOf}
use Rattle.core_commits.specs.Commits.{fetched_world}
use Rattle.core_commits.specs.Moments.{IsOfARun, IsOperation, LinesAreNumbered, claimed_in, operation_at}
use Rattle.core_commits.specs.Standing.{tree_now}
use Rattle.core_line_steps.specs.Marks.{journal_done}
use Rattle.core_readings.specs.Logs.{AreLogs}
use Rattle.core_log_marks.specs.Accounts.{AccountsFor, AllAreAccountedFor, AreUpTo}

-- at first: behind an opening no server is mounted and each log is zero
abbrev pub AccountsBegin : Type 0
AccountsBegin =
    (start : Start) → IsStart start → (w : World) (journal : ℕ → Journal) → AllAreAccountedFor (moment_of start).core.servers (moment_of start).disk w journal

-- ---- a mount

-- the history has that the server mounted
pub record HasMounted (w u : World) (a : ℕ) : Type 0 where
  pub number : ℕ
  pub history : u.history ≡ Mounted a number ∷ w.history
  pub durable : w.durable a ≤ u.durable a

-- the journal behind it accounts for all, whatever was read
abbrev pub MountsAreAccountedFor : Type 0
MountsAreAccountedFor =
    (w u : World) (a : ℕ) (slots : Slots) → AreUpTo (w.durable a) (log_records slots) → HasMounted w u a → AccountsFor (journal_at slots) u a

-- ---- a Commit

-- the record is that of the operation, where it has one
abbrev pub IsItsRecord : Option Redo → Commit → Type 0
IsItsRecord None c = c.changes ≡ []
IsItsRecord (Some redo) c = (redo ≡ redo_of c) × (c.changes ≢ [])

-- the history has an operation, and how much of the log is known may be more
pub record HasDone (w u : World) (c : Commit) : Type 0 where
  pub number : w.last c.by < c.op
  pub history : u.history ≡ Did c ∷ w.history
  pub last : u.last c.by ≡ c.op
  pub durable : w.durable c.by ≤ u.durable c.by

-- with a record and without one its journal accounts for it
abbrev pub OperationsAreAccountedFor : Type 0
OperationsAreAccountedFor =
    (w u : World) (j : Journal) (c : Commit) (redo : Option Redo) → Good w → HasDone w u c → IsItsRecord redo c → j.ends (w.last c.by) ≡ last j.log.ring → AccountsFor j w c.by →
    AccountsFor (journal_done (w.last c.by) redo j) u c.by

-- the operation of a Commit's line has the record of its outcome, and is done so
abbrev pub CommitsAreAccountedFor : Type 0
CommitsAreAccountedFor =
    (s : RunMoment) (w : World) (journal : ℕ → Journal) (when : ℕ → ℕ) (first_tree : FileTree) (numbers : List ℕ) (a : ℕ) (outcome : plans.Outcome) → IsTrue (is_server a) →
    IsOfARun s w journal when first_tree numbers → stage s.core a ≡ Some (Finishing outcome) → LinesAreNumbered s w when first_tree numbers a →
    (op : IsOperation s w when (tree_now when first_tree w) a outcome) → AccountsFor (journal a) w a →
    AccountsFor (journal_done (w.last a) outcome.redo (journal a))
    (after (fetched_world w a (claimed_in (s.core.servers a).cache op.out.o.claims)) (Do (operation_at s w when (tree_now when first_tree w) a outcome op))) a

-- ---- all else

-- an entry that says nothing of the server but that all is synced
abbrev pub IsBeside : ℕ → Entry → Type 0
IsBeside a (Did c) = c.by ≢ a
IsBeside a (Recovered d k) = d ≢ a
IsBeside a (Synced d n) = Unit {0}
IsBeside a (Mounted d n) = d ≢ a

-- the history is as before, or has such an entry
abbrev pub GoesOnBeside : ℕ → World → World → Type 0
GoesOnBeside a w u = (u.history ≡ w.history) ⊎ ((e : Entry) × (u.history ≡ e ∷ w.history) × IsBeside a e)

-- the records since the mount are as before, and operations end where they did; nothing that happens to a log but an Append changes these
pub record IsSameAccount (j k : Journal) : Type 0 where
  pub before : k.before ≡ j.before
  pub placed : k.log.placed ≡ j.log.placed
  pub ends : k.ends ≡ j.ends

abbrev pub AccountsStay : Type 0
AccountsStay =
    (w u : World) (j k : Journal) (a : ℕ) → GoesOnBeside a w u → u.last a ≡ w.last a → w.durable a ≤ u.durable a → IsSameAccount j k → AccountsFor j w a → AccountsFor k u a

-- ---- what stands in logs

-- what stands in the log of a server, mounted or dead, sealed or not, is of durable operations: so it is once the server is off
abbrev pub StandingIsDurable : Type 0
StandingIsDurable =
    (s : RunMoment) (w : World) (journal : ℕ → Journal) → IsWorldOf s w journal → Good w → AreLogs s journal → AllAreAccountedFor s.core.servers s.disk w journal → (a : ℕ) →
    IsTrue (is_server a) → AreUpTo (w.durable a) (log_records (slots_of s.disk a))
