-- The events of lines on the side of sectors, as one law.
use Rattle.std.specs.Prelude.{◌≡◌, ℕ, Bool, true, false, IsTrue, List, [], ◌∷◌, ◌++◌, Option, Some, None, is_some, map}
use Rattle.frang_base.specs.Functions.{put}
use Rattle.frang_base.specs.declared.change.Redo.{Redo}
use Rattle.tree_definitions.specs.Tree.{FileTree}
use Rattle.ring_definitions.specs.RingRuns.LogEvent.{GiveUp}
use Rattle.core_definitions.specs.Cores.{Core, stage}
use Rattle.core_definitions.specs.Events.{Event, Again, Clear, Commit, Fetch, Heard}
use Rattle.core_definitions.specs.LineGuards.{done_by}
use Rattle.core_definitions.specs.Lines.{Finishing}
use Rattle.core_definitions.specs.Plans.{Outcome}
use Rattle.core_definitions.specs.Runs.{State as RunMoment, Makes, next}
use Rattle.core_definitions.specs.Servers.{is_up}
use Rattle.core_definitions.specs.Trees.{block_sectors}
use Rattle.sector_world.specs.Histories.{Entry}
use Rattle.sector_world.specs.Histories.Entry.{Did}
use Rattle.sector_world.specs.Steps as sectors
use Rattle.sector_world.specs.World.{World}
use Rattle.core_world.specs.Journals.{Journal, with_event_of}
use Rattle.core_commits.specs.Commits.{AreClaimedClean}
use Rattle.core_commits.specs.Moments.{IsOperation, claimed_in, operation_at}
use Rattle.core_commits.specs.Standing.{tree_now}
use Rattle.core_line_steps.specs.Marks.{journal_done}
use Rattle.core_commit_steps.specs.Commits.{known_behind}
use Rattle.core_commit_steps.specs.Moments.{LineGoesOn, StandsBeside}

-- a line of a server that is up is finished, has a block cleared, reclaims, or gets a sector that it needs
abbrev pub is_of_lines : Core → Event → Bool
is_of_lines c (Commit a) = true
is_of_lines c (Clear a block) = true
is_of_lines c (Again a) = is_some (done_by (stage c a))
is_of_lines c (Fetch a sector) = is_up (c.servers a).phase
is_of_lines c event = false

-- the record that a finished line leaves, if it does
abbrev pub record_left : Option Outcome → Option Redo
record_left None = None
record_left (Some outcome) = outcome.redo

-- the journals behind it: a finished line's server has its record appended, and one that reclaims has its oldest records given up
abbrev pub journals_behind_line : RunMoment → World → Event → (ℕ → Journal) → ℕ → Journal
journals_behind_line s w (Commit a) journal = put journal a (journal_done (w.last a) (record_left (done_by (stage s.core a))) (journal a))
journals_behind_line s w (Again a) journal = with_event_of journal a GiveUp
journals_behind_line s w event journal = journal

-- these events and entries are a finished line's: what it claims is cached clean, each claimed sector is fetched, its operation is done, and the log is known as far; the entry is the operation's
pub record AreOfOperation (s : RunMoment) (w : World) (journal : ℕ → Journal) (when : ℕ → ℕ) (first_tree : FileTree) (a : ℕ) (events : List sectors.Event) (entries : List Entry) : Type 0 where
  pub outcome : Outcome
  pub at : stage s.core a ≡ Some (Finishing outcome)
  pub op : IsOperation s w when (tree_now when first_tree w) a outcome
  pub clean : AreClaimedClean (s.core.servers a).cache (operation_at s w when (tree_now when first_tree w) a outcome op)
  pub events_are : events ≡ map (sectors.Fetch a) (claimed_in (s.core.servers a).cache op.out.o.claims) ++ sectors.Do (operation_at s w when (tree_now when first_tree w) a outcome op)
      ∷ known_behind w a (operation_at s w when (tree_now when first_tree w) a outcome op).op (s.core.servers a).ring (journal a) outcome.redo
  pub entries_are : entries ≡ Did (operation_at s w when (tree_now when first_tree w) a outcome op) ∷ []

-- which events and entries are a line's: zeros for each sector of the block that is cleared, or that records are given up, and no entry tells of those; nor of a sector that is read
abbrev pub AreOfLine : RunMoment → World → (ℕ → Journal) → (ℕ → ℕ) → FileTree → Event → List sectors.Event → List Entry → Type 0
AreOfLine s w journal when first_tree (Commit a) events entries = AreOfOperation s w journal when first_tree a events entries
AreOfLine s w journal when first_tree (Clear a block) events entries = (events ≡ map (sectors.Clear a) (block_sectors block)) × (entries ≡ [])
AreOfLine s w journal when first_tree (Again a) events entries = ((to : ℕ) × (events ≡ sectors.Reclaim a to ∷ [])) × (entries ≡ [])
AreOfLine s w journal when first_tree event events entries = entries ≡ []

-- each of these leads on by such events, of which such entries tell, and keeps all that stands beside
abbrev pub LinesGoOn : Type 0
LinesGoOn =
    (s : RunMoment) (w : World) (journal : ℕ → Journal) (when : ℕ → ℕ) (first_tree : FileTree) (numbers : List ℕ) (event : Event) (heard : Heard) → IsTrue (is_of_lines s.core event) →
    Makes s event heard →
    StandsBeside s w journal when first_tree numbers → LineGoesOn w (next s event heard) (journals_behind_line s w event journal) when first_tree numbers (AreOfLine s w journal when first_tree event)
