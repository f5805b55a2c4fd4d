-- The headline, over what was witnessed since the opening: what the lines said are, what recoveries keep, what a stop at this moment leaves, and the order of
-- writes. All but what the replayed disk stands for is computed.
use Rattle.std.specs.Prelude.{ℕ, Bool, true, ◌&&◌, ◌==◌, if◌then◌else◌, IsTrue, List, [], ◌∷◌, take}
use Rattle.frang_base.specs.declared.said.Said.TheVariants as said
use Rattle.sector_bytes.specs.Sectors.{Sectors}
use Rattle.tree_definitions.specs.declared.history.Item.{Item}
use Rattle.tree_definitions.specs.Live.{live_history}
use Rattle.tree_definitions.specs.Removal.{IsLegal, Keeps, tree_of}
use Rattle.tree_definitions.specs.Transcript.{Faults, IsTranscript, left_history}
use Rattle.disk_definitions.specs.Standing.{StandsFor}
use Rattle.core_definitions.specs.Effects.{Says}
use Rattle.headline_definitions.specs.Witnessed.{Witnessed, Acted, disk_behind, disk_by, saids_in}
use Rattle.headline_definitions.specs.AllLogs.{AllLogs, greatest_at, replayed_by}
use Rattle.headline_definitions.specs.Beginning.{Beginning}
use Rattle.headline_definitions.specs.Ordered.{is_ordered}

-- ---- the histories

-- what the lines said tell
abbrev pub live : Beginning → List Witnessed → List Item
live b witnessed = live_history b.script b.opening.run (saids_in witnessed)

-- what a stop at this moment leaves of it: with a recovery, by the greatest operation of its log, of each server that is up, stalled or dead
abbrev pub left : Beginning → List Witnessed → List Item
left b witnessed = left_history b.script b.opening.run (saids_in witnessed) (greatest_at b.logs (disk_behind b.disk witnessed))

-- ---- what recoveries say that they keep

-- the disk on which the recovery of each server last began
abbrev pub begun_on : (ℕ → Sectors) → Sectors → Witnessed → ℕ → Sectors
begun_on begun disk (Acted (Says (said.Recovering s by))) server = if s.0 == server then disk else begun server
begun_on begun disk one server = begun server

-- one recovery says the greatest operation of its log as it was then
abbrev pub says_greatest : AllLogs → (ℕ → Sectors) → Witnessed → Bool
says_greatest logs begun (Acted (Says (said.Recovered s kept))) = kept.0 == greatest_at logs (begun s.0) s.0
says_greatest logs begun one = true

-- from a disk on, by the disks on which recoveries began
abbrev pub all_say_greatest : AllLogs → (ℕ → Sectors) → Sectors → List Witnessed → Bool
all_say_greatest logs begun disk [] = true
all_say_greatest logs begun disk (one ∷ more) =
    says_greatest logs begun one && all_say_greatest logs (begun_on begun disk one) (disk_by disk one) more

-- each recovery says the greatest operation that its log had where it last began
abbrev pub say_greatest : Beginning → List Witnessed → Bool
say_greatest b witnessed = all_say_greatest b.logs (λ server. b.disk) b.disk witnessed

-- ---- the headline

-- its five parts
pub record Headline (b : Beginning) (faults : Faults) (witnessed : List Witnessed) : Type 0 where
  -- the lines said are a well-formed transcript, the lines of the tree included
  pub lines : IsTranscript b.script b.opening faults (saids_in witnessed)
  -- their history is legal, and what must be kept is kept
  pub live_legal : IsLegal b.opening (live b witnessed)
  pub live_kept : Keeps b.opening (live b witnessed)
  -- what recoveries say that they keep
  pub keeps : IsTrue (say_greatest b witnessed)
  -- what a stop leaves is legal, keeps what must be kept, and the disk with all logs replayed stands for its tree
  pub left_legal : IsLegal b.opening (left b witnessed)
  pub left_kept : Keeps b.opening (left b witnessed)
  pub stands : StandsFor (replayed_by b.logs (disk_behind b.disk witnessed)) (tree_of b.opening (left b witnessed))
  -- the order of writes
  pub ordered : IsTrue (is_ordered b.logs b.opening.tree.segments b.disk witnessed)

-- at every prefix
abbrev pub AlwaysHeadline : Beginning → Faults → List Witnessed → Type 0
AlwaysHeadline b faults witnessed = (k : ℕ) → Headline b faults (take k witnessed)
