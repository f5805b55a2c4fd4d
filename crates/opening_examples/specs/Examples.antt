-- What the laws of openings ask is met: a fresh disk, as a run leaves it that does nothing, is read again, and its image may be opened. And a run over it says a whole transcript, and may begin as
-- the law over runs asks.
use Rattle.std.specs.Prelude.{◌≡◌, ◌<◌, ℕ, IsTrue, []}
use Rattle.frang_base.specs.declared.limits.TheConstants.{LOG_SECTORS, SECTOR_BYTES}
use Rattle.tree_definitions.specs.History.{fresh_opening}
use Rattle.tree_definitions.specs.Transcript.{Faults, IsTranscript}
use Rattle.tree_definitions.specs.Tree.{FileTree, fresh}
use Rattle.sector_bytes.specs.Bytes.{zeros}
use Rattle.sector_bytes.specs.Sectors.{Sectors}
use Rattle.disk_definitions.specs.FreshDisk.{fresh_param, fresh_sectors}
use Rattle.disk_definitions.specs.Replay.{replayed, slots_of}
use Rattle.disk_definitions.specs.Standing.{StandsFor}
use Rattle.core_definitions.specs.Opening.{MayOpen, moment_of}
use Rattle.core_definitions.specs.Runs.{State, Run, saids_of}
use Rattle.core_definitions.specs.Settings.{Setting, setting_of}
use Rattle.core_tree_reads.specs.AtRest.{has_read}
use Rattle.core_tree_reads.specs.Examples.{empty_saids, empty_start}
use Rattle.core_tree_reads.specs.Lines.{StandsAsTold}
use Rattle.opening_laws.specs.Again.{IsReadAgain}
use Rattle.core_runs.specs.Starts.{MayBegin}

-- a fresh disk of one segment, behind the puts of its opening
abbrev pub fresh_left : Sectors
fresh_left = empty_start.disk

-- its image is the same, and so is the disk with its logs replayed, which are zero: it stands for the fresh tree, and is read again
pub record FreshDisksAreReadAgain : Type 0 where
  pub stands : StandsFor (replayed fresh_left) (fresh 1)
  pub again : IsReadAgain fresh_left (fresh_param 1) fresh_left (fresh_sectors 1)

-- so it may be opened as an image, with some tree
pub record FreshImagesMayOpen : Type 0 where
  pub tree : FileTree
  pub may_open : MayOpen fresh_left (fresh_param 1) tree (fresh_sectors 1)

-- ---- logs

-- logs of every number, more than there are: slot 0 behind the last log is the first segment, so this disk doesn't have all of them zero
abbrev pub ZeroLogsHaveAnEnd : Type 0
ZeroLogsHaveAnEnd = ((server slot : ℕ) → slot < LOG_SECTORS → slots_of fresh_left server slot ≡ zeros SECTOR_BYTES) → ⊥

-- ---- a transcript

abbrev pub empty_setting : Setting
empty_setting = setting_of empty_start.script empty_start.opening.tree.segments empty_start.opening.run

-- the run of an empty script has begun to read the tree, the disk stands for the tree that the lines said tell, and these are a whole transcript
pub record EmptyScriptsSayWhole : Type 0 where
  pub moment : State
  pub run : Run (moment_of empty_start) moment
  pub read : IsTrue (has_read moment.core)
  pub stands : StandsAsTold empty_setting (fresh_opening 1) moment
  pub says : saids_of moment.record_ ≡ empty_saids
  pub faults : Faults
  pub whole : IsTranscript empty_start.script (fresh_opening 1) faults empty_saids

-- ---- a first moment

-- the empty text is an empty script; of it nothing more is asked, so what is asked of a start is met, with no numbers
abbrev pub EmptyScriptsMayBegin : Type 0
EmptyScriptsMayBegin = MayBegin empty_start (λ n. 0) []
