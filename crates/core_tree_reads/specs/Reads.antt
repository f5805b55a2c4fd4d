-- What the host has read of the tree, and which of its lines it has said, over every run.
use Rattle.std.specs.Prelude.{◌≡◌, ◌≤◌, ◌<◌, ℕ, true, Some, [], filter, length, take}
use Rattle.std.specs.List.{list_any}
use Rattle.tree_definitions.specs.Transcript.{is_end, is_node}
use Rattle.sector_bytes.specs.Blocks.{Block}
use Rattle.sector_bytes.specs.SectorMaps.{value_at}
use Rattle.sector_bytes.specs.Sectors.{Sectors}
use Rattle.core_definitions.specs.Settings.{Setting}
use Rattle.core_definitions.specs.Cores.{tree_lines, tree_needs}
use Rattle.core_definitions.specs.Runs.{State, Run, first_state, saids_of}
use Rattle.core_transcripts.specs.Answers.{HaveOwnNumbers}
use Rattle.tree_reading_laws.specs.Reading.{IsReadOf}

-- over every run of a script whose lines have their own numbers each block that was read of the tree is the disk's
abbrev pub BlocksReadAreTheDisks : Type 0
BlocksReadAreTheDisks = (setting : Setting) (disk : Sectors) (s : State) → HaveOwnNumbers setting.script → Run (first_state setting disk) s → IsReadOf s.disk s.core.read

-- and stays so: it is read once
abbrev pub BlocksStayRead : Type 0
BlocksStayRead = (s v : State) (sector : ℕ) (block : Block) → Run s v → value_at s.core.read sector ≡ Some block → value_at v.core.read sector ≡ Some block

-- the lines of the tree that are said are the first of those that were read, as many as count as shown; once one is said, or the end, no sector is needed any more; and with the end all are said
pub record AreLinesRead (s : State) : Type 0 where
  pub lines : filter is_node (saids_of s.record_) ≡ take s.core.shown (tree_lines s.core)
  pub within : s.core.shown ≤ length (tree_lines s.core)
  pub whole : 0 < s.core.shown → tree_needs s.core ≡ []
  pub ended : list_any is_end (saids_of s.record_) ≡ true → (tree_needs s.core ≡ []) × (s.core.shown ≡ length (tree_lines s.core))

-- so it is over every run
abbrev pub LinesSaidAreRead : Type 0
LinesSaidAreRead = (setting : Setting) (disk : Sectors) (s : State) → Run (first_state setting disk) s → AreLinesRead s
