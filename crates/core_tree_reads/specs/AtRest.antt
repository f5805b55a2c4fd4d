-- From the first block that the host reads of the tree on a run is at rest: nothing is under way, and nothing is put or begun any more.
use Rattle.std.specs.Prelude.{◌≡◌, ℕ, Bool, true, false, not, ◌||◌, ◌==◌, IsTrue, None, List, [], ◌++◌}
use Rattle.std.specs.List.{list_all}
use Rattle.frang_base.specs.declared.said.Said.{Said}
use Rattle.frang_base.specs.declared.script.Line.{Line}
use Rattle.tree_definitions.specs.Live.{live_history}
use Rattle.tree_definitions.specs.Transcript.{is_end, is_node}
use Rattle.sector_bytes.specs.Sectors.{Sectors}
use Rattle.core_definitions.specs.Logs.{is_none}
use Rattle.core_definitions.specs.Scripts.{host_party}
use Rattle.core_definitions.specs.Servers.{is_off}
use Rattle.core_definitions.specs.Settings.{Setting}
use Rattle.core_definitions.specs.Cores.{Core, is_all_answered}
use Rattle.core_definitions.specs.Events.{Event, End, Heard, Read, Show, Tick}
use Rattle.core_definitions.specs.LineGuards.{is_server}
use Rattle.core_definitions.specs.Effects.{Deed, Made, Says}
use Rattle.core_definitions.specs.Runs.{State, Makes, Run, first_state, is_note, saids_of}
use Rattle.core_transcripts.specs.Answers.{HaveOwnNumbers}

-- the host has begun to read the tree: it has some block of it
abbrev pub has_read : Core → Bool
has_read c = not (is_none c.read)

-- every line is answered, everybody is off, no server has a line under way, nothing is in flight, and neither a server nor the host has a recovery
pub record IsAtRest (c : Core) : Type 0 where
  pub answered : IsTrue (is_all_answered c)
  pub off : (a : ℕ) → IsTrue (is_off (c.servers a).phase)
  pub idle : (a : ℕ) → IsTrue (is_server a) → (c.servers a).under ≡ None
  pub landed : c.flights ≡ []
  pub recoveries : (a : ℕ) → IsTrue (is_server a || a == host_party) → (c.servers a).recovery ≡ None

-- over every run of a script whose lines have their own numbers it is so where the host has begun to read the tree
abbrev pub TreesAreReadAtRest : Type 0
TreesAreReadAtRest =
    (setting : Setting) (disk : Sectors) (s : State) → HaveOwnNumbers setting.script → Run (first_state setting disk) s → IsTrue (has_read s.core) → IsAtRest s.core

-- ---- what happens from then on

-- the host reads on and says the tree, or a moment passes
abbrev pub is_of_reading : Event → Bool
is_of_reading Tick = true
is_of_reading (Read sector) = true
is_of_reading (Show place) = true
is_of_reading End = true
is_of_reading event = false

-- no other event may happen
abbrev pub OnlyReadingHappens : Type 0
OnlyReadingHappens =
    (setting : Setting) (disk : Sectors) (s : State) (event : Event) (heard : Heard) → HaveOwnNumbers setting.script → Run (first_state setting disk) s → IsTrue (has_read s.core) →
    Makes s event heard → IsTrue (is_of_reading event)

-- a note, a line of the tree, or the end
abbrev pub is_closing : Said → Bool
is_closing said = is_note said || is_node said || is_end said

abbrev pub is_closing_deed : Deed → Bool
is_closing_deed (Made put taken) = false
is_closing_deed (Says said) = is_closing said

-- what a later moment of the run has in common with this one: the host has still begun, the disk is the same, and what is new in the record are notes, lines of the tree and the end;
-- so the history that the lines said tell, of whatever script, is the same
pub record OnlyReads (s v : State) : Type 0 where
  pub read : IsTrue (has_read v.core)
  pub disk : v.disk ≡ s.disk
  pub deeds : List Deed
  pub more : v.record_ ≡ s.record_ ++ deeds
  pub closing : IsTrue (list_all is_closing_deed deeds)
  pub history : (script : List Line) (run : ℕ) → live_history script run (saids_of v.record_) ≡ live_history script run (saids_of s.record_)

-- so it is of each later moment
abbrev pub NothingIsDoneWhileReading : Type 0
NothingIsDoneWhileReading =
    (setting : Setting) (disk : Sectors) (s v : State) → HaveOwnNumbers setting.script → Run (first_state setting disk) s → Run s v → IsTrue (has_read s.core) → OnlyReads s v
