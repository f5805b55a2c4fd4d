-- Runs of the core: steps from the opening, the record that they leave, and the lines said.
use Rattle.std.specs.Prelude.{◌≡◌, ℕ, ◌+◌, ◌==◌, Bool, true, false, not, ◌&&◌, IsTrue, Option, Some, None, List, [], ◌∷◌, ◌++◌, map}
use Rattle.std.specs.List.{filter_map}
use Rattle.frang_base.specs.Functions.{put}
use Rattle.frang_base.specs.declared.said.Said.{Said}
use Rattle.frang_base.specs.declared.said.Said.TheVariants as said
use Rattle.frang_base.specs.declared.script.Line.{Line}
use Rattle.frang_outside.specs.declared.act.Act.{Act}
use Rattle.frang_outside.specs.declared.act.Act.TheVariants as act
use Rattle.lock_definitions.specs.Locks.{AreLocks, Locks}
use Rattle.lock_definitions.specs.Same.{AllWishesWait, SameLocks}
use Rattle.sector_bytes.specs.Sectors.{Sectors}
use Rattle.tree_definitions.specs.SaidLines.{said_line}
use Rattle.core_definitions.specs.Settings.{Setting}
use Rattle.core_definitions.specs.Scripts.{host_party}
use Rattle.core_definitions.specs.Servers.{wanting_all_up}
use Rattle.core_definitions.specs.Cores.{Core, first_core, next_of, with_server}
use Rattle.core_definitions.specs.Events.{Event, Heard}
use Rattle.core_definitions.specs.Effects.{Deed, Made, Says, MayHear, after, deeds_of, disk_after}
use Rattle.core_definitions.specs.LineEffects.{call_failed}
use Rattle.core_definitions.specs.LineGuards.{is_server}
use Rattle.core_definitions.specs.Guards.{Can}

-- the core, the disk, and the record so far, the oldest deed first
pub record State : Type 0 where
  pub core : Core
  pub disk : Sectors
  pub record_ : List Deed

-- at first: nothing has happened over the disk of the opening
abbrev pub first_state : Setting → Sectors → State
first_state setting disk = record { core = first_core setting; disk = disk; record_ = [] }

-- ---- the steps

-- an event with what was heard
abbrev pub next : State → Event → Heard → State
next s event heard = record {
  core = after s.core event heard;
  disk = disk_after s.core s.disk event heard;
  record_ = s.record_ ++ deeds_of s.core event heard;
}

pub record Makes (s : State) (event : Event) (heard : Heard) : Type 0 where
  pub can : Can s.core event
  pub hears : MayHear s.core s.disk event heard

-- a line passes the gate
abbrev pub entered : State → ℕ → State
entered s line = record s { core = record s.core { passed = put s.core.passed line true } }

-- a server is held or let go on
abbrev pub held_on : State → ℕ → Bool → State
held_on s a on = record s { core = record s.core { paused = put s.core.paused a on } }

-- a server that is Up wants everything written
abbrev pub flushed : State → ℕ → State
flushed s a = record s { core = with_server s.core a (wanting_all_up (s.core.servers a)) }

-- a lock table in the place of the present one, with the same locks and no wish that conflicts with no holder
abbrev pub relocked : State → Locks → State
relocked s locks = record s { core = record s.core { locks = locks } }

-- one line is said
abbrev pub noted : State → Said → State
noted s line = record s { record_ = s.record_ ++ Says line ∷ [] }

-- the lines that a note may say
abbrev pub is_note : Said → Bool
is_note (said.Backup line) = true
is_note (said.Locks line) = true
is_note _ = false

-- lines may go on being said: `halt` isn't answered, and neither a line of the tree nor the end is said
abbrev pub goes_on : Core → Bool
goes_on c = not c.over && c.shown == 0

-- a get of the host that changes nothing has failed: it is over, as after each failed call of the host
abbrev pub peek_failed : State → State
peek_failed s = record s { core = call_failed s.core host_party }

-- it isn't over; this is the next line of a server, and it hasn't passed the gate yet
pub record CanEnter (c : Core) (a : ℕ) (line : Line) : Type 0 where
  pub going : IsTrue (not c.over)
  pub server : IsTrue (is_server a)
  pub next : next_of c a ≡ Some line
  pub waits : IsTrue (not (c.passed line.number))

-- Enter, Hold, Flush, Relock, Note, Peek and PeekFails are listed by nobody, and are steps of a core that isn't over; Peek and PeekFails are a get of the host that changes nothing, one
-- that got its sector and one that failed
pub data Step : State → State → Type 0 where
  Event_ : {s : State} (event : Event) (heard : Heard) → Makes s event heard → Step s (next s event heard)
  Enter : {s : State} (a : ℕ) (line : Line) → CanEnter s.core a line → Step s (entered s line.number)
  Hold : {s : State} (a : ℕ) (on : Bool) → IsTrue (not s.core.over && is_server a) → Step s (held_on s a on)
  Flush : {s : State} (a : ℕ) → IsTrue (not s.core.over && is_server a) → Step s (flushed s a)
  Relock : {s : State} (locks : Locks) → IsTrue (not s.core.over) → AreLocks locks → SameLocks locks s.core.locks → AllWishesWait locks → Step s (relocked s locks)
  Note : {s : State} (line : Said) → IsTrue (is_note line && goes_on s.core) → Step s (noted s line)
  Peek : {s : State} (sector : ℕ) → IsTrue (not s.core.over) → Step s s
  PeekFails : {s : State} (sector : ℕ) → IsTrue (not s.core.over) → Step s (peek_failed s)

pub data Run : State → State → Type 0 where
  Stays : {s : State} → Run s s
  Goes : {s v w : State} → Step s v → Run v w → Run s w

-- ---- the record of a run

-- a deed as the outside's record has it
abbrev pub act_of : Deed → Act
act_of (Made put taken) = act.Put put taken
act_of (Says line) = act.Said (said_line line)

abbrev pub acts_of : List Deed → List Act
acts_of deeds = map act_of deeds

abbrev pub said_by : Deed → Option Said
said_by (Made put taken) = None
said_by (Says line) = Some line

-- the lines said
abbrev pub saids_of : List Deed → List Said
saids_of deeds = filter_map said_by deeds
