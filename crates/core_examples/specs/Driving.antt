-- A run of a script over a small disk: the first event that may happen, again and again.
use Rattle.std.specs.Prelude.{◌-◌, ◌++◌, codes, length, replicate, ℕ, zero, suc, Bool, true, not, ◌&&◌, if◌then◌else◌, nat_le, nat_lt, false, Option, Some, None, List, [], ◌∷◌, filter}
use Rattle.frang_base.specs.declared.op.HostOp.{HostOp}
use Rattle.frang_base.specs.declared.op.Op.{Op}
use Rattle.frang_base.specs.declared.op.What.TheVariants.{Server, Host}
use Rattle.frang_base.specs.declared.said.Said.{Said}
use Rattle.frang_base.specs.declared.script.Line.{Line}
use Rattle.sector_bytes.specs.Bytes.{zeros}
use Rattle.sector_bytes.specs.Sectors.{Sectors, sectors_of}
use Rattle.sector_bytes.specs.SectorMaps.{value_at}
use Rattle.disk_definitions.specs.Bitmaps.{bitmap_bytes}
use Rattle.disk_definitions.specs.declared.directory.DirEntry.{DirEntry}
use Rattle.disk_definitions.specs.Directories.{directory_bytes}
use Rattle.disk_definitions.specs.Inodes.{inode_bytes}
use Rattle.disk_definitions.specs.Params.{param_bytes}
use Rattle.disk_definitions.specs.Regions.{sector_of}
use Rattle.disk_definitions.specs.declared.region.Region.TheVariants as region
use Rattle.core_definitions.specs.Settings.{Setting, setting_of}
use Rattle.core_definitions.specs.Flights.{Flight}
use Rattle.core_definitions.specs.Recoveries.{Recovery}
use Rattle.core_definitions.specs.Scripts.{host_party}
use Rattle.core_definitions.specs.Cores.{first_core}
use Rattle.core_definitions.specs.Events.{Event, Fetch, Arrive, Load, Look, Read, Heard, Nothing, Got, PutFailed, Written, Late}
use Rattle.core_definitions.specs.Enabled.{enabled}
use Rattle.core_definitions.specs.Runs.{State, first_state, next, saids_of}
use Rattle.core_examples.specs.SmallLogs.{small_logs}

-- ---- openings

-- an inode without blocks beyond these, times and target
abbrev pub inode_block : (version kind links size birth : ℕ) → List ℕ → List ℕ
inode_block version kind links size birth small =
    inode_bytes
    (record {
      version = version;
      kind = kind;
      links = links;
      blocks = length small;
      size = size;
      birth = birth;
      small = small ++ zeros (16 - length small);
      large = 0;
      when = 0;
      target = zeros 384;
    })

-- a segment with these inodes in use, by their bits, and of its first four small blocks these states
abbrev pub segment_block : (version inodes states : ℕ) → List ℕ
segment_block version inodes states = bitmap_bytes (record { version = version; inodes = inodes; states = states ∷ zeros 255; large = false })

-- the parameters of a disk of one segment at this run
abbrev pub parameters : ℕ → List ℕ
parameters run = param_bytes (record { format = 2; segments = 1; run = run })

-- a disk of one segment whose tree is the root alone
abbrev pub fresh_disk : Sectors
fresh_disk = sectors_of ((0, parameters 1) ∷ (sector_of (region.Segment 0), segment_block 1 1 0) ∷ (sector_of (region.Inode 0), inode_block 1 2 1 0 0 []) ∷ [])

-- an entry of a directory; and one that is free
abbrev pub entry : (inode kind : ℕ) → List ℕ → DirEntry
entry inode kind name = record { inode = inode; len = length name; kind = kind; name = name ++ zeros (64 - length name) }

abbrev pub free_entry : DirEntry
free_entry = record { inode = 0; len = 0; kind = 0; name = zeros 64 }

-- a sector of a directory with these entries in its first slots
abbrev pub entries_block : (version : ℕ) → List DirEntry → List ℕ
entries_block version entries = directory_bytes (record { version = version; entries = entries ++ replicate (7 - length entries) free_entry })

-- one whose root has an empty file, which line 2 of run 1 made
abbrev pub filed_disk : Sectors
filed_disk = sectors_of ((0, parameters 2) ∷ (sector_of (region.Segment 0), segment_block 2 3 3) ∷ (sector_of (region.Inode 0), inode_block 2 2 1 1 0 (0 ∷ []))
    ∷ (sector_of (region.Inode 1), inode_block 1 1 1 0 4294967298 []) ∷ (sector_of (region.Small 0 0), entries_block 1 (entry 1 1 (codes "f") ∷ [])) ∷ [])

-- one whose root has two empty files, which lines 2 and 3 of run 1 made
abbrev pub two_files_disk : Sectors
two_files_disk = sectors_of ((0, parameters 2) ∷ (sector_of (region.Segment 0), segment_block 3 7 3) ∷ (sector_of (region.Inode 0), inode_block 3 2 1 2 0 (0 ∷ []))
    ∷ (sector_of (region.Inode 1), inode_block 1 1 1 0 4294967298 []) ∷ (sector_of (region.Inode 2), inode_block 1 1 1 0 4294967299 [])
    ∷ (sector_of (region.Small 0 0), entries_block 2 (entry 1 1 (codes "f") ∷ entry 2 1 (codes "g") ∷ [])) ∷ [])

-- over a disk of one segment with small logs
abbrev pub small_setting : ℕ → List Line → Setting
small_setting run script = record (setting_of script 1 run) { logs = small_logs }

-- every line has passed the gate
abbrev pub opening_on : Sectors → ℕ → List Line → State
opening_on disk run script =
    let c = first_core (small_setting run script) in record (first_state (small_setting run script) disk) { core = record c { passed = λ number. true } }

abbrev pub opening : List Line → State
opening script = opening_on fresh_disk 1 script

abbrev pub filed_opening : List Line → State
filed_opening script = opening_on filed_disk 2 script

abbrev pub two_files_opening : List Line → State
two_files_opening script = opening_on two_files_disk 2 script

-- the servers want everything written at each tick, so that one tick is enough for a flush
abbrev pub flushing_soon : State → State
flushing_soon s = record s { core = record s.core { setting = record s.core.setting { flush_ticks = 1 } } }

abbrev pub line : ℕ → ℕ → Op → Line
line number a operation = record { number = number; who = record { 0 = a }; what = Server operation }

abbrev pub host_line : ℕ → HostOp → Line
host_line number operation = record { number = number; who = record { 0 = host_party }; what = Host operation }

-- ---- what a disk answers, of which no get fails

-- the put with one of these tickets fails, and leaves the old block
abbrev pub hears_put : (ℕ → Bool) → ℕ → ℕ → Option Flight → Heard
hears_put fails now ticket None = Nothing
hears_put fails now ticket (Some flight) = if nat_lt flight.stamp now then Late else (if fails ticket then PutFailed false else Written)

abbrev pub hears_slot : Sectors → ℕ → Option Recovery → Heard
hears_slot disk slot None = Nothing
hears_slot disk slot (Some recovery) = Got (disk (sector_of (region.Log recovery.dead slot)))

abbrev pub hears : (ℕ → Bool) → State → Event → Heard
hears fails s (Fetch a sector) = Got (s.disk sector)
hears fails s (Load by slot) = hears_slot s.disk slot (s.core.servers by).recovery
hears fails s (Look by sector) = Got (s.disk sector)
hears fails s (Read sector) = Got (s.disk sector)
hears fails s (Arrive ticket) = hears_put fails s.core.now ticket (value_at s.core.flights ticket)
hears fails s event = Nothing

-- ---- the first event, again and again

-- the events made, and what they lead to
pub record Driven : Type 0 where
  pub events : List Event
  pub end : State

abbrev pub behind : Event → Driven → Driven
behind event driven = record { events = event ∷ driven.events; end = driven.end }

abbrev pub driven_by : (ℕ → Bool) → (State → Driven) → State → List Event → Driven
driven_by fails onward s [] = record { events = []; end = s }
driven_by fails onward s (event ∷ others) = behind event (onward (next s event (hears fails s event)))

-- so many turns
abbrev pub driven_failing : (ℕ → Bool) → ℕ → State → Driven
driven_failing fails zero s = record { events = []; end = s }
driven_failing fails (suc n) s = driven_by fails (driven_failing fails n) s (enabled s.core)

-- and no put fails
abbrev pub driven : ℕ → State → Driven
driven n s = driven_failing (λ ticket. false) n s

-- the lines said
abbrev pub says : Driven → List Said
says run = saids_of run.end.record_

-- the events but the gets of a log's slots
abbrev pub is_log_get : Event → Bool
is_log_get (Fetch a sector) = nat_le 2147483648 sector && nat_lt sector 4294967296
is_log_get (Load by slot) = true
is_log_get event = false

abbrev pub events_but_log_gets : Driven → List Event
events_but_log_gets run = filter (λ event. not (is_log_get event)) run.events

-- what is told of a run: its events but those, and the lines said
pub record Story : Type 0 where
  pub events : List Event
  pub said_lines : List Said

abbrev pub story_of : Driven → Story
story_of run = record { events = events_but_log_gets run; said_lines = says run }
