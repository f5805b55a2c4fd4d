-- What the events of a line do: Begin, Ask, Fetch, Again, Clear, Commit, Answer.
use Rattle.std.specs.Prelude.{ℕ, ◌-◌, ◌/◌, ◌==◌, Bool, true, false, not, ◌&&◌, ◌||◌, if◌then◌else◌, Option, Some, None, is_some, List, [], ◌∷◌, ◌++◌, filter, fold, map}
use Rattle.std.specs.List.{list_any}
use Rattle.std.specs.Option.{option_and_then, option_map, unwrap_or}
use Rattle.frang_base.specs.Functions.{member, put}
use Rattle.frang_base.specs.declared.limits.TheConstants.{SEGMENT_BLOCKS}
use Rattle.frang_base.specs.declared.change.Change.{Change}
use Rattle.frang_base.specs.declared.change.Redo.{Redo}
use Rattle.frang_base.specs.declared.lock.LockId.{LockId}
use Rattle.frang_base.specs.declared.lock.LockId.TheVariants.{Segment}
use Rattle.frang_base.specs.declared.lock.Mode.{Mode}
use Rattle.frang_base.specs.declared.op.Op.{Op}
use Rattle.frang_base.specs.declared.op.Op.TheVariants as op
use Rattle.frang_base.specs.declared.reply.Reply.{Reply}
use Rattle.frang_base.specs.declared.reply.Reply.TheVariants as reply
use Rattle.frang_base.specs.declared.script.Line.{Line}
use Rattle.tree_definitions.specs.Touched.{is_ok, is_unmount}
use Rattle.lock_definitions.specs.Locks.{Locks}
use Rattle.lock_definitions.specs.Calls.{cleared, wanted}
use Rattle.disk_definitions.specs.Plans.{Lock}
use Rattle.disk_definitions.specs.Written.{ascending}
use Rattle.ring_definitions.specs.Rings.{Ring, last, reclaimed_of, ring_at}
use Rattle.sector_bytes.specs.Blocks.{Block, zero_block}
use Rattle.sector_bytes.specs.Changes.{changed}
use Rattle.sector_bytes.specs.Replays.{change_at}
use Rattle.sector_bytes.specs.SectorMaps.{value_at, with_value}
use Rattle.disk_definitions.specs.Regions.{sector_of}
use Rattle.disk_definitions.specs.declared.region.Region.TheVariants as region
use Rattle.core_definitions.specs.Settings.{LogRules, lease_to}
use Rattle.set_definitions.specs.Sets.{first_set, joined_all}
use Rattle.core_definitions.specs.Rings.{appended_some}
use Rattle.cache_definitions.specs.Caches.{Cache, CachedSector, clean, dirty, each_cached, forgotten}
use Rattle.core_definitions.specs.Logs.{end_of}
use Rattle.core_definitions.specs.Plans.{BytesSet, Outcome}
use Rattle.set_definitions.specs.Seen.{SeenSectors}
use Rattle.core_definitions.specs.Lines.{Stage, Asking, Fetching, Moving, Stopping, Growing, Clearing, Finishing, Under, operation_of, under_at_first}
use Rattle.core_definitions.specs.Flights.{Flight, Flights, InPlace, OfLog, OfRecovery, Purpose, each_of_server}
use Rattle.core_definitions.specs.Scripts.{host_party}
use Rattle.core_definitions.specs.Servers.{Off, Up, Still, Server, answer_at_first, first_server, is_in_mount, is_off, is_up}
use Rattle.core_definitions.specs.Trees.{block_sectors}
use Rattle.core_definitions.specs.Cores.{Core, due_at, next_of, stage, with_server}

-- ---- Begin: the line is under way, with the answer that is fixed for it, if one is

abbrev pub begun_with : Server → Line → Option Op → Server
begun_with server line None = server
begun_with server line (Some operation) = record server { under = Some (under_at_first line operation (answer_at_first server operation)) }

abbrev pub begun_line : Server → Option Line → Server
begun_line server None = server
begun_line server (Some line) = begun_with server line (operation_of line.what)

abbrev pub begun : Core → ℕ → Core
begun c a = with_server c a (begun_line (c.servers a) (next_of c a))

-- ---- Ask: granted, or the wish is noted

abbrev pub asked : Core → ℕ → LockId → Mode → Core
asked c a lock mode = record c { locks = wanted c.locks a lock mode }

-- ---- Fetch: cached, or the slot is read

-- a sector that the line needs, clean and under its cover
abbrev pub cached_under : Server → ℕ → Block → Option LockId → Server
cached_under server sector block None = server
cached_under server sector block (Some cover) = record server { cache = with_value server.cache sector (clean block cover) }

abbrev pub cover_needed : Option Stage → ℕ → Option LockId
cover_needed (Some (Fetching needs)) sector = value_at needs sector
cover_needed _ sector = None

abbrev pub with_under : Server → (Under → Under) → Server
with_under server change = record server { under = option_map change server.under }

-- the slot of a sector of its own log
abbrev pub slot_read : ℕ → ℕ → Block → Under → Under
slot_read a sector block under = record under { slots = with_value under.slots (sector - sector_of (region.Log a 0)) block }

abbrev pub fetched_by : ℕ → Option Stage → ℕ → Block → Server → Server
fetched_by a at sector block server =
    if is_off server.phase then with_under server (slot_read a sector block) else cached_under server sector block (cover_needed at sector)

abbrev pub fetched : Core → ℕ → ℕ → Block → Core
fetched c a sector block = with_server c a (fetched_by a (stage c a) sector block (c.servers a))

-- a get that fails under a mount line is kept with that line
abbrev pub refused_under : Under → Under
refused_under under = record under { get_failed = true }

-- a failed get or put counts while its server is Up, Still or Doomed; one of the host ends the core
abbrev pub failed_by : Server → Server
failed_by server = record server { failed = server.failed || is_in_mount server.phase }

abbrev pub call_failed : Core → ℕ → Core
call_failed c a = if a == host_party then record c { over = true } else with_server c a (failed_by (c.servers a))

abbrev pub fetch_failed : Core → ℕ → Core
fetch_failed c a = if is_off (c.servers a).phase then with_server c a (with_under (c.servers a) refused_under) else call_failed c a

-- ---- Again: anew where a seen version moved; the grown set and what is seen; or the ring reclaims

abbrev pub set_anew : Under → Under
set_anew under = record under { set = first_set; seen = [] }

abbrev pub set_grown : List Lock → SeenSectors → Under → Under
set_grown needs seen under = record under { set = joined_all under.set needs; seen = seen }

abbrev pub again_by : LogRules → Option Stage → Server → Server
again_by logs (Some Moving) server = with_under server set_anew
again_by logs (Some (Growing needs seen)) server = with_under server (set_grown needs seen)
again_by logs (Some (Finishing outcome)) server = record server { ring = reclaimed_of logs.quarter server.ring }
again_by logs _ server = server

abbrev pub again : Core → ℕ → Core
again c a = with_server c a (again_by c.setting.logs (stage c a) (c.servers a))

-- ---- Clear: eight writes of zeros are wanted, with mark; they are metadata, under the block's segment, whatever was cached of them

abbrev pub zeroed : ℕ → ℕ → Cache → ℕ → Cache
zeroed mark segment cache sector = with_value cache sector (dirty zero_block (Segment segment) mark false)

abbrev pub cleared_at : ℕ → Server → Server
cleared_at block server = record server {
  cache = fold (zeroed (last server.ring) (block / SEGMENT_BLOCKS)) server.cache (block_sectors block);
  pending = ascending (server.pending ++ block_sectors block);
}

abbrev pub block_cleared : Core → ℕ → ℕ → Core
block_cleared c a block = with_server c a (cleared_at block (c.servers a))

-- ---- Commit: changes, record and answer at once

-- the change of a sector in the record
abbrev pub change_in : Option Redo → ℕ → Option Change
change_in None sector = None
change_in (Some redo) sector = change_at redo.changes sector

-- a cached sector comes under its new cover; a changed one is dirty, with the last log number as its mark
abbrev pub changed_by : ℕ → LockId → Option Change → CachedSector → CachedSector
changed_by mark cover None cached = record cached { cover = cover }
changed_by mark cover (Some change) cached = dirty (changed cached.block change) cover mark false

abbrev pub sector_after : ℕ → Outcome → ℕ → CachedSector → CachedSector
sector_after mark outcome sector cached = changed_by mark (unwrap_or (outcome.moves sector) cached.cover) (change_in outcome.redo sector) cached

-- the sectors of file bytes that are set
abbrev pub with_bytes : ℕ → Cache → BytesSet → Cache
with_bytes mark cache set = with_value cache set.sector (dirty set.block set.cover mark true)

-- freed sectors of file bytes are forgotten
abbrev pub cache_after : ℕ → Outcome → Cache → Cache
cache_after mark outcome cache = forgotten (fold (with_bytes mark) (each_cached (sector_after mark outcome) cache) outcome.bytes) outcome.freed

abbrev pub ring_after : Server → Outcome → Ring
ring_after server outcome = appended_some server.ring outcome.redo

abbrev pub committed_by : Outcome → Server → Server
committed_by outcome server = record server {
  ring = ring_after server outcome;
  cache = cache_after (last (ring_after server outcome)) outcome server.cache;
  staying = filter (λ sector. not (member sector outcome.freed)) server.staying;
  under = None;
}

-- its writes in place of the present mount come under their new covers
abbrev pub purpose_after : Outcome → ℕ → Purpose → Purpose
purpose_after outcome sector (InPlace cover) = InPlace (unwrap_or (outcome.moves sector) cover)
purpose_after outcome sector (OfLog number) = OfLog number
purpose_after outcome sector OfRecovery = OfRecovery

abbrev pub flight_after : Outcome → Flight → Flight
flight_after outcome flight = if flight.present then record flight { purpose = purpose_after outcome flight.sector flight.purpose } else flight

-- the number of the line under way
abbrev pub number_under : Option Under → ℕ
number_under None = 0
number_under (Some under) = under.line.number

abbrev pub committed : Core → ℕ → Outcome → Core
committed c a outcome = record c {
  servers = put c.servers a (committed_by outcome (c.servers a));
  flights = each_of_server a (flight_after outcome) c.flights;
  answered = put c.answered (number_under (c.servers a).under) true;
}

abbrev pub committed_at : Core → ℕ → Option Stage → Core
committed_at c a (Some (Finishing outcome)) = committed c a outcome
committed_at c a _ = c

-- ---- Answer: the phase or the arming changes; with an `unmount` that ends the mount the arming is gone

-- a mount that ends well leaves nothing in memory
abbrev pub off_after : Server → Server
off_after server = record first_server { phase = Off; expiry = server.expiry; failed = server.failed; ring = server.ring }

-- a mount that begins: the ring goes on behind the end of the slots read, the lease begins
abbrev pub up_after : Core → Under → Server
up_after c under = record first_server { phase = Up; expiry = lease_to c.setting c.now; ring = ring_at (end_of c.setting.logs under.slots) }

-- an answer that was open
abbrev pub answered_open : Core → Under → Server → Op → Reply → Server
answered_open c under server op.Mount reply.Mounted = up_after c under
answered_open c under server op.Unmount answer = off_after server
answered_open c under server (op.CrashAt k) answer = record server { arming = Some (record { k = k; cuts = false }) }
answered_open c under server (op.CutAt k) answer = record server { arming = Some (record { k = k; cuts = true }) }
answered_open c under server op.Stall answer = record server { phase = Still }
answered_open c under server operation answer = server

-- an `unmount` of a server that owes ends the owing and leaves the phase
abbrev pub answered_fixed : Server → Op → Reply → Server
answered_fixed server operation answer = if is_unmount operation && is_ok answer then record server { owes = false } else server

abbrev pub answered_by : Core → Under → Server → Op → Reply → Server
answered_by c under server operation answer =
    record (if is_some under.fixed then answered_fixed server operation answer else answered_open c under server operation answer) { under = None }

-- locks are given back where the mount ends
abbrev pub locks_after : Locks → ℕ → Under → Op → Locks
locks_after locks a under operation = if is_unmount operation && not (is_some under.fixed) then cleared locks a else locks

abbrev pub answered_with : Core → ℕ → Under → Reply → Option Op → Core
answered_with c a under answer None = c
answered_with c a under answer (Some operation) = record c {
  servers = put c.servers a (answered_by c under (c.servers a) operation answer);
  locks = locks_after c.locks a under operation;
  answered = put c.answered under.line.number true;
}

abbrev pub answered_under : Core → ℕ → Option Under → Option Reply → Core
answered_under c a (Some under) (Some answer) = answered_with c a under answer (operation_of under.line.what)
answered_under c a under answer = c

abbrev pub answered : Core → ℕ → Core
answered c a = answered_under c a (c.servers a).under (due_at c a)
