-- What the events of recoveries and of the host do: Recover, Load, Look, Finish, HostLine, Close, Read, Show, End.
use Rattle.std.specs.Prelude.{ℕ, ◌+◌, Bool, true, false, if◌then◌else◌, Option, Some, None, List, [], ◌∷◌}
use Rattle.std.specs.Option.{option_map}
use Rattle.frang_base.specs.Functions.{put}
use Rattle.frang_base.specs.declared.script.Line.{Line}
use Rattle.tree_definitions.specs.Transcript.{is_halt}
use Rattle.lock_definitions.specs.Calls.{cleared, taken}
use Rattle.ring_definitions.specs.Rings.{ring_at}
use Rattle.sector_bytes.specs.Blocks.{Block}
use Rattle.sector_bytes.specs.SectorMaps.{with_value}
use Rattle.core_definitions.specs.Recoveries.{Recovery, recovery_of, redos, wanted_block}
use Rattle.core_definitions.specs.Scripts.{host_party}
use Rattle.core_definitions.specs.Servers.{Off, Server, wanting_all}
use Rattle.core_definitions.specs.Cores.{Core, clean_at, expiry_of, next_of, with_server}
use Rattle.core_definitions.specs.LineEffects.{off_after}

-- ---- Recover: the log is taken

abbrev pub recovering : Core → ℕ → ℕ → Core
recovering c dead by = record c {
  servers = put c.servers by (record (c.servers by) { recovery = Some (recovery_of dead) });
  locks = taken c.locks dead by c.now (expiry_of c by);
}

-- ---- Load: read

abbrev pub with_recovery : Core → ℕ → (Recovery → Recovery) → Core
with_recovery c by change = with_server c by (record (c.servers by) { recovery = option_map change (c.servers by).recovery })

abbrev pub slot_loaded : ℕ → Block → Recovery → Recovery
slot_loaded slot block recovery = record recovery { slots = with_value recovery.slots slot block }

abbrev pub loaded : Core → ℕ → ℕ → Block → Core
loaded c by slot block = with_recovery c by (slot_loaded slot block)

-- ---- Look: where its version is less, a write is wanted on behalf of the dead server

abbrev pub look_made : Core → ℕ → Block → Recovery → Recovery
look_made c sector block recovery = record recovery { looked = with_value recovery.looked sector (wanted_block (redos c.setting.logs recovery) sector block) }

abbrev pub looked : Core → ℕ → ℕ → Block → Core
looked c by sector block = with_recovery c by (look_made c sector block)

-- ---- Finish: the dead server's locks, log hold and ring are cleared; Off

abbrev pub recovered : Server → Server
recovered server = record server { phase = Off; ring = ring_at 0 }

abbrev pub finished_by : Core → ℕ → ℕ → Core
finished_by c by dead = record c {
  servers = put (put c.servers by (record (c.servers by) { recovery = None })) dead (recovered (c.servers dead));
  locks = cleared c.locks dead;
}

abbrev pub finished_from : Core → ℕ → Option Recovery → Core
finished_from c by None = c
finished_from c by (Some recovery) = finished_by c by recovery.dead

abbrev pub finished : Core → ℕ → Core
finished c by = finished_from c by (c.servers by).recovery

-- ---- HostLine: answered; `halt` ends everything, and what is in flight is lost

abbrev pub host_answered_line : Core → Option Line → Core
host_answered_line c None = c
host_answered_line c (Some line) = record c {
  answered = put c.answered line.number true;
  ticks = 0;
  flights = if is_halt line.what then [] else c.flights;
  over = is_halt line.what;
}

abbrev pub host_answered : Core → Core
host_answered c = host_answered_line c (next_of c host_party)

-- ---- Close: wants everything written; Off once clean, its locks given back

abbrev pub closed : Core → ℕ → Core
closed c a =
    if clean_at c a then record c { servers = put c.servers a (off_after (c.servers a)); locks = cleared c.locks a }
    else with_server c a (wanting_all (c.servers a))

-- ---- Read, Show, End

abbrev pub tree_read : Core → ℕ → Block → Core
tree_read c sector block = record c { read = with_value c.read sector block }

abbrev pub tree_line_said : Core → Core
tree_line_said c = record c { shown = c.shown + 1 }

abbrev pub ended : Core → Core
ended c = record c { over = true }
