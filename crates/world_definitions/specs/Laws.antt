-- What a change of a stored world is of its core, as statements.
use Rattle.std.specs.Prelude.{◌≡◌, ◌<◌, ℕ, Bool, Option, List, length, map, slice_set}
use Rattle.frang_base.specs.Functions.{put}
use Rattle.frang_base.specs.declared.limits.TheConstants.{SERVERS}
use Rattle.frang_base.specs.declared.script.Line.{Line}
use Rattle.core_definitions.specs.Cores.{first_core, with_server}
use Rattle.core_definitions.specs.Recoveries.{Recovery}
use Rattle.core_definitions.specs.Scripts.{host_party}
use Rattle.core_definitions.specs.Servers.{Server, first_server}
use Rattle.core_definitions.specs.Settings.{setting_of}
use Rattle.world_definitions.specs.Worlds.{World, core_of, first_world}

-- before anything has happened it is the first core, however many lines have marks
abbrev pub TheFirstIsFirst : Type 0
TheFirstIsFirst = (script : List Line) (segments run marks : ℕ) → core_of (first_world script segments run marks) ≡ first_core (setting_of script segments run)

-- one server
abbrev pub AServerChanges : Type 0
AServerChanges = (w : World) (a : ℕ) (server : Server) → length w.servers ≡ SERVERS → a < SERVERS → core_of (record w { servers = slice_set w.servers a server }) ≡ with_server (core_of w) a server

-- each server by what makes nothing of one that was never mounted, as a flush doesn't: then nothing of the host either
abbrev pub EachServerChanges : Type 0
EachServerChanges = (w : World) (change : Server → Server) → (change first_server ≡ first_server) → (change ((core_of w).servers host_party) ≡ (core_of w).servers host_party)
    → core_of (record w { servers = map change w.servers }) ≡ record (core_of w) { servers = λ a. change ((core_of w).servers a) }

-- the host's recovery
abbrev pub TheHostChanges : Type 0
TheHostChanges = (w : World) (recovery : Option Recovery) → core_of (record w { host = recovery }) ≡ with_server (core_of w) host_party (record ((core_of w).servers host_party) { recovery = recovery })

-- a mark of a line: that it is answered, that it has passed
abbrev pub ALineIsAnswered : Type 0
ALineIsAnswered = (w : World) (number : ℕ) (mark : Bool) → number < length w.answered
    → core_of (record w { answered = slice_set w.answered number mark }) ≡ record (core_of w) { answered = put (core_of w).answered number mark }

abbrev pub ALinePasses : Type 0
ALinePasses = (w : World) (number : ℕ) (mark : Bool) → number < length w.passed
    → core_of (record w { passed = slice_set w.passed number mark }) ≡ record (core_of w) { passed = put (core_of w).passed number mark }

-- a server is held, or no longer
abbrev pub AServerIsHeld : Type 0
AServerIsHeld = (w : World) (a : ℕ) (mark : Bool) → length w.paused ≡ SERVERS → a < SERVERS
    → core_of (record w { paused = slice_set w.paused a mark }) ≡ record (core_of w) { paused = put (core_of w).paused a mark }
