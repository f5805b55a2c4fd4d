-- What each event does to the core, to the disk and to the record, by what was heard.
use Rattle.std.specs.Prelude.{◌≡◌, ◌≤◌, ◌<◌, ℕ, Bool, true, false, if◌then◌else◌, Option, Some, None, List, [], ◌∷◌, ◌++◌}
use Rattle.std.specs.List.{slice_get}
use Rattle.frang_base.specs.declared.reply.Reply.{Reply}
use Rattle.frang_base.specs.declared.reply.Reply.TheVariants as reply
use Rattle.frang_base.specs.declared.said.Said.{Said}
use Rattle.frang_base.specs.declared.said.Said.TheVariants as said
use Rattle.frang_base.specs.declared.sector.ServerId.{ServerId}
use Rattle.frang_outside.specs.declared.act.Put.{Put}
use Rattle.frang_outside.specs.declared.act.Taken.{Taken}
use Rattle.frang_outside.specs.declared.act.Taken.TheVariants as taken
use Rattle.frang_outside.specs.Disk.{written}
use Rattle.lock_definitions.specs.Lease.{HasEnded, IsInTime}
use Rattle.disk_definitions.specs.Logs.{greatest_operation}
use Rattle.sector_bytes.specs.SectorMaps.{value_at}
use Rattle.sector_bytes.specs.Sectors.{Sectors}
use Rattle.disk_definitions.specs.Regions.{sector_of}
use Rattle.disk_definitions.specs.declared.region.Region.TheVariants as region
use Rattle.core_definitions.specs.Plans.{Outcome}
use Rattle.core_definitions.specs.Lines.{Stage, Finishing, Under}
use Rattle.core_definitions.specs.Flights.{Flight}
use Rattle.core_definitions.specs.Recoveries.{Recovery, redos}
use Rattle.core_definitions.specs.Scripts.{host_party}
use Rattle.core_definitions.specs.Cores.{Core, due_at, stage, tree_lines}
use Rattle.core_definitions.specs.Events.{Event, Begin, Ask, Fetch, Again, Clear, Commit, Answer, Give, Issue, Doom, Resume, Arrive, Lose, Die, Renew, Tick, Recover, Load, Look, Finish, HostLine, Close, Read, Show, End, Heard, Nothing, Got, GetFailed, Written, Late, PutFailed}
use Rattle.core_definitions.specs.LineEffects.{again, answered, asked, begun, block_cleared, call_failed, committed_at, fetch_failed, fetched, number_under}
use Rattle.core_definitions.specs.WriteEffects.{arrived, died, doomed, given, issued, landed, renewed, resumed, ticked}
use Rattle.core_definitions.specs.EndEffects.{closed, ended, finished, host_answered, loaded, looked, recovering, tree_line_said, tree_read}

-- ---- the core

abbrev pub after : Core → Event → Heard → Core
after c (Begin a) heard = begun c a
after c (Ask a lock mode) heard = asked c a lock mode
after c (Fetch a sector) (Got block) = fetched c a sector block
after c (Fetch a sector) heard = fetch_failed c a
after c (Again a) heard = again c a
after c (Clear a block) heard = block_cleared c a block
after c (Commit a) heard = committed_at c a (stage c a)
after c (Answer a) heard = answered c a
after c (Give a lock) heard = given c a lock
after c (Issue a sector) heard = issued c a sector
after c (Doom a) heard = doomed c a
after c (Resume a) heard = resumed c a
after c (Arrive ticket) heard = arrived c ticket heard
after c (Lose ticket) heard = landed c ticket
after c (Die a) heard = died c a
after c (Renew a) heard = renewed c a
after c Tick heard = ticked c
after c (Recover dead by) heard = recovering c dead by
after c (Load by slot) (Got block) = loaded c by slot block
after c (Load by slot) heard = call_failed c by
after c (Look by sector) (Got block) = looked c by sector block
after c (Look by sector) heard = call_failed c by
after c (Finish by) heard = finished c by
after c (HostLine number) heard = host_answered c
after c (Close a) heard = closed c a
after c (Read sector) (Got block) = tree_read c sector block
after c (Read sector) heard = call_failed c host_party
after c (Show place) heard = tree_line_said c
after c End heard = ended c

-- ---- what may be heard

-- a got sector is the disk's; a get may fail
abbrev pub MayGet : Sectors → ℕ → Heard → Type 0
MayGet disk sector (Got block) = block ≡ disk sector
MayGet disk sector GetFailed = Unit {0}
MayGet disk sector heard = ⊥

-- an arrived write is late exactly where its stamp is less than now; one in time may fail, and then leaves the old sector or the new one
abbrev pub MayPut : ℕ → Flight → Heard → Type 0
MayPut now flight Written = IsInTime flight.stamp now
MayPut now flight Late = HasEnded now flight.stamp
MayPut now flight (PutFailed new) = IsInTime flight.stamp now
MayPut now flight heard = ⊥

-- of the log of the dead server
abbrev pub MayLoad : Sectors → ℕ → Option Recovery → Heard → Type 0
MayLoad disk slot None heard = ⊥
MayLoad disk slot (Some recovery) heard = MayGet disk (sector_of (region.Log recovery.dead slot)) heard

abbrev pub MayArrive : ℕ → Option Flight → Heard → Type 0
MayArrive now None heard = ⊥
MayArrive now (Some flight) heard = MayPut now flight heard

abbrev pub MayHear : Core → Sectors → Event → Heard → Type 0
MayHear c disk (Fetch a sector) heard = MayGet disk sector heard
MayHear c disk (Load by slot) heard = MayLoad disk slot (c.servers by).recovery heard
MayHear c disk (Look by sector) heard = MayGet disk sector heard
MayHear c disk (Read sector) heard = MayGet disk sector heard
MayHear c disk (Arrive ticket) heard = MayArrive c.now (value_at c.flights ticket) heard
MayHear c disk event heard = heard ≡ Nothing

-- ---- the disk

abbrev pub disk_with : Sectors → Flight → Heard → Sectors
disk_with disk flight Written = written disk flight.sector flight.block
disk_with disk flight (PutFailed true) = written disk flight.sector flight.block
disk_with disk flight heard = disk

abbrev pub disk_from : Sectors → Heard → Option Flight → Sectors
disk_from disk heard None = disk
disk_from disk heard (Some flight) = disk_with disk flight heard

abbrev pub disk_after : Core → Sectors → Event → Heard → Sectors
disk_after c disk (Arrive ticket) heard = disk_from disk heard (value_at c.flights ticket)
disk_after c disk event heard = disk

-- ---- the record

-- a put that was answered, or a line that was said
pub data Deed : Type 0 where
  Made : (put : Put) (taken : Taken) → Deed
  Says : (said : Said) → Deed

abbrev pub id_of : ℕ → ServerId
id_of number = record { 0 = number }

-- the put of a write that arrives now
abbrev pub put_of : ℕ → Flight → Put
put_of now flight = record {
  server = id_of flight.server;
  behalf = id_of flight.behalf;
  stamp = flight.stamp;
  now = now;
  sector = record { 0 = flight.sector };
  bytes = flight.block;
}

abbrev pub deeds_of_put : ℕ → Flight → Heard → List Deed
deeds_of_put now flight Written = Made (put_of now flight) taken.Written ∷ []
deeds_of_put now flight Late = Made (put_of now flight) taken.Late ∷ []
deeds_of_put now flight heard = []

abbrev pub deeds_of_arrival : ℕ → Heard → Option Flight → List Deed
deeds_of_arrival now heard None = []
deeds_of_arrival now heard (Some flight) = deeds_of_put now flight heard

-- the answer to the line under way
abbrev pub says_answer : ℕ → Option Under → Option Reply → List Deed
says_answer a (Some under) (Some answer) = Says (said.Answer (id_of a) under.line.number answer) ∷ []
says_answer a under answer = []

abbrev pub reply_by : Option Stage → Option Reply
reply_by (Some (Finishing outcome)) = Some outcome.reply
reply_by _ = None

-- the greatest operation of the log that was recovered
abbrev pub says_recovered : Core → Option Recovery → List Deed
says_recovered c None = []
says_recovered c (Some recovery) = Says (said.Recovered (id_of recovery.dead) (record { 0 = greatest_operation (redos c.setting.logs recovery) })) ∷ []

abbrev pub says_node : Option Said → List Deed
says_node None = []
says_node (Some line) = Says line ∷ []

abbrev pub deeds_of : Core → Event → Heard → List Deed
deeds_of c (Commit a) heard = says_answer a (c.servers a).under (reply_by (stage c a))
deeds_of c (Answer a) heard = says_answer a (c.servers a).under (due_at c a)
deeds_of c (Resume a) heard = Says (said.Renewed (id_of a)) ∷ []
deeds_of c (Arrive ticket) heard = deeds_of_arrival c.now heard (value_at c.flights ticket)
deeds_of c (Die a) heard = Says (said.Dead (id_of a)) ∷ []
deeds_of c (Recover dead by) heard = Says (said.Recovering (id_of dead) (id_of by)) ∷ []
deeds_of c (Finish by) heard = says_recovered c (c.servers by).recovery
deeds_of c (HostLine number) heard = Says (said.Answer (id_of host_party) number reply.Ok) ∷ []
deeds_of c (Show place) heard = says_node (slice_get (tree_lines c) place)
deeds_of c End heard = Says said.End ∷ []
deeds_of c event heard = []
