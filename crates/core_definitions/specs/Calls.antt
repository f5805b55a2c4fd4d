-- What an event asks of the outside, and what is an answer to it.
use Rattle.std.specs.Prelude.{◌≡◌, ◌⊎◌, ℕ, Bool, Option, Some, None, List, [], ◌∷◌}
use Rattle.frang_outside.specs.declared.act.Act.{Act}
use Rattle.frang_outside.specs.declared.act.Act.TheVariants as act
use Rattle.frang_outside.specs.declared.act.Put.{Put}
use Rattle.frang_outside.specs.declared.act.Taken.TheVariants as taken
use Rattle.tree_definitions.specs.SaidLines.{said_line}
use Rattle.disk_definitions.specs.Regions.{sector_of}
use Rattle.disk_definitions.specs.declared.region.Region.TheVariants as region
use Rattle.sector_bytes.specs.Blocks.{Block}
use Rattle.sector_bytes.specs.SectorMaps.{value_at}
use Rattle.core_definitions.specs.Flights.{Flight}
use Rattle.core_definitions.specs.Recoveries.{Recovery}
use Rattle.core_definitions.specs.Scripts.{host_party}
use Rattle.core_definitions.specs.Cores.{Core}
use Rattle.core_definitions.specs.Events.{Event, Fetch, Arrive, Load, Look, Read, Heard, Nothing, Got, GetFailed, Written, Late, PutFailed}
use Rattle.core_definitions.specs.Effects.{Deed, Made, Says, deeds_of, put_of}

-- nothing; a sector's block, for the party whose call it is if it fails; that the write with a ticket is made; that a text is said
pub data Call : Type 0 where
  NoCall : Call
  Get : (party sector : ℕ) → Call
  MakePut : (ticket : ℕ) (put : Put) → Call
  Say : (text : List ℕ) → Call

-- a slot of the log that is recovered
abbrev pub load_call : ℕ → ℕ → Option Recovery → Call
load_call by slot None = NoCall
load_call by slot (Some recovery) = Get by (sector_of (region.Log recovery.dead slot))

-- a write in flight is made now
abbrev pub arrival_call : ℕ → ℕ → Option Flight → Call
arrival_call now ticket None = NoCall
arrival_call now ticket (Some flight) = MakePut ticket (put_of now flight)

-- the line that is told, as a text; an event that makes no get or put tells one line at most
abbrev pub say_call : List Deed → Call
say_call [] = NoCall
say_call (Made put taken ∷ deeds) = say_call deeds
say_call (Says line ∷ deeds) = Say (said_line line)

abbrev pub call_of : Core → Event → Call
call_of c (Fetch a sector) = Get a sector
call_of c (Load by slot) = load_call by slot (c.servers by).recovery
call_of c (Look by sector) = Get by sector
call_of c (Read sector) = Get host_party sector
call_of c (Arrive ticket) = arrival_call c.now ticket (value_at c.flights ticket)
call_of c event = say_call (deeds_of c event Nothing)

-- what is heard answers a call: nothing where none is made or a text is said, a block or a failure to a get, that it was written, came late or failed to a put
abbrev pub Answers : Call → Heard → Type 0
Answers NoCall heard = heard ≡ Nothing
Answers (Get party sector) heard = ((block : Block) × (heard ≡ Got block)) ⊎ (heard ≡ GetFailed)
Answers (MakePut ticket put) heard = (heard ≡ Written) ⊎ (heard ≡ Late) ⊎ ((new : Bool) × (heard ≡ PutFailed new))
Answers (Say text) heard = heard ≡ Nothing

-- the act that the record gets of a call, by what is heard: a put that was written or late, a text that was said; nothing of a get, or of a put that failed
abbrev pub acts_by : Call → Heard → List Act
acts_by (MakePut ticket put) Written = act.Put put taken.Written ∷ []
acts_by (MakePut ticket put) Late = act.Put put taken.Late ∷ []
acts_by (Say text) heard = act.Said text ∷ []
acts_by call heard = []

-- whose call fails, by what is heard: the party of a get, or the one that writes
abbrev pub fails_by : Call → Heard → Option ℕ
fails_by (Get party sector) GetFailed = Some party
fails_by (MakePut ticket put) (PutFailed new) = Some put.server.0
fails_by call heard = None
