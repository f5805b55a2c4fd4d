-- What each step leaves of the record and the disk: a line said more, the put of a write in flight, or nothing.
use Rattle.std.proofs.Common.{◌≡◌, ℕ, List, [], ◌∷◌, ◌++◌, Option, Some, None, refl, sym, ◌∙◌, append-nil}
use Rattle.std.specs.List.{slice_get}
use Rattle.frang_base.specs.declared.reply.Reply.{Reply}
use Rattle.frang_base.specs.declared.said.Said.{Said}
use Rattle.sector_bytes.specs.SectorMaps.{value_at}
use Rattle.sector_bytes.specs.Sectors.{Sectors}
use Rattle.core_definitions.specs.Cores.{Core, due_at, stage, tree_lines}
use Rattle.core_definitions.specs.Effects.{Deed, Says, deeds_of, deeds_of_arrival, deeds_of_put, disk_after, disk_from, disk_with, reply_by, says_answer, says_node, says_recovered}
use Rattle.core_definitions.specs.Events.{Event, Begin, Ask, Fetch, Again, Clear, Commit, Answer, Give, Issue, Doom, Resume, Arrive, Lose, Die, Renew, Tick, Recover, Load, Look, Finish, HostLine, Close, Read, Show, End, Heard}
use Rattle.core_definitions.specs.Flights.{Flight}
use Rattle.core_definitions.specs.Lines.{Under}
use Rattle.core_definitions.specs.Recoveries.{Recovery}
use Rattle.core_definitions.specs.Runs.{State, Step, Event_, Enter, Hold, Flush, Relock, Note, Peek, PeekFails}

-- the deeds that it adds, and the disk behind it
pub data Leaves (c : Core) (disk : Sectors) : List Deed → Sectors → Type 0 where
  NoDeed : Leaves c disk [] disk
  LineSaid : (line : Said) → Leaves c disk (Says line ∷ []) disk
  WriteMade : (ticket : ℕ) (flight : Flight) (heard : Heard) → value_at c.flights ticket ≡ Some flight → Leaves c disk (deeds_of_put c.now flight heard) (disk_with disk flight heard)

module _ (c : Core) (disk : Sectors) where
  answer_leaves : (a : ℕ) (under : Option Under) (answer : Option Reply) → Leaves c disk (says_answer a under answer) disk
  answer_leaves a None None = NoDeed
  answer_leaves a None (Some answer) = NoDeed
  answer_leaves a (Some under) None = NoDeed
  answer_leaves a (Some under) (Some answer) = LineSaid _

  recovered_leaves : (recovery : Option Recovery) → Leaves c disk (says_recovered c recovery) disk
  recovered_leaves None = NoDeed
  recovered_leaves (Some recovery) = LineSaid _

  node_leaves : (line : Option Said) → Leaves c disk (says_node line) disk
  node_leaves None = NoDeed
  node_leaves (Some line) = LineSaid line

  arrival_leaves : (ticket : ℕ) (heard : Heard) (flight : Option Flight) → value_at c.flights ticket ≡ flight → Leaves c disk (deeds_of_arrival c.now heard flight) (disk_from disk heard flight)
  arrival_leaves ticket heard None e = NoDeed
  arrival_leaves ticket heard (Some flight) e = WriteMade ticket flight heard e

  event_leaves : (event : Event) (heard : Heard) → Leaves c disk (deeds_of c event heard) (disk_after c disk event heard)
  event_leaves (Begin a) heard = NoDeed
  event_leaves (Ask a lock mode) heard = NoDeed
  event_leaves (Fetch a sector) heard = NoDeed
  event_leaves (Again a) heard = NoDeed
  event_leaves (Clear a block) heard = NoDeed
  event_leaves (Commit a) heard = answer_leaves a (c.servers a).under (reply_by (stage c a))
  event_leaves (Answer a) heard = answer_leaves a (c.servers a).under (due_at c a)
  event_leaves (Give a lock) heard = NoDeed
  event_leaves (Issue a sector) heard = NoDeed
  event_leaves (Doom a) heard = NoDeed
  event_leaves (Resume a) heard = LineSaid _
  event_leaves (Arrive ticket) heard = arrival_leaves ticket heard (value_at c.flights ticket) refl
  event_leaves (Lose ticket) heard = NoDeed
  event_leaves (Die a) heard = LineSaid _
  event_leaves (Renew a) heard = NoDeed
  event_leaves Tick heard = NoDeed
  event_leaves (Recover dead by) heard = LineSaid _
  event_leaves (Load by slot) heard = NoDeed
  event_leaves (Look by sector) heard = NoDeed
  event_leaves (Finish by) heard = recovered_leaves (c.servers by).recovery
  event_leaves (HostLine number) heard = LineSaid _
  event_leaves (Close a) heard = NoDeed
  event_leaves (Read sector) heard = NoDeed
  event_leaves (Show place) heard = node_leaves (slice_get (tree_lines c) place)
  event_leaves End heard = LineSaid _

-- of a step
pub record StepLeaves (s v : State) : Type 0 where
  pub deeds : List Deed
  pub leaves : Leaves s.core s.disk deeds v.disk
  pub record_is : v.record_ ≡ s.record_ ++ deeds

rests : (s v : State) → v.record_ ≡ s.record_ → Leaves s.core s.disk [] v.disk → StepLeaves s v
rests s v same leaves = record { deeds = []; leaves = leaves; record_is = same ∙ sym (append-nil s.record_) }

pub step_leaves : (s v : State) → Step s v → StepLeaves s v
step_leaves s v (Event_ event heard makes) = record { deeds = deeds_of s.core event heard; leaves = event_leaves s.core s.disk event heard; record_is = refl }
step_leaves s v (Enter a line can) = rests s v refl NoDeed
step_leaves s v (Hold a on may) = rests s v refl NoDeed
step_leaves s v (Flush a may) = rests s v refl NoDeed
step_leaves s v (Relock locks going are same wait) = rests s v refl NoDeed
step_leaves s v (Note line may) = record { deeds = Says line ∷ []; leaves = LineSaid line; record_is = refl }
step_leaves s v (Peek sector going) = rests s v refl NoDeed
step_leaves s v (PeekFails sector going) = rests s v refl NoDeed
