-- The record of a run has a put as written only where it came no later than its stamp, and as late only where it came after: deed by deed.
use Rattle.std.proofs.Common.{◌≡◌, ℕ, IsTrue, List, [], ◌∷◌, ◌++◌, Option, Some, None, subst, ◌≤◌, ◌+◌}
use Rattle.std.specs.List.{slice_get}
use Rattle.std.proofs.lemmas.Bool.{leb-true}
use Rattle.frang_base.specs.declared.reply.Reply.{Reply}
use Rattle.frang_base.specs.declared.said.Said.{Said}
use Rattle.sector_bytes.specs.SectorMaps.{value_at}
use Rattle.sector_bytes.specs.Sectors.{Sectors}
use Rattle.core_definitions.specs.Settings.{Setting}
use Rattle.core_definitions.specs.Lines.{Under}
use Rattle.core_definitions.specs.Flights.{Flight, OfLog}
use Rattle.core_definitions.specs.Recoveries.{Recovery}
use Rattle.core_definitions.specs.Writes.{Write, keeps_window}
use Rattle.core_definitions.specs.Cores.{Core, due_at, stage, tree_lines, writes}
use Rattle.core_definitions.specs.Events.{Event, Begin, Ask, Fetch, Again, Clear, Commit, Answer, Give, Issue, Doom, Resume, Arrive, Lose, Die, Renew, Tick, Recover, Load, Look, Finish, HostLine, Close, Read, Show, End, Heard, Nothing, Got, GetFailed, Written, Late, PutFailed}
use Rattle.core_definitions.specs.WriteGuards.{CanIssue, is_write}
use Rattle.core_definitions.specs.Effects.{Deed, MayArrive, MayHear, Says, deeds_of, deeds_of_arrival, reply_by, says_answer, says_node, says_recovered}
use Rattle.core_definitions.specs.Runs.{State, Step, Event_, Enter, Hold, Flush, Relock, Note, Peek, PeekFails, Run, Stays, Goes, first_state, next}
use Rattle.core_laws.specs.Facts.{AreTimely}

said_timely : (a : ℕ) (under : Option Under) (answer : Option Reply) → AreTimely (says_answer a under answer)
said_timely a None None = tt
said_timely a None (Some answer) = tt
said_timely a (Some under) None = tt
said_timely a (Some under) (Some answer) = (tt, tt)

recovered_timely : (c : Core) (recovery : Option Recovery) → AreTimely (says_recovered c recovery)
recovered_timely c None = tt
recovered_timely c (Some recovery) = (tt, tt)

node_timely : (line : Option Said) → AreTimely (says_node line)
node_timely None = tt
node_timely (Some line) = (tt, tt)

arrival_timely : (now : ℕ) (heard : Heard) (flight : Option Flight) → MayArrive now flight heard → AreTimely (deeds_of_arrival now heard flight)
arrival_timely now heard None may = tt
arrival_timely now Written (Some flight) may = (may, tt)
arrival_timely now Late (Some flight) may = (may, tt)
arrival_timely now (PutFailed new) (Some flight) may = tt
arrival_timely now Nothing (Some flight) may = tt
arrival_timely now (Got block) (Some flight) may = tt
arrival_timely now GetFailed (Some flight) may = tt

event_timely : (s : State) (event : Event) (heard : Heard) → MayHear s.core s.disk event heard → AreTimely (deeds_of s.core event heard)
event_timely s (Begin a) heard may = tt
event_timely s (Ask a lock mode) heard may = tt
event_timely s (Fetch a sector) heard may = tt
event_timely s (Again a) heard may = tt
event_timely s (Clear a block) heard may = tt
event_timely s (Commit a) heard may = said_timely a (s.core.servers a).under (reply_by (stage s.core a))
event_timely s (Answer a) heard may = said_timely a (s.core.servers a).under (due_at s.core a)
event_timely s (Give a lock) heard may = tt
event_timely s (Issue a sector) heard may = tt
event_timely s (Doom a) heard may = tt
event_timely s (Resume a) heard may = (tt, tt)
event_timely s (Arrive ticket) heard may = arrival_timely s.core.now heard (value_at s.core.flights ticket) may
event_timely s (Lose ticket) heard may = tt
event_timely s (Die a) heard may = (tt, tt)
event_timely s (Renew a) heard may = tt
event_timely s Tick heard may = tt
event_timely s (Recover dead by) heard may = (tt, tt)
event_timely s (Load by slot) heard may = tt
event_timely s (Look by sector) heard may = tt
event_timely s (Finish by) heard may = recovered_timely s.core (s.core.servers by).recovery
event_timely s (HostLine number) heard may = (tt, tt)
event_timely s (Close a) heard may = tt
event_timely s (Read sector) heard may = tt
event_timely s (Show place) heard may = node_timely (slice_get (tree_lines s.core) place)
event_timely s End heard may = (tt, tt)

joined_timely : (xs ys : List Deed) → AreTimely xs → AreTimely ys → AreTimely (xs ++ ys)
joined_timely [] ys t u = u
joined_timely (x ∷ xs) ys t u = (t.0, joined_timely xs ys t.1 u)

step_timely : (s v : State) → Step s v → AreTimely s.record_ → AreTimely v.record_
step_timely s v (Event_ event heard makes) t = joined_timely s.record_ (deeds_of s.core event heard) t (event_timely s event heard makes.hears)
step_timely s v (Enter a line can) t = t
step_timely s v (Hold a on may) t = t
step_timely s v (Flush a may) t = t
step_timely s v (Relock locks going good same wait) t = t
step_timely s v (Note line may) t = joined_timely s.record_ (Says line ∷ []) t (tt, tt)
step_timely s v (Peek sector going) t = t
step_timely s v (PeekFails sector going) t = t

run_timely : (s v : State) → Run s v → AreTimely s.record_ → AreTimely v.record_
run_timely s v Stays t = t
run_timely s w (Goes {v = v} step run) t = run_timely v w run (step_timely s v step t)

pub timely_of_run : (setting : Setting) (disk : Sectors) (s : State) → Run (first_state setting disk) s → AreTimely s.record_
timely_of_run setting disk s run = run_timely (first_state setting disk) s run tt

-- ---- the window

pub in_window : (c : Core) (a sector : ℕ) (write : Write) (number : ℕ) → CanIssue c a sector → value_at (writes c a) sector ≡ Some write → write.purpose ≡ OfLog number →
    number ≤ (c.servers a).ring.reached + c.setting.logs.in_flight
in_window c a sector write number can e f =
    leb-true number ((c.servers a).ring.reached + c.setting.logs.in_flight)
    (subst (λ p. IsTrue (keeps_window c.setting.logs (c.servers a).ring p)) f (subst (λ w. IsTrue (is_write (λ x. keeps_window c.setting.logs (c.servers a).ring x.purpose) w)) e can.issuable.window))
