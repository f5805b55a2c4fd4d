-- What the world makes of its core is what the hall asks of a machine, at each moment whose core it is.
use Rattle.std.proofs.Common.{◌≡◌, ◌∙◌, ℕ, true, Option, Some, None, Result, Ok, Err, refl, sym, ap, subst}
use Rattle.std.specs.Prelude.{IfOk, IfSome}
use Rattle.frang_base.specs.Functions.{put}
use Rattle.frang_base.specs.declared.fault.NoMemory.{NoMemory}
use Rattle.frang_base.specs.declared.script.Line.{Line}
use Rattle.petal_disk.specs.declared.ticket.Ticket.{Ticket}
use Rattle.petal_disk.specs.declared.ticket.Arrived.{Arrived}
use Rattle.petal_disk.specs.declared.ticket.Arrived.TheVariants as arrived
use Rattle.core_definitions.specs.Cores.{Core}
use Rattle.core_definitions.specs.Effects.{MayArrive, after}
use Rattle.core_definitions.specs.Events.{Event, Arrive, Written, Late, PutFailed}
use Rattle.core_definitions.specs.Flights.{Flight}
use Rattle.core_definitions.specs.Guards.{Can}
use Rattle.core_definitions.specs.Runs.{State as RunMoment, CanEnter}
use Rattle.hall_runs.specs.declared.event.Call.{Call}
use Rattle.hall_runs.specs.declared.event.Event.{Event as Named}
use Rattle.hall_runs.specs.declared.event.Event.TheVariants as named
use Rattle.hall_runs.specs.declared.event.Heard.{Heard as Told}
use Rattle.hall_runs.specs.declared.event.Heard.TheVariants as told
use Rattle.hall_runs.specs.Asking.{Asks, event_of, heard_of}
use Rattle.sector_bytes.specs.SectorMaps.{value_at}
use Rattle.frang_hall.specs.Machines.{AsksSo, Drawn, Enters, IsDrawn, LandsBy, Listed, NoneListed, Same, Stands, Stepping}
use Rattle.world_state.specs.Arrivals.{Arrives}
use Rattle.frang_world.specs.States.{IsNoArrival}

-- it is the core of the moments that have it
abbrev pub has : Core → Stands
has core = λ r. r.core ≡ core

pub same : (old new : Core) → new ≡ old → Same (has old) (has new)
same old new is = λ r at. at ∙ sym is

pub listed : (core : Core) (event : Named) → Can core (event_of event) → Listed (has core) event
listed core event can = λ r at. subst (λ k. Can k (event_of event)) (sym at) can

pub some_listed : (core : Core) (result : Result (Option Named) NoMemory) → IfOk result (λ found. IfSome found (λ event. Can core (event_of event))) → IfOk result (λ found. IfSome found (Listed (has core)))
some_listed core (Ok None) h = tt
some_listed core (Ok (Some event)) h = listed core event h
some_listed core (Err want) h = tt

pub some_drawn : (core : Core) (draw : ℕ) (result : Result (Option Named) NoMemory) → IfOk result (λ found. IfSome found (λ event. IsDrawn draw core (event_of event)))
    → IfOk result (λ found. IfSome found (Drawn (has core) draw))
some_drawn core draw (Ok None) h = tt
some_drawn core draw (Ok (Some event)) h = λ r at. subst (λ k. IsDrawn draw k (event_of event)) (sym at) h
some_drawn core draw (Err want) h = tt

pub none_listed : (core : Core) → ((event : Event) → Can core event → ⊥) → NoneListed (has core)
none_listed core none = λ r at event can. none event (subst (λ k. Can k event) at can)

pub asks_so : (core : Core) (event : Named) (call : Call) → Can core (event_of event) → Asks core (event_of event) call → AsksSo (has core) event call
asks_so core event call can asks = λ r at. (subst (λ k. Can k (event_of event)) (sym at) can, subst (λ k. Asks k (event_of event) call) (sym at) asks)

-- a line of this number passes the gate
abbrev with_passed : ℕ → Core → Core
with_passed number k = record k { passed = put k.passed number true }

pub enters : (old new : Core) (server : ℕ) → ((line : Line) → CanEnter old server line → new ≡ record old { passed = put old.passed line.number true }) → Enters (has old) (has new) server
enters old new server passes = λ r line at can. ap (with_passed line.number) at ∙ sym (passes line (subst (λ k. CanEnter k server line) at can))

-- ---- a step

pub steps : (old new : Core) (event : Named) (heard : Told) → new ≡ after old (event_of event) (heard_of heard) → Stepping (has old) (has new) event heard
steps old new event heard is = λ r at makes. ap (λ k. after k (event_of event) (heard_of heard)) at ∙ sym is

-- by the variant
pub no_arrival : (event : Named) → ((ticket : Ticket) → event ≡ named.Arrive ticket → ⊥) → IsNoArrival event
no_arrival (named.Arrive ticket) other = other ticket refl
no_arrival (named.Begin a) other = tt
no_arrival (named.Ask a lock mode) other = tt
no_arrival (named.Fetch a sector) other = tt
no_arrival (named.Again a) other = tt
no_arrival (named.Clear a block) other = tt
no_arrival (named.Commit a) other = tt
no_arrival (named.Answer a) other = tt
no_arrival (named.Give a lock) other = tt
no_arrival (named.Issue a sector) other = tt
no_arrival (named.Doom a) other = tt
no_arrival (named.Resume a) other = tt
no_arrival (named.Lose ticket) other = tt
no_arrival (named.Die a) other = tt
no_arrival (named.Renew a) other = tt
no_arrival named.Tick other = tt
no_arrival (named.Recover dead by) other = tt
no_arrival (named.Load by slot) other = tt
no_arrival (named.Look by sector) other = tt
no_arrival (named.Finish by) other = tt
no_arrival (named.HostLine number) other = tt
no_arrival (named.Close a) other = tt
no_arrival (named.Read sector) other = tt
no_arrival (named.Show place) other = tt
no_arrival named.End other = tt

-- an arrival is answered by a put, of which no step is told
unanswered : (now : ℕ) (flight : Option Flight) (heard : Told) → MayArrive now flight (heard_of heard) → ⊥
unanswered now None heard may = may
unanswered now (Some flight) told.Nothing may = may
unanswered now (Some flight) (told.Got block) may = may
unanswered now (Some flight) told.GetFailed may = may

pub no_step : (old new : Core) (event : Named) (ticket : Ticket) (heard : Told) → event ≡ named.Arrive ticket → Stepping (has old) (has new) event heard
no_step old new event ticket heard is =
    subst (λ e. Stepping (has old) (has new) e heard) (sym is) (λ r at makes. absurd (unanswered r.core.now (value_at r.core.flights ticket.0) heard makes.hears))

-- ---- an arrival

pub lands : (old new : Core) (ticket : ℕ) (answer : Arrived) (r : RunMoment) → r.core ≡ old → Arrives old new ticket answer → LandsBy (has new) r ticket answer
lands old new ticket arrived.Written r at is = λ makes. ap (λ k. after k (Arrive ticket) Written) at ∙ sym is
lands old new ticket (arrived.Late stamp now) r at is = λ makes. ap (λ k. after k (Arrive ticket) Late) at ∙ sym is
lands old new ticket arrived.Failed r at is = λ took makes. ap (λ k. after k (Arrive ticket) (PutFailed took)) at ∙ sym (is took)
lands old new ticket arrived.NoMemory r at is = at ∙ sym is
