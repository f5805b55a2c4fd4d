-- What is ready for an event: it is the event's, and fits what is called for it.
use Rattle.std.proofs.Common.{ℕ, ◌≡◌, IfSome, IsSomeAnd, Option, Some, None, sym, subst}
use Rattle.core_definitions.specs.Cores.{Core}
use Rattle.core_definitions.specs.Events.{Event, Heard}
use Rattle.core_definitions.specs.Events as core
use Rattle.core_definitions.specs.Guards.{Can}
use Rattle.hall_runs.specs.Asking.{Asks, event_of}
use Rattle.hall_runs.specs.declared.event.Event.{Event as Named}
use Rattle.hall_runs.specs.declared.event.Event.TheVariants as named
use Rattle.host_tree.specs.Reading.{HostReading}
use Rattle.world_next.specs.Over.{core_over}
use Rattle.world_ready.specs.Events.{event_in}
use Rattle.world_ready.specs.Fits.{FitsArrive}
use Rattle.world_ready.specs.Making.{Fits, IsReadyFor as IsMadeReady}
use Rattle.world_ready.specs.declared.kinds.Made.{Made}
use Rattle.world_ready.specs.declared.kinds.Ready.{Ready}
use Rattle.world_ready.specs.declared.kinds.Ready.TheVariants as kinds
use Rattle.world_state.specs.States.{State as Servers, core_at}
use Rattle.frang_world.specs.States.{IsNoArrival, IsReadyFor, State}
use Rattle.frang_world.specs.Steps.{IsNoArrivalReady, IsStep}

-- ---- whose it is

-- an arrival is no other event
not_of : (ticket : ℕ) (event : Named) → core.Arrive ticket ≡ event_of event → IsNoArrival event → ⊥
not_of ticket (named.Arrive t) is other = other
not_of ticket event is other = absurd (cc)

pub no_arrival : (made : Ready) (event : Named) → event_in made ≡ event_of event → IsNoArrival event → IsNoArrivalReady made
no_arrival (kinds.Arrive ticket) event is other = not_of ticket.0 event is other
no_arrival made event is other = tt

-- what is ready for an arrival is that arrival
arrival_fits : (s : Servers) (tree : HostReading) (made : Ready) (ticket : ℕ) → event_in made ≡ core.Arrive ticket → Fits s tree made → FitsArrive (core_at s) s ticket
arrival_fits s tree (kinds.Arrive t) ticket is fits = let same : t.0 ≡ ticket = cc in subst (FitsArrive (core_at s) s) same fits.may
arrival_fits s tree made ticket is fits = absurd (cc)

-- ---- what is ready, at its kind

pub fits_as : (s : Servers) (tree : HostReading) (ready made : Ready) → ready ≡ made → Fits s tree ready → Fits s tree made
fits_as s tree ready made is fits = subst (Fits s tree) is fits

pub step_of : (s t : Servers) (was tree : HostReading) (ready made : Ready) (heard : Heard) → ready ≡ made → IsStep s was t tree (event_in made) heard → IsStep s was t tree (event_in ready) heard
step_of s t was tree ready made heard is step = subst (λ (r : Ready). IsStep s was t tree (event_in r) heard) (sym is) step

-- ---- what was made ready

module _ (t : Servers) (tree : HostReading) (c : Core) (is : core_over t tree ≡ c) (event : Event) where
  pub made_can : (made : Made) → IsMadeReady t tree event made → Can c event
  made_can made ready = subst (λ (d : Core). Can d event) is (subst (Can (core_over t tree)) ready.event ready.fits.can)

  pub made_asks : (made : Made) → IsMadeReady t tree event made → Asks c event made.call
  made_asks made ready = subst (λ (d : Core). Asks d event made.call) is ready.asks

  pub none_can : (Can (core_over t tree) event → ⊥) → Can c event → ⊥
  none_can none can = none (subst (λ (d : Core). Can d event) (sym is) can)

-- ---- what is kept ready for an event

module _ (s : Servers) (tree : HostReading) (ready : Option Ready) (now : State) (event : Event) (view : record { world = s; tree = tree; ready = ready } ≡ now) (for_it : IsReadyFor now event) where
  there : IsSomeAnd ready (λ made. event_in made ≡ event)
  there = subst (λ (n : State). IsReadyFor n event) (sym view) for_it

  pub its_event : (made : Ready) → Some made ≡ ready → event_in made ≡ event
  its_event made is = subst (λ (o : Option Ready). IsSomeAnd o (λ made. event_in made ≡ event)) (sym is) there

  pub some_ready : None ≡ ready → ⊥
  some_ready is = subst (λ (o : Option Ready). IsSomeAnd o (λ made. event_in made ≡ event)) (sym is) there

pub arrival_ready : (s : Servers) (tree : HostReading) (ready : Option Ready) (now : State) (ticket : ℕ) → record { world = s; tree = tree; ready = ready } ≡ now → IsReadyFor now (core.Arrive ticket)
    → IfSome ready (Fits s tree) → FitsArrive (core_at s) s ticket
arrival_ready s tree ready now ticket view for_it = go ready (subst (λ (n : State). IsReadyFor n (core.Arrive ticket)) (sym view) for_it)
  where
    go : (o : Option Ready) → IsSomeAnd o (λ made. event_in made ≡ core.Arrive ticket) → IfSome o (Fits s tree) → FitsArrive (core_at s) s ticket
    go None is fits = absurd is
    go (Some made) is fits = arrival_fits s tree made ticket is fits
