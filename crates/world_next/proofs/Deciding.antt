-- What was picked may happen, and where nothing was, nothing may.
use Rattle.std.proofs.Common.{◌≡◌, true, false, not, IfSome, Option, Some, None, ap, subst}
use Rattle.core_definitions.specs.Cores.{Core}
use Rattle.core_definitions.specs.Events.{Event}
use Rattle.core_definitions.specs.Guards.{Can, CanGoing, CanOther, CanTick}
use Rattle.hall_runs.specs.Asking.{event_of}
use Rattle.hall_runs.specs.declared.event.Event.{Event as Named}
use Rattle.world_next.specs.NoEvents.{NoneBeside, NoneOther, is_of_flight}
use Rattle.world_next.specs.Picking.{Picks, PicksBeside}
use Rattle.world_next.proofs.Together.{besides, none_beside, none_going}

module _ (c : Core) (going : c.over ≡ false) where
  pub goes : (event : Event) → CanGoing c event → Can c event
  goes event can = record { going = ap not going; can = can }

  pub picked_goes : (NoneIs : Core → Type 0) (result : Option Named) → Picks c NoneIs result → IfSome result (λ event. Can c (event_of event))
  picked_goes NoneIs None none = tt
  picked_goes NoneIs (Some event) can = goes (event_of event) can

pub none_may : (c : Core) (result : Option Named) → NoneOther c → Picks c (λ d. CanTick d → ⊥) result → result ≡ None → (event : Event) → Can c event → ⊥
none_may c result none picks is event can = none_going c none (subst (Picks c (λ d. CanTick d → ⊥)) is picks) event can.can

-- ---- but a tick and what becomes of writes in flight

pub picked_other : (c : Core) (NoneIs : Core → Type 0) (result : Option Named) → PicksBeside c NoneIs result → IfSome result (λ event. CanOther c (event_of event))
picked_other c NoneIs None none = tt
picked_other c NoneIs (Some event) can = (besides c (event_of event) can).other

pub picked_kind : (c : Core) (NoneIs : Core → Type 0) (result : Option Named) → PicksBeside c NoneIs result → IfSome result (λ event. is_of_flight (event_of event) ≡ false)
picked_kind c NoneIs None none = tt
picked_kind c NoneIs (Some event) can = (besides c (event_of event) can).kind

pub none_but_flights : (c : Core) (result : Option Named) → PicksBeside c NoneBeside result → result ≡ None → (event : Event) → CanOther c event → is_of_flight event ≡ true
none_but_flights c result picks is event can = none_beside c (subst (PicksBeside c NoneBeside) is picks) event can
