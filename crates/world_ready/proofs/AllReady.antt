-- What is made ready for an event in a world that isn't over fits the world.
use Rattle.std.proofs.Common.{◌≡◌, true, false, not, Option, Some, None, IsTrue, sym, ap, subst, ◌∙◌}
use Rattle.std.proofs.lemmas.Bool.{false≢true}
use Rattle.core_definitions.specs.Cores.{Core}
use Rattle.core_definitions.specs.Events.{Event}
use Rattle.core_definitions.specs.Guards.{CanGoing}
use Rattle.hall_runs.specs.Asking.{Asks}
use Rattle.host_tree.specs.Reading.{HostReading}
use Rattle.world_state.specs.States.{State, core_at}
use Rattle.world_next.specs.Over.{core_over}
use Rattle.world_ready.specs.Fits.{MayMake}
use Rattle.world_ready.specs.Making.{IsMade, IsMadeOf, Makes, with_tree}
use Rattle.world_ready.specs.declared.kinds.Made.{Made}

-- over the same core as before
pub made_over : (c d : Core) (s : State) (tree : HostReading) (event : Event) (made : Option Made) → d ≡ c → IsMade d s tree event made → IsMade c s tree event made
made_over c d s tree event made same is = subst (λ (e : Core). IsMade e s tree event made) same is

-- and so whatever the host has read
pub made_of_over : (c d : Core) (s : State) (event : Event) → d ≡ c → (made : Option Made) → IsMadeOf d s event made → IsMadeOf c s event made
made_of_over c d s event same made is tree = made_over c d s tree event made same (is tree)

module _ (old new : State) (tree : HostReading) (event : Event) (same : core_at new ≡ core_at old) (going : old.over ≡ false) where
  goes : IsTrue (not new.over)
  goes = ap (λ (c : Core). not c.over) same ∙ ap not going

  pub makes : (made : Option Made) → IsMade (core_at old) new tree event made → Makes new tree event made
  makes None bars = λ can. bars (subst (λ (c : Core). CanGoing (with_tree c tree) event) same can.can)
  makes (Some made) is = record {
    event = is.event;
    fits = record {
      can = record { going = goes; can = subst (λ (e : Event). CanGoing (core_over new tree) e) (sym is.event) (subst (λ (c : Core). CanGoing (with_tree c tree) event) (sym same) is.can) };
      may = subst (λ (c : Core). MayMake c new tree made.ready) (sym same) is.may;
    };
    asks = subst (λ (c : Core). Asks (with_tree c tree) event made.call) (sym same) is.asks;
  }

-- nothing may happen where it is over
pub over_makes_nothing : (s : State) (tree : HostReading) (event : Event) → s.over ≡ true → Makes s tree event None
over_makes_nothing s tree event over can = false≢true (sym (ap not over) ∙ can.going)
