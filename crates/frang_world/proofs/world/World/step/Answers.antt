-- What is ready is the event's, and makes it.
use Rattle.std.proofs.Common.{IfSome, Option, sym, subst, ap, ◌∙◌}
use Rattle.core_definitions.specs.Effects.{after}
use Rattle.core_definitions.specs.Events.{Event}
use Rattle.hall_runs.specs.Asking.{event_of, heard_of}
use Rattle.world_next.specs.Over.{core_over}
use Rattle.world_ready.specs.Making.{Fits}
use Rattle.world_ready.specs.declared.kinds.Ready.{Ready}
use Rattle.frang_world.specs.States.{State, core_of}
use Rattle.frang_world.proofs.Fitting.{its_event, no_arrival, some_ready}
use Rattle.frang_world.proofs.Keeping.{nothing_fits}
use Rattle.frang_world.proofs.world.World.step.Goals as goal

pub make-requires-clause-fits : goal.make-requires-clause-fits
make-requires-clause-fits c =
    subst (λ (o : Option Ready). IfSome o (Fits c.self.inside.world c.self.inside.tree)) (sym c.in-Some.ensures.value) c.self.invariant.fits

pub make-requires-clause-other : goal.make-requires-clause-other
make-requires-clause-other c =
    no_arrival c.in-Some.ready c.args.event.now
    (its_event c.self.inside.world c.self.inside.tree c.self.inside.ready c.args.self.now (event_of c.args.event.now) c.self.view_is c.requires.ready c.in-Some.ready c.in-Some.ensures.value) c.requires.other

pub unreachable-requires : goal.unreachable-requires
unreachable-requires c = some_ready c.self.inside.world c.self.inside.tree c.self.inside.ready c.args.self.now (event_of c.args.event.now) c.self.view_is c.requires.ready c.in-None.ensures.value

pub invariant_of-self : goal.invariant_of-self
invariant_of-self c = record {
  disk = c.make.ensures.disk;
  said = c.make.ensures.said;
  fits = nothing_fits c.make.new.world c.make.new.tree c.take.new.self c.take.ensures.after;
}

pub returns-clause-core : goal.returns-clause-core
returns-clause-core c =
    let s = c.self.inside.world in
    let tree = c.self.inside.tree in
    c.make.ensures.core
    ∙ ap (λ (e : Event). after (core_over s tree) e (heard_of c.args.heard.now))
    (its_event s tree c.self.inside.ready c.args.self.now (event_of c.args.event.now) c.self.view_is c.requires.ready c.in-Some.ready c.in-Some.ensures.value)
    ∙ ap (λ (s : State). after (core_of s) (event_of c.args.event.now) (heard_of c.args.heard.now)) c.self.view_is
