-- What was made ready is kept, and the core is the same.
use Rattle.std.proofs.Common.{◌≡◌, refl, subst, ap, ◌∙◌}
use Rattle.hall_runs.specs.Asking.{event_of}
use Rattle.world_next.specs.Over.{core_over}
use Rattle.world_ready.specs.Making.{IsReadyFor, Makes}
use Rattle.frang_world.specs.States.{core_of}
use Rattle.frang_world.proofs.Fitting.{made_asks, made_can, none_can}
use Rattle.frang_world.proofs.Keeping.{core_same, kept_same, nothing_fits, this_fits}
use Rattle.frang_world.proofs.world.World.ready.Goals as goal

pub invariant_of-self : goal.invariant_of-self
invariant_of-self c =
    kept_same c.self.inside.world c.ready.new.world c.self.inside.tree c.ready.new.tree c.ready.ensures.core c.ready.ensures.reading c.self.invariant c.put_ready.new.ready
    (nothing_fits c.ready.new.world c.ready.new.tree c.put_ready.new.ready c.put_ready.ensures)

pub invariant_of-self-in-Some : goal.invariant_of-self-in-Some
invariant_of-self-in-Some c =
    let made : IsReadyFor c.ready.new.world c.ready.new.tree (event_of c.args.event.now) c.in-Some.made = subst (Makes c.ready.new.world c.ready.new.tree (event_of c.args.event.now)) c.in-Some.is c.in_ok-made.ensures.made in
    kept_same c.self.inside.world c.ready.new.world c.self.inside.tree c.ready.new.tree c.ready.ensures.core c.ready.ensures.reading c.self.invariant c.put_ready-in-Some.new.ready
    (this_fits c.ready.new.world c.ready.new.tree c.in-Some.made.ready c.put_ready-in-Some.new.ready c.put_ready-in-Some.ensures made.fits)

pub invariant_of-self-in-None : goal.invariant_of-self-in-None
invariant_of-self-in-None c =
    kept_same c.self.inside.world c.ready.new.world c.self.inside.tree c.ready.new.tree c.ready.ensures.core c.ready.ensures.reading c.self.invariant c.put_ready.new.ready
    (nothing_fits c.ready.new.world c.ready.new.tree c.put_ready.new.ready c.put_ready.ensures)

pub returns-in-Some-clause-can : goal.returns-in-Some-clause-can
returns-in-Some-clause-can c =
    let same : core_over c.ready.new.world c.ready.new.tree ≡ core_of c.args.self.now =
    core_same c.self.inside.world c.ready.new.world c.self.inside.tree c.ready.new.tree c.ready.ensures.core c.ready.ensures.reading ∙ ap core_of c.self.view_is in
    made_can c.ready.new.world c.ready.new.tree (core_of c.args.self.now) same (event_of c.args.event.now) c.in-Some.made
    (subst (Makes c.ready.new.world c.ready.new.tree (event_of c.args.event.now)) c.in-Some.is c.in_ok-made.ensures.made)

pub returns-in-Some-clause-asks : goal.returns-in-Some-clause-asks
returns-in-Some-clause-asks c =
    let same : core_over c.ready.new.world c.ready.new.tree ≡ core_of c.args.self.now =
    core_same c.self.inside.world c.ready.new.world c.self.inside.tree c.ready.new.tree c.ready.ensures.core c.ready.ensures.reading ∙ ap core_of c.self.view_is in
    made_asks c.ready.new.world c.ready.new.tree (core_of c.args.self.now) same (event_of c.args.event.now) c.in-Some.made
    (subst (Makes c.ready.new.world c.ready.new.tree (event_of c.args.event.now)) c.in-Some.is c.in_ok-made.ensures.made)

pub returns-in-None-clause-refuses : goal.returns-in-None-clause-refuses
returns-in-None-clause-refuses c =
    let same : core_over c.ready.new.world c.ready.new.tree ≡ core_of c.args.self.now =
    core_same c.self.inside.world c.ready.new.world c.self.inside.tree c.ready.new.tree c.ready.ensures.core c.ready.ensures.reading ∙ ap core_of c.self.view_is in (
      refl,
      none_can c.ready.new.world c.ready.new.tree (core_of c.args.self.now) same (event_of c.args.event.now)
          (subst (Makes c.ready.new.world c.ready.new.tree (event_of c.args.event.now)) c.in-None.is c.in_ok-made.ensures.made),
    )
