-- An event, by what it asks.
use Rattle.std.proofs.Common.{rules, sym, ap, ◌∙◌}
use Rattle.hall_runs.specs.Asking.{event_of}
use Rattle.frang_hall.proofs.Turns.{kept_same, made_same, made_wanting}
use Rattle.frang_hall.proofs.hall.Hall.make.Goals as goal

pub invariant_of-self : goal.invariant_of-self
invariant_of-self g c = kept_same (g.M.Machine.stands c.self.inside.world) (g.M.Machine.stands c.ready.new.self) g.N.Naming.outset c.self.inside.over c.self.inside.said (g.O.Outside.state c.self.inside.out) c.in-Err.ensures.same c.self.invariant

pub invariant_of-self-in-Ok-Nothing : goal.invariant_of-self-in-Ok-Nothing
invariant_of-self-in-Ok-Nothing g c = kept_same (g.M.Machine.stands c.self.inside.world) (g.M.Machine.stands c.ready.new.self) g.N.Naming.outset c.self.inside.over c.self.inside.said (g.O.Outside.state c.self.inside.out) c.in-Ok-Nothing.ensures.same c.self.invariant

pub invariant_of-self-in-Ok-Get : goal.invariant_of-self-in-Ok-Get
invariant_of-self-in-Ok-Get g c = kept_same (g.M.Machine.stands c.self.inside.world) (g.M.Machine.stands c.ready.new.self) g.N.Naming.outset c.self.inside.over c.self.inside.said (g.O.Outside.state c.self.inside.out) c.in-Ok-Get.ensures.same c.self.invariant

pub invariant_of-self-in-Ok-Put : goal.invariant_of-self-in-Ok-Put
invariant_of-self-in-Ok-Put g c = kept_same (g.M.Machine.stands c.self.inside.world) (g.M.Machine.stands c.ready.new.self) g.N.Naming.outset c.self.inside.over c.self.inside.said (g.O.Outside.state c.self.inside.out) c.in-Ok-Put.ensures.same c.self.invariant

pub invariant_of-self-in-Ok-Say : goal.invariant_of-self-in-Ok-Say
invariant_of-self-in-Ok-Say g c = kept_same (g.M.Machine.stands c.self.inside.world) (g.M.Machine.stands c.ready.new.self) g.N.Naming.outset c.self.inside.over c.self.inside.said (g.O.Outside.state c.self.inside.out) c.in-Ok-Say.ensures.same c.self.invariant

pub returns-in-Err-clause-made : goal.returns-in-Err-clause-made
returns-in-Err-clause-made g c =
    rw (← c.self.view_is)
    (made_wanting (g.M.Machine.stands c.self.inside.world) (g.M.Machine.stands c.ready.new.self) g.N.Naming.outset (event_of c.args.event.now) c.self.inside.over c.self.inside.said (g.O.Outside.state c.self.inside.out) (record {}) (ap (λ h. h.over) c.self.view_is ∙ c.requires.over) c.in-Err.ensures.same)

pub returns-in-Ok-Nothing-clause-made : goal.returns-in-Ok-Nothing-clause-made
returns-in-Ok-Nothing-clause-made g c =
    rw (← c.self.view_is)
    (made_same (g.M.Machine.stands c.self.inside.world) (g.M.Machine.stands c.ready.new.self) (g.M.Machine.stands c.do_nothing.new.self.world) g.N.Naming.outset (event_of c.args.event.now) c.self.inside.said (g.O.Outside.state c.self.inside.out) c.do_nothing.new.self.over c.do_nothing.new.self.said (g.O.Outside.state c.do_nothing.new.self.out) c.do_nothing.result c.in-Ok-Nothing.ensures.same c.do_nothing.ensures.made)

pub returns-in-Ok-Get-clause-made : goal.returns-in-Ok-Get-clause-made
returns-in-Ok-Get-clause-made g c =
    rw (← c.self.view_is)
    (made_same (g.M.Machine.stands c.self.inside.world) (g.M.Machine.stands c.ready.new.self) (g.M.Machine.stands c.do_get.new.self.world) g.N.Naming.outset (event_of c.args.event.now) c.self.inside.said (g.O.Outside.state c.self.inside.out) c.do_get.new.self.over c.do_get.new.self.said (g.O.Outside.state c.do_get.new.self.out) c.do_get.result c.in-Ok-Get.ensures.same c.do_get.ensures.made)

pub returns-in-Ok-Put-clause-made : goal.returns-in-Ok-Put-clause-made
returns-in-Ok-Put-clause-made g c =
    rw (← c.self.view_is)
    (made_same (g.M.Machine.stands c.self.inside.world) (g.M.Machine.stands c.ready.new.self) (g.M.Machine.stands c.do_put.new.self.world) g.N.Naming.outset (event_of c.args.event.now) c.self.inside.said (g.O.Outside.state c.self.inside.out) c.do_put.new.self.over c.do_put.new.self.said (g.O.Outside.state c.do_put.new.self.out) c.do_put.result c.in-Ok-Put.ensures.same c.do_put.ensures.made)

pub returns-in-Ok-Say-clause-made : goal.returns-in-Ok-Say-clause-made
returns-in-Ok-Say-clause-made g c =
    rw (← c.self.view_is)
    (made_same (g.M.Machine.stands c.self.inside.world) (g.M.Machine.stands c.ready.new.self) (g.M.Machine.stands c.do_say.new.self.world) g.N.Naming.outset (event_of c.args.event.now) c.self.inside.said (g.O.Outside.state c.self.inside.out) c.do_say.new.self.over c.do_say.new.self.said (g.O.Outside.state c.do_say.new.self.out) c.do_say.result c.in-Ok-Say.ensures.same c.do_say.ensures.made)
