-- An event that asks nothing.
use Rattle.std.proofs.Common.{rules, sym, ap, ◌∙◌, ◌+◌, subst, Ok, Err, Some}
use Rattle.hall_runs.specs.declared.event.Call.TheVariants as call
use Rattle.hall_runs.specs.Asking.{event_of}
use Rattle.frang_hall.specs.Machines.{AsksSo}
use Rattle.frang_hall.proofs.Turns.{kept_made, made_quiet}
use Rattle.frang_hall.proofs.hall.Hall.do_nothing.Goals as goal

pub returns-clause-made : goal.returns-clause-made
returns-clause-made g c =
    rw (← c.self.view_is)
    (made_quiet (record { recorded = c.the_record_has_each_call.ensures.recorded; failed = c.each_call_is_answered.ensures.failed }) (g.M.Machine.stands c.self.inside.world) (g.M.Machine.stands c.step.new.self) g.N.Naming.outset c.self.inside.said (g.O.Outside.state c.self.inside.out) c.args.event.now c.is_over.result c.after_event-over.result (subst (λ h. AsksSo (g.M.Machine.stands h.world) c.args.event.now call.Nothing) (sym c.self.view_is) c.requires.asks) c.step.ensures c.is_over.ensures c.after_event-over.ensures)

pub invariant_of-self : goal.invariant_of-self
invariant_of-self g c =
    kept_made (g.M.Machine.stands c.self.inside.world) (g.M.Machine.stands c.step.new.self) g.N.Naming.outset (event_of c.args.event.now) c.self.inside.over c.self.inside.said (g.O.Outside.state c.self.inside.out) c.after_event-over.result.0 c.self.inside.said (g.O.Outside.state c.self.inside.out) (Ok c.after_event-over.result.1)
    (ap (λ h. h.over) c.self.view_is ∙ c.requires.over)
    (made_quiet (record { recorded = c.the_record_has_each_call.ensures.recorded; failed = c.each_call_is_answered.ensures.failed }) (g.M.Machine.stands c.self.inside.world) (g.M.Machine.stands c.step.new.self) g.N.Naming.outset c.self.inside.said (g.O.Outside.state c.self.inside.out) c.args.event.now c.is_over.result c.after_event-over.result (subst (λ h. AsksSo (g.M.Machine.stands h.world) c.args.event.now call.Nothing) (sym c.self.view_is) c.requires.asks) c.step.ensures c.is_over.ensures c.after_event-over.ensures)
    c.self.invariant
