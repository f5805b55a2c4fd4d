-- An event that gets a sector.
use Rattle.std.proofs.Common.{rules, sym, ap, ◌∙◌, ◌+◌, subst, Ok, Err, Some}
use Rattle.hall_runs.specs.declared.event.Call.TheVariants as call
use Rattle.hall_runs.specs.Asking.{event_of}
use Rattle.frang_hall.specs.Machines.{AsksSo}
use Rattle.frang_hall.proofs.Turns.{kept_made, made_get_failed, made_got}
use Rattle.frang_hall.proofs.hall.Hall.do_get.Goals as goal

pub returns-in-Ok-clause-made : goal.returns-in-Ok-clause-made
returns-in-Ok-clause-made g c =
    rw (← c.self.view_is)
    (made_got (record { recorded = c.the_record_has_each_call.ensures.recorded; failed = c.each_call_is_answered.ensures.failed }) (g.M.Machine.stands c.self.inside.world) (g.M.Machine.stands c.step.new.self) g.N.Naming.outset c.self.inside.said (g.O.Outside.state c.self.inside.out) (g.O.Outside.state c.get.new.self) c.args.event.now c.args.party c.args.sector c.in-Ok.block c.is_over.result c.after_event-over.result (subst (λ h. AsksSo (g.M.Machine.stands h.world) c.args.event.now (call.Get c.args.party c.args.sector)) (sym c.self.view_is) c.requires.asks) c.step.ensures c.is_over.ensures c.in-Ok.ensures.sectors c.in-Ok.ensures.acts c.in-Ok.ensures.counts c.in-Ok.ensures.outcome c.after_event-over.ensures)

pub returns-in-Err-clause-made : goal.returns-in-Err-clause-made
returns-in-Err-clause-made g c =
    rw (← c.self.view_is)
    (made_get_failed (record { recorded = c.the_record_has_each_call.ensures.recorded; failed = c.each_call_is_answered.ensures.failed }) (g.M.Machine.stands c.self.inside.world) (g.M.Machine.stands c.step-in-Err.new.self) g.N.Naming.outset c.self.inside.said (g.O.Outside.state c.self.inside.out) (g.O.Outside.state c.get.new.self) c.args.event.now c.args.party c.args.sector c.in-Err.field-0 c.is_over-in-Err.result c.after_failed-over.result (subst (λ h. AsksSo (g.M.Machine.stands h.world) c.args.event.now (call.Get c.args.party c.args.sector)) (sym c.self.view_is) c.requires.asks) c.step-in-Err.ensures c.is_over-in-Err.ensures c.in-Err.ensures.sectors c.in-Err.ensures.acts c.in-Err.ensures.counts c.in-Err.ensures.outcome c.after_failed-over.ensures)

pub invariant_of-self : goal.invariant_of-self
invariant_of-self g c =
    kept_made (g.M.Machine.stands c.self.inside.world) (g.M.Machine.stands c.step.new.self) g.N.Naming.outset (event_of c.args.event.now) c.self.inside.over c.self.inside.said (g.O.Outside.state c.self.inside.out) c.after_event-over.result.0 c.self.inside.said (g.O.Outside.state c.get.new.self) (Ok c.after_event-over.result.1)
    (ap (λ h. h.over) c.self.view_is ∙ c.requires.over)
    (made_got (record { recorded = c.the_record_has_each_call.ensures.recorded; failed = c.each_call_is_answered.ensures.failed }) (g.M.Machine.stands c.self.inside.world) (g.M.Machine.stands c.step.new.self) g.N.Naming.outset c.self.inside.said (g.O.Outside.state c.self.inside.out) (g.O.Outside.state c.get.new.self) c.args.event.now c.args.party c.args.sector c.in-Ok.block c.is_over.result c.after_event-over.result (subst (λ h. AsksSo (g.M.Machine.stands h.world) c.args.event.now (call.Get c.args.party c.args.sector)) (sym c.self.view_is) c.requires.asks) c.step.ensures c.is_over.ensures c.in-Ok.ensures.sectors c.in-Ok.ensures.acts c.in-Ok.ensures.counts c.in-Ok.ensures.outcome c.after_event-over.ensures)
    c.self.invariant

pub invariant_of-self-in-Err : goal.invariant_of-self-in-Err
invariant_of-self-in-Err g c =
    kept_made (g.M.Machine.stands c.self.inside.world) (g.M.Machine.stands c.step-in-Err.new.self) g.N.Naming.outset (event_of c.args.event.now) c.self.inside.over c.self.inside.said (g.O.Outside.state c.self.inside.out) c.after_failed-over.result.0 c.self.inside.said (g.O.Outside.state c.get.new.self) (Ok c.after_failed-over.result.1)
    (ap (λ h. h.over) c.self.view_is ∙ c.requires.over)
    (made_get_failed (record { recorded = c.the_record_has_each_call.ensures.recorded; failed = c.each_call_is_answered.ensures.failed }) (g.M.Machine.stands c.self.inside.world) (g.M.Machine.stands c.step-in-Err.new.self) g.N.Naming.outset c.self.inside.said (g.O.Outside.state c.self.inside.out) (g.O.Outside.state c.get.new.self) c.args.event.now c.args.party c.args.sector c.in-Err.field-0 c.is_over-in-Err.result c.after_failed-over.result (subst (λ h. AsksSo (g.M.Machine.stands h.world) c.args.event.now (call.Get c.args.party c.args.sector)) (sym c.self.view_is) c.requires.asks) c.step-in-Err.ensures c.is_over-in-Err.ensures c.in-Err.ensures.sectors c.in-Err.ensures.acts c.in-Err.ensures.counts c.in-Err.ensures.outcome c.after_failed-over.ensures)
    c.self.invariant
