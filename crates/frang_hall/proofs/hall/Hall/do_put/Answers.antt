-- The arrival of a write.
use Rattle.std.proofs.Common.{rules, sym, ap, ◌∙◌, ◌+◌, subst, Ok, Err, Some}
use Rattle.hall_runs.specs.declared.event.Call.TheVariants as call
use Rattle.hall_runs.specs.Asking.{event_of}
use Rattle.frang_hall.specs.Machines.{AsksSo}
use Rattle.frang_hall.proofs.Turns.{kept_made, made_put, made_put_failed, made_put_late, made_put_wanting}
use Rattle.frang_hall.proofs.hall.Hall.do_put.Goals as goal

pub returns-in-Failed-clause-made : goal.returns-in-Failed-clause-made
returns-in-Failed-clause-made g c =
    rw (← c.self.view_is)
    (made_put_failed (record { recorded = c.the_record_has_each_call.ensures.recorded; failed = c.each_call_is_answered.ensures.failed }) (g.M.Machine.stands c.self.inside.world) (g.M.Machine.stands c.arrive.new.self) g.N.Naming.outset c.self.inside.said (g.O.Outside.state c.self.inside.out) (g.O.Outside.state c.arrive.new.out) c.args.event.now c.args.ticket c.args.party c.args.sector c.is_over.result c.after_failed-over.result (subst (λ h. AsksSo (g.M.Machine.stands h.world) c.args.event.now (call.Put c.args.ticket c.args.party c.args.sector)) (sym c.self.view_is) c.requires.asks) c.in-Failed.ensures.counts c.in-Failed.ensures.arrives c.is_over.ensures c.after_failed-over.ensures)

pub returns-in-Written-clause-made : goal.returns-in-Written-clause-made
returns-in-Written-clause-made g c =
    rw (← c.self.view_is)
    (made_put (record { recorded = c.the_record_has_each_call.ensures.recorded; failed = c.each_call_is_answered.ensures.failed }) (g.M.Machine.stands c.self.inside.world) (g.M.Machine.stands c.arrive.new.self) g.N.Naming.outset c.self.inside.said (g.O.Outside.state c.self.inside.out) (g.O.Outside.state c.arrive.new.out) c.args.event.now c.args.ticket c.args.party c.args.sector c.is_over-in-Written.result c.after_event-over.result (subst (λ h. AsksSo (g.M.Machine.stands h.world) c.args.event.now (call.Put c.args.ticket c.args.party c.args.sector)) (sym c.self.view_is) c.requires.asks) c.in-Written.ensures.counts c.in-Written.ensures.arrives c.is_over-in-Written.ensures c.after_event-over.ensures)

pub returns-in-Late-clause-made : goal.returns-in-Late-clause-made
returns-in-Late-clause-made g c =
    rw (← c.self.view_is)
    (made_put_late (record { recorded = c.the_record_has_each_call.ensures.recorded; failed = c.each_call_is_answered.ensures.failed }) (g.M.Machine.stands c.self.inside.world) (g.M.Machine.stands c.arrive.new.self) g.N.Naming.outset c.self.inside.said (g.O.Outside.state c.self.inside.out) (g.O.Outside.state c.arrive.new.out) c.args.event.now c.args.ticket c.args.party c.args.sector c.in-Late.stamp c.in-Late.now c.is_over-in-Late.result c.after_event-over-in-Late.result (subst (λ h. AsksSo (g.M.Machine.stands h.world) c.args.event.now (call.Put c.args.ticket c.args.party c.args.sector)) (sym c.self.view_is) c.requires.asks) c.in-Late.ensures.counts c.in-Late.ensures.arrives c.is_over-in-Late.ensures c.after_event-over-in-Late.ensures)

pub returns-in-NoMemory-clause-made : goal.returns-in-NoMemory-clause-made
returns-in-NoMemory-clause-made g c =
    rw (← c.self.view_is)
    (made_put_wanting (g.M.Machine.stands c.self.inside.world) (g.M.Machine.stands c.arrive.new.self) g.N.Naming.outset c.self.inside.over c.self.inside.said (g.O.Outside.state c.self.inside.out) (g.O.Outside.state c.arrive.new.out) c.args.event.now c.args.ticket c.args.party c.args.sector (record {}) (ap (λ h. h.over) c.self.view_is ∙ c.requires.over) (subst (λ h. AsksSo (g.M.Machine.stands h.world) c.args.event.now (call.Put c.args.ticket c.args.party c.args.sector)) (sym c.self.view_is) c.requires.asks) c.in-NoMemory.ensures.counts c.in-NoMemory.ensures.arrives)

pub invariant_of-self-in-Failed : goal.invariant_of-self-in-Failed
invariant_of-self-in-Failed g c =
    kept_made (g.M.Machine.stands c.self.inside.world) (g.M.Machine.stands c.arrive.new.self) g.N.Naming.outset (event_of c.args.event.now) c.self.inside.over c.self.inside.said (g.O.Outside.state c.self.inside.out) c.after_failed-over.result.0 c.self.inside.said (g.O.Outside.state c.arrive.new.out) (Ok c.after_failed-over.result.1)
    (ap (λ h. h.over) c.self.view_is ∙ c.requires.over)
    (made_put_failed (record { recorded = c.the_record_has_each_call.ensures.recorded; failed = c.each_call_is_answered.ensures.failed }) (g.M.Machine.stands c.self.inside.world) (g.M.Machine.stands c.arrive.new.self) g.N.Naming.outset c.self.inside.said (g.O.Outside.state c.self.inside.out) (g.O.Outside.state c.arrive.new.out) c.args.event.now c.args.ticket c.args.party c.args.sector c.is_over.result c.after_failed-over.result (subst (λ h. AsksSo (g.M.Machine.stands h.world) c.args.event.now (call.Put c.args.ticket c.args.party c.args.sector)) (sym c.self.view_is) c.requires.asks) c.in-Failed.ensures.counts c.in-Failed.ensures.arrives c.is_over.ensures c.after_failed-over.ensures)
    c.self.invariant

pub invariant_of-self-in-Written : goal.invariant_of-self-in-Written
invariant_of-self-in-Written g c =
    kept_made (g.M.Machine.stands c.self.inside.world) (g.M.Machine.stands c.arrive.new.self) g.N.Naming.outset (event_of c.args.event.now) c.self.inside.over c.self.inside.said (g.O.Outside.state c.self.inside.out) c.after_event-over.result.0 c.self.inside.said (g.O.Outside.state c.arrive.new.out) (Ok c.after_event-over.result.1)
    (ap (λ h. h.over) c.self.view_is ∙ c.requires.over)
    (made_put (record { recorded = c.the_record_has_each_call.ensures.recorded; failed = c.each_call_is_answered.ensures.failed }) (g.M.Machine.stands c.self.inside.world) (g.M.Machine.stands c.arrive.new.self) g.N.Naming.outset c.self.inside.said (g.O.Outside.state c.self.inside.out) (g.O.Outside.state c.arrive.new.out) c.args.event.now c.args.ticket c.args.party c.args.sector c.is_over-in-Written.result c.after_event-over.result (subst (λ h. AsksSo (g.M.Machine.stands h.world) c.args.event.now (call.Put c.args.ticket c.args.party c.args.sector)) (sym c.self.view_is) c.requires.asks) c.in-Written.ensures.counts c.in-Written.ensures.arrives c.is_over-in-Written.ensures c.after_event-over.ensures)
    c.self.invariant

pub invariant_of-self-in-Late : goal.invariant_of-self-in-Late
invariant_of-self-in-Late g c =
    kept_made (g.M.Machine.stands c.self.inside.world) (g.M.Machine.stands c.arrive.new.self) g.N.Naming.outset (event_of c.args.event.now) c.self.inside.over c.self.inside.said (g.O.Outside.state c.self.inside.out) c.after_event-over-in-Late.result.0 c.self.inside.said (g.O.Outside.state c.arrive.new.out) (Ok c.after_event-over-in-Late.result.1)
    (ap (λ h. h.over) c.self.view_is ∙ c.requires.over)
    (made_put_late (record { recorded = c.the_record_has_each_call.ensures.recorded; failed = c.each_call_is_answered.ensures.failed }) (g.M.Machine.stands c.self.inside.world) (g.M.Machine.stands c.arrive.new.self) g.N.Naming.outset c.self.inside.said (g.O.Outside.state c.self.inside.out) (g.O.Outside.state c.arrive.new.out) c.args.event.now c.args.ticket c.args.party c.args.sector c.in-Late.stamp c.in-Late.now c.is_over-in-Late.result c.after_event-over-in-Late.result (subst (λ h. AsksSo (g.M.Machine.stands h.world) c.args.event.now (call.Put c.args.ticket c.args.party c.args.sector)) (sym c.self.view_is) c.requires.asks) c.in-Late.ensures.counts c.in-Late.ensures.arrives c.is_over-in-Late.ensures c.after_event-over-in-Late.ensures)
    c.self.invariant

pub invariant_of-self : goal.invariant_of-self
invariant_of-self g c =
    kept_made (g.M.Machine.stands c.self.inside.world) (g.M.Machine.stands c.arrive.new.self) g.N.Naming.outset (event_of c.args.event.now) c.self.inside.over c.self.inside.said (g.O.Outside.state c.self.inside.out) c.self.inside.over c.self.inside.said (g.O.Outside.state c.arrive.new.out) (Err (record {}))
    (ap (λ h. h.over) c.self.view_is ∙ c.requires.over)
    (made_put_wanting (g.M.Machine.stands c.self.inside.world) (g.M.Machine.stands c.arrive.new.self) g.N.Naming.outset c.self.inside.over c.self.inside.said (g.O.Outside.state c.self.inside.out) (g.O.Outside.state c.arrive.new.out) c.args.event.now c.args.ticket c.args.party c.args.sector (record {}) (ap (λ h. h.over) c.self.view_is ∙ c.requires.over) (subst (λ h. AsksSo (g.M.Machine.stands h.world) c.args.event.now (call.Put c.args.ticket c.args.party c.args.sector)) (sym c.self.view_is) c.requires.asks) c.in-NoMemory.ensures.counts c.in-NoMemory.ensures.arrives)
    c.self.invariant
