-- A line that is said.
use Rattle.std.proofs.Common.{rules, sym, ap, ◌∙◌, ◌+◌, subst, Ok, Err, Some}
use Rattle.hall_runs.specs.declared.event.Call.TheVariants as call
use Rattle.hall_runs.specs.Asking.{event_of}
use Rattle.frang_hall.specs.Machines.{AsksSo}
use Rattle.hall_runs.specs.declared.event.End.TheVariants.{Mute}
use Rattle.hall_runs.specs.declared.event.Turn.TheVariants as turn
use Rattle.frang_outside.specs.Outside.{SayOutcome}
use Rattle.frang_hall.proofs.Turns.{kept_made, made_mute, made_said, made_say_wanting, made_wanting}
use Rattle.frang_hall.proofs.hall.Hall.do_say.Goals as goal

pub returns-then-self-clause-made : goal.returns-then-self-clause-made
returns-then-self-clause-made g c =
    rw (← c.self.view_is)
    (made_wanting (g.M.Machine.stands c.self.inside.world) (g.M.Machine.stands c.self.inside.world) g.N.Naming.outset (event_of c.args.event.now) c.self.inside.over c.self.inside.said (g.O.Outside.state c.self.inside.out) (record {}) (ap (λ h. h.over) c.self.view_is ∙ c.requires.over) (λ r stands. stands))

pub returns-in-Ok-clause-made : goal.returns-in-Ok-clause-made
returns-in-Ok-clause-made g c =
    rw (← c.self.view_is)
    (made_said (record { recorded = c.the_record_has_each_call.ensures.recorded; failed = c.each_call_is_answered.ensures.failed }) (g.M.Machine.stands c.self.inside.world) (g.M.Machine.stands c.step.new.self) g.N.Naming.outset c.self.inside.said (g.O.Outside.state c.self.inside.out) (g.O.Outside.state c.say.new.self) c.args.event.now c.as_slice.result.now c.is_over.result c.after_event-over.result (subst (λ text. AsksSo (g.M.Machine.stands c.self.inside.world) c.args.event.now (call.Say text)) (sym c.as_slice.ensures) (subst (λ h. AsksSo (g.M.Machine.stands h.world) c.args.event.now (call.Say c.args.text.now)) (sym c.self.view_is) c.requires.asks)) c.step.ensures c.is_over.ensures c.in-Ok.ensures.sectors c.in-Ok.ensures.counts c.in-Ok.ensures.outcome c.after_event-over.ensures)

pub returns-in-Err-Failed-clause-made : goal.returns-in-Err-Failed-clause-made
returns-in-Err-Failed-clause-made g c =
    rw (← c.self.view_is)
    (made_mute (g.M.Machine.stands c.self.inside.world) g.N.Naming.outset (event_of c.args.event.now) c.self.inside.said (g.O.Outside.state c.self.inside.out) (g.O.Outside.state c.say.new.self) c.as_slice.result.now c.in-Err-Failed.ensures.sectors c.in-Err-Failed.ensures.counts (subst (λ fault. SayOutcome (g.O.Outside.state c.self.inside.out) (g.O.Outside.state c.say.new.self) c.as_slice.result.now (Err fault)) c.in-Err-Failed.field-0-is c.in-Err-Failed.ensures.outcome))

pub returns-in-Err-NoMemory-clause-made : goal.returns-in-Err-NoMemory-clause-made
returns-in-Err-NoMemory-clause-made g c =
    rw (← c.self.view_is)
    (made_say_wanting (g.M.Machine.stands c.self.inside.world) g.N.Naming.outset (event_of c.args.event.now) c.self.inside.over c.self.inside.said (g.O.Outside.state c.self.inside.out) (g.O.Outside.state c.say.new.self) c.as_slice.result.now (record {}) (ap (λ h. h.over) c.self.view_is ∙ c.requires.over) c.in-Err-NoMemory.ensures.sectors c.in-Err-NoMemory.ensures.counts (subst (λ fault. SayOutcome (g.O.Outside.state c.self.inside.out) (g.O.Outside.state c.say.new.self) c.as_slice.result.now (Err fault)) c.in-Err-NoMemory.field-0-is c.in-Err-NoMemory.ensures.outcome))

pub invariant_of-self : goal.invariant_of-self
invariant_of-self g c =
    kept_made (g.M.Machine.stands c.self.inside.world) (g.M.Machine.stands c.step.new.self) g.N.Naming.outset (event_of c.args.event.now) c.self.inside.over c.self.inside.said (g.O.Outside.state c.self.inside.out) c.after_event-over.result.0 (c.self.inside.said + 1) (g.O.Outside.state c.say.new.self) (Ok c.after_event-over.result.1)
    (ap (λ h. h.over) c.self.view_is ∙ c.requires.over)
    (made_said (record { recorded = c.the_record_has_each_call.ensures.recorded; failed = c.each_call_is_answered.ensures.failed }) (g.M.Machine.stands c.self.inside.world) (g.M.Machine.stands c.step.new.self) g.N.Naming.outset c.self.inside.said (g.O.Outside.state c.self.inside.out) (g.O.Outside.state c.say.new.self) c.args.event.now c.as_slice.result.now c.is_over.result c.after_event-over.result (subst (λ text. AsksSo (g.M.Machine.stands c.self.inside.world) c.args.event.now (call.Say text)) (sym c.as_slice.ensures) (subst (λ h. AsksSo (g.M.Machine.stands h.world) c.args.event.now (call.Say c.args.text.now)) (sym c.self.view_is) c.requires.asks)) c.step.ensures c.is_over.ensures c.in-Ok.ensures.sectors c.in-Ok.ensures.counts c.in-Ok.ensures.outcome c.after_event-over.ensures)
    c.self.invariant

pub invariant_of-self-in-Err-Failed : goal.invariant_of-self-in-Err-Failed
invariant_of-self-in-Err-Failed g c =
    kept_made (g.M.Machine.stands c.self.inside.world) (g.M.Machine.stands c.self.inside.world) g.N.Naming.outset (event_of c.args.event.now) c.self.inside.over c.self.inside.said (g.O.Outside.state c.self.inside.out) (Some Mute) c.self.inside.said (g.O.Outside.state c.say.new.self) (Ok turn.Mute)
    (ap (λ h. h.over) c.self.view_is ∙ c.requires.over)
    (made_mute (g.M.Machine.stands c.self.inside.world) g.N.Naming.outset (event_of c.args.event.now) c.self.inside.said (g.O.Outside.state c.self.inside.out) (g.O.Outside.state c.say.new.self) c.as_slice.result.now c.in-Err-Failed.ensures.sectors c.in-Err-Failed.ensures.counts (subst (λ fault. SayOutcome (g.O.Outside.state c.self.inside.out) (g.O.Outside.state c.say.new.self) c.as_slice.result.now (Err fault)) c.in-Err-Failed.field-0-is c.in-Err-Failed.ensures.outcome))
    c.self.invariant

pub invariant_of-self-in-Err-NoMemory : goal.invariant_of-self-in-Err-NoMemory
invariant_of-self-in-Err-NoMemory g c =
    kept_made (g.M.Machine.stands c.self.inside.world) (g.M.Machine.stands c.self.inside.world) g.N.Naming.outset (event_of c.args.event.now) c.self.inside.over c.self.inside.said (g.O.Outside.state c.self.inside.out) c.self.inside.over c.self.inside.said (g.O.Outside.state c.say.new.self) (Err (record {}))
    (ap (λ h. h.over) c.self.view_is ∙ c.requires.over)
    (made_say_wanting (g.M.Machine.stands c.self.inside.world) g.N.Naming.outset (event_of c.args.event.now) c.self.inside.over c.self.inside.said (g.O.Outside.state c.self.inside.out) (g.O.Outside.state c.say.new.self) c.as_slice.result.now (record {}) (ap (λ h. h.over) c.self.view_is ∙ c.requires.over) c.in-Err-NoMemory.ensures.sectors c.in-Err-NoMemory.ensures.counts (subst (λ fault. SayOutcome (g.O.Outside.state c.self.inside.out) (g.O.Outside.state c.say.new.self) c.as_slice.result.now (Err fault)) c.in-Err-NoMemory.field-0-is c.in-Err-NoMemory.ensures.outcome))
    c.self.invariant
