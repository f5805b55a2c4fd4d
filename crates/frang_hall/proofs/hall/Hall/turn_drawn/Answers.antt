-- A turn, by its answers.
use Rattle.std.specs.Prelude.{IfSome}
use Rattle.std.proofs.Common.{◌≡◌, ◌∙◌, Ok, Some, rules, subst, sym}
use Rattle.core_definitions.specs.Guards.{Can}
use Rattle.core_definitions.specs.Runs.{State as RunMoment}
use Rattle.hall_runs.specs.Asking.{event_of}
use Rattle.hall_runs.specs.Gates.{IsToGive, NoLineToGive}
use Rattle.frang_hall.specs.Machines.{Drawn, IsDrawn, Listed}
use Rattle.frang_hall.proofs.Turns.{given_made, kept_same, turned_gate, turned_idle, turned_made, turned_over, turned_wanting}
use Rattle.frang_hall.proofs.hall.Hall.turn_drawn.Goals as goal

pub invariant_of-self-in-Err : goal.invariant_of-self-in-Err
invariant_of-self-in-Err g c = kept_same (g.M.Machine.stands c.self.inside.world) (g.M.Machine.stands c.pick_drawn.new.self) g.N.Naming.outset c.self.inside.over c.self.inside.said (g.O.Outside.state c.self.inside.out) c.in-Err.ensures.same c.self.invariant

pub invariant_of-self-in-Ok-None : goal.invariant_of-self-in-Ok-None
invariant_of-self-in-Ok-None g c = kept_same (g.M.Machine.stands c.self.inside.world) (g.M.Machine.stands c.pick_drawn.new.self) g.N.Naming.outset c.self.inside.over c.self.inside.said (g.O.Outside.state c.self.inside.out) c.in-Ok-None.ensures.same c.self.invariant

pub invariant_of-self-in-Ok-Some : goal.invariant_of-self-in-Ok-Some
invariant_of-self-in-Ok-Some g c = kept_same (g.M.Machine.stands c.self.inside.world) (g.M.Machine.stands c.pick_drawn.new.self) g.N.Naming.outset c.self.inside.over c.self.inside.said (g.O.Outside.state c.self.inside.out) c.in-Ok-Some.ensures.same c.self.invariant

pub returns-in-Some-clause-turned : goal.returns-in-Some-clause-turned
returns-in-Some-clause-turned g c =
    rw (← c.self.view_is)
    (turned_over (IsDrawn c.args.draw) (g.M.Machine.stands c.self.inside.world) g.N.Naming.outset c.self.inside.given 0 c.self.inside.over c.in-Some.end c.self.inside.said (g.O.Outside.state c.self.inside.out) c.turn_of.result c.in-Some.is c.turn_of.ensures)

pub returns-in-Some-to_give-clause-turned : goal.returns-in-Some-to_give-clause-turned
returns-in-Some-to_give-clause-turned g c =
    rw (← c.self.view_is)
    (turned_gate (IsDrawn c.args.draw) (g.M.Machine.stands c.self.inside.world) g.N.Naming.outset c.self.inside.given 0 c.self.inside.over c.self.inside.said (g.O.Outside.state c.self.inside.out) c.in-Some-to_give.server c.in-Some-to_give.line (search rules)
    (subst (λ h. (r : RunMoment) → g.M.Machine.stands h.world r → IsToGive r.core h.given 0 c.in-Some-to_give.server c.in-Some-to_give.line) (sym c.self.view_is) c.in-Some-to_give.ensures.some))

pub returns-in-Err-clause-turned : goal.returns-in-Err-clause-turned
returns-in-Err-clause-turned g c =
    rw (← c.self.view_is)
    (turned_wanting (IsDrawn c.args.draw) (g.M.Machine.stands c.self.inside.world) (g.M.Machine.stands c.pick_drawn.new.self) g.N.Naming.outset c.self.inside.given 0 c.self.inside.over c.self.inside.said (g.O.Outside.state c.self.inside.out) (record {}) (search rules) (subst (λ h. (r : RunMoment) → g.M.Machine.stands h.world r → NoLineToGive r.core h.given) (sym c.self.view_is) (c.to_give.ensures.none (search rules))) c.in-Err.ensures.same)

pub returns-in-Ok-None-clause-turned : goal.returns-in-Ok-None-clause-turned
returns-in-Ok-None-clause-turned g c =
    rw (← c.self.view_is)
    (turned_idle (IsDrawn c.args.draw) (g.M.Machine.stands c.self.inside.world) (g.M.Machine.stands c.pick_drawn.new.self) g.N.Naming.outset c.self.inside.given 0 c.self.inside.over c.self.inside.said (g.O.Outside.state c.self.inside.out) (search rules) (subst (λ h. (r : RunMoment) → g.M.Machine.stands h.world r → NoLineToGive r.core h.given) (sym c.self.view_is) (c.to_give.ensures.none (search rules))) c.in-Ok-None.ensures.same (c.in-Ok-None.ensures.none (search rules)))

pub returns-in-Ok-Some-clause-turned : goal.returns-in-Ok-Some-clause-turned
returns-in-Ok-Some-clause-turned g c =
    rw (← c.self.view_is)
    (turned_made (IsDrawn c.args.draw) (g.M.Machine.stands c.self.inside.world) (g.M.Machine.stands c.pick_drawn.new.self) (g.M.Machine.stands c.make.new.self.world) g.N.Naming.outset c.self.inside.given 0 (event_of c.in-Ok-Some.event) c.self.inside.over c.self.inside.said (g.O.Outside.state c.self.inside.out) c.make.new.self.over c.make.new.self.said (g.O.Outside.state c.make.new.self.out) c.make.result (search rules) (subst (λ h. (r : RunMoment) → g.M.Machine.stands h.world r → NoLineToGive r.core h.given) (sym c.self.view_is) (c.to_give.ensures.none (search rules))) c.in-Ok-Some.ensures.same (subst (λ o. IfSome o (Drawn (g.M.Machine.stands c.pick_drawn.new.self) c.args.draw)) c.in-Ok-Some.field-0-is c.in-Ok-Some.ensures.drawn) c.make.ensures.made)

pub returns-in-Ok-Some-clause-given : goal.returns-in-Ok-Some-clause-given
returns-in-Ok-Some-clause-given g c =
    rw (← c.self.view_is)
    (c.make.ensures.given
    ∙ sym (given_made (g.M.Machine.stands c.self.inside.world) (g.M.Machine.stands c.pick_drawn.new.self) (g.M.Machine.stands c.make.new.self.world) g.N.Naming.outset (event_of c.in-Ok-Some.event) c.self.inside.over c.self.inside.said (g.O.Outside.state c.self.inside.out) c.make.new.self.over c.make.new.self.said (g.O.Outside.state c.make.new.self.out) c.make.result c.self.inside.given (search rules) c.in-Ok-Some.ensures.same c.make.ensures.made c.self.invariant))
