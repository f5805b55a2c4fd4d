-- A line that has passed the gate, or nothing.
use Rattle.std.proofs.Common.{ℕ, rules, subst, sym}
use Rattle.core_definitions.specs.Runs.{State as RunMoment}
use Rattle.hall_runs.specs.Gates.{IsToEnter}
use Rattle.frang_hall.proofs.Turns.{entered_none, entered_one, kept_entered}
use Rattle.frang_hall.proofs.hall.Hall.entered.Goals as goal

pub returns-in-Some-clause-entered : goal.returns-in-Some-clause-entered
returns-in-Some-clause-entered g c =
    rw (← c.self.view_is)
    (entered_one (g.M.Machine.stands c.self.inside.world) (g.M.Machine.stands c.enter.new.self) g.N.Naming.outset c.self.inside.given c.args.line c.self.inside.over c.self.inside.said (g.O.Outside.state c.self.inside.out) c.in-Some.server (subst (λ h. (r : RunMoment) → g.M.Machine.stands h.world r → IsToEnter r.core h.given c.args.line c.in-Some.server) (sym c.self.view_is) c.in-Some.ensures.some) c.enter.ensures)

pub returns-in_default-clause-entered : goal.returns-in_default-clause-entered
returns-in_default-clause-entered g c =
    rw (← c.self.view_is)
    (entered_none (g.M.Machine.stands c.self.inside.world) g.N.Naming.outset c.self.inside.given c.args.line c.self.inside.over c.self.inside.said (g.O.Outside.state c.self.inside.out) (subst (λ h. (r : RunMoment) → g.M.Machine.stands h.world r → (a : ℕ) → IsToEnter r.core h.given c.args.line a → ⊥) (sym c.self.view_is) (c.server_of.ensures.none (search rules))))

pub invariant_of-self : goal.invariant_of-self
invariant_of-self g c =
    kept_entered (g.M.Machine.stands c.self.inside.world) (g.M.Machine.stands c.enter.new.self) g.N.Naming.outset c.self.inside.given c.args.line c.self.inside.over c.self.inside.said (g.O.Outside.state c.self.inside.out)
    (entered_one (g.M.Machine.stands c.self.inside.world) (g.M.Machine.stands c.enter.new.self) g.N.Naming.outset c.self.inside.given c.args.line c.self.inside.over c.self.inside.said (g.O.Outside.state c.self.inside.out) c.in-Some.server (subst (λ h. (r : RunMoment) → g.M.Machine.stands h.world r → IsToEnter r.core h.given c.args.line c.in-Some.server) (sym c.self.view_is) c.in-Some.ensures.some) c.enter.ensures)
    c.self.invariant
