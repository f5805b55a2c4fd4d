-- Its event says that the line is answered.
use Rattle.std.proofs.Common.{rules, arith, ◌≡◌, ◌∙◌, ap, refl, subst, sym}
use Rattle.std.proofs.lemmas.Grind.{common_steps}
use Rattle.core_definitions.specs.Events.{HostLine}
use Rattle.hall_runs.specs.Asking.{event_of}
use Rattle.hall_tests.specs.Halting.{MayBeAsked}
use Rattle.hall_tests.proofs.OneLine.{asks}
use Rattle.hall_tests.proofs.halting.HaltingMachine.ready.Goals as goal

pub returns-in_ok-of-in-HostLine-eq1-clause-ready :
    goal.returns-in_ok-of-in-HostLine-eq1-clause-ready
returns-in_ok-of-in-HostLine-eq1-clause-ready c =
    let one : c.in-HostLine-eq1.field-0 ≡ 1 = first_of (search rules, grind (arith, common_steps), cc) in
    let event : event_of c.args.event.now ≡ HostLine 1 = ap event_of c.in-HostLine-eq1.is ∙ ap HostLine one in
    ((λ r is. asks r.core c.args.self.now.over (event_of c.args.event.now) c.in_ok-of-in-HostLine-eq1.field-0 is c.if-self.false event (search rules)), (subst MayBeAsked (sym event) refl, c.if-self.false))
