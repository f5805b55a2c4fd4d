-- Where none is found, none may happen.
use Rattle.std.proofs.Common.{◌≡◌, None, sym, subst}
use Rattle.core_definitions.specs.Guards.{Can}
use Rattle.frang_world.specs.States.{State, core_of}
use Rattle.frang_world.proofs.world.World.next.Goals as goal

pub returns-clause-none : goal.returns-clause-none
returns-clause-none c = λ is event can.
    let P : State → Type 0 = λ s. Can (core_of s) event in
    let none : c.next.result ≡ None = cc in
    c.next.ensures.none none event (subst P (sym c.self.view_is) can)
