-- A lock that may be given, or none.
use Rattle.std.proofs.Common.{sym, subst}
use Rattle.core_definitions.specs.Cores.{Core}
use Rattle.core_definitions.specs.WriteGuards.{CanGive}
use Rattle.core_laws.proofs.Guarding.{give_can}
use Rattle.world_next.specs.Over.{core_over}
use Rattle.world_next.proofs.Living.{gives_nothing}
use Rattle.world_next.proofs.lives.lock_event.Goals as goal

pub returns-in-Some : goal.returns-in-Some
returns-in-Some c = λ tree.
    let asked = c.args.asking.now in
    let core : Core = core_over asked.world tree in
    subst (λ n. CanGive core n c.in-Some.lock) (sym c.number.ensures.number) (give_can core asked.number c.in-Some.lock c.in-Some.ensures)

pub returns-in-None : goal.returns-in-None
returns-in-None c = λ tree.
    let asked = c.args.asking.now in
    gives_nothing (core_over asked.world tree) asked.number c.in-None.ensures
