-- A write that may be issued, or none.
use Rattle.std.proofs.Common.{sym, subst}
use Rattle.core_definitions.specs.Cores.{Core}
use Rattle.core_definitions.specs.WriteGuards.{CanIssue}
use Rattle.world_next.specs.Over.{core_over}
use Rattle.world_next.proofs.Living.{issues, issues_nothing}
use Rattle.world_next.proofs.lives.write_event.Goals as goal

pub returns-in-Some : goal.returns-in-Some
returns-in-Some c = λ tree.
    let asked = c.args.asking.now in
    let core : Core = core_over asked.world tree in
    subst (λ n. CanIssue core n c.in-Some.sector.0) (sym c.number.ensures.number) (issues core asked.number c.in-Some.sector.0 c.in-Some.ensures)

pub returns-in-None : goal.returns-in-None
returns-in-None c = λ tree.
    let asked = c.args.asking.now in
    issues_nothing (core_over asked.world tree) asked.number c.in-None.ensures
