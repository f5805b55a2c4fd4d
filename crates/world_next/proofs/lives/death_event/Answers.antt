-- By the two guards.
use Rattle.std.proofs.Common.{◌≡◌, false, sym, ap, ◌∙◌, subst}
use Rattle.core_definitions.specs.Cores.{Core}
use Rattle.core_definitions.specs.WriteGuards.{CanDoom, may_die}
use Rattle.core_laws.proofs.Guarding.{die_can, doom_can}
use Rattle.world_state.specs.States.{State, core_at}
use Rattle.world_next.specs.Over.{core_over}
use Rattle.world_next.proofs.Living.{dies_not, dooms_not}
use Rattle.world_next.proofs.lives.death_event.Goals as goal

pub returns-then-may_doom : goal.returns-then-may_doom
returns-then-may_doom c = λ tree.
    let asked = c.args.asking.now in
    let core : Core = core_over asked.world tree in
    subst (CanDoom core) (sym c.number-a.ensures.number) (doom_can core asked.number (sym c.may_doom.ensures ∙ c.if-may_doom.true))

pub returns-then-may_die : goal.returns-then-may_die
returns-then-may_die c = λ tree.
    let asked = c.args.asking.now in
    die_can (core_over asked.world tree) c.number-a.result.0 (ap (λ (s : State). may_die (core_at s) c.number-a.result.0) (sym c.world.ensures) ∙ sym c.may_die.ensures ∙ c.if-may_die.true)

pub returns : goal.returns
returns c = λ tree.
    let asked = c.args.asking.now in
    let core : Core = core_over asked.world tree in
    let alive : may_die core asked.number ≡ false =
    ap (may_die core) (sym c.number-a.ensures.number) ∙ ap (λ (s : State). may_die (core_at s) c.number-a.result.0) (sym c.world.ensures) ∙ sym c.may_die.ensures ∙ c.if-may_die.false in
    record {
      doom = dooms_not core asked.number (sym c.may_doom.ensures ∙ c.if-may_doom.false);
      die = dies_not core asked.number alive;
    }
