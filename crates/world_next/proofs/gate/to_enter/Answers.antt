-- Of a server in a world that isn't over, whose next line hasn't passed.
use Rattle.std.proofs.Common.{true, false, sym, ap, ◌∙◌}
use Rattle.world_definitions.specs.Worlds.{marks_of}
use Rattle.script_places.specs.Placed.{Placed}
use Rattle.world_next.specs.Over.{core_over}
use Rattle.world_next.proofs.Gating.{enters_unless, none_of_others, none_once_over, none_without}
use Rattle.world_next.proofs.gate.to_enter.Goals as goal

pub returns-then-is_over : goal.returns-then-is_over
returns-then-is_over c = λ tree. none_once_over (core_over c.args.world.now tree) c.args.a.0 (sym c.is_over.ensures.over ∙ c.if-is_over.true)

pub returns-then-not-is_server : goal.returns-then-not-is_server
returns-then-not-is_server c = λ tree. none_of_others (core_over c.args.world.now tree) c.args.a.0 (sym c.is_server.ensures ∙ c.if-not-is_server.true)

pub returns-in_err-number : goal.returns-in_err-number
returns-in_err-number c = λ tree.
    c.from_residual.ensures
    ∙ none_without (core_over c.args.world.now tree) c.args.a.0 (sym c.is_over.ensures.over ∙ c.if-is_over.false) (sym c.is_server.ensures ∙ c.if-not-is_server.false) c.in_err-number.ensures

pub returns-then-has_passed : goal.returns-then-has_passed
returns-then-has_passed c = λ tree.
    enters_unless (core_over c.args.world.now tree) c.args.a.0 (sym c.is_over.ensures.over ∙ c.if-is_over.false) (sym c.is_server.ensures ∙ c.if-not-is_server.false) true c.in_ok-number.number
    (sym c.in_ok-number.ensures) (ap (λ (p : Placed). marks_of p.passed c.in_ok-number.number) (sym c.places.ensures) ∙ sym c.has_passed.ensures ∙ c.if-has_passed.true)

pub returns-else-has_passed : goal.returns-else-has_passed
returns-else-has_passed c = λ tree.
    enters_unless (core_over c.args.world.now tree) c.args.a.0 (sym c.is_over.ensures.over ∙ c.if-is_over.false) (sym c.is_server.ensures ∙ c.if-not-is_server.false) false c.in_ok-number.number
    (sym c.in_ok-number.ensures) (ap (λ (p : Placed). marks_of p.passed c.in_ok-number.number) (sym c.places.ensures) ∙ sym c.has_passed.ensures ∙ c.if-has_passed.false)
