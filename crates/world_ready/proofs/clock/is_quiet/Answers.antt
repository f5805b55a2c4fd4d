-- All in flight are gone, and beside them nothing may happen.
use Rattle.std.proofs.Common.{sym, ◌∙◌}
use Rattle.std.proofs.lemmas.Bool.{false≢true}
use Rattle.world_next.specs.Over.{core_over}
use Rattle.world_ready.proofs.Quiet.{none_so, quiet_where, unquiet_flight}
use Rattle.world_ready.proofs.clock.is_quiet.Goals as goal

pub returns-then-are_all_by_gone : goal.returns-then-are_all_by_gone
returns-then-are_all_by_gone c = quiet_where (core_over c.args.world.now c.args.tree.now) c.next_beside_flights.result c.is_none.result (none_so c.next_beside_flights.result c.is_none.result c.is_none.ensures) (sym c.are_all_by_gone.ensures ∙ c.if-are_all_by_gone.true)
    c.next_beside_flights.ensures.some c.next_beside_flights.ensures.kind c.next_beside_flights.ensures.none

pub returns-else-are_all_by_gone : goal.returns-else-are_all_by_gone
returns-else-are_all_by_gone c = (λ no. absurd (false≢true (sym c.if-are_all_by_gone.false ∙ no)), λ quiet. absurd (unquiet_flight (core_over c.args.world.now c.args.tree.now) (sym c.are_all_by_gone.ensures ∙ c.if-are_all_by_gone.false) quiet))
