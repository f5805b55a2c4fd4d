-- The places are gone through, which are fewer than numbers.
use Rattle.std.proofs.Common.{◌≡◌, ◌<◌, ◌^◌, Some, None, sym, ap, ◌∙◌, subst, arith}
use Rattle.std.specs.List.{slice_get}
use Rattle.core_definitions.specs.WriteGuards.{may_give}
use Rattle.lock_definitions.specs.Calls.{revokes}
use Rattle.lock_definitions.specs.Locks.{AreLocks, Locks}
use Rattle.lock_definitions.specs.Order.{number_of}
use Rattle.world_state.specs.States.{core_at}
use Rattle.world_asks.proofs.Giving.{none_given}
use Rattle.world_asks.proofs.Places.{one_more, too_many}
use Rattle.world_asks.proofs.gives.given_next.Goals as goal

pub returns-in_default : goal.returns-in_default
returns-in_default c =
    none_given (core_at c.args.world.now) c.args.a.0 c.loop-place.place c.loop-place.invariant
    (ap (λ (l : Locks). slice_get (revokes l c.args.a.0) c.loop-place.place) (sym c.locks-table.ensures) ∙ sym c.asked_at.ensures ∙ c.in_default.is)

pub loop-place-preserved : goal.loop-place-preserved
loop-place-preserved c =
    one_more (may_give (core_at c.args.world.now) c.args.a.0) (revokes c.args.world.now.locks.locks c.args.a.0) c.loop-place.place c.loop-place.invariant (c.in-Some.lock, c.in-Some.field-0-1)
    (ap (λ (l : Locks). slice_get (revokes l c.args.a.0) c.loop-place.place) (sym c.locks-table.ensures) ∙ sym c.asked_at.ensures ∙ c.in-Some.is)
    (subst (λ n. n < 2 ^ 32) c.number_of-number.ensures c.number_of-number.type_inv) (sym c.may_give.ensures ∙ c.if-may_give.false)

pub unreachable-requires : goal.unreachable-requires
unreachable-requires c =
    let P : Locks → Type 0 = λ l. AreLocks l in
    too_many (may_give (core_at c.args.world.now) c.args.a.0) c.args.world.now.locks.locks c.args.a.0 c.loop-place.place (subst P c.locks-table.ensures c.held-held.ensures.state) c.loop-place.invariant (omega arith)
