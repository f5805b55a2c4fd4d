-- One after another.
use Rattle.std.proofs.Common.{◌≡◌, sym, ap, ◌∙◌, Option, Some, None}
use Rattle.std.specs.List.{slice_get}
use Rattle.frang_base.specs.declared.lock.LockId.{LockId}
use Rattle.frang_base.specs.declared.sector.Sector.{Sector}
use Rattle.lock_definitions.specs.Calls.{revokes}
use Rattle.lock_definitions.specs.declared.claim.AskedFor.{AskedFor}
use Rattle.server_core.specs.States.{cached_in}
use Rattle.server_writes.specs.Wants.{first_of, next_if_sole}
use Rattle.server_writes.proofs.Stepping.{place_beyond, place_found, place_passed}
use Rattle.server_writes.proofs.pressed.first_pressed.Goals as goal

pub returns-in_default : goal.returns-in_default
returns-in_default c =
    let s = c.args.server.now in
    let locks = c.args.table.now.locks in
    let f : LockId × AskedFor → Option Sector = next_if_sole locks s.id (cached_in s) s.server.ring.reached in
    let none : slice_get (revokes locks s.id) c.loop-place.place ≡ None = ap (λ n. slice_get (revokes locks n) c.loop-place.place) (sym c.id.ensures) ∙ sym c.asked_at.ensures ∙ c.in_default.is in
    place_beyond f (revokes locks s.id) c.loop-place.place (first_of f (revokes locks s.id)) c.loop-place.invariant none

pub returns-in-Some-next_if_sole : goal.returns-in-Some-next_if_sole
returns-in-Some-next_if_sole c =
    let s = c.args.server.now in
    let locks = c.args.table.now.locks in
    let f : LockId × AskedFor → Option Sector = next_if_sole locks s.id (cached_in s) s.server.ring.reached in
    let at : slice_get (revokes locks s.id) c.loop-place.place ≡ Some c.in-Some.one = ap (λ n. slice_get (revokes locks n) c.loop-place.place) (sym c.id.ensures) ∙ sym c.asked_at.ensures ∙ c.in-Some.is in
    place_found f (revokes locks s.id) c.loop-place.place (first_of f (revokes locks s.id)) c.loop-place.invariant c.in-Some.one at c.in-Some-next_if_sole.found
    (sym c.next_if_sole.ensures ∙ c.in-Some-next_if_sole.is)

pub loop-place-preserved : goal.loop-place-preserved
loop-place-preserved c =
    let s = c.args.server.now in
    let locks = c.args.table.now.locks in
    let f : LockId × AskedFor → Option Sector = next_if_sole locks s.id (cached_in s) s.server.ring.reached in
    let at : slice_get (revokes locks s.id) c.loop-place.place ≡ Some c.in-Some.one = ap (λ n. slice_get (revokes locks n) c.loop-place.place) (sym c.id.ensures) ∙ sym c.asked_at.ensures ∙ c.in-Some.is in
    place_passed f (revokes locks s.id) c.loop-place.place (first_of f (revokes locks s.id)) c.loop-place.invariant c.in-Some.one at (sym c.next_if_sole.ensures ∙ c.in_default-next_if_sole.is)
