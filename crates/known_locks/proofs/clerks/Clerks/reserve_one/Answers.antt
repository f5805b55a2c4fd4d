-- One list has room.
use Rattle.std.proofs.Common.{map, set, ap, ◌∙◌, arith, subst}
use Rattle.std.proofs.Math.Seq.{map-set_same}
use Rattle.std.proofs.lemmas.Result.{on_ok_weaker}
use Rattle.known_locks.specs.Beside.{claims_kept, room_kept}
use Rattle.lock_table.specs.Kept.{KeepsSpace}
use Rattle.known_locks.proofs.ClerkLists.{room_own, keeps}
use Rattle.known_locks.proofs.clerks.Clerks.reserve_one.Goals as goal

pub returns-clause-claims : goal.returns-clause-claims
returns-clause-claims c = map-set_same claims_kept c.self.inside.clerks c.args.server.0 c.reserve.new.self c.index-self-server.result c.reserve.ensures.claims ∙ ap (λ kept. kept.claims) c.self.view_is

pub returns-clause-ok : goal.returns-clause-ok
returns-clause-ok c = on_ok_weaker c.reserve.result (λ room. omega (arith, room, room_own c.self.inside.clerks c.args.server.0 (omega (arith, c.requires, c.self.invariant)) c.reserve.new.self)) c.reserve.ensures.ok

pub returns-clause-room : goal.returns-clause-room
returns-clause-room c = subst (λ kept. KeepsSpace kept.room (map room_kept (set c.self.inside.clerks c.args.server.0 c.reserve.new.self))) c.self.view_is
    (keeps c.self.inside.clerks c.args.server.0 (omega (arith, c.requires, c.self.invariant)) c.reserve.new.self c.index-self-server.result c.reserve.ensures.room)
