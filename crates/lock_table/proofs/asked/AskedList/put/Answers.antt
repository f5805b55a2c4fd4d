-- A lock that isn't listed takes room.
use Rattle.std.proofs.Common.{◌≡◌, if◌then◌else◌, is_some, Option, Some, None, refl, ap, arith}
use Rattle.std.specs.Map.{lookup}
use Rattle.lock_definitions.specs.Order.{is_lock}
use Rattle.lock_table.specs.Asked.{growth}
use Rattle.lock_table.proofs.asked.AskedList.put.Goals as goal

room_of : {V : Type 0} (o : Option V) (made : V) → (if is_some o then 0 else 1) ≡ growth o (Some made)
room_of None made = refl
room_of (Some v) made = refl

pub insert-requires : goal.insert-requires
insert-requires c =
    let o = lookup (is_lock c.args.lock) c.args.self.now.asked in
    omega (arith, room_of o c.in-Some.made, ap (growth o) c.in-Some.is, c.requires)

pub returns-in-Some-clause-room : goal.returns-in-Some-clause-room
returns-in-Some-clause-room c =
    let o = lookup (is_lock c.args.lock) c.args.self.now.asked in
    omega (arith, room_of o c.in-Some.made, ap (growth o) c.in-Some.is, c.insert.ensures.room)
