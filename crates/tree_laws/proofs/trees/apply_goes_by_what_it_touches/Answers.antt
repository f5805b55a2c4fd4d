-- By the operations in two trees.
use Rattle.std.proofs.Common.{inl, inr}
use Rattle.tree_laws.proofs.Alike.{does_alike}
use Rattle.tree_laws.proofs.Untouched.{untouched_stays}
use Rattle.tree_laws.proofs.trees.apply_goes_by_what_it_touches.Goals as goal

pub returns-clause-alike : goal.returns-clause-alike
returns-clause-alike c = λ one two e walk_one walk_two kinds new_one new_two answered room_one room_two agree. does_alike one two e walk_one walk_two kinds new_one new_two answered (inl (room_one, room_two)) agree

pub returns-clause-same_room : goal.returns-clause-same_room
returns-clause-same_room c = λ one two e walk_one walk_two kinds new_one new_two answered room agree. does_alike one two e walk_one walk_two kinds new_one new_two answered (inr room) agree

pub returns-clause-untouched : goal.returns-clause-untouched
returns-clause-untouched c = untouched_stays
