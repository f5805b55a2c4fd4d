-- Room for an entry that comes, as the plans of link and rename go on with it.
use Rattle.std.specs.Prelude.{◌≡◌, ℕ, Result, Ok, Err, List}
use Rattle.frang_base.specs.declared.reply.Reply.TheVariants as reply
use Rattle.disk_definitions.specs.Store.{StoredNode}
use Rattle.disk_definitions.specs.Ask.{Ask, bind}
use Rattle.disk_definitions.specs.Plans.{Hand, Plan, Finish, Room, Inside, InBlock, NoRoom, Finishes, find_room, finish_in, none_left}
use Rattle.dir_lookup.specs.declared.hand.Hand.{Hand as CodeHand}
use Rattle.dir_lookup.specs.Hands.{over, seen}
use Rattle.dir_lookup.specs.Reading.{Gives}
use Rattle.plan_steps.specs.Ends.{Stops}
use Rattle.plan_steps.specs.declared.stop.Stop.{Stop}
use Rattle.plan_steps.specs.declared.room.Room.{Room as CodeRoom}
use Rattle.plan_steps.specs.Rooms.{room_in}

-- all is done in the room, once that is clear; or nothing is left
abbrev pub in_room : Hand → List ℕ → (Room → Finish) → Room → Ask Plan
in_room h touched finish NoRoom = none_left h reply.NoDirBlock touched
in_room h touched finish (Inside q) = finish_in h (Inside q) (finish (Inside q))
in_room h touched finish (InBlock k) = finish_in h (InBlock k) (finish (InBlock k))

-- each plan that is done in a room of this directory is done in this one, or ends so
abbrev pub FindsRoom : CodeHand → StoredNode → Result CodeRoom Stop → Type 0
FindsRoom hand x (Ok room) = (touched : List ℕ) (finish : Room → Finish) →
    over (bind (find_room (seen hand) x) (in_room (seen hand) touched finish)) hand ≡ Gives (Finishes (finish (room_in room)))
FindsRoom hand x (Err e) = (touched : List ℕ) (finish : Room → Finish) → Stops (over (bind (find_room (seen hand) x) (in_room (seen hand) touched finish)) hand) e
