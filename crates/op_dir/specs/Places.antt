-- The inode and the room that a new node gets, as the code has them.
use Rattle.std.specs.Prelude.{◌≡◌, ℕ, Result, Ok, Err, List}
use Rattle.disk_definitions.specs.declared.inode.Inode.{Inode}
use Rattle.tree_definitions.specs.declared.node.Node.{Node}
use Rattle.disk_definitions.specs.Store.{StoredNode}
use Rattle.disk_definitions.specs.Ask.{bind}
use Rattle.disk_definitions.specs.Walks.{AtGap}
use Rattle.disk_definitions.specs.Plans.{Finishes, find_room}
use Rattle.disk_definitions.specs.NamePlans.{made_by, making, making_in}
use Rattle.dir_lookup.specs.declared.hand.Hand.{Hand as CodeHand}
use Rattle.dir_lookup.specs.Hands.{over, seen}
use Rattle.dir_lookup.specs.Reading.{Gives}
use Rattle.plan_steps.specs.Ends.{Stops}
use Rattle.plan_steps.specs.declared.stop.Stop.{Stop}
use Rattle.plan_steps.specs.declared.room.Room.{Room as CodeRoom}
use Rattle.plan_steps.specs.Rooms.{IsRoomOf, room_in}
use Rattle.op_dir.specs.declared.making.Place.{Place}

-- each node that comes into inode j is named in this room, or its plan ends so
abbrev pub FindsNodeRoom : CodeHand → StoredNode → ℕ → Result CodeRoom Stop → Type 0
FindsNodeRoom hand x j (Ok room) = (i birth : ℕ) (name : List ℕ) (node : Node) (dirs : List ℕ) →
    over (bind (find_room (seen hand) x) (making_in (seen hand) i x name birth node dirs j)) hand ≡ Gives (Finishes (made_by i x name birth node dirs j (room_in room)))
FindsNodeRoom hand x j (Err e) = (i birth : ℕ) (name : List ℕ) (node : Node) (dirs : List ℕ) →
    Stops (over (bind (find_room (seen hand) x) (making_in (seen hand) i x name birth node dirs j)) hand) e

-- each node that comes into this directory gets this place, or its plan ends so
abbrev pub FindsPlace : CodeHand → StoredNode → Result Place Stop → Type 0
FindsPlace hand x (Ok p) = (i birth : ℕ) (name : List ℕ) (node : Node) (dirs : List ℕ) →
    over (making (seen hand) birth node dirs (AtGap i x name)) hand ≡ Gives (Finishes (made_by i x name birth node dirs p.inode (room_in p.room)))
FindsPlace hand x (Err e) = (i birth : ℕ) (name : List ℕ) (node : Node) (dirs : List ℕ) → Stops (over (making (seen hand) birth node dirs (AtGap i x name)) hand) e

-- the room of the place is one of the directory
abbrev pub IsPlaceOf : Inode → Place → Type 0
IsPlaceOf x p = IsRoomOf x p.room
