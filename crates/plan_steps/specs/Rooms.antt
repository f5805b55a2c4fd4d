-- Room for an entry as the code has it, and what comes of the block that it takes.
use Rattle.std.specs.Prelude.{◌≡◌, ◌<◌, ◌*◌, ℕ, if◌then◌else◌, Option, Some, None, Result, Ok, Err, List, [], ◌∷◌}
use Rattle.frang_base.specs.declared.limits.TheConstants.{BLOCK_ENTRIES, INODE_BLOCKS_MAX}
use Rattle.disk_definitions.specs.declared.inode.Inode.{Inode}
use Rattle.disk_definitions.specs.Held.{Segments}
use Rattle.disk_definitions.specs.Plans.{Finish, Room, Inside, InBlock, NoRoom, Finishes, finish_in}
use Rattle.disk_definitions.specs.NamePlans.{finish_over}
use Rattle.disk_definitions.specs.Written.{is_held}
use Rattle.disk_definitions.specs.declared.region.Region.TheVariants as region
use Rattle.disk_definitions.specs.Regions.{sector_of}
use Rattle.dir_lookup.specs.Hands.{over, seen}
use Rattle.dir_lookup.specs.Reading.{Gives, Lacks}
use Rattle.dir_lookup.specs.declared.hand.Hand.{Hand}
use Rattle.dir_lookup.specs.declared.need.Need.{Need}
use Rattle.plan_steps.specs.Ends.{Stops}
use Rattle.plan_steps.specs.declared.stop.Stop.{Stop}
use Rattle.plan_steps.specs.declared.room.Room.{Room as CodeRoom}
use Rattle.plan_steps.specs.declared.room.Room.TheVariants as room

-- the room that was found
abbrev pub room_in : CodeRoom → Room
room_in (room.Inside q) = Inside q
room_in (room.InBlock k) = InBlock k

-- the room that was found, or none
abbrev pub room_of : Option CodeRoom → Room
room_of None = NoRoom
room_of (Some r) = room_in r

-- the room is one of this directory: a place in its blocks, or one more block
abbrev pub IsRoomOf : Inode → CodeRoom → Type 0
IsRoomOf x (room.Inside q) = q < BLOCK_ENTRIES * x.blocks
IsRoomOf x (room.InBlock k) = x.blocks < INODE_BLOCKS_MAX

-- each plan that goes on once the block of the room is clear is done, or ends so
abbrev pub ClearsRoom : {A : Type 0} → Hand → Room → Result A Stop → Type 0
ClearsRoom hand room (Ok u) = (finish : Finish) → over (finish_in (seen hand) room finish) hand ≡ Gives (Finishes finish)
ClearsRoom hand room (Err e) = (finish : Finish) → Stops (over (finish_in (seen hand) room finish) hand) e

-- each plan that looks at these segments and is done then is done, or needs one of them
abbrev pub LooksOver : {A : Type 0} → Hand → List ℕ → Result A Need → Type 0
LooksOver hand segments (Ok u) = (finish : Finish) → over (finish_over segments finish) hand ≡ Gives (Finishes finish)
LooksOver hand segments (Err need) = (finish : Finish) → over (finish_over segments finish) hand ≡ Lacks need.0.0

-- the sector of the first of these segments that isn't held
abbrev pub needed : Segments → List ℕ → Option ℕ
needed held [] = None
needed held (k ∷ ks) = if is_held held k then needed held ks else Some (sector_of (region.Segment k))

-- the sector that is needed, as the code has it
abbrev pub missing_of : {A : Type 0} → Result A Need → Option ℕ
missing_of (Ok u) = None
missing_of (Err need) = Some need.0.0
