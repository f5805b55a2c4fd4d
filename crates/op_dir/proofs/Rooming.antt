-- Plans that look for room go on with what is found, and those of link and rename are among them.
use Rattle.std.proofs.Common.{◌≡◌, ◌∷◌, ◌++◌, [], ℕ, List, refl, sym, ap}
use Rattle.std.proofs.Math.Path.{fun_ext}
use Rattle.disk_definitions.specs.Store.{StoredNode}
use Rattle.disk_definitions.specs.Held.{Segments}
use Rattle.disk_definitions.specs.Ask.{bind}
use Rattle.disk_definitions.specs.Plans.{Hand, Finish, Room, Inside, InBlock, NoRoom, find_room, finish_in}
use Rattle.disk_definitions.specs.NamePlans.{Moving, linked_by, linking_in, moved_between, moving_in}
use Rattle.disk_definitions.specs.Written.{Cached}
use Rattle.dir_lookup.specs.Reading.{Read, reading, then_read}
use Rattle.dir_lookup.proofs.Searches.{goes_on}
use Rattle.plan_steps.specs.declared.room.Room.{Room as CodeRoom}
use Rattle.plan_steps.specs.declared.room.Room.TheVariants as room
use Rattle.plan_steps.specs.Rooms.{room_in}
use Rattle.op_dir.specs.Rooming.{in_room}

module _ (cached : Cached) (held : Segments) (h : Hand) (x : StoredNode) (touched : List ℕ) (finish : Room → Finish) where
  pub rooms : (r : Read Room) → r ≡ reading (find_room h x) cached held
      → reading (bind (find_room h x) (in_room h touched finish)) cached held ≡ then_read r (λ room. reading (in_room h touched finish room) cached held)
  rooms r e = sym (goes_on (find_room h x) (in_room h touched finish) cached held r e)

  pub in_found : (r : CodeRoom) → reading (in_room h touched finish (room_in r)) cached held ≡ reading (finish_in h (room_in r) (finish (room_in r))) cached held
  in_found (room.Inside q) = refl
  in_found (room.InBlock k) = refl

-- link
module _ (cached : Cached) (held : Segments) (h : Hand) (i : ℕ) (x : StoredNode) (name : List ℕ) (j : ℕ) (y : StoredNode) (dirs : List ℕ) where
  same_link : (room : Room) → linking_in h i x name j y dirs room ≡ in_room h (dirs ++ j ∷ []) (linked_by i x name j y dirs) room
  same_link NoRoom = refl
  same_link (Inside q) = refl
  same_link (InBlock k) = refl

  pub link_same : bind (find_room h x) (linking_in h i x name j y dirs) ≡ bind (find_room h x) (in_room h (dirs ++ j ∷ []) (linked_by i x name j y dirs))
  link_same = ap (λ f. bind (find_room h x) f) (fun_ext (λ room. same_link room))

  pub link_rooms : reading (bind (find_room h x) (linking_in h i x name j y dirs)) cached held ≡ reading (bind (find_room h x) (in_room h (dirs ++ j ∷ []) (linked_by i x name j y dirs))) cached held
  link_rooms = ap (λ f. reading (bind (find_room h x) f) cached held) (fun_ext (λ room. same_link room))

-- rename
module _ (cached : Cached) (held : Segments) (h : Hand) (m : Moving) (i : ℕ) (x : StoredNode) (name : List ℕ) (dirs : List ℕ) where
  same_move : (room : Room) → moving_in h m i x name dirs room ≡ in_room h dirs (moved_between m i x name dirs) room
  same_move NoRoom = refl
  same_move (Inside q) = refl
  same_move (InBlock k) = refl

  pub move_same : bind (find_room h x) (moving_in h m i x name dirs) ≡ bind (find_room h x) (in_room h dirs (moved_between m i x name dirs))
  move_same = ap (λ f. bind (find_room h x) f) (fun_ext (λ room. same_move room))

  pub move_rooms : reading (bind (find_room h x) (moving_in h m i x name dirs)) cached held ≡ reading (bind (find_room h x) (in_room h dirs (moved_between m i x name dirs))) cached held
  move_rooms = ap (λ f. reading (bind (find_room h x) f) cached held) (fun_ext (λ room. same_move room))
