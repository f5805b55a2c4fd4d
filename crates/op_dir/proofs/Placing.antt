-- The inode and the room of a new node, by what the directory and the held segments have.
use Rattle.std.proofs.Common.{◌≡◌, ℕ, Bool, true, false, cond, Option, List, refl, sym, ap, ◌∙◌}
use Rattle.frang_base.specs.declared.reply.Reply.TheVariants as reply
use Rattle.tree_definitions.specs.declared.node.Node.{Node}
use Rattle.disk_definitions.specs.Store.{StoredNode}
use Rattle.disk_definitions.specs.Held.{Segments}
use Rattle.disk_definitions.specs.Picks.{picked_inode}
use Rattle.disk_definitions.specs.Ask.{Ask, Got, ReadInode, bind}
use Rattle.disk_definitions.specs.Walks.{AtGap}
use Rattle.disk_definitions.specs.Plans.{Hand, Plan, Room, find_room, finish_in, is_full, read_held, refuse, refused}
use Rattle.disk_definitions.specs.NamePlans.{made_by, making, making_in, making_with}
use Rattle.disk_definitions.specs.Written.{Cached, hand_of}
use Rattle.dir_lookup.specs.Reading.{Read, Gives, reading, then_read}
use Rattle.dir_lookup.proofs.Searches.{goes_on}
use Rattle.plan_steps.specs.declared.room.Room.{Room as CodeRoom}
use Rattle.plan_steps.specs.declared.room.Room.TheVariants as room
use Rattle.plan_steps.specs.Rooms.{room_in}
use Rattle.plan_steps.proofs.Finding.{held_read}

module _ (cached : Cached) (held : Segments) (all : Bool) (x : StoredNode) (i birth : ℕ) (name : List ℕ) (node : Node) (dirs : List ℕ) where
  abbrev hand : Hand
  hand = hand_of cached held all

  pub full : is_full x ≡ true → reading (making (hand_of cached held all) birth node dirs (AtGap i x name)) cached held ≡ Gives (refuse reply.DirFull dirs)
  full e = ap (λ b. reading (cond b (refused reply.DirFull dirs) (read_held hand (making_with hand i x name birth node dirs (picked_inode held)))) cached held) e

  pub picking : (o : Option ℕ) → is_full x ≡ false → picked_inode held ≡ o
      → reading (making (hand_of cached held all) birth node dirs (AtGap i x name)) cached held ≡ reading (making_with (hand_of cached held all) i x name birth node dirs o) cached held
  picking o e p =
      ap (λ b. reading (cond b (refused reply.DirFull dirs) (read_held hand (making_with hand i x name birth node dirs (picked_inode held)))) cached held) e
      ∙ held_read cached held all (making_with hand i x name birth node dirs (picked_inode held))
      ∙ ap (λ o. reading (making_with hand i x name birth node dirs o) cached held) p

  -- room for the name of the node in inode j
  pub with_room : (j : ℕ) (r : Read Room) → r ≡ reading (find_room (hand_of cached held all) x) cached held
      → reading (bind (find_room (hand_of cached held all) x) (making_in (hand_of cached held all) i x name birth node dirs j)) cached held
      ≡ then_read r (λ room. reading (making_in (hand_of cached held all) i x name birth node dirs j room) cached held)
  with_room j r e = sym (goes_on (find_room hand x) (making_in hand i x name birth node dirs j) cached held r e)

  abbrev finish_at : ℕ → Room → Ask Plan
  finish_at j room = finish_in hand room (made_by i x name birth node dirs j room)

  in_room : (j : ℕ) (r : CodeRoom) → making_in hand i x name birth node dirs j (room_in r) ≡ ReadInode j (λ free. finish_at j (room_in r))
  in_room j (room.Inside q) = refl
  in_room j (room.InBlock k) = refl

  -- the inode is looked at, and then the room is cleared
  pub in_inode : (j : ℕ) (r : CodeRoom) (o : Read (Option StoredNode)) → Gives (room_in r) ≡ reading (find_room (hand_of cached held all) x) cached held → o ≡ reading (ReadInode j Got) cached held
      → reading (bind (find_room (hand_of cached held all) x) (making_in (hand_of cached held all) i x name birth node dirs j)) cached held
      ≡ then_read o (λ free. reading (finish_in (hand_of cached held all) (room_in r) (made_by i x name birth node dirs j (room_in r))) cached held)
  in_inode j r o e f =
      with_room j (Gives (room_in r)) e
      ∙ ap (λ p. reading p cached held) (in_room j r)
      ∙ sym (goes_on (ReadInode j Got) (λ free. finish_at j (room_in r)) cached held o f)
