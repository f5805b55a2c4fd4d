-- What looking for room examines: the slots of the directory, every held segment where a block is picked, and the first sector of the block.
use Rattle.std.proofs.Common.{◌≡◌, ℕ, ◌*◌, Bool, true, false, cond, nat_lt, map, Option, Some, None, List, [], append-nil, refl, sym, ap, ◌∙◌}
use Rattle.std.specs.Map.{keys_of}
use Rattle.disk_definitions.specs.Store.{StoredNode}
use Rattle.disk_definitions.specs.Held.{Segments}
use Rattle.disk_definitions.specs.Picks.{picked_directory}
use Rattle.disk_definitions.specs.Ask.{Ask, Got, ReadDirectory}
use Rattle.disk_definitions.specs.Walks.{Found, is_vacant, search}
use Rattle.disk_definitions.specs.Plans.{Hand, Plan, Clears, Finishes, Finish, Room, InBlock, NoRoom, find_room, finish_in, must_clear, read_held, room_at, room_in}
use Rattle.disk_definitions.specs.Written.{Cached, hand_of}
use Rattle.dir_lookup.specs.Looked.{Adds}
use Rattle.dir_lookup.specs.Reading.{Lacks, Gives, reading}
use Rattle.dir_lookup.proofs.Looking.{adds_as}
use Rattle.disk_definitions.specs.LookedAt.{examined}
use Rattle.plan_steps.specs.Looking.{Looks, segment_number}
use Rattle.plan_steps.proofs.AtHand.{held_looked}
use Rattle.plan_steps.proofs.Examining.{examined_got, examined_on}
use Rattle.plan_steps.proofs.Looking.{bind_end, bind_to, none_more, then_looks}

module _ (x : StoredNode) (cached : Cached) (held : Segments) (all : Bool) where
  abbrev slots : Ask (Option Found)
  slots = search x.small is_vacant 0 (8 * x.blocks)

  abbrev hand : Hand
  hand = hand_of cached held all

  pub room_needed : (s : ℕ) (old new : Option (List ℕ)) → Lacks s ≡ reading (search x.small is_vacant 0 (8 * x.blocks)) cached held → Looks cached held old new (search x.small is_vacant 0 (8 * x.blocks))
      → Looks cached held old new (find_room (hand_of cached held all) x)
  room_needed s old new e l = bind_end cached held slots (room_at hand x) s old new e l

  pub room_inside : (found : Found) (old new : Option (List ℕ)) → Gives (Some found) ≡ reading (search x.small is_vacant 0 (8 * x.blocks)) cached held
      → Looks cached held old new (search x.small is_vacant 0 (8 * x.blocks)) → Looks cached held old new (find_room (hand_of cached held all) x)
  room_inside found old new e l =
      adds_as old new (examined slots cached held) (examined (find_room hand x) cached held)
      (sym (examined_on slots (room_at hand x) cached held (Some found) e ∙ append-nil (examined slots cached held))) l

  picks_look : (b : Bool) (room : Room) → examined (cond b (read_held hand (Got room)) (Got NoRoom)) cached held ≡ cond b (map segment_number (keys_of held)) []
  picks_look true room = held_looked hand cached (Got room) ∙ append-nil (map segment_number (keys_of held))
  picks_look false room = refl

  pub room_picked : (old mid new : Option (List ℕ)) → Gives None ≡ reading (search x.small is_vacant 0 (8 * x.blocks)) cached held → Looks cached held old mid (search x.small is_vacant 0 (8 * x.blocks))
      → Adds mid new (cond (nat_lt x.blocks 16) (map segment_number (keys_of held)) []) → Looks cached held old new (find_room (hand_of cached held all) x)
  room_picked old mid new e l f =
      then_looks cached held (find_room hand x) (room_at hand x None) old mid new (bind_to cached held slots (room_at hand x) None old mid e l)
      (adds_as mid new (cond (nat_lt x.blocks 16) (map segment_number (keys_of held)) []) (examined (room_at hand x None) cached held)
      (sym (picks_look (nat_lt x.blocks 16) (room_in (picked_directory held)))) f)

-- ---- the block of the room
module _ (cached : Cached) (held : Segments) (h : Hand) (k : ℕ) (finish : Finish) where
  pub block_unlooked : (kept : Option (List ℕ)) → must_clear h k ≡ true → Looks cached held kept kept (finish_in h (InBlock k) finish)
  block_unlooked kept e =
      none_more cached held (finish_in h (InBlock k) finish) kept
      (ap (λ b. examined (cond b (Got (Clears k finish.locks)) (ReadDirectory k 0 (λ f. Got (Finishes finish)))) cached held) e)

  pub block_looked : (old new : Option (List ℕ)) → must_clear h k ≡ false → Looks cached held old new (ReadDirectory k 0 Got) → Looks cached held old new (finish_in h (InBlock k) finish)
  block_looked old new e l =
      adds_as old new (examined (ReadDirectory k 0 Got) cached held) (examined (finish_in h (InBlock k) finish) cached held)
      (examined_got {B = Plan} (ReadDirectory k 0 Got) (λ f. Finishes finish) cached held (reading (ReadDirectory k 0 Got) cached held) refl
      ∙ sym (ap (λ b. examined (cond b (Got (Clears k finish.locks)) (ReadDirectory k 0 (λ f. Got (Finishes finish)))) cached held) e)) l
