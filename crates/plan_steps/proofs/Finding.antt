-- Room for an entry is a place that was found, or a block of the held segments; and the block has to be clear.
use Rattle.std.proofs.Common.{◌≡◌, ℕ, ◌*◌, Bool, true, false, cond, nat_lt, Option, None, refl, sym, ap, ◌∙◌}
use Rattle.disk_definitions.specs.Written.{hand_of, Cached}
use Rattle.disk_definitions.specs.Store.{StoredNode, StoredEntry}
use Rattle.disk_definitions.specs.Held.{Segments}
use Rattle.disk_definitions.specs.Picks.{picked_directory}
use Rattle.disk_definitions.specs.Ask.{Ask, Got, ReadDirectory}
use Rattle.disk_definitions.specs.Walks.{Found, is_vacant, search}
use Rattle.disk_definitions.specs.Plans.{Hand, Clears, Finishes, Finish, Room, InBlock, NoRoom, find_room, finish_in, must_clear, read_held, room_at, room_in}
use Rattle.dir_lookup.specs.Reading.{Read, Gives, reading, then_read}
use Rattle.dir_lookup.proofs.Searches.{goes_on}
use Rattle.plan_steps.proofs.AtHand.{held_at_hand}

-- a look at every held segment
pub held_read : {A : Type 0} (cached : Cached) (held : Segments) (all : Bool) (p : Ask A) → reading (read_held (hand_of cached held all) p) cached held ≡ reading p cached held
held_read cached held all p = held_at_hand (hand_of cached held all) cached p

-- ---- room
pub finding : (x : StoredNode) (cached : Cached) (held : Segments) (all : Bool) (r : Read (Option Found)) → r ≡ reading (search x.small is_vacant 0 (8 * x.blocks)) cached held
    → then_read r (λ o. reading (room_at (hand_of cached held all) x o) cached held) ≡ reading (find_room (hand_of cached held all) x) cached held
finding x cached held all r e = goes_on (search x.small is_vacant 0 (8 * x.blocks)) (room_at (hand_of cached held all) x) cached held r e

no_place : (b : Bool) (room : Room) (cached : Cached) (held : Segments) (all : Bool) → Gives (cond b room NoRoom) ≡ reading (cond b (read_held (hand_of cached held all) (Got room)) (Got NoRoom)) cached held
no_place true room cached held all = sym (held_read cached held all (Got room))
no_place false room cached held all = refl

pub another_block : (x : StoredNode) (cached : Cached) (held : Segments) (all : Bool) (room : Room) → room ≡ cond (nat_lt x.blocks 16) (room_in (picked_directory held)) NoRoom
    → Gives room ≡ reading (room_at (hand_of cached held all) x None) cached held
another_block x cached held all room e = ap Gives e ∙ no_place (nat_lt x.blocks 16) (room_in (picked_directory held)) cached held all

-- ---- the block of the room
module _ (cached : Cached) (held : Segments) (h : Hand) (k : ℕ) (finish : Finish) where
  pub block_clears : must_clear h k ≡ true → reading (finish_in h (InBlock k) finish) cached held ≡ Gives (Clears k finish.locks)
  block_clears e = ap (λ b. reading (cond b (Got (Clears k finish.locks)) (ReadDirectory k 0 (λ f. Got (Finishes finish)))) cached held) e

  pub block_reads : (r : Read (ℕ → Option StoredEntry)) → must_clear h k ≡ false → r ≡ reading (ReadDirectory k 0 Got) cached held
      → reading (finish_in h (InBlock k) finish) cached held ≡ then_read r (λ f. Gives (Finishes finish))
  block_reads r e f =
      ap (λ b. reading (cond b (Got (Clears k finish.locks)) (ReadDirectory k 0 (λ f. Got (Finishes finish)))) cached held) e
      ∙ sym (goes_on (ReadDirectory k 0 Got) (λ f. Got (Finishes finish)) cached held r f)
