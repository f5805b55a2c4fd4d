-- A state or a bit of a segment: one is replaced, and the others stay.
use Rattle.std.proofs.Common.{◌≡◌, ℕ, ◌*◌, ◌/◌, ◌^◌, ◌%◌, ◌<◌, ◌==◌, if◌then◌else◌, Bool, true, false, length, get_or, bit_and, bit_or, w64, subst, arith}
use Rattle.std.proofs.lemmas.Nat.{pow_below}
use Rattle.std.specs.Int.{bit_at, bit_not}
use Rattle.frang_base.specs.declared.bitmap.Bitmap.{Bitmap}
use Rattle.disk_definitions.specs.Bitmaps.{inode_bit, block_state, with_digit}
use Rattle.disk_definitions.proofs.Bits.{bit_set, bit_cleared}
use Rattle.disk_definitions.proofs.Digits as digits
use Rattle.disk_definitions.specs.Taken.{with_state, with_inode}

-- a block's state replaced, among all of a segment
pub state_replaced : (x : Bitmap) (j k s : ℕ) → length x.states ≡ 256 → j < 1024 → s < 4 → block_state (with_state x j s) k ≡ (if k == j then s else block_state x k)
state_replaced x j k s n h l =
    let old : ℕ = get_or x.states (j / 4) 0 in
    digits.state_replaced x.states j k (with_digit (j % 4) old s) s n h (digits.digit_replaced (j % 4) old s (omega arith) l)

-- the word with one bit
one_bit : (j : ℕ) → j < 64 → 1 * 2 ^ j % 2 ^ 64 ≡ 2 ^ j
one_bit j h = let fits : 2 ^ j < 2 ^ 64 = pow_below j 64 h in omega arith

pub inode_marked : (x : Bitmap) (j k : ℕ) (used : Bool) → j < 64 → k < 64 → inode_bit (with_inode x j used) k ≡ (if k == j then used else inode_bit x k)
inode_marked x j k true h i = subst (λ b. (bit_at (bit_or x.inodes b) k == 1) ≡ (if k == j then true else inode_bit x k)) (one_bit j h) (bit_set x.inodes j k h i)
inode_marked x j k false h i = subst (λ b. (bit_at (bit_and x.inodes (bit_not w64 b)) k == 1) ≡ (if k == j then false else inode_bit x k)) (one_bit j h) (bit_cleared x.inodes j k h i)
