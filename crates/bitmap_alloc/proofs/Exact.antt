-- A segment whose bits and states are those of another is that other: words with the same bits and bytes with the same states are the same.
use Rattle.std.proofs.Common.{ℕ, ◌≡◌, ◌<◌, ◌≤◌, ◌+◌, ◌*◌, ◌/◌, ◌%◌, ◌^◌, ◌==◌, if◌then◌else◌, Bool, true, false, List, length, get_or, set, min, max, bit_and, bit_or, w64, inl, inr, refl, sym, ap, ◌∙◌, arith}
use Rattle.std.proofs.lemmas.Bool.{cases_eq, cases_lt}
use Rattle.std.proofs.lemmas.Bool.Decides.{nat_tests}
use Rattle.std.proofs.lemmas.Grind.{same_number_lists}
use Rattle.std.proofs.lemmas.List.{get_or-set_same, get_or-set_other}
use Rattle.std.proofs.lemmas.Nat.Bits.{bit_at_or, bit_at_and, bit_at-pow_other, bit_at-lt, bit_at_above, same_from_bits}
use Rattle.std.proofs.Math.ListN.{length-set}
use Rattle.std.specs.Int.{bit_at, bit_not}
use Rattle.disk_definitions.proofs.Digits.{digit_fits}
use Rattle.bitmap_block.specs.States.{state_number}
use Rattle.bitmap_block.specs.declared.state.BlockState.{BlockState}
use Rattle.bitmap_block.specs.declared.state.BlockState.TheVariants.{Unused, FileBytes, FormerDirectory, Directory}
use Rattle.frang_base.specs.declared.bitmap.Bitmap.{Bitmap}
use Rattle.disk_definitions.specs.Bitmaps.{inode_bit, block_state, with_digit}
use Rattle.disk_definitions.specs.Taken.{with_state, with_inode}
use Rattle.disk_definitions.proofs.PickDigits.{state_replaced, inode_marked}

pub state_below : (s : BlockState) → state_number s < 4
state_below Unused = omega arith
state_below FileBytes = omega arith
state_below FormerDirectory = omega arith
state_below Directory = omega arith

pub same_bitmap : (x y : Bitmap) → x.version ≡ y.version → x.inodes ≡ y.inodes → x.states ≡ y.states → x.large ≡ y.large → x ≡ y
same_bitmap x y version inodes states large = same x.version y.version x.inodes y.inodes x.states y.states x.large y.large version inodes states large
  where
    same : (v w i j : ℕ) (s t : List ℕ) (l m : Bool) → v ≡ w → i ≡ j → s ≡ t → l ≡ m → ◌≡◌ {A = Bitmap} (record { version = v; inodes = i; states = s; large = l }) (record { version = w; inodes = j; states = t; large = m })
    same v w i j s t l m a b c d = rw (a, b, c, d) refl

-- ---- words
same_bit : (a b : ℕ) → a < 2 → b < 2 → (a == 1) ≡ (b == 1) → a ≡ b
same_bit a b l m e = grind (arith, nat_tests)

-- no bit of a word of 64 bits from 64 on
marked_above : (n j i : ℕ) (used : Bool) → n < 2 ^ 64 → j < 64 → 64 ≤ i → bit_at (if used then bit_or n (2 ^ j) else bit_and n (bit_not w64 (2 ^ j))) i ≡ 0
marked_above n j i true fits l h =
    let none : bit_at n i ≡ 0 = bit_at_above n 64 i fits h in
    let other : bit_at (2 ^ j) i ≡ 0 = bit_at-pow_other j i (λ e. absurd (omega arith)) in
    let both : bit_at (bit_or n (2 ^ j)) i ≡ max (bit_at n i) (bit_at (2 ^ j) i) = bit_at_or n (2 ^ j) i in
    omega arith
marked_above n j i false fits l h =
    let none : bit_at n i ≡ 0 = bit_at_above n 64 i fits h in
    let both : bit_at (bit_and n (bit_not w64 (2 ^ j))) i ≡ min (bit_at n i) (bit_at (bit_not w64 (2 ^ j)) i) = bit_at_and n (bit_not w64 (2 ^ j)) i in
    omega arith

pub same_inodes : (x y : Bitmap) (j : ℕ) (used : Bool) → x.inodes < 2 ^ 64 → y.inodes < 2 ^ 64 → j < 64 → ((k : ℕ) → k < 64 → inode_bit y k ≡ (if k == j then used else inode_bit x k)) → y.inodes ≡ (with_inode x j used).inodes
same_inodes x y j used fits yours l bits = same_from_bits y.inodes (with_inode x j used).inodes (λ i. elim (cases_lt i 64) [
  | inl low ↦ same_bit (bit_at y.inodes i) (bit_at (with_inode x j used).inodes i) (bit_at-lt y.inodes i) (bit_at-lt (with_inode x j used).inodes i) (bits i low ∙ sym (inode_marked x j i used l low))
  | inr high ↦ bit_at_above y.inodes 64 i yours high ∙ sym (marked_above x.inodes j i used fits l high)
])

-- ---- bytes
same_byte : (a b : ℕ) → a < 256 → b < 256 → ((m : ℕ) → m < 4 → a / 4 ^ m % 4 ≡ b / 4 ^ m % 4) → a ≡ b
same_byte a b l m digits =
    let d0 : a / 1 % 4 ≡ b / 1 % 4 = digits 0 (omega arith) in
    let d1 : a / 4 % 4 ≡ b / 4 % 4 = digits 1 (omega arith) in
    let d2 : a / 16 % 4 ≡ b / 16 % 4 = digits 2 (omega arith) in
    let d3 : a / 64 % 4 ≡ b / 64 % 4 = digits 3 (omega arith) in
    omega arith

changed_byte : (states : List ℕ) (q b i : ℕ) → q < length states → b < 256 → ((k : ℕ) → k < length states → get_or states k 0 < 256) → i < length states → get_or (set states q b) i 0 < 256
changed_byte states q b i l fits bytes h = elim (cases_eq i q) [
  | inl e ↦ let here : get_or (set states q b) i 0 ≡ b = ap (λ (k : ℕ). get_or (set states q b) k 0) e ∙ get_or-set_same states q b 0 l in omega arith
  | inr d ↦ let there : get_or (set states q b) i 0 ≡ get_or states i 0 = get_or-set_other states q i b 0 d in let old : get_or states i 0 < 256 = bytes i h in omega arith
]

-- a block of a byte, by its place in it
at_place : (x : Bitmap) (i m : ℕ) → m < 4 → block_state x (4 * i + m) ≡ get_or x.states i 0 / 4 ^ m % 4
at_place x i m l =
    let a : (4 * i + m) / 4 ≡ i = omega arith in
    let b : (4 * i + m) % 4 ≡ m = omega arith in
    ap (λ (k : ℕ). get_or x.states k 0 / 4 ^ ((4 * i + m) % 4) % 4) a ∙ ap (λ (k : ℕ). get_or x.states i 0 / 4 ^ k % 4) b

pub same_states : (x y : Bitmap) (j s : ℕ) → length x.states ≡ 256 → length y.states ≡ 256 → ((i : ℕ) → i < 256 → get_or x.states i 0 < 256) → ((i : ℕ) → i < 256 → get_or y.states i 0 < 256) → s < 4 → j < 1024
    → ((k : ℕ) → k < 1024 → block_state y k ≡ (if k == j then s else block_state x k)) → y.states ≡ (with_state x j s).states
same_states x y j s n m xs ys l h states =
    let z : Bitmap = with_state x j s in
    let count : length z.states ≡ length x.states = length-set x.states (j / 4) (with_digit (j % 4) (get_or x.states (j / 4) 0) s) in
    same_number_lists y.states z.states (omega arith) (λ i low.
    let inside : i < 256 = omega arith in
    let old : get_or x.states (j / 4) 0 < 256 = xs (j / 4) (omega arith) in
    same_byte (get_or y.states i 0) (get_or z.states i 0) (ys i inside)
    (changed_byte x.states (j / 4) (with_digit (j % 4) (get_or x.states (j / 4) 0) s) i (omega arith) (digit_fits (j % 4) (get_or x.states (j / 4) 0) s (omega arith) old l) (λ k q. xs k (omega arith)) (omega arith))
    (λ m q. sym (at_place y i m q) ∙ states (4 * i + m) (omega arith) ∙ sym (state_replaced x j (4 * i + m) s n h l) ∙ at_place z i m q))
