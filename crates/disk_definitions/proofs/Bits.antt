-- A bit that is set or cleared: it is so, and the others stay.
use Rattle.std.proofs.Common.{◌≡◌, ℕ, ◌*◌, ◌^◌, ◌%◌, ◌<◌, true, false, ◌==◌, if◌then◌else◌, ap, bit_and, bit_or, w64}
use Rattle.std.proofs.lemmas.Nat.Bits.{bit_at_set_same, bit_at_set_other, bit_at_clear_same, bit_at_clear_other}
use Rattle.std.specs.Int.{bit_at, bit_not}
use Rattle.disk_definitions.proofs.Chosen.{chosen}

pub bit_set : (n j k : ℕ) → j < 64 → k < 64 → (bit_at (bit_or n (1 * 2 ^ j % 2 ^ 64)) k == 1) ≡ (if k == j then true else bit_at n k == 1)
bit_set n j k h i = chosen k j (bit_at (bit_or n (1 * 2 ^ j % 2 ^ 64)) k == 1) true (bit_at n k == 1)
    (λ e. rw e (ap (λ (b : ℕ). b == 1) (bit_at_set_same w64 n j h)))
    (λ d. ap (λ (b : ℕ). b == 1) (bit_at_set_other w64 n j h k d))

pub bit_cleared : (n j k : ℕ) → j < 64 → k < 64 → (bit_at (bit_and n (bit_not w64 (1 * 2 ^ j % 2 ^ 64))) k == 1) ≡ (if k == j then false else bit_at n k == 1)
bit_cleared n j k h i = chosen k j (bit_at (bit_and n (bit_not w64 (1 * 2 ^ j % 2 ^ 64))) k == 1) false (bit_at n k == 1)
    (λ e. rw e (ap (λ (b : ℕ). b == 1) (bit_at_clear_same w64 n j h)))
    (λ d. ap (λ (b : ℕ). b == 1) (bit_at_clear_other w64 n j h k i d))
