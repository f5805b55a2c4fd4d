-- What stands for a state at its place of a byte.
use Rattle.std.proofs.Common.{ℕ, zero, suc, ◌*◌, ◌^◌, ◌<◌, ◌≤◌, arith}

-- what one stands for at a place
pub weight_bounds : (p : ℕ) → p < 4 → (0 < 4 ^ p) × (4 ^ p ≤ 64)
weight_bounds zero h = (omega arith, omega arith)
weight_bounds (suc zero) h = (omega arith, omega arith)
weight_bounds (suc (suc zero)) h = (omega arith, omega arith)
weight_bounds (suc (suc (suc zero))) h = (omega arith, omega arith)
weight_bounds (suc (suc (suc (suc p)))) h = absurd (omega arith)

-- what stands for a state at a place
pub digit_part_fits : (p s : ℕ) → p < 4 → s < 4 → s * 4 ^ p < 256
digit_part_fits zero s p i = omega arith
digit_part_fits (suc zero) s p i = omega arith
digit_part_fits (suc (suc zero)) s p i = omega arith
digit_part_fits (suc (suc (suc zero))) s p i = omega arith
digit_part_fits (suc (suc (suc (suc p)))) s q i = absurd (omega arith)
