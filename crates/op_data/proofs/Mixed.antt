-- The bytes of a sector, the new ones among the old ones.
use Rattle.std.proofs.Common.{◌≡◌, ◌<◌, ◌≤◌, ◌+◌, ◌*◌, ℕ, List, true, false, cond, nat_lt, get_or, sym, ap, ◌∙◌, arith}
use Rattle.std.proofs.lemmas.Bool.Decides.{nat_tests}
use Rattle.disk_definitions.specs.FilePlans.{Writing, byte_over, mixed}
use Rattle.op_data.proofs.Setting.{SetBelow}

pub byte_here : (xs : List ℕ) (f old : ℕ → ℕ) (n : ℕ) → SetBelow xs f old n → get_or xs n 0 ≡ old n
byte_here xs f old n h = let t : nat_lt n n ≡ false = grind (arith, nat_tests) in h n ∙ ap (λ b. cond b (f n) (old n)) t

pub mixed_below : (w : Writing) (t : ℕ) (old : ℕ → ℕ) (i : ℕ) → i < 512 → byte_over w (512 * t + i) (old i) ≡ mixed w t old i
mixed_below w t old i l = let b : nat_lt i 512 ≡ true = grind (arith, nat_tests) in ap (λ b. cond b (byte_over w (512 * t + i) (old i)) 0) (sym b)

pub mixed_past : (w : Writing) (t : ℕ) (old : ℕ → ℕ) (i : ℕ) → 512 ≤ i → mixed w t old i ≡ 0
mixed_past w t old i l = let b : nat_lt i 512 ≡ false = grind (arith, nat_tests) in ap (λ b. cond b (byte_over w (512 * t + i) (old i)) 0) b
