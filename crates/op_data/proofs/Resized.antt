-- The blocks of an inode with another size.
use Rattle.std.proofs.Common.{◌≡◌, ◌≤◌, ℕ, List, Bool, true, false, cond, nat_lt, get_or, refl, sym, ◌∙◌, arith}
use Rattle.std.proofs.lemmas.Bool.Decides.{nat_tests}
use Rattle.disk_definitions.specs.Store.{StoredNode}
use Rattle.disk_definitions.specs.FilePlans.{small_after}
use Rattle.op_data.proofs.Setting.{SetBelow}

none_past : (x : StoredNode) (picks : List ℕ) (blocks i : ℕ) → blocks ≤ i → small_after x picks blocks i ≡ 0
none_past x picks blocks i l = grind (arith, nat_tests)

pub small_past : (x : StoredNode) (picks : List ℕ) (blocks : ℕ) (small : List ℕ) (n : ℕ) → SetBelow small (small_after x picks blocks) (λ i. 0) n
    → (i : ℕ) → blocks ≤ i → get_or small i 0 ≡ small_after x picks blocks i
small_past x picks blocks small n h i l = h i ∙ go (nat_lt i n) ∙ sym (none_past x picks blocks i l)
  where
    go : (b : Bool) → cond b (small_after x picks blocks i) 0 ≡ 0
    go true = none_past x picks blocks i l
    go false = refl
