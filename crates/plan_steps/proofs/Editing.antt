-- Edits one after another.
use Rattle.std.proofs.Common.{◌≡◌, ℕ, zero, suc, ◌-◌, ◌*◌, ◌<◌, Result, Ok, Err, OnOk, List, [], ◌∷◌, ◌++◌, append_assoc, ap, ◌∙◌, arith}
use Rattle.disk_definitions.specs.Store.{StoredNode, StoredEntry, Use}
use Rattle.disk_definitions.specs.Edits.{Edit, SetUse}
use Rattle.disk_definitions.specs.Changes.{grow, put_entry, uses_to}
use Rattle.disk_definitions.specs.Plans.{with_block}

pub on_ok : {A B : Type 0} (r : Result A B) (P Q : Type 0) → (P → Q) → OnOk r P → OnOk r Q
on_ok (Ok a) P Q f p = f p
on_ok (Err e) P Q f p = p

-- one piece, and then another
pub pieces : (a b c d e : List Edit) → b ≡ a ++ d → c ≡ b ++ e → c ≡ a ++ (d ++ e)
pieces a b c d e f g = g ∙ ap (λ b. b ++ e) f ∙ append_assoc a d e

pub entered_block : (a b c : List Edit) (i k q : ℕ) (x y : StoredNode) (e : StoredEntry) → b ≡ a ++ grow i x k → c ≡ b ++ put_entry i y q e → y ≡ with_block x k → q ≡ 56 * x.blocks
    → c ≡ a ++ (grow i x k ++ put_entry i (with_block x k) (56 * x.blocks) e)
entered_block a b c i k q x y e f g hy hq =
    let p : put_entry i y q e ≡ put_entry i (with_block x k) (56 * x.blocks) e = ap (λ y. put_entry i y q e) hy ∙ ap (λ q. put_entry i (with_block x k) q e) hq in
    pieces a b c (grow i x k) (put_entry i (with_block x k) (56 * x.blocks) e) f (g ∙ ap (λ p. b ++ p) p)

-- the last block that is left goes
pub one_less : (small : ℕ → ℕ) (state : Use) (n : ℕ) (a b t : List Edit) (k : ℕ) (u : Use) → 0 < n → b ≡ a ++ SetUse k u ∷ [] → k ≡ small (n - 1) → u ≡ state
    → a ++ uses_to small state n ≡ t → b ++ uses_to small state (n - 1) ≡ t
one_less small state zero a b t k u l f hk hu e = absurd (omega arith)
one_less small state (suc m) a b t k u l f hk hu e =
    let p : suc m - 1 ≡ m = omega arith in
    let s : SetUse k u ≡ SetUse (small m) state = ap (λ k. SetUse k u) (hk ∙ ap small p) ∙ ap (λ u. SetUse (small m) u) hu in
    ap (λ n. b ++ uses_to small state n) p
    ∙ ap (λ b. b ++ uses_to small state m) (f ∙ ap (λ s. a ++ s ∷ []) s)
    ∙ append_assoc a (SetUse (small m) state ∷ []) (uses_to small state m)
    ∙ e
