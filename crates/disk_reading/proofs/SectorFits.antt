-- A test that decodes a block and compares its version is the test of the sector that the block is.
use Rattle.std.proofs.Common.{◌≡◌, ℕ, Bool, true, false, ◌&&◌, Option, List, nat_le, is_some, sym, ap, ◌∙◌}
use Rattle.sector_bytes.specs.Bytes.{number_at}

-- the block is in the grammar
pub told_some : {X : Type 0} (decode : List ℕ → Option X) (bytes block : List ℕ) (most version : ℕ) (read : Option X) (some : Bool)
    → block ≡ bytes → read ≡ decode block → some ≡ is_some read → version ≡ number_at 8 0 block → some ≡ true
    → nat_le version most ≡ (is_some (decode bytes) && nat_le (number_at 8 0 bytes) most)
told_some {X} decode bytes block most version read some b d i v t =
    let s : is_some (decode bytes) ≡ true = ap (λ (x : List ℕ). is_some (decode x)) (sym b) ∙ sym (i ∙ ap (λ (o : Option X). is_some o) d) ∙ t in
    ap (λ (n : ℕ). nat_le n most) (v ∙ ap (λ (x : List ℕ). number_at 8 0 x) b) ∙ sym (ap (λ (u : Bool). u && nat_le (number_at 8 0 bytes) most) s)

-- it is not
pub told_none : {X : Type 0} (decode : List ℕ → Option X) (bytes block : List ℕ) (most : ℕ) (read : Option X) (some : Bool)
    → block ≡ bytes → read ≡ decode block → some ≡ is_some read → some ≡ false
    → some ≡ (is_some (decode bytes) && nat_le (number_at 8 0 bytes) most)
told_none {X} decode bytes block most read some b d i t =
    let s : is_some (decode bytes) ≡ false = ap (λ (x : List ℕ). is_some (decode x)) (sym b) ∙ sym (i ∙ ap (λ (o : Option X). is_some o) d) ∙ t in
    t ∙ sym (ap (λ (u : Bool). u && nat_le (number_at 8 0 bytes) most) s)
