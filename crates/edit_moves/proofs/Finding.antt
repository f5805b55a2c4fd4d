-- The first of a list that passes a test, item after item.
use Rattle.std.proofs.Common.{◌≡◌, ◌<◌, ◌+◌, ℕ, Bool, true, false, if◌then◌else◌, Option, Some, List, ◌∷◌, drop, find, length, slice_index, suc, sym, ap, ◌∙◌, arith}
use Rattle.std.proofs.Math.Seq.{drop-cons}

-- an item that doesn't pass is passed over
pub passed : (test : ℕ → Bool) (xs : List ℕ) (i : ℕ) (first : Option ℕ) → i < length xs → test (slice_index xs i) ≡ false → find test (drop i xs) ≡ first → find test (drop (i + 1) xs) ≡ first
passed test xs i first inside t before =
    let x : ℕ = slice_index xs i in
    let rest : List ℕ = drop (i + 1) xs in
    let e : suc i ≡ i + 1 = omega arith in
    let next : drop i xs ≡ x ∷ rest = drop-cons xs i 0 inside ∙ ap (λ m. x ∷ drop m xs) e in
    let skip : find test rest ≡ find test (x ∷ rest) = sym (ap (λ (b : Bool). if b then Some x else find test rest) t) in
    skip ∙ sym (ap (find test) next) ∙ before
