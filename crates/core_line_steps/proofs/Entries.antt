-- An entry among those of an ascending map is what it has at its key.
use Rattle.std.proofs.Common.{◌≡◌, ℕ, Bool, true, false, if◌then◌else◌, List, [], ◌∷◌, Some, nat_eq, refl, sym, ap, ◌∙◌, inl, inr, arith}
use Rattle.std.proofs.lemmas.Bool.{false≢true}
use Rattle.std.proofs.lemmas.Bool.Decides.{nat_tests}
use Rattle.std.proofs.lemmas.Option.{none-some}
use Rattle.std.specs.List.Sorted.{IsStrictlySortedBy}
use Rattle.std.specs.BTreeMap.{is_at}
use Rattle.std.specs.Ordering.{nat_cmp}
use Rattle.disk_definitions.proofs.Listed.{Among}
use Rattle.sector_bytes.specs.SectorMaps.{value_at, Ascend}
use Rattle.sector_bytes.proofs.MapLaws.{found, absent}

at_test : (s t : ℕ) → is_at (nat_cmp s) t ≡ nat_eq t s
at_test s t = grind (arith, nat_tests)

same_test : (s t : ℕ) → t ≡ s → nat_eq t s ≡ true
same_test s t e = grind (arith, nat_tests, e)

pub value_among : {V : Type 0} (entries : List (ℕ × V)) (s : ℕ) (v : V) → Ascend entries → Among {X = ℕ × V} (s, v) entries → value_at entries s ≡ Some v
unfolding IsStrictlySortedBy
value_among [] s v sorted i = absurd i
value_among {V} (entry ∷ entries) s v sorted i = go (is_at (nat_cmp s) entry.0) refl i (λ j. value_among entries s v sorted.1 j)
  where
    key : (ℕ × V) → ℕ
    key x = x.0

    go : (b : Bool) → is_at (nat_cmp s) entry.0 ≡ b → Among {X = ℕ × V} (s, v) (entry ∷ entries) → (Among {X = ℕ × V} (s, v) entries → value_at entries s ≡ Some v) →
        (if b then Some entry.1 else value_at entries s) ≡ Some v
    go true e (inl same) rest = ap (λ (x : ℕ × V). Some x.1) (sym same)
    go false e (inl same) rest = absurd (false≢true (sym e ∙ at_test s entry.0 ∙ same_test s entry.0 (ap (λ (x : ℕ × V). x.0) (sym same))))
    go true e (inr j) rest = absurd (none-some v (sym (ap (value_at entries) (sym (found s entry.0 e)) ∙ absent entry.0 entries sorted.0) ∙ rest j))
    go false e (inr j) rest = rest j
