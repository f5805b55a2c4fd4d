-- Ascending sectors: in order as a map's keys are; what is left of them without those of zeros; how many there can be.
use Rattle.std.proofs.Common.{◌≡◌, ℕ, ◌<◌, ◌≤◌, true, false, not, List, [], ◌∷◌, length, refl, ap, arith}
use Rattle.std.specs.List.{AllByRecursion}
use Rattle.std.specs.List.Sorted.{IsStrictlySortedBy}
use Rattle.std.specs.Map.{keys_of}
use Rattle.std.specs.Ordering.{nat_cmp}
use Rattle.std.specs.declared.cmp.Ordering.TheVariants.{Less}
use Rattle.std.proofs.lemmas.Bool.Decides.{nat_tests}
use Rattle.std.proofs.lemmas.Bool.{not-true}
use Rattle.frang_base.proofs.Basics.{by_test}
use Rattle.frang_base.proofs.Tests.{cmp_less}
use Rattle.sector_bytes.specs.Bytes.{are_zero}
use Rattle.image_file.specs.Images.{Blocks, sectors_written}
use Rattle.image_file.proofs.EntryBytes.{IsEntry}
use Rattle.image_file.proofs.EntriesRead.{Ascend}

pub lt_of_less : (a b : ℕ) → nat_cmp a b ≡ Less → a < b
lt_of_less a b h = grind (arith, nat_tests)

-- all sectors are greater
abbrev pub Above : ℕ → Blocks → Type 0
Above before es = AllByRecursion (λ k. nat_cmp before k ≡ Less) (keys_of es)

pub above_from : (a b : ℕ) (es : Blocks) → a ≤ b → Above b es → Above a es
above_from a b [] h u = tt
above_from a b (e ∷ es) h u = let l = lt_of_less b e.0 u.0 in (cmp_less a e.0 (omega arith), above_from a b es h u.1)

pub ascend_from : (a b : ℕ) (es : Blocks) → a ≤ b → Ascend b es → Ascend a es
ascend_from a b [] h u = tt
ascend_from a b (e ∷ es) h u = let l = u.0 in (omega arith, u.1, u.2, u.3)

pub ascend_of : (before : ℕ) (es : Blocks) → Above before es → IsStrictlySortedBy nat_cmp (keys_of es) → AllByRecursion IsEntry es → AllByRecursion (λ e. are_zero e.1 ≡ false) es → Ascend before es
unfolding IsStrictlySortedBy
ascend_of before [] u s w z = tt
ascend_of before (e ∷ es) u s w z = (lt_of_less before e.0 u.0, w.0, z.0, ascend_of e.0 es s.0 s.1 w.1 z.1)

pub above_of : (before : ℕ) (es : Blocks) → Ascend before es → Above before es
above_of before [] h = tt
above_of before (e ∷ es) h = (cmp_less before e.0 h.0, let l = h.0 in above_from before e.0 es (omega arith) (above_of e.0 es h.3))

pub sorted_of : (before : ℕ) (es : Blocks) → Ascend before es → IsStrictlySortedBy nat_cmp (keys_of es)
unfolding IsStrictlySortedBy
sorted_of before [] h = tt
sorted_of before (e ∷ es) h = (above_of e.0 es h.3, sorted_of e.0 es h.3)

pub blocks_of : (before : ℕ) (es : Blocks) → Ascend before es → AllByRecursion (λ e. length e.1 ≡ 512) es
blocks_of before [] h = tt
blocks_of before (e ∷ es) h = (h.1.block, blocks_of e.0 es h.3)

-- ---- the sectors that aren't zero

pub above_written : (before : ℕ) (es : Blocks) → Above before es → Above before (sectors_written es)
above_written before [] u = tt
above_written before (e ∷ es) u =
    by_test (λ (xs : Blocks). Above before xs) (e ∷ sectors_written es) (sectors_written es) (not (are_zero e.1))
    (λ t. (u.0, above_written before es u.1)) (λ t. above_written before es u.1)

pub sorted_written : (es : Blocks) → IsStrictlySortedBy nat_cmp (keys_of es) → IsStrictlySortedBy nat_cmp (keys_of (sectors_written es))
unfolding IsStrictlySortedBy
sorted_written [] s = tt
sorted_written (e ∷ es) s =
    by_test (λ (xs : Blocks). IsStrictlySortedBy nat_cmp (keys_of xs)) (e ∷ sectors_written es) (sectors_written es) (not (are_zero e.1))
    (λ t. (above_written e.0 es s.0, sorted_written es s.1)) (λ t. sorted_written es s.1)

pub all_written : (P : ℕ × List ℕ → Type 0) (es : Blocks) → AllByRecursion P es → AllByRecursion P (sectors_written es)
all_written P [] u = tt
all_written P (e ∷ es) u =
    by_test (AllByRecursion P) (e ∷ sectors_written es) (sectors_written es) (not (are_zero e.1))
    (λ t. (u.0, all_written P es u.1)) (λ t. all_written P es u.1)

pub written_not_zero : (es : Blocks) → AllByRecursion (λ e. are_zero e.1 ≡ false) (sectors_written es)
written_not_zero [] = tt
written_not_zero (e ∷ es) =
    by_test (AllByRecursion (λ (x : ℕ × List ℕ). are_zero x.1 ≡ false)) (e ∷ sectors_written es) (sectors_written es) (not (are_zero e.1))
    (λ t. (not-true (are_zero e.1) t, written_not_zero es)) (λ t. written_not_zero es)

pub written_all : (es : Blocks) → AllByRecursion (λ e. are_zero e.1 ≡ false) es → sectors_written es ≡ es
written_all [] h = refl
written_all (e ∷ es) h = rw (h.0) (ap (λ (xs : Blocks). e ∷ xs) (written_all es h.1))
