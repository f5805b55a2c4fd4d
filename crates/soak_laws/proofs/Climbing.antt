-- Lines whose numbers climb from one bound to another: they stand before lines that climb on from there, they ascend, and they are apart.
use Rattle.std.proofs.Common.{◌≡◌, ℕ, zero, suc, ◌+◌, ◌≤◌, ◌<◌, ◌==◌, true, false, not, ◌||◌, IsTrue, List, [], ◌∷◌, ◌++◌, nat_lt, refl, sym, subst, add-one, arith}
use Rattle.std.specs.List.{list_any}
use Rattle.std.proofs.lemmas.Bool.{and_from, and_parts}
use Rattle.std.proofs.lemmas.Bool.Decides.{nat_tests}
use Rattle.frang_base.specs.declared.script.Line.{Line}
use Rattle.frang_soak.specs.Scripts.{lines_at}
use Rattle.frang_soak.proofs.OneMore.{lines_at_more, lines_at_none}
use Rattle.script_places.specs.Placed.{all_above, ascends}
use Rattle.core_transcripts.specs.Transcripts.{are_apart}

-- each number is above the one before it, the first is at least the lower bound, and all are below the upper one
abbrev pub Climbs : ℕ → ℕ → List Line → Type 0
Climbs low high [] = low ≤ high
Climbs low high (line ∷ lines) = (low ≤ line.number) × Climbs (line.number + 1) high lines

-- lines that climb do so from every bound below
lower : (low least high : ℕ) (xs : List Line) → low ≤ least → Climbs least high xs → Climbs low high xs
lower low least high [] below climb = omega (arith, below, climb)
lower low least high (x ∷ xs) below climb = (omega (arith, below, climb.0), climb.1)

-- lines may stand before others that climb on from there
pub joined : (low mid high : ℕ) (xs ys : List Line) → Climbs low mid xs → Climbs mid high ys → Climbs low high (xs ++ ys)
joined low mid high [] ys first then = lower low mid high ys first then
joined low mid high (x ∷ xs) ys first then = (first.0, joined (x.number + 1) mid high xs ys first.1 then)

-- one line alone
pub one : (low : ℕ) (line : Line) → line.number ≡ low → Climbs low (low + 1) (line ∷ [])
one low line is = (omega (arith, is), omega (arith, is))

-- a line for each of so many places, whose numbers are the places behind a base
pub at_places : (line : ℕ → Line) (base : ℕ) → ((place : ℕ) → (line place).number ≡ base + place) → (count : ℕ) → Climbs base (base + count) (lines_at line count)
at_places line base is zero = subst (Climbs base (base + 0)) (sym (lines_at_none line)) (omega arith)
at_places line base is (suc count) =
    subst (λ places. Climbs base (base + places) (lines_at line places)) (add-one count)
    (subst (Climbs base (base + (count + 1))) (sym (lines_at_more line count))
    (subst (λ high. Climbs base high (lines_at line count ++ line count ∷ [])) (further count)
    (joined base (base + count) (base + count + 1) (lines_at line count) (line count ∷ []) (at_places line base is count) (one (base + count) (line count) (is count)))))
  where
    further : (count : ℕ) → base + count + 1 ≡ base + (count + 1)
    further count = omega arith

-- ---- they ascend, and are apart

-- the numbers are above each that is below the lower bound
above : (n low high : ℕ) (xs : List Line) → n < low → Climbs low high xs → IsTrue (all_above n xs)
above n low high [] below climb = refl
above n low high (x ∷ xs) below climb =
    and_from (nat_lt n x.number) (all_above n xs) (lt_true n x.number (omega (arith, below, climb.0))) (above n (x.number + 1) high xs (omega (arith, below, climb.0)) climb.1)
  where
    lt_true : (a b : ℕ) → a < b → nat_lt a b ≡ true
    lt_true a b less = grind (arith, nat_tests)

pub ascending : (low high : ℕ) (xs : List Line) → Climbs low high xs → IsTrue (ascends xs)
ascending low high [] climb = refl
ascending low high (x ∷ xs) climb =
    and_from (all_above x.number xs) (ascends xs) (above x.number (x.number + 1) high xs (omega arith) climb.1) (ascending (x.number + 1) high xs climb.1)

-- none of the lines above a number has it
not_among : (n : ℕ) (xs : List Line) → IsTrue (all_above n xs) → IsTrue (not (list_any (λ other. other.number == n) xs))
not_among n [] all = refl
not_among n (x ∷ xs) all =
    subst (λ b. IsTrue (not (b || list_any (λ other. other.number == n) xs))) (sym (differs n x.number (and_parts (nat_lt n x.number) (all_above n xs) all).0))
    (not_among n xs (and_parts (nat_lt n x.number) (all_above n xs) all).1)
  where
    differs : (a b : ℕ) → nat_lt a b ≡ true → (b == a) ≡ false
    differs a b less = grind (arith, nat_tests, less)

-- lines that ascend are apart
pub apart : (xs : List Line) → IsTrue (ascends xs) → IsTrue (are_apart xs)
apart [] up = refl
apart (x ∷ xs) up =
    and_from (not (list_any (λ other. other.number == x.number) xs)) (are_apart xs)
    (not_among x.number xs (and_parts (all_above x.number xs) (ascends xs) up).0) (apart xs (and_parts (all_above x.number xs) (ascends xs) up).1)
