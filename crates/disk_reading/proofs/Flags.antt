-- One number more among those that are flagged.
use Rattle.std.proofs.Common.{◌==◌, ◌≡◌, ℕ, zero, suc, ◌+◌, ◌<◌, ⊎_elim, Bool, true, false, not, ◌&&◌, ◌||◌, Option, Some, None, List, [], ◌∷◌, ◌++◌, take, length, replicate, get_or, refl, sym, ◌∙◌, ap, subst, arith, eq-eqb, ne_eqb, length-set, get_or-set_same, get_or-set_other}
use Rattle.std.proofs.lemmas.Bool.{cases_eq, and_from, or_right, not_from_false, not_from_true, both_ways}
use mathlib.Core.Bool.{or-false}
use Rattle.standing_laws.specs.Below.{all_below, holds, lists, is_new, are_distinct}
use Rattle.standing_laws.proofs.Bounded.{all_more, any_more, all_at}
use Rattle.disk_reading.specs.Marks.{flag_at, has_flag, flagged, AreFlags, IsBelow}

-- what isn't flagged is new
new_is : (f : ℕ → Option ℕ) (n : ℕ) (flags : List Bool) (a : AreFlags f n flags) (o : Option ℕ) → IsBelow (length flags) o → is_new f n o ≡ not (has_flag flags o)
new_is f n flags a None b = refl
new_is f n flags a (Some k) b = ap not (sym (a.each k b))

pub length_flagged : (flags : List Bool) (o : Option ℕ) → length (flagged flags o) ≡ length flags
length_flagged flags None = refl
length_flagged flags (Some k) = length-set flags k true

one_flag : (f : ℕ → Option ℕ) (n : ℕ) (flags : List Bool) (a : AreFlags f n flags) (o : Option ℕ) → IsBelow (length flags) o → (k : ℕ) → k < length flags → flag_at (flagged flags o) k ≡ (lists f n k || holds o k)
one_flag f n flags a None b k l = a.each k l ∙ sym (or-false (lists f n k))
one_flag f n flags a (Some j) b k l = ⊎_elim
    (λ e. subst (λ j. flag_at (flagged flags (Some j)) k ≡ (lists f n k || holds (Some j) k)) e (get_or-set_same flags k true false l ∙ sym (or_right (lists f n k) (k == k) (eq-eqb k k refl))))
    (λ ne. get_or-set_other flags j k true false ne ∙ a.each k l ∙ plain (lists f n k) (j == k) (ne_eqb j k (λ e. ne (sym e)))) (cases_eq k j)
  where
    plain : (x y : Bool) → y ≡ false → x ≡ (x || y)
    plain true y e = refl
    plain false y e = sym e

-- a further number that wasn't flagged
pub flags_more : (f : ℕ → Option ℕ) (n : ℕ) (flags : List Bool) → AreFlags f n flags → IsBelow (length flags) (f n) → has_flag flags (f n) ≡ false → AreFlags f (n + 1) (flagged flags (f n))
flags_more f n flags a b h = record {
  distinct = all_more n (λ t. is_new f t (f t)) ∙ and_from (are_distinct f n) (is_new f n (f n)) a.distinct (new_is f n flags a (f n) b ∙ not_from_false (has_flag flags (f n)) h);
  each = λ k l. one_flag f n flags a (f n) b k (subst (λ m. k < m) (length_flagged flags (f n)) l) ∙ sym (any_more n (λ t. holds (f t) k));
}

-- a further number that was flagged: then not all differ
pub flags_met : (f : ℕ → Option ℕ) (n size : ℕ) (flags : List Bool) → AreFlags f n flags → IsBelow (length flags) (f n) → n < size → has_flag flags (f n) ≡ true → are_distinct f size ≡ false
flags_met f n size flags a b l h = go (are_distinct f size) refl
  where
    go : (t : Bool) → are_distinct f size ≡ t → t ≡ false
    go false e = refl
    go true e = absurd (both_ways (is_new f n (f n)) (new_is f n flags a (f n) b ∙ not_from_true (has_flag flags (f n)) h) (all_at size (λ t. is_new f t (f t)) e n l))

-- before the first number nothing is flagged
pub no_flags : (f : ℕ → Option ℕ) (size : ℕ) → AreFlags f 0 (replicate size false)
no_flags f size = record { distinct = refl; each = λ k l. unset size k }
  where
    unset : (size k : ℕ) → get_or (replicate size false) k false ≡ false
    unset zero k = refl
    unset (suc size) zero = refl
    unset (suc size) (suc k) = unset size k

-- flags are what is listed
pub all_same : (n : ℕ) (f g : ℕ → Bool) → ((k : ℕ) → k < n → f k ≡ g k) → all_below n f ≡ all_below n g
all_same zero f g h = refl
all_same (suc n) f g h = ap (λ b. b && f n) (all_same n f g (λ k l. h k (omega arith))) ∙ ap (λ b. all_below n g && b) (h n (omega arith))

-- the flags of all, and what is so of those without one
pub flags_all : (f : ℕ → Option ℕ) (n size : ℕ) (flags : List Bool) (test : ℕ → Bool) → AreFlags f n flags → length flags ≡ size → all_below size (λ k. flag_at flags k || test k) ≡ (are_distinct f n && all_below size (λ k. lists f n k || test k))
flags_all f n size flags test a l = all_same size (λ k. flag_at flags k || test k) (λ k. lists f n k || test k) (λ k h. ap (λ b. b || test k) (a.each k (subst (λ m. k < m) (sym l) h))) ∙ sym (ap (λ b. b && all_below size (λ k. lists f n k || test k)) a.distinct)

-- what a slice of a whole vector leaves of it
pub kept : (new rest : List Bool) (n : ℕ) → length new ≡ n → take n (new ++ rest) ≡ new
kept new rest n e = ap (λ k. take k (new ++ rest)) (sym e) ∙ whole new
  where
    whole : (xs : List Bool) → take (length xs) (xs ++ rest) ≡ xs
    whole [] = refl
    whole (x ∷ xs) = ap (λ l. x ∷ l) (whole xs)
