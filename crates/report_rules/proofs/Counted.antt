-- Counts that stop at their greatest: one of them more, and of more after more.
use Rattle.std.proofs.Common.{◌==◌, ◌≡◌, ◌≢◌, ℕ, zero, suc, ◌+◌, ◌*◌, ◌<◌, ◌≤◌, ⊎_elim, Bool, true, false, List, [], ◌∷◌, length, min, cond, set, replicate, get_or, refl, sym, ◌∙◌, ap, subst, arith, nat_le, eq-eqb, ne_eqb, le-leb, leb-true, length-set, get_or-set_same, get_or-set_other}
use Rattle.std.proofs.lemmas.Bool.{cases_eq, cases_lt}
use Rattle.disk_definitions.specs.Store.{Store}
use Rattle.disk_reading.specs.Names.{counted}
use Rattle.report_definitions.specs.Sums.{sum_below, count_below}
use Rattle.report_definitions.specs.Rules.{names_by, names_to}
use Rattle.report_rules.specs.Seen.{stored}
use Rattle.report_rules.specs.Names.{HaveCounted, AreNames}

plus_none : (x m : ℕ) → m ≡ 0 → counted x ≡ counted (x + m)
plus_none x m e = let q : x ≡ x + m = omega arith in ap counted q

-- nothing more
pub counted_nothing : (more : ℕ → ℕ) (counts : List ℕ) → ((i : ℕ) → more i ≡ 0) → HaveCounted more counts counts
counted_nothing more counts h = record { long = refl; each = λ i l. plus_none (get_or counts i 0) (more i) (h i) }

-- one of them once more
pub counted_one : (counts : List ℕ) (k v : ℕ) → k < length counts → v ≡ min (get_or counts k 0 + 1) 18446744073709551615 → HaveCounted (λ i. cond (k == i) 1 0) counts (set counts k v)
counted_one counts k v l e = record { long = length-set counts k v; each = λ i h. ⊎_elim (λ s. same i s) (λ ne. other i ne) (cases_eq k i) }
  where
    same : (i : ℕ) → k ≡ i → counted (get_or (set counts k v) i 0) ≡ counted (get_or counts i 0 + cond (k == i) 1 0)
    same i s = subst (λ i. counted (get_or (set counts k v) i 0) ≡ counted (get_or counts i 0 + cond (k == i) 1 0)) s
        (ap counted (get_or-set_same counts k v 0 l ∙ e) ∙ (let q : min (min (get_or counts k 0 + 1) 18446744073709551615) 18446744073709551615 ≡ min (get_or counts k 0 + 1) 18446744073709551615 = omega arith in q)
        ∙ ap (λ b. counted (get_or counts k 0 + cond b 1 0)) (sym (eq-eqb k k refl)))

    other : (i : ℕ) → k ≢ i → counted (get_or (set counts k v) i 0) ≡ counted (get_or counts i 0 + cond (k == i) 1 0)
    other i ne = ap counted (get_or-set_other counts k i v 0 (λ s. ne (sym s))) ∙ plus_none (get_or counts i 0) (cond (k == i) 1 0) (ap (λ b. cond b 1 0) (ne_eqb k i ne))

-- what is read at a place doesn't depend on what stands for one past the end
read_is : (counts : List ℕ) (k r : ℕ) → k < length counts → r ≡ get_or counts k r → get_or counts k 0 ≡ r
read_is [] k r l e = absurd (omega arith)
read_is (x ∷ counts) zero r l e = sym e
read_is (x ∷ counts) (suc k) r l e = read_is counts k r (omega arith) e

pub counted_read : (counts : List ℕ) (k r v : ℕ) → k < length counts → r ≡ get_or counts k r → v ≡ min (r + 1) 18446744073709551615 → HaveCounted (λ i. cond (k == i) 1 0) counts (set counts k v)
counted_read counts k r v l e g = counted_one counts k v l (g ∙ ap (λ n. min (n + 1) 18446744073709551615) (sym (read_is counts k r l e)))

-- of more after more
pub counted_more : (m n : ℕ → ℕ) (a b c : List ℕ) → HaveCounted m a b → HaveCounted n b c → HaveCounted (λ i. m i + n i) a c
counted_more m n a b c h g = record { long = g.long ∙ h.long; each = each }
  where
    each : (i : ℕ) → i < length a → counted (get_or c i 0) ≡ counted (get_or a i 0 + (m i + n i))
    each i l =
        let s : i < length b = (let e : length b ≡ length a = h.long in omega arith) in
        let x : min (get_or b i 0) 18446744073709551615 ≡ min (get_or a i 0 + m i) 18446744073709551615 = h.each i l in
        let y : min (get_or c i 0) 18446744073709551615 ≡ min (get_or b i 0 + n i) 18446744073709551615 = g.each i s in
        omega arith

-- one number more of a sum
pub sum_more : (f : ℕ → ℕ → ℕ) (q : ℕ) (a b c : List ℕ) → HaveCounted (λ i. sum_below q (λ d. f d i)) a b → HaveCounted (f q) b c → HaveCounted (λ i. sum_below (q + 1) (λ d. f d i)) a c
sum_more f q a b c h g =
    let e : suc q ≡ q + 1 = omega arith in
    subst (λ n. HaveCounted (λ i. sum_below n (λ d. f d i)) a c) e (counted_more (λ i. sum_below q (λ d. f d i)) (f q) a b c h g)

-- one number more that passes or doesn't
pub count_more : (n : ℕ) (p : ℕ → Bool) → count_below (n + 1) p ≡ count_below n p + cond (p n) 1 0
count_more n p = let e : n + 1 ≡ suc n = omega arith in ap (λ k. count_below k p) e

-- what a count that stops at its greatest says beside smaller numbers
pub capped : (n r l : ℕ) → counted r ≡ counted n → r < 18446744073709551616 → l < 4294967296 → (r == l) ≡ (n == l)
capped n r l h f g = ⊎_elim
    (λ e. (let z : r ≡ l = omega arith in eq-eqb r l z ∙ sym (eq-eqb n l e)))
    (λ ne. ne_eqb r l (λ e. ne (omega arith)) ∙ sym (ne_eqb n l ne)) (cases_eq n l)

not_le_one : (m : ℕ) → 1 < m → nat_le m 1 ≡ false
not_le_one m l = go (nat_le m 1) refl
  where
    go : (b : Bool) → nat_le m 1 ≡ b → b ≡ false
    go true e = let z : m ≤ 1 = leb-true m 1 e in absurd (omega arith)
    go false e = refl

pub capped_once : (n r o : ℕ) → counted r ≡ counted n → r < 18446744073709551616 → o ≤ 1 → nat_le (min (r + o) 18446744073709551615) 1 ≡ nat_le (n + o) 1
capped_once n r o h f g = ⊎_elim
    (λ l. (let z : 1 < min (r + o) 18446744073709551615 = omega arith in not_le_one (min (r + o) 18446744073709551615) z ∙ sym (not_le_one (n + o) l)))
    (λ l. (let z : min (r + o) 18446744073709551615 ≤ 1 = omega arith in le-leb (min (r + o) 18446744073709551615) 1 z ∙ sym (le-leb (n + o) 1 l))) (cases_lt 1 (n + o))

abbrev zeros_of : ℕ → List ℕ
zeros_of n = replicate n 0

zero_at : (n i : ℕ) → get_or (zeros_of n) i 0 ≡ 0
zero_at zero i = refl
zero_at (suc n) zero = refl
zero_at (suc n) (suc i) = zero_at n i

length_zeros : (n : ℕ) → length (zeros_of n) ≡ n
length_zeros zero = refl
length_zeros (suc n) = ap suc (length_zeros n)

-- the names of all that is reached
pub names_are : (segments : ℕ) (s : Store) (reached : ℕ → Bool) (n : ℕ) (before counts : List ℕ) → n ≡ 64 * segments → before ≡ replicate (64 * segments) 0
    → HaveCounted (λ i. sum_below n (λ d. cond (reached d) (names_by s d i) 0)) before counts → AreNames segments s reached counts
names_are segments s reached n before counts e z a = record { long = a.long ∙ ap (λ (l : List ℕ). length l) z ∙ length_zeros (64 * segments); each = each }
  where
    each : (i : ℕ) → i < 64 * segments → counted (get_or counts i 0) ≡ counted (names_to (stored segments s) reached i)
    each i l =
        let m : length before ≡ 64 * segments = ap (λ (l : List ℕ). length l) z ∙ length_zeros (64 * segments) in
        let h : i < length before = omega arith in
        let o : get_or before i 0 ≡ 0 = ap (λ (l : List ℕ). get_or l i 0) z ∙ zero_at (64 * segments) i in
        let q : get_or before i 0 + names_to (stored segments s) reached i ≡ names_to (stored segments s) reached i = omega arith in
        a.each i h ∙ ap (λ n. counted (get_or before i 0 + sum_below n (λ d. cond (reached d) (names_by s d i) 0))) e ∙ ap counted q
