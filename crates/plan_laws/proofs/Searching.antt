-- A search finds the least place that passes.
use Rattle.std.proofs.Common.{◌≡◌, ℕ, zero, suc, ◌+◌, ◌-◌, ◌*◌, ◌/◌, ◌%◌, ◌<◌, Bool, true, false, nat_lt, Option, Some, None, refl, sym, ◌∙◌, ap, ap₂, arith}
use Rattle.std.proofs.lemmas.Bool.Decides.{nat_tests}
use Rattle.std.specs.Option.{option_map}
use Rattle.disk_definitions.specs.Store.{Store, StoredEntry}
use Rattle.disk_definitions.specs.Naming.{place_of}
use Rattle.disk_definitions.specs.Least.{least_from, least}
use Rattle.disk_definitions.proofs.LeastLaws.{least_below, from_none, passed_over, found_at, least_some, least_nothing}
use Rattle.disk_definitions.specs.Ask.{seven, run}
use Rattle.disk_definitions.specs.Walks.{Found, or_on, hit, search}
use Rattle.plan_laws.specs.Walking.{SearchFindsTheLeast}

-- a place of a row with what stands there
abbrev pub found_in : (ℕ → Option StoredEntry) → Option ℕ → Option Found
found_in row o = option_map (λ q. (q, row q)) o

module _ (small : ℕ → ℕ) (test : Option StoredEntry → Bool) (s : Store) where
  abbrev row : ℕ → Option StoredEntry
  row = place_of s.place small

  abbrev passes : ℕ → Bool
  passes q = test (row q)

  -- the seven places of a sector
  abbrev part : ℕ → ℕ → Option StoredEntry
  part j = seven s.place (small (j / 8)) (j % 8)

  part_is : (j r : ℕ) → r < 7 → part j r ≡ row (7 * j + r)
  part_is j r l =
      let a : j / 8 ≡ (7 * j + r) / 56 = omega arith in
      let b : 7 * (j % 8) + r ≡ (7 * j + r) % 56 = omega arith in
      let c : nat_lt r 7 ≡ true = grind (arith, nat_tests) in
      rw c (ap₂ (λ k p. s.place (small k) p) a b)

  one_sector : (j n : ℕ) → run (search small test (j + 1) n) s ≡ found_in row (least_from passes (7 * (j + 1)) (7 * n)) → (o : Option ℕ) → least (λ r. test (part j r)) 7 ≡ o →
      run (or_on (hit test j (part j) o) (search small test (j + 1) n)) s ≡ found_in row (least_from passes (7 * j) (7 * suc n))
  one_sector j n rest None e =
      let none : least_from passes (7 * j) (7 + 7 * n) ≡ least_from passes (7 * j + 7) (7 * n) = passed_over passes (7 * j) 7 (7 * n)
      (λ q lo hi. let i : 7 * j + (q - 7 * j) ≡ q = omega arith in
      let f : test (part j (q - 7 * j)) ≡ false = least_nothing (λ r. test (part j r)) 7 e (q - 7 * j) (omega arith) in
      ap test (ap row (sym i) ∙ sym (part_is j (q - 7 * j) (omega arith))) ∙ f) in
      let a : 7 * (j + 1) ≡ 7 * j + 7 = omega arith in
      let b : 7 * suc n ≡ 7 + 7 * n = omega arith in
      let c : least_from passes (7 * (j + 1)) (7 * n) ≡ least_from passes (7 * j) (7 * suc n) = ap (λ k. least_from passes k (7 * n)) a ∙ sym none ∙ ap (λ k. least_from passes (7 * j) k) (sym b) in
      rest ∙ ap (found_in row) c
  one_sector j n rest (Some r) e =
      let w = least_some (λ r. test (part j r)) 7 r e in
      let l : r < 7 = w.1 in
      let a : 7 * j + 7 * suc n - 7 * j ≡ 7 * suc n = omega arith in
      let at : least_from passes (7 * j) (7 * j + 7 * suc n - 7 * j) ≡ Some (7 * j + r) = found_at passes (7 * j) (7 * j + r) (7 * j + 7 * suc n) (omega arith) (omega arith)
      (ap test (sym (part_is j r l)) ∙ w.0)
      (λ q lo hi. let i : 7 * j + (q - 7 * j) ≡ q = omega arith in
      let f : test (part j (q - 7 * j)) ≡ false = w.2 (q - 7 * j) (omega arith) in
      ap test (ap row (sym i) ∙ sym (part_is j (q - 7 * j) (omega arith))) ∙ f) in
      let b : least_from passes (7 * j) (7 * suc n) ≡ Some (7 * j + r) = ap (λ k. least_from passes (7 * j) k) (sym a) ∙ at in
      let c : Some (7 * j + r, part j r) ≡ found_in row (Some (7 * j + r)) = ap (λ x. Some (7 * j + r, x)) (part_is j r l) in
      c ∙ ap (found_in row) (sym b)

  search_from : (j n : ℕ) → run (search small test j n) s ≡ found_in row (least_from passes (7 * j) (7 * n))
  search_from j zero = sym (ap (found_in row) (from_none passes (7 * j)))
  search_from j (suc n) = one_sector j n (search_from (j + 1) n) (least (λ r. test (part j r)) 7) refl

  pub run-search : (n : ℕ) → run (search small test 0 n) s ≡ found_in row (least passes (7 * n))
  run-search n = search_from 0 n ∙ ap (found_in row) (sym (least_below passes (7 * n)))

pub search_finds_the_least : SearchFindsTheLeast
search_finds_the_least small test n s = run-search small test s n
