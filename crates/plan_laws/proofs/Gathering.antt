-- A look at all sectors of a directory gathers the entries of all its places.
use Rattle.std.proofs.Common.{ℕ, zero, suc, ◌≡◌, ◌<◌, ◌≤◌, ◌+◌, ◌-◌, ◌*◌, ◌/◌, ◌%◌, ◌⊎◌, ⊎_elim, Bool, true, false, nat_lt, ◌||◌, Option, Some, None, List, [], ◌∷◌, ◌++◌, refl, sym, ◌∙◌, ap, ap₂, subst, arith}
use Rattle.std.proofs.lemmas.Bool.{cases_eq, cases_lt, or_left, or_right, or_cases}
use Rattle.std.proofs.lemmas.Bool.Decides.{nat_tests}
use Rattle.std.proofs.lemmas.List.Elements.{filter_map-append}
use Rattle.std.specs.List.{filter_map, cons_option}
use Rattle.std.specs.Ordering.{nat_cmp}
use Rattle.std.specs.Cmp.Lexicographic.{slice_cmp}
use Rattle.std.specs.BTreeMap.{is_at}
use mathlib.Core.Bool.{or_assoc}
use Rattle.tree_definitions.specs.Numbers.{below}
use Rattle.tree_definitions.proofs.Pairs.{name_exact, tie, self}
use Rattle.disk_definitions.specs.Store.{Store, StoredEntry}
use Rattle.disk_definitions.specs.Naming.{place_of}
use Rattle.disk_definitions.specs.Ask.{Ask, seven, run}
use Rattle.disk_definitions.specs.Plans.{Plan}
use Rattle.disk_definitions.specs.LookPlans.{entries_of, read_entries}

abbrev pub gathered : Store → (ℕ → ℕ) → ℕ → ℕ → List StoredEntry
gathered s small j zero = []
gathered s small j (suc n) = entries_of (seven s.place (small (j / 8)) (j % 8)) ++ gathered s small (j + 1) n

pub run-entries : (s : Store) (small : ℕ → ℕ) (j n : ℕ) (next : List StoredEntry → Ask Plan) → run (read_entries small j n next) s ≡ run (next (gathered s small j n)) s
run-entries s small j zero next = refl
run-entries s small j (suc n) next = run-entries s small (j + 1) n (λ more. next (entries_of (seven s.place (small (j / 8)) (j % 8)) ++ more))

-- an entry of this name is among them
abbrev pub has_name : List ℕ → List StoredEntry → Bool
has_name m [] = false
has_name m (e ∷ es) = is_at (slice_cmp nat_cmp m) e.name || has_name m es

among-append : (m : List ℕ) (xs ys : List StoredEntry) → has_name m (xs ++ ys) ≡ (has_name m xs || has_name m ys)
among-append m [] ys = refl
among-append m (x ∷ xs) ys = ap (λ b. is_at (slice_cmp nat_cmp m) x.name || b) (among-append m xs ys) ∙ sym (or_assoc (is_at (slice_cmp nat_cmp m) x.name) (has_name m xs) (has_name m ys))

-- an entry of this name stands at a place in a range
pub record IsPlaced (row : ℕ → Option StoredEntry) (low high : ℕ) (m : List ℕ) : Type 0 where
  pub spot : ℕ
  pub entry : StoredEntry
  pub from : low ≤ spot
  pub to : spot < high
  pub stands : row spot ≡ Some entry
  pub named : m ≡ entry.name

module _ (m : List ℕ) where
  abbrev row_names : (ℕ → Option StoredEntry) → ℕ → Bool
  row_names row n = has_name m (filter_map row (below n))

  one_more : (row : ℕ → Option StoredEntry) (n : ℕ) → row_names row (suc n) ≡ (row_names row n || has_name m (cons_option (row n) []))
  one_more row n = ap (has_name m) (filter_map-append row (below n) (n ∷ [])) ∙ among-append m (filter_map row (below n)) (cons_option (row n) [])

  last_named : (o : Option StoredEntry) (e : StoredEntry) → o ≡ Some e → m ≡ e.name → has_name m (cons_option o []) ≡ true
  last_named o e i named = rw i (or_left (is_at (slice_cmp nat_cmp m) e.name) false (subst (λ z. is_at (slice_cmp nat_cmp m) z ≡ true) named (self (slice_cmp nat_cmp) name_exact m)))

  pub row_has : (row : ℕ → Option StoredEntry) (n r : ℕ) (e : StoredEntry) → r < n → row r ≡ Some e → m ≡ e.name → row_names row n ≡ true
  row_has row zero r e l i named = absurd (omega arith)
  row_has row (suc n) r e l i named =
      one_more row n ∙ ⊎_elim
      (λ q. or_right (row_names row n) (has_name m (cons_option (row n) [])) (last_named (row n) e (ap row (sym q) ∙ i) named))
      (λ q. or_left (row_names row n) (has_name m (cons_option (row n) [])) (row_has row n r e (grind arith) i named))
      (cases_eq r n)

  last_is : (o : Option StoredEntry) → has_name m (cons_option o []) ≡ true → (e : StoredEntry) × (o ≡ Some e) × (m ≡ e.name)
  last_is None h = absurd (cc)
  last_is (Some e) h = (e, refl, tie (slice_cmp nat_cmp) name_exact m e.name (⊎_elim (λ q. q) (λ q. absurd (cc)) (or_cases (is_at (slice_cmp nat_cmp m) e.name) false h)))

  pub row_from : (row : ℕ → Option StoredEntry) (n : ℕ) → row_names row n ≡ true → IsPlaced row 0 n m
  row_from row zero h = absurd (cc)
  row_from row (suc n) h = ⊎_elim
      (λ q. let r = row_from row n q in let l : r.spot < n = r.to in record { spot = r.spot; entry = r.entry; from = r.from; to = omega arith; stands = r.stands; named = r.named })
      (λ q. let r = last_is (row n) q in record { spot = n; entry = r.0; from = omega arith; to = omega arith; stands = r.1; named = r.2 })
      (or_cases (row_names row n) (has_name m (cons_option (row n) [])) (sym (one_more row n) ∙ h))

  module _ (s : Store) (small : ℕ → ℕ) where
    abbrev part : ℕ → ℕ → Option StoredEntry
    part j = seven s.place (small (j / 8)) (j % 8)

    part_is : (j r : ℕ) → r < 7 → part j r ≡ place_of s.place small (7 * j + r)
    part_is j r l =
        let a : j / 8 ≡ (7 * j + r) / 56 = omega arith in
        let b : 7 * (j % 8) + r ≡ (7 * j + r) % 56 = omega arith in
        let c : nat_lt r 7 ≡ true = grind (arith, nat_tests) in
        rw c (ap₂ (λ k p. s.place (small k) p) a b)

    pub gathered_has : (n j q : ℕ) (e : StoredEntry) → 7 * j ≤ q → q < 7 * (j + n) → place_of s.place small q ≡ Some e → m ≡ e.name → has_name m (gathered s small j n) ≡ true
    gathered_has zero j q e lo hi i named = absurd (omega arith)
    gathered_has (suc n) j q e lo hi i named =
        let here = has_name m (entries_of (part j)) in
        let more = has_name m (gathered s small (j + 1) n) in
        among-append m (entries_of (part j)) (gathered s small (j + 1) n) ∙ ⊎_elim
        (λ l. let at : 7 * j + (q - 7 * j) ≡ q = omega arith in
        or_left here more (row_has (part j) 7 (q - 7 * j) e (omega arith) (part_is j (q - 7 * j) (omega arith) ∙ ap (place_of s.place small) at ∙ i) named))
        (λ l. or_right here more (gathered_has n (j + 1) q e (omega arith) (omega arith) i named))
        (cases_lt q (7 * (j + 1)))

    pub gathered_from : (n j : ℕ) → has_name m (gathered s small j n) ≡ true → IsPlaced (place_of s.place small) (7 * j) (7 * (j + n)) m
    gathered_from zero j h = absurd (cc)
    gathered_from (suc n) j h = ⊎_elim
        (λ q. let r = row_from (part j) 7 q in let l : r.spot < 7 = r.to in record { spot = 7 * j + r.spot; entry = r.entry; from = omega arith; to = omega arith; stands = sym (part_is j r.spot r.to) ∙ r.stands; named = r.named })
        (λ q. let r = gathered_from n (j + 1) q in let a : 7 * (j + 1) ≤ r.spot = r.from in let b : r.spot < 7 * (j + 1 + n) = r.to in
        record { spot = r.spot; entry = r.entry; from = omega arith; to = omega arith; stands = r.stands; named = r.named })
        (or_cases (has_name m (entries_of (part j))) (has_name m (gathered s small (j + 1) n)) (sym (among-append m (entries_of (part j)) (gathered s small (j + 1) n)) ∙ h))
