-- How many states pass a test, as sectors come, change and go.
use Rattle.std.proofs.Common.{◌≡◌, ℕ, suc, ◌+◌, ◌≤◌, Bool, true, false, if◌then◌else◌, find, is_some, [], ◌∷◌, length, nat_lt, Some, refl, sym, ap, ◌∙◌, arith}
use Rattle.std.proofs.lemmas.Bool.Decides.{nat_tests}
use Rattle.std.specs.List.Sorted.{IsStrictlySortedBy}
use Rattle.std.specs.BTreeMap.{is_at}
use Rattle.std.specs.Option.{option_map}
use Rattle.std.specs.Ordering.{nat_cmp, match_ordering, is_eq}
use Rattle.std.specs.declared.cmp.Ordering.{Ordering}
use Rattle.std.specs.declared.cmp.Ordering.TheVariants.{Less, Equal, Greater}
use Rattle.sector_bytes.specs.SectorMaps.{value_at, with_value, without, Ascend}
use Rattle.sector_bytes.proofs.MapLaws.{above_more, absent}
use Rattle.clerk_cache.specs.declared.state.SectorState.{SectorState}
use Rattle.clerk_cache.specs.Kept.{count_of, first_state, one_if}
use Rattle.clerk_cache.proofs.Joining.{States}

module _ (test : SectorState → Bool) where
  at_most_one : (t : Bool) → (if t then 1 else 0) ≤ 1
  at_most_one true = omega arith
  at_most_one false = omega arith

  pub count_within : (states : States) → count_of test states ≤ length states
  count_within [] = omega arith
  count_within (entry ∷ states) = more (if test entry.1 then 1 else 0) (count_of test states) (length states) (at_most_one (test entry.1)) (count_within states)
    where
      more : (a b n : ℕ) → a ≤ 1 → b ≤ n → a + b ≤ suc n
      more a b n first rest = omega arith

  -- some passes exactly where the count is more than none
  pub some_counted : (states : States) → is_some (first_state test states) ≡ nat_lt 0 (count_of test states)
  some_counted [] = refl
  some_counted (entry ∷ states) = go (test entry.1) (some_counted states)
    where
      go : (t : Bool) → is_some (first_state test states) ≡ nat_lt 0 (count_of test states)
          → is_some (option_map (λ e. e.0) (if t then Some entry else find (λ e. test e.1) states)) ≡ nat_lt 0 ((if t then 1 else 0) + count_of test states)
      go true rest = sym (more (count_of test states))
        where
          more : (n : ℕ) → nat_lt 0 (1 + n) ≡ true
          more n = grind (arith, nat_tests)
      go false rest = rest ∙ ap (nat_lt 0) (none (count_of test states))
        where
          none : (n : ℕ) → n ≡ 0 + n
          none n = omega arith

  module _ (sector : ℕ) where
    pub count-with : (state : SectorState) (states : States) → Ascend states
        → count_of test (with_value states sector state) + one_if test (value_at states sector) ≡ count_of test states + one_if test (Some state)
    unfolding IsStrictlySortedBy
    count-with state [] sorted = omega arith
    count-with state (entry ∷ states) sorted = go (nat_cmp sector entry.0) refl (count-with state states sorted.1)
      where
        go : (o : Ordering) → nat_cmp sector entry.0 ≡ o → count_of test (with_value states sector state) + one_if test (value_at states sector) ≡ count_of test states + one_if test (Some state)
            → count_of test (match_ordering o ((sector, state) ∷ entry ∷ states) ((entry.0, state) ∷ states) (entry ∷ with_value states sector state)) + one_if test (if is_eq o then Some entry.1 else value_at states sector)
            ≡ count_of test (entry ∷ states) + one_if test (Some state)
        go Less is rest =
            let none : one_if test (value_at states sector) ≡ 0 = ap (one_if test) (absent sector states (above_more sector entry.0 states is sorted.0)) in
            omega (arith, none)
        go Equal is rest = omega arith
        go Greater is rest = omega (arith, rest)

    pub count-without : (states : States) → count_of test (without states sector) + one_if test (value_at states sector) ≡ count_of test states
    count-without [] = omega arith
    count-without (entry ∷ states) = go (is_at (nat_cmp sector) entry.0) (count-without states)
      where
        go : (t : Bool) → count_of test (without states sector) + one_if test (value_at states sector) ≡ count_of test states
            → count_of test (if t then states else entry ∷ without states sector) + one_if test (if t then Some entry.1 else value_at states sector) ≡ count_of test (entry ∷ states)
        go true rest = omega arith
        go false rest = omega (arith, rest)

    pub there_counts : (states : States) → one_if test (value_at states sector) ≤ count_of test states
    there_counts states = omega (arith, count-without states)
