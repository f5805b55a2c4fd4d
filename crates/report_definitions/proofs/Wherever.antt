-- Tests of a block wherever a directory that is reached has it, and tests of rows of numbers.
use Rattle.std.proofs.Common.{◌==◌, ◌≡◌, ℕ, ◌+◌, ◌*◌, ◌/◌, ◌%◌, ◌<◌, ⊎_elim, Bool, true, false, not, ◌&&◌, ◌||◌, Option, Some, None, cond, refl, ◌∙◌, ap, subst, arith, nat_lt, eqb-true, eq-eqb, ltb-true, lt-ltb}
use Rattle.std.proofs.lemmas.Bool.{and_parts, and_from, or_cases, or_left, or_right, not-true, not_from_false, both_ways, cond-true}
use Rattle.disk_definitions.specs.Store.{StoredNode}
use Rattle.standing_laws.specs.Below.{all_below, holds}
use Rattle.standing_laws.proofs.Bounded.{all_at, all_from, holds_at, holds_from}
use Rattle.report_definitions.specs.View.{View}
use Rattle.report_definitions.specs.Rules.{directory_block_in, directory_block, wherever}

pub block_of_directory : (o : Option StoredNode) (x : StoredNode) (j : ℕ) → o ≡ Some x → x.kind ≡ 2 → j < x.blocks → holds (directory_block_in o j) (x.small j) ≡ true
block_of_directory o x j e k l = holds_from (directory_block_in o j) (x.small j)
    (ap (λ (o : Option StoredNode). directory_block_in o j) e ∙ cond-true (x.kind == 2 && nat_lt j x.blocks) (Some (x.small j)) None (and_from (x.kind == 2) (nat_lt j x.blocks) (eq-eqb x.kind 2 k) (lt-ltb j x.blocks l)))

pub directory_of_block : (o : Option StoredNode) (j b : ℕ) → holds (directory_block_in o j) b ≡ true → (x : StoredNode) × (o ≡ Some x) × (x.kind ≡ 2) × (j < x.blocks) × (x.small j ≡ b)
directory_of_block None j b h = absurd (cc)
directory_of_block (Some x) j b h = go (x.kind == 2 && nat_lt j x.blocks) refl (holds_at (directory_block_in (Some x) j) b h)
  where
    go : (t : Bool) → (x.kind == 2 && nat_lt j x.blocks) ≡ t → cond t (Some (x.small j)) None ≡ Some b → (y : StoredNode) × (Some x ≡ Some y) × (y.kind ≡ 2) × (j < y.blocks) × (y.small j ≡ b)
    go true t h = let p = and_parts (x.kind == 2) (nat_lt j x.blocks) t in (x, refl, eqb-true x.kind 2 p.0, ltb-true j x.blocks p.1, (let q : x.small j ≡ b = cc in q))
    go false t h = absurd (cc)

module _ (v : View) (r : ℕ → Bool) (b : ℕ) (test : ℕ → ℕ → Bool) where
  abbrev has : ℕ → ℕ → Bool
  has d j = holds (directory_block v.store d j) b

  abbrev inner : ℕ → ℕ → Bool
  inner d j = not (has d j) || test d j

  abbrev outer : ℕ → Bool
  outer d = not (r d) || all_below 16 (inner d)

  pub wherever_at : wherever v r b test ≡ true → (d j : ℕ) → d < 64 * v.segments → j < 16 → r d ≡ true → holds (directory_block v.store d j) b ≡ true → test d j ≡ true
  wherever_at h d j l w e t = ⊎_elim
      (λ n. absurd (both_ways (r d) (not-true (r d) n) e))
      (λ a. ⊎_elim (λ n. absurd (both_ways (has d j) (not-true (has d j) n) t)) (λ y. y) (or_cases (not (has d j)) (test d j) (all_at 16 (inner d) a j w)))
      (or_cases (not (r d)) (all_below 16 (inner d)) (all_at (64 * v.segments) outer h d l))

  pub wherever_from : ((d j : ℕ) → d < 64 * v.segments → j < 16 → r d ≡ true → holds (directory_block v.store d j) b ≡ true → test d j ≡ true) → wherever v r b test ≡ true
  wherever_from h = all_from (64 * v.segments) outer (λ d l. one d l (r d) refl)
    where
      two : (d j : ℕ) → d < 64 * v.segments → j < 16 → r d ≡ true → (t : Bool) → has d j ≡ t → inner d j ≡ true
      two d j l w e true t = or_right (not (has d j)) (test d j) (h d j l w e t)
      two d j l w e false t = or_left (not (has d j)) (test d j) (not_from_false (has d j) t)

      one : (d : ℕ) → d < 64 * v.segments → (t : Bool) → r d ≡ t → outer d ≡ true
      one d l true e = or_right (not (r d)) (all_below 16 (inner d)) (all_from 16 (inner d) (λ j w. two d j l w e (has d j) refl))
      one d l false e = or_left (not (r d)) (all_below 16 (inner d)) (not_from_false (r d) e)

-- ---- rows of 64, of 1,024 and of 16 numbers

module _ (m : ℕ) (test : ℕ → Bool) where
  pub in_row_of_64 : ((k : ℕ) → k < m → all_below 64 (λ j. test (64 * k + j)) ≡ true) → (i : ℕ) → i < 64 * m → test i ≡ true
  in_row_of_64 h i l =
      let k : i / 64 < m = omega arith in
      let j : i % 64 < 64 = omega arith in
      let e : 64 * (i / 64) + i % 64 ≡ i = omega arith in
      subst (λ n. test n ≡ true) e (all_at 64 (λ j. test (64 * (i / 64) + j)) (h (i / 64) k) (i % 64) j)

  pub in_row_of_1024 : ((k : ℕ) → k < m → all_below 1024 (λ j. test (1024 * k + j)) ≡ true) → (i : ℕ) → i < 1024 * m → test i ≡ true
  in_row_of_1024 h i l =
      let k : i / 1024 < m = omega arith in
      let j : i % 1024 < 1024 = omega arith in
      let e : 1024 * (i / 1024) + i % 1024 ≡ i = omega arith in
      subst (λ n. test n ≡ true) e (all_at 1024 (λ j. test (1024 * (i / 1024) + j)) (h (i / 1024) k) (i % 1024) j)

  pub in_row_of_16 : ((k : ℕ) → k < 64 * m → all_below 16 (λ j. test (16 * k + j)) ≡ true) → (i : ℕ) → i < 1024 * m → test i ≡ true
  in_row_of_16 h i l =
      let k : i / 16 < 64 * m = omega arith in
      let j : i % 16 < 16 = omega arith in
      let e : 16 * (i / 16) + i % 16 ≡ i = omega arith in
      subst (λ n. test n ≡ true) e (all_at 16 (λ j. test (16 * (i / 16) + j)) (h (i / 16) k) (i % 16) j)
