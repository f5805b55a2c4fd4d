-- Locks that join a set one after another.
use Rattle.std.proofs.Common.{◌≡◌, ◌<◌, ◌+◌, ℕ, Bool, true, false, if◌then◌else◌, List, ◌∷◌, ◌++◌, drop, filter, length, slice_index, suc, sym, ap, ◌∙◌, arith}
use Rattle.std.proofs.Math.Seq.{drop-cons}
use Rattle.std.proofs.lemmas.List.Sums.{fold-append}
use Rattle.frang_base.specs.declared.lock.LockId.TheVariants as lock
use Rattle.frang_base.specs.declared.lock.Mode.TheVariants.{Sole}
use Rattle.disk_definitions.specs.Plans.{Lock, sole_nodes}
use Rattle.set_definitions.specs.Sets.{LockSet, joined, joined_all}

pub joined_two : (set : LockSet) (a b : List Lock) → joined_all (joined_all set a) b ≡ joined_all set (a ++ b)
joined_two set a b = sym (fold-append joined set a b)

pub joined_three : (set : LockSet) (a b c : List Lock) → joined_all (joined_all (joined_all set a) b) c ≡ joined_all set (a ++ b ++ c)
joined_three set a b c = ap (λ z. joined_all z c) (joined_two set a b) ∙ joined_two set (a ++ b) c

-- ---- of some nodes those that pass join

module _ (test : ℕ → Bool) (set new : LockSet) (xs : List ℕ) (i : ℕ) (all : LockSet) (inside : i < length xs) (before : joined_all set (sole_nodes (filter test (drop i xs))) ≡ all) where
  abbrev x : ℕ
  x = slice_index xs i

  abbrev rest : List ℕ
  rest = drop (i + 1) xs

  next : drop i xs ≡ x ∷ rest
  next = let e : suc i ≡ i + 1 = omega arith in drop-cons xs i 0 inside ∙ ap (λ m. x ∷ drop m xs) e

  by_test : (b : Bool) → test x ≡ b → joined_all set (sole_nodes (if b then x ∷ filter test rest else filter test rest)) ≡ all
  by_test b t = sym (ap (λ c. joined_all set (sole_nodes (if c then x ∷ filter test rest else filter test rest))) t) ∙ sym (ap (λ ys. joined_all set (sole_nodes (filter test ys))) next) ∙ before

  pub owner_joins : test x ≡ true → new ≡ joined set (lock.Node x, Sole) → joined_all new (sole_nodes (filter test rest)) ≡ all
  owner_joins t e = ap (λ z. joined_all z (sole_nodes (filter test rest))) e ∙ by_test true t

  pub owner_stays : test x ≡ false → new ≡ set → joined_all new (sole_nodes (filter test rest)) ≡ all
  owner_stays t e = ap (λ z. joined_all z (sole_nodes (filter test rest))) e ∙ by_test false t
