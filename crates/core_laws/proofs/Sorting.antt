-- Lists that ascend: put together, filtered, mapped, and made by inserting.
use Rattle.std.proofs.Common.{◌≡◌, ℕ, zero, suc, ◌<◌, inl, inr, Bool, true, false, cond, List, [], ◌∷◌, ◌++◌, filter, fold, map, refl, sym, subst, arith}
use Rattle.std.specs.List.{AllByRecursion, flat_map}
use Rattle.std.specs.List.Sorted.{IsStrictlySortedBy}
use Rattle.std.specs.Map.{keys_of}
use Rattle.std.specs.Ordering.{nat_cmp}
use Rattle.std.specs.declared.cmp.Ordering.{Ordering}
use Rattle.std.specs.declared.cmp.Ordering.TheVariants.{Less}
use Rattle.sorted_entries.proofs.Sorted.{all_along}
use Rattle.frang_base.proofs.Lists.{all_map, all_append}
use Rattle.frang_base.proofs.Tests.{cmp_less}
use Rattle.disk_definitions.specs.Written.{ascending, with_number}
use Rattle.disk_definitions.proofs.Listed.{Among}
use Rattle.sector_bytes.specs.SectorMaps.{Ascend}
use Rattle.sector_bytes.proofs.MapLaws.{ascend_with}
use Rattle.tree_definitions.specs.Numbers.{below}

-- ---- of each element

pub all_each : {X : Type 0} {P : X → Type 0} → ((x : X) → P x) → (xs : List X) → AllByRecursion P xs
all_each f [] = tt
all_each f (x ∷ xs) = (f x, all_each f xs)

pub all_flat : {X Y : Type 0} (P : Y → Type 0) (f : X → List Y) → ((x : X) → AllByRecursion P (f x)) → (xs : List X) → AllByRecursion P (flat_map f xs)
all_flat P f each [] = tt
all_flat P f each (x ∷ xs) = all_append P (f x) (flat_map f xs) (each x) (all_flat P f each xs)

-- what holds beside x of each of these holds of what is made of each of them
pub all_flat_from : {X Y : Type 0} {Q : X → Type 0} (P : Y → Type 0) (f : X → List Y) → ((x : X) → Q x → AllByRecursion P (f x)) → (xs : List X) →
    AllByRecursion Q xs → AllByRecursion P (flat_map f xs)
all_flat_from P f each [] all = tt
all_flat_from {Q = Q} P f each (x ∷ xs) all = all_append P (f x) (flat_map f xs) (each x all.0) (all_flat_from {Q = Q} P f each xs all.1)

pub all_in : {X : Type 0} (P : X → Type 0) (xs : List X) (x : X) → AllByRecursion P xs → Among x xs → P x
all_in P [] x all i = absurd i
all_in P (y ∷ ys) x all (inl e) = subst P (sym e) all.0
all_in P (y ∷ ys) x all (inr i) = all_in P ys x all.1 i

-- ---- ascending lists

module _ {X : Type 0} (cmp : X → X → Ordering) where
  pub sorted_append : (xs ys : List X) → IsStrictlySortedBy cmp xs → IsStrictlySortedBy cmp ys →
      AllByRecursion (λ x. AllByRecursion (λ y. cmp x y ≡ Less) ys) xs → IsStrictlySortedBy cmp (xs ++ ys)
  unfolding IsStrictlySortedBy
  sorted_append [] ys s t less = t
  sorted_append (x ∷ xs) ys s t less = (all_append (λ y. cmp x y ≡ Less) xs ys s.0 less.0, sorted_append xs ys s.1 t less.1)

  pub sorted_none : IsStrictlySortedBy cmp []
  unfolding IsStrictlySortedBy
  sorted_none = tt

  pub sorted_one : (x : X) → IsStrictlySortedBy cmp (x ∷ [])
  unfolding IsStrictlySortedBy
  sorted_one x = (tt, tt)

-- what is mapped by a function that rises
pub sorted_map : {X Y : Type 0} (c : X → X → Ordering) (d : Y → Y → Ordering) (f : X → Y) → ((x y : X) → c x y ≡ Less → d (f x) (f y) ≡ Less) →
    (xs : List X) → IsStrictlySortedBy c xs →
    IsStrictlySortedBy d (map f xs)
unfolding IsStrictlySortedBy
sorted_map c d f rises [] s = tt
sorted_map c d f rises (x ∷ xs) s = (all_map (λ y. d (f x) y ≡ Less) f xs (all_along (λ y l. rises x y l) xs s.0), sorted_map c d f rises xs s.1)

-- the keys of entries that are filtered, and of entries made others under the same keys
module _ {K V : Type 0} (cmp : K → K → Ordering) where
  keys_filter_above : (low : K) (test : K × V → Bool) (es : List (K × V)) → AllByRecursion (λ k. cmp low k ≡ Less) (keys_of es) →
      AllByRecursion (λ k. cmp low k ≡ Less) (keys_of (filter test es))
  keys_filter_above low test [] all = tt
  keys_filter_above low test (e ∷ es) all = go (test e) (keys_filter_above low test es all.1)
    where
      go : (b : Bool) → AllByRecursion (λ k. cmp low k ≡ Less) (keys_of (filter test es)) →
          AllByRecursion (λ k. cmp low k ≡ Less) (keys_of (cond b (e ∷ filter test es) (filter test es)))
      go true rest = (all.0, rest)
      go false rest = rest

  pub keys_filter : (test : K × V → Bool) (es : List (K × V)) → IsStrictlySortedBy cmp (keys_of es) → IsStrictlySortedBy cmp (keys_of (filter test es))
  unfolding IsStrictlySortedBy
  keys_filter test [] s = tt
  keys_filter test (e ∷ es) s = go (test e) (keys_filter test es s.1)
    where
      go : (b : Bool) → IsStrictlySortedBy cmp (keys_of (filter test es)) → IsStrictlySortedBy cmp (keys_of (cond b (e ∷ filter test es) (filter test es)))
      go true rest = (keys_filter_above e.0 test es s.0, rest)
      go false rest = rest

pub keys_changed : {K V : Type 0} (change : K × V → K × V) → ((e : K × V) → (change e).0 ≡ e.0) → (es : List (K × V)) → keys_of (map change es) ≡ keys_of es
keys_changed change keeps [] = refl
keys_changed change keeps (e ∷ es) = λ i. keeps e i ∷ keys_changed change keeps es i

pub ascend_changed : {V : Type 0} (change : ℕ × V → ℕ × V) → ((e : ℕ × V) → (change e).0 ≡ e.0) → (es : List (ℕ × V)) → Ascend es → Ascend (map change es)
ascend_changed change keeps es s = subst (IsStrictlySortedBy nat_cmp) (sym (keys_changed change keeps es)) s

-- a fold that keeps it
pub ascend_fold : {V X : Type 0} (f : List (ℕ × V) → X → List (ℕ × V)) → ((es : List (ℕ × V)) (x : X) → Ascend es → Ascend (f es x)) →
    (xs : List X) (es : List (ℕ × V)) → Ascend es → Ascend (fold f es xs)
ascend_fold f keeps [] es s = s
ascend_fold f keeps (x ∷ xs) es s = ascend_fold f keeps xs (f es x) (keeps es x s)

pub ascending_sorted : (numbers : List ℕ) → IsStrictlySortedBy nat_cmp (ascending numbers)
ascending_sorted numbers = ascend_fold with_number (λ es n s. ascend_with n 0 es s) numbers [] (sorted_none nat_cmp)

-- ---- numbers below a bound

all_below : (n : ℕ) → AllByRecursion (λ k. k < n) (below n)
all_below zero = tt
all_below (suc n) = all_append (λ k. k < suc n) (below n) (n ∷ []) (all_along (λ k h. grow k h) (below n) (all_below n)) (omega arith, tt)
  where
    grow : (k : ℕ) → k < n → k < suc n
    grow k h = omega (arith, h)

pub below_sorted : (n : ℕ) → IsStrictlySortedBy nat_cmp (below n)
below_sorted zero = sorted_none nat_cmp
below_sorted (suc n) = sorted_append nat_cmp (below n) (n ∷ []) (below_sorted n) (sorted_one nat_cmp n) (all_along (λ k h. (cmp_less k n h, tt)) (below n) (all_below n))

pub below_and_behind : (n last : ℕ) → n < suc last → IsStrictlySortedBy nat_cmp (below n ++ last ∷ [])
below_and_behind n last h =
    sorted_append nat_cmp (below n) (last ∷ []) (below_sorted n) (sorted_one nat_cmp last) (all_along (λ k l. (cmp_less k last (within k l), tt)) (below n) (all_below n))
  where
    within : (k : ℕ) → k < n → k < last
    within k l = omega (arith, h, l)
