-- The locks for which a server is asked are found by their places, and there are no more places than locks.
use Rattle.std.proofs.Common.{inl, inr, ◌≡◌, ◌≤◌, ◌<◌, ◌+◌, ◌*◌, ◌^◌, ℕ, zero, suc, Bool, true, false, if◌then◌else◌, is_some, Option, Some, None, List, [], ◌∷◌, length, map, get_or, refl, sym, ap, ◌∙◌, arith, subst, below_more}
use Rattle.std.specs.List.{AllByRecursion, cons_option, filter_map, slice_get}
use Rattle.std.specs.List.Sorted.{IsStrictlySortedBy}
use Rattle.std.specs.Map.{keys_of, lookup}
use Rattle.std.specs.Option.{option_map}
use Rattle.std.specs.declared.cmp.Ordering.TheVariants.{Less}
use Rattle.std.proofs.lemmas.Bool.{false≢true}
use Rattle.std.proofs.lemmas.Bool.Decides.{nat_tests}
use Rattle.std.proofs.lemmas.List.{get_or-map, length-map}
use Rattle.std.proofs.lemmas.Map.Keys.{Less-from_sorted}
use Rattle.std.proofs.lemmas.Option.{get_or_from_slice_get, slice_get-get_or, slice_get_cases, slice_get_within}
use Rattle.frang_base.specs.declared.lock.LockId.{LockId}
use Rattle.frang_base.specs.declared.lock.LockId.TheVariants.{Log, Segment, Node}
use Rattle.lock_definitions.specs.Calls.{asked_for, revokes}
use Rattle.lock_definitions.specs.Locks.{AreLocks, Locks, claims_of}
use Rattle.lock_definitions.specs.Order.{is_lock, lock_cmp, number_of}
use Rattle.lock_definitions.specs.declared.claim.AskedFor.{AskedFor}
use Rattle.lock_definitions.proofs.LockOrder.{found_lock}

-- ---- locks in one row

abbrev place_of : LockId → ℕ
place_of (Log n) = n
place_of (Segment n) = 2 ^ 32 + n
place_of (Node n) = 2 * 2 ^ 32 + n

below_last : (lock : LockId) → number_of lock < 2 ^ 32 → place_of lock < 3 * 2 ^ 32
below_last (Log n) small = omega arith
below_last (Segment n) small = omega arith
below_last (Node n) small = omega arith

climbs : (a b : LockId) → number_of a < 2 ^ 32 → number_of b < 2 ^ 32 → lock_cmp a b ≡ Less → place_of a < place_of b
climbs (Log a) (Log b) small too less = grind (arith, nat_tests, less)
climbs (Log a) (Segment b) small too less = omega arith
climbs (Log a) (Node b) small too less = omega arith
climbs (Segment a) (Log b) small too less = cc
climbs (Segment a) (Segment b) small too less = grind (arith, nat_tests, less)
climbs (Segment a) (Node b) small too less = omega arith
climbs (Node a) (Log b) small too less = cc
climbs (Node a) (Segment b) small too less = cc
climbs (Node a) (Node b) small too less = grind (arith, nat_tests, less)

-- ---- a list of locks that ascend

module _ {V : Type 0} (list : List (LockId × V)) (sorted : IsStrictlySortedBy lock_cmp (keys_of list)) where
  in_order : (i j : ℕ) (one other : LockId × V) → i < j → slice_get list i ≡ Some one → slice_get list j ≡ Some other → lock_cmp one.0 other.0 ≡ Less
  in_order i j one other less is at =
      let inside : j < length list = slice_get_within list j other at in
      let first : get_or (keys_of list) i one.0 ≡ one.0 = get_or-map (λ (e : LockId × V). e.0) list i one one.0 (omega arith) ∙ ap (λ (e : LockId × V). e.0) (get_or_from_slice_get list i one one is) in
      let second : get_or (keys_of list) j one.0 ≡ other.0 = get_or-map (λ (e : LockId × V). e.0) list j one one.0 inside ∙ ap (λ (e : LockId × V). e.0) (get_or_from_slice_get list j other one at) in
      let P : LockId → Type 0 = λ a. lock_cmp a other.0 ≡ Less in
      let Q : LockId → Type 0 = λ b. lock_cmp (get_or (keys_of list) i one.0) b ≡ Less in
      subst P first (subst Q second (Less-from_sorted lock_cmp (keys_of list) i j one.0 sorted less (omega (arith, inside, length-map list (λ (e : LockId × V). e.0)))))

  -- a lock whose number and those before it are small has at least so many before it in the row
  pub placed : (k : ℕ) (one : LockId × V) → slice_get list k ≡ Some one → ((j : ℕ) (other : LockId × V) → j ≤ k → slice_get list j ≡ Some other → number_of other.0 < 2 ^ 32) → k ≤ place_of one.0
  placed zero one is small = omega arith
  placed (suc k) one is small =
      let inside : suc k < length list = slice_get_within list (suc k) one is in
      let prior : LockId × V = get_or list k one in
      let at : slice_get list k ≡ Some prior = slice_get-get_or list k one (omega arith) in
      let so_far : k ≤ place_of prior.0 = placed k prior at (λ j other within. small j other (omega arith)) in
      let climb : place_of prior.0 < place_of one.0 = climbs prior.0 one.0 (small k prior (omega arith) at) (small (suc k) one (omega arith) is) (in_order k (suc k) prior one (omega arith) at is) in
      omega arith

-- ---- what a server is asked for

module _ (asked : LockId → Option AskedFor) where
  abbrev listed : {V : Type 0} → List (LockId × V) → List (LockId × AskedFor)
  listed claims = filter_map (λ entry. option_map (λ a. (entry.0, a)) (asked entry.0)) claims

  all_listed : {V : Type 0} (P : LockId → Type 0) (claims : List (LockId × V)) → AllByRecursion P (keys_of claims) → AllByRecursion P (keys_of (listed claims))
  all_listed P [] all = tt
  all_listed P (entry ∷ claims) all = go (asked entry.0) (all_listed P claims all.1)
    where
      go : (o : Option AskedFor) → AllByRecursion P (keys_of (listed claims)) → AllByRecursion P (keys_of (cons_option (option_map (λ a. (entry.0, a)) o) (listed claims)))
      go None rest = rest
      go (Some a) rest = (all.0, rest)

  sorted-listed : {V : Type 0} (claims : List (LockId × V)) → IsStrictlySortedBy lock_cmp (keys_of claims) → IsStrictlySortedBy lock_cmp (keys_of (listed claims))
  unfolding IsStrictlySortedBy
  sorted-listed [] sorted = tt
  sorted-listed (entry ∷ claims) sorted = go (asked entry.0) (sorted-listed claims sorted.1)
    where
      go : (o : Option AskedFor) → IsStrictlySortedBy lock_cmp (keys_of (listed claims)) → IsStrictlySortedBy lock_cmp (keys_of (cons_option (option_map (λ a. (entry.0, a)) o) (listed claims)))
      go None rest = rest
      go (Some a) rest = (all_listed (λ y. lock_cmp entry.0 y ≡ Less) claims sorted.0, rest)

sorted-revokes : (locks : Locks) (server : ℕ) → AreLocks locks → IsStrictlySortedBy lock_cmp (keys_of (revokes locks server))
sorted-revokes locks server are = sorted-listed (asked_for locks server) (claims_of locks server) (are.claims server).ordered

-- a lock that is found stands at a place
record IsAtSome {V : Type 0} (list : List (LockId × V)) (lock : LockId) : Type 0 where
  pub place : ℕ
  pub one : LockId × V
  pub at : slice_get list place ≡ Some one
  pub is : one.0 ≡ lock

found_at : {V : Type 0} (list : List (LockId × V)) (lock : LockId) → is_some (lookup (is_lock lock) list) ≡ true → IsAtSome list lock
found_at [] lock found = absurd (false≢true found)
found_at (entry ∷ list) lock found = go (is_lock lock entry.0) refl (found_at list lock)
  where
    go : (t : Bool) → is_lock lock entry.0 ≡ t → (is_some (lookup (is_lock lock) list) ≡ true → IsAtSome list lock) → IsAtSome (entry ∷ list) lock
    go true is behind = record { place = 0; one = entry; at = refl; is = found_lock lock entry.0 is }
    go false is behind =
        let there : IsAtSome list lock = behind (ap (λ (t : Bool). is_some (if t then Some entry.1 else lookup (is_lock lock) list)) (sym is) ∙ found) in
        record { place = suc there.place; one = there.one; at = there.at; is = there.is }

-- ---- gone through

past : {X : Type 0} (xs : List X) (i : ℕ) → slice_get xs i ≡ None → length xs ≤ i
past {X = X} xs i none = elim (slice_get_cases xs i).1 [ inl there ↦ absurd (clash there.0 (sym none ∙ there.2)) | inr beyond ↦ beyond.0 ]
  where
    clash : (x : X) → None ≡ Some x → ⊥
    clash x e = cc

-- so many places have locks with small numbers that don't pass
pub record ArePassed (passes : LockId → Bool) (list : List (LockId × AskedFor)) (place : ℕ) : Type 0 where
  pub inside : place ≤ length list
  pub small : (j : ℕ) → j < place → (one : LockId × AskedFor) → slice_get list j ≡ Some one → number_of one.0 < 2 ^ 32
  pub fail : (j : ℕ) → j < place → (one : LockId × AskedFor) → slice_get list j ≡ Some one → passes one.0 ≡ false

module _ (passes : LockId → Bool) (list : List (LockId × AskedFor)) (place : ℕ) (before : ArePassed passes list place) where
  pub one_more : (one : LockId × AskedFor) → slice_get list place ≡ Some one → number_of one.0 < 2 ^ 32 → passes one.0 ≡ false → ArePassed passes list (place + 1)
  one_more one at small fails = record {
    inside = let there : place < length list = slice_get_within list place one at in omega arith;
    small = below_more (λ j. (other : LockId × AskedFor) → slice_get list j ≡ Some other → number_of other.0 < 2 ^ 32) place before.small
        (λ other is. let P : LockId × AskedFor → Type 0 = λ e. number_of e.0 < 2 ^ 32 in subst P (same other is) small);
    fail = below_more (λ j. (other : LockId × AskedFor) → slice_get list j ≡ Some other → passes other.0 ≡ false) place before.fail
        (λ other is. ap (λ (e : LockId × AskedFor). passes e.0) (sym (same other is)) ∙ fails);
  }
    where
      same : (other : LockId × AskedFor) → slice_get list place ≡ Some other → one ≡ other
      same other is = let e : Some one ≡ Some other = sym at ∙ is in cc

-- behind the last place no lock that is found passes
pub no_more : (passes : LockId → Bool) (list : List (LockId × AskedFor)) (place : ℕ) → ArePassed passes list place → slice_get list place ≡ None → (lock : LockId) → is_some (lookup (is_lock lock) list) ≡ true
    → passes lock ≡ false
no_more passes list place before none lock found =
    let there : IsAtSome list lock = found_at list lock found in
    let inside : there.place < length list = slice_get_within list there.place there.one there.at in
    let long : length list ≤ place = past list place none in
    ap passes (sym there.is) ∙ before.fail there.place (omega arith) there.one there.at

-- there are not so many places
pub too_many : (passes : LockId → Bool) (locks : Locks) (server place : ℕ) → AreLocks locks → ArePassed passes (revokes locks server) place → 3 * 2 ^ 32 < place → ⊥
too_many passes locks server place are before far = elim (slice_get_cases (revokes locks server) (3 * 2 ^ 32)).1 [
  | inl there ↦
      let small : number_of there.0.0 < 2 ^ 32 = before.small (3 * 2 ^ 32) far there.0 there.2 in
      let least : 3 * 2 ^ 32 ≤ place_of there.0.0 =
      placed (revokes locks server) (sorted-revokes locks server are) (3 * 2 ^ 32) there.0 there.2 (λ j other within is. before.small j (omega arith) other is) in
      let last : place_of there.0.0 < 3 * 2 ^ 32 = below_last there.0.0 small in
      omega arith
  | inr beyond ↦ let inside : place ≤ length (revokes locks server) = before.inside in let short : length (revokes locks server) ≤ 3 * 2 ^ 32 = beyond.0 in omega arith
]
