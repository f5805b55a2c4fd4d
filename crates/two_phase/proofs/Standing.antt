-- Cached sectors stand as they were seen exactly where none has moved.
use Rattle.std.proofs.Common.{◌≡◌, ◌↔◌, ℕ, suc, ◌+◌, ◌≤◌, ◌==◌, Bool, true, false, not, cond, if◌then◌else◌, Option, Some, None, IsSome, is_some, List, [], ◌∷◌, Result, Ok, Err, IsOk, length, map, take, sym, ap, ◌∙◌, subst, refl, arith}
use Rattle.std.specs.List.{All, prefix_len, take_while}
use Rattle.std.specs.Option.{option_map}
use Rattle.std.specs.Result.{result_err}
use Rattle.std.proofs.lemmas.List.{length-map, length-take-le, take-map}
use Rattle.std.proofs.lemmas.List.Sums.{prefix_len-le-length}
use Rattle.std.proofs.lemmas.List.Elements.{All-cons, All-head, All-nil, All-tail}
use Rattle.std.proofs.lemmas.Bool.{eq-eqb, eqb-true}
use Rattle.sector_bytes.specs.Blocks.{Block, version_of}
use Rattle.sector_bytes.specs.SectorMaps.{value_at}
use Rattle.disk_definitions.specs.Written.{Cached}
use Rattle.set_definitions.specs.declared.moved.Moved.{Moved}
use Rattle.set_definitions.specs.Seen.{SeenSectors, first_moved, moved_at}
use Rattle.two_phase.specs.Rechecks.{IsCached, IsUnmoved, is_cached}

-- the one in front stands, and none of the others has moved
by_test : (one : ℕ × ℕ) (block : Block) (rest : Option Moved) (b : Bool) → (version_of block == one.1) ≡ b
    → (if b then rest else Some (record { sector = record { 0 = one.0 }; saw = one.1; found = version_of block })) ≡ None → (Some (version_of block) ≡ Some one.1) × (rest ≡ None)
by_test one block rest true same none = (ap Some (eqb-true (version_of block) one.1 same), none)
by_test one block rest false other none = cc

by_block : (one : ℕ × ℕ) (o : Option Block) (rest : Option Moved) → IsSome o → moved_at one o rest ≡ None → (option_map version_of o ≡ Some one.1) × (rest ≡ None)
by_block one None rest there none = cc
by_block one (Some block) rest there none = by_test one block rest (version_of block == one.1) refl none

pub all_stand : (seen : SeenSectors) (cached : Cached) → All (IsCached cached) seen → first_moved seen cached ≡ None → All (IsUnmoved cached) seen
all_stand [] cached there none = All-nil (IsUnmoved cached)
all_stand (one ∷ others) cached there none =
    let both = by_block one (value_at cached one.0) (first_moved others cached) (All-head (IsCached cached) one others there) none in
    All-cons (IsUnmoved cached) one others both.0 (all_stand others cached (All-tail (IsCached cached) one others there) both.1)

stays : (one : ℕ × ℕ) (o : Option Block) (rest : Option Moved) → option_map version_of o ≡ Some one.1 → rest ≡ None → moved_at one o rest ≡ None
stays one None rest is none = refl
stays one (Some block) rest is none =
    let same : version_of block ≡ one.1 = cc in
    ap (λ b. if b then rest else Some (record { sector = record { 0 = one.0 }; saw = one.1; found = version_of block })) (eq-eqb (version_of block) one.1 same) ∙ none

pub none_moved : (seen : SeenSectors) (cached : Cached) → All (IsUnmoved cached) seen → first_moved seen cached ≡ None
none_moved [] cached stand = refl
none_moved (one ∷ others) cached stand =
    stays one (value_at cached one.0) (first_moved others cached) (All-head (IsUnmoved cached) one others stand) (none_moved others cached (All-tail (IsUnmoved cached) one others stand))

-- ---- the front of sectors that are cached

by_first : (cached : Cached) (one : ℕ × ℕ) (others : SeenSectors) (b : Bool) → is_cached cached one ≡ b
    → take_while (is_cached cached) (one ∷ others) ≡ (if b then one ∷ take_while (is_cached cached) others else [])
by_first cached one others true is =
    let count : ℕ = prefix_len (is_cached cached) others in
    let more : 1 + count ≡ suc count = omega arith in
    ap (λ b. take (cond b (1 + count) 0) (one ∷ others)) is ∙ ap (λ n. take n (one ∷ others)) more
by_first cached one others false is = ap (λ b. take (cond b (1 + prefix_len (is_cached cached) others) 0) (one ∷ others)) is

by_cached : (one : ℕ × ℕ) (front : SeenSectors) (cached : Cached) (b : Bool) → is_cached cached one ≡ b → All (IsCached cached) front → All (IsCached cached) (if b then one ∷ front else [])
by_cached one front cached true there all = All-cons (IsCached cached) one front there all
by_cached one front cached false there all = All-nil (IsCached cached)

pub front_cached : (seen : SeenSectors) (cached : Cached) → All (IsCached cached) (take_while (is_cached cached) seen)
front_cached [] cached = All-nil (IsCached cached)
front_cached (one ∷ others) cached =
    subst (All (IsCached cached)) (sym (by_first cached one others (is_cached cached one) refl))
    (by_cached one (take_while (is_cached cached) others) cached (is_cached cached one) refl (front_cached others cached))

by_found : (one : ℕ × ℕ) (others front : SeenSectors) (cached : Cached) (o : Option Block) → value_at cached one.0 ≡ o → first_moved front cached ≡ first_moved others cached
    → first_moved (if is_some o then one ∷ front else []) cached ≡ moved_at one o (first_moved others cached)
by_found one others front cached None found below = refl
by_found one others front cached (Some block) found below = ap (λ p. moved_at one p (first_moved front cached)) found ∙ ap (moved_at one (Some block)) below

pub front_moved : (seen : SeenSectors) (cached : Cached) → first_moved (take_while (is_cached cached) seen) cached ≡ first_moved seen cached
front_moved [] cached = refl
front_moved (one ∷ others) cached =
    ap (λ front. first_moved front cached) (by_first cached one others (is_cached cached one) refl)
    ∙ by_found one others (take_while (is_cached cached) others) cached (value_at cached one.0) refl (front_moved others cached)

-- the front of what is made of a list is counted along the list
pub count_along : {X Y : Type 0} (f : X → Y) (test : Y → Bool) (xs : List X) → prefix_len (λ x. test (f x)) xs ≡ prefix_len test (map f xs)
count_along f test [] = refl
count_along f test (x ∷ xs) = ap (λ n. cond (test (f x)) (1 + n) 0) (count_along f test xs)

-- ---- what is told

pub told : {T : Type 0} (r : Result T Moved) (seen : SeenSectors) (cached : Cached) → All (IsCached cached) seen → result_err r ≡ first_moved seen cached → IsOk r ↔ All (IsUnmoved cached) seen
told (Ok x) seen cached there same = (λ ok. all_stand seen cached there (sym same), λ stand. refl)
told (Err moved) seen cached there same = (λ ok. cc, λ stand. let none = none_moved seen cached stand in cc)

-- what is told to be missing
pub absent_as : {A B : Type 0} (f : A → B) (o : Option A) (p : Option B) (r : Bool) → option_map f o ≡ p → is_some o ≡ not r → r ≡ not (is_some p)
absent_as f None p true same none = ap (λ q. not (is_some q)) same
absent_as f None p false same none = cc
absent_as f (Some x) p true same none = cc
absent_as f (Some x) p false same none = ap (λ q. not (is_some q)) same

-- ---- the front of what is made of a list

module _ {X Y : Type 0} (f : X → Y) (test : Y → Bool) (xs : List X) (count : ℕ) (is : count ≡ prefix_len test (map f xs)) where
  pub front_is : map f (take count xs) ≡ take_while test (map f xs)
  front_is = sym (take-map f count xs) ∙ ap (λ n. take n (map f xs)) is

  pub front_fits : count ≡ length (take count xs)
  front_fits = let inside : count ≤ length xs = omega (arith, is, prefix_len-le-length test (map f xs), length-map xs f) in sym (length-take-le count xs inside)
