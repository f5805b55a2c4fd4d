-- The sectors of file bytes that edits write or give back were under a lock that is held alone.
use Rattle.std.proofs.Common.{ℕ, ◌≡◌, ◌⊎◌, inl, inr, ⊎_elim, true, false, Option, Some, None, List, [], ◌∷◌, map, refl, ◌∙◌, ap, subst}
use Rattle.std.specs.Prelude.{fold}
use Rattle.std.specs.List.{AllByRecursion, Contains, filter_map, cons_option, flat_map}
use Rattle.std.specs.Map.{keys_of}
use Rattle.std.specs.Ordering.{nat_cmp, match_ordering}
use Rattle.std.specs.declared.cmp.Ordering.{Ordering}
use Rattle.std.specs.declared.cmp.Ordering.TheVariants.{Less, Equal, Greater}
use Rattle.std.proofs.lemmas.Bool.{eq-eqb}
use Rattle.tree_definitions.specs.Numbers.{below}
use Rattle.disk_definitions.specs.declared.region.Region.TheVariants as region
use Rattle.disk_definitions.specs.Regions.{sector_of}
use Rattle.disk_definitions.specs.Store.{Store}
use Rattle.disk_definitions.specs.Store.Use.{Fresh, Bytes, Empty, Entries}
use Rattle.disk_definitions.specs.Naming.{Naming, Nodes, Pictures}
use Rattle.disk_definitions.specs.Edits.{Edit}
use Rattle.disk_definitions.specs.Edits.Edit.{SetInode, SetBit, SetUse, SetPlace, SetLarge, SetBytes, SetLargeBytes}
use Rattle.disk_definitions.specs.Ask.{Sector, BytesAt, LargeAt, number_of}
use Rattle.disk_definitions.specs.Plans.{Lock}
use Rattle.disk_definitions.specs.Written.{with_number, ascending, byte_write, sectors_given_back}
use Rattle.plan_laws.specs.Locks.{IsSole, IsCovered}
use Rattle.plan_laws.proofs.Covering.{has_head, has_more, has_cases, not_in_none}
use Rattle.plan_laws.specs.Looked.{edited_at}
use Rattle.disk_definitions.specs.Covers.{cover_of}
use Rattle.plan_laws.proofs.WalksFine.{either}
use Rattle.disk_definitions.specs.Moves.{use_said, large_said}
use Rattle.plan_laws.specs.Plans.{Fills}
use Rattle.plan_laws.proofs.Joining.{AreSound}
use Rattle.plan_laws.proofs.Owned.{something_said, small_before, large_before}

-- ---- lists

pub filter_from : {X Y : Type 0} (f : X → Option Y) (xs : List X) (y : Y) → Contains (filter_map f xs) y → (x : X) × Contains xs x × (f x ≡ Some y)
filter_from {X} {Y} f [] y c = absurd (not_in_none y c)
filter_from {X} {Y} f (x ∷ xs) y c = go (f x) refl c (filter_from f xs y)
  where
    go : (o : Option Y) → f x ≡ o → Contains (cons_option o (filter_map f xs)) y → (Contains (filter_map f xs) y → (x : X) × Contains xs x × (f x ≡ Some y)) → (z : X) × Contains (x ∷ xs) z × (f z ≡ Some y)
    go None q c rest = let r = rest c in (r.0, has_more x r.0 xs r.1, r.2)
    go (Some v) q c rest = ⊎_elim (λ e. (x, has_head x xs, q ∙ ap Some e)) (λ d. let r = rest d in (r.0, has_more x r.0 xs r.1, r.2)) (has_cases v y (filter_map f xs) c)

pub flat_from : {X Y : Type 0} (f : X → List Y) (xs : List X) (y : Y) → Contains (flat_map f xs) y → (x : X) × Contains xs x × Contains (f x) y
flat_from f [] y c = absurd (not_in_none y c)
flat_from f (x ∷ xs) y c = ⊎_elim (λ d. (x, has_head x xs, d)) (λ d. let r = flat_from f xs y d in (r.0, has_more x r.0 xs r.1, r.2)) (either (f x) (flat_map f xs) y c)

map_from : {X Y : Type 0} (f : X → Y) (xs : List X) (y : Y) → Contains (map f xs) y → (x : X) × (f x ≡ y)
map_from f [] y c = absurd (not_in_none y c)
map_from f (x ∷ xs) y c = ⊎_elim (λ e. (x, e)) (λ d. map_from f xs y d) (has_cases (f x) y (map f xs) c)

-- a number among sorted ones is one that was put there
key_from : (sorted : List (ℕ × ℕ)) (m n : ℕ) → Contains (keys_of (with_number sorted m)) n → (m ≡ n) ⊎ Contains (keys_of sorted) n
key_from [] m n c = has_cases m n [] c
key_from (x ∷ sorted) m n c = go (nat_cmp m x.0) c (key_from sorted m n)
  where
    go : (o : Ordering) → Contains (keys_of (match_ordering o ((m, 0) ∷ x ∷ sorted) ((x.0, 0) ∷ sorted) (x ∷ with_number sorted m))) n → (Contains (keys_of (with_number sorted m)) n → (m ≡ n) ⊎ Contains (keys_of sorted) n) → (m ≡ n) ⊎ Contains (keys_of (x ∷ sorted)) n
    go Less c rest = has_cases m n (keys_of (x ∷ sorted)) c
    go Equal c rest = inr c
    go Greater c rest = ⊎_elim (λ e. inr (subst (Contains (keys_of (x ∷ sorted))) e (has_head x.0 (keys_of sorted))))
        (λ d. ⊎_elim (λ e. inl e) (λ e. inr (has_more x.0 n (keys_of sorted) e)) (rest d)) (has_cases x.0 n (keys_of (with_number sorted m)) c)

sorted_from : (ns : List ℕ) (sorted : List (ℕ × ℕ)) (n : ℕ) → Contains (keys_of (fold with_number sorted ns)) n → Contains ns n ⊎ Contains (keys_of sorted) n
sorted_from [] sorted n c = inr c
sorted_from (m ∷ ns) sorted n c = ⊎_elim (λ d. inl (has_more m n ns d))
    (λ d. ⊎_elim (λ e. inl (subst (Contains (m ∷ ns)) e (has_head m ns))) (λ e. inr e) (key_from sorted m n d)) (sorted_from ns (with_number sorted m) n c)

ascending_from : (ns : List ℕ) (n : ℕ) → Contains (ascending ns) n → Contains ns n
ascending_from ns n c = ⊎_elim (λ d. d) (λ d. absurd (not_in_none n d)) (sorted_from ns [] n c)

-- ---- sectors

first_is : (p q : ℕ × List ℕ) → Some p ≡ Some q → p.0 ≡ q.0
first_is p q e = let u : p ≡ q = cc in ap (λ z. z.0) u

module _ (s t : Store) (at : Nodes) (n : Naming) (g : Pictures s at n) (es : List Edit) (sound : AreSound s t es) (locks : List Lock) (covered : AllByRecursion (IsCovered locks) es) (each : (e : Edit) → Contains es e → IsSole locks (cover_of n (edited_at e))) where
  abbrev IsOwn : ℕ → Type 0
  IsOwn a = (x : Sector) × (number_of x ≡ a) × IsSole locks (cover_of n x)

  bytes_own : (e : Edit) (a : ℕ) (bytes : List ℕ) → Contains es e → byte_write e ≡ Some (a, bytes) → IsOwn a
  bytes_own (SetBytes k part f) a bytes c q = (BytesAt k part, first_is (sector_of (region.Small k part), map f (below 512)) (a, bytes) q, each (SetBytes k part f) c)
  bytes_own (SetLargeBytes k part f) a bytes c q = (LargeAt k part, first_is (sector_of (region.Large k part), map f (below 512)) (a, bytes) q, each (SetLargeBytes k part f) c)
  bytes_own (SetInode i x d) a bytes c q = absurd (cc)
  bytes_own (SetBit i b) a bytes c q = absurd (cc)
  bytes_own (SetUse k u) a bytes c q = absurd (cc)
  bytes_own (SetPlace k p x) a bytes c q = absurd (cc)
  bytes_own (SetLarge k b) a bytes c q = absurd (cc)

  small_back : (k part : ℕ) → Contains es (SetUse k Fresh) → IsSole locks (cover_of n (BytesAt k part))
  small_back k part c = let r = something_said (use_said k) es (SetUse k Fresh) Fresh c (rw (eq-eqb k k refl) refl) in small_before s t at n g es sound locks covered k r.0 r.1

  large_back : (k part : ℕ) → Contains es (SetLarge k false) → IsSole locks (cover_of n (LargeAt k part))
  large_back k part c = let r = something_said (large_said k) es (SetLarge k false) false c (rw (eq-eqb k k refl) refl) in large_before s t at n g es sound locks covered k r.0 r.1

  back_own : (e : Edit) (a : ℕ) → Contains es e → Contains (sectors_given_back e) a → IsOwn a
  back_own (SetUse k Fresh) a c d = let r = map_from (λ part. sector_of (region.Small k part)) (below 8) a d in (BytesAt k r.0, r.1, small_back k r.0 c)
  back_own (SetLarge k false) a c d = let r = map_from (λ part. sector_of (region.Large k part)) (below 2048) a d in (LargeAt k r.0, r.1, large_back k r.0 c)
  back_own (SetUse k Bytes) a c d = absurd (not_in_none a d)
  back_own (SetUse k Empty) a c d = absurd (not_in_none a d)
  back_own (SetUse k Entries) a c d = absurd (not_in_none a d)
  back_own (SetLarge k true) a c d = absurd (not_in_none a d)
  back_own (SetInode i x y) a c d = absurd (not_in_none a d)
  back_own (SetBit i b) a c d = absurd (not_in_none a d)
  back_own (SetPlace k p x) a c d = absurd (not_in_none a d)
  back_own (SetBytes k part f) a c d = absurd (not_in_none a d)
  back_own (SetLargeBytes k part f) a c d = absurd (not_in_none a d)

  pub filled_own : (a : ℕ) → Fills es a → IsOwn a
  filled_own a f = ⊎_elim
      (λ w. let r = filter_from byte_write es (a, w.0) w.1 in bytes_own r.0 a w.0 r.1 r.2)
      (λ c. let r = flat_from sectors_given_back es a (ascending_from (flat_map sectors_given_back es) a c) in back_own r.0 a r.1 r.2) f
