-- The sectors of segments that were looked at, before the first that isn't held.
use Rattle.std.proofs.Common.{◌≡◌, ℕ, zero, suc, ◌+◌, ◌<◌, ◌≤◌, Bool, true, false, cond, filter, Option, Some, None, List, [], ◌∷◌, ◌++◌, map, ⊎_elim, refl, sym, ap, ◌∙◌, arith}
use Rattle.std.proofs.Math.Nat.{eq-or-lt_of_le}
use Rattle.disk_definitions.specs.declared.region.Region.TheVariants as region
use Rattle.disk_definitions.specs.Regions.{sector_of}
use Rattle.tree_definitions.specs.Numbers.{below}
use Rattle.disk_definitions.specs.Held.{Segments}
use Rattle.disk_definitions.specs.Ask.{Got, SegmentAt, number_of, read_segments}
use Rattle.disk_definitions.specs.Plans.{Plan}
use Rattle.disk_definitions.specs.Written.{Cached, at_hand, is_held}
use Rattle.disk_definitions.specs.Traces.{behind, has_version, needs, Traced, traced}
use Rattle.dir_lookup.specs.Looked.{Adds}
use Rattle.dir_lookup.proofs.Looking.{adds_as, adds_then}
use Rattle.disk_definitions.specs.LookedAt.{examined}
use Rattle.plan_steps.specs.Looking.{looked_over, segment_number}
use Rattle.plan_steps.specs.Rooms.{needed}
use Rattle.plan_steps.proofs.Needed.{below_next, needed_below}

-- a plan that looks at the segments and is done then
pub over_looks : (cached : Cached) (held : Segments) (xs : List ℕ) (plan : Plan) → examined (read_segments xs (Got plan)) cached held ≡ looked_over held xs
over_looks cached held [] plan = refl
over_looks cached held (k ∷ xs) plan = at_one (is_held held k) (over_looks cached held xs plan)
  where
    at_one : (b : Bool) → examined (read_segments xs (Got plan)) cached held ≡ looked_over held xs →
        map number_of (filter has_version (cond {A = Traced Plan} b (behind (SegmentAt k) (traced (read_segments xs (Got plan)) (at_hand cached held))) (needs (SegmentAt k))).looked)
        ≡ cond b (segment_number k ∷ looked_over held xs) []
    at_one true e = ap (λ l. segment_number k ∷ l) e
    at_one false e = refl

-- ---- lists one after another
module _ (held : Segments) where
  pub first_over : (xs ys : List ℕ) (s : ℕ) → Some s ≡ needed held xs → looked_over held (xs ++ ys) ≡ looked_over held xs
  first_over [] ys s e = absurd (cc)
  first_over (k ∷ xs) ys s e = go (is_held held k) e (first_over xs ys s)
    where
      go : (b : Bool) → Some s ≡ cond b (needed held xs) (Some (sector_of (region.Segment k))) → (Some s ≡ needed held xs → looked_over held (xs ++ ys) ≡ looked_over held xs)
          → cond b (segment_number k ∷ looked_over held (xs ++ ys)) [] ≡ cond b (segment_number k ∷ looked_over held xs) []
      go true e h = ap (λ l. segment_number k ∷ l) (h e)
      go false e h = refl

  pub both_over : (xs ys : List ℕ) → None ≡ needed held xs → looked_over held (xs ++ ys) ≡ looked_over held xs ++ looked_over held ys
  both_over [] ys e = refl
  both_over (k ∷ xs) ys e = go (is_held held k) e (both_over xs ys)
    where
      go : (b : Bool) → None ≡ cond b (needed held xs) (Some (sector_of (region.Segment k))) → (None ≡ needed held xs → looked_over held (xs ++ ys) ≡ looked_over held xs ++ looked_over held ys)
          → cond b (segment_number k ∷ looked_over held (xs ++ ys)) [] ≡ cond b (segment_number k ∷ looked_over held xs) [] ++ looked_over held ys
      go true e h = ap (λ l. segment_number k ∷ l) (h e)
      go false e h = absurd (cc)

  pub over_first : (old new : Option (List ℕ)) (xs ys : List ℕ) (s : ℕ) → Some s ≡ needed held xs → Adds old new (looked_over held xs) → Adds old new (looked_over held (xs ++ ys))
  over_first old new xs ys s e f = adds_as old new (looked_over held xs) (looked_over held (xs ++ ys)) (sym (first_over xs ys s e)) f

  pub over_then : (old mid new : Option (List ℕ)) (xs ys : List ℕ) → None ≡ needed held xs → Adds old mid (looked_over held xs) → Adds mid new (looked_over held ys) → Adds old new (looked_over held (xs ++ ys))
  over_then old mid new xs ys e f g =
      adds_as old new (looked_over held xs ++ looked_over held ys) (looked_over held (xs ++ ys)) (sym (both_over xs ys e)) (adds_then old mid new (looked_over held xs) (looked_over held ys) f g)

  -- ---- numbers below a bound
  pub over_more : (f : ℕ → ℕ) (n : ℕ) (old mid new : Option (List ℕ)) → None ≡ needed held (map f (below n)) → Adds old mid (looked_over held (map f (below n))) → Adds mid new (looked_over held (f n ∷ []))
      → Adds old new (looked_over held (map f (below (n + 1))))
  over_more f n old mid new e h g =
      adds_as old new (looked_over held (map f (below n) ++ f n ∷ [])) (looked_over held (map f (below (n + 1)))) (ap (looked_over held) (below_next f n)) (over_then old mid new (map f (below n)) (f n ∷ []) e h g)

  same_below : (f : ℕ → ℕ) (m n s : ℕ) → n < m → None ≡ needed held (map f (below n)) → Some s ≡ needed held (f n ∷ []) → looked_over held (map f (below m)) ≡ looked_over held (map f (below (n + 1)))
  same_below f zero n s l e g = absurd (omega arith)
  same_below f (suc m) n s l e g =
      let le : n ≤ m = omega arith in
      let k : suc m ≡ m + 1 = omega arith in
      ⊎_elim
      (λ same. let j : suc m ≡ n + 1 = omega arith in ap (λ j. looked_over held (map f (below j))) j)
      (λ less. ap (λ j. looked_over held (map f (below j))) k
      ∙ sym (ap (looked_over held) (below_next f m))
      ∙ first_over (map f (below m)) (f m ∷ []) s (needed_below held f m n s less e g)
      ∙ same_below f m n s less e g)
      (eq-or-lt_of_le {n = n} {m = m} le)

  pub over_below : (f : ℕ → ℕ) (m n s : ℕ) (old new : Option (List ℕ)) → n < m → None ≡ needed held (map f (below n)) → Some s ≡ needed held (f n ∷ []) → Adds old new (looked_over held (map f (below (n + 1))))
      → Adds old new (looked_over held (map f (below m)))
  over_below f m n s old new l e g h = adds_as old new (looked_over held (map f (below (n + 1)))) (looked_over held (map f (below m))) (sym (same_below f m n s l e g)) h
