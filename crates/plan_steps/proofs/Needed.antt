-- The first segment of a list that isn't held, and the plans that look at these segments.
use Rattle.std.proofs.Common.{◌≡◌, ℕ, zero, suc, ◌+◌, ◌<◌, ◌≤◌, Bool, true, false, cond, Option, Some, None, Result, Ok, Err, List, [], ◌∷◌, ◌++◌, map, ⊎_elim, refl, sym, ap, subst, ◌∙◌, arith}
use Rattle.std.proofs.Math.Nat.{eq-or-lt_of_le}
use Rattle.std.proofs.lemmas.List.{map-append}
use Rattle.disk_definitions.specs.declared.region.Region.TheVariants as region
use Rattle.disk_definitions.specs.Regions.{sector_of}
use Rattle.tree_definitions.specs.Numbers.{below}
use Rattle.disk_definitions.specs.Held.{Segments}
use Rattle.disk_definitions.specs.Picks.{or_else}
use Rattle.disk_definitions.specs.Ask.{Ask, Got, SegmentAt, Needs, meet, read_segments}
use Rattle.disk_definitions.specs.Plans.{Plan, Finishes}
use Rattle.disk_definitions.specs.Written.{Cached, at_hand, is_held}
use Rattle.dir_lookup.specs.Reading.{Read, Lacks, Gives, numbered, reading}
use Rattle.dir_lookup.specs.declared.hand.Hand.{Hand}
use Rattle.dir_lookup.specs.declared.need.Need.{Need}
use Rattle.plan_steps.specs.Rooms.{LooksOver, missing_of, needed}
use Rattle.plan_steps.proofs.Below.{below_one}

-- ---- lists one after another
step : (b : Bool) (x y : Option ℕ) (s : ℕ) (z : Option ℕ) → x ≡ or_else y z → cond b x (Some s) ≡ or_else (cond b y (Some s)) z
step true x y s z e = e
step false x y s z e = refl

pub needed_append : (held : Segments) (xs ys : List ℕ) → needed held (xs ++ ys) ≡ or_else (needed held xs) (needed held ys)
needed_append held [] ys = refl
needed_append held (k ∷ xs) ys = step (is_held held k) (needed held (xs ++ ys)) (needed held xs) (sector_of (region.Segment k)) (needed held ys) (needed_append held xs ys)

pub then_needed : (held : Segments) (xs ys : List ℕ) (o : Option ℕ) → None ≡ needed held xs → o ≡ needed held ys → o ≡ needed held (xs ++ ys)
then_needed held xs ys o e f = f ∙ ap (λ p. or_else p (needed held ys)) e ∙ sym (needed_append held xs ys)

pub first_needed : (held : Segments) (xs ys : List ℕ) (s : ℕ) → Some s ≡ needed held xs → Some s ≡ needed held (xs ++ ys)
first_needed held xs ys s e = ap (λ p. or_else p (needed held ys)) e ∙ sym (needed_append held xs ys)

-- ---- numbers below a bound
pub below_next : (f : ℕ → ℕ) (n : ℕ) → map f (below n) ++ f n ∷ [] ≡ map f (below (n + 1))
below_next f n = sym (ap (map f) (below_one n) ∙ map-append f (below n) (n ∷ []))

pub needed_more : (held : Segments) (f : ℕ → ℕ) (n : ℕ) (o : Option ℕ) → None ≡ needed held (map f (below n)) → o ≡ needed held (f n ∷ []) → o ≡ needed held (map f (below (n + 1)))
needed_more held f n o e g = then_needed held (map f (below n)) (f n ∷ []) o e g ∙ ap (needed held) (below_next f n)

pub needed_below : (held : Segments) (f : ℕ → ℕ) (m n s : ℕ) → n < m → None ≡ needed held (map f (below n)) → Some s ≡ needed held (f n ∷ []) → Some s ≡ needed held (map f (below m))
needed_below held f zero n s l e g = absurd (omega arith)
needed_below held f (suc m) n s l e g =
    let le : n ≤ m = omega arith in
    let k : suc m ≡ m + 1 = omega arith in
    ⊎_elim
    (λ same. subst (λ j. Some s ≡ needed held (map f (below j))) (sym k) (subst (λ j. Some s ≡ needed held (map f (below (j + 1)))) same (needed_more held f n (Some s) e g)))
    (λ less. subst (λ j. Some s ≡ needed held (map f (below j))) (sym k)
    (first_needed held (map f (below m)) (f m ∷ []) s (needed_below held f m n s less e g) ∙ ap (needed held) (below_next f m)))
    (eq-or-lt_of_le {n = n} {m = m} le)

-- ---- plans
abbrev pub by_need : {A : Type 0} → Option ℕ → Read A → Read A
by_need None r = r
by_need (Some s) r = Lacks s

-- looking at the segments comes to what is done then, or to the first that isn't held
pub reads_over : (cached : Cached) (held : Segments) (xs : List ℕ) (p : Ask Plan) → reading (read_segments xs p) cached held ≡ by_need (needed held xs) (reading p cached held)
reads_over cached held [] p = refl
reads_over cached held (k ∷ xs) p = at_one (is_held held k) (reads_over cached held xs p)
  where
    at_one : (b : Bool) → reading (read_segments xs p) cached held ≡ by_need (needed held xs) (reading p cached held)
        → numbered (cond b (meet (read_segments xs p) (at_hand cached held)) (Needs (SegmentAt k))) ≡ by_need (cond b (needed held xs) (Some (sector_of (region.Segment k)))) (reading p cached held)
    at_one true e = e
    at_one false e = refl

pub looks_over : {A : Type 0} (hand : Hand) (xs : List ℕ) (result : Result A Need) → missing_of result ≡ needed hand.held.now xs → LooksOver hand xs result
looks_over hand xs (Ok u) e = λ finish. reads_over hand.sectors.now.entries hand.held.now xs (Got (Finishes finish)) ∙ sym (ap (λ o. by_need o (Gives (Finishes finish))) e)
looks_over hand xs (Err need) e = λ finish. reads_over hand.sectors.now.entries hand.held.now xs (Got (Finishes finish)) ∙ sym (ap (λ o. by_need o (Gives (Finishes finish))) e)
