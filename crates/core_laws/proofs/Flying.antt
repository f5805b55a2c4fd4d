-- Of the writes in flight each ticket and each sector stands once, step by step.
use Rattle.std.proofs.Common.{ℕ, ◌≡◌, ◌<◌, ◌+◌, ◌⊎◌, inl, inr, ⊎_elim, Bool, true, false, not, if◌then◌else◌, cond, ◌==◌, List, [], ◌∷◌, ◌++◌, IsTrue, refl, sym, ap, subst, map, filter, arith}
use Rattle.std.proofs.lemmas.Bool.{eq-eqb, or_right, or_left, both_ways, not-true}
use Rattle.std.specs.BTreeMap.{is_at}
use Rattle.std.specs.Map.{keys_of, remove_entry}
use Rattle.std.specs.Ordering.{nat_cmp}
use Rattle.disk_definitions.proofs.Listed.{Among}
use Rattle.sector_bytes.specs.SectorMaps.{without}
use Rattle.core_definitions.specs.Flights.{Flight, Flights, each_of_server, is_flying, lost}
use Rattle.core_laws.proofs.Membership.{in_contains, contains_in}
use Rattle.core_laws.specs.Laws.{AreOnce}

abbrev pub sectors_in : Flights → List ℕ
sectors_in flights = map (λ one. one.1.sector) flights

-- each once
abbrev pub Once : List ℕ → Type 0
Once [] = Unit {0}
Once (x ∷ xs) = (Among x xs → ⊥) × Once xs

-- by positions it is the same
pub once_of : (xs : List ℕ) → AreOnce xs → Once xs
once_of [] o = tt
once_of (x ∷ xs) o = ((λ i. o.0 (in_contains xs x i)), once_of xs o.1)

pub as_words : (xs : List ℕ) → Once xs → AreOnce xs
as_words [] o = tt
as_words (x ∷ xs) o = ((λ h. o.0 (contains_in xs x h)), as_words xs o.1)

-- the tickets are below the next one, and tickets and sectors stand once
pub record AreSingle (flights : Flights) (tickets : ℕ) : Type 0 where
  pub below : (ticket : ℕ) → Among ticket (keys_of flights) → ticket < tickets
  pub once : Once (keys_of flights)
  pub alone : Once (sectors_in flights)

-- ---- writes changed in their places

-- the same tickets and sectors
pub record SameWrites (new old : Flights) : Type 0 where
  pub keys : keys_of new ≡ keys_of old
  pub sectors : sectors_in new ≡ sectors_in old

pub of_same : (new old : Flights) (tickets : ℕ) → SameWrites new old → AreSingle old tickets → AreSingle new tickets
of_same new old tickets s are = record {
  below = λ ticket i. are.below ticket (subst (Among ticket) s.keys i);
  once = subst Once (sym s.keys) are.once;
  alone = subst Once (sym s.sectors) are.alone;
}

changed_by : (b : Bool) (one : ℕ × Flight) (new : Flight) → new.sector ≡ one.1.sector → (rest old : Flights) → SameWrites rest old → SameWrites ((if b then (one.0, new) else one) ∷ rest) (one ∷ old)
changed_by true one new e rest old s = record { keys = ap (λ ks. one.0 ∷ ks) s.keys; sectors = ap2 e s.sectors }
  where
    ap2 : {x y : ℕ} {xs ys : List ℕ} → x ≡ y → xs ≡ ys → (x ∷ xs) ≡ (y ∷ ys)
    ap2 p q = cc
changed_by false one new e rest old s = record { keys = ap (λ ks. one.0 ∷ ks) s.keys; sectors = ap (λ ks. one.1.sector ∷ ks) s.sectors }

pub each_same : (server : ℕ) (change : Flight → Flight) → ((flight : Flight) → (change flight).sector ≡ flight.sector) → (flights : Flights) → SameWrites (each_of_server server change flights) flights
each_same server change keeps [] = record { keys = refl; sectors = refl }
each_same server change keeps (one ∷ others) =
    changed_by (one.1.server == server) one (change one.1) (keeps one.1) (each_of_server server change others) others (each_same server change keeps others)

-- ---- fewer writes

pub filtered_in : {X : Type 0} (f : X → ℕ) (test : X → Bool) (xs : List X) (k : ℕ) → Among k (map f (filter test xs)) → Among k (map f xs)
filtered_in f test [] k i = absurd i
filtered_in f test (x ∷ xs) k i = go (test x) (filtered_in f test xs k) i
  where
    go : (b : Bool) → (Among k (map f (filter test xs)) → Among k (map f xs)) → Among k (map f (cond b (x ∷ filter test xs) (filter test xs))) → Among k (f x ∷ map f xs)
    go true rest (inl e) = inl e
    go true rest (inr j) = inr (rest j)
    go false rest j = inr (rest j)

pub filtered_once : {X : Type 0} (f : X → ℕ) (test : X → Bool) (xs : List X) → Once (map f xs) → Once (map f (filter test xs))
filtered_once f test [] o = tt
filtered_once f test (x ∷ xs) o = go (test x) (filtered_once f test xs o.1)
  where
    go : (b : Bool) → Once (map f (filter test xs)) → Once (map f (cond b (x ∷ filter test xs) (filter test xs)))
    go true rest = ((λ i. o.0 (filtered_in f test xs (f x) i)), rest)
    go false rest = rest

pub of_lost : (server : ℕ) (flights : Flights) (tickets : ℕ) → AreSingle flights tickets → AreSingle (lost server flights) tickets
of_lost server flights tickets are = record {
  below = λ ticket i. are.below ticket (filtered_in (λ one. one.0) (λ one. not (one.1.server == server)) flights ticket i);
  once = filtered_once (λ one. one.0) (λ one. not (one.1.server == server)) flights are.once;
  alone = filtered_once (λ one. one.1.sector) (λ one. not (one.1.server == server)) flights are.alone;
}

removed_in : (f : ℕ × Flight → ℕ) (test : ℕ → Bool) (xs : Flights) (k : ℕ) → Among k (map f (remove_entry test xs)) → Among k (map f xs)
removed_in f test [] k i = absurd i
removed_in f test (x ∷ xs) k i = go (test x.0) (removed_in f test xs k) i
  where
    go : (b : Bool) → (Among k (map f (remove_entry test xs)) → Among k (map f xs)) → Among k (map f (cond b xs (x ∷ remove_entry test xs))) → Among k (f x ∷ map f xs)
    go true rest j = inr j
    go false rest (inl e) = inl e
    go false rest (inr j) = inr (rest j)

removed_once : (f : ℕ × Flight → ℕ) (test : ℕ → Bool) (xs : Flights) → Once (map f xs) → Once (map f (remove_entry test xs))
removed_once f test [] o = tt
removed_once f test (x ∷ xs) o = go (test x.0) (removed_once f test xs o.1)
  where
    go : (b : Bool) → Once (map f (remove_entry test xs)) → Once (map f (cond b xs (x ∷ remove_entry test xs)))
    go true rest = o.1
    go false rest = ((λ i. o.0 (removed_in f test xs (f x) i)), rest)

pub of_landed : (ticket : ℕ) (flights : Flights) (tickets : ℕ) → AreSingle flights tickets → AreSingle (without flights ticket) tickets
of_landed ticket flights tickets are = record {
  below = λ k i. are.below k (removed_in (λ one. one.0) (is_at (nat_cmp ticket)) flights k i);
  once = removed_once (λ one. one.0) (is_at (nat_cmp ticket)) flights are.once;
  alone = removed_once (λ one. one.1.sector) (is_at (nat_cmp ticket)) flights are.alone;
}

-- ---- one more

pushed_in : {X : Type 0} (f : X → ℕ) (xs : List X) (x : X) (k : ℕ) → Among k (map f (xs ++ x ∷ [])) → Among k (map f xs) ⊎ (f x ≡ k)
pushed_in f [] x k i = ⊎_elim (λ e. inr (sym e)) (λ j. absurd j) i
pushed_in f (y ∷ ys) x k i = ⊎_elim (λ e. inl (inl e)) (λ j. ⊎_elim (λ a. inl (inr a)) (λ b. inr b) (pushed_in f ys x k j)) i

pushed_once : {X : Type 0} (f : X → ℕ) (xs : List X) (x : X) → Once (map f xs) → (Among (f x) (map f xs) → ⊥) → Once (map f (xs ++ x ∷ []))
pushed_once f [] x o n = ((λ i. absurd i), tt)
pushed_once f (y ∷ ys) x o n =
    ((λ i. ⊎_elim (λ a. o.0 a) (λ e. n (inl e)) (pushed_in f ys x (f y) i)), pushed_once f ys x o.1 (λ i. n (inr i)))

flying_in : (flights : Flights) (sector : ℕ) → Among sector (sectors_in flights) → IsTrue (is_flying flights sector)
flying_in [] sector i = absurd i
flying_in (one ∷ others) sector (inl e) = or_left (one.1.sector == sector) (is_flying others sector) (eq-eqb one.1.sector sector (sym e))
flying_in (one ∷ others) sector (inr i) = or_right (one.1.sector == sector) (is_flying others sector) (flying_in others sector i)

later : (n m : ℕ) → n < m → n < m + 1
later n m h = omega (arith, h)

at_last : (n m : ℕ) → m ≡ n → n < m + 1
at_last n m e = grind (arith, e)

below_self : (n : ℕ) → n < n → ⊥
below_self n h = absurd (grind (arith, h))

pub of_issued : (flights : Flights) (tickets : ℕ) (flight : Flight) → IsTrue (not (is_flying flights flight.sector)) → AreSingle flights tickets → AreSingle (flights ++ (tickets, flight) ∷ []) (tickets + 1)
of_issued flights tickets flight alone are = record {
  below = λ ticket i. ⊎_elim (λ a. later ticket tickets (are.below ticket a)) (λ e. at_last ticket tickets e) (pushed_in (λ one. one.0) flights (tickets, flight) ticket i);
  once = pushed_once (λ one. one.0) flights (tickets, flight) are.once (λ i. below_self tickets (are.below tickets i));
  alone = pushed_once (λ one. one.1.sector) flights (tickets, flight) are.alone (λ i. both_ways (is_flying flights flight.sector) (not-true (is_flying flights flight.sector) alone) (flying_in flights flight.sector i));
}
