-- Sectors among others: of a computation made of two, and of a look at segments.
use Rattle.std.proofs.Common.{ℕ, List, ◌∷◌, map, sym, subst}
use Rattle.std.proofs.lemmas.List.Elements.{Contains-append_left, Contains-append_right}
use Rattle.std.specs.List.{Contains}
use Rattle.disk_definitions.specs.Store.{Store}
use Rattle.disk_definitions.specs.Ask.{Sector, SegmentAt, Ask, bind, run, looks, read_segments}
use Rattle.plan_laws.proofs.Asking.{looks-bind, looks-segments}
use Rattle.plan_laws.proofs.Covering.{has_head, has_more, map_has}

abbrev pub Within : List Sector → List Sector → Type 0
Within xs all = (x : Sector) → Contains xs x → Contains all x

module _ (all : List Sector) where
  pub first_of : (x : Sector) (xs : List Sector) → Within (x ∷ xs) all → Contains all x
  first_of x xs w = w x (has_head x xs)

  pub rest_of : (x : Sector) (xs : List Sector) → Within (x ∷ xs) all → Within xs all
  rest_of x xs w y c = w y (has_more x y xs c)

  pub left_of : {A B : Type 0} (p : Ask A) (f : A → Ask B) (s : Store) → Within (looks (bind p f) s) all → Within (looks p s) all
  left_of p f s w x c = w x (subst (λ l. Contains l x) (sym (looks-bind p f s)) (Contains-append_left (looks p s) (looks (f (run p s)) s) x c))

  pub right_of : {A B : Type 0} (p : Ask A) (f : A → Ask B) (s : Store) → Within (looks (bind p f) s) all → Within (looks (f (run p s)) s) all
  right_of p f s w x c = w x (subst (λ l. Contains l x) (sym (looks-bind p f s)) (Contains-append_right (looks p s) (looks (f (run p s)) s) x c))

  pub segment_of : {A : Type 0} (ks : List ℕ) (p : Ask A) (s : Store) → Within (looks (read_segments ks p) s) all → (k : ℕ) → Contains ks k → Contains all (SegmentAt k)
  segment_of ks p s w k c = w (SegmentAt k) (subst (λ l. Contains l (SegmentAt k)) (sym (looks-segments ks p s)) (Contains-append_left (map SegmentAt ks) (looks p s) (SegmentAt k) (map_has SegmentAt ks k c)))

  pub past_segments : {A : Type 0} (ks : List ℕ) (p : Ask A) (s : Store) → Within (looks (read_segments ks p) s) all → Within (looks p s) all
  past_segments ks p s w x c = w x (subst (λ l. Contains l x) (sym (looks-segments ks p s)) (Contains-append_right (map SegmentAt ks) (looks p s) x c))
