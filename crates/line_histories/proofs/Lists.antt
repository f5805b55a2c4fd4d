-- Elements of lists that are filtered or mapped, as tests and as facts.
use Rattle.std.proofs.Common.{ℕ, ◌≡◌, ⊎_elim, Bool, true, false, nat_eq, if◌then◌else◌, Option, Some, None, List, [], ◌∷◌, map, refl, subst}
use Rattle.std.specs.List.{filter_map, cons_option, Contains}
use Rattle.std.proofs.lemmas.Bool.{eq-eqb, eqb-true}
use Rattle.frang_base.specs.Functions.{member}
use Rattle.plan_laws.proofs.Covering.{has_head, has_more, has_cases, not_in_none}

pub has_member : (s : ℕ) (xs : List ℕ) → Contains xs s → member s xs ≡ true
has_member s [] h = absurd (not_in_none s h)
has_member s (x ∷ xs) h = go (nat_eq x s) refl (has_member s xs)
  where
    go : (b : Bool) → nat_eq x s ≡ b → (Contains xs s → member s xs ≡ true) → (if b then true else member s xs) ≡ true
    go true e rest = refl
    go false e rest = rest (⊎_elim (λ q. absurd (let z = eq-eqb x s q in cc)) (λ i. i) (has_cases x s xs h))

pub member_has : (s : ℕ) (xs : List ℕ) → member s xs ≡ true → Contains xs s
member_has s [] h = absurd (cc)
member_has s (x ∷ xs) h = go (nat_eq x s) refl h (member_has s xs)
  where
    go : (b : Bool) → nat_eq x s ≡ b → (if b then true else member s xs) ≡ true → (member s xs ≡ true → Contains xs s) → Contains (x ∷ xs) s
    go true e i rest = subst (Contains (x ∷ xs)) (eqb-true x s e) (has_head x xs)
    go false e i rest = has_more x s xs (rest i)

pub filter_has : {X Y : Type 0} (f : X → Option Y) (xs : List X) (x : X) (y : Y) → f x ≡ Some y → Contains xs x → Contains (filter_map f xs) y
filter_has {X} {Y} f [] x y e h = absurd (not_in_none x h)
filter_has {X} {Y} f (z ∷ zs) x y e h = go (filter_has f zs x y e) (f z) refl
  where
    go : (Contains zs x → Contains (filter_map f zs) y) → (o : Option Y) → f z ≡ o → Contains (cons_option o (filter_map f zs)) y
    go rest None i = ⊎_elim (λ q. absurd (let w : f x ≡ None = subst (λ v. f v ≡ None) q i in cc)) rest (has_cases z x zs h)
    go rest (Some v) i = ⊎_elim (λ q. let w : f x ≡ Some v = subst (λ u. f u ≡ Some v) q i in let same : v ≡ y = cc in subst (Contains (v ∷ filter_map f zs)) same (has_head v (filter_map f zs)))
        (λ c. has_more v y (filter_map f zs) (rest c)) (has_cases z x zs h)

pub has_map : {X Y : Type 0} (f : X → Y) (xs : List X) (y : Y) → Contains (map f xs) y → (x : X) × Contains xs x × (f x ≡ y)
has_map f [] y h = absurd (not_in_none y h)
has_map f (z ∷ zs) y h = ⊎_elim (λ q. (z, has_head z zs, q)) (λ d. let r = has_map f zs y d in (r.0, has_more z r.0 zs r.1, r.2)) (has_cases (f z) y (map f zs) h)
