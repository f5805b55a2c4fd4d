-- To take sectors out one after the other is to take out all that are among them.
use Rattle.std.proofs.Common.{◌≡◌, ℕ, ◌==◌, Bool, true, false, not, if◌then◌else◌, nat_eq, List, [], ◌∷◌, filter, refl, sym, ap, ◌∙◌, arith}
use Rattle.std.proofs.lemmas.Bool.Decides.{nat_tests}
use Rattle.frang_base.specs.Functions.{member}
use Rattle.cache_definitions.specs.Flags.{but, but_all}

turned : (x s : ℕ) → nat_eq x s ≡ (s == x)
turned x s = grind (arith, nat_tests)

all_left : (sectors : List ℕ) → filter (λ s. not (member s [])) sectors ≡ sectors
all_left [] = refl
all_left (s ∷ sectors) = ap (λ rest. s ∷ rest) (all_left sectors)

one_more : (x : ℕ) (left sectors : List ℕ) → filter (λ s. not (member s left)) (but x sectors) ≡ filter (λ s. not (member s (x ∷ left))) sectors
one_more x left [] = refl
one_more x left (s ∷ sectors) =
    go (s == x) (member s left) (one_more x left sectors)
    ∙ ap (λ t. if not (if t then true else member s left) then s ∷ filter (λ s. not (member s (x ∷ left))) sectors else filter (λ s. not (member s (x ∷ left))) sectors) (sym (turned x s))
  where
    go : (t u : Bool) → filter (λ s. not (member s left)) (but x sectors) ≡ filter (λ s. not (member s (x ∷ left))) sectors
        → filter (λ s. not (member s left)) (if not t then s ∷ but x sectors else but x sectors)
        ≡ (if not (if t then true else member s left) then s ∷ filter (λ s. not (member s (x ∷ left))) sectors else filter (λ s. not (member s (x ∷ left))) sectors)
    go true u rest = rest
    go false u rest = ap (λ tail. if not (member s left) then s ∷ tail else tail) rest

pub left_all : (left sectors : List ℕ) → but_all left sectors ≡ filter (λ s. not (member s left)) sectors
left_all [] sectors = sym (all_left sectors)
left_all (x ∷ left) sectors = left_all left (but x sectors) ∙ one_more x left sectors
