-- Where there is room for a sector in all, there is room for it in each of the orders.
use Rattle.std.proofs.Common.{◌≡◌, ℕ, ◌+◌, ◌-◌, ◌<◌, ◌≤◌, min, List, [], ◌∷◌, arith}
use Rattle.clerk_cache.specs.Indexing.{fewest}

-- a number is at most each of a list
abbrev pub IsBelow : ℕ → List ℕ → Type 0
IsBelow n [] = Unit {0}
IsBelow n (x ∷ xs) = (n ≤ x) × IsBelow n xs

lower : (m n : ℕ) (xs : List ℕ) → m ≤ n → IsBelow n xs → IsBelow m xs
lower m n [] less below = tt
lower m n (x ∷ xs) less below = (first m n x less below.0, lower m n xs less below.1)
  where
    first : (m n x : ℕ) → m ≤ n → n ≤ x → m ≤ x
    first m n x less below = omega arith

-- the least of a list is at most each
pub fewest_below : (a : ℕ) (xs : List ℕ) → IsBelow (fewest a xs) (a ∷ xs)
fewest_below a [] = (omega arith, tt)
fewest_below a (x ∷ xs) = (first a (fewest x xs), lower (min a (fewest x xs)) (fewest x xs) (x ∷ xs) (second a (fewest x xs)) (fewest_below x xs))
  where
    first : (a b : ℕ) → min a b ≤ a
    first a b = omega arith

    second : (a b : ℕ) → min a b ≤ b
    second a b = omega arith

-- a key goes in once the old one is out
pub key_fits : (left keys held room all most : ℕ) → left ≡ keys → keys + 1 ≤ held + room → held ≤ all → room ≤ all - held → all ≤ most → left < most
key_fits left keys held room all most is fewer within free below = omega arith

pub state_fits : (held room all spare : ℕ) → held ≤ all → room ≤ all - held → all ≤ spare + held → room ≤ spare
state_fits held room all spare within free below = omega arith

pub room_kept : (all new_all held new_held room : ℕ) → new_all ≡ all → new_held ≡ held + room → held ≤ all → room ≤ all - held → new_held ≤ new_all
room_kept all new_all held new_held room same more within free = omega arith

pub spare_left : (all new_all held new_held room : ℕ) → new_all ≡ all → new_held ≡ held + room → held ≤ all → room ≤ all - held → new_all - new_held + room ≡ all - held
spare_left all new_all held new_held room same more within free = omega arith

pub spare_grown : (all new_all held new_held : ℕ) → new_all ≡ all → new_held ≤ held → all - held ≤ new_all - new_held
spare_grown all new_all held new_held same fewer = omega arith

pub room_shrunk : (all new_all held new_held : ℕ) → new_all ≡ all → new_held ≤ held → held ≤ all → new_held ≤ new_all
room_shrunk all new_all held new_held same fewer within = omega arith

-- ---- more room in each is more in all

-- the numbers of one list are at most those of the other, one for one
abbrev pub AreGrown : List ℕ → List ℕ → Type 0
AreGrown [] [] = Unit {0}
AreGrown [] (b ∷ bs) = ⊥
AreGrown (a ∷ xs) [] = ⊥
AreGrown (a ∷ xs) (b ∷ ys) = (a ≤ b) × AreGrown xs ys

pub fewest_grows : (a b : ℕ) (xs ys : List ℕ) → a ≤ b → AreGrown xs ys → fewest a xs ≤ fewest b ys
fewest_grows a b [] [] first rest = first
fewest_grows a b [] (y ∷ ys) first rest = elim rest [ ]
fewest_grows a b (x ∷ xs) [] first rest = elim rest [ ]
fewest_grows a b (x ∷ xs) (y ∷ ys) first rest = both a b (fewest x xs) (fewest y ys) first (fewest_grows x y xs ys rest.0 rest.1)
  where
    both : (a b c d : ℕ) → a ≤ b → c ≤ d → min a c ≤ min b d
    both a b c d first rest = omega arith

pub room_grown : (all new_all held new_held : ℕ) → all ≤ new_all → new_held ≡ held → held ≤ all → new_held ≤ new_all
room_grown all new_all held new_held grown same within = omega arith

pub spare_widened : (all new_all held new_held : ℕ) → all ≤ new_all → new_held ≡ held → all - held ≤ new_all - new_held
spare_widened all new_all held new_held grown same = omega arith
