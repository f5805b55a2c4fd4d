-- In how many bytes two lists differ: the triangle law, lists piece by piece, and one element of a list that is set.
use Rattle.std.proofs.Common.{◌≡◌, ℕ, zero, suc, ◌+◌, ◌≤◌, Bool, true, false, ◌==◌, if◌then◌else◌, List, [], ◌∷◌, ◌++◌, length, drop, set, refl, ap, ◌∙◌, arith}
use Rattle.std.proofs.lemmas.Bool.{eq-eqb, eqb-true}

-- how many bytes differ; where one list is longer, each byte more does
abbrev pub differing : List ℕ → List ℕ → ℕ
differing [] ys = length ys
differing (a ∷ xs) [] = suc (length xs)
differing (a ∷ xs) (b ∷ ys) = (if a == b then 0 else 1) + differing xs ys

one_most : (t : Bool) → (if t then 0 else 1) ≤ 1
one_most true = omega arith
one_most false = omega arith

-- one byte: the triangle law
one_between : (a b c : ℕ) → (if a == c then 0 else 1) ≤ (if a == b then 0 else 1) + (if b == c then 0 else 1)
one_between a b c = go (a == b) (b == c) (a == c) (λ t u. eq-eqb a c (eqb-true a b t ∙ eqb-true b c u))
  where
    go : (t u v : Bool) → (t ≡ true → u ≡ true → v ≡ true) → (if v then 0 else 1) ≤ (if t then 0 else 1) + (if u then 0 else 1)
    go true true true h = omega arith
    go true true false h = let e : false ≡ true = h refl refl in absurd cc
    go true false v h = one_most v
    go false u true h = omega arith
    go false u false h = omega arith

differing_none : (xs : List ℕ) → differing xs [] ≡ length xs
differing_none [] = refl
differing_none (a ∷ xs) = refl

-- the length of one is at most that of the other and what differs
length_near : (xs ys : List ℕ) → length xs ≤ differing xs ys + length ys
length_near [] ys = omega arith
length_near (a ∷ xs) [] = omega arith
length_near (a ∷ xs) (b ∷ ys) = let l = length_near xs ys in omega arith

length_close : (xs ys : List ℕ) → length ys ≤ length xs + differing xs ys
length_close [] ys = omega arith
length_close (a ∷ xs) [] = omega arith
length_close (a ∷ xs) (b ∷ ys) = let l = length_close xs ys in omega arith

pub between : (xs ys zs : List ℕ) → differing xs zs ≤ differing xs ys + differing ys zs
between [] ys zs = length_close ys zs
between (a ∷ xs) [] [] = omega arith
between (a ∷ xs) [] (c ∷ zs) = let l = one_most (a == c) in let m = between xs [] zs in let e = differing_none xs in omega arith
between (a ∷ xs) (b ∷ ys) [] = let l = length_near xs ys in omega arith
between (a ∷ xs) (b ∷ ys) (c ∷ zs) = let l = one_between a b c in let m = between xs ys zs in omega arith

-- 1 where a byte is another one
abbrev other : Bool → ℕ
other t = if t then 0 else 1

no_other : (a : ℕ) → other (a == a) ≡ 0
no_other a = ap other (eq-eqb a a refl)

pub same_bytes : (xs : List ℕ) → differing xs xs ≡ 0
same_bytes [] = refl
same_bytes (a ∷ xs) = let e = no_other a in let r = same_bytes xs in omega arith

-- of lists of at most n bytes at most n differ
pub at_most : (n : ℕ) (xs ys : List ℕ) → length xs ≤ n → length ys ≤ n → differing xs ys ≤ n
at_most n [] ys l m = m
at_most n (a ∷ xs) [] l m = l
at_most zero (a ∷ xs) (b ∷ ys) l m = absurd (omega arith)
at_most (suc n) (a ∷ xs) (b ∷ ys) l m = let e = one_most (a == b) in let r = at_most n xs ys (omega arith) (omega arith) in omega arith

-- without their first bytes they differ no more
pub dropped : (n : ℕ) (xs ys : List ℕ) → differing (drop n xs) (drop n ys) ≤ differing xs ys
dropped zero xs ys = omega arith
dropped (suc n) [] [] = omega arith
dropped (suc n) [] (b ∷ ys) = let l = dropped n [] ys in omega (arith, nothing n)
  where
    nothing : (n : ℕ) → differing (drop n []) (drop n ys) ≡ length (drop n ys)
    nothing zero = refl
    nothing (suc n) = refl
dropped (suc n) (a ∷ xs) [] = let l = dropped n xs [] in let e = differing_none xs in let f = differing_none (drop n xs) in omega (arith, nothing n)
  where
    nothing : (n : ℕ) → differing (drop n xs) (drop n []) ≡ length (drop n xs)
    nothing zero = differing_none xs
    nothing (suc n) = differing_none (drop (suc n) xs)
dropped (suc n) (a ∷ xs) (b ∷ ys) = let l = dropped n xs ys in omega arith

-- piece by piece
pub pieces : (xs ys xs' ys' : List ℕ) → length xs ≡ length xs' → differing (xs ++ ys) (xs' ++ ys') ≤ differing xs xs' + differing ys ys'
pieces [] ys [] ys' e = omega arith
pieces [] ys (a' ∷ xs') ys' e = absurd (omega arith)
pieces (a ∷ xs) ys [] ys' e = absurd (omega arith)
pieces (a ∷ xs) ys (a' ∷ xs') ys' e = let l = pieces xs ys xs' ys' (omega arith) in omega arith

pub behind : (xs ys ys' : List ℕ) → differing (xs ++ ys) (xs ++ ys') ≤ differing ys ys'
behind xs ys ys' = let l = pieces xs ys xs ys' refl in let e = same_bytes xs in omega arith

-- one byte that is set
pub one_set : (xs : List ℕ) (j v : ℕ) → differing xs (set xs j v) ≤ 1
one_set [] j v = omega arith
one_set (x ∷ xs) zero v = let l = one_most (x == v) in let e = same_bytes xs in omega arith
one_set (x ∷ xs) (suc j) v = let l = one_set xs j v in let e = no_other x in omega arith
