-- Each line's number has a mark.
use Rattle.std.proofs.Common.{◌≡◌, ℕ, ◌+◌, ◌<◌, ◌≤◌, Bool, true, false, ◌&&◌, if◌then◌else◌, List, [], ◌∷◌, length, replicate, get_or, Some, max, nat_lt, refl, sym, ap, ◌∙◌, inl, inr, ◌⊎◌, subst, arith}
use Rattle.std.specs.Prelude.{find}
use Rattle.std.specs.List.{list_all}
use Rattle.std.proofs.lemmas.Bool.{and_parts, cases_lt}
use Rattle.std.proofs.lemmas.Bool.Decides.{nat_tests}
use Rattle.std.proofs.lemmas.List.{get_or-replicate, get_or_past, length-replicate}
use Rattle.std.proofs.lemmas.Option.{same_Some}
use Rattle.frang_base.specs.declared.script.Line.{Line}
use Rattle.world_definitions.specs.Worlds.{marks_of}
use Rattle.script_places.specs.Placed.{mark_count}

all_below : (k : ℕ) (lines : List Line) → mark_count lines ≤ k → list_all (λ line. nat_lt line.number k) lines ≡ true
all_below k [] enough = refl
all_below k (line ∷ lines) enough = ap (λ b. b && list_all (λ line. nat_lt line.number k) lines) (first line.number (mark_count lines) k enough) ∙ all_below k lines (others line.number (mark_count lines) k enough)
  where
    first : (a c k : ℕ) → max (a + 1) c ≤ k → nat_lt a k ≡ true
    first a c k e = grind (arith, nat_tests, e)

    others : (a c k : ℕ) → max (a + 1) c ≤ k → c ≤ k
    others a c k e = omega arith

-- so many marks are enough
pub enough_marks : (lines : List Line) → list_all (λ line. nat_lt line.number (length (replicate (mark_count lines) false))) lines ≡ true
enough_marks lines = ap (λ k. list_all (λ line. nat_lt line.number k) lines) (length-replicate (mark_count lines) false) ∙ all_below (mark_count lines) lines (self (mark_count lines))
  where
    self : (n : ℕ) → n ≤ n
    self n = omega arith

-- a line that is found has its mark
pub found_marked : (p : Line → Bool) (k : ℕ) (lines : List Line) (x : Line) → list_all (λ line. nat_lt line.number k) lines ≡ true → find p lines ≡ Some x → nat_lt x.number k ≡ true
found_marked p k [] x all e = cc
found_marked p k (y ∷ ys) x all e = go (p y) (and_parts (nat_lt y.number k) _ all).0 (found_marked p k ys x (and_parts (nat_lt y.number k) _ all).1) e
  where
    go : (b : Bool) → nat_lt y.number k ≡ true → (find p ys ≡ Some x → nat_lt x.number k ≡ true) → (if b then Some y else find p ys) ≡ Some x → nat_lt x.number k ≡ true
    go true below rest e = subst (λ z. nat_lt z.number k ≡ true) (same_Some y x e) below
    go false below rest e = rest e

-- none is set at first
pub none_set : (n k : ℕ) → marks_of (replicate n false) k ≡ false
none_set n k = go (cases_lt k n)
  where
    go : (k < n) ⊎ (n ≤ k) → get_or (replicate n false) k false ≡ false
    go (inl inside) = get_or-replicate n k false false inside
    go (inr past) = get_or_past (replicate n false) k false (past_all past)
      where
        past_all : n ≤ k → length (replicate n false) ≤ k
        past_all past = subst (λ m. m ≤ k) (sym (length-replicate n false)) past
