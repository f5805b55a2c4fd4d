-- Lists of the numbers below one, and the 192 numbers up to an end, a number at a time.
use Rattle.std.proofs.Common.{◌≡◌, ℕ, zero, suc, ◌+◌, ◌-◌, ◌<◌, ◌≤◌, Bool, true, false, ◌&&◌, nat_le, is_some, Option, Some, None, List, [], ◌∷◌, ◌++◌, map, refl, sym, ap, ◌∙◌, add-one, arith}
use Rattle.std.proofs.lemmas.List.{map-append}
use Rattle.std.proofs.lemmas.List.Elements.{filter_map-append}
use Rattle.std.proofs.lemmas.Bool.{and_from, lt-leb, le-leb}
use Rattle.std.proofs.lemmas.Bool.Decides.{nat_tests}
use Rattle.std.proofs.lemmas.List.Folds.{list_all-append}
use Rattle.std.specs.List.{list_all, filter_map}
use Rattle.disk_definitions.specs.declared.log_sector.LogSector.{LogSector}
use Rattle.tree_definitions.specs.Numbers.{below}
use Rattle.disk_definitions.specs.Logs as logs
use Rattle.log_reading.specs.Decoded.{Decoded, is_full, sector_with, sectors_up_to}

-- the first of the 192 numbers up to an end
abbrev pub numbers_from : ℕ → ℕ → List ℕ
numbers_from end n = map (λ k. end - 191 + k) (below n)

module _ {X : Type 0} (f : ℕ → X) where
  pub map_more : (n : ℕ) → map f (below (n + 1)) ≡ map f (below n) ++ f n ∷ []
  map_more n = ap (λ k. map f (below k)) (add-one n) ∙ map-append f (below n) (n ∷ [])

-- ---- all of them stand in their slots

all_more : (p : ℕ → Bool) (end n : ℕ) → list_all p (numbers_from end (n + 1)) ≡ (list_all p (numbers_from end n) && (p (end - 191 + n) && true))
all_more p end n = ap (list_all p) (map_more (λ k. end - 191 + k) n) ∙ list_all-append p (numbers_from end n) ((end - 191 + n) ∷ [])

pub stand_more : (sectors : Decoded) (end n : ℕ) → list_all (λ m. is_some (sector_with sectors m)) (numbers_from end n) ≡ true → is_some (sector_with sectors (end - 191 + n)) ≡ true
    → list_all (λ m. is_some (sector_with sectors m)) (numbers_from end (n + 1)) ≡ true
stand_more sectors end n h e =
    all_more (λ m. is_some (sector_with sectors m)) end n ∙ and_from _ _ h (and_from _ _ e refl)

-- one that doesn't
one_lacks : (p : ℕ → Bool) (end n k : ℕ) → k < n → p (end - 191 + k) ≡ false → list_all p (numbers_from end n) ≡ false
one_lacks p end zero k h e = absurd (omega arith)
one_lacks p end (suc n) k h e = ap (λ m. list_all p (numbers_from end m)) (sym (add-one n)) ∙ all_more p end n ∙ go (nat_le n k) refl (one_lacks p end n k)
  where
    both : (x y : Bool) → y ≡ false → (x && (y && true)) ≡ false
    both true y z = ap (λ b. b && true) z
    both false y z = refl

    go : (b : Bool) → nat_le n k ≡ b → (k < n → p (end - 191 + k) ≡ false → list_all p (numbers_from end n) ≡ false) → (list_all p (numbers_from end n) && (p (end - 191 + n) && true)) ≡ false
    go true t others = let last : k ≡ n = grind (arith, nat_tests, t, h) in both (list_all p (numbers_from end n)) (p (end - 191 + n)) (ap (λ m. p (end - 191 + m)) (sym last) ∙ e)
    go false t others = let before : k < n = grind (arith, nat_tests, t) in ap (λ b. b && (p (end - 191 + n) && true)) (others before e)

-- ---- the test of an end

pub full : (sectors : Decoded) (end : ℕ) → 191 ≤ end → list_all (λ m. is_some (sector_with sectors m)) (numbers_from end 192) ≡ true → true ≡ is_full sectors end
unfolding is_full logs.window
full sectors end h e = sym (and_from _ _ (le-leb 191 end h) e)

pub not_full : (sectors : Decoded) (end k : ℕ) → 191 ≤ end → k < 192 → is_some (sector_with sectors (end - 191 + k)) ≡ false → false ≡ is_full sectors end
unfolding is_full logs.window
not_full sectors end k h l e = sym (ap (λ b. b && list_all (λ m. is_some (sector_with sectors m)) (numbers_from end 192)) (le-leb 191 end h) ∙ one_lacks (λ m. is_some (sector_with sectors m)) end 192 k l e)

pub low : (sectors : Decoded) (end : ℕ) → end < 191 → false ≡ is_full sectors end
unfolding is_full logs.window
low sectors end h = sym (ap (λ b. b && list_all (λ m. is_some (sector_with sectors m)) (numbers_from end 192)) (lt-leb 191 end h))

-- ---- the sectors

abbrev pub with_sector : Option LogSector → List LogSector
with_sector None = []
with_sector (Some x) = x ∷ []

one_more : (f : ℕ → Option LogSector) (n : ℕ) → filter_map f (n ∷ []) ≡ with_sector (f n)
one_more f n = go (f n)
  where
    go : (o : Option LogSector) → filter_map (λ (m : ℕ). o) (n ∷ []) ≡ with_sector o
    go None = refl
    go (Some x) = refl

pub sectors_more : (sectors : Decoded) (end n : ℕ) → filter_map (sector_with sectors) (numbers_from end (n + 1)) ≡ filter_map (sector_with sectors) (numbers_from end n) ++ with_sector (sector_with sectors (end - 191 + n))
sectors_more sectors end n =
    let f = sector_with sectors in
    let last = end - 191 + n in
    ap (filter_map f) (map_more (λ k. end - 191 + k) n) ∙ filter_map-append f (numbers_from end n) (last ∷ []) ∙ ap (λ xs. filter_map f (numbers_from end n) ++ xs) (one_more f last)

pub none_read : (sectors : Decoded) → [] ≡ sectors_up_to sectors 0
unfolding sectors_up_to
none_read sectors = refl

pub all_read : (sectors : Decoded) (end : ℕ) → 0 < end → filter_map (sector_with sectors) (numbers_from end 192) ≡ sectors_up_to sectors end
unfolding sectors_up_to logs.window
all_read sectors zero h = absurd (omega arith)
all_read sectors (suc end) h = refl
