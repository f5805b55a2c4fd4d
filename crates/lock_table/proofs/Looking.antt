-- The next segment is found in one walk over the segments, and what is held sole and asked among what is asked.
use Rattle.std.proofs.Common.{◌≡◌, ℕ, zero, suc, ◌+◌, ◌-◌, ◌<◌, ◌≤◌, Bool, true, false, not, ◌&&◌, ◌||◌, if◌then◌else◌, is_some, List, [], ◌∷◌, ◌++◌, filter, Option, Some, None, refl, sym, ap, ◌∙◌, add-zero, arith}
use Rattle.std.specs.Prelude.{find}
use Rattle.std.specs.List.{cons_option, filter_map, list_any, range_with_len, slice_get}
use Rattle.std.specs.Option.{option_map, option_or}
use Rattle.std.specs.Map.{lookup}
use Rattle.frang_base.specs.declared.lock.LockId.{LockId}
use Rattle.frang_base.specs.declared.lock.LockId.TheVariants.{Segment}
use Rattle.frang_base.specs.declared.lock.Mode.{Mode}
use Rattle.tree_definitions.specs.Numbers.{below}
use Rattle.lock_definitions.specs.Order.{is_lock}
use Rattle.lock_definitions.specs.Locks.{Locks}
use Rattle.lock_definitions.specs.Holders.{is_sole, is_unheld, next_among}
use Rattle.lock_table.specs.declared.looks.Found.{Found}
use Rattle.lock_table.specs.Looks.{noted}

-- ---- the numbers of segments

range_more : (a n : ℕ) → range_with_len a n ++ (a + n) ∷ [] ≡ range_with_len a (suc n)
range_more a zero = ap (λ m. m ∷ []) (add-zero a)
range_more a (suc n) = ap (λ m. a ∷ (range_with_len (a + 1) n ++ m ∷ [])) (shifted a n) ∙ ap (λ rest. a ∷ rest) (range_more (a + 1) n)
  where
    shifted : (a n : ℕ) → a + suc n ≡ (a + 1) + n
    shifted a n = omega arith

pub below_range : (n : ℕ) → below n ≡ range_with_len 0 n
below_range zero = refl
below_range (suc n) = ap (λ xs. xs ++ n ∷ []) (below_range n) ∙ ap (λ m. range_with_len 0 n ++ m ∷ []) (sym (plain n)) ∙ range_more 0 n
  where
    plain : (n : ℕ) → 0 + n ≡ n
    plain n = omega arith

-- the first of the numbers that are left
pub range_first : (i n : ℕ) → i < n → range_with_len i (n - i) ≡ i ∷ range_with_len (i + 1) (n - (i + 1))
range_first i n inside = ap (range_with_len i) (more i n inside)
  where
    more : (i n : ℕ) → i < n → n - i ≡ suc (n - (i + 1))
    more i n inside = omega arith

pub range_none : (i n : ℕ) → n ≤ i → range_with_len i (n - i) ≡ []
range_none i n past = ap (range_with_len i) (less i n past)
  where
    less : (i n : ℕ) → n ≤ i → n - i ≡ 0
    less i n past = omega arith

-- ---- what is chosen of what was found and what is left

module _ (sole unheld outside : ℕ → Bool) where
  abbrev pub chosen_from : Found → List ℕ → Option ℕ
  chosen_from found xs = option_or (find sole xs) (option_or (option_or found.unheld (find unheld xs)) (option_or found.first (slice_get xs 0)))

  abbrev pub chosen_of : Found → List ℕ → Option ℕ
  chosen_of found xs = chosen_from found (filter outside xs)

  pub chosen_none : (found : Found) → chosen_from found [] ≡ option_or found.unheld found.first
  chosen_none found = go found.unheld found.first
    where
      go : (u f : Option ℕ) → option_or (option_or u None) (option_or f None) ≡ option_or u f
      go None None = refl
      go None (Some f) = refl
      go (Some u) f = refl

  -- one of the set is passed over
  pub passed_over : (found : Found) (x : ℕ) (xs : List ℕ) → outside x ≡ false → chosen_of found (x ∷ xs) ≡ chosen_of found xs
  passed_over found x xs is = ap (λ b. chosen_from found (if b then x ∷ filter outside xs else filter outside xs)) is

  stays : (found : Found) (x : ℕ) (xs : List ℕ) → outside x ≡ true → chosen_of found (x ∷ xs) ≡ chosen_from found (x ∷ filter outside xs)
  stays found x xs is = ap (λ b. chosen_from found (if b then x ∷ filter outside xs else filter outside xs)) is

  -- one that is held sole is chosen
  pub sole_chosen : (found : Found) (x : ℕ) (xs : List ℕ) → outside x ≡ true → sole x ≡ true → chosen_of found (x ∷ xs) ≡ Some x
  sole_chosen found x xs is held = stays found x xs is
      ∙ ap (λ b. option_or (if b then Some x else find sole (filter outside xs)) (option_or (option_or found.unheld (find unheld (x ∷ filter outside xs))) (option_or found.first (Some x)))) held

  -- another one is noted
  pub another_noted : (found : Found) (x : ℕ) (xs : List ℕ) → outside x ≡ true → sole x ≡ false → chosen_of found (x ∷ xs) ≡ chosen_of (noted found x (unheld x)) xs
  another_noted found x xs is held = stays found x xs is
      ∙ ap (λ b. option_or (if b then Some x else find sole Rest) (option_or (option_or found.unheld (find unheld (x ∷ Rest))) (option_or found.first (Some x)))) held
      ∙ ap (option_or (find sole Rest)) (go found.unheld found.first (unheld x))
    where
      Rest : List ℕ
      Rest = filter outside xs

      go : (u f : Option ℕ) (b : Bool) → option_or (option_or u (if b then Some x else find unheld Rest)) (option_or f (Some x))
          ≡ option_or (option_or (option_or u (if b then Some x else None)) (find unheld Rest)) (option_or (option_or f (Some x)) (slice_get Rest 0))
      go (Some u) f b = refl
      go None f true = refl
      go None None false = refl
      go None (Some f) false = refl

-- ---- the walk over the segments outside a set

module _ (locks : Locks) (server : ℕ) (set : List (LockId × Mode)) where
  abbrev pub is_outside : ℕ → Bool
  is_outside segment = not (is_some (lookup (is_lock (Segment segment)) set))

  abbrev pub chosen_in : Found → List ℕ → Option ℕ
  chosen_in found xs = chosen_of (λ segment. is_sole locks server (Segment segment)) (λ segment. is_unheld locks (Segment segment)) is_outside found xs

  pub walk_begins : (found : Found) (n : ℕ) → found ≡ record { unheld = None; first = None } → chosen_in found (range_with_len 0 (n - 0)) ≡ next_among locks server (filter is_outside (below n))
  walk_begins found n nothing = ap (λ f. chosen_in f (range_with_len 0 (n - 0))) nothing ∙ ap (λ m. next_among locks server (filter is_outside (range_with_len 0 m))) (all n) ∙ ap (λ xs. next_among locks server (filter is_outside xs)) (sym (below_range n))
    where
      all : (n : ℕ) → n - 0 ≡ n
      all n = omega arith

  module _ (found : Found) (i n : ℕ) (chosen : Option ℕ) (inside : i < n) (so_far : chosen_in found (range_with_len i (n - i)) ≡ chosen) where
    at_first : chosen_in found (i ∷ range_with_len (i + 1) (n - (i + 1))) ≡ chosen
    at_first = ap (chosen_in found) (sym (range_first i n inside)) ∙ so_far

    pub walk_passes : (after : Found) → is_some (lookup (is_lock (Segment i)) set) ≡ true → after ≡ found → chosen_in after (range_with_len (i + 1) (n - (i + 1))) ≡ chosen
    walk_passes after known same = ap (λ f. chosen_in f (range_with_len (i + 1) (n - (i + 1)))) same
        ∙ sym (passed_over (λ segment. is_sole locks server (Segment segment)) (λ segment. is_unheld locks (Segment segment)) is_outside found i (range_with_len (i + 1) (n - (i + 1))) (ap not known)) ∙ at_first

    pub walk_notes : (after : Found) → is_some (lookup (is_lock (Segment i)) set) ≡ false → is_sole locks server (Segment i) ≡ false → after ≡ noted found i (is_unheld locks (Segment i)) → chosen_in after (range_with_len (i + 1) (n - (i + 1))) ≡ chosen
    walk_notes after unknown other is = ap (λ f. chosen_in f (range_with_len (i + 1) (n - (i + 1)))) is
        ∙ sym (another_noted (λ segment. is_sole locks server (Segment segment)) (λ segment. is_unheld locks (Segment segment)) is_outside found i (range_with_len (i + 1) (n - (i + 1))) (ap not unknown) other) ∙ at_first

    pub walk_chooses : is_some (lookup (is_lock (Segment i)) set) ≡ false → is_sole locks server (Segment i) ≡ true → Some i ≡ chosen
    walk_chooses unknown sole =
        sym (sole_chosen (λ segment. is_sole locks server (Segment segment)) (λ segment. is_unheld locks (Segment segment)) is_outside found i (range_with_len (i + 1) (n - (i + 1))) (ap not unknown) sole) ∙ at_first

  pub walk_ends : (found : Found) (i n : ℕ) (chosen : Option ℕ) → n ≤ i → chosen_in found (range_with_len i (n - i)) ≡ chosen → option_or found.unheld found.first ≡ chosen
  walk_ends found i n chosen past so_far =
      sym (chosen_none (λ segment. is_sole locks server (Segment segment)) (λ segment. is_unheld locks (Segment segment)) is_outside found) ∙ ap (chosen_in found) (sym (range_none i n past)) ∙ so_far

-- ---- what is asked and held sole

-- some entry passes of which something is made, exactly where one of what is made passes by its key
pub any_made : {K V W : Type 0} (passes : K → Bool) (of : K → Option W) (entries : List (K × V))
    → list_any (λ (made : K × W). passes made.0) (filter_map (λ (entry : K × V). option_map (λ made. (entry.0, made)) (of entry.0)) entries) ≡ list_any (λ (entry : K × V). passes entry.0 && is_some (of entry.0)) entries
any_made passes of [] = refl
any_made {K} {V} {W} passes of (entry ∷ entries) = go (of entry.0) (any_made passes of entries)
  where
    Made : List (K × W)
    Made = filter_map (λ (entry : K × V). option_map (λ made. (entry.0, made)) (of entry.0)) entries

    and_true : (b : Bool) → b ≡ (b && true)
    and_true true = refl
    and_true false = refl

    and_false : (b : Bool) → false ≡ (b && false)
    and_false true = refl
    and_false false = refl

    go : (o : Option W) → list_any (λ (made : K × W). passes made.0) Made ≡ list_any (λ (entry : K × V). passes entry.0 && is_some (of entry.0)) entries
        → list_any (λ (made : K × W). passes made.0) (cons_option (option_map (λ made. (entry.0, made)) o) Made) ≡ ((passes entry.0 && is_some o) || list_any (λ (entry : K × V). passes entry.0 && is_some (of entry.0)) entries)
    go None rest = rest ∙ ap (λ some. some || list_any (λ (entry : K × V). passes entry.0 && is_some (of entry.0)) entries) (and_false (passes entry.0))
    go (Some made) rest = ap (λ others. passes entry.0 || others) rest ∙ ap (λ some. some || list_any (λ (entry : K × V). passes entry.0 && is_some (of entry.0)) entries) (and_true (passes entry.0))
