-- Sectors that are added to those that are wanted, one after the other.
use Rattle.std.proofs.Common.{◌≡◌, ◌≢◌, ⊎_elim, ℕ, ◌+◌, Bool, true, false, not, ◌&&◌, ◌||◌, List, [], ◌∷◌, ◌++◌, map, option_to_list, is_some, Some, None, Option, refl, sym, ap, ◌∙◌, subst, add-one, append-nil}
use Rattle.std.proofs.lemmas.Bool.{cases_eq}
use Rattle.std.proofs.lemmas.List.{map-append}
use Rattle.std.proofs.lemmas.List.Elements.{filter_map-append}
use Rattle.std.proofs.lemmas.Grind.{flat_map-append}
use Rattle.std.specs.List.{filter_map, flat_map}
use Rattle.frang_base.specs.Functions.{member}
use Rattle.tree_definitions.specs.Numbers.{below}
use Rattle.sector_bytes.specs.SectorMaps.{value_at, with_value}
use Rattle.core_definitions.specs.Trees.{TreeRead}
use Rattle.log_slots.proofs.Maps.{at_with, member_append, member_here, member_other, other_with}
use Rattle.host_tree.specs.Wanting.{Adds, SectorSet}

abbrev is_unread : TreeRead → ℕ → Bool
is_unread read sector = not (is_some (value_at read sector))

-- nothing more; some, and then others
pub added_none : (read : TreeRead) (before : SectorSet) → Adds read [] before before
added_none read before s = go (is_some (value_at before s))
  where
    go : (b : Bool) → b ≡ (b || (false && is_unread read s))
    go true = refl
    go false = refl

both_added : (a b c p : Bool) → ((a || (b && p)) || (c && p)) ≡ (a || ((b || c) && p))
both_added true b c p = refl
both_added false true true true = refl
both_added false true true false = refl
both_added false true false true = refl
both_added false true false false = refl
both_added false false c p = refl

pub added_more : (read : TreeRead) (xs ys : List ℕ) (before between after : SectorSet) → Adds read xs before between → Adds read ys between after → Adds read (xs ++ ys) before after
added_more read xs ys before between after first after_first s =
    after_first s ∙ ap (λ b. b || (member s ys && is_unread read s)) (first s) ∙ both_added (is_some (value_at before s)) (member s xs) (member s ys) (is_unread read s)
    ∙ sym (ap (λ b. is_some (value_at before s) || (b && is_unread read s)) (member_append s xs ys))

-- one that is read, and one that isn't
pub added_read : (read : TreeRead) (s : ℕ) (before : SectorSet) → is_some (value_at read s) ≡ true → Adds read (s ∷ []) before before
added_read read s before e x = ⊎_elim (λ h. here h) (λ h. other h) (cases_eq x s)
  where
    no_more : (b : Bool) → b ≡ (b || false)
    no_more true = refl
    no_more false = refl

    not_unread : (m u : Bool) → u ≡ false → (m && u) ≡ false
    not_unread true u h = h
    not_unread false u h = refl

    here : x ≡ s → is_some (value_at before x) ≡ (is_some (value_at before x) || (member x (s ∷ []) && is_unread read x))
    here h =
        no_more (is_some (value_at before x))
        ∙ ap (λ b. is_some (value_at before x) || b) (sym (not_unread (member x (s ∷ [])) (is_unread read x) (ap (is_unread read) h ∙ ap not e)))

    other : x ≢ s → is_some (value_at before x) ≡ (is_some (value_at before x) || (member x (s ∷ []) && is_unread read x))
    other h = no_more (is_some (value_at before x)) ∙ sym (ap (λ b. is_some (value_at before x) || (b && is_unread read x)) (member_other x s [] h))

pub added_one : (read : TreeRead) (s : ℕ) (before : SectorSet) → is_some (value_at read s) ≡ false → Adds read (s ∷ []) before (with_value before s tt)
added_one read s before e x = ⊎_elim (λ h. here h) (λ h. other h) (cases_eq x s)
  where
    or_last : (b : Bool) → true ≡ (b || true)
    or_last true = refl
    or_last false = refl

    or_none : (b p : Bool) → b ≡ (b || (false && p))
    or_none true p = refl
    or_none false p = refl

    here : x ≡ s → is_some (value_at (with_value before s tt) x) ≡ (is_some (value_at before x) || (member x (s ∷ []) && is_unread read x))
    here h =
        ap (λ n. is_some (value_at (with_value before s tt) n)) h ∙ ap is_some (at_with before s tt) ∙ or_last (is_some (value_at before x))
        ∙ sym (ap (λ b. is_some (value_at before x) || (b && is_unread read x)) (subst (λ n. member x (n ∷ []) ≡ true) h (member_here x [])) ∙ ap (λ b. is_some (value_at before x) || b) (ap (is_unread read) h ∙ ap not e))

    other : x ≢ s → is_some (value_at (with_value before s tt) x) ≡ (is_some (value_at before x) || (member x (s ∷ []) && is_unread read x))
    other h =
        ap is_some (other_with before s tt x h) ∙ or_none (is_some (value_at before x)) (is_unread read x)
        ∙ sym (ap (λ b. is_some (value_at before x) || (b && is_unread read x)) (member_other x s [] h))

-- ---- along the numbers below a bound

pub map_more : (read : TreeRead) (f : ℕ → ℕ) (n : ℕ) (before between after : SectorSet) → Adds read (map f (below n)) before between → Adds read (f n ∷ []) between after → Adds read (map f (below (n + 1))) before after
map_more read f n before between after first after_first =
    subst (λ xs. Adds read xs before after) (sym (ap (λ k. map f (below k)) (add-one n) ∙ map-append f (below n) (n ∷ []))) (added_more read (map f (below n)) (f n ∷ []) before between after first after_first)

pub flat_more : (read : TreeRead) (f : ℕ → List ℕ) (n : ℕ) (before between after : SectorSet) → Adds read (flat_map f (below n)) before between → Adds read (f n) between after → Adds read (flat_map f (below (n + 1))) before after
flat_more read f n before between after first after_first =
    subst (λ xs. Adds read xs before after) (sym (ap (λ k. flat_map f (below k)) (add-one n) ∙ flat_map-append f (below n) (n ∷ []) ∙ ap (λ xs. flat_map f (below n) ++ xs) (append-nil (f n))))
    (added_more read (flat_map f (below n)) (f n) before between after first after_first)

one_filtered : (g : ℕ → Option ℕ) (n : ℕ) → filter_map g (n ∷ []) ≡ option_to_list (g n)
one_filtered g n = go (g n) refl
  where
    go : (o : Option ℕ) → g n ≡ o → filter_map g (n ∷ []) ≡ option_to_list (g n)
    go None e = rw e refl
    go (Some y) e = rw e refl

pub filter_more : (read : TreeRead) (g : ℕ → Option ℕ) (n : ℕ) (before between after : SectorSet) → Adds read (filter_map g (below n)) before between → Adds read (option_to_list (g n)) between after → Adds read (filter_map g (below (n + 1))) before after
filter_more read g n before between after first after_first =
    subst (λ xs. Adds read xs before after) (sym (ap (λ k. filter_map g (below k)) (add-one n) ∙ filter_map-append g (below n) (n ∷ []) ∙ ap (λ xs. filter_map g (below n) ++ xs) (one_filtered g n)))
    (added_more read (filter_map g (below n)) (option_to_list (g n)) before between after first after_first)
