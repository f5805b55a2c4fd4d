-- What the host has read of the tree and is still to say of it, by its reading and by the core.
use Rattle.std.proofs.Common.{◌≡◌, ◌≤◌, ℕ, zero, suc, true, not, ◌&&◌, ◌==◌, List, [], ◌∷◌, is_some, length, nat_lt, refl, sym, ap, ◌∙◌, arith}
use Rattle.std.specs.List.{slice_get}
use Rattle.std.proofs.lemmas.Bool.{and_parts, false≢true}
use Rattle.std.proofs.lemmas.Bool.Decides.{nat_tests}
use Rattle.core_definitions.specs.Cores.{tree_lines}
use Rattle.core_definitions.specs.EndGuards.{is_at_rest, is_tree_read}
use Rattle.core_definitions.specs.Logs.{is_none}
use Rattle.host_tree.specs.Reading.{HostReading, all_lines, needed}
use Rattle.world_list.specs.Fresh.{IsLineMade}
use Rattle.world_list.specs.Going.{IsTreeOf}
use Rattle.world_list.specs.Over.{core_over}
use Rattle.world_state.specs.States.{State, core_at}

-- ---- places of a list

is_within : {X : Type 0} (xs : List X) (i : ℕ) → is_some (slice_get xs i) ≡ nat_lt i (length xs)
is_within [] zero = grind (arith, nat_tests)
is_within [] (suc i) = grind (arith, nat_tests)
is_within (x ∷ xs) zero = grind (arith, nat_tests)
is_within (x ∷ xs) (suc i) = is_within xs i ∙ step i (length xs)
  where
    step : (i n : ℕ) → nat_lt i n ≡ nat_lt (suc i) (suc n)
    step i n = grind (arith, nat_tests)

is_past : (i n : ℕ) → i ≤ n → not (nat_lt i n) ≡ (i == n)
is_past i n within = grind (arith, nat_tests, within)

-- ---- the tree

module _ (s : State) (tree : HostReading) (is : IsTreeOf s tree) where
  pub read_so : (is_at_rest (core_at s) && is_none (needed tree.segments tree.read)) ≡ is_tree_read (core_over s tree)
  unfolding needed
  read_so = ap (λ n. is_at_rest (core_at s) && is_none (needed n tree.read)) is.disk

  pub made_so : is_tree_read (core_over s tree) ≡ true → IsLineMade tree
  made_so read =
      is.line (and_parts (is_at_rest (core_at s)) (is_none (needed tree.segments tree.read)) (read_so ∙ read)).0
      (nothing (needed tree.segments tree.read) (and_parts (is_at_rest (core_at s)) (is_none (needed tree.segments tree.read)) (read_so ∙ read)).1)
    where
      nothing : (sectors : List ℕ) → is_none sectors ≡ true → sectors ≡ []
      nothing [] none = refl
      nothing (sector ∷ sectors) none = absurd (false≢true none)

  pub lines_so : length (all_lines tree.segments tree.read) ≡ length (tree_lines (core_over s tree))
  unfolding all_lines
  lines_so = ap (λ n. length (all_lines n tree.read)) is.disk

  pub shown_so : is_some (slice_get (all_lines tree.segments tree.read) tree.shown) ≡ nat_lt tree.shown (length (tree_lines (core_over s tree)))
  shown_so = is_within (all_lines tree.segments tree.read) tree.shown ∙ ap (nat_lt tree.shown) lines_so

  pub ended_so : is_tree_read (core_over s tree) ≡ true → not (is_some (slice_get (all_lines tree.segments tree.read) tree.shown)) ≡ (tree.shown == length (tree_lines (core_over s tree)))
  ended_so read =
      ap not (is_within (all_lines tree.segments tree.read) tree.shown) ∙ is_past tree.shown (length (all_lines tree.segments tree.read)) (made_so read).said ∙ ap (λ n. tree.shown == n) lines_so

  pub shown_then : is_tree_read (core_over s tree) ≡ true → is_some (slice_get (all_lines tree.segments tree.read) tree.shown) ≡ (is_tree_read (core_over s tree) && nat_lt tree.shown (length (tree_lines (core_over s tree))))
  shown_then read = shown_so ∙ sym (ap (λ b. b && nat_lt tree.shown (length (tree_lines (core_over s tree)))) read)

  pub ended_then : is_tree_read (core_over s tree) ≡ true → not (is_some (slice_get (all_lines tree.segments tree.read) tree.shown)) ≡ (is_tree_read (core_over s tree) && tree.shown == length (tree_lines (core_over s tree)))
  ended_then read = ended_so read ∙ sym (ap (λ b. b && (tree.shown == length (tree_lines (core_over s tree)))) read)
