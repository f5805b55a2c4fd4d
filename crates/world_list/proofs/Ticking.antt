-- The whole list by its rows.
use Rattle.std.proofs.Common.{◌≡◌, true, false, not, ◌&&◌, List, [], ◌∷◌, ◌++◌, nat_lt, refl, sym, ap, ◌∙◌}
use Rattle.std.specs.List.{list_all}
use Rattle.std.proofs.lemmas.List.Folds.{list_all-append}
use Rattle.frang_base.specs.declared.limits.TheConstants.{LAST_TICK}
use Rattle.core_definitions.specs.Cores.{Core}
use Rattle.core_definitions.specs.Enabled.{may_tick, row_by_row}
use Rattle.core_definitions.specs.Events.{Event}
use Rattle.core_definitions.specs.Guards.{has_line_at_gate, is_stale}

-- rows and then others are all of them
pub rows_then : (xs ys : List (List Event)) → row_by_row xs ++ row_by_row ys ≡ row_by_row (xs ++ ys)
rows_then [] ys = refl
rows_then (x ∷ xs) ys = assoc x (row_by_row xs) (row_by_row ys) ∙ ap (λ es. x ++ es) (rows_then xs ys)
  where
    assoc : (p q r : List Event) → (p ++ q) ++ r ≡ p ++ (q ++ r)
    assoc [] q r = refl
    assoc (y ∷ p) q r = ap (λ es. y ∷ es) (assoc p q r)

-- a tick waits for both parts of the list
module _ (c : Core) (before behind : List Event) where
  both : (list_all (is_stale c) before && list_all (is_stale c) behind) ≡ list_all (is_stale c) (before ++ behind)
  both = sym (list_all-append (is_stale c) before behind)

  pub ticks_so : (list_all (is_stale c) before && list_all (is_stale c) behind) ≡ true → (not (has_line_at_gate c) && nat_lt c.now LAST_TICK) ≡ may_tick c (before ++ behind)
  ticks_so stale = sym (ap (λ b. b && not (has_line_at_gate c) && nat_lt c.now LAST_TICK) (sym both ∙ stale))

  pub never_ticks : (list_all (is_stale c) before && list_all (is_stale c) behind) ≡ false → false ≡ may_tick c (before ++ behind)
  never_ticks stale = sym (ap (λ b. b && not (has_line_at_gate c) && nat_lt c.now LAST_TICK) (sym both ∙ stale))
