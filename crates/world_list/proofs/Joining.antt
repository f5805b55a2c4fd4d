-- Sectors that join others.
use Rattle.std.proofs.Common.{◌≡◌, ℕ, Bool, true, false, ◌||◌, if◌then◌else◌, List, [], ◌∷◌, ◌++◌, is_some, nat_eq, refl, sym, ap, ◌∙◌}
use Rattle.frang_base.specs.Functions.{member}
use Rattle.sector_bytes.specs.SectorMaps.{value_at, with_value}
use Rattle.log_slots.proofs.Maps.{member_append}
use Rattle.world_list.specs.Wanting.{Joins, SectorSet}
use Rattle.world_list.proofs.Entries.{of_entries}

pub joins_one : (before after : SectorSet) (sector : ℕ) → after ≡ with_value before sector tt → Joins (sector ∷ []) before after
joins_one before after sector put s = ap (λ es. is_some (value_at es s)) put ∙ of_entries ((sector, tt) ∷ []) before s

or_assoc : (a b d : Bool) → ((a || b) || d) ≡ (a || (b || d))
or_assoc true b d = refl
or_assoc false b d = refl

-- these, and then those
pub joins_then : (xs ys : List ℕ) (a b c : SectorSet) → Joins xs a b → Joins ys b c → Joins (xs ++ ys) a c
joins_then xs ys a b c first second s =
    second s ∙ ap (λ t. t || member s ys) (first s) ∙ or_assoc (is_some (value_at a s)) (member s xs) (member s ys) ∙ ap (λ t. is_some (value_at a s) || t) (sym (member_append s xs ys))

-- one of those left joins
pub joins_left : (a b c : SectorSet) (x : ℕ) (left all : List ℕ) → ((s : ℕ) → (is_some (value_at b s) || member s (x ∷ left)) ≡ (is_some (value_at a s) || member s all)) → Joins (x ∷ []) b c →
    (s : ℕ) → (is_some (value_at c s) || member s left) ≡ (is_some (value_at a s) || member s all)
joins_left a b c x left all before one s =
    ap (λ t. t || member s left) (one s) ∙ or_assoc (is_some (value_at b s)) (member s (x ∷ [])) (member s left) ∙ ap (λ t. is_some (value_at b s) || t) (head (nat_eq x s)) ∙ before s
  where
    head : (t : Bool) → ((if t then true else false) || member s left) ≡ (if t then true else member s left)
    head true = refl
    head false = refl
