-- The sectors that are pending, with one less or with more.
use Rattle.std.proofs.Common.{◌≡◌, ⊎_elim, ℕ, Bool, true, false, ◌||◌, if◌then◌else◌, is_some, List, [], ◌∷◌, ◌++◌, fold, refl, sym, ap, ◌∙◌, subst}
use Rattle.std.specs.BTreeMap.{is_at}
use Rattle.std.specs.List.Sorted.{IsStrictlySortedBy}
use Rattle.std.specs.Map.{keys_of}
use Rattle.std.specs.Ordering.{nat_cmp}
use mathlib.Core.Bool.{or-false, or-true}
use Rattle.std.proofs.lemmas.Bool.{cases_eq}
use Rattle.frang_base.specs.Functions.{member}
use Rattle.sector_bytes.specs.SectorMaps.{Ascend, value_at, with_value, without}
use Rattle.sector_bytes.proofs.MapLaws.{AllAbove, absent, ascend_with, found}
use Rattle.cache_definitions.specs.Flags.{but}
use Rattle.disk_definitions.specs.Written.{ascending}
use Rattle.clerk_cache.proofs.Flagging.{but-cons, but_absent}
use Rattle.log_slots.proofs.Maps.{ascending_member, ascending_sorted, at_with, keys_member, member_append, member_here, member_other, other_with, same_lists}

abbrev pub Pending : Type 0
Pending = List (ℕ × Unit {0})

-- ---- one less

pub one_less : (entries : Pending) (sector : ℕ) → Ascend entries → keys_of (without entries sector) ≡ but sector (keys_of entries)
unfolding IsStrictlySortedBy
one_less [] sector sorted = refl
one_less (entry ∷ entries) sector sorted = go (is_at (nat_cmp sector) entry.0) refl (one_less entries sector sorted.1)
  where
    gone : is_at (nat_cmp sector) entry.0 ≡ true → but sector (keys_of entries) ≡ keys_of entries
    gone at =
        but_absent sector (keys_of entries)
        (keys_member entries sector ∙ ap is_some (absent sector entries (subst (λ low. AllAbove low entries) (found sector entry.0 at) sorted.0)))

    go : (b : Bool) → is_at (nat_cmp sector) entry.0 ≡ b → keys_of (without entries sector) ≡ but sector (keys_of entries)
        → keys_of (if b then entries else entry ∷ without entries sector) ≡ but sector (keys_of (entry ∷ entries))
    go true at rest = sym (but-cons sector entry.0 (keys_of entries) ∙ ap (λ b. if b then but sector (keys_of entries) else entry.0 ∷ but sector (keys_of entries)) at ∙ gone at)
    go false at rest =
        ap (λ keys. entry.0 ∷ keys) rest ∙ sym (but-cons sector entry.0 (keys_of entries) ∙ ap (λ b. if b then but sector (keys_of entries) else entry.0 ∷ but sector (keys_of entries)) at)

-- ---- more

abbrev pub all_put : Pending → List ℕ → Pending
all_put entries sectors = fold (λ put sector. with_value put sector tt) entries sectors

all_sorted : (sectors : List ℕ) (entries : Pending) → Ascend entries → Ascend (all_put entries sectors)
all_sorted [] entries sorted = sorted
all_sorted (sector ∷ sectors) entries sorted = all_sorted sectors (with_value entries sector tt) (ascend_with sector tt entries sorted)

all_there : (sectors : List ℕ) (entries : Pending) (s : ℕ) → is_some (value_at (all_put entries sectors) s) ≡ (is_some (value_at entries s) || member s sectors)
all_there [] entries s = sym (or-false (is_some (value_at entries s)))
all_there (sector ∷ sectors) entries s = all_there sectors (with_value entries sector tt) s ∙ ⊎_elim
    (λ same. ap (λ b. b || member s sectors) (subst (λ m. is_some (value_at (with_value entries m tt) s) ≡ true) same (ap is_some (at_with entries s tt)))
    ∙ sym (ap (λ b. is_some (value_at entries s) || b) (subst (λ m. member s (m ∷ sectors) ≡ true) same (member_here s sectors)) ∙ or-true (is_some (value_at entries s))))
    (λ apart. ap (λ o. is_some o || member s sectors) (other_with entries sector tt s apart) ∙ sym (ap (λ b. is_some (value_at entries s) || b) (member_other s sector sectors apart)))
    (cases_eq s sector)

pub more_pending : (entries : Pending) (sectors : List ℕ) → Ascend entries → keys_of (all_put entries sectors) ≡ ascending (keys_of entries ++ sectors)
more_pending entries sectors sorted =
    same_lists (keys_of (all_put entries sectors)) (ascending (keys_of entries ++ sectors)) (all_sorted sectors entries sorted) (ascending_sorted (keys_of entries ++ sectors))
    (λ s. keys_member (all_put entries sectors) s ∙ all_there sectors entries s
    ∙ sym (ascending_member (keys_of entries ++ sectors) s ∙ member_append s (keys_of entries) sectors ∙ ap (λ b. b || member s sectors) (keys_member entries s)))
