-- The sectors that the oldest records name, by a list of them that is kept.
use Rattle.std.proofs.Common.{◌≡◌, ℕ, Bool, true, false, not, ◌&&◌, ◌||◌, ◌==◌, if◌then◌else◌, nat_eq, nat_le, Some, map, List, [], ◌∷◌, refl, sym, ap, ◌∙◌}
use Rattle.std.specs.List.{list_all, list_any}
use Rattle.frang_base.specs.Functions.{member}
use Rattle.frang_base.specs.declared.change.Redo.{Redo}
use Rattle.frang_base.specs.declared.sector.Sector.{Sector}
use Rattle.clerk_cache.specs.Dropping.{numbers_of}
use Rattle.cache_definitions.specs.Caches.{is_dirty_at}
use Rattle.core_definitions.specs.LineGuards.{is_oldest_in_place}
use Rattle.core_definitions.specs.Rings.{has_room, is_oldest_named}
use Rattle.core_definitions.specs.Servers.{Server}
use Rattle.log_slots.specs.Reading.{log_rules}
use Rattle.ring_definitions.specs.Rings.{Ring, free, need, oldest}
use Rattle.ring_definitions.specs.declared.ring.Named.{Named}
use Rattle.line_stages.specs.Oldest.{AreOldest}

pub in_place : (server : Server) (sectors : List ℕ) → AreOldest server.ring sectors → list_all (λ sector. not (is_dirty_at server.cache sector)) sectors ≡ is_oldest_in_place log_rules server
unfolding log_rules
in_place server sectors are = are (λ sector. not (is_dirty_at server.cache sector))

-- one of a list passes where not all fail
any_not_all : {X : Type 0} (test : X → Bool) (xs : List X) → list_any test xs ≡ not (list_all (λ x. not (test x)) xs)
any_not_all test [] = refl
any_not_all test (x ∷ xs) = go (test x) (any_not_all test xs)
  where
    go : (t : Bool) → list_any test xs ≡ not (list_all (λ x. not (test x)) xs) → (t || list_any test xs) ≡ not (not t && list_all (λ x. not (test x)) xs)
    go true rest = refl
    go false rest = rest

member_not_all : (s : ℕ) (xs : List ℕ) → member s xs ≡ not (list_all (λ x. not (nat_eq x s)) xs)
member_not_all s [] = refl
member_not_all s (x ∷ xs) = go (nat_eq x s) (member_not_all s xs)
  where
    go : (t : Bool) → member s xs ≡ not (list_all (λ x. not (nat_eq x s)) xs) → (if t then true else member s xs) ≡ not (not t && list_all (λ x. not (nat_eq x s)) xs)
    go true rest = refl
    go false rest = rest

pub named_there : (ring : Ring) (sectors : List ℕ) → AreOldest ring sectors → (s : ℕ) → member s sectors ≡ is_oldest_named log_rules ring s
unfolding log_rules
named_there ring sectors are s =
    member_not_all s sectors ∙ ap not (are (λ x. not (nat_eq x s))) ∙ sym (any_not_all (λ (x : Named). x.sector.0 == s) (oldest ring))

-- what is asked of numbers is asked of sectors
pub all_numbers : (test : ℕ → Bool) (sectors : List Sector) → list_all (λ (sector : Sector). test sector.0) sectors ≡ list_all test (numbers_of sectors)
all_numbers test [] = refl
all_numbers test (sector ∷ sectors) = ap (λ rest. test sector.0 && rest) (all_numbers test sectors)

-- and of sectors with versions
pub all_named : (test : ℕ → Bool) (entries : List (Sector × ℕ)) → list_all test (map (λ (entry : Sector × ℕ). entry.0.0) entries) ≡ list_all (λ (entry : Sector × ℕ). test entry.0.0) entries
all_named test [] = refl
all_named test (entry ∷ entries) = ap (λ rest. test entry.0.0 && rest) (all_named test entries)

-- a log of a disk has room for a record
pub has_room_for : (ring : Ring) (redo : Redo) → nat_le (need ring redo) (free ring) ≡ has_room log_rules ring (Some redo)
unfolding log_rules
has_room_for ring redo = refl
