-- How what is kept beside the blocks is kept: by sector, and beside that in orders of marks and of covers, each of the sectors that pass a test.
use Rattle.std.specs.Prelude.{◌≡◌, ◌+◌, ◌-◌, ◌≤◌, min, ℕ, List, [], ◌∷◌, length}
use Rattle.flush_order.specs.declared.Mark.{Mark}
use Rattle.flush_order.specs.Marks.{mark_cmp}
use Rattle.sector_bytes.specs.SectorMaps.{Ascend, Spacious}
use Rattle.ordered_map.specs.Entries.{Ordered}
use Rattle.clerk_cache.specs.declared.covered.Covered.{Covered}
use Rattle.clerk_cache.specs.declared.covered_mark.CoveredMark.{CoveredMark}
use Rattle.clerk_cache.specs.declared.state.SectorState.{SectorState}
use Rattle.clerk_cache.specs.Kept.{count_of, is_idle, is_idle_bytes, is_idle_staying, is_state_bytes, is_state_dirty, is_state_fresh, mark_key, state_mark}
use Rattle.clerk_cache.specs.Keys.{keyed}
use Rattle.clerk_cache.specs.Covers.{cover_cmp, cover_key, is_any}
use Rattle.clerk_cache.specs.CoveredMarks.{covered_mark_cmp, covered_mark_key}

-- how many entries a map has room for in all
abbrev pub most_of : {K V : Type 0} → Ordered K V → ℕ
most_of map = map.spare + length map.entries

-- the least of some numbers
abbrev pub fewest : ℕ → List ℕ → ℕ
fewest least [] = least
fewest least (number ∷ numbers) = min least (fewest number numbers)

-- how many sectors there is room for in all: each may be in each of the orders
abbrev pub most_of_all : Ordered ℕ SectorState → Ordered Mark (Unit {0}) → Ordered Mark (Unit {0}) → Ordered Mark (Unit {0}) → Ordered Mark (Unit {0}) → Ordered Mark (Unit {0})
    → Ordered Covered (Unit {0}) → Ordered Covered (Unit {0}) → Ordered CoveredMark (Unit {0}) → ℕ
most_of_all states marks idle bytes staying fresh covers dirty waiting =
    fewest (most_of states)
    (most_of marks ∷ most_of idle ∷ most_of bytes ∷ most_of staying ∷ most_of fresh ∷ most_of covers ∷ most_of dirty ∷ most_of waiting ∷ [])

-- the states, and for how many more there is room
abbrev pub states_of : Ordered ℕ SectorState → ℕ → Spacious SectorState
states_of states most = record { entries = states.entries; spare = most - length states.entries }

-- the keys are those of the states, each sector has room for one, and those of dirty file bytes are counted
pub record AreIndexed (states : List (ℕ × SectorState)) (most bytes_count : ℕ) (by_mark idle_ones bytes_ones staying_ones fresh_ones : List (Mark × Unit {0})) (by_cover dirty_ones : List (Covered × Unit {0}))
    (waiting_ones : List (CoveredMark × Unit {0})) : Type 0 where
  pub ascend : Ascend states
  pub room : length states ≤ most
  pub marks : by_mark ≡ keyed mark_cmp state_mark states
  pub idle : idle_ones ≡ keyed mark_cmp (mark_key is_idle) states
  pub bytes : bytes_ones ≡ keyed mark_cmp (mark_key is_idle_bytes) states
  pub staying : staying_ones ≡ keyed mark_cmp (mark_key is_idle_staying) states
  pub fresh : fresh_ones ≡ keyed mark_cmp (mark_key is_state_fresh) states
  pub covers : by_cover ≡ keyed cover_cmp (cover_key is_any) states
  pub dirty : dirty_ones ≡ keyed cover_cmp (cover_key is_state_dirty) states
  pub waiting : waiting_ones ≡ keyed covered_mark_cmp (covered_mark_key is_idle) states
  pub counted : bytes_count ≡ count_of is_state_bytes states
