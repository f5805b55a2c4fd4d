-- What is asked of a cache and made of it, computed; the blocks here are shorter than a sector.
use Rattle.std.proofs.Common.{◌≡◌, Some, None, [], ◌∷◌, true, false, refl}
use Rattle.frang_base.specs.declared.lock.LockId.TheVariants.{Segment, Node}
use Rattle.frang_base.specs.declared.change.Change.{Change}
use Rattle.sector_bytes.specs.Blocks.{Block}
use Rattle.sector_bytes.specs.Changes.{changed}
use Rattle.cache_definitions.specs.Caches.{Cache, any_cached, block_at, blocks_of, clean, cleaned, cover_at, dirty, dirty_sectors, dropped, first_cached, forgotten, is_dirty, is_dirty_at, is_dirty_bytes, is_dirty_bytes_at, is_dirty_under, mark_at, still_has, with_change, with_cover, with_written}

abbrev old : Block
old = 1 ∷ 0 ∷ 0 ∷ 0 ∷ 0 ∷ 0 ∷ 0 ∷ 0 ∷ 5 ∷ []

abbrev new : Block
new = 2 ∷ 0 ∷ 0 ∷ 0 ∷ 0 ∷ 0 ∷ 0 ∷ 0 ∷ 6 ∷ []

-- the sectors 3 and 8 are clean; 5 was freed, and is dirty under its segment
abbrev cache : Cache
cache = (3, clean old (Node 1)) ∷ (5, dirty old (Segment 0) 257 false) ∷ (8, clean old (Segment 0)) ∷ []

abbrev change : Change
change = record { sector = record { 0 = 3 }; version = 2; patches = record { at = 8; bytes = 6 ∷ [] } ∷ [] }

found_block : block_at cache 5 ≡ Some old
found_block = refl

found_cover : cover_at cache 8 ≡ Some (Segment 0)
found_cover = refl

not_cached : cover_at cache 4 ≡ None
not_cached = refl

marked : mark_at cache 5 ≡ Some 257
marked = refl

unmarked : mark_at cache 3 ≡ None
unmarked = refl

not_of_bytes : is_dirty_bytes_at cache 5 ≡ false
not_of_bytes = refl

of_bytes : is_dirty_bytes_at ((5, dirty old (Node 1) 257 true) ∷ cache) 5 ≡ true
of_bytes = refl

-- a clean sector isn't one of dirty bytes, and none of the cache is
none_of_bytes : any_cached is_dirty_bytes cache ≡ false
none_of_bytes = refl

one_is_dirty : dirty_sectors cache ≡ 5 ∷ []
one_is_dirty = refl

clean_at_three : is_dirty_at cache 3 ≡ false
clean_at_three = refl

lent : blocks_of cache ≡ (3, old) ∷ (5, old) ∷ (8, old) ∷ []
lent = refl

-- ---- changes and writes

changed_is_dirty : with_change cache change 258 (Node 1) ≡ (3, dirty new (Node 1) 258 false) ∷ (5, dirty old (Segment 0) 257 false) ∷ (8, clean old (Segment 0)) ∷ []
unfolding changed
changed_is_dirty = refl

has_it_still : still_has cache 5 old ≡ true
has_it_still = refl

written_as_it_is : with_written cache 5 old ≡ (3, clean old (Node 1)) ∷ (5, clean old (Segment 0)) ∷ (8, clean old (Segment 0)) ∷ []
written_as_it_is = refl

written_as_it_was : with_written cache 5 new ≡ cache
written_as_it_was = refl

clean_after : any_cached is_dirty (cleaned cache 5) ≡ false
clean_after = refl

left_of_two : forgotten cache (8 ∷ 3 ∷ []) ≡ (5, dirty old (Segment 0) 257 false) ∷ []
left_of_two = refl

-- ---- covers

moved_with_its_mark : with_cover cache 5 (Node 2) ≡ (3, clean old (Node 1)) ∷ (5, dirty old (Node 2) 257 false) ∷ (8, clean old (Segment 0)) ∷ []
moved_with_its_mark = refl

dirty_under_its_segment : first_cached (is_dirty_under (Segment 0)) cache ≡ Some 5
dirty_under_its_segment = refl

clean_under_its_node : first_cached (is_dirty_under (Node 1)) cache ≡ None
clean_under_its_node = refl

dropped_with_its_node : dropped cache (Node 1) ≡ (5, dirty old (Segment 0) 257 false) ∷ (8, clean old (Segment 0)) ∷ []
dropped_with_its_node = refl

dropped_once_written : dropped (with_written cache 5 old) (Segment 0) ≡ (3, clean old (Node 1)) ∷ []
dropped_once_written = refl
