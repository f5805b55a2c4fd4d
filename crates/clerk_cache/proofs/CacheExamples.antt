-- The dirty sectors of a cache with their marks, computed; the blocks here are shorter than a sector.
use Rattle.std.proofs.Common.{◌≡◌, [], ◌∷◌, true, false, refl}
use Rattle.frang_base.specs.declared.lock.LockId.TheVariants.{Segment, Node}
use Rattle.cache_definitions.specs.Caches.{Cache, clean, dirty}
use Rattle.clerk_cache.specs.Marks.{marks_of}

-- the sectors 3 and 8 are clean; 5 was freed, and is dirty under its segment; 9 is one of dirty file bytes
abbrev cache : Cache
cache = (3, clean [] (Node 1)) ∷ (5, dirty [] (Segment 0) 257 false) ∷ (8, clean [] (Segment 0)) ∷ (9, dirty [] (Node 1) 256 true) ∷ []

two_marks : marks_of cache ≡ record { sector = record { 0 = 5 }; mark = 257 } ∷ record { sector = record { 0 = 9 }; mark = 256 } ∷ []
two_marks = refl
