-- Versions, patches and changes of blocks, computed; the blocks here are shorter than a sector.
use Rattle.std.proofs.Common.{◌≡◌, ◌-◌, ◌^◌, true, false, List, ℕ, [], ◌∷◌, ◌++◌, replicate, refl}
use Rattle.frang_base.specs.declared.change.Patch.{Patch}
use Rattle.frang_base.specs.declared.change.Change.{Change}
use Rattle.sector_bytes.specs.Blocks.{Block, version_of, patched}
use Rattle.sector_bytes.specs.Changes.{changed, applied, is_change}

-- version 515, and then the bytes 8 to 11
abbrev block : Block
block = 3 ∷ 2 ∷ 0 ∷ 0 ∷ 0 ∷ 0 ∷ 0 ∷ 0 ∷ 8 ∷ 9 ∷ 10 ∷ 11 ∷ []

abbrev patch : ℕ → List ℕ → Patch
patch at bytes = record { at = at; bytes = bytes }

abbrev change : ℕ → ℕ → List Patch → Change
change sector version patches = record { sector = record { 0 = sector }; version = version; patches = patches }

-- ---- versions

lowest_byte_first : version_of block ≡ 515
lowest_byte_first = refl

highest_byte_last : version_of (0 ∷ 0 ∷ 0 ∷ 0 ∷ 0 ∷ 0 ∷ 0 ∷ 1 ∷ 7 ∷ []) ≡ 2 ^ 56
highest_byte_last = refl

all_bits : version_of (replicate 8 255 ++ 9 ∷ []) ≡ 2 ^ 64 - 1
all_bits = refl

-- ---- patches

no_patch : patched [] block ≡ block
no_patch = refl

one_patch : patched (patch 9 (90 ∷ 100 ∷ []) ∷ []) block ≡ 3 ∷ 2 ∷ 0 ∷ 0 ∷ 0 ∷ 0 ∷ 0 ∷ 0 ∷ 8 ∷ 90 ∷ 100 ∷ 11 ∷ []
one_patch = refl

two_patches : patched (patch 8 (80 ∷ []) ∷ patch 11 (110 ∷ []) ∷ []) block ≡ 3 ∷ 2 ∷ 0 ∷ 0 ∷ 0 ∷ 0 ∷ 0 ∷ 0 ∷ 80 ∷ 9 ∷ 10 ∷ 110 ∷ []
two_patches = refl

-- ---- changes

patched_with_its_version : changed block (change 5 516 (patch 10 (100 ∷ []) ∷ [])) ≡ 4 ∷ 2 ∷ 0 ∷ 0 ∷ 0 ∷ 0 ∷ 0 ∷ 0 ∷ 8 ∷ 9 ∷ 100 ∷ 11 ∷ []
unfolding changed
patched_with_its_version = refl

great_version : changed block (change 5 (2 ^ 64 - 2) (patch 8 (0 ∷ []) ∷ [])) ≡ 254 ∷ 255 ∷ 255 ∷ 255 ∷ 255 ∷ 255 ∷ 255 ∷ 255 ∷ 0 ∷ 9 ∷ 10 ∷ 11 ∷ []
unfolding changed
great_version = refl

older_is_changed : applied block (change 5 516 (patch 8 (0 ∷ []) ∷ [])) ≡ 4 ∷ 2 ∷ 0 ∷ 0 ∷ 0 ∷ 0 ∷ 0 ∷ 0 ∷ 0 ∷ 9 ∷ 10 ∷ 11 ∷ []
unfolding changed
older_is_changed = refl

equal_is_skipped : applied block (change 5 515 (patch 8 (0 ∷ []) ∷ [])) ≡ block
unfolding changed
equal_is_skipped = refl

newer_is_skipped : applied block (change 5 514 (patch 8 (0 ∷ []) ∷ [])) ≡ block
unfolding changed
newer_is_skipped = refl

-- ---- well-formed changes

least : is_change (change 0 0 (patch 8 (1 ∷ []) ∷ [])) ≡ true
least = refl

greatest : is_change (change (2 ^ 55 - 1) (2 ^ 64 - 1) (patch 511 (1 ∷ []) ∷ [])) ≡ true
greatest = refl

whole : is_change (change 0 1 (patch 8 (replicate 504 1) ∷ [])) ≡ true
whole = refl

side_by_side : is_change (change 0 1 (patch 8 (1 ∷ 2 ∷ []) ∷ patch 10 (3 ∷ []) ∷ [])) ≡ true
side_by_side = refl

no_such_sector : is_change (change (2 ^ 55) 1 (patch 8 (1 ∷ []) ∷ [])) ≡ false
no_such_sector = refl

no_such_version : is_change (change 0 (2 ^ 64) (patch 8 (1 ∷ []) ∷ [])) ≡ false
no_such_version = refl

without_patches : is_change (change 0 1 []) ≡ false
without_patches = refl

without_bytes : is_change (change 0 1 (patch 8 [] ∷ [])) ≡ false
without_bytes = refl

in_the_version : is_change (change 0 1 (patch 7 (1 ∷ []) ∷ [])) ≡ false
in_the_version = refl

past_the_end : is_change (change 0 1 (patch 511 (1 ∷ 2 ∷ []) ∷ [])) ≡ false
past_the_end = refl

overlapping : is_change (change 0 1 (patch 8 (1 ∷ 2 ∷ []) ∷ patch 9 (3 ∷ []) ∷ [])) ≡ false
overlapping = refl

descending : is_change (change 0 1 (patch 10 (1 ∷ []) ∷ patch 8 (2 ∷ []) ∷ [])) ≡ false
descending = refl
