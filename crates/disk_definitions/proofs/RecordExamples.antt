-- Records by hand: their bytes, and which bytes are none.
use Rattle.std.proofs.Common.{◌≡◌, ℕ, List, [], ◌∷◌, ◌++◌, Some, None, true, false, refl}
use Rattle.frang_base.specs.declared.change.Patch.{Patch}
use Rattle.frang_base.specs.declared.change.Change.{Change}
use Rattle.disk_definitions.specs.Records.{record_bytes, record_fits, record_in}

-- bytes put at a place
abbrev patch : ℕ → List ℕ → Patch
patch at bytes = record { at = at; bytes = bytes }

-- a change of a sector to a version
abbrev change : ℕ → ℕ → List Patch → Change
change sector version patches = record { sector = record { 0 = sector }; version = version; patches = patches }

-- inode 1, 10737418241, becomes version 3: bytes 8 and 9 are 1 and 0, byte 16 is 7
abbrev one : List Change
one = change 10737418241 3 (patch 8 (1 ∷ 0 ∷ []) ∷ patch 16 (7 ∷ []) ∷ []) ∷ []

abbrev one_bytes : List ℕ
one_bytes =
    1 ∷ 0 ∷ 1 ∷ 0 ∷ 0 ∷ 128 ∷ 2 ∷ 0 ∷ 0 ∷ 0 ∷ 3 ∷ 0 ∷ 0 ∷ 0 ∷ 0 ∷ 0 ∷ 0 ∷ 0 ∷ 2 ∷ 0 ∷ 8 ∷ 0 ∷ 2 ∷ 0 ∷ 1 ∷ 0 ∷ 16 ∷ 0 ∷ 1 ∷ 0 ∷ 7 ∷ []

one_is_written : record_bytes one ≡ one_bytes
one_is_written = refl

one_is_read : record_in one_bytes ≡ Some one
one_is_read = refl

a_byte_is_left : record_in (one_bytes ++ 0 ∷ []) ≡ None
a_byte_is_left = refl

-- without its last byte
abbrev cut_bytes : List ℕ
cut_bytes = 1 ∷ 0 ∷ 1 ∷ 0 ∷ 0 ∷ 128 ∷ 2 ∷ 0 ∷ 0 ∷ 0 ∷ 3 ∷ 0 ∷ 0 ∷ 0 ∷ 0 ∷ 0 ∷ 0 ∷ 0 ∷ 2 ∷ 0 ∷ 8 ∷ 0 ∷ 2 ∷ 0 ∷ 1 ∷ 0 ∷ 16 ∷ 0 ∷ 1 ∷ 0 ∷ []

a_byte_lacks : record_in cut_bytes ≡ None
a_byte_lacks = refl

nothing_is_no_record : record_in [] ≡ None
nothing_is_no_record = refl

no_changes : record_fits [] ≡ false
no_changes = refl

-- a change with one patch
abbrev short : ℕ → Change
short sector = change sector 1 (patch 8 (1 ∷ []) ∷ [])

two_ascend : record_fits (short 5 ∷ short 6 ∷ []) ≡ true
two_ascend = refl

one_twice : record_fits (short 5 ∷ short 5 ∷ []) ≡ false
one_twice = refl

two_descend : record_fits (short 6 ∷ short 5 ∷ []) ≡ false
two_descend = refl

no_patches : record_fits (change 5 1 [] ∷ []) ≡ false
no_patches = refl

a_patch_without_bytes : record_fits (change 5 1 (patch 8 [] ∷ []) ∷ []) ≡ false
a_patch_without_bytes = refl

a_patch_in_the_version : record_fits (change 5 1 (patch 7 (1 ∷ []) ∷ []) ∷ []) ≡ false
a_patch_in_the_version = refl

a_patch_at_the_end : record_fits (change 5 1 (patch 511 (1 ∷ []) ∷ []) ∷ []) ≡ true
a_patch_at_the_end = refl

a_patch_past_the_end : record_fits (change 5 1 (patch 511 (1 ∷ 1 ∷ []) ∷ []) ∷ []) ≡ false
a_patch_past_the_end = refl

patches_that_touch : record_fits (change 5 1 (patch 8 (1 ∷ []) ∷ patch 9 (1 ∷ []) ∷ []) ∷ []) ≡ true
patches_that_touch = refl

patches_that_overlap : record_fits (change 5 1 (patch 8 (1 ∷ 1 ∷ []) ∷ patch 9 (1 ∷ []) ∷ []) ∷ []) ≡ false
patches_that_overlap = refl

a_sector_past_the_disk : record_fits (short 36028797018963968 ∷ []) ≡ false
a_sector_past_the_disk = refl
