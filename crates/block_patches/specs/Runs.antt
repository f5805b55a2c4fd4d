-- One run at the front of the bytes that are left.
use Rattle.std.specs.Prelude.{ℕ, suc, ◌+◌, Bool, not, ◌&&◌, ◌==◌, if◌then◌else◌, List, [], ◌∷◌}
use Rattle.frang_base.specs.declared.change.Patch.{Patch}

-- how many bytes, the first at a place, differ or are forced before the first that isn't
abbrev pub differing : (ℕ → Bool) → ℕ → List ℕ → List ℕ → ℕ
differing forced at [] new = 0
differing forced at (a ∷ old) [] = 0
differing forced at (a ∷ old) (b ∷ new) = if not (forced at) && a == b then 0 else suc (differing forced (at + 1) old new)

-- the patch of these bytes, or none where there are none
abbrev pub run : ℕ → List ℕ → List Patch
run at [] = []
run at (b ∷ bytes) = record { at = at; bytes = b ∷ bytes } ∷ []
