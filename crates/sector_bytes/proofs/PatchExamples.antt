-- Patches between blocks of twelve bytes, forced and not.
use Rattle.std.proofs.Common.{◌≡◌, ℕ, Bool, true, false, ◌&&◌, nat_le, nat_lt, List, [], ◌∷◌, refl}
use Rattle.frang_base.specs.declared.change.Patch.{Patch}
use Rattle.sector_bytes.specs.Patches.{patches_with, patches_of, are_new_or, are_new}

abbrev block : ℕ → ℕ → ℕ → ℕ → ℕ → List ℕ
block version a b c d = version ∷ 0 ∷ 0 ∷ 0 ∷ 0 ∷ 0 ∷ 0 ∷ 0 ∷ a ∷ b ∷ c ∷ d ∷ []

abbrev middle : ℕ → Bool
middle at = nat_le 9 at && nat_lt at 11

abbrev run_at : ℕ → List ℕ → Patch
run_at at bytes = record { at = at; bytes = bytes }

-- the version counts for nothing, and what is the same parts two runs
unforced : patches_of (block 3 1 2 3 4) (block 4 5 2 3 6) ≡ run_at 8 (5 ∷ []) ∷ run_at 11 (6 ∷ []) ∷ []
unforced = refl

-- forced places join the runs beside them
forced_between : patches_with middle (block 3 1 2 3 4) (block 4 5 2 3 6) ≡ run_at 8 (5 ∷ 2 ∷ 3 ∷ 6 ∷ []) ∷ []
forced_between = refl

-- they make a run by themselves where nothing differs
forced_alone : patches_with middle (block 3 1 2 3 4) (block 3 1 2 3 4) ≡ run_at 9 (2 ∷ 3 ∷ []) ∷ []
forced_alone = refl

-- a forced version counts for nothing
forced_version : patches_with (λ at. nat_lt at 8) (block 3 1 2 3 4) (block 4 1 2 3 4) ≡ []
forced_version = refl

-- a byte that is the same is new only where it is forced
new_where_forced : are_new_or middle (block 3 1 2 3 4) (run_at 9 (2 ∷ 3 ∷ []) ∷ []) ≡ true
new_where_forced = refl

not_new : are_new (block 3 1 2 3 4) (run_at 9 (2 ∷ 3 ∷ []) ∷ []) ≡ false
not_new = refl
