-- What a change answers where the block is older, as old or newer, computed; the block here is shorter than a sector.
use Rattle.std.proofs.Common.{◌≡◌, ℕ, [], ◌∷◌, refl}
use Rattle.frang_base.specs.declared.change.Change.{Change}
use Rattle.sector_bytes.specs.Blocks.{Block}
use Rattle.sector_bytes.specs.Changes.{changed}
use Rattle.meta_version.specs.declared.block.Applied.TheVariants.{Applied, Skipped}
use Rattle.meta_version.specs.Updates.{apply_answer, with_change}

abbrev block : Block
block = 7 ∷ 0 ∷ 0 ∷ 0 ∷ 0 ∷ 0 ∷ 0 ∷ 0 ∷ 8 ∷ 9 ∷ []

abbrev to : ℕ → Change
to version = record { sector = record { 0 = 4 }; version = version; patches = record { at = 9; bytes = 1 ∷ [] } ∷ [] }

older : apply_answer block (to 8) ≡ Applied
older = refl

as_old : apply_answer block (to 7) ≡ Skipped
as_old = refl

newer : apply_answer block (to 6) ≡ Skipped
newer = refl

changed_in_its_map : with_change ((2, block) ∷ (4, block) ∷ []) (to 8) ≡ (2, block) ∷ (4, 8 ∷ 0 ∷ 0 ∷ 0 ∷ 0 ∷ 0 ∷ 0 ∷ 0 ∷ 8 ∷ 1 ∷ []) ∷ []
unfolding changed
changed_in_its_map = refl
