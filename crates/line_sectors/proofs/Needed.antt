-- A directory's sector that a line needs is of a block that is or was a directory's: where the block is known to be zero, its sectors are at hand.
use Rattle.std.proofs.Common.{◌≡◌, true, false, refl, sym, ◌∙◌, ⊎_elim}
use Rattle.std.proofs.lemmas.Bool.{false≢true}
use Rattle.std.specs.List.{Contains}
use Rattle.sector_bytes.specs.SectorMaps.{value_at}
use Rattle.disk_definitions.specs.declared.region.Region.TheVariants as region
use Rattle.disk_definitions.specs.Ask.{DirectoryAt, looks}
use Rattle.disk_definitions.specs.Lines.{plan_of_line}
use Rattle.disk_definitions.specs.Missing.{is_at_hand}
use Rattle.disk_definitions.specs.Regions.{sector_of}
use Rattle.disk_definitions.specs.Written.{at_hand, hand_of, is_zero_at_hand, is_zeroed}
use Rattle.line_laws.proofs.Zeroed.{each_below}
use Rattle.line_histories.specs.LinePlans.{store_on}
use Rattle.line_histories.proofs.LinesSound.{lines_are_sound}
use Rattle.line_sectors.specs.Looks.{LinesNeedDirectories}
use Rattle.line_sectors.proofs.AtHand.{is_hand_of, needed_missing, zero_there}
use Rattle.line_sectors.proofs.Looks.{lines_look_at_directories}

pub lines_need_directories : LinesNeedDirectories
lines_need_directories operation cached held all segments birth when disk tree naming k part of on e =
    let n = needed_missing operation cached held all segments birth when disk tree naming of on (DirectoryAt k part) e in
    ⊎_elim (λ d. d) (λ z. absurd (zeroed n z.1))
    (lines_look_at_directories operation (hand_of cached held all) (store_on segments disk) tree naming birth when on.of.of (is_hand_of operation cached held all segments birth when disk tree naming of on) (DirectoryAt k part) n.0)
  where
    zeroed : Contains (looks (plan_of_line (hand_of cached held all) birth when operation) (store_on segments disk)) (DirectoryAt k part) × (is_at_hand (at_hand cached held) (DirectoryAt k part) ≡ false) → is_zeroed cached k ≡ true → ⊥
    zeroed n z =
        let here = each_below (λ part. is_zero_at_hand cached (sector_of (region.Small k part))) 8 z part (lines_are_sound.parts operation (hand_of cached held all) (store_on segments disk) birth when (DirectoryAt k part) n.0) in
        let there = zero_there cached (sector_of (region.Small k part)) (value_at cached (sector_of (region.Small k part))) refl here in
        let at : is_at_hand (at_hand cached held) (DirectoryAt k part) ≡ true = rw there.1 refl in
        false≢true (sym n.1 ∙ at)
