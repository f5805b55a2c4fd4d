-- The disk of an image has parameters, whose run another may follow.
use Rattle.std.proofs.Common.{◌≡◌, ◌∙◌, ℕ, true, Ok, List, drop, ap, is_some}
use Rattle.disk_definitions.specs.Params.{param_in}
use Rattle.disk_definitions.proofs.NumberBytes.{drop_are}
use Rattle.sector_bytes.specs.Bytes.{AreBytes, number_at}
use Rattle.sector_bytes.specs.Sectors.{sectors_of}
use Rattle.image_file.specs.Images.{Blocks, image_in, may_run_again}
use Rattle.image_file.proofs.FirstSector.{sectors_read}
use Rattle.image_file.proofs.Headers.{header_back}
use Rattle.image_file.proofs.ImageLaws.{read_is_image}

pub has_parameters : (bytes : List ℕ) (blocks : Blocks) → AreBytes bytes → image_in bytes ≡ Ok blocks → is_some (param_in (sectors_of blocks 0)) ≡ true
has_parameters bytes blocks b e = ap is_some (read_is_image bytes blocks b e).parameters

pub runs_again : (bytes : List ℕ) (blocks : Blocks) → AreBytes bytes → image_in bytes ≡ Ok blocks → may_run_again (param_in (sectors_of blocks 0)) ≡ true
runs_again bytes blocks small e =
    let h = header_back bytes blocks small e in
    let s = sectors_read (number_at 8 8 bytes) (drop 16 bytes) blocks (drop_are 16 bytes small) h.sectors in
    ap (λ (es : Blocks). may_run_again (param_in (sectors_of es 0))) s.all ∙ s.fits
