-- Line by line.
use Rattle.line_sectors.proofs.Looks.{lines_look_at_directories}
use Rattle.line_sectors.proofs.Needed.{lines_need_directories}
use Rattle.line_sectors.proofs.Versions.{lines_look_at_versions}
use Rattle.line_sectors.proofs.lines_look_at_directories.Goals as goal

pub returns : goal.returns
returns c = record { looks = lines_look_at_directories; versions = lines_look_at_versions; needs = lines_need_directories }
