-- The laws of the definition.
use Rattle.std.proofs.Common.{refl}
use Rattle.disk_definitions.proofs.RegionLaws.{cover_within, cover_of_inode, cover_of_small}
use Rattle.frang_layout.proofs.laws.segments_cover_their_own.Goals as goal

pub returns : goal.returns
returns c = record { within = cover_within; inodes = cover_of_inode; small = cover_of_small; large = λ k part. refl }
