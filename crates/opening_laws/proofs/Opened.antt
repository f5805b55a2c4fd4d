-- Servers over the disk of an opening have what a history of lines asks of its first disk.
use Rattle.opening_laws.specs.FirstDisks.{OpeningsAreFirstDisks}
use Rattle.opening_laws.proofs.Covering.{follows}
use Rattle.opening_laws.proofs.Knowing.{opened_known}
use Rattle.opening_laws.proofs.Masked.{stands_numbered}
use Rattle.std.proofs.Common.{refl}

pub openings_are_first_disks : OpeningsAreFirstDisks
openings_are_first_disks opening disk is servers numbers enough = record {
  stands = stands_numbered opening disk is numbers enough;
  follows = follows opening disk is;
  known = opened_known opening disk is;
  parameters = refl;
}
