-- By the disk behind the opening's puts.
use Rattle.opening_laws.proofs.Fresh.{fresh_starts}
use Rattle.opening_laws.proofs.OfBytes.{fresh_bytes, image_bytes}
use Rattle.opening_laws.proofs.Starting.{starts_are_openings}
use Rattle.opening_laws.proofs.each_start_is_an_opening.Goals as goal

pub returns : goal.returns
returns c =
    let put = c.the_opening_puts_the_disk.ensures in
    record {
      fresh = fresh_starts put.fresh;
      bytes = fresh_bytes put.fresh;
      image_bytes = image_bytes put.image put.logs;
      starts = starts_are_openings put.fresh put.image put.logs;
    }
