-- By the spot of the walk.
use Rattle.std.proofs.Common.{◌≡◌, subst}
use Rattle.disk_definitions.specs.Ask.{Got, bind}
use Rattle.disk_definitions.specs.Walks as walks
use Rattle.dir_lookup.specs.Reading.{reading, read_of}
use Rattle.dir_lookup.specs.Spots.{spot_of}
use Rattle.namei.proofs.walking.spot_at.Goals as goal

pub returns : goal.returns
returns c held =
    subst (λ names. read_of spot_of c.walk_spot.result ≡ reading (bind (walks.walk names) (λ w. Got w.spot)) c.args.sectors.now.entries held) c.as_slice.ensures (c.walk_spot.ensures.reads held)
