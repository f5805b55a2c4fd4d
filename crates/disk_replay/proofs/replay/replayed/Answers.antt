-- What is replayed of the copy is what is replayed of the disk.
use Rattle.std.proofs.Common.{◌≡◌, ℕ, subst}
use Rattle.std.specs.Prelude.{IfOk}
use Rattle.sector_bytes.specs.Sectors.{sectors_of, Sectors}
use Rattle.disk_definitions.specs.Replay.{replayed}
use Rattle.disk_replay.proofs.replay.replayed.Goals as goal

pub returns : goal.returns
returns c =
    let same : sectors_of c.in_ok-copy.copy ≡ sectors_of c.args.disk.now = λ i sector. c.in_ok-copy.ensures sector i in
    subst (λ (s : Sectors). IfOk c.replay_in_place.result (λ new. (sector : ℕ) → sectors_of new sector ≡ replayed s sector)) same c.replay_in_place.ensures
