use Rattle.std.proofs.Common.{◌≡◌, length}
use Rattle.sector_bytes.specs.Sectors.{sectors_of, SameSectors}
use Rattle.disk_replay.specs.Laid.{changes_below, laid_by, AreGreatest}
use Rattle.disk_replay.proofs.replay.lay_logs.Given as goal

abbrev pub invariant-loop-server : goal.invariant-loop-server
invariant-loop-server l = record {
  laid : SameSectors (sectors_of l.disk) (laid_by l.param (sectors_of l.fn.disk) (changes_below (sectors_of l.fn.disk) l.server));
  count : length l.greatest.items ≡ l.server;
  greatest : AreGreatest l.server (sectors_of l.fn.disk) l.greatest.items;
}
