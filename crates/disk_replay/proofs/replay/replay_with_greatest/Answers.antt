-- The changes of all logs are laid, and then the logs are made zero.
use Rattle.std.proofs.Common.{◌≡◌, ap, ◌∙◌}
use Rattle.disk_definitions.specs.Params.{param_in}
use Rattle.sector_bytes.specs.Sectors.{sectors_of}
use Rattle.disk_replay.proofs.ReplayedDisk.{erased_is_replayed, few}
use Rattle.disk_replay.proofs.replay.replay_with_greatest.Goals as goal

pub lay_logs-requires : goal.lay_logs-requires
lay_logs-requires c = few c.get.result c.decode-param.result c.decode-param.ensures

pub returns-clause-disk : goal.returns-clause-disk
returns-clause-disk c =
    let s = sectors_of c.args.disk in
    let e : c.decode-param.result ≡ param_in (s 0) = c.decode-param.ensures ∙ ap param_in c.get.ensures in
    erased_is_replayed s (sectors_of c.lay_logs.new.disk) (sectors_of c.erase_logs.new.disk) c.decode-param.result e c.in_ok-greatest.ensures.laid c.in_ok-erase_logs.ensures
