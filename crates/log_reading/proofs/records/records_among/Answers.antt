-- The records that begin in a sector more.
use Rattle.std.proofs.Common.{◌≡◌, ◌-◌, length, take, drop, arith}
use Rattle.std.proofs.lemmas.Slice.{between_to_end}
use Rattle.disk_definitions.specs.Logs.{records_among}
use Rattle.log_reading.proofs.Steps.{one_more}
use Rattle.log_reading.proofs.records.records_among.Goals as goal

pub loop-at-preserved : goal.loop-at-preserved
loop-at-preserved c =
    let sectors = c.args.sectors.now in
    let at = c.loop-at.at in
    let slice = take (length sectors - at) (drop at sectors) in
    let is : slice ≡ drop at sectors = between_to_end sectors at (length sectors) (omega arith) in
    one_more sectors slice at c.loop-at.records.items c.push_records.new.records.items (records_among sectors) c.loop-at-test.true is c.in_ok-push_records.ensures c.loop-at.invariant
