-- The last entry has the last key.
use Rattle.std.proofs.Common.{◌-◌, ◌<◌, length, arith}
use Rattle.ordered_map.proofs.Spots.{last_key_is}
use Rattle.ordered_map.proofs.chunk.last_key.Goals as goal

pub returns-in-Some : goal.returns-in-Some
returns-in-Some g c =
    let some : 0 < length c.args.entries.now = c.in-Some.ensures.item.3.0 in
    last_key_is c.args.entries.now (length c.args.entries.now - 1) c.in-Some.entry.now (omega arith) c.in-Some.ensures.item.1
