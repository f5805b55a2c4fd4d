-- Each turn reads the entry at the next place.
use Rattle.std.proofs.Common.{rules, ◌≡◌, ◌<◌, length, arith}
use Rattle.disk_definitions.proofs.DirectoryPlaces.{entries_step, entries_all}
use Rattle.dir_block.proofs.reading.entries.Goals as goal

pub loop-place-preserved : goal.loop-place-preserved
loop-place-preserved c =
    let l = c.loop-place in
    let below : l.place < length l.entries = omega arith in
    record {
      seven = search rules;
      read = entries_step l.entries l.place (length c.args.from.now) c.args.from.now c.entry.result below l.invariant.read c.entry.ensures (omega arith);
    }

pub returns : goal.returns
returns c =
    let l = c.loop-place in
    let all : l.place ≡ 7 = omega arith in
    entries_all l.entries l.place c.args.from.now l.invariant.seven all l.invariant.read
