use Rattle.std.proofs.Common.{◌≡◌, suc, false, length, arith, rules}
use Rattle.sector_bytes.specs.Bytes.{are_zero}
use Rattle.image_file.specs.Images.{sectors_written}
use Rattle.image_file.proofs.CountingWritten.{written_turn, fewer_left}
use Rattle.image_file.proofs.write.add_entries.Goals as goal

pub loop-sector-preserved-then-not-is_blank : goal.loop-sector-preserved-then-not-is_blank
loop-sector-preserved-then-not-is_blank c =
    let z : are_zero c.in-Some.block.now ≡ false = first_of (search rules, cc) in
    let n : length (sectors_written c.loop-sector.sector-iterator) ≡ suc (length (sectors_written c.next.new.self)) =
    fewer_left c.loop-sector.sector-iterator c.next.new.self c.in-Some.sector.now c.in-Some.block.now c.in-Some.ensures.steps z in
    record {
      can = tt;
      ends = tt;
      rest = written_turn c.loop-sector.to.items c.add_entry.new.to.items _ c.loop-sector.sector-iterator c.next.new.self c.in-Some.sector.now c.in-Some.block.now
          c.in-Some.ensures.steps z c.add_entry.ensures.entry.items c.loop-sector.invariant.rest;
      room = omega (arith, n, c.add_entry.ensures.len, c.add_entry.ensures.entry.room, c.loop-sector.invariant.room);
    }
