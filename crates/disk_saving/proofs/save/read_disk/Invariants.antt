use Rattle.frang_outside.specs.Outside.{NoneRose}
use Rattle.sector_bytes.specs.Sectors.{sectors_of}
use Rattle.disk_saving.specs.Saving.{ReadSoFar, Unmoved}
use Rattle.disk_saving.proofs.save.read_disk.Given as goal

-- the places so far, by gets of which none failed
abbrev pub invariant-loop-n : goal.invariant-loop-n
invariant-loop-n g l = record {
  unmoved : Unmoved (g.O.Outside.state l.fn.out) (g.O.Outside.state l.out);
  counts : NoneRose (g.O.Outside.state l.fn.out) (g.O.Outside.state l.out);
  read : ReadSoFar l.segments (g.O.Outside.state l.fn.out).sectors (sectors_of l.disk) l.n;
}
