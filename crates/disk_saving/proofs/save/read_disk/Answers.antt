-- One place more in each turn.
use Rattle.std.proofs.Common.{◌≡◌, ◌<◌, ◌≤◌, ap, ◌∙◌, subst}
use Rattle.sector_bytes.specs.Sectors.{sectors_of}
use Rattle.disk_definitions.specs.Regions.{sector_of}
use Rattle.disk_saving.specs.Places.{place_at, place_count}
use Rattle.disk_saving.proofs.Reading.{all_read, next_read, none_rose_behind, unmoved_behind}
use Rattle.disk_saving.proofs.save.read_disk.Goals as goal

pub loop-n-preserved : goal.loop-n-preserved
loop-n-preserved g c =
    let start = g.O.Outside.state c.args.out.now in
    let before = g.O.Outside.state c.loop-n.out in
    let after = g.O.Outside.state c.read_sector.new.out in
    let at : c.sector_of.result.0 ≡ sector_of (place_at c.args.segments c.loop-n.n) = c.sector_of.ensures ∙ ap sector_of c.place_at.ensures in
    let below : c.loop-n.n < place_count c.args.segments = subst (λ count. c.loop-n.n < count) c.place_count-n-end.ensures c.loop-n-test.true in
    record {
      unmoved = unmoved_behind start before after c.loop-n.invariant.unmoved c.in_ok-read_sector.ensures.unmoved;
      counts = none_rose_behind start before after c.loop-n.invariant.counts c.in_ok-read_sector.ensures.reads.1;
      read = next_read c.args.segments c.loop-n.n start before (sectors_of c.loop-n.disk) (sectors_of c.read_sector.new.disk) c.sector_of.result.0 c.requires below c.loop-n.invariant.unmoved
          c.loop-n.invariant.read at c.in_ok-read_sector.ensures.reads.0;
    }

pub returns-clause-reads : goal.returns-clause-reads
returns-clause-reads g c =
    let all : place_count c.args.segments ≤ c.loop-n.n = subst (λ count. count ≤ c.loop-n.n) c.place_count-n-end.ensures c.loop-n-test.false in (
      record {
        ascending = c.len-ascending.ensures.ascending;
        same = all_read c.args.segments c.loop-n.n (g.O.Outside.state c.args.out.now).sectors (sectors_of c.loop-n.disk) all c.loop-n.invariant.read;
      },
      c.loop-n.invariant.counts,
    )
