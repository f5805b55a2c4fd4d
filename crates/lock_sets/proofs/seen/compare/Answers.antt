-- The first sector that is left ends it as all do, or the others go on.
use Rattle.std.proofs.Common.{sym, ◌∙◌}
use Rattle.lock_sets.specs.declared.seen.Seen.{Seen}
use Rattle.lock_sets.proofs.Comparing.{goes_on, has_moved, has_stopped, named_behind, none_named}
use Rattle.lock_sets.proofs.seen.compare.Goals as goal

abbrev none : Seen
none = record { sector = record { 0 = 0 }; version = 0 }

pub returns-in-None-clause-is : goal.returns-in-None-clause-is
returns-in-None-clause-is g c =
    has_stopped (g.C.CachedBlocks.cached c.args.sectors.now) c.args.seen.now c.loop-one.one-index none c.loop-one-test.true c.loop-one.invariant.is (sym c.in-None.ensures)

pub returns-in-None-clause-moved : goal.returns-in-None-clause-moved
returns-in-None-clause-moved g c =
    none_named (g.C.CachedBlocks.cached c.args.sectors.now) c.args.seen.now c.loop-one.one-index none c.loop-one-test.true c.loop-one.invariant.moved (sym c.in-None.ensures)

pub returns-then-found-one-clause-is : goal.returns-then-found-one-clause-is
returns-then-found-one-clause-is g c =
    has_moved (g.C.CachedBlocks.cached c.args.sectors.now) c.args.seen.now c.loop-one.one-index none c.loop-one-test.true c.loop-one.invariant.is c.in-Some.block.now (sym c.in-Some.ensures)
    (λ e. c.if-found-one.true (c.version_of-found.ensures ∙ e))

pub loop-one-preserved : goal.loop-one-preserved
loop-one-preserved g c = record {
  is = goes_on (g.C.CachedBlocks.cached c.args.sectors.now) c.args.seen.now c.loop-one.one-index none c.loop-one-test.true c.loop-one.invariant.is c.in-Some.block.now (sym c.in-Some.ensures)
      (sym c.version_of-found.ensures ∙ c.if-found-one.false);
  moved = named_behind (g.C.CachedBlocks.cached c.args.sectors.now) c.args.seen.now c.loop-one.one-index none c.loop-one-test.true c.loop-one.invariant.moved c.in-Some.block.now (sym c.in-Some.ensures)
      (sym c.version_of-found.ensures ∙ c.if-found-one.false);
}
