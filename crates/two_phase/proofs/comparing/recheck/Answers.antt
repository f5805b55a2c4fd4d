-- What it tells is the first that has moved.
use Rattle.std.proofs.Common.{Ok, Err}
use Rattle.lock_sets.specs.Seen.{seen_as}
use Rattle.two_phase.proofs.Standing.{told}
use Rattle.two_phase.proofs.comparing.recheck.Goals as goal

pub returns-in-HasMoved-clause-ok : goal.returns-in-HasMoved-clause-ok
returns-in-HasMoved-clause-ok g c =
    told {T = Unit {0}} (Err c.in-HasMoved.moved) (seen_as c.args.saw.now) (g.C.CachedBlocks.cached c.args.sectors.now) c.requires c.in-HasMoved.ensures.moved

pub returns-in-HasStopped-clause-ok : goal.returns-in-HasStopped-clause-ok
returns-in-HasStopped-clause-ok g c = told {T = Unit {0}} (Ok tt) (seen_as c.args.saw.now) (g.C.CachedBlocks.cached c.args.sectors.now) c.requires c.in-HasStopped.ensures.moved

pub returns-in-HasGoneThrough-clause-ok : goal.returns-in-HasGoneThrough-clause-ok
returns-in-HasGoneThrough-clause-ok g c =
    told {T = Unit {0}} (Ok tt) (seen_as c.args.saw.now) (g.C.CachedBlocks.cached c.args.sectors.now) c.requires c.in-HasGoneThrough.ensures.moved
