use Rattle.std.specs.Prelude.{drop}
use Rattle.petal_pair.specs.Refilling.{HasCopied}
use Rattle.petal_pair.proofs.refilling.copy_missed.Given as goal

abbrev pub invariant-loop-sector : goal.invariant-loop-sector
invariant-loop-sector g l = HasCopied (g.F.Outside.state l.fn.from) (g.F.Outside.state l.from) (g.T.Outside.state l.fn.to) (g.T.Outside.state l.to) l.missed (drop l.sector-index l.missed)
