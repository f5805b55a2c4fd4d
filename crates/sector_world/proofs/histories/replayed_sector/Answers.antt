-- By the laws on replays.
use Rattle.std.proofs.Common.{IsTrue, subst, ◌≤◌}
use Rattle.sector_world.proofs.More.{redo_twice}
use Rattle.sector_world.proofs.HistoryLaws.{replayed_is}
use Rattle.sector_world.proofs.Removals.{survives_low, survives_own}
use Rattle.sector_world.specs.Histories.{survives}
use Rattle.sector_world.proofs.histories.replayed_sector.Goals as goal

pub returns-clause-twice : goal.returns-clause-twice
returns-clause-twice c = redo_twice

pub returns-clause-removes : goal.returns-clause-removes
returns-clause-removes c = λ opening durable s d floor P block h mine o r.
    replayed_is opening durable s d floor (λ c. IsTrue (P c)) block (survives d (durable d)) mine
    (λ c l. survives_low d (durable d) c (λ q. subst (λ x. c.op ≤ durable x) q l)) (λ c q. survives_own d (durable d) c q) h o r
