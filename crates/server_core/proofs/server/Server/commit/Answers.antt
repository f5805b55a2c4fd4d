-- The record is appended, and then the changes are made.
use Rattle.std.proofs.Common.{sym, subst}
use Rattle.server_core.specs.Outcomes.{IsOutcome, MayLay, changes_of}
use Rattle.server_core.proofs.Laying.{committed_is, some_may}
use Rattle.server_core.proofs.server.Server.commit.Goals as goal

pub commit_changes-requires-clause-changes : goal.commit_changes-requires-clause-changes
commit_changes-requires-clause-changes c =
    subst (λ s. MayLay s.cache (changes_of c.args.outcome.redo)) (sym c.append_some.ensures.server) (some_may c.args.self.now c.args.outcome.redo c.requires.redo)

pub returns-clause-server : goal.returns-clause-server
returns-clause-server c = λ of_core is.
    committed_is c.args.self.now.server c.append_some.new.self.server c.commit_changes.new.self.server c.args.outcome of_core c.append_some.ensures.server is
    (c.commit_changes.ensures.server of_core (subst (λ s. IsOutcome s.cache c.args.outcome of_core) (sym c.append_some.ensures.server) is))
