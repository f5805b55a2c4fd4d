-- By the lemmas on lists of lines.
use Rattle.std.proofs.Common.{[], ◌∷◌}
use Rattle.tree_laws.proofs.TranscriptLaws.{may_all-front, may_all-back, may_all-append, live-push}
use Rattle.tree_laws.proofs.trees.transcripts_are_closed_under_prefixes.Goals as goal

pub returns-clause-prefix : goal.returns-clause-prefix
returns-clause-prefix c = λ script opening faults xs ys all. may_all-front script opening faults [] xs ys all

pub returns-clause-each : goal.returns-clause-each
returns-clause-each c = λ script opening faults xs y ys all. (may_all-back script opening faults [] xs (y ∷ ys) all).0

pub returns-clause-longer : goal.returns-clause-longer
returns-clause-longer c = λ script opening faults xs y all may. may_all-append script opening faults [] xs (y ∷ []) all (may, tt)

pub returns-clause-adds : goal.returns-clause-adds
returns-clause-adds c = live-push
