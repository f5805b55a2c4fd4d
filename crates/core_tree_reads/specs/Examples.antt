-- A run of an empty script over a fresh disk of one segment, in which the host reads the tree.
use Rattle.std.specs.Prelude.{◌≡◌, IsTrue, List, [], ◌∷◌, codes}
use Rattle.frang_base.specs.declared.said.Said.{Said}
use Rattle.frang_base.specs.declared.said.Said.TheVariants as said
use Rattle.core_definitions.specs.Opening.{Start, fresh_start, moment_of}
use Rattle.core_definitions.specs.Runs.{State, Run, saids_of}
use Rattle.core_transcripts.specs.Answers.{HaveOwnNumbers}
use Rattle.core_tree_reads.specs.AtRest.{has_read}

abbrev pub empty_start : Start
empty_start = fresh_start [] 1

-- the root's line, and the end
abbrev pub empty_saids : List Said
empty_saids = said.Node (codes "/") 2 0 0 ∷ said.End ∷ []

-- a moment of the run at which the host has begun to read the tree and has said these lines; the disk is the first one
pub record ReadsTheTree (saids : List Said) : Type 0 where
  pub own : HaveOwnNumbers empty_start.script
  pub moment : State
  pub run : Run (moment_of empty_start) moment
  pub read : IsTrue (has_read moment.core)
  pub says : saids_of moment.record_ ≡ saids
  pub disk : moment.disk ≡ empty_start.disk

abbrev pub EmptyScriptsReadTheTree : Type 0
EmptyScriptsReadTheTree = ReadsTheTree empty_saids
