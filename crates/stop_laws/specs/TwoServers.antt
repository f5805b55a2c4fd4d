-- Two servers over a fresh disk of one segment: the first makes a directory, the second creates a file in it; then the first creates a file beside it and
-- dies, and the recovery of its log, of which only the first record is there, takes this away.
use Rattle.std.specs.Prelude.{ℕ, ◌≡◌, ◌+◌, Bool, false, List, [], ◌∷◌, None}
use Rattle.frang_base.specs.declared.limits.TheConstants.{RUN_LINES_END}
use Rattle.frang_base.specs.declared.op.Op.{Op}
use Rattle.frang_base.specs.declared.op.Op.TheVariants as op
use Rattle.frang_base.specs.declared.reply.Reply.TheVariants as reply
use Rattle.tree_definitions.specs.declared.node.Node.TheVariants.{Dir, File}
use Rattle.tree_definitions.specs.Numbers.{below}
use Rattle.tree_definitions.specs.Tree.{FileTree}
use Rattle.sector_world.specs.Histories.{Commit, Entry, Item, logical, settled}
use Rattle.sector_world.specs.Histories.Entry.{Did, Recovered}
use Rattle.sector_world.specs.Histories.Item.{Done, Doubt}
use Rattle.sector_world.specs.Plans.{Outcome, Legal}
use Rattle.disk_definitions.specs.FreshDisk.{fresh_disk}
use Rattle.line_histories.specs.LinePlans.{sector_plan}
use Rattle.line_histories.specs.Standing.{StandsForShape}

-- line by line of the first run
abbrev pub number_of_line : ℕ → ℕ
number_of_line line = RUN_LINES_END + line

-- every operation at the time 0
abbrev pub at_zero : ℕ → ℕ
at_zero n = 0

-- `d`, `d/g` and `f`
abbrev pub directory : List (List ℕ)
directory = (100 ∷ []) ∷ []

abbrev pub file_below : List (List ℕ)
file_below = (100 ∷ []) ∷ (103 ∷ []) ∷ []

abbrev pub file_beside : List (List ℕ)
file_beside = (102 ∷ []) ∷ []

-- what a server did, by the outcome of its plan, with all segments at hand; it read no bytes
abbrev pub did_by : (server line : ℕ) → Op → Outcome → Commit
did_by server line operation o = record {
  by = server;
  op = number_of_line line;
  hint = below 1;
  asked = operation;
  reply = o.reply;
  blocks = o.blocks;
  looked = o.looked;
  changes = o.changes;
  claims = o.claims;
  moves = o.moves;
  reads = o.reads;
  makes = o.makes;
  writes = λ s. None;
  sees = λ s. false;
  shown = λ s. None;
  uses = o.uses;
  alone = o.alone;
}

abbrev pub makes_directory : Outcome → Commit
makes_directory o = did_by 0 1 (op.Mkdir directory) o

abbrev pub creates_below : Outcome → Commit
creates_below o = did_by 1 2 (op.Create file_below) o

abbrev pub creates_beside : Outcome → Commit
creates_beside o = did_by 0 3 (op.Create file_beside) o

-- the tree with the directory and the file in it, and the one with the file beside it too
abbrev pub tree_left : FileTree
tree_left =
    record { segments = 1; nodes = (0, Dir ((100 ∷ [], number_of_line 1) ∷ []) 1) ∷ (number_of_line 1, Dir ((103 ∷ [], number_of_line 2) ∷ []) 1) ∷ (number_of_line 2, File [] 1 0) ∷ [] }

abbrev pub tree_of_all : FileTree
tree_of_all = record {
  segments = 1;
  nodes = (0, Dir ((100 ∷ [], number_of_line 1) ∷ (102 ∷ [], number_of_line 3) ∷ []) 1) ∷ (number_of_line 1, Dir ((103 ∷ [], number_of_line 2) ∷ []) 1)
      ∷ (number_of_line 2, File [] 1 0) ∷ (number_of_line 3, File [] 1 0) ∷ [];
}

-- what they did, the newest first; and with the end of the recovery, whose log kept the first record
abbrev pub all_three : Outcome → Outcome → Outcome → List Item
all_three first second third = Done (creates_beside third) ∷ Done (creates_below second) ∷ Done (makes_directory first) ∷ []

abbrev pub and_recovered : Outcome → Outcome → Outcome → List Entry
and_recovered first second third = Recovered 0 (number_of_line 1) ∷ Did (creates_beside third) ∷ Did (creates_below second) ∷ Did (makes_directory first) ∷ []

-- these are the outcomes of the lines, each planned over the sectors as the older ones left them, and answered `ok`; the sectors stand for the tree of all
-- three, and once the log is recovered for that of the first two
pub record IsTwoServers (first second third : Outcome) : Type 0 where
  pub legal : Legal (sector_plan 1 at_zero) (fresh_disk 1) (all_three first second third)
  pub answers : (first.reply ≡ reply.Ok) × (second.reply ≡ reply.Ok) × (third.reply ≡ reply.Ok)
  pub before : StandsForShape 1 (logical (fresh_disk 1) (all_three first second third)) tree_of_all
  pub left : (marked : ℕ → Bool) × (settled (and_recovered first second third) ≡ Doubt marked ∷ Done (creates_below second) ∷ Done (makes_directory first) ∷ [])
  pub after : StandsForShape 1 (logical (fresh_disk 1) (settled (and_recovered first second third))) tree_left

-- there are such
abbrev pub TwoServers : Type 0
TwoServers = (first : Outcome) × (second : Outcome) × (third : Outcome) × IsTwoServers first second third
