-- Two servers over a fresh disk, by the laws of histories.
use Rattle.std.proofs.Common.{ℕ, ◌≡◌, false, Some, List, [], ◌∷◌, refl, subst, arith, lit<}
use Rattle.std.proofs.lemmas.Bool.{eqb-false}
use Rattle.frang_base.specs.declared.op.Op.TheVariants as op
use Rattle.frang_base.specs.declared.reply.Reply.TheVariants as reply
use Rattle.tree_definitions.specs.declared.node.Node.TheVariants.{Dir}
use Rattle.tree_definitions.specs.Numbers.{below}
use Rattle.tree_definitions.specs.Resolve.{resolve}
use Rattle.tree_definitions.specs.Tree.{FileTree, fresh}
use Rattle.sector_world.specs.Histories.{Item, logical, in_doubt}
use Rattle.sector_world.specs.Histories.Item.{Done}
use Rattle.sector_world.specs.Plans.{Outcome, Legal}
use Rattle.sector_world.specs.Trees.{Answers, Distinct, tree_of}
use Rattle.disk_definitions.specs.FreshDisk.{fresh_disk}
use Rattle.line_histories.specs.LinePlans.{sector_plan}
use Rattle.stop_laws.specs.TwoServers.{number_of_line, at_zero, directory, file_below, file_beside, makes_directory, creates_below, tree_left, tree_of_all, all_three, TwoServers}
use Rattle.line_histories.specs.Laws.{IsOfOneTree}
use Rattle.line_histories.specs.Standing.{StandsForShape, StandsNumbered}
use Rattle.line_histories.specs.Trees.{performed, AreTimes, MayNumber}
use Rattle.line_histories.proofs.Coming.{lines_come}
use Rattle.line_histories.proofs.Runs.{histories_of_one_tree}
use Rattle.stop_laws.proofs.Beginning.{fresh_begins}

abbrev numbers : List ℕ
numbers = number_of_line 1 ∷ number_of_line 2 ∷ number_of_line 3 ∷ []

-- ---- the fresh disk

begins : StandsNumbered 1 (fresh_disk 1) (record { tree = fresh 1; numbers = numbers })
begins = fresh_begins 1 (omega arith) (omega arith) numbers (omega arith)

-- ---- the trees

times : AreTimes at_zero
times n = lit< tt

abbrev tree_one : FileTree
tree_one = record { segments = 1; nodes = (0, Dir ((100 ∷ [], number_of_line 1) ∷ []) 1) ∷ (number_of_line 1, Dir [] 0) ∷ [] }

-- whatever the outcomes are
after_one : (first : Outcome) → tree_of (performed at_zero) (fresh 1) (Done (makes_directory first) ∷ []) ≡ tree_one
unfolding resolve
after_one first = refl

after_two : (first second : Outcome) → tree_of (performed at_zero) (fresh 1) (Done (creates_below second) ∷ Done (makes_directory first) ∷ []) ≡ tree_left
unfolding resolve
after_two first second = refl

after_three : (first second third : Outcome) → tree_of (performed at_zero) (fresh 1) (all_three first second third) ≡ tree_of_all
unfolding resolve
after_three first second third = refl

all_ok : (first second third : Outcome) → Answers (performed at_zero) (fresh 1) (all_three first second third) → (first.reply ≡ reply.Ok) × (second.reply ≡ reply.Ok) × (third.reply ≡ reply.Ok)
unfolding resolve
all_ok first second third a = (a.1.1.0, a.1.0, a.0)

-- ---- three lines

new_one : MayNumber numbers (number_of_line 1) (fresh 1)
new_one = record { listed = refl; new = refl; small = lit< tt }

new_two : MayNumber numbers (number_of_line 2) (fresh 1)
new_two = record { listed = refl; new = refl; small = lit< tt }

new_three : MayNumber numbers (number_of_line 3) (fresh 1)
new_three = record { listed = refl; new = refl; small = lit< tt }

one : (first : Outcome) × (sector_plan 1 at_zero (below 1) (number_of_line 1) (op.Mkdir directory) (fresh_disk 1) ≡ Some first)
one = lines_come 1 at_zero (number_of_line 1) (op.Mkdir directory) (fresh 1) numbers (fresh_disk 1) begins.stands new_one refl

abbrev history_one : List Item
history_one = Done (makes_directory one.0) ∷ []

legal_one : Legal (sector_plan 1 at_zero) (fresh_disk 1) history_one
legal_one = (one.1, tt)

stands_one : StandsForShape 1 (logical (fresh_disk 1) history_one) tree_one
stands_one = subst (StandsForShape 1 (logical (fresh_disk 1) history_one)) (after_one one.0)
    (histories_of_one_tree 1 at_zero (fresh_disk 1) (fresh 1) numbers history_one times begins legal_one (new_one, tt, tt)).stands

two : (second : Outcome) × (sector_plan 1 at_zero (below 1) (number_of_line 2) (op.Create file_below) (logical (fresh_disk 1) history_one) ≡ Some second)
two = lines_come 1 at_zero (number_of_line 2) (op.Create file_below) tree_one numbers (logical (fresh_disk 1) history_one) stands_one (record { listed = refl; new = refl; small = lit< tt }) refl

abbrev history_two : List Item
history_two = Done (creates_below two.0) ∷ history_one

legal_two : Legal (sector_plan 1 at_zero) (fresh_disk 1) history_two
legal_two = (two.1, legal_one)

distinct_two : Distinct (MayNumber numbers) (fresh 1) history_two
distinct_two = (new_two, (eqb-false (number_of_line 1) (number_of_line 2) refl, tt), (new_one, tt, tt))

stands_two : StandsForShape 1 (logical (fresh_disk 1) history_two) tree_left
stands_two = subst (StandsForShape 1 (logical (fresh_disk 1) history_two)) (after_two one.0 two.0)
    (histories_of_one_tree 1 at_zero (fresh_disk 1) (fresh 1) numbers history_two times begins legal_two distinct_two).stands

three : (third : Outcome) × (sector_plan 1 at_zero (below 1) (number_of_line 3) (op.Create file_beside) (logical (fresh_disk 1) history_two) ≡ Some third)
three = lines_come 1 at_zero (number_of_line 3) (op.Create file_beside) tree_left numbers (logical (fresh_disk 1) history_two) stands_two (record { listed = refl; new = refl; small = lit< tt }) refl

legal_three : Legal (sector_plan 1 at_zero) (fresh_disk 1) (all_three one.0 two.0 three.0)
legal_three = (three.1, legal_two)

all_of_one : IsOfOneTree 1 at_zero (fresh_disk 1) (fresh 1) (all_three one.0 two.0 three.0)
all_of_one = histories_of_one_tree 1 at_zero (fresh_disk 1) (fresh 1) numbers (all_three one.0 two.0 three.0) times begins legal_three
    (new_three, (eqb-false (number_of_line 2) (number_of_line 3) refl, (eqb-false (number_of_line 1) (number_of_line 3) refl, tt)), distinct_two)

pub two_servers : TwoServers
two_servers = (
  one.0,
  two.0,
  three.0,
  record {
    legal = legal_three;
    answers = all_ok one.0 two.0 three.0 all_of_one.answers;
    before = subst (StandsForShape 1 (logical (fresh_disk 1) (all_three one.0 two.0 three.0))) (after_three one.0 two.0 three.0) all_of_one.stands;
    left = (in_doubt 0 0 history_two, refl);
    after = stands_two;
  },
)
