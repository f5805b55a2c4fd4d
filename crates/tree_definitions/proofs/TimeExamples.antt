-- The times of files: what gives a file its time and what leaves it, what `time` answers, the script time of a line, and a whole run.
use Rattle.std.proofs.Common.{◌≡◌, ℕ, ◌+◌, true, false, Option, Some, List, [], ◌∷◌, refl, codes}
use Rattle.frang_base.specs.declared.op.Op.{Op}
use Rattle.frang_base.specs.declared.op.Op.TheVariants as op
use Rattle.frang_base.specs.declared.op.HostOp.TheVariants as host
use Rattle.frang_base.specs.declared.reply.Reply.{Reply}
use Rattle.frang_base.specs.declared.reply.Reply.TheVariants as reply
use Rattle.frang_base.specs.declared.said.Said.{Said}
use Rattle.frang_base.specs.declared.said.Said.TheVariants as said
use Rattle.frang_base.specs.declared.script.Line.{Line}
use Rattle.tree_definitions.specs.declared.cells.Cell.TheVariants.{Byte, Doubtful}
use Rattle.tree_definitions.specs.declared.node.Node.{Node}
use Rattle.tree_definitions.specs.declared.node.Node.TheVariants.{File}
use Rattle.tree_definitions.specs.Tree.{FileTree, node_at}
use Rattle.tree_definitions.specs.Apply.{apply, says}
use Rattle.tree_definitions.specs.Resolve.{resolve}
use Rattle.tree_definitions.specs.Perform.{perform}
use Rattle.tree_definitions.specs.TreeLines.{tree_lines}
use Rattle.tree_definitions.specs.History.{fresh_opening}
use Rattle.tree_definitions.specs.Touched.{same_node, shape_of}
use Rattle.tree_definitions.specs.Removal.{is_legal, tree_of}
use Rattle.tree_definitions.specs.Live.{live_history, script_time}
use Rattle.tree_definitions.proofs.Sketch.{root, a, b, d, l, some, by, by_at, recovery, line}
use Rattle.tree_definitions.proofs.TranscriptExamples.{asks, host_asks, answer, host_ok}

-- ---- what gives a file its time

-- an operation at the time 77 makes this of the node of a birth
abbrev MakesAt : FileTree → Op → ℕ → Option Node → Type 0
MakesAt tree o birth node = node_at (apply tree o 9 77 0).tree birth ≡ node

-- /a with two bytes, written at the time 50
abbrev timed : FileTree
timed = (apply some (op.Write a 0 (1 ∷ 2 ∷ [])) 9 50 0).tree

a_new_file_has_none : MakesAt some (op.Create b) 9 (Some (File [] 1 0))
a_new_file_has_none = refl

a_write_gives_it : MakesAt timed (op.Write a 1 (7 ∷ [])) 1 (Some (File (Byte 1 ∷ Byte 7 ∷ []) 1 77))
a_write_gives_it = refl

a_write_of_the_same_bytes_gives_it : MakesAt timed (op.Write a 0 (1 ∷ 2 ∷ [])) 1 (Some (File (Byte 1 ∷ Byte 2 ∷ []) 1 77))
a_write_of_the_same_bytes_gives_it = refl

a_write_of_nothing_gives_it : MakesAt timed (op.Write a 2 []) 1 (Some (File (Byte 1 ∷ Byte 2 ∷ []) 1 77))
a_write_of_nothing_gives_it = refl

a_fill_gives_it : MakesAt timed (op.Fill a 2 1 9) 1 (Some (File (Byte 1 ∷ Byte 2 ∷ Byte 9 ∷ []) 1 77))
a_fill_gives_it = refl

a_truncate_gives_it : MakesAt timed (op.Truncate a 1) 1 (Some (File (Byte 1 ∷ []) 1 77))
a_truncate_gives_it = refl

a_truncate_to_the_present_size_gives_it : MakesAt timed (op.Truncate a 2) 1 (Some (File (Byte 1 ∷ Byte 2 ∷ []) 1 77))
a_truncate_to_the_present_size_gives_it = refl

-- ---- what leaves it

abbrev Leaves : Op → Type 0
Leaves o = MakesAt timed o 1 (Some (File (Byte 1 ∷ Byte 2 ∷ []) 1 50))

a_refused_write_leaves_it : Leaves (op.Write a 3 (7 ∷ []))
a_refused_write_leaves_it = refl

a_refused_truncate_leaves_it : Leaves (op.Truncate a 3)
a_refused_truncate_leaves_it = refl

a_read_leaves_it : Leaves (op.Read a 0 2)
a_read_leaves_it = refl

a_rename_leaves_it : Leaves (op.Rename a b)
a_rename_leaves_it = refl

a_second_name_leaves_it : MakesAt timed (op.Link a b) 1 (Some (File (Byte 1 ∷ Byte 2 ∷ []) 2 50))
a_second_name_leaves_it = refl

-- ---- what `time` answers

-- `time` is answered so
abbrev Tells : FileTree → Op → Reply → Type 0
Tells tree o r = perform tree o 9 77 0 ≡ says tree r

never_written : Tells some (op.Time a) (reply.Time 0 0)
unfolding resolve
never_written = refl

-- the two halves: the run, and the tick of its script
written_in_the_second_run : Tells (apply some (op.Write a 0 (1 ∷ [])) 9 (4294967296 + 4294967296 + 7) 0).tree (op.Time a) (reply.Time 2 7)
unfolding resolve
written_in_the_second_run = refl

time_of_the_root : Tells timed (op.Time root) reply.IsDir
unfolding resolve
time_of_the_root = refl

time_of_a_directory : Tells timed (op.Time d) reply.IsDir
unfolding resolve
time_of_a_directory = refl

time_of_nothing : Tells timed (op.Time b) reply.NoEnt
unfolding resolve
time_of_nothing = refl

time_below_a_file : Tells timed (op.Time ((97 ∷ []) ∷ (97 ∷ []) ∷ [])) reply.NotDir
unfolding resolve
time_below_a_file = refl

-- a last link is followed
time_through_a_link : Tells (apply timed (op.Symlink b (codes "/a")) 8 60 0).tree (op.Time b) (reply.Time 0 50)
unfolding resolve
time_through_a_link = refl

time_through_a_link_to_nothing : Tells timed (op.Time l) reply.NoEnt
unfolding resolve
time_through_a_link_to_nothing = refl

-- ---- times are part of nodes and of shapes

another_time_is_another_node : same_node (File [] 1 50) (File [] 1 77) ≡ false
another_time_is_another_node = refl

the_shape_keeps_the_time : node_at (shape_of timed) 1 ≡ Some (File (Doubtful ∷ Doubtful ∷ []) 1 50)
the_shape_keeps_the_time = refl

-- a doubtful byte that is read, and a byte that comes into doubt, leave the time
doubt_leaves_the_time : node_at (tree_of (fresh_opening 16) (by 0 1 op.Mount reply.Mounted ∷ by 0 2 (op.Create a) reply.Ok ∷ by_at 5 0 3 (op.Write a 0 (1 ∷ [])) reply.Ok ∷ recovery 0 (line 3) ∷ [])) (line 2) ≡ Some (File (Doubtful ∷ []) 1 4294967301)
unfolding resolve
doubt_leaves_the_time = refl

a_read_of_doubt_leaves_the_time : node_at (tree_of (fresh_opening 16) (by 0 1 op.Mount reply.Mounted ∷ by 0 2 (op.Create a) reply.Ok ∷ by_at 5 0 3 (op.Write a 0 (1 ∷ [])) reply.Ok ∷ recovery 0 (line 3) ∷ by 0 5 op.Mount reply.Mounted ∷ by 0 6 (op.Read a 0 1) (reply.Shown (9 ∷ [])) ∷ [])) (line 2)
    ≡ Some (File (Byte 9 ∷ []) 1 4294967301)
unfolding resolve
a_read_of_doubt_leaves_the_time = refl

-- a removed write gives the time before it back
a_lost_write_gives_its_time_back : node_at (tree_of (fresh_opening 16) (by 0 1 op.Mount reply.Mounted ∷ by 0 2 (op.Create a) reply.Ok ∷ by_at 5 0 3 (op.Truncate a 0) reply.Ok ∷ by_at 6 0 4 (op.Truncate a 0) reply.Ok ∷ recovery 0 (line 3) ∷ [])) (line 2)
    ≡ Some (File [] 1 4294967301)
unfolding resolve
a_lost_write_gives_its_time_back = refl

-- ---- a run: a file is made, 7 ticks pass, it is written, its time and the root's are asked, 5 ticks pass, it is cut, its time is asked

abbrev ticking : List Line
ticking = asks 1 0 op.Mount ∷ asks 2 0 (op.Create a) ∷ host_asks 3 (host.Tick 7) ∷ asks 4 0 (op.Write a 0 (97 ∷ [])) ∷ asks 5 0 (op.Time a) ∷ asks 6 0 (op.Time root) ∷ host_asks 7 (host.Tick 5) ∷ asks 8 0 (op.Truncate a 1) ∷ asks 9 0 (op.Time a) ∷ []

-- a line doesn't count its own ticks, and other lines let none pass
times_of_lines : (script_time ticking 3 ≡ 0) × (script_time ticking 4 ≡ 7) × (script_time ticking 7 ≡ 7) × (script_time ticking 9 ≡ 12)
times_of_lines = (refl, refl, refl, refl)

abbrev ticked : List Said
ticked = answer 1 0 reply.Mounted ∷ answer 2 0 reply.Ok ∷ host_ok 3 ∷ answer 4 0 reply.Ok ∷ answer 5 0 (reply.Time 1 7) ∷ answer 6 0 reply.IsDir ∷ host_ok 7 ∷ answer 8 0 reply.Ok ∷ answer 9 0 (reply.Time 1 12) ∷ []

its_history : live_history ticking 1 ticked
    ≡ by_at 0 0 1 op.Mount reply.Mounted ∷ by_at 0 0 2 (op.Create a) reply.Ok ∷ by_at 7 0 4 (op.Write a 0 (97 ∷ [])) reply.Ok ∷ by_at 7 0 5 (op.Time a) (reply.Time 1 7) ∷ by_at 7 0 6 (op.Time root) reply.IsDir ∷ by_at 12 0 8 (op.Truncate a 1) reply.Ok
    ∷ by_at 12 0 9 (op.Time a) (reply.Time 1 12) ∷ []
its_history = refl

its_answers : is_legal (fresh_opening 16) (live_history ticking 1 ticked) ≡ true
unfolding resolve
its_answers = refl

its_tree : tree_lines (tree_of (fresh_opening 16) (live_history ticking 1 ticked)) ≡ said.Node (codes "/") 2 1 0 ∷ said.Node (codes "/a") 1 1 1 ∷ []
unfolding resolve
its_tree = refl

-- another time is no answer
not_its_answer : is_legal (fresh_opening 16) (by 0 1 op.Mount reply.Mounted ∷ by 0 2 (op.Create a) reply.Ok ∷ by_at 7 0 4 (op.Write a 0 (97 ∷ [])) reply.Ok ∷ by_at 9 0 5 (op.Time a) (reply.Time 1 9) ∷ []) ≡ false
unfolding resolve
not_its_answer = refl
