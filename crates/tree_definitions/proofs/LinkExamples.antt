-- Symbolic links are followed: each refusal of a walk, each order of two that matters, which last names are followed, and what is touched.
use Rattle.std.proofs.Common.{◌≡◌, ℕ, true, false, Option, Some, List, [], ◌∷◌, ◌++◌, refl, codes}
use Rattle.frang_base.specs.declared.op.Op.{Op}
use Rattle.frang_base.specs.declared.op.Op.TheVariants as op
use Rattle.frang_base.specs.declared.reply.Reply.{Reply}
use Rattle.frang_base.specs.declared.reply.Reply.TheVariants as reply
use Rattle.frang_base.specs.declared.said.Said.TheVariants as said
use Rattle.tree_definitions.specs.declared.cells.Cell.TheVariants.{Byte, Doubtful}
use Rattle.tree_definitions.specs.declared.history.Item.{Item}
use Rattle.tree_definitions.specs.declared.node.Node.{Node}
use Rattle.tree_definitions.specs.declared.node.Node.TheVariants.{Dir, File, Link}
use Rattle.tree_definitions.specs.Tree.{FileTree, node_at}
use Rattle.tree_definitions.specs.Apply.{Answer, Plain, Shows, says}
use Rattle.tree_definitions.specs.Resolve.{resolve}
use Rattle.tree_definitions.specs.Perform.{Goes, Stops, resolved, perform}
use Rattle.tree_definitions.specs.TreeLines.{tree_lines}
use Rattle.tree_definitions.specs.History.{Opening, fresh_opening}
use Rattle.tree_definitions.specs.Removal.{is_legal, keeps, tree_of}
use Rattle.tree_definitions.proofs.Sketch.{Way, root, a, b, d, l, by, recovery, line}

-- names of one letter, in paths of one or two
abbrev in_root : ℕ → Way
in_root x = (x ∷ []) ∷ []

abbrev in_two : ℕ → ℕ → Way
in_two x y = (x ∷ []) ∷ (y ∷ []) ∷ []

-- /a (1) a file, /l (2) a link to nothing, /d (3) and /d/e (4) directories; then the links /k to d (5), /q to a (6), /p to a//b (7), /o to o (8),
-- /d/k to e (9), /d/q to /a (10), /r to / (11)
abbrev ways : FileTree
ways = record {
  segments = 16;
  nodes = (0, Dir ((97 ∷ [], 1) ∷ (100 ∷ [], 3) ∷ (107 ∷ [], 5) ∷ (108 ∷ [], 2) ∷ (111 ∷ [], 8) ∷ (112 ∷ [], 7) ∷ (113 ∷ [], 6) ∷ (114 ∷ [], 11) ∷ []) 1) ∷ (1, File [] 1 0) ∷ (2, Link (codes "t") 1)
      ∷ (3, Dir ((101 ∷ [], 4) ∷ (107 ∷ [], 9) ∷ (113 ∷ [], 10) ∷ []) 1) ∷ (4, Dir [] 0) ∷ (5, Link (codes "d") 1) ∷ (6, Link (codes "a") 1) ∷ (7, Link (codes "a//b") 1) ∷ (8, Link (codes "o") 1)
      ∷ (9, Link (codes "e") 1) ∷ (10, Link (codes "/a") 1) ∷ (11, Link (codes "/") 1) ∷ [];
}

-- an operation at the birth 20 is refused so, answered so, or makes this of the node of a birth
abbrev Refuses : Op → Reply → Type 0
Refuses o r = perform ways o 20 0 0 ≡ says ways r

abbrev Answers : Op → Answer → Type 0
Answers o answer = (perform ways o 20 0 0).answer ≡ answer

abbrev Makes : Op → ℕ → Option Node → Type 0
Makes o birth node = node_at (perform ways o 20 0 0).tree birth ≡ node

-- refusals of walks
a_name_that_is_not_there : Refuses (op.Create (in_two 120 121)) reply.NoEnt
unfolding resolve
a_name_that_is_not_there = refl

a_file_on_the_way : Refuses (op.Create (in_two 97 120)) reply.NotDir
unfolding resolve
a_file_on_the_way = refl

a_link_to_a_file_on_the_way : Refuses (op.Create (in_two 113 120)) reply.NotDir
unfolding resolve
a_link_to_a_file_on_the_way = refl

a_link_to_nothing_on_the_way : Refuses (op.Create (in_two 108 120)) reply.NoEnt
unfolding resolve
a_link_to_nothing_on_the_way = refl

a_link_to_no_path_on_the_way : Refuses (op.Stat (in_two 112 120)) reply.NoEnt
unfolding resolve
a_link_to_no_path_on_the_way = refl

a_link_to_no_path_at_the_end : Refuses (op.Read (in_root 112) 0 1) reply.NoEnt
unfolding resolve
a_link_to_no_path_at_the_end = refl

a_link_to_itself : Refuses (op.Read (in_root 111) 0 1) reply.Loop
unfolding resolve
a_link_to_itself = refl

a_link_to_itself_on_the_way : Refuses (op.Unlink (in_two 111 120)) reply.Loop
unfolding resolve
a_link_to_itself_on_the_way = refl

-- which last names are followed
a_read_follows : Answers (op.Read (in_root 113) 0 1) (Shows [])
unfolding resolve
a_read_follows = refl

a_list_follows : Answers (op.List (in_two 107 107)) (Plain (reply.Names []))
unfolding resolve
a_list_follows = refl

a_write_follows : Makes (op.Write (in_root 113) 0 (7 ∷ [])) 1 (Some (File (Byte 7 ∷ []) 1 0))
unfolding resolve
a_write_follows = refl

a_fill_follows : Makes (op.Fill (in_two 107 113) 0 2 7) 1 (Some (File (Byte 7 ∷ Byte 7 ∷ []) 1 0))
unfolding resolve
a_fill_follows = refl

a_truncate_follows : Refuses (op.Truncate (in_root 113) 1) reply.BadOffset
unfolding resolve
a_truncate_follows = refl

a_time_follows : Refuses (op.Time (in_root 107)) reply.IsDir
unfolding resolve
a_time_follows = refl

a_stat_does_not : Refuses (op.Stat (in_root 111)) (reply.Symlink 1)
unfolding resolve
a_stat_does_not = refl

a_readlink_does_not : Refuses (op.Readlink (in_root 111)) (reply.Target (codes "o"))
unfolding resolve
a_readlink_does_not = refl

a_create_does_not : Refuses (op.Create (in_root 108)) reply.Exist
unfolding resolve
a_create_does_not = refl

an_unlink_does_not : Makes (op.Unlink (in_root 113)) 1 (Some (File [] 1 0))
unfolding resolve
an_unlink_does_not = refl

an_rmdir_does_not : Refuses (op.Rmdir (in_root 107)) reply.NotDir
unfolding resolve
an_rmdir_does_not = refl

a_link_does_not : Makes (op.Link (in_root 111) b) 8 (Some (Link (codes "o") 2))
unfolding resolve
a_link_does_not = refl

a_rename_does_not : Refuses (op.Rename (in_root 107) d) reply.IsDir
unfolding resolve
a_rename_does_not = refl

-- targets from the root, from the directory that holds the link, and the root itself
a_target_from_the_root : Answers (op.Read (in_two 100 113) 0 1) (Shows [])
unfolding resolve
a_target_from_the_root = refl

a_target_from_its_directory : Answers (op.List (in_two 100 107)) (Plain (reply.Names []))
unfolding resolve
a_target_from_its_directory = refl

the_root_as_a_target : Answers (op.Write (in_root 114) 0 (7 ∷ [])) (Plain reply.IsDir)
unfolding resolve
the_root_as_a_target = refl

below_the_root_as_a_target : Refuses (op.Create (in_two 114 97)) reply.Exist
unfolding resolve
below_the_root_as_a_target = refl

made_where_the_link_leads : Makes (op.Create (in_two 107 120)) 3 (Some (Dir ((101 ∷ [], 4) ∷ (107 ∷ [], 9) ∷ (113 ∷ [], 10) ∷ (120 ∷ [], 20) ∷ []) 1))
unfolding resolve
made_where_the_link_leads = refl

-- walks come before all other refusals but those of the root
noent_before_badoffset : Refuses (op.Write (in_root 108) 1 (7 ∷ [])) reply.NoEnt
unfolding resolve
noent_before_badoffset = refl

loop_before_exist : Refuses (op.Create (in_two 111 97)) reply.Loop
unfolding resolve
loop_before_exist = refl

the_root_before_a_loop : Refuses (op.Rename root (in_two 111 120)) reply.Inval
unfolding resolve
the_root_before_a_loop = refl

the_new_root_before_a_loop : Refuses (op.Rename (in_two 111 120) root) reply.Inval
unfolding resolve
the_new_root_before_a_loop = refl

-- the first walk, what it has to reach, and then the second walk
first_loop_before_second_noent : Refuses (op.Link (in_two 111 120) (in_two 120 121)) reply.Loop
unfolding resolve
first_loop_before_second_noent = refl

noent_before_a_second_loop : Refuses (op.Link (in_root 120) (in_two 111 120)) reply.NoEnt
unfolding resolve
noent_before_a_second_loop = refl

isdir_before_a_second_loop : Refuses (op.Link d (in_two 111 120)) reply.IsDir
unfolding resolve
isdir_before_a_second_loop = refl

a_second_loop_of_a_link : Refuses (op.Link a (in_two 111 120)) reply.Loop
unfolding resolve
a_second_loop_of_a_link = refl

rename_noent_before_a_second_loop : Refuses (op.Rename (in_root 120) (in_two 111 120)) reply.NoEnt
unfolding resolve
rename_noent_before_a_second_loop = refl

a_second_noent_before_inval : Refuses (op.Rename d ((100 ∷ []) ∷ (107 ∷ []) ∷ (122 ∷ []) ∷ (121 ∷ []) ∷ [])) reply.NoEnt
unfolding resolve
a_second_noent_before_inval = refl

below_itself_through_a_link : Refuses (op.Rename d (in_two 107 120)) reply.Inval
unfolding resolve
below_itself_through_a_link = refl

onto_itself_through_a_link : Refuses (op.Rename a (in_two 114 97)) reply.Ok
unfolding resolve
onto_itself_through_a_link = refl

-- what an operation comes to, with the directories and links that its walk went through
the_trail : resolved ways (op.Read (in_two 107 113) 0 1) ≡ record { step = Goes (op.Read a 0 1); trail = 0 ∷ 5 ∷ 0 ∷ 3 ∷ 10 ∷ 0 ∷ [] }
unfolding resolve
the_trail = refl

the_trail_of_a_refusal : resolved ways (op.Stat (in_two 112 120)) ≡ record { step = Stops reply.NoEnt; trail = 0 ∷ 7 ∷ [] }
unfolding resolve
the_trail_of_a_refusal = refl

-- a chain of links: the file /0 (1), /1 to /0 (2), /2 to /1 (3), and so on to /9 to /8 (10)
abbrev chain_from : List ℕ → FileTree
chain_from target = record {
  segments = 16;
  nodes = (0, Dir ((48 ∷ [], 1) ∷ (49 ∷ [], 2) ∷ (50 ∷ [], 3) ∷ (51 ∷ [], 4) ∷ (52 ∷ [], 5) ∷ (53 ∷ [], 6) ∷ (54 ∷ [], 7) ∷ (55 ∷ [], 8) ∷ (56 ∷ [], 9) ∷ (57 ∷ [], 10) ∷ []) 1) ∷ (1, File [] 1 0) ∷ (2, Link target 1)
      ∷ (3, Link (codes "/1") 1) ∷ (4, Link (codes "/2") 1) ∷ (5, Link (codes "/3") 1) ∷ (6, Link (codes "/4") 1) ∷ (7, Link (codes "/5") 1) ∷ (8, Link (codes "/6") 1) ∷ (9, Link (codes "/7") 1) ∷ (10, Link (codes "/8") 1) ∷ [];
}

abbrev chained : FileTree
chained = chain_from (codes "/0")

eight_links_are_followed : perform chained (op.Read (in_root 56) 0 1) 20 0 0 ≡ record { answer = Shows []; tree = chained }
unfolding resolve
eight_links_are_followed = refl

the_ninth_is_not : perform chained (op.Read (in_root 57) 0 1) 20 0 0 ≡ says chained reply.Loop
unfolding resolve
the_ninth_is_not = refl

-- the ninth link isn't gone through: those of the births 10 to 3 are, and the one of birth 2 isn't
the_ninth_is_not_touched : (resolved chained (op.Read (in_root 57) 0 1)).trail ≡ 0 ∷ 10 ∷ 0 ∷ 9 ∷ 0 ∷ 8 ∷ 0 ∷ 7 ∷ 0 ∷ 6 ∷ 0 ∷ 5 ∷ 0 ∷ 4 ∷ 0 ∷ 3 ∷ 0 ∷ []
unfolding resolve
the_ninth_is_not_touched = refl

-- the same chain, where the first link leads to no path: the eighth link of a walk looks at it, the ninth doesn't
abbrev broken : FileTree
broken = chain_from (codes "a//b")

no_path_as_the_eighth : perform broken (op.Read (in_root 56) 0 1) 20 0 0 ≡ says broken reply.NoEnt
unfolding resolve
no_path_as_the_eighth = refl

loop_before_no_path : perform broken (op.Read (in_root 57) 0 1) 20 0 0 ≡ says broken reply.Loop
unfolding resolve
loop_before_no_path = refl

-- a history through links
abbrev opening : Opening
opening = fresh_opening 16

abbrev through : List Item
through = by 0 1 op.Mount reply.Mounted ∷ by 0 2 (op.Mkdir d) reply.Ok ∷ by 0 3 (op.Create (in_two 100 102)) reply.Ok ∷ by 0 4 (op.Write (in_two 100 102) 0 (codes "hi")) reply.Ok
    ∷ by 0 5 (op.Symlink l (codes "d")) reply.Ok ∷ by 0 6 (op.Symlink (in_root 109) (codes "/l/f")) reply.Ok ∷ by 0 7 (op.Read (in_root 109) 0 2) (reply.Shown (codes "hi"))
    ∷ by 0 8 (op.Stat (in_root 109)) (reply.Symlink 4) ∷ by 0 9 (op.Symlink (in_root 111) (codes "o")) reply.Ok ∷ by 0 10 (op.Read (in_root 111) 0 1) reply.Loop
    ∷ by 0 11 (op.List l) (reply.Names (codes "f" ∷ [])) ∷ by 0 12 (op.Rename d (in_two 108 101)) reply.Inval ∷ []

through_is_legal : is_legal opening through ≡ true
unfolding resolve
through_is_legal = refl

its_tree : tree_lines (tree_of opening through)
    ≡ said.Node (codes "/") 2 4 0 ∷ said.Node (codes "/d") 2 1 0 ∷ said.Node (codes "/d/f") 1 2 1 ∷ said.Node (codes "/l") 3 1 0 ∷ said.Node (codes "/m") 3 4 0 ∷ said.Node (codes "/o") 3 1 0 ∷ []
unfolding resolve
its_tree = refl

-- a link that another server followed was seen
abbrev followed : List Item
followed = by 0 1 op.Mount reply.Mounted ∷ by 0 2 (op.Mkdir d) reply.Ok ∷ by 0 3 (op.Symlink l (codes "d")) reply.Ok ∷ by 1 5 op.Mount reply.Mounted ∷ by 1 6 (op.Create (in_two 108 120)) reply.Ok ∷ []

a_followed_link_is_kept : keeps opening (followed ++ recovery 0 (line 3) ∷ []) ≡ true
unfolding resolve
a_followed_link_is_kept = refl

a_followed_link_was_seen : keeps opening (followed ++ recovery 0 (line 2) ∷ []) ≡ false
unfolding resolve
a_followed_link_was_seen = refl

-- the link alone was touched: a second name of it was made in another directory
abbrev named_twice : List Item
named_twice = by 0 1 op.Mount reply.Mounted ∷ by 0 2 (op.Mkdir d) reply.Ok ∷ by 0 3 (op.Symlink l (codes "d")) reply.Ok ∷ by 0 4 (op.Mkdir (in_root 101)) reply.Ok ∷ by 0 5 op.Sync reply.Ok
    ∷ by 0 6 (op.Link l (in_two 101 109)) reply.Ok ∷ by 1 7 op.Mount reply.Mounted ∷ []

a_link_that_was_followed_was_seen : keeps opening (named_twice ++ by 1 8 (op.Create (in_two 108 120)) reply.Ok ∷ recovery 0 (line 4) ∷ []) ≡ false
unfolding resolve
a_link_that_was_followed_was_seen = refl

its_target_alone_was_not : keeps opening (named_twice ++ by 1 8 (op.Create (in_two 100 120)) reply.Ok ∷ recovery 0 (line 4) ∷ []) ≡ true
unfolding resolve
its_target_alone_was_not = refl

-- a write through a link leaves the file in doubt, and a read through one fixes its cells
abbrev doubted : List Item
doubted = by 0 1 op.Mount reply.Mounted ∷ by 0 2 (op.Create a) reply.Ok ∷ by 0 3 (op.Symlink l (codes "a")) reply.Ok ∷ by 0 4 (op.Write l 0 (7 ∷ [])) reply.Ok ∷ recovery 0 (line 4) ∷ []

a_write_through_a_link_is_in_doubt : node_at (tree_of opening doubted) (line 2) ≡ Some (File (Doubtful ∷ []) 1 0)
unfolding resolve
a_write_through_a_link_is_in_doubt = refl

a_read_through_a_link_fixes : node_at (tree_of opening (doubted ++ by 1 5 op.Mount reply.Mounted ∷ by 1 6 (op.Read l 0 1) (reply.Shown (9 ∷ [])) ∷ [])) (line 2) ≡ Some (File (Byte 9 ∷ []) 1 0)
unfolding resolve
a_read_through_a_link_fixes = refl
