-- Where a path leads once symbolic links are followed: a path without links, with what the walk went through.
use Rattle.std.specs.Prelude.{ℕ, zero, suc, Bool, true, false, ◌==◌, if◌then◌else◌, Option, Some, None, Result, Ok, Err, List, [], ◌∷◌, ◌++◌}
use Rattle.frang_base.specs.PathText.{path_of}
use Rattle.frang_base.specs.declared.fault.PathFault.{PathFault}
use Rattle.frang_base.specs.declared.limits.TheConstants.{LINKS_FOLLOWED_MAX}
use Rattle.frang_base.specs.declared.reply.Reply.{Reply}
use Rattle.frang_base.specs.declared.reply.Reply.TheVariants.{NoEnt, NotDir, Loop}
use Rattle.tree_definitions.specs.declared.node.Node.{Node}
use Rattle.tree_definitions.specs.declared.node.Node.TheVariants.{Dir, File, Link}
use Rattle.tree_definitions.specs.Entries.{entry_at}
use Rattle.tree_definitions.specs.Tree.{FileTree, node_at}

-- a path without links that leads to the same place, with the node that is there, if there is one; or the refusal of a walk
pub data WalkEnd : Type 0 where
  At : (path : List (List ℕ)) (found : Option ℕ) → WalkEnd
  Refused : (reply : Reply) → WalkEnd

-- how a walk ends, and the directories in which it looked a name up and the links that it followed, in order
pub record Resolution : Type 0 where
  pub end : WalkEnd
  pub trail : List ℕ

-- it ends here
abbrev pub ends_at : List (List ℕ) → Option ℕ → Resolution
ends_at path found = record { end = At path found; trail = [] }

-- it is refused
abbrev pub refused : Reply → Resolution
refused reply = record { end = Refused reply; trail = [] }

-- it goes through this node first
abbrev pub passes : ℕ → Resolution → Resolution
passes birth walk = record { end = walk.end; trail = birth ∷ walk.trail }

-- a target begins at the root
abbrev pub is_absolute : List ℕ → Bool
is_absolute [] = false
is_absolute (b ∷ text) = b == 47

-- a target as the text of a path: with `/` before it, where it has none
abbrev pub target_text : List ℕ → List ℕ
target_text target = if is_absolute target then target else 47 ∷ target

-- on from a target, before the names that are left: from the root, or from the directory that holds the link; one that is no path leads nowhere
abbrev pub at_target : (ℕ → List (List ℕ) → List (List ℕ) → Resolution) → Bool → Result (List (List ℕ)) PathFault → ℕ → List (List ℕ) → List (List ℕ) → Resolution
at_target next absolute (Err fault) dir above names = refused NoEnt
at_target next true (Ok inner) dir above names = next 0 [] (inner ++ names)
at_target next false (Ok inner) dir above names = next dir above (inner ++ names)

-- at a node, before the names that are left: a directory is gone into and a link is followed, the last one only where that is asked
abbrev pub at_entry : Bool → (List ℕ → Resolution) → Resolution → List (List ℕ) → ℕ → List (List ℕ) → Option Node → Resolution
at_entry last follow into here birth [] (Some (Link target links)) = if last then follow target else ends_at here (Some birth)
at_entry last follow into here birth [] (Some (Dir entries blocks)) = ends_at here (Some birth)
at_entry last follow into here birth [] (Some (File cells links when)) = ends_at here (Some birth)
at_entry last follow into here birth [] None = ends_at here (Some birth)
at_entry last follow into here birth (name ∷ names) (Some (Link target links)) = follow target
at_entry last follow into here birth (name ∷ names) (Some (Dir entries blocks)) = into
at_entry last follow into here birth (name ∷ names) (Some (File cells links when)) = refused NotDir
at_entry last follow into here birth (name ∷ names) None = refused NoEnt

-- a name that was looked up; one that isn't there ends the walk well where it is the last
abbrev pub at_name : FileTree → Bool → (ℕ → List ℕ → Resolution) → (ℕ → Resolution) → List (List ℕ) → List (List ℕ) → Option ℕ → Resolution
at_name tree last follow into here names (Some birth) = at_entry last (follow birth) (into birth) here birth names (node_at tree birth)
at_name tree last follow into here [] None = ends_at here None
at_name tree last follow into here (name ∷ names) None = refused NoEnt

-- a name below a node, which has to be a directory
abbrev pub below_node : FileTree → Bool → (ℕ → List ℕ → Resolution) → (ℕ → Resolution) → List (List ℕ) → ℕ → List ℕ → List (List ℕ) → Option Node → Resolution
below_node tree last follow into here dir name names (Some (Dir entries blocks)) = passes dir (at_name tree last follow into here names (entry_at entries name))
below_node tree last follow into here dir name names (Some (File cells links when)) = refused NotDir
below_node tree last follow into here dir name names (Some (Link target links)) = refused NotDir
below_node tree last follow into here dir name names None = refused NoEnt

-- the names from the left, from a directory on, whose own path is `above`; a link, with the directory that holds it and the names that are left, is followed so
abbrev pub resolve_names : FileTree → Bool → (ℕ → List ℕ → ℕ → List (List ℕ) → List (List ℕ) → Resolution) → ℕ → List (List ℕ) → List (List ℕ) → Resolution
resolve_names tree last follow dir above [] = ends_at above (Some dir)
resolve_names tree last follow dir above (name ∷ names) =
    below_node tree last (λ link target. follow link target dir above names) (λ birth. resolve_names tree last follow birth (above ++ name ∷ []) names)
    (above ++ name ∷ []) dir name names (node_at tree dir)

-- the same with so many links left to follow; the next one is refused before its target is looked at
abbrev pub resolve_from : ℕ → FileTree → Bool → ℕ → List (List ℕ) → List (List ℕ) → Resolution
resolve_from zero tree last dir above names = resolve_names tree last (λ link target holder over rest. refused Loop) dir above names
resolve_from (suc left) tree last dir above names =
    resolve_names tree last (λ link target holder over rest. passes link (at_target (resolve_from left tree last) (is_absolute target) (path_of (target_text target)) holder over rest)) dir above names

-- a path from the root; whether its last name is followed
unfoldable pub resolve : FileTree → Bool → List (List ℕ) → Resolution
resolve tree last path = resolve_from LINKS_FOLLOWED_MAX tree last 0 [] path
