-- A path over the disk of a tree leads where it leads in the tree, through as many links.
use Rattle.std.proofs.Common.{◌≡◌, ℕ, zero, suc, Bool, true, false, Option, Some, Result, Ok, Err, List, [], ◌∷◌, ◌++◌, is_some, refl, sym, ap, subst}
use Rattle.frang_base.specs.PathText.{path_of}
use Rattle.frang_base.specs.declared.fault.PathFault.{PathFault}
use Rattle.frang_base.specs.declared.limits.TheConstants.{LINKS_FOLLOWED_MAX}
use Rattle.frang_base.specs.declared.reply.Reply.TheVariants as reply
use Rattle.tree_definitions.specs.declared.node.Node.TheVariants.{Link}
use Rattle.tree_definitions.specs.Apply.{is_dir}
use Rattle.tree_definitions.specs.Tree.{FileTree, node_at}
use Rattle.tree_definitions.specs.Resolve as trees
use Rattle.disk_definitions.specs.Store.{Store, StoredNode}
use Rattle.disk_definitions.specs.Naming.{Naming}
use Rattle.disk_definitions.proofs.Kept.{inode_is}
use Rattle.disk_definitions.specs.Ask.{Ask, ReadInode, looks}
use Rattle.disk_definitions.specs.Meets.{IsOfTree}
use Rattle.plan_laws.proofs.Covering.{has_head}
use Rattle.disk_definitions.specs.Resolving.{Resolution, refused, passes, at_target, with_target, resolve_from, resolve}
use Rattle.line_laws.specs.Resolutions.{ResolutionsLeadAsTheTreeDoes}
use Rattle.line_laws.proofs.Looked.{on_behind, on_inode}
use Rattle.line_laws.proofs.Names.{Follow, TreeFollow, IsWalk, passed, names_same}

-- a link is followed with so many links left after it, over the store and in the tree
abbrev pub follow_in : ℕ → Bool → Follow
follow_in left last link holder over rest =
    passes link (ReadInode link (with_target (λ target. at_target (resolve_from left last) (trees.is_absolute target) (path_of (trees.target_text target)) holder over rest)))

abbrev pub tree_follow_in : ℕ → FileTree → Bool → TreeFollow
tree_follow_in left t last link target holder over rest = trees.passes link (trees.at_target (trees.resolve_from left t last) (trees.is_absolute target) (path_of (trees.target_text target)) holder over rest)

module _ (s : Store) (tree : FileTree) (n : Naming) (of : IsOfTree s tree n) where
  abbrev Walks : Ask Resolution → trees.Resolution → Type 0
  Walks = IsWalk s tree n of

  -- names lead alike from each directory
  abbrev AllSame : (ℕ → List (List ℕ) → List (List ℕ) → Ask Resolution) → (ℕ → List (List ℕ) → List (List ℕ) → trees.Resolution) → Type 0
  AllSame next tree_next = (names : List (List ℕ)) (dir : ℕ) (above : List (List ℕ)) → is_dir (node_at tree dir) ≡ true → Walks (next (n.inode dir) above names) (tree_next dir above names)

  -- on from a target
  target_same : (next : ℕ → List (List ℕ) → List (List ℕ) → Ask Resolution) (tree_next : ℕ → List (List ℕ) → List (List ℕ) → trees.Resolution) → AllSame next tree_next →
      (absolute : Bool) (way : Result (List (List ℕ)) PathFault) (dir : ℕ) (above names : List (List ℕ)) → is_dir (node_at tree dir) ≡ true →
      Walks (at_target next absolute way (n.inode dir) above names) (trees.at_target tree_next absolute way dir above names)
  target_same next tree_next on absolute (Err fault) dir above names d = record { leads = refl; looked = tt }
  target_same next tree_next on true (Ok inner) dir above names d = subst (λ i. Walks (next i [] (inner ++ names)) (tree_next 0 [] (inner ++ names))) of.root (on (inner ++ names) 0 [] of.well_formed.rooted)
  target_same next tree_next on false (Ok inner) dir above names d = on (inner ++ names) dir above d

  -- a link is followed alike, where names lead alike with one link fewer
  link_same : (left : ℕ) (last : Bool) → AllSame (resolve_from left last) (trees.resolve_from left tree last) →
      (link : ℕ) (target : List ℕ) (links dir : ℕ) (above names : List (List ℕ)) → node_at tree link ≡ Some (Link target links) → is_dir (node_at tree dir) ≡ true →
      Walks (follow_in left last (n.inode link) (n.inode dir) above names) (tree_follow_in left tree last link target dir above names)
  link_same left last on link target links dir above names is d =
      let follow : List ℕ → Ask Resolution = λ target. at_target (resolve_from left last) (trees.is_absolute target) (path_of (trees.target_text target)) (n.inode dir) above names in
      let walk : trees.Resolution = trees.at_target (trees.resolve_from left tree last) (trees.is_absolute target) (path_of (trees.target_text target)) dir above names in
      let after : Walks (with_target follow (s.inode (n.inode link))) walk =
      subst (λ (z : Option StoredNode). Walks (with_target follow z) walk) (sym (inode_is s (node_at tree) n of.pictures link (Link target links) is))
      (target_same (resolve_from left last) (trees.resolve_from left tree last) on (trees.is_absolute target) (path_of (trees.target_text target)) dir above names d) in
      passed s tree n of link (ReadInode (n.inode link) (with_target follow)) walk after.leads
      (on_inode tree n link (link ∷ walk.trail) (ap is_some is) (has_head link walk.trail), on_behind tree n link walk.trail (looks (with_target follow (s.inode (n.inode link))) s) after.looked)

  from_same : (left : ℕ) (last : Bool) → AllSame (resolve_from left last) (trees.resolve_from left tree last)
  from_same zero last names dir above d =
      names_same s tree n of last (λ link holder over rest. refused reply.Loop) (λ link target holder over rest. trees.refused reply.Loop) (λ link target links dir above names is d. record { leads = refl; looked = tt }) names dir above d
  from_same (suc left) last names dir above d = names_same s tree n of last (follow_in left last) (tree_follow_in left tree last) (link_same left last (from_same left last)) names dir above d

  -- a path from the root
  pub path_same : (last : Bool) (path : List (List ℕ)) → IsWalk s tree n of (resolve last path) (trees.resolve tree last path)
  unfolding resolve trees.resolve
  path_same last path = subst (λ i. Walks (resolve_from LINKS_FOLLOWED_MAX last i [] path) (trees.resolve_from LINKS_FOLLOWED_MAX tree last 0 [] path)) of.root (from_same LINKS_FOLLOWED_MAX last path 0 [] of.well_formed.rooted)

pub resolutions_lead : ResolutionsLeadAsTheTreeDoes
resolutions_lead s tree n last path of = (path_same s tree n of last path).leads
