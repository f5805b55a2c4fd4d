-- What a walk goes through is there: a name is looked up in a directory that is there, and a link that is followed is one.
use Rattle.std.proofs.Common.{ℕ, zero, suc, ◌≡◌, ◌==◌, ◌||◌, ⊎_elim, inl, inr, Bool, true, false, not, if◌then◌else◌, is_some, Option, Some, None, Result, Ok, Err, List, [], ◌∷◌, ◌++◌, refl, ap, subst}
use Rattle.std.specs.List.{list_any}
use Rattle.std.proofs.lemmas.Bool.{and_parts, eqb-true, or_cases}
use Rattle.frang_base.specs.PathText.{path_of}
use Rattle.frang_base.specs.declared.fault.PathFault.{PathFault}
use Rattle.frang_base.specs.declared.limits.TheConstants.{LINKS_FOLLOWED_MAX}
use Rattle.frang_base.specs.declared.op.Op.{Op}
use Rattle.frang_base.specs.declared.op.Op.TheVariants as op
use Rattle.frang_base.specs.declared.reply.Reply.{Reply}
use Rattle.frang_base.specs.declared.reply.Reply.TheVariants as reply
use Rattle.tree_definitions.specs.declared.node.Node.{Node}
use Rattle.tree_definitions.specs.declared.node.Node.TheVariants.{Dir, File, Link}
use Rattle.tree_definitions.specs.Entries.{entry_at}
use Rattle.tree_definitions.specs.History.{is_answer}
use Rattle.tree_definitions.specs.Perform.{Step, Goes, Stops, by_first, by_paths, by_second, is_found, resolved}
use Rattle.tree_definitions.specs.Place.{Place, Root, Taken, Free, Nowhere, place, place_by, place_in, walked, walked_by, walked_from}
use Rattle.tree_definitions.specs.Resolve.{Resolution, WalkEnd, At, Refused, at_entry, at_name, at_target, below_node, is_absolute, passes, refused, resolve, resolve_from, resolve_names, target_text}
use Rattle.tree_definitions.specs.Touched.{any_node, changes, dir_node, file_node, further, link_node, looked_in, reached, reached_if, then_walked, visited}
use Rattle.tree_definitions.specs.Tree.{FileTree, node_at}
use Rattle.known_laws.specs.There.{TouchedAreThere}

module _ (tree : FileTree) where
  abbrev AllThere : List ℕ → Type 0
  AllThere [] = Unit {0}
  AllThere (b ∷ bs) = (is_some (node_at tree b) ≡ true) × AllThere bs

  both_there : (xs ys : List ℕ) → AllThere xs → AllThere ys → AllThere (xs ++ ys)
  both_there [] ys a b = b
  both_there (x ∷ xs) ys a b = (a.0, both_there xs ys a.1 b)

  one_there : (b : ℕ) (xs : List ℕ) → AllThere xs → list_any (λ x. x == b) xs ≡ true → is_some (node_at tree b) ≡ true
  one_there b [] all e = absurd (cc)
  one_there b (x ∷ xs) all e =
      ⊎_elim (λ here. subst (λ k. is_some (node_at tree k) ≡ true) (eqb-true x b here) all.0) (λ rest. one_there b xs all.1 rest) (or_cases (x == b) (list_any (λ x. x == b) xs) e)

  -- ---- walks through links

  abbrev Follow : Type 0
  Follow = ℕ → List ℕ → ℕ → List (List ℕ) → List (List ℕ) → Resolution

  abbrev FollowsThere : Follow → Type 0
  FollowsThere follow = (link : ℕ) (target : List ℕ) (holder : ℕ) (over rest : List (List ℕ)) → is_some (node_at tree link) ≡ true → AllThere (follow link target holder over rest).trail

  entry_there : (last : Bool) (follow : List ℕ → Resolution) (into : Resolution) (here : List (List ℕ)) (birth : ℕ) (names : List (List ℕ)) (o : Option Node) → node_at tree birth ≡ o →
      ((target : List ℕ) → is_some (node_at tree birth) ≡ true → AllThere (follow target).trail) → AllThere into.trail → AllThere (at_entry last follow into here birth names o).trail
  entry_there true follow into here birth [] (Some (Link target links)) is goes deep = goes target (ap is_some is)
  entry_there false follow into here birth [] (Some (Link target links)) is goes deep = tt
  entry_there last follow into here birth [] (Some (Dir entries blocks)) is goes deep = tt
  entry_there last follow into here birth [] (Some (File cells links when)) is goes deep = tt
  entry_there last follow into here birth [] None is goes deep = tt
  entry_there last follow into here birth (name ∷ names) (Some (Link target links)) is goes deep = goes target (ap is_some is)
  entry_there last follow into here birth (name ∷ names) (Some (Dir entries blocks)) is goes deep = deep
  entry_there last follow into here birth (name ∷ names) (Some (File cells links when)) is goes deep = tt
  entry_there last follow into here birth (name ∷ names) None is goes deep = tt

  name_there : (last : Bool) (follow : ℕ → List ℕ → Resolution) (into : ℕ → Resolution) (here names : List (List ℕ)) (found : Option ℕ) →
      ((link : ℕ) (target : List ℕ) → is_some (node_at tree link) ≡ true → AllThere (follow link target).trail) → ((birth : ℕ) → AllThere (into birth).trail) →
      AllThere (at_name tree last follow into here names found).trail
  name_there last follow into here names (Some birth) goes deep =
      entry_there last (follow birth) (into birth) here birth names (node_at tree birth) refl (λ target there. goes birth target there) (deep birth)
  name_there last follow into here [] None goes deep = tt
  name_there last follow into here (name ∷ names) None goes deep = tt

  node_there : (last : Bool) (follow : ℕ → List ℕ → Resolution) (into : ℕ → Resolution) (here : List (List ℕ)) (dir : ℕ) (name : List ℕ) (names : List (List ℕ)) (o : Option Node) →
      node_at tree dir ≡ o → ((link : ℕ) (target : List ℕ) → is_some (node_at tree link) ≡ true → AllThere (follow link target).trail) → ((birth : ℕ) → AllThere (into birth).trail) →
      AllThere (below_node tree last follow into here dir name names o).trail
  node_there last follow into here dir name names (Some (Dir entries blocks)) is goes deep = (ap is_some is, name_there last follow into here names (entry_at entries name) goes deep)
  node_there last follow into here dir name names (Some (File cells links when)) is goes deep = tt
  node_there last follow into here dir name names (Some (Link target links)) is goes deep = tt
  node_there last follow into here dir name names None is goes deep = tt

  names_there : (last : Bool) (follow : Follow) → FollowsThere follow → (names : List (List ℕ)) (dir : ℕ) (above : List (List ℕ)) → AllThere (resolve_names tree last follow dir above names).trail
  names_there last follow goes [] dir above = tt
  names_there last follow goes (name ∷ names) dir above =
      node_there last (λ link target. follow link target dir above names) (λ birth. resolve_names tree last follow birth (above ++ name ∷ []) names) (above ++ name ∷ []) dir name names
      (node_at tree dir) refl (λ link target there. goes link target dir above names there) (λ birth. names_there last follow goes names birth (above ++ name ∷ []))

  target_there : (next : ℕ → List (List ℕ) → List (List ℕ) → Resolution) → ((dir : ℕ) (above names : List (List ℕ)) → AllThere (next dir above names).trail) → (absolute : Bool)
      (path : Result (List (List ℕ)) PathFault) (dir : ℕ) (above names : List (List ℕ)) → AllThere (at_target next absolute path dir above names).trail
  target_there next all absolute (Err fault) dir above names = tt
  target_there next all true (Ok inner) dir above names = all 0 [] (inner ++ names)
  target_there next all false (Ok inner) dir above names = all dir above (inner ++ names)

  from_there : (left : ℕ) (last : Bool) (dir : ℕ) (above names : List (List ℕ)) → AllThere (resolve_from left tree last dir above names).trail
  from_there zero last dir above names = names_there last (λ link target holder over rest. refused reply.Loop) (λ link target holder over rest there. tt) names dir above
  from_there (suc left) last dir above names =
      names_there last (λ link target holder over rest. passes link (at_target (resolve_from left tree last) (is_absolute target) (path_of (target_text target)) holder over rest))
      (λ link target holder over rest there.
      (there, target_there (resolve_from left tree last) (from_there left last) (is_absolute target) (path_of (target_text target)) holder over rest)) names dir above

  path_there : (last : Bool) (path : List (List ℕ)) → AllThere (resolve tree last path).trail
  unfolding resolve
  path_there last path = from_there LINKS_FOLLOWED_MAX last 0 [] path

  -- ---- the walks of an operation

  first_there : (dirs : Bool) (end : WalkEnd) (trail : List ℕ) (walk : Resolution) (to : List (List ℕ)) (make : List (List ℕ) → List (List ℕ) → Op) → AllThere trail → AllThere walk.trail →
      AllThere (by_first tree dirs end trail walk to make).trail
  first_there dirs (Refused r) trail walk to make a b = a
  first_there dirs (At path found) trail walk to make a b = go (is_found tree dirs found)
    where
      go : (t : Bool) → AllThere (by_second t trail walk to (make path)).trail
      go true = both_there trail walk.trail a b
      go false = a

  paths_there : (dirs : Bool) (path to : List (List ℕ)) (make : List (List ℕ) → List (List ℕ) → Op) → AllThere (by_paths tree dirs (resolve tree false path) (resolve tree false to) to make).trail
  paths_there dirs path to make = first_there dirs (resolve tree false path).end (resolve tree false path).trail (resolve tree false to) to make (path_there false path) (path_there false to)

  trail_there : (o : Op) → AllThere (resolved tree o).trail
  trail_there (op.Create path) = path_there false path
  trail_there (op.Mkdir path) = path_there false path
  trail_there (op.Symlink path target) = path_there false path
  trail_there (op.Link path to) = paths_there false path to (λ p q. op.Link p q)
  trail_there (op.Unlink path) = path_there false path
  trail_there (op.Rmdir path) = path_there false path
  trail_there (op.Rename [] to) = tt
  trail_there (op.Rename (name ∷ names) []) = tt
  trail_there (op.Rename (name ∷ names) (new ∷ news)) = paths_there true (name ∷ names) (new ∷ news) (λ p q. op.Rename p q)
  trail_there (op.Write path off bytes) = path_there true path
  trail_there (op.Fill path off len byte) = path_there true path
  trail_there (op.Truncate path len) = path_there true path
  trail_there (op.Read path off len) = path_there true path
  trail_there (op.Stat path) = path_there false path
  trail_there (op.List path) = path_there true path
  trail_there (op.Readlink path) = path_there false path
  trail_there (op.Time path) = path_there true path
  trail_there op.Sync = tt
  trail_there op.Mount = tt
  trail_there op.Unmount = tt
  trail_there op.Crash = tt
  trail_there (op.CrashAt k) = tt
  trail_there (op.CutAt k) = tt
  trail_there op.Stall = tt

  -- ---- the walks over a path without links

  looked_there : (dir : ℕ) (name : List ℕ) (o : Option Node) → node_at tree dir ≡ o → (next : ℕ → List ℕ) → ((birth : ℕ) → AllThere (next birth)) → AllThere (walked_by (place_in o dir name) dir next)
  looked_there dir name (Some (Dir entries blocks)) is next all = go (entry_at entries name)
    where
      go : (found : Option ℕ) → AllThere (walked_by (place_by dir entries blocks name found) dir next)
      go (Some birth) = (ap is_some is, all birth)
      go None = (ap is_some is, tt)
  looked_there dir name (Some (File cells links when)) is next all = tt
  looked_there dir name (Some (Link target links)) is next all = tt
  looked_there dir name None is next all = tt

  walk_there : (names : List (List ℕ)) (birth : ℕ) → AllThere (walked_from tree birth names)
  walk_there [] birth = tt
  walk_there (name ∷ names) birth = looked_there birth name (node_at tree birth) refl (λ b. walked_from tree b names) (λ b. walk_there names b)

  walked_there : (path : List (List ℕ)) → AllThere (walked tree path)
  walked_there path = walk_there path 0

  if_there : (wanted : Node → Bool) (birth : ℕ) (o : Option Node) → node_at tree birth ≡ o → AllThere (reached_if wanted birth o)
  if_there wanted birth None is = tt
  if_there wanted birth (Some node) is = go (wanted node)
    where
      go : (b : Bool) → AllThere (if b then birth ∷ [] else [])
      go true = (ap is_some is, tt)
      go false = tt

  reached_there : (wanted : Node → Bool) (p : Place) → AllThere (reached tree wanted p)
  reached_there wanted Root = if_there wanted 0 (node_at tree 0) refl
  reached_there wanted (Taken dir entries blocks name birth) = if_there wanted birth (node_at tree birth) refl
  reached_there wanted (Free dir entries blocks name) = tt
  reached_there wanted (Nowhere r) = tt

  then_there : (found : List ℕ) (to : List (List ℕ)) → AllThere (then_walked tree found to)
  then_there [] to = tt
  then_there (b ∷ found) to = walked_there to

  in_there : (o : Op) → AllThere (looked_in tree o)
  in_there (op.Create path) = walked_there path
  in_there (op.Mkdir path) = walked_there path
  in_there (op.Symlink path target) = walked_there path
  in_there (op.Link path to) =
      both_there (walked tree path) (then_walked tree (reached tree (λ n. not (dir_node n)) (place tree path)) to) (walked_there path)
      (then_there (reached tree (λ n. not (dir_node n)) (place tree path)) to)
  in_there (op.Unlink path) = walked_there path
  in_there (op.Rmdir path) = walked_there path
  in_there (op.Rename [] to) = tt
  in_there (op.Rename (n ∷ ns) []) = tt
  in_there (op.Rename (n ∷ ns) (m ∷ ms)) =
      both_there (walked tree (n ∷ ns)) (then_walked tree (reached tree any_node (place tree (n ∷ ns))) (m ∷ ms)) (walked_there (n ∷ ns))
      (then_there (reached tree any_node (place tree (n ∷ ns))) (m ∷ ms))
  in_there (op.Write path off bytes) = walked_there path
  in_there (op.Fill path off len byte) = walked_there path
  in_there (op.Truncate path len) = walked_there path
  in_there (op.Read path off len) = walked_there path
  in_there (op.Stat path) = walked_there path
  in_there (op.List path) = walked_there path
  in_there (op.Readlink path) = walked_there path
  in_there (op.Time path) = walked_there path
  in_there op.Sync = tt
  in_there op.Mount = tt
  in_there op.Unmount = tt
  in_there op.Crash = tt
  in_there (op.CrashAt k) = tt
  in_there (op.CutAt k) = tt
  in_there op.Stall = tt

  further_there : (o : Op) (r : Reply) → AllThere (further tree o r)
  further_there (op.Stat path) r = reached_there any_node (place tree path)
  further_there (op.Time path) r = reached_there any_node (place tree path)
  further_there (op.Link path to) reply.MLink = reached_there any_node (place tree path)
  further_there (op.Link path to) reply.DirFull = reached_there any_node (place tree path)
  further_there (op.Link path to) reply.NoDirBlock = reached_there any_node (place tree path)
  further_there (op.Rename path to) reply.NotEmpty = reached_there dir_node (place tree to)
  further_there (op.List path) r = reached_there dir_node (place tree path)
  further_there (op.Rmdir (n ∷ ns)) r = reached_there dir_node (place tree (n ∷ ns))
  further_there (op.Read path off len) r = reached_there file_node (place tree path)
  further_there (op.Write path off bytes) r = reached_there file_node (place tree path)
  further_there (op.Fill path off len byte) r = reached_there file_node (place tree path)
  further_there (op.Truncate path len) r = reached_there file_node (place tree path)
  further_there (op.Readlink path) r = reached_there link_node (place tree path)
  further_there o r = tt

  visited_there : (s : Step) (r : Reply) → AllThere (visited tree s r)
  visited_there (Goes o) r = both_there (looked_in tree o) (further tree o r) (in_there o) (further_there o r)
  visited_there (Stops q) r = tt

pub touched_are_there : TouchedAreThere
touched_are_there tree e b touched =
    let p = and_parts (is_answer tree e) (changes tree e b || list_any (λ x. x == b) ((resolved tree e.op).trail ++ visited tree (resolved tree e.op).step e.reply)) touched in
    ⊎_elim (λ changed. inr changed)
    (λ met. inl (one_there tree b ((resolved tree e.op).trail ++ visited tree (resolved tree e.op).step e.reply)
    (both_there tree (resolved tree e.op).trail (visited tree (resolved tree e.op).step e.reply) (trail_there tree e.op) (visited_there tree (resolved tree e.op).step e.reply)) met))
    (or_cases (changes tree e b) (list_any (λ x. x == b) ((resolved tree e.op).trail ++ visited tree (resolved tree e.op).step e.reply)) p.1)
