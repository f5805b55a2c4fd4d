-- An operation comes to the same over the disk of a tree as in the tree.
use Rattle.std.proofs.Common.{◌≡◌, ℕ, ◌||◌, not, Bool, true, false, Option, Some, None, List, [], ◌∷◌, ◌++◌, map, nat_eq, refl, sym, ◌∙◌, ap, ap₂, subst, is_some}
use Rattle.std.proofs.lemmas.List.{map-append}
use Rattle.std.proofs.lemmas.List.Elements.{Contains-append_left, Contains-append_right}
use Rattle.std.specs.List.{Contains}
use Rattle.frang_base.specs.declared.op.Op.{Op}
use Rattle.frang_base.specs.declared.op.Op.TheVariants as op
use Rattle.tree_definitions.specs.declared.node.Node.{Node}
use Rattle.tree_definitions.specs.declared.node.Node.TheVariants.{Dir, File, Link}
use Rattle.tree_definitions.specs.Apply.{is_dir}
use Rattle.tree_definitions.specs.Tree.{FileTree, node_at}
use Rattle.tree_definitions.specs.Resolve as trees
use Rattle.tree_definitions.specs.Perform.{Resolved}
use Rattle.tree_definitions.specs.Perform as performs
use Rattle.tree_laws.proofs.Following.{finds_what_is_there}
use Rattle.tree_laws.proofs.FreshLaws.{walkable}
use Rattle.disk_definitions.specs.Store.{Store}
use Rattle.disk_definitions.specs.Naming.{Naming}
use Rattle.disk_definitions.specs.Ask.{Ask, run, looks}
use Rattle.disk_definitions.specs.Meets.{IsOfTree}
use Rattle.plan_laws.proofs.Asking.{run-bind}
use Rattle.disk_definitions.specs.Resolving.{Resolution, resolve}
use Rattle.disk_definitions.specs.Lines.{step_of, by_path, by_second, by_first, over_path, over_paths, as_it_stands, resolved}
use Rattle.line_laws.specs.Resolutions.{LinesComeToWhatTheTreeHas, end_by, resolved_by}
use Rattle.line_laws.proofs.Looked.{AreOnTrail, on_longer, on_bind, on_got}
use Rattle.line_laws.proofs.Names.{IsWalk}
use Rattle.line_laws.proofs.Links.{path_same}

module _ (s : Store) (tree : FileTree) (n : Naming) (of : IsOfTree s tree n) where
  step_same : (end : trees.WalkEnd) (make : List (List ℕ) → Op) → step_of (end_by n end) make ≡ performs.step_of end make
  step_same (trees.At path found) make = refl
  step_same (trees.Refused r) make = refl

  -- a line over the store comes to what it comes to in the tree, and its walks look at sectors of the nodes on its trail
  pub record IsLine (ask : Ask Resolved) (walked : Resolved) : Type 0 where
    pub comes : run ask s ≡ resolved_by n walked
    pub looked : AreOnTrail tree n walked.trail (looks ask s)

  -- an operation over one path
  one_path : (last : Bool) (path : List (List ℕ)) (make : List (List ℕ) → Op) → IsLine (over_path last path make) (performs.by_path (trees.resolve tree last path) make)
  one_path last path make =
      let walk : trees.Resolution = trees.resolve tree last path in
      let same = path_same s tree n of last path in
      record {
        comes = run-bind (resolve last path) (by_path [] make) s ∙ ap (λ (w : Resolution). record { step = step_of w.end make; trail = w.trail }) same.leads
            ∙ ap (λ z. record { step = z; trail = map n.inode walk.trail }) (step_same walk.end make);
        looked = on_got tree n s walk.trail (resolve last path) (λ w. record { step = step_of w.end make; trail = w.trail }) same.looked;
      }

  -- a directory is told by its kind
  kind_same : (b : ℕ) (o : Option Node) → node_at tree b ≡ o → is_some o ≡ true → nat_eq (n.kind b) 2 ≡ is_dir o
  kind_same b (Some (Dir entries blocks)) is there = ap (λ k. nat_eq k 2) (of.pictures.kinds b (Dir entries blocks) is)
  kind_same b (Some (File cells links when)) is there = ap (λ k. nat_eq k 2) (of.pictures.kinds b (File cells links when) is)
  kind_same b (Some (Link target links)) is there = ap (λ k. nat_eq k 2) (of.pictures.kinds b (Link target links) is)
  kind_same b None is there = absurd (cc)

  module _ (dirs : Bool) (path to : List (List ℕ)) (make : List (List ℕ) → List (List ℕ) → Op) where
    second_same : (c : Bool) (trail : List ℕ) (p : List (List ℕ)) → IsLine (by_second c (map n.inode trail) to (make p)) (performs.by_second c trail (trees.resolve tree false to) to (make p))
    second_same true trail p =
        let walk : trees.Resolution = trees.resolve tree false to in
        let same = path_same s tree n of false to in
        record {
          comes = run-bind (resolve false to) (by_path (map n.inode trail) (make p)) s
              ∙ ap (λ (w : Resolution). record { step = step_of w.end (make p); trail = map n.inode trail ++ w.trail }) same.leads
              ∙ ap₂ (λ z t. record { step = z; trail = t }) (step_same walk.end (make p)) (sym (map-append n.inode trail walk.trail));
          looked = on_got tree n s (trail ++ walk.trail) (resolve false to) (λ w. record { step = step_of w.end (make p); trail = map n.inode trail ++ w.trail })
              (on_longer tree n walk.trail (trail ++ walk.trail) (λ b h. Contains-append_right trail walk.trail b h) (looks (resolve false to) s) same.looked);
        }
    second_same false trail p = record { comes = refl; looked = tt }

    first_same : (end : trees.WalkEnd) (trail : List ℕ) → ((path : List (List ℕ)) (b : ℕ) → end ≡ trees.At path (Some b) → is_some (node_at tree b) ≡ true) →
        IsLine (by_first dirs to make (end_by n end) (map n.inode trail)) (performs.by_first tree dirs end trail (trees.resolve tree false to) to make)
    first_same (trees.Refused r) trail there = record { comes = refl; looked = tt }
    first_same (trees.At p None) trail there = second_same false trail p
    first_same (trees.At p (Some b)) trail there =
        subst (λ c. IsLine (by_second (dirs || not c) (map n.inode trail) to (make p)) (performs.by_second (dirs || not (is_dir (node_at tree b))) trail (trees.resolve tree false to) to (make p)))
        (sym (kind_same b (node_at tree b) refl (there p b refl))) (second_same (dirs || not (is_dir (node_at tree b))) trail p)

    in_second : (c : Bool) (trail : List ℕ) (p : List (List ℕ)) (b : ℕ) → Contains trail b → Contains (performs.by_second c trail (trees.resolve tree false to) to (make p)).trail b
    in_second true trail p b h = Contains-append_left trail (trees.resolve tree false to).trail b h
    in_second false trail p b h = h

    in_first : (end : trees.WalkEnd) (trail : List ℕ) (b : ℕ) → Contains trail b → Contains (performs.by_first tree dirs end trail (trees.resolve tree false to) to make).trail b
    in_first (trees.At p found) trail b h = in_second (performs.is_found tree dirs found) trail p b h
    in_first (trees.Refused r) trail b h = h

    -- an operation over two paths
    two_paths : IsLine (over_paths dirs path to make) (performs.by_paths tree dirs (trees.resolve tree false path) (trees.resolve tree false to) to make)
    two_paths = record {
      comes = run-bind (resolve false path) (λ w. by_first dirs to make w.end w.trail) s ∙ ap (λ (w : Resolution). run (by_first dirs to make w.end w.trail) s) same.leads ∙ after.comes;
      looked = on_bind tree n s walked.trail (resolve false path) (λ w. by_first dirs to make w.end w.trail)
          (on_longer tree n walk.trail walked.trail (in_first walk.end walk.trail) (looks (resolve false path) s) same.looked)
          (subst (λ (w : Resolution). AreOnTrail tree n walked.trail (looks (by_first dirs to make w.end w.trail) s)) (sym same.leads) after.looked);
    }
      where
        walk : trees.Resolution
        walk = trees.resolve tree false path

        walked : Resolved
        walked = performs.by_paths tree dirs walk (trees.resolve tree false to) to make

        same : IsWalk s tree n of (resolve false path) walk
        same = path_same s tree n of false path

        after : IsLine (by_first dirs to make (end_by n walk.end) (map n.inode walk.trail)) walked
        after = first_same walk.end walk.trail (λ p b e. finds_what_is_there tree false path p b (walkable tree of.well_formed) e)

  as_it_is : (o : Op) → IsLine (as_it_stands o) (performs.goes o)
  as_it_is o = record { comes = refl; looked = tt }

  -- each operation
  pub line_same : (o : Op) → IsLine (resolved o) (performs.resolved tree o)
  line_same (op.Create path) = one_path false path (λ p. op.Create p)
  line_same (op.Mkdir path) = one_path false path (λ p. op.Mkdir p)
  line_same (op.Symlink path target) = one_path false path (λ p. op.Symlink p target)
  line_same (op.Link path to) = two_paths false path to (λ p q. op.Link p q)
  line_same (op.Unlink path) = one_path false path (λ p. op.Unlink p)
  line_same (op.Rmdir path) = one_path false path (λ p. op.Rmdir p)
  line_same (op.Rename [] to) = as_it_is (op.Rename [] to)
  line_same (op.Rename (name ∷ names) []) = as_it_is (op.Rename (name ∷ names) [])
  line_same (op.Rename (name ∷ names) (new ∷ news)) = two_paths true (name ∷ names) (new ∷ news) (λ p q. op.Rename p q)
  line_same (op.Write path off bytes) = one_path true path (λ p. op.Write p off bytes)
  line_same (op.Fill path off len byte) = one_path true path (λ p. op.Fill p off len byte)
  line_same (op.Truncate path len) = one_path true path (λ p. op.Truncate p len)
  line_same (op.Read path off len) = one_path true path (λ p. op.Read p off len)
  line_same (op.Stat path) = one_path false path (λ p. op.Stat p)
  line_same (op.List path) = one_path true path (λ p. op.List p)
  line_same (op.Readlink path) = one_path false path (λ p. op.Readlink p)
  line_same (op.Time path) = one_path true path (λ p. op.Time p)
  line_same op.Sync = as_it_is op.Sync
  line_same op.Mount = as_it_is op.Mount
  line_same op.Unmount = as_it_is op.Unmount
  line_same op.Crash = as_it_is op.Crash
  line_same (op.CrashAt k) = as_it_is (op.CrashAt k)
  line_same (op.CutAt k) = as_it_is (op.CutAt k)
  line_same op.Stall = as_it_is op.Stall

pub comes_to : LinesComeToWhatTheTreeHas
comes_to o s tree n of = (line_same s tree n of o).comes
