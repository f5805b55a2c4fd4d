-- The plan of list says the names of the directory, in the tree's order.
use Rattle.std.proofs.Common.{ℕ, ◌≡◌, ◌<◌, ◌+◌, ◌*◌, ◌==◌, Bool, true, false, ◌||◌, if◌then◌else◌, Some, List, [], ◌∷◌, map, fold, refl, sym, ◌∙◌, ap, subst, arith, is_some}
use Rattle.std.specs.Ordering.{nat_cmp}
use Rattle.std.specs.Cmp.Lexicographic.{slice_cmp}
use Rattle.std.specs.Map.{keys_of}
use Rattle.std.specs.BTreeMap.{is_at}
use Rattle.std.specs.List.Sorted.{IsStrictlySortedBy}
use mathlib.Core.Bool.{or-false, or-true}
use Rattle.frang_base.specs.declared.op.Op.TheVariants as op
use Rattle.frang_base.specs.declared.reply.Reply.TheVariants as reply
use Rattle.frang_base.proofs.Tests.{same_tests, some_there}
use Rattle.tree_definitions.specs.declared.node.Node.{Node}
use Rattle.tree_definitions.specs.declared.node.Node.TheVariants.{Dir, File, Link}
use Rattle.tree_definitions.specs.Entries.{Entries, entry_at, with_entry}
use Rattle.tree_definitions.specs.Tree.{FileTree, node_at}
use Rattle.tree_definitions.specs.Apply.{listed}
use Rattle.tree_definitions.proofs.Pairs.{name_exact, tie, self, found_put, found_other, sorted_put}
use Rattle.tree_laws.proofs.StepsLaws.{apply_keeps}
use Rattle.disk_definitions.specs.Store.{Store, StoredEntry}
use Rattle.disk_definitions.specs.Naming.{Naming, find_in, room_in, first_blocks, entry_of, dir_place, kind_of}
use Rattle.disk_definitions.specs.Ask.{run}
use Rattle.disk_definitions.specs.Plans.{Hand, refused, refuse}
use Rattle.disk_definitions.specs.LookPlans.{at_inode, sorted_names, listing}
use Rattle.disk_definitions.specs.Meets.{IsOfTree}
use Rattle.plan_laws.specs.Keeping.{PlanKeeps}
use Rattle.plan_laws.proofs.Spots.{as_inode}
use Rattle.plan_laws.proofs.Cases.{inode_by}
use Rattle.plan_laws.proofs.Refusing.{Meets, refuse_meets}
use Rattle.plan_laws.specs.FilesPlanned.{ListIsPlanned}
use Rattle.plan_laws.proofs.Aiming.{target_of, at_inode_meets, node_meets}
use Rattle.plan_laws.proofs.Ordered.{same_keys}
use Rattle.plan_laws.proofs.Gathering.{gathered, run-entries, has_name, gathered_has, gathered_from}

-- the names of entries, put in order one after another
abbrev put_in_order : Entries → List StoredEntry → Entries
put_in_order acc xs = fold (λ sorted e. with_entry sorted e.name 0) acc xs

ordered : (xs : List StoredEntry) (acc : Entries) → IsStrictlySortedBy (slice_cmp nat_cmp) (keys_of acc) → IsStrictlySortedBy (slice_cmp nat_cmp) (keys_of (put_in_order acc xs))
ordered [] acc s = s
ordered (x ∷ xs) acc s = ordered xs (with_entry acc x.name 0) (sorted_put (slice_cmp nat_cmp) name_exact acc x.name 0 s)

one_named : (acc : Entries) (name m : List ℕ) (rest : Bool) → (is_some (entry_at (with_entry acc name 0) m) || rest) ≡ (is_some (entry_at acc m) || (is_at (slice_cmp nat_cmp m) name || rest))
one_named acc name m rest = go (is_at (slice_cmp nat_cmp m) name) refl
  where
    go : (b : Bool) → is_at (slice_cmp nat_cmp m) name ≡ b → (is_some (entry_at (with_entry acc name 0) m) || rest) ≡ (is_some (entry_at acc m) || (b || rest))
    go true q =
        let i : m ≡ name = tie (slice_cmp nat_cmp) name_exact m name q in
        let a : is_some (entry_at (with_entry acc name 0) m) ≡ true = ap (λ z. is_some (entry_at (with_entry acc name 0) z)) i ∙ ap is_some (found_put (slice_cmp nat_cmp) name_exact acc name 0) in
        ap (λ b. b || rest) a ∙ sym (or-true (is_some (entry_at acc m)))
    go false q = ap (λ o. is_some o || rest) (found_other (slice_cmp nat_cmp) name_exact acc name 0 m
        (λ i. let z : is_at (slice_cmp nat_cmp m) name ≡ true = subst (λ w. is_at (slice_cmp nat_cmp m) w ≡ true) i (self (slice_cmp nat_cmp) name_exact m) in cc))

in_order_has : (m : List ℕ) (xs : List StoredEntry) (acc : Entries) → is_some (entry_at (put_in_order acc xs) m) ≡ (is_some (entry_at acc m) || has_name m xs)
in_order_has m [] acc = sym (or-false (is_some (entry_at acc m)))
in_order_has m (x ∷ xs) acc = in_order_has m xs (with_entry acc x.name 0) ∙ one_named acc x.name m (has_name m xs)

none_ordered : IsStrictlySortedBy (slice_cmp nat_cmp) []
unfolding IsStrictlySortedBy
none_ordered = tt

module _ (h : Hand) (s : Store) (tree : FileTree) (n : Naming) (of : IsOfTree s tree n) where
  module _ (d blocks : ℕ) (entries : Entries) (is : node_at tree d ≡ Some (Dir entries blocks)) where
    abbrev all : List StoredEntry
    all = gathered s (first_blocks blocks (n.block d)) 0 (8 * blocks)

    size : 7 * (0 + 8 * blocks) ≡ 56 * blocks
    size = omega arith

    has_named : (m : List ℕ) → is_some (entry_at entries m) ≡ true → has_name m all ≡ true
    has_named m e =
        let b = some_there (entry_at entries m) e in
        let r = of.pictures.names d b.0 m (rw is b.1) in
        let l : n.spot d m < 56 * blocks = subst (λ y. n.spot d m < 56 * room_in y) is r.0 in
        gathered_has m s (first_blocks blocks (n.block d)) (8 * blocks) 0 (n.spot d m) (entry_of n m b.0) (omega arith) (omega arith)
        (as_inode s (node_at tree) n of.pictures d blocks (n.spot d m) l ∙ r.1) refl

    is_named : (m : List ℕ) → has_name m all ≡ true → is_some (entry_at entries m) ≡ true
    is_named m e =
        let r = gathered_from m s (first_blocks blocks (n.block d)) (8 * blocks) 0 e in
        let l : r.spot < 56 * blocks = subst (λ k. r.spot < k) size r.to in
        let p : dir_place s n d r.spot ≡ Some r.entry = sym (as_inode s (node_at tree) n of.pictures d blocks r.spot l) ∙ r.stands in
        let w : is_some (find_in (node_at tree d) r.entry.name) ≡ true = (of.pictures.places d r.spot r.entry (rw is l) p).1 in
        ap (λ z. is_some (entry_at entries z)) r.named ∙ subst (λ y. is_some (find_in y r.entry.name) ≡ true) is w

    pub names_are : sorted_names all ≡ map (λ e. e.0) entries
    names_are = same_keys (slice_cmp nat_cmp) name_exact (put_in_order [] all) entries (ordered all [] none_ordered) (of.well_formed.names d entries blocks is)
        (λ m. in_order_has m all [] ∙ same_tests (has_name m all) (is_some (entry_at entries m)) (is_named m) (has_named m))

    pub listing_meets : (touched : List ℕ) → PlanKeeps h s tree n (listed tree (Some (Dir entries blocks))) (run (listing touched (inode_by n d (Dir entries blocks))) s)
    listing_meets touched =
        let e : run (listing touched (inode_by n d (Dir entries blocks))) s ≡ refuse (reply.Names (map (λ e. e.0) entries)) touched =
        run-entries s (first_blocks blocks (n.block d)) 0 (8 * blocks) (λ entries. refused (reply.Names (sorted_names entries)) touched) ∙ ap (λ l. refuse (reply.Names l) touched) names_are in
        subst (PlanKeeps h s tree n (listed tree (Some (Dir entries blocks)))) (sym e) (refuse_meets h s tree n of (reply.Names (map (λ e. e.0) entries)) touched)

  listed_meets : (dirs : List ℕ) (b : ℕ) (node : Node) → node_at tree b ≡ Some node →
      Meets h s tree n (listed tree (Some node)) (run (if kind_of node == 2 then at_inode listing (target_of h s tree n of dirs b (kind_of node)) else refused reply.NotDir dirs) s)
  listed_meets dirs b (Dir entries blocks) is = at_inode_meets h s tree n of listing (listed tree (Some (Dir entries blocks))) b 2 (Dir entries blocks) is (λ touched well. listing_meets b blocks entries is touched) dirs
  listed_meets dirs b (File cells links when) is = λ well. refuse_meets h s tree n of reply.NotDir dirs
  listed_meets dirs b (Link target links) is = λ well. refuse_meets h s tree n of reply.NotDir dirs

pub list_planned : ListIsPlanned
list_planned path h s tree n birth when m of hand new =
    node_meets h s tree n of (λ t. if t.kind == 2 then at_inode listing t else refused reply.NotDir t.dirs) (λ b node. listed tree node) (listed_meets h s tree n of) path (apply_keeps tree (op.List path) birth when m of.well_formed new)
