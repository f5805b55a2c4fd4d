-- The plan of rename onto a name that is there: the old name goes, the place of the new one names the moved node, and the node that was named there has a
-- link fewer.
use Rattle.std.proofs.Common.{ℕ, ◌≡◌, ◌≢◌, ◌<◌, Bool, true, false, not, ◌&&◌, ⊎_elim, Option, Some, None, List, [], ◌∷◌, ◌++◌, length, nat_eq, nat_lt, if◌then◌else◌, refl, sym, ◌∙◌, ap, subst, arith, is_some}
use Rattle.std.proofs.lemmas.Bool.{cases_eq, eqb-false}
use Rattle.std.proofs.lemmas.Bool.Decides.{nat_tests}
use Rattle.std.specs.Ordering.{nat_cmp}
use Rattle.std.specs.Cmp.Lexicographic.{slice_cmp}
use Rattle.frang_base.specs.declared.reply.Reply.TheVariants as reply
use Rattle.tree_definitions.specs.declared.node.Node.{Node}
use Rattle.tree_definitions.specs.declared.node.Node.TheVariants.{Dir, File, Link}
use Rattle.tree_definitions.specs.Entries.{Entries, entry_at, with_entry, without_entry}
use Rattle.tree_definitions.specs.Tree.{FileTree, node_at, with_node}
use Rattle.tree_definitions.specs.Apply.{Applied, says, is_dir, has_entries, one_link_fewer, name_gone, name_set, moved, moved_onto}
use Rattle.tree_definitions.specs.WellFormed.{IsWellFormed, put as put_node}
use Rattle.tree_definitions.proofs.Pairs.{name_exact, sorted_removed}
use Rattle.tree_laws.proofs.Nodes.{node_with, with_same, with_other, ascend_with}
use Rattle.tree_laws.proofs.Keeping.{names_nodes, never_root}
use Rattle.disk_definitions.specs.Store.{Store, StoredNode}
use Rattle.disk_definitions.specs.Naming.{Naming, find_in, entry_of}
use Rattle.disk_definitions.specs.Edits.{edited_all}
use Rattle.disk_definitions.specs.Changes.{take_entry, replace_entry}
use Rattle.disk_definitions.specs.Namings.{named_at}
use Rattle.disk_definitions.specs.ChangeLaws.{NamesDiffer, HasNoNames}
use Rattle.disk_definitions.proofs.Names.{names_go, names_are_taken}
use Rattle.disk_definitions.proofs.Puts.{edited_append}
use Rattle.disk_definitions.proofs.Kept.{inode_is}
use Rattle.disk_definitions.specs.Ask.{Ask, Got, ReadInode, run}
use Rattle.disk_definitions.specs.Plans.{Hand, Plan, refused}
use Rattle.disk_definitions.specs.Plans.Plan.{Finishes}
use Rattle.disk_definitions.specs.NamePlans.{Moving, fewer, fewer_segments, finish_over, moved_onto_by, replacing_node, moving_onto}
use Rattle.disk_definitions.specs.Meets.{IsOfTree}
use Rattle.plan_laws.specs.Keeping.{FinishKeeps}
use Rattle.plan_laws.proofs.Asking.{run-segments}
use Rattle.plan_laws.proofs.Cases.{inode_by, has_inode}
use Rattle.plan_laws.proofs.Refusing.{Meets, refuse_meets}
use Rattle.plan_laws.proofs.Stages.{IsStage, stage_of, of_stage, loses, replaces, restage}
use Rattle.plan_laws.proofs.Fewer.{IsOnTheWay, segments_fewer, fewer_leads}
use Rattle.plan_laws.proofs.Tests.{same_inode_test, kind_test}

-- what is moved, by the naming
abbrev pub moving_of : Naming → ℕ → ℕ → Entries → List ℕ → ℕ → Moving
moving_of n from blocks entries name b = record { dir = n.inode from; directory = inode_by n from (Dir entries blocks); slot = n.spot from name; entry = entry_of n name b }

-- the tree with the name moved
pub moved_is : (tree : FileTree) (from fblocks : ℕ) (fentries : Entries) (name : List ℕ) (to blocks : ℕ) (entries : Entries) (new : List ℕ) (b : ℕ) → node_at tree from ≡ Some (Dir fentries fblocks) →
    node_at (with_node tree from (Dir (without_entry fentries name) fblocks)) to ≡ Some (Dir entries blocks) →
    moved tree from name to new b ≡ with_node (with_node tree from (Dir (without_entry fentries name) fblocks)) to (Dir (with_entry entries new b) blocks)
moved_is tree from fblocks fentries name to blocks entries new b is at =
    let gone : name_gone tree from name (node_at tree from) ≡ with_node tree from (Dir (without_entry fentries name) fblocks) = ap (name_gone tree from name) is in
    ap (λ g. name_set g to new b (node_at g to)) gone ∙ ap (name_set (with_node tree from (Dir (without_entry fentries name) fblocks)) to new b) at

module _ (h : Hand) (s : Store) (tree : FileTree) (n : Naming) (of : IsOfTree s tree n) (dirs : List ℕ)
    (from fblocks : ℕ) (fentries : Entries) (name : List ℕ) (b : ℕ) (fis : node_at tree from ≡ Some (Dir fentries fblocks)) (fhad : entry_at fentries name ≡ Some b)
    (to blocks : ℕ) (entries : Entries) (new : List ℕ) (old : ℕ) (is : node_at tree to ≡ Some (Dir entries blocks)) (had : entry_at entries new ≡ Some old) where
  abbrev m : Moving
  m = moving_of n from fblocks fentries name b

  abbrev x : StoredNode
  x = inode_by n to (Dir entries blocks)

  -- the old name is gone
  abbrev mid : FileTree
  mid = with_node tree from (Dir (without_entry fentries name) fblocks)

  abbrev t : Store
  t = edited_all s (take_entry m.dir m.directory m.slot)

  first : IsStage t tree.segments (node_at mid) n
  first =
      let r = loses s tree.segments (node_at tree) n (stage_of s tree n of) from fblocks m.directory fentries (without_entry fentries name) name (has_inode s (node_at tree) n of.pictures from (Dir fentries fblocks) fis)
      (names_go fentries name (of.well_formed.names from fentries fblocks fis) (ap is_some fhad)) in
      restage t tree.segments (put_node (node_at tree) from (Some (Dir (without_entry fentries name) fblocks))) (node_at mid) n r.0 (node_with tree from (Dir (without_entry fentries name) fblocks))

  -- the directory of the new name then, which may be the same
  record IsTarget : Type 0 where
    left : Entries
    at : node_at mid to ≡ Some (Dir left blocks)
    found : entry_at left new ≡ Some old
    differ : NamesDiffer left

  target : old ≢ b → IsTarget
  target other = ⊎_elim same apart (cases_eq from to)
    where
      entries_of : Option Node → Entries
      entries_of (Some (Dir es k)) = es
      entries_of _ = []

      blocks_of : Option Node → ℕ
      blocks_of (Some (Dir es k)) = k
      blocks_of _ = 0

      same : from ≡ to → IsTarget
      same q =
          let z : Some (Dir fentries fblocks) ≡ Some (Dir entries blocks) = sym fis ∙ ap (node_at tree) q ∙ is in
          let es : fentries ≡ entries = ap entries_of z in
          let ks : fblocks ≡ blocks = ap blocks_of z in
          let sorted = of.well_formed.names from fentries fblocks fis in
          let here : entry_at fentries new ≡ Some old = ap (λ l. entry_at l new) es ∙ had in
          let far : new ≢ name = λ i. other (let v : Some old ≡ Some b = sym here ∙ ap (entry_at fentries) i ∙ fhad in cc) in
          record {
            left = without_entry fentries name;
            at = ap (node_at mid) (sym q) ∙ with_same tree from (Dir (without_entry fentries name) fblocks) ∙ ap (λ k. Some (Dir (without_entry fentries name) k)) ks;
            found = (names_go fentries name sorted (ap is_some fhad)).others new far ∙ here;
            differ = sorted_removed (slice_cmp nat_cmp) name_exact fentries name sorted;
          }

      apart : from ≢ to → IsTarget
      apart f = record { left = entries; at = with_other tree from (Dir (without_entry fentries name) fblocks) to (λ i. f (sym i)) ∙ is; found = had; differ = of.well_formed.names to entries blocks is }

  module _ (g : IsTarget) where
    -- the new name names the moved node
    abbrev end : FileTree
    end = with_node mid to (Dir (with_entry g.left new b) blocks)

    abbrev k : Naming
    k = named_at n to new (n.spot to new)

    abbrev u : Store
    u = edited_all t (replace_entry x (n.spot to new) (entry_of n new b))

    second : IsStage u tree.segments (node_at end) k
    second =
        let r = replaces t tree.segments (node_at mid) n first to blocks b (inode_by n to (Dir g.left blocks)) g.left (with_entry g.left new b) new new (has_inode t (node_at mid) n first.pictures to (Dir g.left blocks) g.at)
        (names_are_taken g.left new b g.differ (ap is_some g.found)) in
        restage u tree.segments (put_node (node_at mid) to (Some (Dir (with_entry g.left new b) blocks))) (node_at end) k r.0 (node_with mid to (Dir (with_entry g.left new b) blocks))

    result_is : moved tree from name to new b ≡ end
    result_is = moved_is tree from fblocks fentries name to blocks g.left new b fis g.at

    -- the node that was named there
    module _ (node : Node) (at : node_at tree old ≡ Some node) (bare : HasNoNames node) where
      not_from : old ≢ from
      not_from e =
          let z : Some node ≡ Some (Dir fentries fblocks) = sym at ∙ ap (node_at tree) e ∙ fis in
          let v : None ≡ Some b = sym (bare name) ∙ ap (λ o. find_in o name) z ∙ fhad in cc

      not_to : old ≢ to
      not_to e =
          let z : Some node ≡ Some (Dir entries blocks) = sym at ∙ ap (node_at tree) e ∙ is in
          let v : None ≡ Some old = sym (bare new) ∙ ap (λ o. find_in o new) z ∙ had in cc

      still_there : node_at end old ≡ Some node
      still_there = with_other mid to (Dir (with_entry g.left new b) blocks) old not_to ∙ with_other tree from (Dir (without_entry fentries name) fblocks) old not_from ∙ at

      third : IsOnTheWay (edited_all u (fewer (n.inode old) (inode_by n old node))) tree.segments (node_at (one_link_fewer end old (Some node))) k
      third = fewer_leads u tree.segments end k second
          (ascend_with mid to (Dir (with_entry g.left new b) blocks) (ascend_with tree from (Dir (without_entry fentries name) fblocks) of.well_formed.births))
          old (never_root tree of.well_formed to entries blocks new old is had) node still_there bare

      finished : IsWellFormed (one_link_fewer (moved tree from name to new b) old (Some node)) →
          FinishKeeps s tree n (says (one_link_fewer (moved tree from name to new b) old (Some node)) reply.Ok) (moved_onto_by m (n.inode to) x new (n.spot to new) (n.inode old) (inode_by n old node) dirs)
      finished = subst (λ r. IsWellFormed (one_link_fewer r old (Some node)) → FinishKeeps s tree n (says (one_link_fewer r old (Some node)) reply.Ok) (moved_onto_by m (n.inode to) x new (n.spot to new) (n.inode old) (inode_by n old node) dirs))
          (sym result_is) of_end
        where
          of_end : IsWellFormed (one_link_fewer end old (Some node)) → FinishKeeps s tree n (says (one_link_fewer end old (Some node)) reply.Ok) (moved_onto_by m (n.inode to) x new (n.spot to new) (n.inode old) (inode_by n old node) dirs)
          of_end well =
              let takes = take_entry m.dir m.directory m.slot in
              let puts = replace_entry x (n.spot to new) (entry_of n new b) in
              let less = fewer (n.inode old) (inode_by n old node) in
              let edits : edited_all s (takes ++ puts ++ less) ≡ edited_all u less = edited_append s (takes ++ puts) less ∙ ap (λ z. edited_all z less) (edited_append s takes puts) in
              record {
                meets = record {
                  answer = refl;
                  naming = third.naming;
                  tree = subst (λ z. IsOfTree z (one_link_fewer end old (Some node)) third.naming) (sym edits)
                      (of_stage (edited_all u less) tree.segments (node_at (one_link_fewer end old (Some node))) third.naming (one_link_fewer end old (Some node)) third.stage (λ c. refl) well (segments_fewer end old (Some node)) of.few);
                };
                inodes = λ c there stays. third.inodes c;
              }

  no_names : (es : Entries) → nat_lt 0 (length es) ≡ false → es ≡ []
  no_names [] e = refl
  no_names (a ∷ es) e = absurd (let l : 0 < length (a ∷ es) = omega arith in grind (arith, nat_tests))

  abbrev Replaces : Applied → Ask Plan → Type 0
  Replaces a p = Meets h s tree n a (run p s)

  replaced : (node : Node) → node_at tree old ≡ Some node → HasNoNames node → old ≢ b →
      Replaces (says (one_link_fewer (moved tree from name to new b) old (Some node)) reply.Ok) (finish_over (fewer_segments (n.inode old) (inode_by n old node)) (moved_onto_by m (n.inode to) x new (n.spot to new) (n.inode old) (inode_by n old node) dirs))
  replaced node at bare other = rw (run-segments (fewer_segments (n.inode old) (inode_by n old node)) (Got (Finishes (moved_onto_by m (n.inode to) x new (n.spot to new) (n.inode old) (inode_by n old node) dirs))) s)
      (finished (target other) node at bare)

  by_size : (es : Entries) (j : ℕ) → node_at tree old ≡ Some (Dir es j) → old ≢ b → (c : Bool) → nat_lt 0 (length es) ≡ c →
      Replaces (if c then says tree reply.NotEmpty else says (one_link_fewer (moved tree from name to new b) old (Some (Dir es j))) reply.Ok)
      (if c then refused reply.NotEmpty (dirs ++ n.inode old ∷ []) else finish_over (fewer_segments (n.inode old) (inode_by n old (Dir es j))) (moved_onto_by m (n.inode to) x new (n.spot to new) (n.inode old) (inode_by n old (Dir es j)) dirs))
  by_size es j at other true e = λ well. refuse_meets h s tree n of reply.NotEmpty (dirs ++ n.inode old ∷ [])
  by_size es j at other false e = replaced (Dir es j) at (λ w. ap (λ l. entry_at l w) (no_names es e)) other

  by_node : (o : Option Node) → node_at tree old ≡ o → is_some o ≡ true → old ≢ b →
      Replaces (if has_entries o then says tree reply.NotEmpty else says (one_link_fewer (moved tree from name to new b) old o) reply.Ok) (ReadInode (n.inode old) (replacing_node m (n.inode to) x new (n.spot to new) (n.inode old) dirs))
  by_node None e some other = absurd (cc)
  by_node (Some (Dir es j)) e some other =
      subst (λ o. Replaces (if nat_lt 0 (length es) then says tree reply.NotEmpty else says (one_link_fewer (moved tree from name to new b) old (Some (Dir es j))) reply.Ok) (replacing_node m (n.inode to) x new (n.spot to new) (n.inode old) dirs o))
      (sym (inode_is s (node_at tree) n of.pictures old (Dir es j) e)) (by_size es j e other (nat_lt 0 (length es)) refl)
  by_node (Some (File cells links when)) e some other =
      subst (λ o. Replaces (says (one_link_fewer (moved tree from name to new b) old (Some (File cells links when))) reply.Ok) (replacing_node m (n.inode to) x new (n.spot to new) (n.inode old) dirs o))
      (sym (inode_is s (node_at tree) n of.pictures old (File cells links when) e)) (replaced (File cells links when) e (λ w. refl) other)
  by_node (Some (Link chars links)) e some other =
      subst (λ o. Replaces (says (one_link_fewer (moved tree from name to new b) old (Some (Link chars links))) reply.Ok) (replacing_node m (n.inode to) x new (n.spot to new) (n.inode old) dirs o))
      (sym (inode_is s (node_at tree) n of.pictures old (Link chars links) e)) (replaced (Link chars links) e (λ w. refl) other)

  there : is_some (node_at tree old) ≡ true
  there = names_nodes tree of.well_formed to entries blocks new old is had

  moved_there : is_some (node_at tree b) ≡ true
  moved_there = names_nodes tree of.well_formed from fentries fblocks name b fis fhad

  -- the tests: one node, a directory that is moved, a directory that is there
  abbrev tested : Bool → Bool → Bool → Applied
  tested one goes stays =
      if one then says tree reply.Ok
      else (if goes && not stays then says tree reply.NotDir
      else (if stays && not goes then says tree reply.IsDir
      else (if has_entries (node_at tree old) then says tree reply.NotEmpty else says (one_link_fewer (moved tree from name to new b) old (node_at tree old)) reply.Ok)))

  abbrev planned : Bool → Bool → Bool → Ask Plan
  planned one goes stays =
      if one then refused reply.Ok dirs
      else (if goes && not stays then refused reply.NotDir dirs
      else (if stays && not goes then refused reply.IsDir dirs
      else ReadInode (n.inode old) (replacing_node m (n.inode to) x new (n.spot to new) (n.inode old) dirs)))

  by_tests : (one goes stays : Bool) → nat_eq old b ≡ one → Replaces (tested one goes stays) (planned one goes stays)
  by_tests true goes stays e = λ well. refuse_meets h s tree n of reply.Ok dirs
  by_tests false true false e = λ well. refuse_meets h s tree n of reply.NotDir dirs
  by_tests false false true e = λ well. refuse_meets h s tree n of reply.IsDir dirs
  by_tests false true true e = by_node (node_at tree old) refl there (eqb-false old b e)
  by_tests false false false e = by_node (node_at tree old) refl there (eqb-false old b e)

  pub onto_meets : Replaces (moved_onto tree from name b to new old) (moving_onto m (n.inode to) x new (n.spot to new) (entry_of n new old) dirs)
  onto_meets =
      let one : nat_eq (n.inode old) (n.inode b) ≡ nat_eq old b = same_inode_test s (node_at tree) n of.pictures old b there moved_there in
      let dir : nat_eq (n.kind b) 2 ≡ is_dir (node_at tree b) = kind_test s (node_at tree) n of.pictures b (node_at tree b) refl moved_there in
      let is_there : nat_eq (n.kind old) 2 ≡ is_dir (node_at tree old) = kind_test s (node_at tree) n of.pictures old (node_at tree old) refl there in
      subst (λ c. Replaces (tested (nat_eq old b) (is_dir (node_at tree b)) (is_dir (node_at tree old))) (planned c (nat_eq (n.kind b) 2) (nat_eq (n.kind old) 2))) (sym one)
      (subst (λ c. Replaces (tested (nat_eq old b) (is_dir (node_at tree b)) (is_dir (node_at tree old))) (planned (nat_eq old b) c (nat_eq (n.kind old) 2))) (sym dir)
      (subst (λ c. Replaces (tested (nat_eq old b) (is_dir (node_at tree b)) (is_dir (node_at tree old))) (planned (nat_eq old b) (is_dir (node_at tree b)) c)) (sym is_there)
      (by_tests (nat_eq old b) (is_dir (node_at tree b)) (is_dir (node_at tree old)) refl)))
