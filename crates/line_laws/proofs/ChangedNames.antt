-- Where an operation on names is answered `ok`, a name leads elsewhere in the tree after it.
use Rattle.std.proofs.Common.{ℕ, ◌≡◌, ◌≢◌, ◌<◌, ◌==◌, Bool, true, false, not, ◌&&◌, Option, Some, None, List, [], ◌∷◌, length, cond, nat_le, refl, sym, ◌∙◌, ap, arith, eqb-true, eq-eqb}
use Rattle.std.specs.Ordering.{nat_cmp}
use Rattle.std.specs.Cmp.Lexicographic.{slice_cmp}
use Rattle.std.proofs.lemmas.Bool.{lt-ltb}
use Rattle.frang_base.specs.declared.limits.TheConstants.{LINKS_MAX}
use Rattle.frang_base.specs.declared.reply.Reply.TheVariants as reply
use Rattle.tree_definitions.specs.declared.node.Node.{Node}
use Rattle.tree_definitions.specs.declared.node.Node.TheVariants.{Dir, File, Link}
use Rattle.tree_definitions.specs.Entries.{Entries, entry_at, with_entry, without_entry}
use Rattle.tree_definitions.specs.Tree.{FileTree, node_at, with_node, without_node, inodes_full, entries_full, lacks_block, grown}
use Rattle.tree_definitions.specs.Place.{Free, Taken}
use Rattle.tree_definitions.specs.Apply.{Applied, Plain, says, named, made, is_dir, links_of, has_entries, one_link_more, linked, one_link_fewer, unlinked, dir_removed, name_gone, name_set, moved, room_made, goes_through, moved_onto, renamed_to}
use Rattle.tree_definitions.specs.WellFormed.{IsWellFormed}
use Rattle.tree_definitions.proofs.Pairs.{name_exact, found_put, found_removed}
use Rattle.tree_definitions.proofs.Births.{each_but}
use Rattle.tree_laws.proofs.Nodes.{with_same, with_other, without_other}
use Rattle.standing_laws.proofs.Changes.{fewer_else}
use Rattle.disk_definitions.specs.Naming.{find_in}
use Rattle.line_laws.proofs.Telling.{OtherNames, came, had_another}

put_found : (es : Entries) (name : List ℕ) (b : ℕ) → entry_at (with_entry es name b) name ≡ Some b
put_found es name b = found_put (slice_cmp nat_cmp) name_exact es name b

-- a directory that has a name isn't empty
pub has_some : (es : Entries) (name : List ℕ) (b : ℕ) → entry_at es name ≡ Some b → 0 < length es
has_some [] name b had = absurd (cc)
has_some (e ∷ es) name b had = omega arith

not_empty : (o : Option Node) (es : Entries) (n : ℕ) (name : List ℕ) (b : ℕ) → o ≡ Some (Dir es n) → entry_at es name ≡ Some b → has_entries o ≡ true
not_empty o es n name b is had = ap has_entries is ∙ lt-ltb 0 (length es) (has_some es name b had)

-- the directory gets a name
named_has : (u : FileTree) (dir : ℕ) (es : Entries) (n : ℕ) (name : List ℕ) (b : ℕ) → find_in (node_at (named u dir es n name b) dir) name ≡ Some b
named_has u dir es n name b = ap (λ o. find_in o name) (with_same u dir (Dir (with_entry es name b) (grown es n))) ∙ put_found es name b

-- ---- create, mkdir, symlink, link
module _ (t : FileTree) (dir : ℕ) (es : Entries) (n : ℕ) (name : List ℕ) (is : node_at t dir ≡ Some (Dir es n)) (absent : entry_at es name ≡ None) where
  pub made_names : (b : ℕ) (x : Node) → (made t b x (Free dir es n name)).answer ≡ Plain reply.Ok → OtherNames t (made t b x (Free dir es n name)).tree
  made_names b x = go (entries_full es) (inodes_full t) (lacks_block t es n)
    where
      outcome : Bool → Bool → Bool → Applied
      outcome full none lacks = cond full (says t reply.DirFull) (cond none (says t reply.NoInode) (cond lacks (says t reply.NoDirBlock) (says (named (with_node t b x) dir es n name b) reply.Ok)))

      go : (full none lacks : Bool) → (outcome full none lacks).answer ≡ Plain reply.Ok → OtherNames t (outcome full none lacks).tree
      go true none lacks e = absurd (cc)
      go false true lacks e = absurd (cc)
      go false false true e = absurd (cc)
      go false false false e = came t (named (with_node t b x) dir es n name b) dir es n name b is absent (named_has (with_node t b x) dir es n name b)

  pub linked_names : (d : ℕ) (ds : Entries) (k : ℕ) (old : List ℕ) (b : ℕ) → (linked t (Taken d ds k old b) (Free dir es n name)).answer ≡ Plain reply.Ok → OtherNames t (linked t (Taken d ds k old b) (Free dir es n name)).tree
  linked_names d ds k old b = go (is_dir (node_at t b)) (nat_le LINKS_MAX (links_of (node_at t b))) (entries_full es) (lacks_block t es n)
    where
      u : FileTree
      u = one_link_more t b (node_at t b)

      outcome : Bool → Bool → Bool → Bool → Applied
      outcome dirs many full lacks =
          cond dirs (says t reply.IsDir) (cond many (says t reply.MLink) (cond full (says t reply.DirFull) (cond lacks (says t reply.NoDirBlock) (says (named u dir es n name b) reply.Ok))))

      go : (dirs many full lacks : Bool) → (outcome dirs many full lacks).answer ≡ Plain reply.Ok → OtherNames t (outcome dirs many full lacks).tree
      go true many full lacks e = absurd (cc)
      go false true full lacks e = absurd (cc)
      go false false true lacks e = absurd (cc)
      go false false false true e = absurd (cc)
      go false false false false e = came t (named u dir es n name b) dir es n name b is absent (named_has u dir es n name b)

-- ---- unlink, rmdir
-- a name has gone, of a node that isn't its directory
pub record IsGone (t u : FileTree) (dir b : ℕ) : Type 0 where
  pub apart : b ≢ dir
  pub names : OtherNames t u

module _ (t : FileTree) (well : IsWellFormed t) (dir : ℕ) (es : Entries) (n : ℕ) (name : List ℕ) (b : ℕ) (is : node_at t dir ≡ Some (Dir es n)) (had : entry_at es name ≡ Some b) where
  abbrev mid : FileTree
  mid = with_node t dir (Dir (without_entry es name) n)

  gone_here : (u : FileTree) → node_at u dir ≡ node_at mid dir → find_in (node_at u dir) name ≡ Some b → ⊥
  gone_here u same found =
      let none : find_in (node_at u dir) name ≡ None =
      ap (λ o. find_in o name) (same ∙ with_same t dir (Dir (without_entry es name) n)) ∙ found_removed (slice_cmp nat_cmp) name_exact es name (well.names dir es n is) in
      let z : Some b ≡ None = sym found ∙ none in cc

  plain_apart : is_dir (node_at t b) ≡ false → b ≢ dir
  plain_apart plain q = let z : true ≡ false = sym (ap is_dir is) ∙ ap (λ c. is_dir (node_at t c)) (sym q) ∙ plain in cc

  bare_apart : has_entries (node_at t b) ≡ false → b ≢ dir
  bare_apart bare q = let z : true ≡ false = sym (not_empty (node_at t dir) es n name b is had) ∙ ap (λ c. has_entries (node_at t c)) (sym q) ∙ bare in cc

  pub unlinked_names : (unlinked t (Taken dir es n name b)).answer ≡ Plain reply.Ok → IsGone t (unlinked t (Taken dir es n name b)).tree dir b
  unlinked_names = go (is_dir (node_at t b)) refl
    where
      u : FileTree
      u = one_link_fewer mid b (node_at t b)

      go : (dirs : Bool) → is_dir (node_at t b) ≡ dirs → (cond dirs (says t reply.IsDir) (says u reply.Ok)).answer ≡ Plain reply.Ok → IsGone t (cond dirs (says t reply.IsDir) (says u reply.Ok)).tree dir b
      go true i e = absurd (cc)
      go false i e =
          let far = plain_apart i in
          record { apart = far; names = had_another t u dir es n name b is had (gone_here u (fewer_else mid b (node_at t b) dir (λ q. far (sym q)))) }

  pub removed_names : (dir_removed t (Taken dir es n name b)).answer ≡ Plain reply.Ok → IsGone t (dir_removed t (Taken dir es n name b)).tree dir b
  removed_names = go (not (is_dir (node_at t b))) (has_entries (node_at t b)) refl
    where
      u : FileTree
      u = without_node mid b

      outcome : Bool → Bool → Applied
      outcome other some = cond other (says t reply.NotDir) (cond some (says t reply.NotEmpty) (says u reply.Ok))

      go : (other some : Bool) → has_entries (node_at t b) ≡ some → (outcome other some).answer ≡ Plain reply.Ok → IsGone t (outcome other some).tree dir b
      go true some i e = absurd (cc)
      go false true i e = absurd (cc)
      go false false i e =
          let far = bare_apart i in
          record { apart = far; names = had_another t u dir es n name b is had (gone_here u (without_other mid b dir (λ q. far (sym q)))) }

-- ---- rename
gone_dir : (u : FileTree) (from : ℕ) (name : List ℕ) (to : ℕ) (o : Option Node) → is_dir (node_at u to) ≡ true → is_dir (node_at (name_gone u from name o) to) ≡ true
gone_dir u from name to (Some (Dir es n)) h =
    each_but (λ c. is_dir (node_at u c) ≡ true → is_dir (node_at (with_node u from (Dir (without_entry es name) n)) c) ≡ true) from
    (λ i. ap is_dir (with_same u from (Dir (without_entry es name) n))) (λ c far i. ap is_dir (with_other u from (Dir (without_entry es name) n) c far) ∙ i) to h
gone_dir u from name to (Some (File cells links when)) h = h
gone_dir u from name to (Some (Link target links)) h = h
gone_dir u from name to None h = h

set_has : (u : FileTree) (to : ℕ) (new : List ℕ) (b : ℕ) (o : Option Node) → is_dir o ≡ true → find_in (node_at (name_set u to new b o) to) new ≡ Some b
set_has u to new b (Some (Dir es n)) h = ap (λ o. find_in o new) (with_same u to (Dir (with_entry es new b) n)) ∙ put_found es new b
set_has u to new b (Some (File cells links when)) h = absurd (cc)
set_has u to new b (Some (Link target links)) h = absurd (cc)
set_has u to new b None h = absurd (cc)

moved_has : (u : FileTree) (from : ℕ) (name : List ℕ) (to : ℕ) (new : List ℕ) (b : ℕ) → is_dir (node_at u to) ≡ true → find_in (node_at (moved u from name to new b) to) new ≡ Some b
moved_has u from name to new b h = let gone = name_gone u from name (node_at u from) in set_has gone to new b (node_at gone to) (gone_dir u from name to (node_at u from) h)

module _ (t : FileTree) (from : ℕ) (name : List ℕ) (b : ℕ) (path : List (List ℕ)) where
  -- to a name that isn't there
  pub renamed_free_names : (to : ℕ) (es : Entries) (n : ℕ) (new : List ℕ) → node_at t to ≡ Some (Dir es n) → entry_at es new ≡ None
      → (renamed_to t from name b path (Free to es n new)).answer ≡ Plain reply.Ok → OtherNames t (renamed_to t from name b path (Free to es n new)).tree
  renamed_free_names to es n new is absent = go (goes_through t path b) (from == to) (entries_full es) (lacks_block t es n)
    where
      u : FileTree
      u = room_made t to es n

      outcome : Bool → Bool → Bool → Bool → Applied
      outcome through same full lacks =
          cond through (says t reply.Inval) (cond same (says (moved t from name to new b) reply.Ok) (cond full (says t reply.DirFull) (cond lacks (says t reply.NoDirBlock) (says (moved u from name to new b) reply.Ok))))

      go : (through same full lacks : Bool) → (outcome through same full lacks).answer ≡ Plain reply.Ok → OtherNames t (outcome through same full lacks).tree
      go true same full lacks e = absurd (cc)
      go false true full lacks e = came t (moved t from name to new b) to es n new b is absent (moved_has t from name to new b (ap is_dir is))
      go false false true lacks e = absurd (cc)
      go false false false true e = absurd (cc)
      go false false false false e = came t (moved u from name to new b) to es n new b is absent (moved_has u from name to new b (ap is_dir (with_same t to (Dir es (grown es n)))))

  -- onto a name of the node itself
  pub renamed_stays : (to : ℕ) (es : Entries) (n : ℕ) (new : List ℕ) (old : ℕ) → old ≡ b → (renamed_to t from name b path (Taken to es n new old)).tree ≡ t
  renamed_stays to es n new old same = go (goes_through t path b)
    where
      go : (through : Bool) → (cond through (says t reply.Inval) (moved_onto t from name b to new old)).tree ≡ t
      go true = refl
      go false = rw (eq-eqb old b same) refl

  -- onto a name of another node
  module _ (fs : Entries) (k : ℕ) (fis : node_at t from ≡ Some (Dir fs k)) (fhad : entry_at fs name ≡ Some b) where
    pub renamed_onto_names : (to : ℕ) (es : Entries) (n : ℕ) (new : List ℕ) (old : ℕ) → node_at t to ≡ Some (Dir es n) → entry_at es new ≡ Some old → old ≢ b
        → (renamed_to t from name b path (Taken to es n new old)).answer ≡ Plain reply.Ok → IsGone t (renamed_to t from name b path (Taken to es n new old)).tree from old
    renamed_onto_names to es n new old is had other =
        go (goes_through t path b) (old == b) refl (is_dir (node_at t b) && not (is_dir (node_at t old))) (is_dir (node_at t old) && not (is_dir (node_at t b))) (has_entries (node_at t old)) refl
      where
        u : FileTree
        u = one_link_fewer (moved t from name to new b) old (node_at t old)

        outcome : Bool → Bool → Bool → Bool → Bool → Applied
        outcome through same plain dirs some =
            cond through (says t reply.Inval) (cond same (says t reply.Ok) (cond plain (says t reply.NotDir) (cond dirs (says t reply.IsDir) (cond some (says t reply.NotEmpty) (says u reply.Ok)))))

        bare_far : (d : ℕ) (ds : Entries) (j : ℕ) (word : List ℕ) (c : ℕ) → node_at t d ≡ Some (Dir ds j) → entry_at ds word ≡ Some c → has_entries (node_at t old) ≡ false → old ≢ d
        bare_far d ds j word c at has bare q = let z : true ≡ false = sym (not_empty (node_at t d) ds j word c at has) ∙ ap (λ c. has_entries (node_at t c)) (sym q) ∙ bare in cc

        go : (through same : Bool) → old == b ≡ same → (plain dirs some : Bool) → has_entries (node_at t old) ≡ some → (outcome through same plain dirs some).answer ≡ Plain reply.Ok
            → IsGone t (outcome through same plain dirs some).tree from old
        go true same q plain dirs some i e = absurd (cc)
        go false true q plain dirs some i e = absurd (other (eqb-true old b q))
        go false false q true dirs some i e = absurd (cc)
        go false false q false true some i e = absurd (cc)
        go false false q false false true i e = absurd (cc)
        go false false q false false false i e =
            let now : find_in (node_at u to) new ≡ Some b =
            ap (λ o. find_in o new) (fewer_else (moved t from name to new b) old (node_at t old) to (λ z. bare_far to es n new old is had i (sym z))) ∙ moved_has t from name to new b (ap is_dir is) in
            record {
              apart = bare_far from fs k name b fis fhad i;
              names = had_another t u to es n new old is had (λ f. let z : Some old ≡ Some b = sym f ∙ now in other cc);
            }
