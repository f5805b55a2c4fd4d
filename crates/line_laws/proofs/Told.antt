-- The inodes of all nodes that are reached are told by the disk: that of the root, and of each other by an entry.
use Rattle.std.proofs.Common.{◌≡◌, ◌<◌, ◌*◌, ◌/◌, ◌%◌, ℕ, true, nat_lt, if◌then◌else◌, Option, Some, None, List, [], ◌∷◌, refl, sym, ◌∙◌, ap, subst, arith}
use Rattle.std.specs.Option.{option_and_then}
use Rattle.std.proofs.lemmas.Bool.{lt-ltb}
use Rattle.tree_definitions.specs.declared.node.Node.{Node}
use Rattle.tree_definitions.specs.declared.node.Node.TheVariants.{Dir, File, Link}
use Rattle.tree_definitions.specs.Entries.{Entries}
use Rattle.tree_definitions.specs.Tree.{node_at}
use Rattle.disk_definitions.specs.Naming.{Naming, Nodes, Pictures, entry_of, find_in, inode_of, room_in}
use Rattle.disk_definitions.specs.Standing.{reached_from}
use Rattle.disk_definitions.specs.Store.{Store, StoredEntry}
use Rattle.disk_definitions.proofs.Kept.{inode_is}
use Rattle.line_laws.specs.Nodes.{NamingsAgree}

module _ (s : Store) (at : Nodes) (n m : Naming) (g : Pictures s at n) (h : Pictures s at m) where
  module _ (d blocks : ℕ) (entries : Entries) (is : at d ≡ Some (Dir entries blocks)) (same : m.inode d ≡ n.inode d) where
    block_same : (j : ℕ) → j < blocks → m.block d j ≡ n.block d j
    block_same j l =
        let e : Some (inode_of (m.stamp d) (m.block d) (m.large d) (Dir entries blocks)) ≡ Some (inode_of (n.stamp d) (n.block d) (n.large d) (Dir entries blocks)) =
        sym (inode_is s at m h d (Dir entries blocks) is) ∙ ap s.inode same ∙ inode_is s at n g d (Dir entries blocks) is in
        let i : inode_of (m.stamp d) (m.block d) (m.large d) (Dir entries blocks) ≡ inode_of (n.stamp d) (n.block d) (n.large d) (Dir entries blocks) = cc in
        let f : (if nat_lt j blocks then m.block d j else 0) ≡ (if nat_lt j blocks then n.block d j else 0) = ap (λ x. x.small j) i in
        let t : nat_lt j blocks ≡ true = lt-ltb j blocks l in
        sym (ap (λ b. if b then m.block d j else 0) t) ∙ f ∙ ap (λ b. if b then n.block d j else 0) t

    -- an entry of the directory has one inode
    entry_same : (c : ℕ) (name : List ℕ) → find_in (at d) name ≡ Some c → m.inode c ≡ n.inode c
    entry_same c name found =
        let old = g.names d c name found in
        let new = h.names d c name found in
        let q = n.spot d name in
        let l : q < 56 * blocks = subst (λ o. q < 56 * room_in o) is old.0 in
        let there : s.place (m.block d (q / 56)) (q % 56) ≡ Some (entry_of n name c) = ap (λ k. s.place k (q % 56)) (block_same (q / 56) (omega arith)) ∙ old.1 in
        let spot : m.spot d name ≡ q = (h.places d q (entry_of n name c) old.0 there).0 in
        let e : Some (entry_of m name c) ≡ Some (entry_of n name c) = sym new.1 ∙ ap (λ p. s.place (m.block d (p / 56)) (p % 56)) spot ∙ there in
        let i : entry_of m name c ≡ entry_of n name c = cc in
        ap (λ (x : StoredEntry). x.inode) i

  -- a name of any node
  next_same : (d c : ℕ) (name : List ℕ) (o : Option Node) → at d ≡ o → find_in o name ≡ Some c → m.inode d ≡ n.inode d → m.inode c ≡ n.inode c
  next_same d c name None is found same = absurd (cc)
  next_same d c name (Some (File cells links when)) is found same = absurd (cc)
  next_same d c name (Some (Link target links)) is found same = absurd (cc)
  next_same d c name (Some (Dir entries blocks)) is found same = entry_same d blocks entries is same c name (ap (λ o. find_in o name) is ∙ found)

  reached_same : (names : List (List ℕ)) (b c : ℕ) → m.inode b ≡ n.inode b → reached_from at b names ≡ Some c → m.inode c ≡ n.inode c
  reached_same [] b c same e = let i : b ≡ c = cc in subst (λ z. m.inode z ≡ n.inode z) i same
  reached_same (name ∷ names) b c same e = go (find_in (at b) name) refl e (λ next there. reached_same names next c there)
    where
      go : (o : Option ℕ) → find_in (at b) name ≡ o → option_and_then (λ next. reached_from at next names) o ≡ Some c
          → ((next : ℕ) → m.inode next ≡ n.inode next → reached_from at next names ≡ Some c → m.inode c ≡ n.inode c) → m.inode c ≡ n.inode c
      go None found e rest = absurd (cc)
      go (Some next) found e rest = rest next (next_same b next name (at b) refl found same) e

pub namings_agree : NamingsAgree
namings_agree s tree n m of after reached b there =
    let r = reached b there in
    reached_same s (node_at tree) n m of.pictures after.pictures r.0 0 b (after.root ∙ sym of.root) r.1
