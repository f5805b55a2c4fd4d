-- Two parts of files that lie in one sector are one.
use Rattle.std.proofs.Common.{ℕ, ◌≡◌, ◌<◌, ◌≤◌, ◌+◌, ◌-◌, ◌*◌, ◌/◌, ◌%◌, Bool, true, false, nat_lt, if◌then◌else◌, Option, Some, None, List, length, is_some, refl, sym, ◌∙◌, ap, subst, arith}
use Rattle.std.proofs.lemmas.Bool.Decides.{nat_tests}
use Rattle.std.proofs.lemmas.Bool.{lt-ltb}
use Rattle.tree_definitions.specs.declared.cells.Cell.{Cell}
use Rattle.tree_definitions.specs.declared.node.Node.{Node}
use Rattle.tree_definitions.specs.declared.node.Node.TheVariants.{Dir, File, Link}
use Rattle.tree_definitions.specs.Tree.{small_blocks_of}
use Rattle.disk_definitions.specs.Store.{Store, StoredNode}
use Rattle.disk_definitions.specs.Naming.{Naming, Nodes, Pictures, inode_of}
use Rattle.disk_definitions.proofs.Kept.{inode_is}
use Rattle.disk_definitions.specs.Ask.{BytesAt, LargeAt}
use Rattle.disk_definitions.proofs.NodeLaws.{first_is}
use Rattle.plan_laws.proofs.Standing.{node_of}
use Rattle.line_histories.specs.Files.{file_sector}

-- of a pair, where there is one
abbrev first_of : Option (ℕ × ℕ) → ℕ
first_of None = 0
first_of (Some pair) = pair.0

abbrev second_of : Option (ℕ × ℕ) → ℕ
second_of None = 0
second_of (Some pair) = pair.1

module _ (s : Store) (at : Nodes) (n : Naming) (g : Pictures s at n) where
  -- whose the block of a part is
  record IsOwned (i : ℕ) (y : StoredNode) (t : ℕ) : Type 0 where
    birth : ℕ
    number : n.inode birth ≡ i
    small : t < 128 → n.owner (y.small (t / 8)) ≡ Some (birth, t / 8)
    large : 128 ≤ t → n.large_owner (y.large - 1) ≡ Some birth

  owned : (i : ℕ) (y : StoredNode) (t : ℕ) → s.inode i ≡ Some y → y.kind ≡ 1 → 512 * t < y.size → IsOwned i y t
  owned i y t is one l = let r = node_of s at n g i y is in by_node r.birth r.node r.is r.number r.inode
    where
      by_node : (b : ℕ) (node : Node) → at b ≡ Some node → n.inode b ≡ i → y ≡ inode_of (n.stamp b) (n.block b) (n.large b) node → IsOwned i y t
      by_node b (Dir entries blocks) here number q = absurd (let z : 2 ≡ 1 = sym (ap (λ z. z.kind) q) ∙ one in cc)
      by_node b (Link target links) here number q = absurd (let z : 3 ≡ 1 = sym (ap (λ z. z.kind) q) ∙ one in cc)
      by_node b (File cells links when) here number q =
          let within : 512 * t < length cells = subst (λ m. 512 * t < m) (ap (λ z. z.size) q) l in
          record {
            birth = b;
            number = number;
            small = λ low.
                let inside : t / 8 < small_blocks_of (length cells) = omega arith in
                ap n.owner (ap (λ z. z.small (t / 8)) q ∙ first_is (small_blocks_of (length cells)) (n.block b) (t / 8) inside) ∙ g.owned b (t / 8) (rw here inside);
            large = λ high.
                let more : 65536 < length cells = omega arith in
                let a : y.large ≡ n.large b + 1 = ap (λ z. z.large) q ∙ rw (lt-ltb 65536 (length cells) more) refl in
                let k : y.large - 1 ≡ n.large b = omega arith in
                ap n.large_owner k ∙ g.larges b (rw here (lt-ltb 65536 (length cells) more));
          }

  -- one sector, one part
  module _ (i j : ℕ) (y z : StoredNode) (t u : ℕ) (a : IsOwned i y t) (b : IsOwned j z u) where
    both_small : t < 128 → u < 128 → y.small (t / 8) ≡ z.small (u / 8) → t % 8 ≡ u % 8 → (i ≡ j) × (t ≡ u)
    both_small l m same part =
        let one : Some (a.birth, t / 8) ≡ Some (b.birth, u / 8) = sym (a.small l) ∙ ap n.owner same ∙ b.small m in
        let node : a.birth ≡ b.birth = ap first_of one in
        let block : t / 8 ≡ u / 8 = ap second_of one in
        (sym a.number ∙ ap n.inode node ∙ b.number, omega arith)

    both_large : 128 ≤ t → 128 ≤ u → y.large - 1 ≡ z.large - 1 → t - 128 ≡ u - 128 → (i ≡ j) × (t ≡ u)
    both_large l m same part =
        let one : Some a.birth ≡ Some b.birth = sym (a.large l) ∙ ap n.large_owner same ∙ b.large m in
        let node : a.birth ≡ b.birth = cc in
        (sym a.number ∙ ap n.inode node ∙ b.number, omega arith)

    same_sector : file_sector y t ≡ file_sector z u → (i ≡ j) × (t ≡ u)
    same_sector e = go (nat_lt t 128) refl (nat_lt u 128) refl e
      where
        go : (c : Bool) → nat_lt t 128 ≡ c → (d : Bool) → nat_lt u 128 ≡ d
            → (if c then BytesAt (y.small (t / 8)) (t % 8) else LargeAt (y.large - 1) (t - 128)) ≡ (if d then BytesAt (z.small (u / 8)) (u % 8) else LargeAt (z.large - 1) (u - 128)) → (i ≡ j) × (t ≡ u)
        go true p true q e = let block : y.small (t / 8) ≡ z.small (u / 8) = cc in let part : t % 8 ≡ u % 8 = cc in both_small (grind (arith, nat_tests)) (grind (arith, nat_tests)) block part
        go true p false q e = absurd (cc)
        go false p true q e = absurd (cc)
        go false p false q e = let block : y.large - 1 ≡ z.large - 1 = cc in let part : t - 128 ≡ u - 128 = cc in both_large (grind (arith, nat_tests)) (grind (arith, nat_tests)) block part

  pub same_part : (i j : ℕ) (y z : StoredNode) (t u : ℕ) → s.inode i ≡ Some y → s.inode j ≡ Some z → y.kind ≡ 1 → z.kind ≡ 1 → 512 * t < y.size → 512 * u < z.size → file_sector y t ≡ file_sector z u → (i ≡ j) × (t ≡ u)
  same_part i j y z t u is js one two l m e = same_sector i j y z t u (owned i y t is one l) (owned j z u js two m) e

  -- the node of an inode that holds a file is a file
  pub record IsFileAt (b : ℕ) : Type 0 where
    pub cells : List Cell
    pub links : ℕ
    pub when : ℕ
    pub is : at b ≡ Some (File cells links when)

  pub file_there : (b : ℕ) (x : StoredNode) → is_some (at b) ≡ true → s.inode (n.inode b) ≡ Some x → x.kind ≡ 1 → IsFileAt b
  file_there b x some is one = go (at b) refl some
    where
      kind_is : (node : Node) → at b ≡ Some node → (inode_of (n.stamp b) (n.block b) (n.large b) node).kind ≡ 1
      kind_is node here = let same : Some (inode_of (n.stamp b) (n.block b) (n.large b) node) ≡ Some x = sym (inode_is s at n g b node here) ∙ is in
          let e : inode_of (n.stamp b) (n.block b) (n.large b) node ≡ x = cc in ap (λ z. z.kind) e ∙ one

      go : (o : Option Node) → at b ≡ o → is_some o ≡ true → IsFileAt b
      go None here some = absurd (cc)
      go (Some (File cells links when)) here some = record { cells = cells; links = links; when = when; is = here }
      go (Some (Dir entries blocks)) here some = absurd (let z : 2 ≡ 1 = kind_is (Dir entries blocks) here in cc)
      go (Some (Link target links)) here some = absurd (let z : 3 ≡ 1 = kind_is (Link target links) here in cc)
