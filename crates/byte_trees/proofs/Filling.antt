-- The picture of a shape, with the bytes of the cells, is the picture of the tree.
use Rattle.std.proofs.Common.{ℕ, ◌≡◌, ◌<◌, ◌+◌, ◌*◌, Bool, true, nat_lt, if◌then◌else◌, Option, Some, None, List, [], ◌∷◌, is_some, refl, sym, ◌∙◌, ap, subst}
use Rattle.frang_base.specs.declared.limits.TheConstants.{BLOCK_ENTRIES, KIND_FILE, SMALL_BYTES_MAX}
use Rattle.std.specs.Option.{option_and_then}
use Rattle.std.proofs.lemmas.List.{length-map}
use Rattle.tree_definitions.specs.declared.cells.Cell.{Cell}
use Rattle.tree_definitions.specs.declared.cells.Cell.TheVariants as cell
use Rattle.tree_definitions.specs.declared.node.Node.{Node}
use Rattle.tree_definitions.specs.declared.node.Node.TheVariants.{Dir, File, Link}
use Rattle.tree_definitions.specs.Touched.{node_shape, shaped}
use Rattle.tree_definitions.specs.Tree.{small_blocks_of}
use Rattle.disk_definitions.specs.Store.{Store, StoredNode}
use Rattle.disk_definitions.specs.Naming.{Naming, Nodes, Pictures, Allows, blocks_of, cell_in, file_byte, find_in, first_blocks, has_large, inode_by, inode_for, room_in, use_by, use_for}
use Rattle.disk_definitions.specs.Standing.{IsReached, reached_from}
use Rattle.disk_definitions.proofs.NodeLaws.{any_cell, kind_shape}

-- ---- what a picture has of the shape of a node, it has of the node

-- what stands in the inode of a file of this size
sized : Naming → (b links when size : ℕ) → StoredNode
sized n b links when size = record {
  kind = KIND_FILE;
  links = links;
  size = size;
  birth = n.stamp b;
  blocks = small_blocks_of size;
  small = first_blocks (small_blocks_of size) (n.block b);
  large = if nat_lt SMALL_BYTES_MAX size then n.large b + 1 else 0;
  when = when;
  target = [];
}

-- all of it
record LooksAlike (n : Naming) (b : ℕ) (o : Option Node) : Type 0 where
  some : is_some (shaped o) ≡ is_some o
  blocks : blocks_of (shaped o) ≡ blocks_of o
  large : has_large (shaped o) ≡ has_large o
  room : room_in (shaped o) ≡ room_in o
  find : (name : List ℕ) → find_in (shaped o) name ≡ find_in o name
  use_is : use_by (shaped o) ≡ use_by o
  inode : inode_by n b (shaped o) ≡ inode_by n b o

looks_alike : (n : Naming) (b : ℕ) (o : Option Node) → LooksAlike n b o
unfolding sized
looks_alike n b (Some (Dir es k)) = record { some = refl; blocks = refl; large = refl; room = refl; find = λ name. refl; use_is = refl; inode = refl }
looks_alike n b (Some (File cells links when)) =
    let same = length-map cells (λ c. cell.Doubtful) in
    record {
      some = refl;
      blocks = ap small_blocks_of same;
      large = ap (λ size. nat_lt SMALL_BYTES_MAX size) same;
      room = refl;
      find = λ name. refl;
      use_is = refl;
      inode = ap (λ size. Some (sized n b links when size)) same;
    }
looks_alike n b (Some (Link target links)) = record { some = refl; blocks = refl; large = refl; room = refl; find = λ name. refl; use_is = refl; inode = refl }
looks_alike n b None = record { some = refl; blocks = refl; large = refl; room = refl; find = λ name. refl; use_is = refl; inode = refl }

-- ---- the picture

module _ (s : Store) (at : Nodes) (n : Naming) where
  abbrev pub alike : Nodes
  alike b = shaped (at b)

  look : (b : ℕ) → LooksAlike n b (at b)
  look b = looks_alike n b (at b)

  for_tree : (o : Option ℕ) → inode_for n alike o ≡ inode_for n at o
  for_tree None = refl
  for_tree (Some b) = (look b).inode

  uses_tree : (was : Bool) (o : Option (ℕ × ℕ)) → use_for was alike o ≡ use_for was at o
  uses_tree was None = refl
  uses_tree was (Some o) = (look o.0).use_is

  pub filled : Pictures s alike n → ((b j : ℕ) (c : Cell) → cell_in (at b) j ≡ Some c → Allows c (file_byte s n b j)) → Pictures s at n
  filled g bytes = record {
    inodes = λ i. g.inodes i ∙ for_tree (n.birth i);
    bits = g.bits;
    numbered = λ b some. g.numbered b ((look b).some ∙ some);
    whose = λ i b e. let w = g.whose i b e in (w.0, sym (look b).some ∙ w.1);
    kinds = λ b x e. g.kinds b (node_shape x) (ap shaped e) ∙ kind_shape x;
    owned = λ b j l. g.owned b j (subst (λ k. j < k) (sym (look b).blocks) l);
    owners = λ k b j e. let w = g.owners k b j e in (w.0, subst (λ k. j < k) (look b).blocks w.1);
    uses = λ k. g.uses k ∙ uses_tree (n.was k) (n.owner k);
    emptied = g.emptied;
    larges = λ b h. g.larges b ((look b).large ∙ h);
    large_owners = λ k b e. let w = g.large_owners k b e in (w.0, sym (look b).large ∙ w.1);
    large_bits = g.large_bits;
    names = λ d b m e. let w = g.names d b m ((look d).find m ∙ e) in (subst (λ k. n.spot d m < BLOCK_ENTRIES * k) (look d).room w.0, w.1);
    places = λ d q e l h. let w = g.places d q e (subst (λ k. q < BLOCK_ENTRIES * k) (sym (look d).room) l) h in (w.0, ap is_some (sym ((look d).find e.name)) ∙ w.1);
    bytes = bytes;
  }

-- ---- names lead to the same nodes

module _ (at : Nodes) (n : Naming) where
  onward : (o : Option ℕ) (f g : ℕ → Option ℕ) → ((b : ℕ) → f b ≡ g b) → option_and_then f o ≡ option_and_then g o
  onward (Some b) f g same = same b
  onward None f g same = refl

  leads_alike : (b : ℕ) (names : List (List ℕ)) → reached_from (λ d. shaped (at d)) b names ≡ reached_from at b names
  leads_alike b [] = refl
  leads_alike b (name ∷ names) =
      ap (option_and_then (λ next. reached_from (λ d. shaped (at d)) next names)) ((looks_alike n b (at b)).find name)
      ∙ onward (find_in (at b) name) (λ next. reached_from (λ d. shaped (at d)) next names) (λ next. reached_from at next names) (λ next. leads_alike next names)

  pub reached_too : IsReached (λ d. shaped (at d)) → IsReached at
  reached_too reached b some = let r = reached b ((looks_alike n b (at b)).some ∙ some) in (r.0, sym (leads_alike 0 r.0) ∙ r.1)

  pub there_too : (b : ℕ) → is_some (at b) ≡ true → is_some (shaped (at b)) ≡ true
  there_too b some = (looks_alike n b (at b)).some ∙ some

-- ---- a shape allows any bytes

pub any_bytes : (s : Store) (at : Nodes) (n : Naming) → Pictures s (λ b. shaped (at b)) n → (byte large_byte : ℕ → ℕ → ℕ) → Pictures (record s { byte = byte; large_byte = large_byte }) (λ b. shaped (at b)) n
any_bytes s at n g byte large_byte = record {
  inodes = g.inodes;
  bits = g.bits;
  numbered = g.numbered;
  whose = g.whose;
  kinds = g.kinds;
  owned = g.owned;
  owners = g.owners;
  uses = g.uses;
  emptied = g.emptied;
  larges = g.larges;
  large_owners = g.large_owners;
  large_bits = g.large_bits;
  names = g.names;
  places = g.places;
  bytes = λ b j c e. any_cell (at b) j c (file_byte (record s { byte = byte; large_byte = large_byte }) n b j) e;
}
