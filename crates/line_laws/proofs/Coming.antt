-- No operation makes one node and frees another: nodes come by what makes one, and it leaves each that is there.
use Rattle.std.proofs.Common.{◌≡◌, ℕ, Bool, true, false, if◌then◌else◌, Option, Some, None, [], is_some, refl, ◌∙◌, ap, arith}
use Rattle.frang_base.specs.declared.op.Op.{Op}
use Rattle.frang_base.specs.declared.op.Op.TheVariants as op
use Rattle.frang_base.specs.declared.reply.Reply.TheVariants as reply
use Rattle.tree_definitions.specs.declared.node.Node.{Node}
use Rattle.tree_definitions.specs.declared.node.Node.TheVariants.{Dir, File, Link}
use Rattle.tree_definitions.specs.Apply.{says, named, made, apply}
use Rattle.tree_definitions.specs.Entries.{with_entry}
use Rattle.tree_definitions.specs.Place.{Place, Root, Taken, Free, Nowhere, place}
use Rattle.tree_definitions.specs.Tree.{FileTree, node_at, with_node, grown, entries_full, inodes_full, lacks_block}
use Rattle.tree_laws.specs.Counts.{makes_node}
use Rattle.tree_definitions.specs.WellFormed.{IsWellFormed, IsNew}
use Rattle.tree_laws.proofs.Balance.{Limits, Within}
use Rattle.tree_definitions.proofs.Births.{each_but}
use Rattle.tree_laws.proofs.Nodes.{with_same, with_other}
use Rattle.tree_laws.proofs.WellFormedLaws.{Makes, apply_well}

-- no node comes where another goes
abbrev pub NoneSwaps : FileTree → FileTree → Type 0
NoneSwaps tree to = (b c : ℕ) → node_at tree b ≡ None → is_some (node_at to b) ≡ true → is_some (node_at tree c) ≡ true → node_at to c ≡ None → ⊥

-- ---- what makes no node: each node after it was there

abbrev old_ones : FileTree → Limits
old_ones t = record { allowed = λ b k. is_some (node_at t b) ≡ true; least = λ b. 0 }

old_within : (t : FileTree) (b : ℕ) (z : Node) → node_at t b ≡ Some z → Within (old_ones t) b z
old_within t b (Dir es k) is = (ap is_some is, omega arith)
old_within t b (File cells links when) is = ap is_some is
old_within t b (Link target links) is = ap is_some is

within_old : (t : FileTree) (b : ℕ) (z : Node) → Within (old_ones t) b z → is_some (node_at t b) ≡ true
within_old t b (Dir es k) w = w.0
within_old t b (File cells links when) w = w
within_old t b (Link target links) w = w

makes_none : (t : FileTree) (o : Op) (b : ℕ) → makes_node o ≡ false → Makes (old_ones t) o b
makes_none t (op.Create path) b e = absurd (cc)
makes_none t (op.Mkdir path) b e = absurd (cc)
makes_none t (op.Symlink path target) b e = absurd (cc)
makes_none t _ b e = tt

none_comes : (t : FileTree) (o : Op) (birth when m b : ℕ) → IsWellFormed t → IsNew t birth → makes_node o ≡ false → node_at t b ≡ None → is_some (node_at (apply t o birth when m).tree b) ≡ true → ⊥
none_comes t o birth when m b well new makes none there =
    let r = apply_well (old_ones t) t (record { well = well; allowed = old_within t }) o birth when m new (makes_none t o birth makes) in
    go (node_at (apply t o birth when m).tree b) refl there (λ z is. within_old t b z (r.allowed b z is))
  where
    go : (x : Option Node) → node_at (apply t o birth when m).tree b ≡ x → is_some x ≡ true → ((z : Node) → node_at (apply t o birth when m).tree b ≡ Some z → is_some (node_at t b) ≡ true) → ⊥
    go None is some old = cc
    go (Some z) is some old = let y : is_some (node_at t b) ≡ true = old z is in let x : is_some (node_at t b) ≡ false = ap is_some none in cc

-- ---- what makes one leaves the others

still_with : (t : FileTree) (d : ℕ) (x : Node) (c : ℕ) → is_some (node_at t c) ≡ true → is_some (node_at (with_node t d x) c) ≡ true
still_with t d x =
    each_but (λ c. is_some (node_at t c) ≡ true → is_some (node_at (with_node t d x) c) ≡ true) d (λ e. ap is_some (with_same t d x)) (λ c far e. ap is_some (with_other t d x c far) ∙ e)

made_leaves : (t : FileTree) (birth : ℕ) (node : Node) (p : Place) (c : ℕ) → is_some (node_at t c) ≡ true → is_some (node_at (made t birth node p).tree c) ≡ true
made_leaves t birth node Root c there = there
made_leaves t birth node (Nowhere r) c there = there
made_leaves t birth node (Taken dir entries blocks name old) c there = there
made_leaves t birth node (Free dir entries blocks name) c there = go (entries_full entries) (inodes_full t) (lacks_block t entries blocks)
  where
    u : FileTree
    u = named (with_node t birth node) dir entries blocks name birth

    go : (a b d : Bool) → is_some (node_at (if a then says t reply.DirFull else (if b then says t reply.NoInode else (if d then says t reply.NoDirBlock else says u reply.Ok))).tree c) ≡ true
    go true b d = there
    go false true d = there
    go false false true = there
    go false false false = still_with (with_node t birth node) dir (Dir (with_entry entries name birth) (grown entries blocks)) c (still_with t birth node c there)

none_goes : (t : FileTree) (o : Op) (birth when m c : ℕ) → makes_node o ≡ true → is_some (node_at t c) ≡ true → is_some (node_at (apply t o birth when m).tree c) ≡ true
none_goes t (op.Create path) birth when m c e there = made_leaves t birth (File [] 1 0) (place t path) c there
none_goes t (op.Mkdir path) birth when m c e there = made_leaves t birth (Dir [] 0) (place t path) c there
none_goes t (op.Symlink path target) birth when m c e there = made_leaves t birth (Link target 1) (place t path) c there
none_goes t _ birth when m c e there = absurd (cc)

pub none_swaps : (t : FileTree) (o : Op) (birth when m : ℕ) → IsWellFormed t → IsNew t birth → NoneSwaps t (apply t o birth when m).tree
none_swaps t o birth when m well new b c none there was gone = go (makes_node o) refl
  where
    go : (v : Bool) → makes_node o ≡ v → ⊥
    go true e = let x : is_some (node_at (apply t o birth when m).tree c) ≡ true = none_goes t o birth when m c e was in let y : is_some (node_at (apply t o birth when m).tree c) ≡ false = ap is_some gone in cc
    go false e = none_comes t o birth when m b well new e none there
