-- A block that is free has no owner.
use Rattle.std.proofs.Common.{ℕ, ◌<◌, ◌≡◌, true, false, Option, Some, None, refl, sym, ◌∙◌, ap, arith}
use Rattle.frang_base.proofs.Tests.{none_of}
use Rattle.tree_definitions.specs.declared.node.Node.{Node}
use Rattle.tree_definitions.specs.declared.node.Node.TheVariants.{Dir, File, Link}
use Rattle.disk_definitions.specs.Store.{Store, Use, is_unused}
use Rattle.disk_definitions.specs.Store.Use.{Fresh, Bytes, Empty, Entries}
use Rattle.disk_definitions.specs.Naming.{Naming, Nodes, Pictures, blocks_of, use_by, use_for}
use Rattle.disk_definitions.specs.ChangeLaws.{IsFreeBlock}

pub in_use : (x : Option Node) (j : ℕ) → j < blocks_of x → is_unused (use_by x) ≡ false
in_use None j l = absurd (omega arith)
in_use (Some (Dir entries blocks)) j l = refl
in_use (Some (File cells links when)) j l = refl
in_use (Some (Link target links)) j l = absurd (omega arith)

pub no_owner : (s : Store) (at : Nodes) (n : Naming) → Pictures s at n → (k : ℕ) → is_unused (s.use_of k) ≡ true → n.owner k ≡ None
no_owner s at n g k free = go (n.owner k) refl
  where
    go : (o : Option (ℕ × ℕ)) → n.owner k ≡ o → o ≡ None
    go None e = refl
    go (Some o) e =
        let a : is_unused (s.use_of k) ≡ false = ap is_unused (g.uses k ∙ ap (use_for (n.was k) at) e) ∙ in_use (at o.0) o.1 (g.owners k o.0 o.1 e).1 in
        absurd (cc)

pub no_large_owner : (s : Store) (at : Nodes) (n : Naming) → Pictures s at n → (k : ℕ) → s.large_bit k ≡ false → n.large_owner k ≡ None
no_large_owner s at n g k free = none_of (n.large_owner k) (sym (g.large_bits k) ∙ free)

-- no place of a free block has an entry
pub no_entries : (s : Store) (at : Nodes) (n : Naming) → Pictures s at n → (k : ℕ) → IsFreeBlock s k → (p : ℕ) → p < 56 → s.place k p ≡ None
no_entries s at n g k block p l = go (s.use_of k) refl
  where
    go : (u : Use) → s.use_of k ≡ u → s.place k p ≡ None
    go Fresh e = block.clear e p l
    go Empty e = g.emptied k p l e
    go Bytes e = absurd (let a : is_unused (s.use_of k) ≡ false = ap is_unused e in let b : is_unused (s.use_of k) ≡ true = block.free in cc)
    go Entries e = absurd (let a : is_unused (s.use_of k) ≡ false = ap is_unused e in let b : is_unused (s.use_of k) ≡ true = block.free in cc)
