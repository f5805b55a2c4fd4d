-- The places of directories, after one of them is changed.
use Rattle.std.proofs.Common.{ℕ, ◌+◌, ◌*◌, ◌/◌, ◌%◌, ◌<◌, ◌≤◌, ◌≡◌, Option, Some, None, refl, sym, ◌∙◌, ap, arith}
use Rattle.std.proofs.Math.Nat.{div-add-mod}
use Rattle.std.proofs.lemmas.Option.{same_Some}
use Rattle.tree_definitions.specs.declared.node.Node.{Node}
use Rattle.tree_definitions.specs.declared.node.Node.TheVariants.{Dir, File, Link}
use Rattle.frang_base.specs.Functions.{put2}
use Rattle.disk_definitions.specs.Store.{Store, StoredEntry}
use Rattle.disk_definitions.specs.Store.Use.{Entries}
use Rattle.disk_definitions.specs.Naming.{Naming, Nodes, Pictures, blocks_of, room_in, use_by, use_for, dir_place}
use Rattle.disk_definitions.proofs.Puts.{put2_other}

pub room_le : (x : Option Node) → room_in x ≤ blocks_of x
room_le None = omega arith
room_le (Some (Dir entries blocks)) = omega arith
room_le (Some (File cells links when)) = omega arith
room_le (Some (Link target links)) = omega arith

pub which_block : (q k : ℕ) → q < 56 * k → q / 56 < k
which_block q k l = let e : 56 * (q / 56) + q % 56 ≡ q = div-add-mod q 56 in omega arith

pub block_room : (x : Option Node) (q : ℕ) → q < 56 * room_in x → q / 56 < blocks_of x
block_room x q l = let a : q / 56 < room_in x = which_block q (room_in x) l in let b : room_in x ≤ blocks_of x = room_le x in omega arith

pub same_place : (q p : ℕ) → q / 56 ≡ p / 56 → q % 56 ≡ p % 56 → q ≡ p
same_place q p a b = let e : 56 * (q / 56) + q % 56 ≡ q = div-add-mod q 56 in let f : 56 * (p / 56) + p % 56 ≡ p = div-add-mod p 56 in omega arith

-- no two directories share a place
pub other_place : (s : Store) (at : Nodes) (n : Naming) → Pictures s at n → (v : Option StoredEntry) (d q c p : ℕ) → q < 56 * room_in (at d) → p < 56 * room_in (at c) → (c ≡ d → p ≡ q → ⊥) →
    put2 s.place (n.block d (q / 56)) (q % 56) v (n.block c (p / 56)) (p % 56) ≡ dir_place s n c p
other_place s at n g v d q c p lq lp apart = put2_other s.place (n.block d (q / 56)) (q % 56) v (n.block c (p / 56)) (p % 56)
    (λ e f. let a : n.owner (n.block d (q / 56)) ≡ Some (d, q / 56) = g.owned d (q / 56) (block_room (at d) q lq) in
    let b : n.owner (n.block c (p / 56)) ≡ Some (c, p / 56) = g.owned c (p / 56) (block_room (at c) p lp) in
    let x : ℕ × ℕ = (c, p / 56) in let y : ℕ × ℕ = (d, q / 56) in let r : x ≡ y = same_Some x y (sym b ∙ ap n.owner e ∙ a) in
    apart (ap (λ z. z.0) r) (same_place p q (ap (λ z. z.1) r) f))

use_dir : (x : Option Node) (q : ℕ) → q < 56 * room_in x → use_by x ≡ Entries
use_dir None q l = absurd (omega arith)
use_dir (Some (Dir entries blocks)) q l = refl
use_dir (Some (File cells links when)) q l = absurd (omega arith)
use_dir (Some (Link target links)) q l = absurd (omega arith)

-- a directory's block is in use as one
pub dir_use : (s : Store) (at : Nodes) (n : Naming) → Pictures s at n → (d q : ℕ) → q < 56 * room_in (at d) → s.use_of (n.block d (q / 56)) ≡ Entries
dir_use s at n g d q l =
    let a : n.owner (n.block d (q / 56)) ≡ Some (d, q / 56) = g.owned d (q / 56) (block_room (at d) q l) in
    g.uses (n.block d (q / 56)) ∙ ap (use_for (n.was (n.block d (q / 56))) at) a ∙ use_dir (at d) q l
