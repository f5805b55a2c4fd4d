-- The operations on files and the looks go by the shape.
use Rattle.std.proofs.Common.{ℕ, zero, suc, ◌≡◌, ◌+◌, ◌-◌, ◌*◌, ◌&&◌, Option, Some, None, List, [], ◌∷◌, ◌++◌, length, map, take, drop, cond, max, nat_lt, refl, sym, ◌∙◌, ap, ap₂, subst}
use Rattle.std.proofs.lemmas.List.{length-map}
use Rattle.frang_base.specs.declared.limits.TheConstants.{FILE_BYTES_MAX, SEGMENT_BLOCKS}
use Rattle.frang_base.specs.declared.reply.Reply.TheVariants as reply
use Rattle.tree_definitions.specs.declared.cells.Cell.{Cell}
use Rattle.tree_definitions.specs.declared.cells.Cell.TheVariants.{Doubtful}
use Rattle.tree_definitions.specs.declared.node.Node.{Node}
use Rattle.tree_definitions.specs.declared.node.Node.TheVariants.{Dir, File, Link}
use Rattle.tree_definitions.specs.Tree.{FileTree, with_node, count_of, file_blocks, small_blocks_of, large_blocks_of, larges_full}
use Rattle.tree_definitions.specs.Apply.{Applied, Shows, says, if_file, overwritten, written, truncated, shown, described, listed, target_of}
use Rattle.tree_definitions.specs.Touched.{shape_of, shaped, doubts}
use Rattle.tree_laws.proofs.Rooms.{same_larges, same_left}
use Rattle.tree_laws.specs.Acting.{GoesByShape}
use Rattle.tree_laws.proofs.ShapeNodes.{doubts_again, again, with_alike, room_stays}
use Rattle.tree_laws.proofs.Outcomes.{stays, either}

-- ---- cells in doubt
doubts_long : (cells : List Cell) → length (doubts cells) ≡ length cells
doubts_long cells = length-map cells (λ c. Doubtful)

doubts_taken : (n : ℕ) (cells : List Cell) → take n (doubts cells) ≡ doubts (take n cells)
doubts_taken zero cells = refl
doubts_taken (suc n) [] = refl
doubts_taken (suc n) (c ∷ cells) = ap (λ l. Doubtful ∷ l) (doubts_taken n cells)

doubts_dropped : (n : ℕ) (cells : List Cell) → drop n (doubts cells) ≡ doubts (drop n cells)
doubts_dropped zero cells = refl
doubts_dropped (suc n) [] = refl
doubts_dropped (suc n) (c ∷ cells) = doubts_dropped n cells

doubts_joined : (xs ys : List Cell) → doubts (xs ++ ys) ≡ doubts xs ++ doubts ys
doubts_joined [] ys = refl
doubts_joined (x ∷ xs) ys = ap (λ l. Doubtful ∷ l) (doubts_joined xs ys)

-- written over cells in doubt, the same bytes leave as many cells
pub over_doubts : (cells : List Cell) (off : ℕ) (new : List Cell) → doubts (overwritten (doubts cells) off new) ≡ doubts (overwritten cells off new)
over_doubts cells off new =
    let end = off + length new in
    let front : doubts (take off (doubts cells)) ≡ doubts (take off cells) = ap doubts (doubts_taken off cells) ∙ doubts_again (take off cells) in
    let rest : doubts (drop end (doubts cells)) ≡ doubts (drop end cells) = ap doubts (doubts_dropped end cells) ∙ doubts_again (drop end cells) in
    parted (doubts cells) ∙ ap₂ (λ a b. (a ++ doubts new) ++ b) front rest ∙ sym (parted cells)
  where
    parted : (xs : List Cell) → doubts (overwritten xs off new) ≡ doubts (take off xs) ++ doubts new ++ doubts (drop (off + length new) xs)
    parted xs = doubts_joined (take off xs ++ new) (drop (off + length new) xs) ∙ ap (λ l. l ++ doubts (drop (off + length new) xs)) (doubts_joined (take off xs) new)

module _ (t : FileTree) where
  -- a file in the shape of a tree
  pub if_file_shape : (next after : ℕ → List Cell → ℕ → ℕ → Applied) → ((b : ℕ) (cells : List Cell) (links when : ℕ) → GoesByShape (next b cells links when) (after b (doubts cells) links when))
      → (b : ℕ) (o : Option Node) → GoesByShape (if_file t next b o) (if_file (shape_of t) after b (shaped o))
  if_file_shape next after each b (Some (File cells links when)) = each b cells links when
  if_file_shape next after each b (Some (Dir es n)) = stays t reply.IsDir
  if_file_shape next after each b (Some (Link target links)) = stays t reply.Inval
  if_file_shape next after each b None = stays t reply.NoEnt

  -- ---- write and fill, truncate
  filed : (b : ℕ) (cells others : List Cell) (links when : ℕ) → doubts others ≡ doubts cells → GoesByShape (says (with_node t b (File cells links when)) reply.Ok) (says (with_node (shape_of t) b (File others links when)) reply.Ok)
  filed b cells others links when e = record {
    answer = refl;
    tree = with_alike (shape_of t) t b (File others links when) (File cells links when) (again t) (ap (λ c. File c links when) e);
  }

  module _ (m b : ℕ) (cells : List Cell) (links when off len : ℕ) (put : List Cell → List Cell) (same : doubts (put (doubts cells)) ≡ doubts (put cells)) where
    pub written_shape : GoesByShape (written t m b cells links when off len put) (written (shape_of t) m b (doubts cells) links when off len put)
    written_shape = subst (λ size. GoesByShape (written t m b cells links when off len put) (by_size size)) (sym (doubts_long cells)) at_size
      where
        by_size : ℕ → Applied
        by_size size = cond (nat_lt size off) (says (shape_of t) reply.BadOffset)
            (cond (nat_lt FILE_BYTES_MAX (off + len)) (says (shape_of t) reply.TooBig)
            (cond (nat_lt (large_blocks_of size) (large_blocks_of (max size (off + len))) && larges_full (shape_of t)) (says (shape_of t) reply.NoLarge)
            (cond (nat_lt (SEGMENT_BLOCKS * (shape_of t).segments - m) (count_of file_blocks (shape_of t) + (small_blocks_of (max size (off + len)) - small_blocks_of size))) (says (shape_of t) (reply.NoBlock m))
            (says (with_node (shape_of t) b (File (put (doubts cells)) links when)) reply.Ok))))

        at_size : GoesByShape (written t m b cells links when off len put) (by_size (length cells))
        at_size =
            let size = max (length cells) (off + len) in
            let more = small_blocks_of size - small_blocks_of (length cells) in
            let longer = nat_lt (large_blocks_of (length cells)) (large_blocks_of size) in
            either (nat_lt (length cells) off) (nat_lt (length cells) off) _ _ _ _ refl (stays t reply.BadOffset)
            (either (nat_lt FILE_BYTES_MAX (off + len)) (nat_lt FILE_BYTES_MAX (off + len)) _ _ _ _ refl (stays t reply.TooBig)
            (either (longer && larges_full t) (longer && larges_full (shape_of t)) _ _ _ _ (ap (λ full. longer && full) (same_larges (shape_of t) t (room_stays t))) (stays t reply.NoLarge)
            (either (nat_lt (SEGMENT_BLOCKS * t.segments - m) (count_of file_blocks t + more)) (nat_lt (SEGMENT_BLOCKS * (shape_of t).segments - m) (count_of file_blocks (shape_of t) + more)) _ _ _ _
            (same_left (shape_of t) t m m more (room_stays t) refl) (stays t (reply.NoBlock m)) (filed b (put cells) (put (doubts cells)) links when same))))

  pub truncated_shape : (b : ℕ) (cells : List Cell) (links when len : ℕ) → GoesByShape (truncated t b cells links when len) (truncated (shape_of t) b (doubts cells) links when len)
  truncated_shape b cells links when len =
      either (nat_lt (length cells) len) (nat_lt (length (doubts cells)) len) _ _ _ _ (ap (λ size. nat_lt size len) (doubts_long cells)) (stays t reply.BadOffset)
      (filed b (take len cells) (take len (doubts cells)) links when (ap doubts (doubts_taken len cells) ∙ doubts_again (take len cells)))

  -- ---- looks
  pub shown_shape : (cells : List Cell) (off len : ℕ) → GoesByShape (shown t cells off len) (shown (shape_of t) (doubts cells) off len)
  shown_shape cells off len =
      either (nat_lt (length cells) off) (nat_lt (length (doubts cells)) off) _ _ _ _ (ap (λ size. nat_lt size off) (doubts_long cells)) (stays t reply.BadOffset)
      (record { answer = ap Shows (ap (take len) (doubts_dropped off cells) ∙ doubts_taken len (drop off cells)); tree = again t })

  pub described_shape : (o : Option Node) → GoesByShape (described t o) (described (shape_of t) (shaped o))
  described_shape (Some (File cells links when)) = subst (λ size. GoesByShape (described t (Some (File cells links when))) (says (shape_of t) (reply.File size links))) (sym (doubts_long cells)) (stays t (reply.File (length cells) links))
  described_shape (Some (Dir es n)) = stays t (reply.Dir (length es))
  described_shape (Some (Link target links)) = stays t (reply.Symlink (length target))
  described_shape None = stays t reply.NoEnt

  pub listed_shape : (o : Option Node) → GoesByShape (listed t o) (listed (shape_of t) (shaped o))
  listed_shape (Some (Dir es n)) = stays t (reply.Names (map (λ e. e.0) es))
  listed_shape (Some (File cells links when)) = stays t reply.NotDir
  listed_shape (Some (Link target links)) = stays t reply.NotDir
  listed_shape None = stays t reply.NoEnt

  pub target_shape : (o : Option Node) → GoesByShape (target_of t o) (target_of (shape_of t) (shaped o))
  target_shape (Some (Link target links)) = stays t (reply.Target target)
  target_shape (Some (Dir es n)) = stays t reply.Inval
  target_shape (Some (File cells links when)) = stays t reply.Inval
  target_shape None = stays t reply.NoEnt
