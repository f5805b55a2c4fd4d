-- What is answered in a tree with a byte for each cell, is answered in the tree, and leaves what stands.
use Rattle.std.proofs.Common.{ℕ, zero, suc, ◌≡◌, Bool, true, false, Option, Some, None, List, [], ◌∷◌, cond, refl, sym, ◌∙◌, ap, inl, inr, ◌⊎◌}
use Rattle.std.specs.List.{slice_get}
use Rattle.frang_base.specs.declared.op.Op.{Op}
use Rattle.frang_base.specs.declared.op.Op.TheVariants as op
use Rattle.frang_base.specs.declared.reply.Reply.{Reply}
use Rattle.tree_definitions.specs.declared.cells.Cell.{Cell}
use Rattle.tree_definitions.specs.declared.cells.Cell.TheVariants.{Byte, Doubtful}
use Rattle.tree_definitions.specs.declared.history.Entry.{Entry}
use Rattle.tree_definitions.specs.declared.node.Node.{Node}
use Rattle.tree_definitions.specs.declared.node.Node.TheVariants.{Dir, File, Link}
use Rattle.tree_definitions.specs.History.{after_read, after_step, applied, is_answer, leaves_tree, told_blocks, tree_after}
use Rattle.tree_definitions.specs.Perform.{Step, Goes, Stops, resolved}
use Rattle.tree_definitions.specs.Tree.{FileTree, node_at}
use Rattle.tree_laws.specs.Refusals.{is_look}
use Rattle.tree_definitions.specs.WellFormed.{IsNew, IsWellFormed}
use Rattle.tree_laws.proofs.Alike as alike
use Rattle.tree_laws.proofs.FreshLaws.{walkable}
use Rattle.tree_laws.proofs.Joint.{joint_near}
use Rattle.tree_laws.proofs.Likeness.{Like}
use Rattle.tree_laws.proofs.Resolving.{IsOf, Shaped, performed_looks_leave, resolved_is}
use Rattle.tree_laws.proofs.ShapeLaws.{looks_change_nothing}
use Rattle.tree_laws.specs.Alike.{Vaguer}
use Rattle.tree_laws.proofs.Vagueness.{vague}
use Rattle.tree_laws.proofs.Sharper.{sharper_after}
use Rattle.disk_definitions.specs.Naming.{cell_in}
use Rattle.byte_trees.specs.Sharp.{AnswersKeepWhatStands, NamesNoOthers, sharp}
use Rattle.byte_trees.proofs.Nodes.{kinds_sharp, near_sharp, new_sharp, no_doubt, room_same, sharp_stand, shape_same}

-- ---- a byte of vaguer cells is one of the cells
vague_byte : (xs ys : List Cell) (j x : ℕ) → Vaguer xs ys → slice_get ys j ≡ Some (Byte x) → slice_get xs j ≡ Some (Byte x)
vague_byte [] [] j x l e = absurd (cc)
vague_byte [] (y ∷ ys) j x l e = absurd l
vague_byte (c ∷ xs) [] j x l e = absurd l
vague_byte (c ∷ xs) (y ∷ ys) zero x l e = go l.0
  where
    go : (c ≡ y) ⊎ (y ≡ Doubtful) → Some c ≡ Some (Byte x)
    go (inl i) = let k : y ≡ Byte x = cc in ap (λ z. Some z) (i ∙ k)
    go (inr i) = absurd (let k : y ≡ Byte x = cc in let z : Doubtful ≡ Byte x = sym i ∙ k in cc)
vague_byte (c ∷ xs) (y ∷ ys) (suc j) x l e = vague_byte xs ys j x l.1 e

like_byte : (o q : Option Node) (j x : ℕ) → Like vague o q → cell_in q j ≡ Some (Byte x) → cell_in o j ≡ Some (Byte x)
like_byte None q j x l e = ap (λ z. cell_in z j) (sym l) ∙ e
like_byte (Some (Dir es n)) q j x l e = ap (λ z. cell_in z j) (sym l) ∙ e
like_byte (Some (Link target links)) q j x l e = ap (λ z. cell_in z j) (sym l) ∙ e
like_byte (Some (File cells links when)) q j x l e = vague_byte cells l.0 j x l.2 (ap (λ z. cell_in z j) (sym l.1) ∙ e)

-- where each byte is one of a tree whose cells name no others
names_vaguer : (t u : FileTree) (bytes : ℕ → ℕ → ℕ) → ((b j x : ℕ) → cell_in (node_at u b) j ≡ Some (Byte x) → cell_in (node_at t b) j ≡ Some (Byte x)) → NamesNoOthers t bytes → NamesNoOthers u bytes
names_vaguer t u bytes same names b j (Byte x) e = names b j (Byte x) (same b j x e)
names_vaguer t u bytes same names b j Doubtful e = tt

-- ---- where no cell is in doubt, a byte of sharper cells is one of these
sharp_back : (xs ys : List Cell) (j x : ℕ) → Vaguer xs ys → (slice_get ys j ≡ Some Doubtful → ⊥) → slice_get xs j ≡ Some (Byte x) → slice_get ys j ≡ Some (Byte x)
sharp_back [] [] j x l sure e = absurd (cc)
sharp_back [] (y ∷ ys) j x l sure e = absurd l
sharp_back (c ∷ xs) [] j x l sure e = absurd l
sharp_back (c ∷ xs) (y ∷ ys) zero x l sure e = go l.0
  where
    go : (c ≡ y) ⊎ (y ≡ Doubtful) → Some y ≡ Some (Byte x)
    go (inl i) = ap (λ z. Some z) (sym i) ∙ e
    go (inr i) = absurd (sure (ap (λ z. Some z) i))
sharp_back (c ∷ xs) (y ∷ ys) (suc j) x l sure e = sharp_back xs ys j x l.1 sure e

like_back : (o q : Option Node) (j x : ℕ) → Like vague o q → (cell_in q j ≡ Some Doubtful → ⊥) → cell_in o j ≡ Some (Byte x) → cell_in q j ≡ Some (Byte x)
like_back None q j x l sure e = ap (λ z. cell_in z j) l ∙ e
like_back (Some (Dir es n)) q j x l sure e = ap (λ z. cell_in z j) l ∙ e
like_back (Some (Link target links)) q j x l sure e = ap (λ z. cell_in z j) l ∙ e
like_back (Some (File cells links when)) q j x l sure e =
    let there : cell_in q j ≡ slice_get l.0 j = ap (λ z. cell_in z j) l.1 in
    there ∙ sharp_back cells l.0 j x l.2 (λ d. sure (there ∙ d)) e

-- ---- an operation that isn't a look
not_look : (o : Op) → is_look o ≡ false → Shaped (λ q. is_look q ≡ false) o
not_look (op.Create path) h = λ p. h
not_look (op.Mkdir path) h = λ p. h
not_look (op.Symlink path target) h = λ p. h
not_look (op.Link path to) h = λ p q. h
not_look (op.Unlink path) h = λ p. h
not_look (op.Rmdir path) h = λ p. h
not_look (op.Rename path to) h = λ p q. h
not_look (op.Write path off bytes) h = λ p. h
not_look (op.Fill path off len byte) h = λ p. h
not_look (op.Truncate path len) h = λ p. h
not_look (op.Read path off len) h = λ p. h
not_look (op.Stat path) h = λ p. h
not_look (op.List path) h = λ p. h
not_look (op.Readlink path) h = λ p. h
not_look (op.Time path) h = λ p. h
not_look op.Sync h = h
not_look op.Mount h = h
not_look op.Unmount h = h
not_look op.Crash h = h
not_look (op.CrashAt k) h = h
not_look (op.CutAt k) h = h
not_look op.Stall h = h

not_read : (u : FileTree) (o : Op) (r : Reply) → is_look o ≡ false → after_read u o r ≡ u
not_read u (op.Read path off len) r h = absurd (cc)
not_read u o r h = refl

not_step : (u : FileTree) (s : Step) (r : Reply) → IsOf (λ q. is_look q ≡ false) s → after_step u s r ≡ u
not_step u (Goes o) r h = not_read u o r h
not_step u (Stops q) r h = refl

-- ---- an entry
module _ (t : FileTree) (e : Entry) (acts : leaves_tree e.op e.reply ≡ false) (answered : is_answer t e ≡ true) where
  after_is : (l a : Bool) → l ≡ false → a ≡ true → cond l t (cond a (after_step (applied t e).tree (resolved t e.op).step e.reply) t) ≡ after_step (applied t e).tree (resolved t e.op).step e.reply
  after_is true a i j = absurd (cc)
  after_is false true i j = refl
  after_is false false i j = absurd (cc)

  -- where no cell is in doubt, each byte after an entry is one that the operation left
  pub byte_left : ((b j : ℕ) → cell_in (node_at t b) j ≡ Some Doubtful → ⊥) → (b j x : ℕ) → cell_in (node_at (tree_after t e) b) j ≡ Some (Byte x) → cell_in (node_at (applied t e).tree b) j ≡ Some (Byte x)
  byte_left sure b j x h = go (is_look e.op) refl
    where
      go : (l : Bool) → is_look e.op ≡ l → cell_in (node_at (applied t e).tree b) j ≡ Some (Byte x)
      go true i =
          ap (λ u. cell_in (node_at u b) j) (performed_looks_leave t e.op e.number.0 e.when (told_blocks t e.reply) i)
          ∙ like_back (node_at (tree_after t e) b) (node_at t b) j x (sharper_after t e b (looks_change_nothing t e b i)) (sure b j) h
      go false i =
          ap (λ u. cell_in (node_at u b) j)
          (sym (after_is (leaves_tree e.op e.reply) (is_answer t e) acts answered ∙ not_step (applied t e).tree (resolved t e.op).step e.reply (resolved_is (λ q. is_look q ≡ false) t e.op (not_look e.op i))))
          ∙ h

module _ (t : FileTree) (e : Entry) (f after : ℕ → ℕ → ℕ) (well : IsWellFormed t) (new : IsNew t e.number.0) (names : NamesNoOthers t f) (acts : leaves_tree e.op e.reply ≡ false)
    (answered : is_answer (sharp f t) e ≡ true) (names_then : NamesNoOthers (applied (sharp f t) e).tree after) where
  abbrev one : FileTree
  one = sharp f t

  alike_in : alike.Roomy one t e
  alike_in = inr (room_same one t (shape_same f t))

  near : (b : ℕ) → Like vague (node_at one b) (node_at t b)
  near = near_sharp f t names

  also : is_answer t e ≡ true
  also = alike.answered_two vague one t e (walkable one (sharp_stand f t well).well_formed) (walkable t well) (kinds_sharp f t) (new_sharp f t e.number.0 new) new answered alike_in (λ b i. near b)

  near_after : (b : ℕ) → Like vague (node_at (tree_after one e) b) (node_at (tree_after t e) b)
  near_after b =
      joint_near vague one t (tree_after one e) (tree_after t e)
      (alike.after_joint vague one t e (walkable one (sharp_stand f t well).well_formed) (walkable t well) (kinds_sharp f t) (new_sharp f t e.number.0 new) new answered alike_in (λ b i. near b)) b (near b)

  pub kept_names : NamesNoOthers (tree_after t e) after
  kept_names = names_vaguer (applied one e).tree (tree_after t e) after
      (λ b j x h. byte_left one e acts answered (no_doubt f t) b j x (like_byte (node_at (tree_after one e) b) (node_at (tree_after t e) b) j x (near_after b) h)) names_then

pub answers_keep : AnswersKeepWhatStands
answers_keep t e f after well new names acts answered names_then =
    record { answer = also t e f after well new names acts answered names_then; names = kept_names t e f after well new names acts answered names_then }
