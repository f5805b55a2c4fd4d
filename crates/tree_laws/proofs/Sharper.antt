-- What an entry doesn't change is as it was, or it is a file of which it read bytes that were in doubt.
use Rattle.std.proofs.Common.{ℕ, ◌≡◌, Bool, true, false, ◌&&◌, Option, Some, None, List, [], ◌∷◌, length, map, take, drop, cond, refl, sym, ap, subst, nat_lt}
use Rattle.std.proofs.lemmas.Bool.{and_parts}
use Rattle.frang_base.specs.declared.op.Op.{Op}
use Rattle.frang_base.specs.declared.op.Op.TheVariants as op
use Rattle.frang_base.specs.declared.reply.Reply.{Reply}
use Rattle.frang_base.specs.declared.reply.Reply.TheVariants as reply
use Rattle.tree_definitions.specs.declared.cells.Cell.{Cell}
use Rattle.tree_definitions.specs.declared.cells.Cell.TheVariants.{Byte}
use Rattle.tree_definitions.specs.declared.history.Entry.{Entry}
use Rattle.tree_definitions.specs.declared.node.Node.{Node}
use Rattle.tree_definitions.specs.declared.node.Node.TheVariants.{Dir, File, Link}
use Rattle.tree_definitions.specs.Tree.{FileTree, node_at, with_node}
use Rattle.tree_definitions.specs.Place.{Place, Root, Taken, Free, Nowhere, place}
use Rattle.tree_definitions.specs.Apply.{Plain, Shows, Applied, says, apply, at_file, if_file, shown, overwritten, is_path_op}
use Rattle.tree_definitions.specs.Perform.{Step, Goes, Stops, resolved, perform_step}
use Rattle.tree_definitions.specs.History.{applied, is_answer, agrees, told_blocks, leaves_tree, tree_after, after_read, after_step, with_shown, file_at, file_of}
use Rattle.tree_definitions.specs.Touched.{changes, differs}
use Rattle.tree_definitions.proofs.Births.{each_but}
use Rattle.tree_laws.proofs.Nodes.{with_same, with_other}
use Rattle.tree_laws.proofs.Likeness.{Like, like_same, like_equal}
use Rattle.tree_laws.specs.Alike.{Vaguer}
use Rattle.tree_laws.proofs.Vagueness.{vague, shown_is_sharper}
use Rattle.tree_laws.proofs.Sameness.{alike_at}
use Rattle.tree_laws.proofs.Refusals.{looks_leave}
use Rattle.tree_laws.proofs.StepsLaws.{file_at_is}

-- what is asked of the file at a place
asked : (t : FileTree) (next : ℕ → List Cell → ℕ → ℕ → Applied) (b : ℕ) (o : Option Node) (f : ℕ × (List Cell × (ℕ × ℕ))) → file_of b o ≡ Some f → if_file t next b o ≡ next f.0 f.1.0 f.1.1.0 f.1.1.1
asked t next b (Some (File cells links when)) f h = let e : (b, (cells, (links, when))) ≡ f = cc in ap (λ f. next f.0 f.1.0 f.1.1.0 f.1.1.1) e
asked t next b (Some (Dir es n)) f h = cc
asked t next b (Some (Link target links)) f h = cc
asked t next b None f h = cc

at_file_asks : (t : FileTree) (next : ℕ → List Cell → ℕ → ℕ → Applied) (p : Place) (f : ℕ × (List Cell × (ℕ × ℕ))) → file_at t p ≡ Some f → at_file t p next ≡ next f.0 f.1.0 f.1.1.0 f.1.1.1
at_file_asks t next Root f h = cc
at_file_asks t next (Taken d es n name b) f h = asked t next b (node_at t b) f h
at_file_asks t next (Free d es n name) f h = cc
at_file_asks t next (Nowhere r) f h = cc

not_shown : (bytes : List ℕ) → agrees (Plain reply.BadOffset) (reply.Shown bytes) ≡ true → ⊥
not_shown [] h = cc
not_shown (b ∷ bytes) h = cc

shown_cells : (t : FileTree) (cells : List Cell) (off len : ℕ) (bytes : List ℕ) → agrees (shown t cells off len).answer (reply.Shown bytes) ≡ true → Vaguer (overwritten cells off (map Byte bytes)) cells
shown_cells t cells off len bytes h = go (nat_lt (length cells) off) h
  where
    go : (b : Bool) → agrees (cond {A = Applied} b (says t reply.BadOffset) (record { answer = Shows (take len (drop off cells)); tree = t })).answer (reply.Shown bytes) ≡ true → Vaguer (overwritten cells off (map Byte bytes)) cells
    go true h = absurd (not_shown bytes h)
    go false h = shown_is_sharper cells off len bytes h

shown_sharper : (t : FileTree) (o : Option (ℕ × (List Cell × (ℕ × ℕ)))) (off : ℕ) (bytes : List ℕ) → ((f : ℕ × (List Cell × (ℕ × ℕ))) → o ≡ Some f → (node_at t f.0 ≡ Some (File f.1.0 f.1.1.0 f.1.1.1)) × Vaguer (overwritten f.1.0 off (map Byte bytes)) f.1.0)
    → (b : ℕ) → Like vague (node_at (with_shown t o off bytes) b) (node_at t b)
shown_sharper t None off bytes h b = like_same vague (node_at t b)
shown_sharper t (Some f) off bytes h b =
    let new = File (overwritten f.1.0 off (map Byte bytes)) f.1.1.0 f.1.1.1 in
    let g = h f refl in
    each_but (λ c. Like vague (node_at (with_node t f.0 new) c) (node_at t c)) f.0
    (subst (λ z. Like vague z (node_at t f.0)) (sym (with_same t f.0 new)) (f.1.0, g.0, g.1))
    (λ c far. like_equal vague (node_at (with_node t f.0 new) c) (node_at t c) (with_other t f.0 new c far)) b

read_sharper : (t : FileTree) (o : Op) (r : Reply) (n when m b : ℕ) → agrees (apply t o n when m).answer r ≡ true → Like vague (node_at (after_read (apply t o n when m).tree o r) b) (node_at (apply t o n when m).tree b)
read_sharper t (op.Read path off len) (reply.Shown bytes) n when m b told =
    let next = λ (b : ℕ) (cells : List Cell) (links at : ℕ). shown t cells off len in
    subst (λ u. Like vague (node_at (with_shown u (file_at u (place u path)) off bytes) b) (node_at u b)) (sym (looks_leave t (op.Read path off len) n when m refl))
    (shown_sharper t (file_at t (place t path)) off bytes
    (λ f e. (file_at_is t (place t path) f e, shown_cells t f.1.0 off len bytes (subst (λ a. agrees a.answer (reply.Shown bytes) ≡ true) (at_file_asks t next (place t path) f e) told))) b)
read_sharper t (op.Read path off len) _ n when m b told = like_same vague (node_at (apply t (op.Read path off len) n when m).tree b)
read_sharper t o r n when m b told = like_same vague (node_at (apply t o n when m).tree b)

step_sharper : (t : FileTree) (s : Step) (r : Reply) (n when m b : ℕ) → agrees (perform_step t s n when m).answer r ≡ true → Like vague (node_at (after_step (perform_step t s n when m).tree s r) b) (node_at (perform_step t s n when m).tree b)
step_sharper t (Goes o) r n when m b told = read_sharper t o r n when m b told
step_sharper t (Stops q) r n when m b told = like_same vague (node_at t b)

pub sharper_after : (t : FileTree) (e : Entry) (b : ℕ) → changes t e b ≡ false → Like vague (node_at (tree_after t e) b) (node_at t b)
sharper_after t e b h = go (leaves_tree e.op e.reply) (is_answer t e) refl
  where
    unchanged : (a d : Bool) → a ≡ true → a && d ≡ false → d ≡ false
    unchanged true d i h = h
    unchanged false d i h = absurd (cc)

    go : (l a : Bool) → is_answer t e ≡ a → Like vague (node_at (cond l t (cond a (after_step (applied t e).tree (resolved t e.op).step e.reply) t)) b) (node_at t b)
    go true a i = like_same vague (node_at t b)
    go false false i = like_same vague (node_at t b)
    go false true i =
        let same : node_at t b ≡ node_at (applied t e).tree b = alike_at t (applied t e).tree b (unchanged (is_answer t e) (differs t (applied t e).tree b) i h) in
        subst (Like vague (node_at (after_step (applied t e).tree (resolved t e.op).step e.reply) b)) (sym same)
        (step_sharper t (resolved t e.op).step e.reply e.number.0 e.when (told_blocks t e.reply) b (and_parts (is_path_op e.op) (agrees (applied t e).answer e.reply) i).1)
