-- What an entry doesn't touch stays.
use Rattle.std.proofs.Common.{ℕ, ◌≡◌, ◌≢◌, Bool, true, false, ◌&&◌, ◌||◌, Option, Some, None, List, [], ◌∷◌, ◌++◌, map, cond, refl, sym, ◌∙◌, ap, subst}
use Rattle.frang_base.specs.declared.op.Op.{Op}
use Rattle.frang_base.specs.declared.op.Op.TheVariants as op
use Rattle.frang_base.specs.declared.reply.Reply.{Reply}
use Rattle.frang_base.specs.declared.reply.Reply.TheVariants as reply
use Rattle.tree_definitions.specs.declared.cells.Cell.{Cell}
use Rattle.tree_definitions.specs.declared.cells.Cell.TheVariants.{Byte}
use Rattle.tree_definitions.specs.declared.history.Entry.{Entry}
use Rattle.tree_definitions.specs.declared.node.Node.{Node}
use Rattle.tree_definitions.specs.declared.node.Node.TheVariants.{Dir, File, Link}
use Rattle.tree_definitions.specs.Tree.{FileTree, node_at}
use Rattle.tree_definitions.specs.Place.{Place, Root, Taken, Free, Nowhere, place}
use Rattle.tree_definitions.specs.Apply.{apply, overwritten}
use Rattle.tree_definitions.specs.Perform.{Step, Goes, Stops, resolved, perform_step}
use Rattle.tree_definitions.specs.History.{applied, is_answer, told_blocks, leaves_tree, tree_after, after_read, after_step, with_shown, file_at, file_of}
use Rattle.tree_definitions.specs.Touched.{touches, changes, differs, looked_in, further, visited, reached, reached_if, file_node}
use Rattle.tree_laws.proofs.Nodes.{with_other}
use Rattle.tree_laws.proofs.Sameness.{alike_at}
use Rattle.tree_laws.proofs.Places.{is_in, head_is_in}
use Rattle.tree_laws.proofs.Refusals.{looks_leave}
use Rattle.tree_laws.proofs.Applying.{in_right}

-- what an entry's walks go through, what it looks in, and the further node, are touched
pub looked_is_touched : (tree : FileTree) (e : Entry) (b : ℕ) → is_answer tree e ≡ true → is_in b ((resolved tree e.op).trail ++ visited tree (resolved tree e.op).step e.reply) ≡ true → touches tree e b ≡ true
looked_is_touched tree e b answered h = go (is_answer tree e) (changes tree e b) answered
  where
    go : (a c : Bool) → a ≡ true → a && (c || is_in b ((resolved tree e.op).trail ++ visited tree (resolved tree e.op).step e.reply)) ≡ true
    go true true i = refl
    go true false i = h
    go false c i = cc

pub changed_is_touched : (tree : FileTree) (e : Entry) (b : ℕ) → is_answer tree e ≡ true → differs tree (applied tree e).tree b ≡ true → touches tree e b ≡ true
changed_is_touched tree e b answered h = go (is_answer tree e) answered
  where
    go : (a : Bool) → a ≡ true → a && (a && differs tree (applied tree e).tree b || is_in b ((resolved tree e.op).trail ++ visited tree (resolved tree e.op).step e.reply)) ≡ true
    go true i = ap (λ d. d || is_in b ((resolved tree e.op).trail ++ visited tree (resolved tree e.op).step e.reply)) h
    go false i = cc

-- an untouched node isn't changed, nor looked in, nor the further one
untouched_parts : (a d l : Bool) → a ≡ true → a && (a && d || l) ≡ false → (d ≡ false) × (l ≡ false)
untouched_parts true true l i h = cc
untouched_parts true false l i h = (refl, h)
untouched_parts false d l i h = absurd (cc)

pub untouched_is_left : (tree : FileTree) (e : Entry) (b : ℕ) → is_answer tree e ≡ true → touches tree e b ≡ false → node_at (applied tree e).tree b ≡ node_at tree b
untouched_is_left tree e b answered h = sym (alike_at tree (applied tree e).tree b (untouched_parts (is_answer tree e) (differs tree (applied tree e).tree b) (is_in b ((resolved tree e.op).trail ++ visited tree (resolved tree e.op).step e.reply)) answered h).0)

-- the file that a read shows
file_reached : (b : ℕ) (o : Option Node) (f : ℕ × (List Cell × (ℕ × ℕ))) → file_of b o ≡ Some f → is_in f.0 (reached_if file_node b o) ≡ true
file_reached b (Some (File cells links when)) f h = let e : b ≡ f.0 = ap (λ o. elim o as (λ x. ℕ) [ None ↦ b | Some g ↦ g.0 ]) h in subst (λ c. is_in c (b ∷ []) ≡ true) e (head_is_in b [])
file_reached b (Some (Dir es n)) f h = cc
file_reached b (Some (Link target links)) f h = cc
file_reached b None f h = cc

pub file_at_reached : (tree : FileTree) (p : Place) (f : ℕ × (List Cell × (ℕ × ℕ))) → file_at tree p ≡ Some f → is_in f.0 (reached tree file_node p) ≡ true
file_at_reached tree Root f h = cc
file_at_reached tree (Taken dir es n name b) f h = file_reached b (node_at tree b) f h
file_at_reached tree (Free dir es n name) f h = cc
file_at_reached tree (Nowhere r) f h = cc

shown_leaves : (tree : FileTree) (o : Option (ℕ × (List Cell × (ℕ × ℕ)))) (off : ℕ) (bytes : List ℕ) (b : ℕ) → ((f : ℕ × (List Cell × (ℕ × ℕ))) → o ≡ Some f → b ≢ f.0) → node_at (with_shown tree o off bytes) b ≡ node_at tree b
shown_leaves tree None off bytes b n = refl
shown_leaves tree (Some f) off bytes b n = with_other tree f.0 (File (overwritten f.1.0 off (map Byte bytes)) f.1.1.0 f.1.1.1) b (n f refl)

read_leaves : (tree : FileTree) (o : Op) (r : Reply) (b birth when m : ℕ) → is_in b (further tree o r) ≡ false → node_at (after_read (apply tree o birth when m).tree o r) b ≡ node_at (apply tree o birth when m).tree b
read_leaves tree (op.Read path off len) (reply.Shown bytes) b birth when m h =
    let e = looks_leave tree (op.Read path off len) birth when m refl in
    subst (λ t. node_at (with_shown t (file_at t (place t path)) off bytes) b ≡ node_at t b) (sym e)
    (shown_leaves tree (file_at tree (place tree path)) off bytes b
    (λ f i j. let w : is_in b (reached tree file_node (place tree path)) ≡ true = subst (λ c. is_in c (reached tree file_node (place tree path)) ≡ true) (sym j) (file_at_reached tree (place tree path) f i) in cc))
read_leaves tree (op.Read path off len) _ b birth when m h = refl
read_leaves tree _ r b birth when m h = refl

pub not_in_right : (b : ℕ) (xs ys : List ℕ) → is_in b (xs ++ ys) ≡ false → is_in b ys ≡ false
not_in_right b xs ys h = go (is_in b ys) refl
  where
    go : (t : Bool) → is_in b ys ≡ t → is_in b ys ≡ false
    go true e = let w : is_in b (xs ++ ys) ≡ true = in_right b xs ys e in cc
    go false e = e

step_leaves : (tree : FileTree) (s : Step) (r : Reply) (b birth when m : ℕ) → is_in b (visited tree s r) ≡ false → node_at (after_step (perform_step tree s birth when m).tree s r) b ≡ node_at (perform_step tree s birth when m).tree b
step_leaves tree (Goes o) r b birth when m h = read_leaves tree o r b birth when m (not_in_right b (looked_in tree o) (further tree o r) h)
step_leaves tree (Stops q) r b birth when m h = refl

pub untouched_stays : (tree : FileTree) (e : Entry) (b : ℕ) → touches tree e b ≡ false → node_at (tree_after tree e) b ≡ node_at tree b
untouched_stays tree e b h = go (leaves_tree e.op e.reply) (is_answer tree e) refl
  where
    go : (l a : Bool) → is_answer tree e ≡ a → node_at (cond l tree (cond a (after_step (applied tree e).tree (resolved tree e.op).step e.reply) tree)) b ≡ node_at tree b
    go true a i = refl
    go false false i = refl
    go false true i =
        let p = untouched_parts (is_answer tree e) (differs tree (applied tree e).tree b) (is_in b ((resolved tree e.op).trail ++ visited tree (resolved tree e.op).step e.reply)) i h in
        step_leaves tree (resolved tree e.op).step e.reply b e.number.0 e.when (told_blocks tree e.reply) (not_in_right b (resolved tree e.op).trail (visited tree (resolved tree e.op).step e.reply) p.1) ∙ untouched_is_left tree e b i h
