-- Looks leave the shape; directories never have fewer blocks; what has no path touches nothing.
use Rattle.std.proofs.Common.{ℕ, ◌≡◌, ◌≤◌, ◌+◌, ◌-◌, ◌==◌, Bool, true, false, ◌&&◌, ◌||◌, Option, Some, None, List, [], ◌∷◌, ◌++◌, length, map, take, drop, cond, refl, sym, ap, subst, nat_lt, arith, le_refl, length-append, length-drop, length-take, min}
use Rattle.std.proofs.lemmas.List.{length-map}
use Rattle.std.proofs.lemmas.Bool.{and_parts, ltb-false, and_right}
use Rattle.std.specs.List.{list_any}
use Rattle.std.specs.Ordering.{nat_cmp}
use Rattle.frang_base.specs.declared.op.Op.{Op}
use Rattle.frang_base.specs.declared.op.Op.TheVariants as op
use Rattle.frang_base.specs.declared.reply.Reply.{Reply}
use Rattle.frang_base.specs.declared.reply.Reply.TheVariants as reply
use Rattle.tree_definitions.specs.declared.cells.Cell.{Cell}
use Rattle.tree_definitions.specs.declared.cells.Cell.TheVariants.{Byte, Doubtful}
use Rattle.tree_definitions.specs.declared.history.Entry.{Entry}
use Rattle.tree_definitions.specs.declared.node.Node.{Node}
use Rattle.tree_definitions.specs.declared.node.Node.TheVariants.{Dir, File, Link}
use Rattle.tree_definitions.specs.Entries.{Entries}
use Rattle.tree_definitions.specs.Tree.{FileTree, node_at, dir_blocks}
use Rattle.tree_definitions.specs.Place.{Place, Root, Taken, Free, Nowhere, place}
use Rattle.tree_definitions.specs.Apply.{Applied, Plain, Shows, says, apply, at_file, if_file, shown, overwritten, is_path_op}
use Rattle.tree_definitions.specs.Perform.{Step, Goes, Stops, resolved, perform_step}
use Rattle.tree_definitions.specs.History.{applied, is_answer, agrees, cells_show, cell_shows, told_blocks, leaves_tree, tree_after, after_read, after_step, with_shown, file_at, file_of}
use Rattle.tree_definitions.specs.Touched.{touches, changes, differs, node_shape, shape_of, visited}
use Rattle.tree_laws.specs.Refusals.{is_look}
use Rattle.tree_definitions.specs.WellFormed.{IsWellFormed, IsNew, BirthsAscend}
use Rattle.tree_definitions.proofs.Pairs.{birth_exact, seen_kept}
use Rattle.tree_laws.proofs.Refusals.{looks_leave}
use Rattle.tree_laws.proofs.Resolving.{IsOf, Looks, resolved_looks, performed_looks_leave}
use Rattle.tree_laws.proofs.Sameness.{no_difference}
use Rattle.tree_laws.proofs.Balance.{Limits, Within}
use Rattle.tree_laws.proofs.WellFormedLaws.{Makes, apply_well}
use Rattle.tree_laws.proofs.StepsLaws.{file_at_is}

-- ---- blocks
abbrev blocks_at : Option Node → ℕ
blocks_at (Some x) = dir_blocks x
blocks_at None = 0

abbrev since : FileTree → Limits
since t = record { allowed = λ b k. Unit {0}; least = λ b. blocks_at (node_at t b) }

since_within : (t : FileTree) (b : ℕ) (z : Node) → node_at t b ≡ Some z → Within (since t) b z
since_within t b (Dir es n) is = (tt, subst (λ o. blocks_at o ≤ n) (sym is) (le_refl n))
since_within t b (File cells links when) is = tt
since_within t b (Link target links) is = tt

since_makes : (t : FileTree) (o : Op) (b : ℕ) → IsNew t b → Makes (since t) o b
since_makes t (op.Create path) b new = tt
since_makes t (op.Mkdir path) b new = (tt, subst (λ o. blocks_at o ≤ 0) (sym new) (le_refl 0))
since_makes t (op.Symlink path target) b new = tt
since_makes t _ b new = tt

pub blocks_never_fall : (t : FileTree) (o : Op) (b when m : ℕ) → IsWellFormed t → IsNew t b → (dir : ℕ) (before now : Entries) (n k : ℕ) → node_at t dir ≡ Some (Dir before n) → node_at (apply t o b when m).tree dir ≡ Some (Dir now k) → n ≤ k
blocks_never_fall t o b when m w new dir before now n k is now_is =
    let r = apply_well (since t) t (record { well = w; allowed = since_within t }) o b when m new (since_makes t o b new) in
    subst (λ v. blocks_at v ≤ k) is (r.allowed dir (Dir now k) now_is).1

-- ---- looks and what has no path

pub looks_change_nothing : (t : FileTree) (e : Entry) (b : ℕ) → is_look e.op ≡ true → changes t e b ≡ false
looks_change_nothing t e b h = and_right (is_answer t e) (differs t (applied t e).tree b)
    (no_difference t (applied t e).tree b (ap (λ u. node_at u b) (sym (performed_looks_leave t e.op e.number.0 e.when (told_blocks t e.reply) h))))

pub no_path_touches_nothing : (t : FileTree) (e : Entry) (b : ℕ) → is_path_op e.op ≡ false → touches t e b ≡ false
no_path_touches_nothing t e b h = ap (λ a. a && agrees (applied t e).answer e.reply && (changes t e b || list_any (λ c. c == b) ((resolved t e.op).trail ++ visited t (resolved t e.op).step e.reply))) h

-- ---- the shape
pub doubt_alike : (xs ys : List Cell) → length xs ≡ length ys → map (λ c. Doubtful) xs ≡ map (λ c. Doubtful) ys
doubt_alike [] [] h = refl
doubt_alike [] (y ∷ ys) h = absurd (omega arith)
doubt_alike (x ∷ xs) [] h = absurd (omega arith)
doubt_alike (x ∷ xs) (y ∷ ys) h = ap (λ l. Doubtful ∷ l) (doubt_alike xs ys (omega arith))

pub shown_long : (cells : List Cell) (bytes : List ℕ) → cells_show cells bytes ≡ true → length bytes ≡ length cells
shown_long [] [] h = refl
shown_long [] (b ∷ bytes) h = cc
shown_long (c ∷ cells) [] h = cc
shown_long (c ∷ cells) (b ∷ bytes) h = let r : length bytes ≡ length cells = shown_long cells bytes (and_parts (cell_shows c b) (cells_show cells bytes) h).1 in omega arith

overwritten_long : (cells : List Cell) (off : ℕ) (new : List Cell) → off + length new ≤ length cells → length (overwritten cells off new) ≡ length cells
overwritten_long cells off new h = simp (length-append, length-drop, length-take) (omega arith)

shown_shape : (t : FileTree) (o : Option (ℕ × (List Cell × (ℕ × ℕ)))) (off : ℕ) (bytes : List ℕ) → BirthsAscend t → ((f : ℕ × (List Cell × (ℕ × ℕ))) → o ≡ Some f → (node_at t f.0 ≡ Some (File f.1.0 f.1.1.0 f.1.1.1)) × (off + length bytes ≤ length f.1.0)) → shape_of (with_shown t o off bytes) ≡ shape_of t
shown_shape t None off bytes births h = refl
shown_shape t (Some f) off bytes births h =
    let g = h f refl in
    let new = map Byte bytes in
    let l : off + length new ≤ length f.1.0 = simp length-map g.1 in
    let s : node_shape (File (overwritten f.1.0 off new) f.1.1.0 f.1.1.1) ≡ node_shape (File f.1.0 f.1.1.0 f.1.1.1) = ap (λ cs. File cs f.1.1.0 f.1.1.1) (doubt_alike (overwritten f.1.0 off new) f.1.0 (overwritten_long f.1.0 off new l)) in
    ap (λ ns. record { segments = t.segments; nodes = ns }) (seen_kept nat_cmp birth_exact node_shape t.nodes f.0 (File (overwritten f.1.0 off new) f.1.1.0 f.1.1.1) (File f.1.0 f.1.1.0 f.1.1.1) births g.0 s)

-- a read that is answered shows bytes of the file
within_file : (t : FileTree) (cells : List Cell) (off len : ℕ) (bytes : List ℕ) → agrees (shown t cells off len).answer (reply.Shown bytes) ≡ true → off + length bytes ≤ length cells
within_file t cells off len bytes h = go (nat_lt (length cells) off) refl h
  where
    go : (b : Bool) → nat_lt (length cells) off ≡ b → agrees (cond {A = Applied} b (says t reply.BadOffset) (record { answer = Shows (take len (drop off cells)); tree = t })).answer (reply.Shown bytes) ≡ true → off + length bytes ≤ length cells
    go true e h = absurd (not_shown bytes h)
      where
        not_shown : (bytes : List ℕ) → agrees (Plain reply.BadOffset) (reply.Shown bytes) ≡ true → ⊥
        not_shown [] h = cc
        not_shown (b ∷ bytes) h = cc
    go false e h =
        let l : off ≤ length cells = ltb-false (length cells) off e in
        let s : length bytes ≡ length (take len (drop off cells)) = shown_long (take len (drop off cells)) bytes h in
        let k : length (take len (drop off cells)) ≡ min len (length cells - off) = simp (length-take, length-drop) refl in
        omega arith

file_shown : (t : FileTree) (b : ℕ) (o : Option Node) (off len : ℕ) (bytes : List ℕ) (f : ℕ × (List Cell × (ℕ × ℕ))) → file_of b o ≡ Some f → agrees (if_file t (λ b cells links when. shown t cells off len) b o).answer (reply.Shown bytes) ≡ true → off + length bytes ≤ length f.1.0
file_shown t b (Some (File cells links when)) off len bytes f e h = subst (λ c. off + length bytes ≤ length c) (ap (λ o. elim o as (λ x. List Cell) [ None ↦ cells | Some g ↦ g.1.0 ]) e) (within_file t cells off len bytes h)
file_shown t b (Some (Dir es n)) off len bytes f e h = cc
file_shown t b (Some (Link target links)) off len bytes f e h = cc
file_shown t b None off len bytes f e h = cc

place_shown : (t : FileTree) (p : Place) (off len : ℕ) (bytes : List ℕ) (f : ℕ × (List Cell × (ℕ × ℕ))) → file_at t p ≡ Some f → agrees (at_file t p (λ b cells links when. shown t cells off len)).answer (reply.Shown bytes) ≡ true → off + length bytes ≤ length f.1.0
place_shown t Root off len bytes f e h = cc
place_shown t (Taken d es n name b) off len bytes f e h = file_shown t b (node_at t b) off len bytes f e h
place_shown t (Free d es n name) off len bytes f e h = cc
place_shown t (Nowhere r) off len bytes f e h = cc

read_shape : (t : FileTree) (o : Op) (r : Reply) (b when m : ℕ) → BirthsAscend t → is_look o ≡ true → agrees (apply t o b when m).answer r ≡ true → shape_of (after_read (apply t o b when m).tree o r) ≡ shape_of t
read_shape t (op.Read path off len) (reply.Shown bytes) b when m births h told =
    subst (λ u. shape_of (with_shown u (file_at u (place u path)) off bytes) ≡ shape_of t) (sym (looks_leave t (op.Read path off len) b when m refl))
    (shown_shape t (file_at t (place t path)) off bytes births (λ f e. (file_at_is t (place t path) f e, place_shown t (place t path) off len bytes f e told)))
read_shape t (op.Read path off len) _ b when m births h told = ap shape_of (looks_leave t (op.Read path off len) b when m refl)
read_shape t (op.Stat path) r b when m births h told = ap shape_of (looks_leave t (op.Stat path) b when m refl)
read_shape t (op.List path) r b when m births h told = ap shape_of (looks_leave t (op.List path) b when m refl)
read_shape t (op.Readlink path) r b when m births h told = ap shape_of (looks_leave t (op.Readlink path) b when m refl)
read_shape t (op.Time path) r b when m births h told = ap shape_of (looks_leave t (op.Time path) b when m refl)
read_shape t _ r b when m births h told = absurd (cc)

step_shape : (t : FileTree) (s : Step) (r : Reply) (b when m : ℕ) → BirthsAscend t → IsOf Looks s → agrees (perform_step t s b when m).answer r ≡ true → shape_of (after_step (perform_step t s b when m).tree s r) ≡ shape_of t
step_shape t (Goes o) r b when m births h told = read_shape t o r b when m births h told
step_shape t (Stops q) r b when m births h told = refl

pub looks_leave_the_shape : (t : FileTree) (e : Entry) → BirthsAscend t → is_look e.op ≡ true → shape_of (tree_after t e) ≡ shape_of t
looks_leave_the_shape t e births h = go (leaves_tree e.op e.reply) (is_answer t e) refl
  where
    go : (l a : Bool) → is_answer t e ≡ a → shape_of (cond l t (cond a (after_step (applied t e).tree (resolved t e.op).step e.reply) t)) ≡ shape_of t
    go true a i = refl
    go false false i = refl
    go false true i = step_shape t (resolved t e.op).step e.reply e.number.0 e.when (told_blocks t e.reply) births (resolved_looks t e.op h) (and_parts (is_path_op e.op) (agrees (applied t e).answer e.reply) i).1
