-- An entry without a record changes nothing, and where all that has a record is kept, nothing is removed.
use Rattle.std.proofs.Common.{ℕ, ◌≡◌, ◌==◌, Bool, true, false, ◌&&◌, Option, Some, None, List, ◌∷◌, ◌++◌, cond, refl, sym, ◌∙◌, ap, subst, inl, inr, ◌⊎◌, ltb-true, nat_lt}
use Rattle.std.specs.Option.{option_map}
use Rattle.std.specs.List.{list_any}
use Rattle.std.proofs.lemmas.Bool.{and_parts, or_parts, and_right}
use Rattle.tree_definitions.specs.declared.cells.Cell.{Cell}
use Rattle.tree_definitions.specs.declared.history.Entry.{Entry}
use Rattle.tree_definitions.specs.declared.node.Node.{Node}
use Rattle.tree_definitions.specs.declared.node.Node.TheVariants.{Dir, File, Link}
use Rattle.tree_definitions.specs.Tree.{FileTree, node_at}
use Rattle.tree_definitions.specs.Apply.{is_path_op}
use Rattle.tree_definitions.specs.Perform.{Step, Goes, Stops, resolved, perform_step}
use Rattle.tree_definitions.specs.History.{applied, is_answer, agrees, told_blocks, tree_after, Settled, Stays, InDoubt, after_all}
use Rattle.tree_definitions.specs.Touched.{changes, differs, births, node_shape, shape_of, changes_shape, further, is_ok}
use Rattle.tree_definitions.specs.Removal.{mounts, writes_file, is_recorded, is_lost, left}
use Rattle.tree_definitions.specs.WellFormed.{BirthsAscend, IsNew}
use Rattle.tree_laws.specs.Settling.{RemovesNothing, RemovesFrom}
use Rattle.tree_laws.proofs.Places.{is_in}
use Rattle.tree_laws.proofs.Sameness.{alike_at, no_difference}
use Rattle.tree_laws.proofs.Resolving.{IsOf}
use Rattle.tree_laws.proofs.OrderLaws.{births_after, segments_after}
use Rattle.tree_laws.proofs.SettlingLaws.{removes}
use Rattle.tree_laws.specs.Recording.{UnrecordedChangesNothing, UnrecordedLeavesTheShape, NothingIsRemoved}
use Rattle.tree_laws.proofs.Editing.{edited, hits, Edited, edits, resolved_writes}
use Rattle.tree_laws.proofs.SameShapes.{found_shape, same_shape, like_shape, differs_changes}
use Rattle.tree_laws.proofs.Sharper.{sharper_after}

-- cells that aren't edited
abbrev SameCells : Option Node → Option Node → Type 0
SameCells a c = Edited false (λ xs. xs) a c

-- a node of one shape with the same cells is the same
same_by_shape : (a c : Option Node) → option_map node_shape a ≡ option_map node_shape c → SameCells a c → a ≡ c
same_by_shape (Some (File xs l w)) (Some (File ys k v)) s h =
    let i : l ≡ k = cc in
    let j : w ≡ v = cc in
    let e : ys ≡ xs = h xs l w ys k v refl refl in
    cc
same_by_shape (Some (Dir es n)) (Some (Dir fs m)) s h = s
same_by_shape (Some (Link t n)) (Some (Link u m)) s h = s
same_by_shape None None s h = refl
same_by_shape (Some (Dir es n)) (Some (File ys k v)) s h = absurd (cc)
same_by_shape (Some (Dir es n)) (Some (Link u m)) s h = absurd (cc)
same_by_shape (Some (Dir es n)) None s h = absurd (cc)
same_by_shape (Some (File xs l w)) (Some (Dir fs m)) s h = absurd (cc)
same_by_shape (Some (File xs l w)) (Some (Link u m)) s h = absurd (cc)
same_by_shape (Some (File xs l w)) None s h = absurd (cc)
same_by_shape (Some (Link t n)) (Some (Dir fs m)) s h = absurd (cc)
same_by_shape (Some (Link t n)) (Some (File ys k v)) s h = absurd (cc)
same_by_shape (Some (Link t n)) None s h = absurd (cc)
same_by_shape None (Some (Dir fs m)) s h = absurd (cc)
same_by_shape None (Some (File ys k v)) s h = absurd (cc)
same_by_shape None (Some (Link u m)) s h = absurd (cc)

module _ (t : FileTree) (e : Entry) (births_t : BirthsAscend t) (new : IsNew t e.number.0) (answered : is_answer t e ≡ true) (unrecorded : is_recorded t e ≡ false) where
  parts : (changes_shape t e ≡ false) × (writes_file e.op && is_ok e.reply ≡ false)
  parts = or_parts (changes_shape t e) (writes_file e.op && is_ok e.reply) unrecorded

  unshaped : (b : ℕ) → differs (shape_of t) (shape_of (applied t e).tree) b ≡ false
  unshaped b = go (differs (shape_of t) (shape_of (applied t e).tree) b) refl
    where
      none : list_any (differs (shape_of t) (shape_of (applied t e).tree)) (births t (applied t e).tree) ≡ false
      none = sym (ap (λ a. a && list_any (differs (shape_of t) (shape_of (applied t e).tree)) (births t (applied t e).tree)) answered) ∙ parts.0

      go : (d : Bool) → differs (shape_of t) (shape_of (applied t e).tree) b ≡ d → differs (shape_of t) (shape_of (applied t e).tree) b ≡ false
      go false i = i
      go true i = absurd (let z : true ≡ false = sym (differs_changes t (applied t e).tree b i) ∙ none in cc)

  told : (s : Step) → (resolved t e.op).step ≡ s → agrees (perform_step t s e.number.0 e.when (told_blocks t e.reply)).answer e.reply ≡ true
  told s i = subst (λ z. agrees (perform_step t z e.number.0 e.when (told_blocks t e.reply)).answer e.reply ≡ true) i (and_parts (is_path_op e.op) (agrees (applied t e).answer e.reply) answered).1

  same_cells : (b : ℕ) → SameCells (node_at t b) (node_at (applied t e).tree b)
  same_cells b = go (resolved t e.op).step refl (resolved_writes t e.op)
    where
      m : ℕ
      m = told_blocks t e.reply

      no_hit : (w o k : Bool) → w && o ≡ false → w && (o && k) ≡ false
      no_hit true true k h = cc
      no_hit true false k h = refl
      no_hit false o k h = refl

      unedited : (h : Bool) (f : List Cell → List Cell) (a c : Option Node) → h ≡ false → Edited h f a c → SameCells a c
      unedited h f a c i g xs l w ys k v p q = g xs l w ys k v p q ∙ ap (λ z. cond z (f xs) xs) i

      go : (s : Step) → (resolved t e.op).step ≡ s → IsOf (λ q. writes_file q ≡ writes_file e.op) s → SameCells (node_at t b) (node_at (applied t e).tree b)
      go (Goes o) i same =
          subst (λ z. SameCells (node_at t b) (node_at (perform_step t z e.number.0 e.when m).tree b)) (sym i)
          (unedited (hits t o e.reply b) (edited o) (node_at t b) (node_at (perform_step t (Goes o) e.number.0 e.when m).tree b)
          (ap (λ w. w && (is_ok e.reply && is_in b (further t o e.reply))) same ∙ no_hit (writes_file e.op) (is_ok e.reply) (is_in b (further t o e.reply)) parts.1)
          (edits t births_t e.number.0 e.when m new e.reply o (told (Goes o) i) b))
      go (Stops r) i same = subst (λ z. SameCells (node_at t b) (node_at (perform_step t z e.number.0 e.when m).tree b)) (sym i) (λ xs l w ys k v p q. let z : Some (File xs l w) ≡ Some (File ys k v) = sym p ∙ q in cc)

  unchanged : (b : ℕ) → changes t e b ≡ false
  unchanged b =
      let s = sym (found_shape t b) ∙ alike_at (shape_of t) (shape_of (applied t e).tree) b (unshaped b) ∙ found_shape (applied t e).tree b in
      and_right (is_answer t e) (differs t (applied t e).tree b) (no_difference t (applied t e).tree b (same_by_shape (node_at t b) (node_at (applied t e).tree b) s (same_cells b)))

pub unrecorded_changes_nothing : UnrecordedChangesNothing
unrecorded_changes_nothing t e b births_t new unrecorded = go (is_answer t e) refl
  where
    go : (a : Bool) → is_answer t e ≡ a → changes t e b ≡ false
    go true i = unchanged t e births_t new i unrecorded b
    go false i = ap (λ a. a && differs t (applied t e).tree b) i

pub unrecorded_leaves_the_shape : UnrecordedLeavesTheShape
unrecorded_leaves_the_shape t e births_t new unrecorded =
    same_shape (tree_after t e) t (births_after t (Stays e) births_t) births_t (segments_after t (Stays e) births_t)
    (λ b. like_shape (node_at (tree_after t e) b) (node_at t b) (sharper_after t e b (unrecorded_changes_nothing t e b births_t new unrecorded)))

pub nothing_is_removed : NothingIsRemoved
nothing_is_removed server keeps t list kept = go (removes server keeps t list)
  where
    not_lost : (s : Settled) (before later : List Settled) → list ≡ before ++ s ∷ later → list_any (mounts server) later ≡ false → is_lost server keeps (after_all t before) s ≡ true → ⊥
    not_lost (InDoubt runs) before later splits present lost = cc
    not_lost (Stays e) before later splits present lost =
        let p = and_parts (e.server.0 == server && nat_lt keeps e.number.0) (is_recorded (after_all t before) e) lost in
        let q = and_parts (e.server.0 == server) (nat_lt keeps e.number.0) p.0 in
        let z : true ≡ false = sym p.1 ∙ kept before e later splits q.0 present (ltb-true keeps e.number.0 q.1) in
        cc

    go : RemovesNothing server keeps t list ⊎ RemovesFrom server keeps t list → left server keeps t list ≡ list
    go (inl r) = r.leaves
    go (inr r) = absurd (not_lost r.first r.before r.rest r.splits r.present r.lost)
