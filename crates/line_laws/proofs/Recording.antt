-- An entry is one that a removal may lose exactly where its plan tells of another tree, or of a file that is dated.
use Rattle.std.proofs.Common.{ℕ, ◌≡◌, ◌&&◌, ◌⊎◌, inl, inr, Bool, true, false, List, [], ◌∷◌, refl, sym, ◌∙◌, ap, subst}
use Rattle.std.specs.List.{list_any}
use Rattle.std.proofs.lemmas.Bool.{and_from, or_right, or_left, or_from, and_right}
use Rattle.frang_base.specs.declared.op.Op.{Op}
use Rattle.frang_base.specs.declared.op.Op.TheVariants as op
use Rattle.frang_base.specs.declared.reply.Reply.{Reply}
use Rattle.frang_base.specs.declared.reply.Reply.TheVariants as reply
use Rattle.tree_definitions.specs.declared.history.Entry.{Entry}
use Rattle.tree_definitions.specs.Tree.{FileTree, node_at}
use Rattle.tree_definitions.specs.Apply.{Answer, Plain, Shows, Applied, apply, is_path_op}
use Rattle.tree_definitions.specs.Perform.{Goes, resolved, perform_step, perform}
use Rattle.tree_definitions.specs.History.{applied, is_answer, agrees, same_reply, told_blocks}
use Rattle.tree_definitions.specs.Touched.{births, differs, changes_shape, shape_of, is_ok}
use Rattle.tree_definitions.specs.Removal.{writes_file, is_recorded}
use Rattle.tree_laws.specs.Refusals.{says_ok}
use Rattle.tree_laws.proofs.Resolving.{IsOf, performed_refusals_leave}
use Rattle.tree_laws.proofs.Sameness.{no_difference, differs_or_not}
use Rattle.tree_laws.proofs.Editing.{resolved_writes}
use Rattle.tree_laws.proofs.SameShapes.{differs_changes}
use Rattle.tree_laws.proofs.ShapeNodes.{found}
use Rattle.disk_definitions.specs.Store.{Store}
use Rattle.disk_definitions.specs.Naming.{find_in}
use Rattle.disk_definitions.specs.Edits.{edited_all}
use Rattle.disk_definitions.specs.Plans.{Finish}
use Rattle.line_laws.proofs.Telling.{OtherNames, Apart, Dates, Tells, Refuses, Stays, Renames, Writes}
use Rattle.line_laws.proofs.Shaping.{find_shape}

told_ok : (r : Reply) → same_reply reply.Ok r ≡ true → is_ok r ≡ true
told_ok reply.Ok h = refl
told_ok _ h = absurd (cc)

-- a reply other than `ok` is no answer `ok`
not_told : (a : Answer) (r : Reply) → says_ok a ≡ true → is_ok r ≡ false → agrees a r ≡ false
not_told (Plain reply.Ok) r s e = go (same_reply reply.Ok r) refl
  where
    go : (b : Bool) → same_reply reply.Ok r ≡ b → same_reply reply.Ok r ≡ false
    go false i = i
    go true i = let z : true ≡ false = sym (told_ok r i) ∙ e in cc
not_told (Plain _) r s e = absurd (cc)
not_told (Shows cells) r s e = absurd (cc)

ok_agrees : (a : Answer) → says_ok a ≡ true → agrees a reply.Ok ≡ true
ok_agrees (Plain reply.Ok) s = refl
ok_agrees (Plain _) s = absurd (cc)
ok_agrees (Shows cells) s = absurd (cc)

-- an operation without a path leaves the tree
pathless_stays : (t : FileTree) (o : Op) (b when m : ℕ) → is_path_op o ≡ false → (perform t o b when m).tree ≡ t
pathless_stays t op.Sync b when m h = refl
pathless_stays t op.Mount b when m h = refl
pathless_stays t op.Unmount b when m h = refl
pathless_stays t op.Crash b when m h = refl
pathless_stays t (op.CrashAt k) b when m h = refl
pathless_stays t (op.CutAt k) b when m h = refl
pathless_stays t op.Stall b when m h = refl
pathless_stays t _ b when m h = absurd (cc)

none_differ : (t : FileTree) (bs : List ℕ) → list_any (differs (shape_of t) (shape_of t)) bs ≡ false
none_differ t [] = refl
none_differ t (b ∷ bs) = or_from (differs (shape_of t) (shape_of t) b) (list_any (differs (shape_of t) (shape_of t)) bs) (no_difference (shape_of t) (shape_of t) b refl) (none_differ t bs)

module _ (t : FileTree) (e : Entry) where
  abbrev after : FileTree
  after = (applied t e).tree

  -- ---- what leaves the tree, and what is refused
  left_shape : after ≡ t → changes_shape t e ≡ false
  left_shape same =
      subst (λ u. is_answer t e && list_any (differs (shape_of t) (shape_of u)) (births t u) ≡ false) (sym same)
      (and_right (is_answer t e) (list_any (differs (shape_of t) (shape_of t)) (births t t)) (none_differ t (births t t)))

  refused_shape : is_ok e.reply ≡ false → changes_shape t e ≡ false
  refused_shape refused = go (says_ok (applied t e).answer) refl
    where
      go : (b : Bool) → says_ok (applied t e).answer ≡ b → changes_shape t e ≡ false
      go false i = left_shape (performed_refusals_leave t e.op e.number.0 e.when (told_blocks t e.reply) i)
      go true i = ap (λ a. a && list_any (differs (shape_of t) (shape_of after)) (births t after))
          (and_right (is_path_op e.op) (agrees (applied t e).answer e.reply) (not_told (applied t e).answer e.reply i refused))

  -- ---- other names
  other_shape : (n : OtherNames t after) → differs (shape_of t) (shape_of after) n.dir ≡ true
  other_shape n = go (differs_or_not (shape_of t) (shape_of after) n.dir)
    where
      look : (u : FileTree) → find_in (node_at (shape_of u) n.dir) n.name ≡ find_in (node_at u n.dir) n.name
      look u = ap (λ o. find_in o n.name) (found u n.dir) ∙ find_shape (node_at u n.dir) n.name

      go : (differs (shape_of t) (shape_of after) n.dir ≡ true) ⊎ (node_at (shape_of t) n.dir ≡ node_at (shape_of after) n.dir) → differs (shape_of t) (shape_of after) n.dir ≡ true
      go (inl d) = d
      go (inr same) = absurd (n.differs (sym (look after) ∙ ap (λ o. find_in o n.name) (sym same) ∙ look t))

  moved : OtherNames t after → after ≡ t → ⊥
  moved n same = n.differs (ap (λ u. find_in (node_at u n.dir) n.name) same)

  named_shape : e.reply ≡ reply.Ok → OtherNames t after → changes_shape t e ≡ true
  named_shape said n = and_from (is_answer t e) (list_any (differs (shape_of t) (shape_of after)) (births t after)) answered (differs_changes t after n.dir (other_shape n))
    where
      path : is_path_op e.op ≡ true
      path = go (is_path_op e.op) refl
        where
          go : (b : Bool) → is_path_op e.op ≡ b → is_path_op e.op ≡ true
          go true i = i
          go false i = absurd (moved n (pathless_stays t e.op e.number.0 e.when (told_blocks t e.reply) i))

      ok : says_ok (applied t e).answer ≡ true
      ok = go (says_ok (applied t e).answer) refl
        where
          go : (b : Bool) → says_ok (applied t e).answer ≡ b → says_ok (applied t e).answer ≡ true
          go true i = i
          go false i = absurd (moved n (performed_refusals_leave t e.op e.number.0 e.when (told_blocks t e.reply) i))

      answered : is_answer t e ≡ true
      answered = and_from (is_path_op e.op) (agrees (applied t e).answer e.reply) path (subst (λ r. agrees (applied t e).answer r ≡ true) (sym said) (ok_agrees (applied t e).answer ok))

  -- ---- by what the plan tells of the operation that the entry comes to
  abbrev pub Verdict : Store → Finish → Type 0
  Verdict s f = ((f.edits ≡ []) × (is_recorded t e ≡ false)) ⊎ ((is_recorded t e ≡ true) × (Apart s (edited_all s f.edits) ⊎ Dates f.edits))

  -- a refusal has no record
  pub refused_verdict : (s : Store) (f : Finish) → f.edits ≡ [] → is_ok e.reply ≡ false → Verdict s f
  refused_verdict s f none refused =
      inl (none, or_from (changes_shape t e) (writes_file e.op && is_ok e.reply) (refused_shape refused) (and_right (writes_file e.op) (is_ok e.reply) refused))

  module _ (o : Op) (comes : (resolved t e.op).step ≡ Goes o) where
    abbrev outcome : Applied
    outcome = apply t o e.number.0 e.when (told_blocks t e.reply)

    applied_is : applied t e ≡ outcome
    applied_is = ap (λ z. perform_step t z e.number.0 e.when (told_blocks t e.reply)) comes

    writes_is : writes_file e.op ≡ writes_file o
    writes_is = sym (subst (IsOf (λ q. writes_file q ≡ writes_file e.op)) comes (resolved_writes t e.op))

    pub verdict : (s : Store) (f : Finish) → e.reply ≡ f.reply → Tells (writes_file o) t outcome s f → Verdict s f
    verdict s f said (Refuses none refused) = refused_verdict s f none (ap is_ok said ∙ refused)
    verdict s f said (Stays plain none left) =
        inl (none, or_from (changes_shape t e) (writes_file e.op && is_ok e.reply) (left_shape (ap (λ (a : Applied). a.tree) applied_is ∙ left)) (ap (λ w. w && is_ok e.reply) (writes_is ∙ plain)))
    verdict s f said (Renames ok named apart) =
        inr (or_left (changes_shape t e) (writes_file e.op && is_ok e.reply) (named_shape (said ∙ ok) (subst (λ (a : Applied). OtherNames t a.tree) (sym applied_is) named)), inl apart)
    verdict s f said (Writes writing ok dated) =
        inr (or_right (changes_shape t e) (writes_file e.op && is_ok e.reply) (and_from (writes_file e.op) (is_ok e.reply) (writes_is ∙ writing) (ap is_ok (said ∙ ok))), inr dated)
