-- An entry is one that a removal may lose by the shape of the tree alone, and a reply goes by what it is but for bytes.
use Rattle.std.proofs.Common.{ℕ, ◌≡◌, ◌&&◌, ◌||◌, ◌⊎◌, inl, inr, true, false, Some, List, [], ◌∷◌, ◌++◌, map, refl, sym, ◌∙◌, ap, ap₂}
use Rattle.std.specs.List.{list_any}
use Rattle.frang_base.specs.declared.op.Op.{Op}
use Rattle.frang_base.specs.declared.op.Op.TheVariants as op
use Rattle.frang_base.specs.declared.reply.Reply.{Reply}
use Rattle.frang_base.specs.declared.reply.Reply.TheVariants as reply
use Rattle.tree_definitions.specs.declared.history.Entry.{Entry}
use Rattle.tree_definitions.specs.declared.node.Node.{Node}
use Rattle.tree_definitions.specs.Apply.{Answer, Plain, Shows, Applied, is_path_op}
use Rattle.tree_definitions.specs.History.{agrees, after_read, after_step, applied, is_answer, told_blocks}
use Rattle.tree_definitions.specs.Perform.{Step, Goes, Stops, perform}
use Rattle.tree_definitions.specs.Removal.{is_recorded, writes_file}
use Rattle.tree_definitions.specs.Touched.{births, differs, is_ok, node_shape, shape_of}
use Rattle.tree_definitions.specs.Tree.{FileTree}
use Rattle.tree_laws.specs.Refusals.{says_ok}
use Rattle.tree_laws.specs.Acting.{GoesByShape, answer_shape}
use Rattle.tree_laws.proofs.ShapeNodes.{again, room_stays}
use Rattle.tree_laws.proofs.ShapeResolving.{perform_shape}
use Rattle.disk_definitions.specs.Store.{Store}
use Rattle.disk_definitions.specs.Edits.{Edit, SetInode}
use Rattle.disk_definitions.specs.Plans.{Finish}
use Rattle.line_laws.proofs.Recording.{Verdict, refused_verdict}
use Rattle.line_laws.proofs.Telling.{Apart, Dates}
use Rattle.line_laws.specs.Laws.{HasPath}
use Rattle.line_histories.specs.LinePlans.{without_bytes}
use Rattle.line_histories.specs.Trees.{reply_of}

-- ---- replies

pub ok_aside : (r : Reply) → is_ok (without_bytes r) ≡ is_ok r
ok_aside (reply.Shown bytes) = refl
ok_aside r = refl

pub ok_is : (r : Reply) → is_ok r ≡ true → r ≡ reply.Ok
ok_is reply.Ok e = refl
ok_is r e = absurd (cc)

pub ok_said : (a : Answer) → is_ok (reply_of a) ≡ says_ok a
ok_said (Plain r) = ok_aside r
ok_said (Shows cells) = refl

pub plain_ok : (a : Answer) → says_ok a ≡ true → a ≡ Plain reply.Ok
plain_ok (Plain r) e = ap (λ q. Plain q) (ok_is r e)
plain_ok (Shows cells) e = absurd (cc)

pub ok_shape : (a : Answer) → says_ok (answer_shape a) ≡ says_ok a
ok_shape (Plain r) = refl
ok_shape (Shows cells) = refl

-- an answer `ok` agrees with the reply `ok`
pub ok_agrees : (a : Answer) (r : Reply) → a ≡ Plain reply.Ok → r ≡ reply.Ok → agrees a r ≡ true
ok_agrees a r p q = ap₂ agrees p q

pub path_is : (o : Op) → HasPath o → is_path_op o ≡ true
path_is op.Sync h = absurd h
path_is op.Mount h = absurd h
path_is op.Unmount h = absurd h
path_is op.Crash h = absurd h
path_is (op.CrashAt k) h = absurd h
path_is (op.CutAt k) h = absurd h
path_is op.Stall h = absurd h
path_is _ h = refl

-- `ok` shows no bytes
read_stays : (u : FileTree) (o : Op) → after_read u o reply.Ok ≡ u
read_stays u (op.Read path off len) = refl
read_stays u o = refl

pub step_stays : (u : FileTree) (s : Step) (r : Reply) → r ≡ reply.Ok → after_step u s r ≡ u
step_stays u (Goes o) r e = ap (after_read u o) e ∙ read_stays u o
step_stays u (Stops q) r e = refl

pub told_by_shape : (t : FileTree) (r : Reply) → told_blocks (shape_of t) r ≡ told_blocks t r
told_by_shape t (reply.NoBlock m) = refl
told_by_shape t r = (room_stays t).dirs

-- ---- what isn't answered `ok` has no record

no_date : (before : List Edit) (edit : Edit) (after : List Edit) → [] ≡ before ++ edit ∷ after → ⊥
no_date [] edit after e = cc
no_date (first ∷ before) edit after e = cc

none_apart : (s : Store) → Apart s s ⊎ Dates [] → ⊥
none_apart s (inl (inl other)) = other.differs refl
none_apart s (inl (inr other)) = other.differs refl
none_apart s (inr dates) = no_date dates.before (SetInode dates.inode (Some dates.node) true) dates.after dates.splits

pub unless_ok : (s : Store) (t : FileTree) (e : Entry) → is_ok e.reply ≡ false → is_recorded t e ≡ false
unless_ok s t e refused = go (refused_verdict t e s none refl refused)
  where
    none : Finish
    none = record { reply = e.reply; edits = []; locks = [] }

    go : Verdict t e s none → is_recorded t e ≡ false
    go (inl v) = v.1
    go (inr v) = absurd (none_apart s v.1)

-- ---- by the shape

firsts : (nodes : List (ℕ × Node)) →
    map {A = ℕ × Node} {B = ℕ} (λ n. n.0) (map {A = ℕ × Node} {B = ℕ × Node} (λ n. (n.0, node_shape n.1)) nodes) ≡ map {A = ℕ × Node} {B = ℕ} (λ n. n.0) nodes
firsts [] = refl
firsts (n ∷ nodes) = ap (λ l. n.0 ∷ l) (firsts nodes)

module _ (t : FileTree) (e : Entry) where
  abbrev then_tree : FileTree
  then_tree = (applied t e).tree

  abbrev then_shape : FileTree
  then_shape = (applied (shape_of t) e).tree

  by_shape : GoesByShape (applied t e) (perform (shape_of t) e.op e.number.0 e.when (told_blocks t e.reply))
  by_shape = perform_shape t e.op e.number.0 e.when (told_blocks t e.reply)

  applied_is : applied (shape_of t) e ≡ perform (shape_of t) e.op e.number.0 e.when (told_blocks t e.reply)
  applied_is = ap (perform (shape_of t) e.op e.number.0 e.when) (told_by_shape t e.reply)

  tree_is : shape_of then_shape ≡ shape_of then_tree
  tree_is = ap (λ (a : Applied). shape_of a.tree) applied_is ∙ by_shape.tree

  answer_is : (applied (shape_of t) e).answer ≡ answer_shape (applied t e).answer
  answer_is = ap (λ (a : Applied). a.answer) applied_is ∙ by_shape.answer

  births_are : births (shape_of t) then_shape ≡ births t then_tree
  births_are = ap₂ (λ l r. l ++ r) (firsts t.nodes) (sym (firsts then_shape.nodes) ∙ ap (λ (u : FileTree). map (λ n. n.0) u.nodes) tree_is ∙ firsts then_tree.nodes)

  differ_alike :
      list_any (differs (shape_of (shape_of t)) (shape_of then_shape)) (births (shape_of t) then_shape)
      ≡ list_any (differs (shape_of t) (shape_of then_tree)) (births t then_tree)
  differ_alike =
      ap (λ u. list_any (differs u (shape_of then_shape)) (births (shape_of t) then_shape)) (again t)
      ∙ ap (λ u. list_any (differs (shape_of t) u) (births (shape_of t) then_shape)) tree_is ∙ ap (list_any (differs (shape_of t) (shape_of then_tree))) births_are

  agrees_alike : (a : Answer) → agrees (answer_shape a) reply.Ok ≡ agrees a reply.Ok
  agrees_alike (Plain r) = refl
  agrees_alike (Shows cells) = refl

  module _ (ok : e.reply ≡ reply.Ok) where
    answered_alike : is_answer (shape_of t) e ≡ is_answer t e
    answered_alike =
        ap (λ b. is_path_op e.op && b)
        (ap (agrees (applied (shape_of t) e).answer) ok ∙ ap (λ a. agrees a reply.Ok) answer_is ∙ agrees_alike (applied t e).answer ∙ sym (ap (agrees (applied t e).answer) ok))

    pub recorded_by_shape : is_recorded (shape_of t) e ≡ is_recorded t e
    recorded_by_shape = ap (λ b. b || (writes_file e.op && is_ok e.reply)) (ap₂ (λ a b. a && b) answered_alike differ_alike)
