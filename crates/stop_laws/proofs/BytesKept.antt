-- Over a store with the bytes of a tree's files a line is planned as over the tree that has each of these bytes.
use Rattle.std.proofs.Common.{ℕ, suc, ◌≡◌, ◌≤◌, true, Option, Some, None, List, [], ◌∷◌, is_some, length, eq-eqb, refl, sym, ◌∙◌, ap, subst}
use Rattle.std.proofs.Math.Path.{fun_ext}
use Rattle.std.proofs.lemmas.Bool.{and_from}
use Rattle.std.specs.Option.{option_map}
use Rattle.frang_base.specs.declared.reply.Reply.{Reply}
use Rattle.frang_base.specs.declared.reply.Reply.TheVariants as reply
use Rattle.tree_definitions.specs.declared.cells.Cell.{Cell}
use Rattle.tree_definitions.specs.declared.cells.Cell.TheVariants.{Byte, Doubtful}
use Rattle.tree_definitions.specs.declared.history.Entry.{Entry}
use Rattle.tree_definitions.specs.declared.node.Node.{Node}
use Rattle.tree_definitions.specs.declared.node.Node.TheVariants.{Dir, File, Link}
use Rattle.tree_definitions.specs.Apply.{Answer, Applied, Plain, Shows, is_path_op}
use Rattle.tree_definitions.specs.History.{agrees, applied, cell_shows, cells_show, is_answer, same_reply}
use Rattle.tree_definitions.specs.Perform.{perform}
use Rattle.tree_definitions.specs.Touched.{shape_of, shaped}
use Rattle.tree_definitions.specs.Tree.{FileTree, node_at}
use Rattle.tree_laws.specs.Rooms.{SameRoom}
use Rattle.tree_laws.proofs.ShapeNodes.{found}
use Rattle.tree_laws.proofs.ShapeResolving.{perform_shape}
use Rattle.tree_laws.proofs.Replies.{same_self}
use Rattle.disk_definitions.specs.Naming.{Allows, Naming, Pictures, file_byte}
use Rattle.disk_definitions.specs.Store.{Store}
use Rattle.disk_definitions.specs.Edits.{edited_all}
use Rattle.disk_definitions.specs.ChangeLaws.{FilesFit}
use Rattle.disk_definitions.specs.Meets.{AllAllow, Answers, IsOfTree}
use Rattle.disk_definitions.specs.Plans.{Finish, Hand}
use Rattle.plan_laws.specs.FilesPlanned.{HasFiles}
use Rattle.plan_laws.specs.Keeping.{FinishKeeps, PlanKeeps}
use Rattle.line_laws.proofs.Shaping.{shapes_stand}
use Rattle.line_laws.proofs.Planned.{lines_planned}
use Rattle.byte_trees.proofs.Filling.{filled, there_too}
use Rattle.byte_trees.specs.Sharp.{KeepsWhatStands, NamesNoOthers, sharp, sharp_node, standing}
use Rattle.byte_trees.proofs.After.{answers_keep}
use Rattle.byte_trees.proofs.Nodes.{new_sharp, room_same, sharp_at, sharp_stand, shape_same}
use Rattle.stop_laws.specs.Keeping.{FinishesOver, KeepsBytes, LinesKeepBytes}
use Rattle.stop_laws.proofs.BytesTold.{told_same}

-- ---- answers

one_shown : (c : Cell) (b : ℕ) → Allows c b → cell_shows c b ≡ true
one_shown (Byte x) b h = eq-eqb x b (sym h)
one_shown Doubtful b h = refl

all_shown : (cells : List Cell) (bytes : List ℕ) → AllAllow cells bytes → cells_show cells bytes ≡ true
all_shown [] [] h = refl
all_shown [] (b ∷ bytes) h = absurd h
all_shown (c ∷ cells) [] h = absurd h
all_shown (c ∷ cells) (b ∷ bytes) h = and_from (cell_shows c b) (cells_show cells bytes) (one_shown c b h.0) (all_shown cells bytes h.1)

pub agrees_by : (a : Answer) (r : Reply) → Answers a r → agrees a r ≡ true
agrees_by (Plain said) r h = subst (λ q. same_reply said q ≡ true) (sym h) (same_self said)
agrees_by (Shows cells) (reply.Shown bytes) h = all_shown cells bytes h
agrees_by (Shows cells) _ h = absurd h

-- ---- files fit as before
standing_long : (f : ℕ → ℕ) (cells : List Cell) → length (standing f cells) ≡ length cells
standing_long f [] = refl
standing_long f (c ∷ cells) = ap suc (standing_long (λ j. f (suc j)) cells)

fits_by : (f : ℕ → ℕ) (o : Option Node) (most : ℕ) → ((links when : ℕ) (cells : List Cell) → o ≡ Some (File cells links when) → length cells ≤ most) →
    (links when : ℕ) (cells : List Cell) → option_map (sharp_node f) o ≡ Some (File cells links when) → length cells ≤ most
fits_by f None most fit links when cells e = absurd (cc)
fits_by f (Some (Dir es n)) most fit links when cells e = absurd (cc)
fits_by f (Some (Link target n)) most fit links when cells e = absurd (cc)
fits_by f (Some (File old l w)) most fit links when cells e =
    let same : standing f old ≡ cells = cc in
    subst (λ k. k ≤ most) (sym (standing_long f old) ∙ ap length same) (fit l w old refl)

fit_sharp : (f : ℕ → ℕ → ℕ) (t : FileTree) → FilesFit (node_at t) → FilesFit (node_at (sharp f t))
fit_sharp f t fit b links when cells e = fits_by (f b) (node_at t b) 1114112 (λ l w c i. fit b l w c i) links when cells (sym (sharp_at f t b) ∙ e)

module _ (hand : Hand) (store : Store) (tree : FileTree) (naming : Naming) (ever : ℕ) (e : Entry) (finish : Finish) (over : FinishesOver hand store tree naming ever e finish) where
  abbrev bytes : ℕ → ℕ → ℕ
  bytes = file_byte store naming

  abbrev one : FileTree
  one = sharp (file_byte store naming) tree

  -- ---- the store is that of the tree with its bytes
  nodes_same : node_at (shape_of tree) ≡ (λ b. shaped (node_at one b))
  nodes_same = fun_ext (λ b. ap (λ v. node_at v b) (sym (shape_same bytes tree)) ∙ found one b)

  of_one : IsOfTree store one naming
  of_one = record {
    well_formed = (sharp_stand bytes tree over.well_formed).well_formed;
    few = over.shape.few;
    pictures = filled store (node_at one) naming (subst (λ at. Pictures store at naming) nodes_same over.shape.pictures) (sharp_stand bytes tree over.well_formed).names;
    root = over.shape.root;
    births = λ b some late. over.shape.births b (ap (λ at. is_some (at b)) nodes_same ∙ there_too (node_at one) naming b some) late;
    inodes = over.shape.inodes;
    blocks = over.shape.blocks;
    larges = over.shape.larges;
  }

  files_one : HasFiles store one ever
  files_one = record { fit = fit_sharp bytes tree over.files.fit; directories = over.files.directories }

  -- ---- so the line meets this tree
  keeps : FinishKeeps store one naming (perform one e.op e.number.0 e.when ever) finish
  keeps = subst (PlanKeeps hand store one naming (perform one e.op e.number.0 e.when ever)) over.comes
      (lines_planned e.op hand store one naming e.number.0 e.when ever of_one over.at_hand (new_sharp bytes tree e.number.0 over.new) files_one)

  said : Answers (perform one e.op e.number.0 e.when ever).answer e.reply
  said = subst (Answers (perform one e.op e.number.0 e.when ever).answer) (sym over.said) keeps.meets.answer

  room : SameRoom one tree
  room = room_same one tree (shape_same bytes tree)

  told : applied one e ≡ perform one e.op e.number.0 e.when ever
  told = told_same one e.op e.number.0 e.when ever e.reply (subst (λ n. n ≤ ever) (sym room.dirs) over.few) said

  answered : is_answer one e ≡ true
  answered =
      let all = perform one e.op e.number.0 e.when ever in
      and_from (is_path_op e.op) (agrees (applied one e).answer e.reply) over.path
      (subst (λ (a : Applied). agrees a.answer e.reply ≡ true) (sym told) (agrees_by all.answer e.reply said))

  names_after : NamesNoOthers (applied one e).tree (file_byte (edited_all store finish.edits) keeps.meets.naming)
  names_after = subst (λ (a : Applied). NamesNoOthers a.tree (file_byte (edited_all store finish.edits) keeps.meets.naming)) (sym told) keeps.meets.tree.pictures.bytes

  kept : KeepsWhatStands tree e (file_byte (edited_all store finish.edits) keeps.meets.naming)
  kept = answers_keep tree e bytes (file_byte (edited_all store finish.edits) keeps.meets.naming) over.well_formed over.new over.bytes over.acts answered names_after

  shapes : shape_of (perform one e.op e.number.0 e.when ever).tree ≡ shape_of (perform tree e.op e.number.0 e.when ever).tree
  shapes =
      sym (perform_shape one e.op e.number.0 e.when ever).tree
      ∙ ap (λ t. shape_of (perform t e.op e.number.0 e.when ever).tree) (shape_same bytes tree)
      ∙ (perform_shape tree e.op e.number.0 e.when ever).tree

  pub keeps_bytes : KeepsBytes store tree ever e finish
  keeps_bytes = record {
    answer = kept.answer;
    naming = keeps.meets.naming;
    shape = subst (λ t. IsOfTree (edited_all store finish.edits) t keeps.meets.naming) shapes
        (shapes_stand (edited_all store finish.edits) (perform one e.op e.number.0 e.when ever).tree keeps.meets.naming keeps.meets.tree).left;
    bytes = kept.names;
  }

pub lines_keep : LinesKeepBytes
lines_keep hand store tree naming ever e finish over = keeps_bytes hand store tree naming ever e finish over
