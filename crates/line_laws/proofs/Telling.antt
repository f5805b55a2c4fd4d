-- What the edits of a finished plan tell of its operation: it leaves the tree, or a name leads elsewhere, or a file is dated.
use Rattle.std.proofs.Common.{ℕ, ◌≡◌, ◌<◌, ◌⊎◌, inl, Bool, true, false, Some, None, List, [], ◌∷◌, ◌++◌, if◌then◌else◌, refl, sym, ◌∙◌, ap}
use Rattle.std.specs.Map.{keys_of}
use Rattle.frang_base.specs.declared.limits.TheConstants.{BLOCK_ENTRIES}
use Rattle.frang_base.specs.declared.reply.Reply.{Reply}
use Rattle.frang_base.specs.declared.reply.Reply.TheVariants as reply
use Rattle.tree_definitions.specs.declared.node.Node.TheVariants.{Dir}
use Rattle.tree_definitions.specs.Entries.{Entries, entry_at}
use Rattle.tree_definitions.specs.Tree.{FileTree, node_at}
use Rattle.tree_definitions.specs.Apply.{Answer, Plain, Shows, Applied}
use Rattle.tree_definitions.specs.Touched.{is_ok}
use Rattle.disk_definitions.specs.Store.{Store, StoredNode}
use Rattle.disk_definitions.specs.Naming.{Naming, find_in}
use Rattle.disk_definitions.specs.Standing.{IsMetadata}
use Rattle.disk_definitions.specs.Edits.{Edit, SetInode, edited_all}
use Rattle.disk_definitions.specs.Ask.{Got, ReadDirectory, run}
use Rattle.disk_definitions.specs.Plans.{Hand, Plan, Finish, Lacks, Clears, Finishes, Room, refuse, none_left, finish_in, must_clear, shared_nodes, sole_segments}
use Rattle.disk_definitions.specs.Plans.Room.{Inside, InBlock, NoRoom}
use Rattle.disk_definitions.specs.Meets.{Answers}
use Rattle.plan_laws.specs.Keeping.{PlanKeeps}

-- a name of a directory leads elsewhere
pub record OtherNames (old new : FileTree) : Type 0 where
  pub dir : ℕ
  pub name : List ℕ
  pub differs : find_in (node_at new dir) name ≡ find_in (node_at old dir) name → ⊥

-- an inode says something else, or a place of a directory's block does
pub record OtherInode (s t : Store) : Type 0 where
  pub number : ℕ
  pub differs : t.inode number ≡ s.inode number → ⊥

pub record OtherPlace (s t : Store) : Type 0 where
  pub block : ℕ
  pub slot : ℕ
  pub inside : slot < BLOCK_ENTRIES
  pub metadata : IsMetadata (t.use_of block)
  pub differs : t.place block slot ≡ s.place block slot → ⊥

abbrev pub Apart : Store → Store → Type 0
Apart s t = OtherInode s t ⊎ OtherPlace s t

-- an inode is put with its time
pub record Dates (edits : List Edit) : Type 0 where
  pub before : List Edit
  pub inode : ℕ
  pub node : StoredNode
  pub after : List Edit
  pub splits : edits ≡ before ++ SetInode inode (Some node) true ∷ after

-- of an operation that writes a file or doesn't: it is refused, or it leaves the tree, or names change, or a file is dated
pub data Tells (writes : Bool) (tree : FileTree) (applied : Applied) (s : Store) (f : Finish) : Type 0 where
  Refuses : (none : f.edits ≡ []) (refused : is_ok f.reply ≡ false) → Tells writes tree applied s f
  Stays : (plain : writes ≡ false) (none : f.edits ≡ []) (left : applied.tree ≡ tree) → Tells writes tree applied s f
  Renames : (said : f.reply ≡ reply.Ok) (named : OtherNames tree applied.tree) (apart : Apart s (edited_all s f.edits)) → Tells writes tree applied s f
  Writes : (writing : writes ≡ true) (said : f.reply ≡ reply.Ok) (dated : Dates f.edits) → Tells writes tree applied s f

abbrev pub PlanTells : Bool → FileTree → Applied → Store → Plan → Type 0
PlanTells writes tree applied s Lacks = Unit {0}
PlanTells writes tree applied s (Clears block locks) = Unit {0}
PlanTells writes tree applied s (Finishes f) = Tells writes tree applied s f

-- of an operation on names it does so where the answer is the tree's
abbrev pub NameTells : FileTree → Applied → Store → Plan → Type 0
NameTells tree applied s Lacks = Unit {0}
NameTells tree applied s (Clears block locks) = Unit {0}
NameTells tree applied s (Finishes f) = Answers applied.answer f.reply → Tells false tree applied s f

pub by_answer : (h : Hand) (tree : FileTree) (n : Naming) (a : Applied) (s : Store) (p : Plan) → PlanKeeps h s tree n a p → NameTells tree a s p → PlanTells false tree a s p
by_answer h tree n a s Lacks meets tells = tt
by_answer h tree n a s (Clears block locks) meets tells = tt
by_answer h tree n a s (Finishes f) meets tells = tells meets.meets.answer

pub ok_said : (a : Answer) → Answers a reply.Ok → a ≡ Plain reply.Ok
ok_said (Plain r) said = ap Plain (sym said)
ok_said (Shows cells) said = absurd said

-- ---- what changes nothing
module _ (tree : FileTree) (a : Applied) (s : Store) where
  pub refuse_tells : (r : Reply) (touched : List ℕ) → is_ok r ≡ false → NameTells tree a s (refuse r touched)
  refuse_tells r touched e said = Refuses refl e

  pub none_tells : (h : Hand) (r : Reply) (touched : List ℕ) → is_ok r ≡ false → NameTells tree a s (run (none_left h r touched) s)
  none_tells h r touched e = go h.all
    where
      go : (b : Bool) → NameTells tree a s (run (Got (if b then Finishes (record { reply = r; edits = []; locks = shared_nodes touched ++ sole_segments (keys_of h.held) }) else Lacks)) s)
      go true = λ said. Refuses refl e
      go false = tt

  -- once a block is clear, where one is needed
  pub finished_tells : (h : Hand) (room : Room) (f : Finish) → NameTells tree a s (Finishes f) → NameTells tree a s (run (finish_in h room f) s)
  finished_tells h (Inside slot) f tells = tells
  finished_tells h NoRoom f tells = tells
  finished_tells h (InBlock k) f tells = go (must_clear h k)
    where
      go : (b : Bool) → NameTells tree a s (run (if b then Got (Clears k f.locks) else ReadDirectory k 0 (λ slots. Got (Finishes f))) s)
      go true = tt
      go false = tells

-- ---- other names, other inodes
pub came : (old new : FileTree) (dir : ℕ) (es : Entries) (n : ℕ) (name : List ℕ) (b : ℕ) → node_at old dir ≡ Some (Dir es n) → entry_at es name ≡ None → find_in (node_at new dir) name ≡ Some b → OtherNames old new
came old new dir es n name b is absent now = record {
  dir = dir;
  name = name;
  differs = λ e. let was : find_in (node_at old dir) name ≡ None = ap (λ o. find_in o name) is ∙ absent in let z : Some b ≡ None = sym now ∙ e ∙ was in cc;
}

pub had_another : (old new : FileTree) (dir : ℕ) (es : Entries) (n : ℕ) (name : List ℕ) (b : ℕ) → node_at old dir ≡ Some (Dir es n) → entry_at es name ≡ Some b → (find_in (node_at new dir) name ≡ Some b → ⊥) → OtherNames old new
had_another old new dir es n name b is had never = record { dir = dir; name = name; differs = λ e. never (e ∙ ap (λ o. find_in o name) is ∙ had) }

pub sized : (s t : Store) (i : ℕ) (x y : StoredNode) → s.inode i ≡ Some x → t.inode i ≡ Some y → (y.size ≡ x.size → ⊥) → Apart s t
sized s t i x y was is other = inl (record { number = i; differs = λ e. let z : Some y ≡ Some x = sym is ∙ e ∙ was in let same : y ≡ x = cc in other (ap (λ (n : StoredNode). n.size) same) })
