-- What is left of the lines of a tree.
use Rattle.std.specs.Prelude.{◌≡◌, ◌≤◌, ◌<◌, ℕ, zero, suc, ◌-◌, true, Option, Some, None, List, [], ◌∷◌, ◌++◌, length, map, take}
use Rattle.std.specs.List.{flat_map, list_all}
use Rattle.frang_base.specs.declared.said.Said.{Said}
use Rattle.tree_definitions.specs.Entries.{Entries}
use Rattle.tree_definitions.specs.TreeLines.{name_below}
use Rattle.tree_lines.specs.declared.left.Left.{Left}
use Rattle.tree_lines.specs.Below.{is_below, is_entry_named, is_named}
use Rattle.tree_lines.specs.Shown.{Shown, lines_by}

-- the text of a path, and the nodes that are left, the next one first, each below a part of that path
pub record Waiting : Type 0 where
  pub text : List ℕ
  pub nodes : List Left

-- the text of a node's path; the root has no name
abbrev pub text_of : List ℕ → Option (List ℕ) → List ℕ
text_of text None = text
text_of text (Some name) = name_below text name

-- the lines from a node on that is left
abbrev pub lines_of : (ℕ → Option Shown) → List ℕ → Left → List Said
lines_of nodes text l = lines_by nodes l.depth (text_of (take l.above text) l.name) l.birth

-- all lines that are left
abbrev pub lines_left : (ℕ → Option Shown) → Waiting → List Said
lines_left nodes w = flat_map (lines_of nodes w.text) w.nodes

-- the birth of the next node
abbrev pub next_birth : List Left → Option ℕ
next_birth [] = None
next_birth (l ∷ ls) = Some l.birth

-- an entry below a path whose text is so long, and all of them; none where no level is left
abbrev pub child : ℕ → ℕ → List ℕ × ℕ → Left
child above depth e = record { name = Some e.0; birth = e.1; above = above; depth = depth }

abbrev pub children : ℕ → ℕ → Entries → List Left
children above zero entries = []
children above (suc depth) entries = map (child above (suc depth)) entries

-- each node lies below a part of the path of the one before, and has a level
abbrev pub AreNested : ℕ → List Left → Type 0
AreNested long [] = Unit {0}
AreNested long (l ∷ ls) = (l.above ≤ long) × (0 < l.depth) × AreNested l.above ls

-- each node has a name, or none, below the text of a path
abbrev pub AreBelow : List ℕ → List Left → Type 0
AreBelow text [] = Unit {0}
AreBelow text (l ∷ ls) = (is_below (take l.above text) ≡ true) × (is_named l.name ≡ true) × AreBelow text ls

-- the names of entries are names, where a level is left for them
abbrev pub AreNamed : ℕ → Entries → Type 0
AreNamed zero entries = Unit {0}
AreNamed (suc depth) entries = list_all is_entry_named entries ≡ true

-- the text is that of the next node's path
abbrev pub IsPathOf : List ℕ → List Left → Type 0
IsPathOf text [] = Unit {0}
IsPathOf text (l ∷ ls) = text ≡ text_of (take l.above text) l.name

abbrev pub IsAt : Waiting → Type 0
IsAt w = IsPathOf w.text w.nodes × AreNested (length w.text) w.nodes

-- what is left once the entries of the next node stand in its place
abbrev pub opened : List ℕ → List Left → Entries → List Left
opened text [] entries = []
opened text (l ∷ ls) entries = children (length text) (l.depth - 1) entries ++ ls

-- the same nodes are left, and the same lines of them
pub record Keeps (old new : Waiting) : Type 0 where
  pub nodes : new.nodes ≡ old.nodes
  pub lines : (nodes : ℕ → Option Shown) → lines_left nodes new ≡ lines_left nodes old

-- the next node isn't there
abbrev pub Passes : Waiting → Waiting → Type 0
Passes old new = (nodes : ℕ → Option Shown) (birth : ℕ) → next_birth old.nodes ≡ Some birth → nodes birth ≡ None → lines_left nodes old ≡ lines_left nodes new

-- the next node shows this, and this is its line
abbrev pub Says : Shown → Waiting → Waiting → Said → Type 0
Says x old new line = (nodes : ℕ → Option Shown) (birth : ℕ) → next_birth old.nodes ≡ Some birth → nodes birth ≡ Some x → lines_left nodes old ≡ line ∷ lines_left nodes new
