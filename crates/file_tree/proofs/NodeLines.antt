-- The lines of a tree by what its nodes show, and one line more that can be said.
use Rattle.std.proofs.Common.{◌≡◌, ℕ, zero, suc, ◌<◌, Option, Some, None, List, [], ◌∷◌, ◌++◌, length, refl, sym, ◌∙◌, ap, subst, arith, append-nil, append_assoc}
use Rattle.std.specs.List.{flat_map}
use Rattle.std.specs.Option.{option_map}
use Rattle.frang_base.specs.declared.said.Said.{Said}
use Rattle.frang_base.specs.declared.said.Said.TheVariants as said
use Rattle.script_definitions.specs.SaidReading.{IsProperSaid}
use Rattle.tree_definitions.specs.declared.node.Node.{Node}
use Rattle.tree_definitions.specs.declared.node.Node.TheVariants.{Dir, File, Link}
use Rattle.tree_definitions.specs.Tree.{FileTree, node_at}
use Rattle.tree_definitions.specs.TreeLines.{path_text, name_below, lines_with, lines_from, tree_lines}
use Rattle.tree_lines.specs.Shown.{Shown, lines_by, lines_shown}
use Rattle.tree_lines.specs.Waiting.{Waiting, Says, lines_left, lines_of, next_birth}
use Rattle.tree_lines.specs.declared.left.Left.{Left}
use Rattle.tree_lines.proofs.LeftLaws.{flat_map_same}
use Rattle.file_tree.specs.Lined.{IsNext, shown_by, shown_in}
use Rattle.file_tree.specs.Proper.{AreProper}

same_from : (text : List ℕ) (node : Option Node) (f g : List ℕ × ℕ → List Said) → ((e : List ℕ × ℕ) → f e ≡ g e) → lines_with text node f ≡ lines_shown text (option_map shown_by node) g
same_from text None f g same = refl
same_from text (Some (File cells links when)) f g same = refl
same_from text (Some (Link target links)) f g same = refl
same_from text (Some (Dir entries blocks)) f g same = ap (λ ls. said.Node (path_text text) 2 (length entries) 0 ∷ ls) (flat_map_same f g entries same)

same_lines : (n : ℕ) (tree : FileTree) (text : List ℕ) (birth : ℕ) → lines_from n tree text birth ≡ lines_by (shown_in tree.nodes) n text birth
same_lines zero tree text birth = refl
same_lines (suc n) tree text birth =
    same_from text (node_at tree birth) (λ e. lines_from n tree (name_below text e.0) e.1) (λ e. lines_by (shown_in tree.nodes) n (name_below text e.0) e.1) (λ e. same_lines n tree (name_below text e.0) e.1)

pub all_lines : (tree : FileTree) (nodes : List (ℕ × Node)) → tree.nodes ≡ nodes → lines_by (shown_in nodes) (length nodes) [] 0 ≡ tree_lines tree
all_lines tree nodes same = ap (λ ns. lines_by (shown_in ns) (length ns) [] 0) (sym same) ∙ sym (same_lines (length tree.nodes) tree [] 0)

-- ---- the next node

none_left : (nodes : ℕ → Option Shown) (text : List ℕ) (left : List Left) → next_birth left ≡ None → flat_map (lines_of nodes text) left ≡ []
none_left nodes text [] none = refl
none_left nodes text (l ∷ ls) none = absurd (cc)

-- the lines that were given are all, where none is left
pub given_all : (nodes : List (ℕ × Node)) (lines all : List Said) (old w : Waiting) → lines ++ lines_left (shown_in nodes) old ≡ all → lines_left (shown_in nodes) w ≡ lines_left (shown_in nodes) old → next_birth w.nodes ≡ None → lines ≡ all
given_all nodes lines all old w given same none =
    sym (append-nil lines) ∙ ap (λ ls. lines ++ ls) (sym (none_left (shown_in nodes) w.text w.nodes none) ∙ same) ∙ given

-- a line more
left_after : (nodes : List (ℕ × Node)) (node : Node) (old w new : Waiting) (line : Said) → lines_left (shown_in nodes) w ≡ lines_left (shown_in nodes) old → IsNext nodes w (Some node) → Says (shown_by node) w new line
    → lines_left (shown_in nodes) old ≡ line ∷ lines_left (shown_in nodes) new
left_after nodes node old w new line same next says = sym same ∙ says (shown_in nodes) next.0 next.1 (ap (option_map shown_by) next.2)

pub given_more : (nodes : List (ℕ × Node)) (node : Node) (lines more all : List Said) (old w new : Waiting) (line : Said) → lines ++ lines_left (shown_in nodes) old ≡ all → lines_left (shown_in nodes) w ≡ lines_left (shown_in nodes) old
    → IsNext nodes w (Some node) → Says (shown_by node) w new line → more ≡ lines ++ line ∷ [] → more ++ lines_left (shown_in nodes) new ≡ all
given_more nodes node lines more all old w new line given same next says e =
    ap (λ ls. ls ++ lines_left (shown_in nodes) new) e ∙ append_assoc lines (line ∷ []) (lines_left (shown_in nodes) new)
    ∙ ap (λ ls. lines ++ ls) (sym (left_after nodes node old w new line same next says)) ∙ given

pub fewer_left : (nodes : List (ℕ × Node)) (node : Node) (old w new : Waiting) (line : Said) → lines_left (shown_in nodes) w ≡ lines_left (shown_in nodes) old
    → IsNext nodes w (Some node) → Says (shown_by node) w new line → length (lines_left (shown_in nodes) new) < length (lines_left (shown_in nodes) old)
fewer_left nodes node old w new line same next says =
    let one : length (lines_left (shown_in nodes) old) ≡ suc (length (lines_left (shown_in nodes) new)) = ap length (left_after nodes node old w new line same next says) in
    omega arith

-- ---- lines that can be said

pub proper_push : (lines more : List Said) (line : Said) → more ≡ lines ++ line ∷ [] → AreProper lines → IsProperSaid line → AreProper more
proper_push lines more line e proper own = subst AreProper (sym e) (go lines proper)
  where
    go : (ls : List Said) → AreProper ls → AreProper (ls ++ line ∷ [])
    go [] h = (own, tt)
    go (l ∷ ls) h = (h.0, go ls h.1)
