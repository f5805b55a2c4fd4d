-- What is left of the lines of a tree, step by step: a longer text keeps what lies below its first part, and a node's entries in its place are its lines.
use Rattle.std.proofs.Common.{◌≡◌, ◌≤◌, ◌<◌, ℕ, zero, suc, ◌-◌, Option, Some, None, List, [], ◌∷◌, ◌++◌, length, map, option_to_list, reverse, take, refl, sym, ◌∙◌, ap, ap₂, subst, arith, le_trans, le_refl, append_assoc, append-nil}
use Rattle.std.specs.List.{flat_map}
use Rattle.std.proofs.lemmas.List.{reverse-append, reverse-reverse, take-take}
use Rattle.std.proofs.lemmas.Grind.{flat_map-append}
use Rattle.std.proofs.Math.Seq.{take-length}
use Rattle.frang_base.specs.declared.said.Said.TheVariants as said
use Rattle.tree_definitions.specs.Entries.{Entries}
use Rattle.tree_definitions.specs.TreeLines.{name_below, path_text}
use Rattle.tree_lines.specs.declared.left.Left.{Left}
use Rattle.tree_lines.specs.Shown.{Shown, lines_by, lines_shown}
use Rattle.tree_lines.specs.Waiting.{AreNested, IsAt, IsPathOf, Keeps, Passes, Says, Waiting, child, children, lines_of, next_birth, opened, text_of}

pub flat_map_same : {X A : Type 0} (f g : X → List A) (xs : List X) → ((x : X) → f x ≡ g x) → flat_map f xs ≡ flat_map g xs
flat_map_same f g [] same = refl
flat_map_same f g (x ∷ xs) same = ap₂ (λ a b. a ++ b) (same x) (flat_map_same f g xs same)

pub deeper : (nodes : ℕ → Option Shown) (n : ℕ) (text : List ℕ) (birth : ℕ) → 0 < n
    → lines_by nodes n text birth ≡ lines_shown text (nodes birth) (λ e. lines_by nodes (n - 1) (name_below text e.0) e.1)
deeper nodes zero text birth some = absurd (omega arith)
deeper nodes (suc n) text birth some = ap (λ k. lines_shown text (nodes birth) (λ e. lines_by nodes k (name_below text e.0) e.1)) (let e : n ≡ suc n - 1 = omega arith in e)

none_by : (nodes : ℕ → Option Shown) (n : ℕ) (text : List ℕ) (birth : ℕ) → nodes birth ≡ None → lines_by nodes n text birth ≡ []
none_by nodes zero text birth none = refl
none_by nodes (suc n) text birth none = ap (λ o. lines_shown text o (λ e. lines_by nodes n (name_below text e.0) e.1)) none

-- ---- texts that begin alike

pub shorter : (i n : ℕ) (new text : List ℕ) → i ≤ n → take n new ≡ take n text → take i new ≡ take i text
shorter i n new text le e = sym (take-take i n new le) ∙ ap (take i) e ∙ take-take i n text le

same_lines : (nodes : ℕ → Option Shown) (ls : List Left) (n : ℕ) (new text : List ℕ) → AreNested n ls → take n new ≡ take n text → flat_map (lines_of nodes new) ls ≡ flat_map (lines_of nodes text) ls
same_lines nodes [] n new text nested e = refl
same_lines nodes (l ∷ ls) n new text nested e =
    let s = shorter l.above n new text nested.0 e in
    ap₂ (λ a b. a ++ b) (ap (λ t. lines_by nodes l.depth (text_of t l.name) l.birth) s) (same_lines nodes ls l.above new text nested.2 s)

-- ---- nested nodes

pub longer : (ls : List Left) (n m : ℕ) → n ≤ m → AreNested n ls → AreNested m ls
longer [] n m le nested = tt
longer (l ∷ ls) n m le nested = (le_trans nested.0 le, nested.1, nested.2)

mapped_nested : (n depth : ℕ) (es : Entries) (ls : List Left) → 0 < depth → AreNested n ls → AreNested n (map (child n depth) es ++ ls)
mapped_nested n depth [] ls some nested = nested
mapped_nested n depth (e ∷ es) ls some nested = (le_refl n, some, mapped_nested n depth es ls some nested)

pub children_nested : (n depth : ℕ) (es : Entries) (ls : List Left) → AreNested n ls → AreNested n (children n depth es ++ ls)
children_nested n zero es ls nested = nested
children_nested n (suc depth) es ls nested = mapped_nested n (suc depth) es ls (omega arith) nested

pub opened_nested : (text : List ℕ) (nodes : List Left) (es : Entries) → AreNested (length text) nodes → AreNested (length text) (opened text nodes es)
opened_nested text [] es nested = tt
opened_nested text (l ∷ ls) es nested = children_nested (length text) (l.depth - 1) es ls (longer ls l.above (length text) nested.0 nested.2)

-- ---- the text of the next node's path

pub kept : (nodes : List Left) (l : Left) (ls : List Left) (n : ℕ) (new text : List ℕ) → nodes ≡ l ∷ ls → AreNested n nodes → take l.above new ≡ take l.above text
    → Keeps (record { text = text; nodes = nodes }) (record { text = new; nodes = nodes })
kept nodes l ls n new text is nested e =
    let own : AreNested l.above (l ∷ ls) = (let both = subst (AreNested n) is nested in (le_refl l.above, both.1, both.2)) in
    record { nodes = refl; lines = λ at. ap (flat_map (lines_of at new)) is ∙ same_lines at (l ∷ ls) l.above new text own e ∙ ap (flat_map (lines_of at text)) (sym is) }

pub entered_nested : (nodes : List Left) (l : Left) (ls : List Left) (n : ℕ) (new : List ℕ) → nodes ≡ l ∷ ls → AreNested n nodes → l.above ≤ length new → AreNested (length new) nodes
entered_nested nodes l ls n new is nested long = let both = subst (AreNested n) is nested in subst (AreNested (length new)) (sym is) (long, both.1, both.2)

pub entered : (nodes : List Left) (l : Left) (ls : List Left) (n : ℕ) (new text : List ℕ) → nodes ≡ l ∷ ls → AreNested n nodes → take l.above new ≡ take l.above text → l.above ≤ length new
    → new ≡ text_of (take l.above text) l.name → IsAt (record { text = new; nodes = nodes })
entered nodes l ls n new text is nested e long path =
    (subst (IsPathOf new) (sym is) (path ∙ ap (λ t. text_of t l.name) (sym e)), entered_nested nodes l ls n new is nested long)

-- ---- a node's entries in its place

no_levels : (nodes : ℕ → Option Shown) (text : List ℕ) (es : Entries) → flat_map (λ e. lines_by nodes 0 (name_below text e.0) e.1) es ≡ []
no_levels nodes text [] = refl
no_levels nodes text (e ∷ es) = no_levels nodes text es

mapped_lines : (nodes : ℕ → Option Shown) (text : List ℕ) (depth : ℕ) (es : Entries) → flat_map (lines_of nodes text) (map (child (length text) depth) es) ≡ flat_map (λ e. lines_by nodes depth (name_below text e.0) e.1) es
mapped_lines nodes text depth [] = refl
mapped_lines nodes text depth (e ∷ es) = ap₂ (λ a b. a ++ b) (ap (λ t. lines_by nodes depth (name_below t e.0) e.1) (take-length text)) (mapped_lines nodes text depth es)

child_lines : (nodes : ℕ → Option Shown) (text : List ℕ) (depth : ℕ) (es : Entries) → flat_map (lines_of nodes text) (children (length text) depth es) ≡ flat_map (λ e. lines_by nodes depth (name_below text e.0) e.1) es
child_lines nodes text zero es = sym (no_levels nodes text es)
child_lines nodes text (suc depth) es = mapped_lines nodes text (suc depth) es

own_lines : (nodes : ℕ → Option Shown) (text : List ℕ) (l : Left) (x : Shown) → nodes l.birth ≡ Some x → 0 < l.depth → text ≡ text_of (take l.above text) l.name
    → lines_of nodes text l ≡ said.Node (path_text text) x.kind x.size x.links ∷ flat_map (lines_of nodes text) (children (length text) (l.depth - 1) x.entries)
own_lines nodes text l x found some path =
    ap (λ t. lines_by nodes l.depth t l.birth) (sym path) ∙ deeper nodes l.depth text l.birth some ∙ ap (λ o. lines_shown text o (λ e. lines_by nodes (l.depth - 1) (name_below text e.0) e.1)) found
    ∙ ap (λ ls. said.Node (path_text text) x.kind x.size x.links ∷ ls) (sym (child_lines nodes text (l.depth - 1) x.entries))

opened_lines : (at : ℕ → Option Shown) (birth : ℕ) (text : List ℕ) (nodes : List Left) (x : Shown) → next_birth nodes ≡ Some birth → at birth ≡ Some x → IsPathOf text nodes → AreNested (length text) nodes
    → flat_map (lines_of at text) nodes ≡ said.Node (path_text text) x.kind x.size x.links ∷ flat_map (lines_of at text) (opened text nodes x.entries)
opened_lines at birth text [] x next found path nested = absurd (cc)
opened_lines at birth text (l ∷ ls) x next found path nested =
    let same : l.birth ≡ birth = cc in
    ap (λ own. own ++ flat_map (lines_of at text) ls) (own_lines at text l x (ap at same ∙ found) nested.1 path)
    ∙ ap (λ rest. said.Node (path_text text) x.kind x.size x.links ∷ rest) (sym (flat_map-append (lines_of at text) (children (length text) (l.depth - 1) x.entries) ls))

pub says_step : (old mid new : Waiting) (x : Shown) (path : List ℕ) → Keeps old mid → IsAt mid → path ≡ path_text mid.text → new.text ≡ mid.text → new.nodes ≡ opened mid.text mid.nodes x.entries
    → Says x old new (said.Node path x.kind x.size x.links)
says_step old mid new x path keeps at shown text nodes on birth next found =
    sym (keeps.lines on)
    ∙ opened_lines on birth mid.text mid.nodes x (ap next_birth keeps.nodes ∙ next) found at.0 at.1
    ∙ ap₂ (λ p rest. said.Node p x.kind x.size x.links ∷ rest) (sym shown) (ap₂ (λ t ns. flat_map (lines_of on t) ns) (sym text) (sym nodes))

-- ---- the nodes that are left

pub popped : (left new : List Left) (last : Option Left) → left ≡ new ++ option_to_list last → reverse left ≡ option_to_list last ++ reverse new
popped left new None e = ap reverse (e ∙ append-nil new)
popped left new (Some l) e = ap reverse e ∙ reverse-append new (l ∷ [])

pub passed : (text : List ℕ) (here last : Option Left) (left new : List Left) → (here ≡ None → left ≡ []) → left ≡ new ++ option_to_list last
    → Passes (record { text = text; nodes = option_to_list here ++ reverse left }) (record { text = text; nodes = option_to_list last ++ reverse new })
passed text None last left new none e at birth next gone =
    let no : next_birth (reverse left) ≡ None = ap (λ ls. next_birth (reverse ls)) (none refl) in
    absurd (cc)
passed text (Some l) last left new none e at birth next gone =
    let same : l.birth ≡ birth = cc in
    ap (λ own. own ++ flat_map (lines_of at text) (reverse left)) (none_by at l.depth (text_of (take l.above text) l.name) l.birth (ap at same ∙ gone)) ∙ ap (flat_map (lines_of at text)) (popped left new last e)

pub next_child : {X Y : Type 0} (f : X → Y) (x : X) (left rest : List X) (before more all : List Y) → before ++ map f left ≡ all → left ≡ x ∷ rest → more ≡ before ++ f x ∷ [] → more ++ map f rest ≡ all
next_child f x left rest before more all inv takes e = ap (λ ys. ys ++ map f rest) e ∙ append_assoc before (f x ∷ []) (map f rest) ∙ ap (λ xs. before ++ map f xs) (sym takes) ∙ inv

pub some_children : (above depth : ℕ) (es : Entries) → 0 < depth → children above depth es ≡ map (child above depth) es
some_children above zero es some = absurd (omega arith)
some_children above (suc depth) es some = refl

-- the entries of the next node, put above those that were left
pub put : (text : List ℕ) (l : Left) (es : Entries) (left more all new : List Left) (last : Option Left) → more ≡ reverse (children (length text) (l.depth - 1) es) → all ≡ left ++ more → all ≡ new ++ option_to_list last
    → option_to_list last ++ reverse new ≡ opened text (l ∷ reverse left) es
put text l es left more all new last m a p =
    sym (popped all new last p) ∙ ap reverse a ∙ reverse-append left more ∙ ap (λ xs. xs ++ reverse left) (ap reverse m ∙ reverse-reverse (children (length text) (l.depth - 1) es))
