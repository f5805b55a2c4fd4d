-- What is left lies below texts of paths: where the text grows, and where a node's entries stand in its place.
use Rattle.std.proofs.Common.{◌≡◌, ℕ, zero, suc, ◌-◌, true, Option, Some, None, List, [], ◌∷◌, ◌++◌, length, map, take, option_to_list, reverse, sym, ◌∙◌, ap, subst, arith, le_refl}
use Rattle.std.specs.Prelude.{IsSome}
use Rattle.std.specs.List.{list_all}
use Rattle.std.proofs.lemmas.Bool.{and_from, and_parts}
use Rattle.std.proofs.Math.Seq.{take-length}
use Rattle.frang_base.specs.Name.{is_name}
use Rattle.tree_definitions.specs.Entries.{Entries}
use Rattle.tree_lines.specs.declared.left.Left.{Left}
use Rattle.tree_lines.specs.Below.{is_below, is_entry_named, is_named}
use Rattle.tree_lines.specs.Waiting.{AreBelow, AreNamed, AreNested, IsPathOf, child, children, next_birth, opened, text_of}
use Rattle.tree_lines.proofs.LeftLaws.{popped, shorter}
use Rattle.tree_lines.proofs.PathTexts.{below_name}

-- ---- texts that begin alike

same_below : (ls : List Left) (n : ℕ) (new text : List ℕ) → AreNested n ls → take n new ≡ take n text → AreBelow text ls → AreBelow new ls
same_below [] n new text nested e below = tt
same_below (l ∷ ls) n new text nested e below =
    let s = shorter l.above n new text nested.0 e in
    (ap is_below s ∙ below.0, below.1, same_below ls l.above new text nested.2 s below.2)

pub kept_below : (nodes : List Left) (l : Left) (ls : List Left) (n : ℕ) (new text : List ℕ) → nodes ≡ l ∷ ls → AreNested n nodes → take l.above new ≡ take l.above text → AreBelow text nodes → AreBelow new nodes
kept_below nodes l ls n new text is nested e below =
    let both = subst (AreNested n) is nested in
    subst (AreBelow new) (sym is) (same_below (l ∷ ls) l.above new text (le_refl l.above, both.1, both.2) e (subst (AreBelow text) is below))

-- ---- the text of the next node's path

path_below : (text : List ℕ) (name : Option (List ℕ)) → is_below text ≡ true → is_named name ≡ true → is_below (text_of text name) ≡ true
path_below text None h n = h
path_below text (Some name) h n = below_name text name h n

pub here_below : (text : List ℕ) (nodes : List Left) → IsSome (next_birth nodes) → IsPathOf text nodes → AreBelow text nodes → is_below text ≡ true
here_below text [] some path below = absurd (cc)
here_below text (l ∷ ls) some path below = ap is_below path ∙ path_below (take l.above text) l.name below.0 below.1

-- ---- a node's entries in its place

mapped_below : (text : List ℕ) (depth : ℕ) (es : Entries) (ls : List Left) → is_below text ≡ true → list_all is_entry_named es ≡ true → AreBelow text ls → AreBelow text (map (child (length text) depth) es ++ ls)
mapped_below text depth [] ls h named below = below
mapped_below text depth (e ∷ es) ls h named below =
    let both = and_parts (is_name e.0) (list_all is_entry_named es) named in
    (ap is_below (take-length text) ∙ h, both.0, mapped_below text depth es ls h both.1 below)

children_below : (text : List ℕ) (depth : ℕ) (es : Entries) (ls : List Left) → is_below text ≡ true → AreNamed depth es → AreBelow text ls → AreBelow text (children (length text) depth es ++ ls)
children_below text zero es ls h named below = below
children_below text (suc depth) es ls h named below = mapped_below text (suc depth) es ls h named below

pub opened_below : (text : List ℕ) (l : Left) (ls : List Left) (es : Entries) → text ≡ text_of (take l.above text) l.name → AreNamed (l.depth - 1) es → AreBelow text (l ∷ ls) → AreBelow text (opened text (l ∷ ls) es)
opened_below text l ls es path named below =
    children_below text (l.depth - 1) es ls (ap is_below path ∙ path_below (take l.above text) l.name below.0 below.1) named below.2

-- the nodes that are left behind the next one
pub tail_below : (text : List ℕ) (here last : Option Left) (left new : List Left) → (here ≡ None → left ≡ []) → left ≡ new ++ option_to_list last → AreBelow text (option_to_list here ++ reverse left) → AreBelow text (option_to_list last ++ reverse new)
tail_below text None last left new none e below =
    subst (AreBelow text) (popped left new last e) below
tail_below text (Some l) last left new none e below = subst (AreBelow text) (popped left new last e) below.2

-- ---- names, one after the other

pub no_names : (depth : ℕ) (es : Entries) → depth ≡ 0 → AreNamed depth es
no_names zero es none = tt
no_names (suc depth) es none = absurd (omega arith)

pub all_named : (depth : ℕ) (es : Entries) → list_all is_entry_named es ≡ true → AreNamed depth es
all_named zero es named = tt
all_named (suc depth) es named = named

pub next_named : (e : List ℕ × ℕ) (left rest all : Entries) → (list_all is_entry_named left ≡ true → list_all is_entry_named all ≡ true) → left ≡ e ∷ rest → is_name e.0 ≡ true → list_all is_entry_named rest ≡ true → list_all is_entry_named all ≡ true
next_named e left rest all so takes named more = so (ap (list_all is_entry_named) takes ∙ and_from (is_name e.0) (list_all is_entry_named rest) named more)
