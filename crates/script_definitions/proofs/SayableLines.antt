-- The lines of a tree that can be said, its answers, and the lines of a script that was read are what said lines must be.
use Rattle.std.proofs.Common.{◌≡◌, ℕ, ◌^◌, ◌<◌, Bool, true, eqb, ltb, inl, inr, List, [], ◌∷◌, ◌++◌, length, Option, Some, None, refl, sym, ◌∙◌, ap, zero, suc}
use Rattle.std.specs.List.{All, list_all, slice_split, join_with_byte, flat_map}
use Rattle.std.specs.Map.{keys_of}
use Rattle.std.proofs.lemmas.Bool.{and_parts, and_from, lt-ltb}
use Rattle.std.proofs.lemmas.Grind.{flat_map-append}
use Rattle.std.proofs.lemmas.List.{append-nil}
use Rattle.std.proofs.lemmas.List.Elements.{All-nil, All-cons, All-head, All-tail, All-append}
use Rattle.frang_base.specs.Name.{is_name}
use Rattle.frang_base.specs.declared.reply.Reply.{Reply}
use Rattle.frang_base.specs.declared.reply.Reply.TheVariants as reply
use Rattle.frang_base.specs.declared.said.Said.{Said}
use Rattle.frang_base.specs.declared.said.Said.TheVariants as said
use Rattle.frang_base.specs.declared.sector.ServerId.{ServerId}
use Rattle.tree_definitions.specs.declared.node.Node.{Node}
use Rattle.tree_definitions.specs.declared.node.Node.TheVariants.{Dir, File, Link}
use Rattle.tree_definitions.specs.Entries.{Entries}
use Rattle.tree_definitions.specs.Tree.{FileTree, node_at}
use Rattle.tree_definitions.specs.TreeLines.{name_below, lines_with, lines_from, tree_lines}
use Rattle.tree_definitions.specs.TreeLines as lines
use Rattle.script_definitions.specs.SaidReading.{is_path_text, IsWho, IsProperReply, IsProperSaid}
use Rattle.script_definitions.specs.ScriptPrinted.{path_text}
use Rattle.script_definitions.specs.Sayable.{IsSayableCell, IsNodeIfOf, AreSayableEntries, IsSayableTree, IsSayableReply, IsTreeLine, HasCounts}
use Rattle.script_definitions.proofs.Splitting.{is_free, all_weaker, all_append, split_join, joined}
use Rattle.script_definitions.proofs.AskedLaws.{slash_free}
use Rattle.script_definitions.proofs.SayableTrees.{found_sayable}

-- a text of names, each behind a slash
pub record IsBelow (text : List ℕ) : Type 0 where
  pub names : List (List ℕ)
  pub named : list_all is_name names ≡ true
  pub is : text ≡ flat_map (λ n. 47 ∷ n) names

pub below_none : IsBelow []
below_none = record { names = []; named = refl; is = refl }

pub below_more : (text name : List ℕ) → IsBelow text → is_name name ≡ true → IsBelow (name_below text name)
below_more text name h e = record {
  names = h.names ++ name ∷ [];
  named = all_append is_name h.names (name ∷ []) h.named (and_from (is_name name) true e refl);
  is = ap (λ t. t ++ 47 ∷ name) h.is ∙ ap (λ t. flat_map (λ n. 47 ∷ n) h.names ++ t) (sym (append-nil (47 ∷ name))) ∙ sym (flat_map-append (λ n. 47 ∷ n) h.names (name ∷ []));
}

-- a path of names is the text of a path
some_name : (name : List ℕ) (names : List (List ℕ)) (text : List ℕ) → is_name name ≡ true → text ≡ join_with_byte 47 (name ∷ names) → is_path_text (47 ∷ text) ≡ list_all is_name (slice_split (λ c. eqb c 47) text)
some_name [] names text e is = cc
some_name (b ∷ name) [] [] e is = cc
some_name (b ∷ name) (next ∷ names) [] e is = cc
some_name (b ∷ name) names (c ∷ text) e is = refl

pub proper_path : (names : List (List ℕ)) → list_all is_name names ≡ true → is_path_text (path_text names) ≡ true
proper_path [] e = refl
proper_path (name ∷ names) e =
    let text = join_with_byte 47 (name ∷ names) in
    ap is_path_text (sym (ap (λ t. 47 ∷ t) (joined 47 name names)))
    ∙ some_name name names text (and_parts (is_name name) (list_all is_name names) e).0 refl
    ∙ ap (list_all is_name) (split_join 47 name names (all_weaker is_name (is_free 47) slash_free (name ∷ names) e))
    ∙ e

text_step : (names : List (List ℕ)) → lines.path_text (flat_map (λ n. 47 ∷ n) names) ≡ path_text names
text_step [] = refl
text_step (name ∷ names) = refl

pub below_path : (text : List ℕ) → IsBelow text → is_path_text (lines.path_text text) ≡ true
below_path text h = ap (λ t. is_path_text (lines.path_text t)) h.is ∙ ap is_path_text (text_step h.names) ∙ proper_path h.names h.named

-- the lines of a tree
entries_lines : (f : List ℕ × ℕ → List Said) (entries : Entries) → AreSayableEntries entries → ((e : List ℕ × ℕ) → is_name e.0 ≡ true → All IsTreeLine (f e)) → All IsTreeLine (flat_map f entries)
entries_lines f [] h k = All-nil IsTreeLine
entries_lines f (e ∷ entries) h k =
    All-append IsTreeLine (f e) (flat_map f entries) (k e (All-head (λ n. is_name n ≡ true) e.0 (keys_of entries) h))
    (entries_lines f entries (All-tail (λ n. is_name n ≡ true) e.0 (keys_of entries) h) k)

node_lines : (text : List ℕ) (node : Option Node) (f : List ℕ × ℕ → List Said) → IsBelow text → IsNodeIfOf IsSayableCell node → ((e : List ℕ × ℕ) → is_name e.0 ≡ true → All IsTreeLine (f e)) → All IsTreeLine (lines_with text node f)
node_lines text None f h k more = All-nil IsTreeLine
node_lines text (Some (File cells links when)) f h k more = All-cons IsTreeLine (said.Node (lines.path_text text) 1 (length cells) links) [] (below_path text h, inl refl) (All-nil IsTreeLine)
node_lines text (Some (Link target links)) f h k more = All-cons IsTreeLine (said.Node (lines.path_text text) 3 (length target) 0) [] (below_path text h, inr (inr refl, refl)) (All-nil IsTreeLine)
node_lines text (Some (Dir entries blocks)) f h k more = All-cons IsTreeLine (said.Node (lines.path_text text) 2 (length entries) 0) (flat_map f entries) (below_path text h, inr (inl refl, refl)) (entries_lines f entries k more)

from_lines : (depth : ℕ) (tree : FileTree) (text : List ℕ) (birth : ℕ) → IsSayableTree tree → IsBelow text → All IsTreeLine (lines_from depth tree text birth)
from_lines zero tree text birth h k = All-nil IsTreeLine
from_lines (suc depth) tree text birth h k =
    node_lines text (node_at tree birth) (λ e. lines_from depth tree (name_below text e.0) e.1) k (found_sayable IsSayableCell (λ b l. l) 0 tree birth h)
    (λ e named. from_lines depth tree (name_below text e.0) e.1 h (below_more text e.0 k named))

pub sayable_lines : (tree : FileTree) → IsSayableTree tree → All IsTreeLine (tree_lines tree)
sayable_lines tree h = from_lines (length tree.nodes) tree [] 0 h below_none

-- lines and replies of which the numbers have 32 bits
pub proper_node : (path : List ℕ) (kind size links : ℕ) → IsTreeLine (said.Node path kind size links) → size < 2 ^ 32 → links < 2 ^ 32 → IsProperSaid (said.Node path kind size links)
proper_node path kind size links (text, inl file) s l = (text, inl (file, l), s)
proper_node path kind size links (text, inr other) s l = (text, inr other, s)

all_pass : {A : Type 0} (p : A → Bool) (xs : List A) → All (λ x. p x ≡ true) xs → list_all p xs ≡ true
all_pass p [] h = refl
all_pass p (x ∷ xs) h = and_from (p x) (list_all p xs) (All-head (λ y. p y ≡ true) x xs h) (all_pass p xs (All-tail (λ y. p y ≡ true) x xs h))

all_bytes : (bytes : List ℕ) → All (λ b. b < 256) bytes → list_all (λ b. ltb b 256) bytes ≡ true
all_bytes [] h = refl
all_bytes (b ∷ bytes) h = and_from (ltb b 256) (list_all (λ c. ltb c 256) bytes) (lt-ltb b 256 (All-head (λ c. c < 256) b bytes h)) (all_bytes bytes (All-tail (λ c. c < 256) b bytes h))

pub proper_reply : (r : Reply) → IsSayableReply r → HasCounts r → IsProperReply r
proper_reply (reply.Shown bytes) h k = all_bytes bytes h
proper_reply (reply.Names names) h k = all_pass is_name names h
proper_reply (reply.Target target) h k = h
proper_reply (reply.File size links) h k = k
proper_reply (reply.Dir entries) h k = k
proper_reply (reply.Symlink len) h k = k
proper_reply (reply.Time run tick) h k = k
proper_reply (reply.NoBlock m) h k = k
proper_reply _ h k = tt

pub proper_answer : (server : ServerId) (line : ℕ) (r : Reply) → IsWho server.0 → line < 2 ^ 32 → IsSayableReply r → HasCounts r → IsProperSaid (said.Answer server line r)
proper_answer server line r w l h k = (w, l, proper_reply r h k)
