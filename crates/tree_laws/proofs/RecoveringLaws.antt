-- What a recovery leaves does what it did in the whole list.
use Rattle.std.proofs.Common.{ℕ, ◌≡◌, ◌+◌, Bool, true, false, not, Option, Some, None, List, [], ◌∷◌, ◌++◌, cond, refl, sym, ◌∙◌, ap, subst, inr, append_assoc, append-nil, take, drop, map, take-append-drop, drop-drop}
use Rattle.std.specs.List.{list_any}
use Rattle.std.proofs.lemmas.Bool.{and_parts}
use Rattle.tree_definitions.specs.declared.cells.Cell.{Cell}
use Rattle.tree_definitions.specs.declared.cells.Cell.TheVariants.{Doubtful}
use Rattle.tree_definitions.specs.declared.node.Node.{Node}
use Rattle.tree_definitions.specs.declared.node.Node.TheVariants.{Dir, File, Link}
use Rattle.tree_definitions.specs.Tree.{FileTree, node_at, with_node}
use Rattle.tree_definitions.specs.History.{Settled, InDoubt, CellRun, doubted_cells, doubted_file, doubted, file_of, after, after_all, grows, may_stand, legal_from}
use Rattle.tree_definitions.specs.Touched.{stalled_after}
use Rattle.tree_definitions.specs.Removal.{mounts, is_lost, begins_removal, left, doubtful, recovered, none_known, keeps_known}
use Rattle.tree_definitions.specs.WellFormed.{IsWellFormed, AreNew}
use Rattle.tree_laws.specs.Removing.{without, has_room, room_left}
use Rattle.tree_definitions.proofs.Births.{each_but}
use Rattle.tree_laws.proofs.Nodes.{with_same, with_other}
use Rattle.tree_laws.proofs.Likeness.{Like, Near, like_same, like_equal}
use Rattle.tree_laws.specs.Alike.{Vaguer}
use Rattle.tree_laws.proofs.Vagueness.{vague, vague_same, vague_joined, vague_nodes_trans}
use Rattle.tree_laws.proofs.StepsLaws.{after_keeps, are_new_after}
use Rattle.tree_laws.proofs.SettlingLaws.{lost_is_of}
use Rattle.tree_laws.proofs.HistoryLaws.{after_all-append}
use Rattle.tree_laws.specs.Leaving.{changed_by, LeavesAlike, WhatARecoveryLeavesDoesTheSame}
use Rattle.tree_laws.proofs.LeavingLaws.{what_is_left_does_the_same}
use Rattle.tree_laws.proofs.RemovingLaws.{unseen_if_unknown}

-- ---- doubt makes nodes vaguer
in_doubt : (xs : List Cell) → Vaguer xs (map (λ c. Doubtful) xs)
in_doubt [] = tt
in_doubt (x ∷ xs) = (inr refl, in_doubt xs)

cells_vaguer : (xs : List Cell) (from count : ℕ) → Vaguer xs (doubted_cells xs from count)
cells_vaguer xs from count =
    let mid = take count (drop from xs) in
    let end = drop (from + count) xs in
    let whole : take from xs ++ mid ++ end ≡ xs =
    append_assoc (take from xs) mid end ∙ ap (λ l. take from xs ++ (mid ++ l)) (sym (drop-drop count from xs)) ∙ ap (λ l. take from xs ++ l) (take-append-drop count (drop from xs)) ∙ take-append-drop from xs in
    subst (λ z. Vaguer z (doubted_cells xs from count)) whole
    (vague_joined (take from xs ++ mid) (take from xs ++ map (λ c. Doubtful) mid) end end
    (vague_joined (take from xs) (take from xs) mid (map (λ c. Doubtful) mid) (vague_same (take from xs)) (in_doubt mid)) (vague_same end))

file_vaguer : (u : FileTree) (d from count : ℕ) (o : Option Node) → node_at u d ≡ o → (b : ℕ) → Near vague u (doubted_file u (file_of d o) from count) b
file_vaguer u d from count (Some (File cells links when)) i b =
    let new = File (doubted_cells cells from count) links when in
    each_but (λ b. Like vague (node_at u b) (node_at (with_node u d new) b)) d
    (subst (λ z. Like vague z (node_at (with_node u d new) d)) (sym i) (doubted_cells cells from count, with_same u d new, cells_vaguer cells from count))
    (λ c far. like_equal vague (node_at u c) (node_at (with_node u d new) c) (sym (with_other u d new c far))) b
file_vaguer u d from count (Some (Dir es n)) i b = like_same vague (node_at u b)
file_vaguer u d from count (Some (Link target links)) i b = like_same vague (node_at u b)
file_vaguer u d from count None i b = like_same vague (node_at u b)

doubted_vaguer : (runs : List CellRun) (u : FileTree) (b : ℕ) → Near vague u (doubted u runs) b
doubted_vaguer [] u b = like_same vague (node_at u b)
doubted_vaguer (run ∷ runs) u b =
    let v = doubted_file u (file_of run.birth (node_at u run.birth)) run.from run.count in
    vague_nodes_trans (node_at u b) (node_at v b) (node_at (doubted v runs) b) (file_vaguer u run.birth run.from run.count (node_at u run.birth) refl b) (doubted_vaguer runs v b)

-- ---- the place where a recovery begins to remove

-- up to a place all is left, and from there on what is without the server's entries
record LeftFrom (server keeps : ℕ) (t : FileTree) (list : List Settled) : Type 0 where
  pub before : List Settled
  pub later : List Settled
  pub splits : list ≡ before ++ later
  pub leaves : left server keeps t list ≡ before ++ without server later
  pub alike : LeavesAlike server (after_all t before) later

left_from : (server keeps : ℕ) (list : List Settled) (stalled : Bool) (t : FileTree) (ever : ℕ) → IsWellFormed t → AreNew t list → legal_from t ever list ≡ true → keeps_known server keeps stalled t list ≡ true → room_left server keeps t list ≡ true → LeftFrom server keeps t list
left_from server keeps [] stalled t ever w new legal known room = record { before = []; later = []; splits = refl; leaves = refl; alike = what_is_left_does_the_same server t ever [] w new refl refl refl }
left_from server keeps (s ∷ rest) stalled t ever w new legal known room =
    let l = and_parts (may_stand t ever s) (legal_from (after t s) (ever + grows t s) rest) legal in
    go (begins_removal server keeps t s rest) refl known room
    (λ k r. left_from server keeps rest (stalled_after server stalled s) (after t s) (ever + grows t s) (after_keeps t s rest w new) (are_new_after t s rest w new) l.1 k r)
  where
    own : begins_removal server keeps t s rest ≡ true → without server rest ≡ without server (s ∷ rest)
    own e = sym (ap (λ b. cond (not b) (s ∷ without server rest) (without server rest)) (lost_is_of server keeps t s (and_parts (is_lost server keeps t s) (not (list_any (mounts server) rest)) e).0))

    leaves_by : (b : Bool) → begins_removal server keeps t s rest ≡ b → left server keeps t (s ∷ rest) ≡ cond b (without server rest) (s ∷ left server keeps (after t s) rest)
    leaves_by b e = ap (λ b. cond b (without server rest) (s ∷ left server keeps (after t s) rest)) e

    go : (b : Bool) → begins_removal server keeps t s rest ≡ b → cond b (none_known server stalled t (s ∷ rest)) (keeps_known server keeps (stalled_after server stalled s) (after t s) rest) ≡ true
        → cond b (has_room t (without server (s ∷ rest))) (room_left server keeps (after t s) rest) ≡ true
        → (keeps_known server keeps (stalled_after server stalled s) (after t s) rest ≡ true → room_left server keeps (after t s) rest ≡ true → LeftFrom server keeps (after t s) rest)
        → LeftFrom server keeps t (s ∷ rest)
    go true e known room later = record {
      before = [];
      later = s ∷ rest;
      splits = refl;
      leaves = leaves_by true e ∙ own e;
      alike = what_is_left_does_the_same server t ever (s ∷ rest) w new legal (unseen_if_unknown server stalled t (s ∷ rest) known) room;
    }
    go false e known room later = let r = later known room in record {
      before = s ∷ r.before;
      later = r.later;
      splits = ap (λ l. s ∷ l) r.splits;
      leaves = leaves_by false e ∙ ap (λ l. s ∷ l) r.leaves;
      alike = r.alike;
    }

pub what_a_recovery_leaves_does_the_same : WhatARecoveryLeavesDoesTheSame
what_a_recovery_leaves_does_the_same server keeps opening ever list w new legal known room = record {
  before = r.before;
  later = r.later;
  splits = r.splits;
  leaves = r.leaves;
  alike = r.alike;
  ends = λ b h. vague_nodes_trans (node_at (after_all opening list) b) (node_at (after_all opening rest) b) (node_at (after_all opening (recovered opening server keeps list)) b) (at_end b h) (in_end b);
}
  where
    r : LeftFrom server keeps opening list
    r = left_from server keeps list false opening ever w new legal known room

    rest : List Settled
    rest = left server keeps opening list

    whole_end : after_all opening list ≡ after_all (after_all opening r.before) r.later
    whole_end = ap (after_all opening) r.splits ∙ after_all-append opening r.before r.later

    rest_end : after_all opening rest ≡ after_all (after_all opening r.before) (without server r.later)
    rest_end = ap (after_all opening) r.leaves ∙ after_all-append opening r.before (without server r.later)

    at_end : (b : ℕ) → changed_by server (after_all opening r.before) r.later b ≡ false → Near vague (after_all opening list) (after_all opening rest) b
    at_end b h = subst (λ z. Near vague z (after_all opening rest) b) (sym whole_end) (subst (λ z. Near vague (after_all (after_all opening r.before) r.later) z b) (sym rest_end) (r.alike.trees r.later [] (sym (append-nil r.later)) b h))

    in_end : (b : ℕ) → Near vague (after_all opening rest) (after_all opening (recovered opening server keeps list)) b
    in_end b = subst (λ z. Near vague (after_all opening rest) z b) (sym (after_all-append opening rest (InDoubt (doubtful server opening rest) ∷ []))) (doubted_vaguer (doubtful server opening rest) (after_all opening rest) b)
