-- What is seen or synced of a list, one step after the other.
use Rattle.std.proofs.Common.{◌≡◌, ℕ, Bool, true, false, not, cond, ◌&&◌, ◌||◌, ◌==◌, Option, Some, None, List, [], ◌∷◌, filter, refl, sym, ◌∙◌, ap}
use Rattle.std.specs.List.{list_any}
use Rattle.tree_definitions.specs.declared.history.Entry.{Entry}
use Rattle.tree_definitions.specs.Tree.{FileTree, node_at}
use Rattle.tree_definitions.specs.History.{Settled, Stays, InDoubt, after, applied, is_answer}
use Rattle.tree_definitions.specs.Removal.{mounts, none_known}
use Rattle.tree_definitions.specs.Touched.{births, changed, differs, is_mounted, is_ok, is_seen, is_stall, is_sync, is_synced, is_unmount, other_room, refused_later, stalled_after, touched_later}
use Rattle.tree_model.specs.Steps.{entry_of}
use Rattle.history_rules.specs.Known.{makes_sure, may_go, refused_at, stalled_by, touched_at}

pub touched_turn : (server : ℕ) (nodes : List ℕ) (tree : FileTree) (s : Settled) (rest : List Settled) → touched_later server nodes tree (s ∷ rest) ≡ (touched_at server nodes tree (entry_of s) || touched_later server nodes (after tree s) rest)
touched_turn server nodes tree (Stays e) rest = refl
touched_turn server nodes tree (InDoubt runs) rest = refl

pub refused_turn : (server : ℕ) (s : Settled) (rest : List Settled) → refused_later server (s ∷ rest) ≡ (refused_at server (entry_of s) || refused_later server rest)
refused_turn server (Stays e) rest = refl
refused_turn server (InDoubt runs) rest = refl

pub stalled_is : (server : ℕ) (stalled : Bool) (s : Settled) → stalled_by server stalled (entry_of s) ≡ stalled_after server stalled s
stalled_is server stalled (Stays e) = refl
stalled_is server stalled (InDoubt runs) = refl

-- by who asks, and whether it mounts
synced_by : (own mounted sure unmounted stall stalled : Bool) (on : Bool → Bool)
    → cond (not own) (on stalled) (cond mounted false (sure || unmounted || on (cond (not own) stalled (cond mounted false (stalled || stall)))))
    ≡ cond (own && mounted) false ((own && (sure || unmounted)) || on (cond (not own) stalled (cond mounted false (stalled || stall))))
synced_by true true sure unmounted stall stalled on = refl
synced_by true false sure unmounted stall stalled on = refl
synced_by false mounted sure unmounted stall stalled on = refl

pub synced_turn : (server : ℕ) (stalled : Bool) (s : Settled) (rest : List Settled)
    → is_synced server stalled (s ∷ rest) ≡ cond (mounts server s) false (makes_sure server stalled (entry_of s) || is_synced server (stalled_by server stalled (entry_of s)) rest)
synced_turn server stalled (Stays e) rest =
    synced_by (e.server.0 == server) (is_mounted e.reply) (is_sync e.op && is_ok e.reply) (is_unmount e.op && is_ok e.reply && not stalled) (is_stall e.op && is_ok e.reply) stalled (λ b. is_synced server b rest)
synced_turn server stalled (InDoubt runs) rest = refl

pub none_turn : (server : ℕ) (stalled : Bool) (tree : FileTree) (s : Settled) (rest : List Settled)
    → none_known server stalled tree (s ∷ rest) ≡ (may_go server stalled tree (entry_of s) rest && none_known server (stalled_by server stalled (entry_of s)) (after tree s) rest)
none_turn server stalled tree (Stays e) rest = refl
none_turn server stalled tree (InDoubt runs) rest = refl

-- ---- which nodes an entry changes

none_pass : (xs : List ℕ) → filter (λ b. false) xs ≡ []
none_pass [] = refl
none_pass (x ∷ xs) = none_pass xs

pub changed_by : (tree : FileTree) (e : Entry) → is_answer tree e ≡ true → filter (differs tree (applied tree e).tree) (births tree (applied tree e).tree) ≡ changed tree e
changed_by tree e is = ap (λ b. filter (λ n. b && differs tree (applied tree e).tree n) (births tree (applied tree e).tree)) (sym is)

-- ---- whether there is a tree after an entry

pub some_answered : (b : Bool) (t next : FileTree) → Some next ≡ cond {A = Option FileTree} b (Some t) None → (b ≡ true) × (next ≡ t)
some_answered true t next is = (refl, cc)
some_answered false t next is = cc

pub none_answered : (b : Bool) (t : FileTree) → None ≡ cond {A = Option FileTree} b (Some t) None → b ≡ false
none_answered true t is = cc
none_answered false t is = refl

-- what is seen of an entry, by the tree that its operation leaves and the one after it
abbrev seen_by : FileTree → ℕ → List Settled → List ℕ → FileTree → FileTree → Bool
seen_by tree server rest nodes next on = touched_later server nodes on rest || (list_any (λ b. other_room (node_at tree b) (node_at next b)) nodes && refused_later server rest)

pub answered_seen : (tree : FileTree) (e : Entry) (rest : List Settled) (next on : FileTree) → is_answer tree e ≡ true → next ≡ (applied tree e).tree → on ≡ after tree (Stays e)
    → (touched_later e.server.0 (filter (differs tree next) (births tree next)) on rest || (list_any (λ b. other_room (node_at tree b) (node_at next b)) (filter (differs tree next) (births tree next)) && refused_later e.server.0 rest))
    ≡ is_seen tree e rest
answered_seen tree e rest next on answer is_next is_on =
    ap (λ (n : FileTree). seen_by tree e.server.0 rest (filter (differs tree n) (births tree n)) n on) is_next
    ∙ ap (λ nodes. seen_by tree e.server.0 rest nodes (applied tree e).tree on) (changed_by tree e answer)
    ∙ ap (λ (t : FileTree). seen_by tree e.server.0 rest (changed tree e) (applied tree e).tree t) is_on

changed_none : (tree : FileTree) (e : Entry) → is_answer tree e ≡ false → changed tree e ≡ []
changed_none tree e isnt = ap (λ b. filter (λ n. b && differs tree (applied tree e).tree n) (births tree (applied tree e).tree)) isnt ∙ none_pass (births tree (applied tree e).tree)

none_touched : (server : ℕ) (tree : FileTree) (list : List Settled) → touched_later server [] tree list ≡ false
none_touched server tree [] = refl
none_touched server tree (Stays e ∷ rest) = clear (e.server.0 == server) (none_touched server (after tree (Stays e)) rest)
  where
    clear : (b : Bool) → touched_later server [] (after tree (Stays e)) rest ≡ false → ((not b && false) || touched_later server [] (after tree (Stays e)) rest) ≡ false
    clear true h = h
    clear false h = h
none_touched server tree (InDoubt runs ∷ rest) = none_touched server (after tree (InDoubt runs)) rest

pub unanswered_unseen : (tree : FileTree) (e : Entry) (rest : List Settled) → is_answer tree e ≡ false → false ≡ is_seen tree e rest
unanswered_unseen tree e rest isnt = sym (
    ap (λ nodes. touched_later e.server.0 nodes (after tree (Stays e)) rest || (list_any (λ b. other_room (node_at tree b) (node_at (applied tree e).tree b)) nodes && refused_later e.server.0 rest)) (changed_none tree e isnt)
    ∙ ap (λ b. b || false) (none_touched e.server.0 (after tree (Stays e)) rest))
