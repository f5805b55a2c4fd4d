-- Whether an entry fits is found by doing its operation in the tree itself, and so where a whole list leads.
use Rattle.std.proofs.Common.{◌≡◌, ℕ, ◌+◌, ◌<◌, ◌^◌, Bool, true, false, cond, ◌&&◌, ◌||◌, nat_le, Some, List, [], ◌∷◌, ◌++◌, IfOk, refl, sym, ◌∙◌, ap, subst, arith}
use Rattle.std.specs.Prelude.{Result, Ok, Err}
use Rattle.std.proofs.lemmas.Bool.Decides.{nat_tests}
use mathlib.Core.Bool.{or-true, and-false}
use Rattle.frang_base.specs.declared.fault.NoMemory.{NoMemory}
use Rattle.frang_base.specs.declared.reply.Reply.{Reply}
use Rattle.tree_definitions.specs.declared.history.Entry.{Entry}
use Rattle.tree_definitions.specs.Tree.{FileTree}
use Rattle.tree_definitions.specs.Apply.{Applied, is_path_op}
use Rattle.tree_definitions.specs.History.{Settled, Stays, InDoubt, after, after_all, after_step, agrees, applied, fits, grows, is_answer, same_reply, leaves_tree, legal_from, may_stand, may_tell, tree_after}
use Rattle.tree_definitions.specs.Perform.{resolved}
use Rattle.tree_laws.specs.Histories.{ever_after}
use Rattle.tree_laws.proofs.HistoryLaws.{after_all-push, ever-append, legal-push}
use Rattle.file_tree.specs.Replies.{gives}
use Rattle.tree_model.proofs.Answering.{agrees_same}
use Rattle.tree_model.specs.Steps.{entry_of}
use Rattle.history_rules.specs.Standing.{capped, StandsAt, LeadsOn}
use Rattle.history_rules.specs.Settled.{IsWith}

-- a number that can be said is at most another where it is at most the one that is kept
pub capped_le : (m n : ℕ) → m < 2 ^ 32 → nat_le m (capped n) ≡ nat_le m n
capped_le m n small = grind (arith, nat_tests)

pub told_capped : (b : Bool) (m n ever : ℕ) → m < 2 ^ 32 → ever ≡ capped n → (b && nat_le m ever) ≡ (b && nat_le m n)
told_capped b m n ever small is = ap (λ k. b && nat_le m k) is ∙ ap (λ t. b && t) (capped_le m n small)

-- ---- what is done in the tree itself

pub did_agrees : (a : Applied) (next : FileTree) (answer r : Reply) → a ≡ gives next answer → same_reply answer r ≡ agrees a.answer r
did_agrees a next answer r is = sym (ap (λ (b : Applied). agrees b.answer r) is ∙ agrees_same answer r)

pub did_tree : (a : Applied) (next tree : FileTree) (answer r : Reply) (it : Bool) → a ≡ gives next answer → it ≡ same_reply answer r → it ≡ true → next ≡ cond {A = FileTree} (agrees a.answer r) a.tree tree
did_tree a next tree answer r it is same holds =
    sym (ap (λ (b : Applied). b.tree) is) ∙ sym (ap (λ b. cond {A = FileTree} b a.tree tree) (sym (did_agrees a next answer r is) ∙ sym same ∙ holds))

-- ---- an entry

pub left_fits : (tree : FileTree) (n : ℕ) (e : Entry) → leaves_tree e.op e.reply ≡ true → true ≡ fits tree n e
left_fits tree n e leaves = sym (ap (λ l. (is_answer tree e && may_tell tree n e.reply) || l) leaves ∙ or-true (is_answer tree e && may_tell tree n e.reply))

pub left_tree : (tree : FileTree) (e : Entry) → leaves_tree e.op e.reply ≡ true → tree ≡ tree_after tree e
left_tree tree e leaves =
    sym (ap (λ l. cond {A = FileTree} l tree (cond {A = FileTree} (is_answer tree e) (after_step (applied tree e).tree (resolved tree e.op).step e.reply) tree)) leaves)

pub pathless_unfit : (tree : FileTree) (n : ℕ) (e : Entry) → leaves_tree e.op e.reply ≡ false → is_path_op e.op ≡ false → false ≡ fits tree n e
pathless_unfit tree n e stays path =
    sym (ap (λ l. (is_answer tree e && may_tell tree n e.reply) || l) stays ∙ ap (λ p. ((p && agrees (applied tree e).answer e.reply) && may_tell tree n e.reply) || false) path)

pub untold_unfit : (tree : FileTree) (n : ℕ) (e : Entry) → leaves_tree e.op e.reply ≡ false → may_tell tree n e.reply ≡ false → false ≡ fits tree n e
untold_unfit tree n e stays untold =
    sym (ap (λ l. (is_answer tree e && may_tell tree n e.reply) || l) stays ∙ ap (λ t. (is_answer tree e && t) || false) untold ∙ ap (λ b. b || false) (and-false (is_answer tree e)))

both_true : (b : Bool) → b ≡ ((b && true) || false)
both_true true = refl
both_true false = refl

pub told_fits : (tree : FileTree) (n : ℕ) (e : Entry) → leaves_tree e.op e.reply ≡ false → may_tell tree n e.reply ≡ true → is_answer tree e ≡ fits tree n e
told_fits tree n e stays told =
    both_true (is_answer tree e) ∙ sym (ap (λ l. (is_answer tree e && may_tell tree n e.reply) || l) stays ∙ ap (λ t. (is_answer tree e && t) || false) told)

pub path_answer : (tree : FileTree) (e : Entry) → is_path_op e.op ≡ true → agrees (applied tree e).answer e.reply ≡ is_answer tree e
path_answer tree e path = sym (ap (λ p. p && agrees (applied tree e).answer e.reply) path)

-- ---- a step by its entry

pub step_of : (s : Settled) (e : Entry) → entry_of s ≡ Some e → s ≡ Stays e
step_of (Stays x) e is = cc
step_of (InDoubt runs) e is = cc

-- ---- a list with a step more

pub stands_push : (opening : FileTree) (steps : List Settled) (tree next : FileTree) (kept more : ℕ) (s : Settled) → StandsAt opening steps tree kept
    → next ≡ after tree s → more ≡ capped (ever_after opening 0 steps + grows tree s) → true ≡ may_stand tree (ever_after opening 0 steps) s → StandsAt opening (steps ++ s ∷ []) next more
stands_push opening steps tree next kept more s at is_next is_more may = record {
  is_tree = is_next ∙ ap (λ t. after t s) at.is_tree ∙ sym (after_all-push opening steps s);
  is_ever = is_more ∙ ap (λ t. capped (ever_after opening 0 steps + grows t s)) at.is_tree ∙ ap capped (sym (ever-append opening 0 steps (s ∷ [])));
  legal = legal-push opening 0 steps s ∙ ap (λ b. b && may_stand (after_all opening steps) (ever_after opening 0 steps) s) at.legal
      ∙ ap (λ t. may_stand t (ever_after opening 0 steps) s) (sym at.is_tree) ∙ sym may;
}

pub legal_next : (opening : FileTree) (steps : List Settled) (tree : FileTree) (kept : ℕ) (s : Settled) → StandsAt opening steps tree kept
    → may_stand tree (ever_after opening 0 steps) s ≡ legal_from opening 0 (steps ++ s ∷ [])
legal_next opening steps tree kept s at =
    sym (legal-push opening 0 steps s ∙ ap (λ b. b && may_stand (after_all opening steps) (ever_after opening 0 steps) s) at.legal
    ∙ ap (λ t. may_stand t (ever_after opening 0 steps) s) (sym at.is_tree))

-- ---- a list from its first step on

pub leads_turn : (opening : FileTree) (steps : List Settled) (tree next : FileTree) (kept more : ℕ) (s : Settled) (rest : List Settled) → (on : LeadsOn opening steps tree kept (s ∷ rest))
    → next ≡ after tree s → more ≡ capped (on.ever + grows tree s) → true ≡ may_stand tree on.ever s → LeadsOn opening steps next more rest
leads_turn opening steps tree next kept more s rest on is_next is_more may = record {
  ever = on.ever + grows tree s;
  is_kept = is_more;
  is_tree = ap (λ t. after_all t rest) is_next ∙ on.is_tree;
  is_ever = ap (λ t. ever_after t (on.ever + grows tree s) rest) is_next ∙ on.is_ever;
  is_legal = ap (λ t. legal_from t (on.ever + grows tree s) rest) is_next ∙ ap (λ b. b && legal_from (after tree s) (on.ever + grows tree s) rest) may ∙ on.is_legal;
}

pub leads_stop : (opening : FileTree) (steps : List Settled) (tree : FileTree) (kept : ℕ) (s : Settled) (rest : List Settled) → (on : LeadsOn opening steps tree kept (s ∷ rest))
    → false ≡ may_stand tree on.ever s → false ≡ legal_from opening 0 steps
leads_stop opening steps tree kept s rest on unfit = ap (λ b. b && legal_from (after tree s) (on.ever + grows tree s) rest) unfit ∙ on.is_legal

pub leads_end : (opening : FileTree) (steps : List Settled) (tree : FileTree) (kept : ℕ) → (on : LeadsOn opening steps tree kept []) → StandsAt opening steps tree kept
leads_end opening steps tree kept on = record {
  is_tree = on.is_tree;
  is_ever = on.is_kept ∙ ap capped on.is_ever;
  legal = sym on.is_legal;
}

-- ---- a step more, behind a list that was legal

pub with_step : (opening : FileTree) (steps : List Settled) (tree next : FileTree) (kept more : ℕ) (s : Settled) (it : Bool) → StandsAt opening steps tree kept
    → ((n : ℕ) → kept ≡ capped n → it ≡ may_stand tree n s) → (it ≡ true → next ≡ after tree s) → (it ≡ true → (n : ℕ) → kept ≡ capped n → more ≡ capped (n + grows tree s))
    → IsWith opening steps s next more true it
with_step opening steps tree next kept more s it at is is_next is_more = record {
  goes = λ was. is (ever_after opening 0 steps) at.is_ever ∙ legal_next opening steps tree kept s at;
  stays = λ was. cc;
  stands = λ fits. stands_push opening steps tree next kept more s at (is_next fits) (is_more fits (ever_after opening 0 steps) at.is_ever) (sym fits ∙ is (ever_after opening 0 steps) at.is_ever);
}

pub with_step_on : (opening : FileTree) (steps : List Settled) (tree next : FileTree) (kept more : ℕ) (s : Settled) (was : Bool) (r : Result Bool NoMemory) → was ≡ true → (was ≡ true → StandsAt opening steps tree kept)
    → IfOk r (λ it. (n : ℕ) → kept ≡ capped n → it ≡ may_stand tree n s) → IfOk r (λ it. it ≡ true → next ≡ after tree s)
    → IfOk r (λ it. it ≡ true → (n : ℕ) → kept ≡ capped n → more ≡ capped (n + grows tree s)) → IfOk r (IsWith opening steps s next more was)
with_step_on opening steps tree next kept more s was (Ok it) legal at is is_next is_more =
    subst (λ w. IsWith opening steps s next more w it) (sym legal) (with_step opening steps tree next kept more s it (at legal) is is_next is_more)
with_step_on opening steps tree next kept more s was (Err e) legal at is is_next is_more = tt
