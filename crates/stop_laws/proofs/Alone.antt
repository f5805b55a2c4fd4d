-- An entry that leaves the tree writes nothing and touches nothing.
use Rattle.std.proofs.Common.{ℕ, ◌≡◌, ◌&&◌, ◌||◌, ◌==◌, ◌++◌, if◌then◌else◌, Bool, true, false, List, ◌∷◌, refl, sym, ◌∙◌, ap, subst}
use Rattle.frang_base.specs.declared.op.Op.{Op}
use Rattle.frang_base.specs.declared.op.Op.TheVariants as op
use Rattle.frang_base.specs.declared.reply.Reply.TheVariants as reply
use Rattle.tree_definitions.specs.declared.history.Entry.{Entry}
use Rattle.tree_definitions.specs.History.{Stays, after_step, applied, is_answer, leaves_tree, may_be_ok}
use Rattle.tree_definitions.specs.Perform.{resolved}
use Rattle.tree_definitions.specs.Removal.{step_writes}
use Rattle.tree_definitions.specs.Touched.{changes, is_sync, touches, visited}
use Rattle.std.specs.List.{list_any}
use Rattle.std.proofs.lemmas.Bool.{false_from_ne_true}
use Rattle.tree_definitions.specs.Tree.{FileTree}
use Rattle.tree_laws.specs.Doubts.{entry_writes}
use Rattle.tree_laws.proofs.HistoryLaws.{after_all-push}
use Rattle.tree_laws.proofs.OwnReplies.{answers_are_own}
use Rattle.line_laws.specs.Laws.{HasPath}
use Rattle.byte_trees.specs.Deeds.{Deed, Says, steps, tree_after}
use Rattle.stop_laws.proofs.BytesShaped.{is_ok}

-- ---- entries alone

-- a line without a path writes into no file
writes_none : (t : FileTree) (o : Op) (birth part : ℕ) → may_be_ok o ≡ true → step_writes t (resolved t o).step reply.Ok birth part ≡ false
writes_none t op.Sync birth part e = refl
writes_none t op.Unmount birth part e = refl
writes_none t op.Crash birth part e = refl
writes_none t (op.CrashAt k) birth part e = refl
writes_none t (op.CutAt k) birth part e = refl
writes_none t op.Stall birth part e = refl
writes_none t _ birth part e = absurd (cc)

pub leaving_writes_none : (t : FileTree) (e : Entry) → leaves_tree e.op e.reply ≡ true → (birth part : ℕ) → entry_writes t e birth part ≡ false
leaving_writes_none t e leaves birth part =
    false_from_ne_true (entry_writes t e birth part)
    (λ writes.
    let ok : e.reply ≡ reply.Ok = is_ok t birth part (resolved t e.op).step e.reply writes in
    let none : step_writes t (resolved t e.op).step reply.Ok birth part ≡ false = writes_none t e.op birth part (subst (λ r. leaves_tree e.op r ≡ true) ok leaves) in
    let some : step_writes t (resolved t e.op).step reply.Ok birth part ≡ true = subst (λ r. step_writes t (resolved t e.op).step r birth part ≡ true) ok writes in
    let z : true ≡ false = sym some ∙ none in
    cc)

pub leaving_is_none : (t : FileTree) (e : Entry) → leaves_tree e.op e.reply ≡ true → is_answer t e ≡ false
leaving_is_none t e leaves = false_from_ne_true (is_answer t e) (λ is. let z : true ≡ false = sym leaves ∙ answers_are_own t e is in cc)

pub leaving_touches_none : (t : FileTree) (e : Entry) → leaves_tree e.op e.reply ≡ true → (birth : ℕ) → touches t e birth ≡ false
leaving_touches_none t e leaves birth = ap (λ b. b && (changes t e birth || list_any (λ b. b == birth) ((resolved t e.op).trail ++ visited t (resolved t e.op).step e.reply))) (leaving_is_none t e leaves)

-- it leaves the tree
pub leaving_stays : (first : FileTree) (e : Entry) (older : List Deed) → leaves_tree e.op e.reply ≡ true → tree_after first (Says e ∷ older) ≡ tree_after first older
leaving_stays first e older leaves =
    after_all-push first (steps older) (Stays e)
    ∙ ap (λ (b : Bool). if b then tree_after first older else (if is_answer (tree_after first older) e then after_step (applied (tree_after first older) e).tree (resolved (tree_after first older) e.op).step e.reply
    else tree_after first older)) leaves

-- ---- operations

-- one with a path is no sync
pub path_no_sync : (o : Op) → HasPath o → is_sync o ≡ false
path_no_sync op.Sync h = absurd h
path_no_sync o h = refl
