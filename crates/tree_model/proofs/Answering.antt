-- An operation that is done again tells whether its entry's reply is its answer.
use Rattle.std.proofs.Common.{◌≡◌, ℕ, Bool, true, false, cond, ◌&&◌, ◌||◌, nat_eq, Option, Some, None, List, [], ◌∷◌, map, sym, refl, ◌∙◌, ap}
use Rattle.std.specs.Cmp.Lexicographic.{pointwise}
use Rattle.frang_base.specs.declared.op.Op.{Op}
use Rattle.frang_base.specs.declared.op.Op.TheVariants as op
use Rattle.frang_base.specs.declared.reply.Reply.{Reply}
use Rattle.frang_base.specs.declared.reply.Reply.TheVariants as reply
use Rattle.tree_definitions.specs.declared.cells.Cell.TheVariants.{Byte}
use Rattle.tree_definitions.specs.declared.history.Entry.{Entry}
use Rattle.tree_definitions.specs.Tree.{FileTree}
use Rattle.tree_definitions.specs.Apply.{Applied, is_path_op}
use Rattle.tree_definitions.specs.Perform.{Step, Goes, Stops, resolved}
use Rattle.tree_definitions.specs.History.{agrees, applied, cells_show, is_answer, same_reply}
use Rattle.tree_definitions.specs.Touched.{differs}
use Rattle.tree_laws.proofs.Resolving.{IsOf, Shaped, resolved_is}
use Rattle.file_tree.specs.CanApply.{CanApply}
use Rattle.file_tree.specs.Replies.{answer_of, gives}
use Rattle.tree_model.specs.Replayed.{done_by, is_within, IsPathStep}

-- cells that are sure show their own bytes
sure_show : (bytes others : List ℕ) → cells_show (map Byte bytes) others ≡ pointwise nat_eq bytes others
sure_show [] [] = refl
sure_show [] (o ∷ others) = refl
sure_show (b ∷ bytes) [] = refl
sure_show (b ∷ bytes) (o ∷ others) = ap (λ rest. nat_eq b o && rest) (sure_show bytes others)

-- the answer that a reply gives agrees with the replies that are the same
bytes_agree : (bytes : List ℕ) (r : Reply) → agrees (answer_of (reply.Shown bytes)) r ≡ same_reply (reply.Shown bytes) r
bytes_agree bytes (reply.Shown others) = sure_show bytes others
bytes_agree bytes _ = refl

pub agrees_same : (a r : Reply) → agrees (answer_of a) r ≡ same_reply a r
agrees_same (reply.Shown bytes) r = bytes_agree bytes r
agrees_same _ r = refl

-- what is applied again is answered as before or not
pub done_again_is : (a : Applied) (next : FileTree) (r answer : Reply) (b : Bool) → a ≡ gives next r → same_reply r answer ≡ b → cond {A = Option FileTree} b (Some next) None ≡ done_by a answer
done_again_is a next r answer b is same = sym (ap (λ a. done_by a answer) is ∙ ap (λ c. cond {A = Option FileTree} c (Some next) None) (agrees_same r answer ∙ same))

-- an entry over a path is done by what its operation comes to
pub answered_by : (tree : FileTree) (e : Entry) → is_path_op e.op ≡ true → done_by (applied tree e) e.reply ≡ cond {A = Option FileTree} (is_answer tree e) (Some (applied tree e).tree) None
answered_by tree e path = ap (λ p. cond {A = Option FileTree} (p && agrees (applied tree e).answer e.reply) (Some (applied tree e).tree) None) (sym path)

-- an operation without a path is no answer
pub unanswered : (tree : FileTree) (e : Entry) → is_path_op e.op ≡ false → None ≡ cond {A = Option FileTree} (is_answer tree e) (Some (applied tree e).tree) None
unanswered tree e pathless = ap (λ p. cond {A = Option FileTree} (p && agrees (applied tree e).answer e.reply) (Some (applied tree e).tree) None) (sym pathless)

-- over a path, and with a target of the grammar where it has one
abbrev IsPath : Op → Type 0
IsPath o = (is_path_op o ≡ true) × (is_within o ≡ true)

path_shaped : (o : Op) → IsPath o → Shaped IsPath o
path_shaped (op.Create path) h = λ p. (refl, refl)
path_shaped (op.Mkdir path) h = λ p. (refl, refl)
path_shaped (op.Symlink path target) h = λ p. (refl, h.1)
path_shaped (op.Link path to) h = λ p q. (refl, refl)
path_shaped (op.Unlink path) h = λ p. (refl, refl)
path_shaped (op.Rmdir path) h = λ p. (refl, refl)
path_shaped (op.Rename path to) h = λ p q. (refl, refl)
path_shaped (op.Write path off bytes) h = λ p. (refl, refl)
path_shaped (op.Fill path off len byte) h = λ p. (refl, refl)
path_shaped (op.Truncate path len) h = λ p. (refl, refl)
path_shaped (op.Read path off len) h = λ p. (refl, refl)
path_shaped (op.Stat path) h = λ p. (refl, refl)
path_shaped (op.List path) h = λ p. (refl, refl)
path_shaped (op.Readlink path) h = λ p. (refl, refl)
path_shaped (op.Time path) h = λ p. (refl, refl)
path_shaped op.Sync h = h
path_shaped op.Mount h = h
path_shaped op.Unmount h = h
path_shaped op.Crash h = h
path_shaped (op.CrashAt k) h = h
path_shaped (op.CutAt k) h = h
path_shaped op.Stall h = h

of_path : (s : Step) → IsOf IsPath s → IsPathStep s
of_path (Goes o) h = h
of_path (Stops r) h = tt

pub path_step : (tree : FileTree) (o : Op) → is_path_op o ≡ true → is_within o ≡ true → IsPathStep (resolved tree o).step
path_step tree o path within = of_path (resolved tree o).step (resolved_is IsPath tree o (path_shaped o (path, within)))

-- such an operation may be applied, unless it is a read
pub can_again : (tree : FileTree) (o : Op) → IsPathStep (Goes o) → ((path : List (List ℕ)) (off len : ℕ) → o ≡ op.Read path off len → ⊥) → CanApply tree o
can_again tree (op.Symlink path target) h other = h.1
can_again tree (op.Read path off len) h other = absurd (other path off len refl)
can_again tree op.Sync h other = absurd (let z = h.0 in cc)
can_again tree op.Mount h other = absurd (let z = h.0 in cc)
can_again tree op.Unmount h other = absurd (let z = h.0 in cc)
can_again tree op.Crash h other = absurd (let z = h.0 in cc)
can_again tree (op.CrashAt k) h other = absurd (let z = h.0 in cc)
can_again tree (op.CutAt k) h other = absurd (let z = h.0 in cc)
can_again tree op.Stall h other = absurd (let z = h.0 in cc)
can_again tree _ h other = tt

-- what a test says of the tree after an answer, with that tree or with none
pub told_of_next : (b : Bool) (t next : FileTree) (f : FileTree → Bool) → Some next ≡ cond {A = Option FileTree} b (Some t) None → f next ≡ (b && f t)
told_of_next true t next f e = let same : next ≡ t = cc in ap f same
told_of_next false t next f e = cc

pub told_of_none : (b : Bool) (t : FileTree) (f : FileTree → Bool) → None ≡ cond {A = Option FileTree} b (Some t) None → false ≡ (b && f t)
told_of_none true t f e = cc
told_of_none false t f e = refl

-- a test that asks twice whether there is an answer
asked_twice : (b d on : Bool) → (b && (d || on)) ≡ (b && ((b && d) || on))
asked_twice true d on = refl
asked_twice false d on = refl

pub touched : (b on : Bool) (tree t next : FileTree) (birth : ℕ) → Some next ≡ cond {A = Option FileTree} b (Some t) None → (differs tree next birth || on) ≡ (b && ((b && differs tree t birth) || on))
touched b on tree t next birth e = told_of_next b t next (λ (s : FileTree). differs tree s birth || on) e ∙ asked_twice b (differs tree t birth) on

pub untouched : (b on : Bool) (tree t : FileTree) (birth : ℕ) → None ≡ cond {A = Option FileTree} b (Some t) None → false ≡ (b && ((b && differs tree t birth) || on))
untouched b on tree t birth e = told_of_none b t (λ (s : FileTree). (b && differs tree s birth) || on) e
