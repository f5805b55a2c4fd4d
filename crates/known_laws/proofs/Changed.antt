-- A node that an entry changes is there, or it is the one that the entry makes.
use Rattle.std.proofs.Common.{ℕ, ◌≡◌, ◌⊎◌, inl, inr, true, false, is_some, not, Option, Some, None, refl, sym, ◌∙◌, ap, arith}
use Rattle.std.proofs.lemmas.Bool.{and_parts}
use Rattle.frang_base.specs.declared.op.Op.{Op}
use Rattle.frang_base.specs.declared.op.Op.TheVariants as op
use Rattle.tree_definitions.specs.declared.node.Node.{Node}
use Rattle.tree_definitions.specs.declared.node.Node.TheVariants.{Dir, File, Link}
use Rattle.tree_definitions.specs.History.{applied, is_answer, told_blocks}
use Rattle.tree_definitions.specs.Touched.{differs, same_where}
use Rattle.tree_definitions.specs.Tree.{FileTree, node_at}
use Rattle.tree_laws.proofs.Balance.{Limits, Within}
use Rattle.tree_laws.proofs.WellFormedLaws.{Makes}
use Rattle.tree_laws.proofs.StepsLaws.{perform_well}
use Rattle.known_laws.specs.There.{ChangedAreThereOrNew}

-- the births of a tree, and one more
abbrev old_or_new : FileTree → ℕ → Limits
old_or_new t birth = record { allowed = λ b k. (is_some (node_at t b) ≡ true) ⊎ (b ≡ birth); least = λ b. 0 }

within : (t : FileTree) (birth b : ℕ) (x : Node) → node_at t b ≡ Some x → Within (old_or_new t birth) b x
within t birth b (Dir entries blocks) is = (inl (ap is_some is), omega arith)
within t birth b (File cells links when) is = inl (ap is_some is)
within t birth b (Link target links) is = inl (ap is_some is)

out_of : (t : FileTree) (birth b : ℕ) (x : Node) → Within (old_or_new t birth) b x → (is_some (node_at t b) ≡ true) ⊎ (b ≡ birth)
out_of t birth b (Dir entries blocks) w = w.0
out_of t birth b (File cells links when) w = w
out_of t birth b (Link target links) w = w

makes : (t : FileTree) (birth : ℕ) (o : Op) → Makes (old_or_new t birth) o birth
makes t birth (op.Create path) = inr refl
makes t birth (op.Mkdir path) = (inr refl, omega arith)
makes t birth (op.Symlink path target) = inr refl
makes t birth _ = tt

-- where there is none before and after, nothing differs
none_differs : (old new : FileTree) (b : ℕ) → node_at old b ≡ None → node_at new b ≡ None → differs old new b ≡ false
none_differs old new b was is = ap (λ o. not (same_where o (node_at new b))) was ∙ ap (λ o. not (same_where None o)) is

pub changed_are_there_or_new : ChangedAreThereOrNew
changed_are_there_or_new t e b well new changed = go (node_at t b) refl (node_at (applied t e).tree b) refl
  where
    other : differs t (applied t e).tree b ≡ true
    other = (and_parts (is_answer t e) (differs t (applied t e).tree b) changed).1

    go : (was : Option Node) → node_at t b ≡ was → (is : Option Node) → node_at (applied t e).tree b ≡ is → (is_some (node_at t b) ≡ true) ⊎ (b ≡ e.number.0)
    go (Some x) was is then_is = inl (ap is_some was)
    go None was None then_is = absurd (let z : true ≡ false = sym other ∙ none_differs t (applied t e).tree b was then_is in cc)
    go None was (Some x) then_is =
        out_of t e.number.0 b x
        ((perform_well (old_or_new t e.number.0) t (record { well = well; allowed = λ k. within t e.number.0 k }) e.op e.number.0 e.when (told_blocks t e.reply) new
        (makes t e.number.0 e.op)).allowed b x then_is)
