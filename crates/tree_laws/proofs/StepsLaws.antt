-- The steps of a settled list leave a well-formed tree so, and make nodes only at the numbers of their entries.
use Rattle.std.proofs.Common.{ℕ, ◌≡◌, ◌≢◌, arith, le_refl, Bool, true, false, Option, Some, None, List, [], ◌∷◌, map, cond, refl, sym, ap, subst, nat_eq, inl, inr, ◌⊎◌, ⊎_elim, is_some}
use Rattle.std.specs.List.{AllByRecursion}
use Rattle.std.proofs.lemmas.Bool.{eqb-false}
use Rattle.std.proofs.lemmas.Map.Keys.{IsDistinct-head, IsDistinct-tail}
use Rattle.frang_base.specs.declared.op.Op.{Op}
use Rattle.frang_base.specs.declared.op.Op.TheVariants as op
use Rattle.frang_base.specs.declared.reply.Reply.{Reply}
use Rattle.frang_base.specs.declared.reply.Reply.TheVariants as reply
use Rattle.tree_definitions.specs.declared.cells.Cell.{Cell}
use Rattle.tree_definitions.specs.declared.cells.Cell.TheVariants.{Byte}
use Rattle.tree_definitions.specs.declared.history.Entry.{Entry}
use Rattle.tree_definitions.specs.declared.node.Node.{Node}
use Rattle.tree_definitions.specs.declared.node.Node.TheVariants.{Dir, File, Link}
use Rattle.tree_definitions.specs.Tree.{FileTree, node_at}
use Rattle.tree_definitions.specs.Place.{Place, Root, Taken, Free, Nowhere, place}
use Rattle.tree_definitions.specs.Apply.{apply, overwritten}
use Rattle.tree_definitions.specs.Perform.{Step, Goes, Stops, resolved, perform, perform_step}
use Rattle.tree_definitions.specs.History.{applied, is_answer, told_blocks, leaves_tree, tree_after, after_read, after_step, with_shown, file_at, file_of, CellRun, Settled, Stays, InDoubt, doubted, doubted_file, doubted_cells, after, after_all}
use Rattle.tree_definitions.specs.WellFormed.{IsWellFormed, IsNew, numbers_of, AreNew}
use Rattle.tree_laws.proofs.Balance.{Limits, Within, Well, AreAllowed}
use Rattle.tree_laws.proofs.WellFormedLaws.{Makes, apply_well, recelled_well}
use Rattle.tree_laws.proofs.Resolving.{IsOf, Shaped, resolved_is}

-- the file of a place is a file of the tree
file_of_is : (t : FileTree) (b : ℕ) (o : Option Node) (f : ℕ × (List Cell × (ℕ × ℕ))) → node_at t b ≡ o → file_of b o ≡ Some f → node_at t f.0 ≡ Some (File f.1.0 f.1.1.0 f.1.1.1)
file_of_is t b (Some (File cells links when)) f is h = let e : (b, (cells, (links, when))) ≡ f = ap (λ o. elim o as (λ x. ℕ × (List Cell × (ℕ × ℕ))) [ None ↦ f | Some g ↦ g ]) h in subst (λ g. node_at t g.0 ≡ Some (File g.1.0 g.1.1.0 g.1.1.1)) e is
file_of_is t b (Some (Dir es n)) f is h = cc
file_of_is t b (Some (Link target links)) f is h = cc
file_of_is t b None f is h = cc

pub file_at_is : (t : FileTree) (p : Place) (f : ℕ × (List Cell × (ℕ × ℕ))) → file_at t p ≡ Some f → node_at t f.0 ≡ Some (File f.1.0 f.1.1.0 f.1.1.1)
file_at_is t Root f h = cc
file_at_is t (Taken dir es n name b) f h = file_of_is t b (node_at t b) f refl h
file_at_is t (Free dir es n name) f h = cc
file_at_is t (Nowhere r) f h = cc

-- what an operation may make, it may whatever its paths are
makes_shaped : (A : Limits) (o : Op) (b : ℕ) → Makes A o b → Shaped (λ q. Makes A q b) o
makes_shaped A (op.Create path) b h = λ p. h
makes_shaped A (op.Mkdir path) b h = λ p. h
makes_shaped A (op.Symlink path target) b h = λ p. h
makes_shaped A (op.Link path to) b h = λ p q. tt
makes_shaped A (op.Unlink path) b h = λ p. tt
makes_shaped A (op.Rmdir path) b h = λ p. tt
makes_shaped A (op.Rename path to) b h = λ p q. tt
makes_shaped A (op.Write path off bytes) b h = λ p. tt
makes_shaped A (op.Fill path off len byte) b h = λ p. tt
makes_shaped A (op.Truncate path len) b h = λ p. tt
makes_shaped A (op.Read path off len) b h = λ p. tt
makes_shaped A (op.Stat path) b h = λ p. tt
makes_shaped A (op.List path) b h = λ p. tt
makes_shaped A (op.Readlink path) b h = λ p. tt
makes_shaped A (op.Time path) b h = λ p. tt
makes_shaped A op.Sync b h = tt
makes_shaped A op.Mount b h = tt
makes_shaped A op.Unmount b h = tt
makes_shaped A op.Crash b h = tt
makes_shaped A (op.CrashAt k) b h = tt
makes_shaped A (op.CutAt k) b h = tt
makes_shaped A op.Stall b h = tt

module _ (A : Limits) where
  step_well : (t : FileTree) → Well A t → (s : Step) (b when m : ℕ) → IsNew t b → IsOf (λ q. Makes A q b) s → Well A (perform_step t s b when m).tree
  step_well t w (Goes o) b when m new may = apply_well A t w o b when m new may
  step_well t w (Stops r) b when m new may = w

  pub perform_well : (t : FileTree) → Well A t → (o : Op) (b when m : ℕ) → IsNew t b → Makes A o b → Well A (perform t o b when m).tree
  perform_well t w o b when m new may = step_well t w (resolved t o).step b when m new (resolved_is (λ q. Makes A q b) t o (makes_shaped A o b may))

  shown_well : (t : FileTree) → Well A t → (o : Option (ℕ × (List Cell × (ℕ × ℕ)))) → ((f : ℕ × (List Cell × (ℕ × ℕ))) → o ≡ Some f → node_at t f.0 ≡ Some (File f.1.0 f.1.1.0 f.1.1.1)) → (off : ℕ) (bytes : List ℕ) → Well A (with_shown t o off bytes)
  shown_well t w None is off bytes = w
  shown_well t w (Some f) is off bytes = recelled_well A t w f.0 f.1.0 (overwritten f.1.0 off (map Byte bytes)) f.1.1.0 f.1.1.1 f.1.1.1 (is f refl)

  read_well : (t : FileTree) → Well A t → (o : Op) (r : Reply) → Well A (after_read t o r)
  read_well t w (op.Read path off len) (reply.Shown bytes) = shown_well t w (file_at t (place t path)) (λ f h. file_at_is t (place t path) f h) off bytes
  read_well t w (op.Read path off len) _ = w
  read_well t w _ r = w

  read_step_well : (t : FileTree) → Well A t → (s : Step) (r : Reply) → Well A (after_step t s r)
  read_step_well t w (Goes o) r = read_well t w o r
  read_step_well t w (Stops q) r = w

  pub tree_after_well : (t : FileTree) (e : Entry) → Well A t → IsNew t e.number.0 → Makes A e.op e.number.0 → Well A (tree_after t e)
  tree_after_well t e w new may = go (leaves_tree e.op e.reply) (is_answer t e)
    where
      go : (l a : Bool) → Well A (cond l t (cond a (after_step (applied t e).tree (resolved t e.op).step e.reply) t))
      go true a = w
      go false true = read_step_well (applied t e).tree (perform_well t w e.op e.number.0 e.when (told_blocks t e.reply) new may) (resolved t e.op).step e.reply
      go false false = w

  doubted_file_well : (t : FileTree) → Well A t → (o : Option (ℕ × (List Cell × (ℕ × ℕ)))) → ((f : ℕ × (List Cell × (ℕ × ℕ))) → o ≡ Some f → node_at t f.0 ≡ Some (File f.1.0 f.1.1.0 f.1.1.1)) → (from count : ℕ) → Well A (doubted_file t o from count)
  doubted_file_well t w None is from count = w
  doubted_file_well t w (Some f) is from count = recelled_well A t w f.0 f.1.0 (doubted_cells f.1.0 from count) f.1.1.0 f.1.1.1 f.1.1.1 (is f refl)

  pub doubted_well : (t : FileTree) (runs : List CellRun) → Well A t → Well A (doubted t runs)
  doubted_well t [] w = w
  doubted_well t (run ∷ runs) w = doubted_well (doubted_file t (file_of run.birth (node_at t run.birth)) run.from run.count) runs
      (doubted_file_well t w (file_of run.birth (node_at t run.birth)) (λ f h. file_of_is t run.birth (node_at t run.birth) f refl h) run.from run.count)

-- any birth and kind
abbrev anything : Limits
anything = record { allowed = λ b k. Unit {0}; least = λ b. 0 }

any_within : (b : ℕ) (z : Node) → Within anything b z
any_within b (Dir es n) = (tt, (omega arith))
any_within b (File cells links when) = tt
any_within b (Link target links) = tt

well_any : (t : FileTree) → IsWellFormed t → Well anything t
well_any t w = record { well = w; allowed = λ b z is. any_within b z }

makes_any : (o : Op) (b : ℕ) → Makes anything o b
makes_any (op.Create path) b = tt
makes_any (op.Mkdir path) b = (tt, le_refl 0)
makes_any (op.Symlink path target) b = tt
makes_any _ b = tt

pub apply_keeps : (t : FileTree) (o : Op) (b when m : ℕ) → IsWellFormed t → IsNew t b → IsWellFormed (apply t o b when m).tree
apply_keeps t o b when m w new = (apply_well anything t (well_any t w) o b when m new (makes_any o b)).well

pub perform_keeps : (t : FileTree) (o : Op) (b when m : ℕ) → IsWellFormed t → IsNew t b → IsWellFormed (perform t o b when m).tree
perform_keeps t o b when m w new = (perform_well anything t (well_any t w) o b when m new (makes_any o b)).well

pub tree_after_keeps : (t : FileTree) (e : Entry) → IsWellFormed t → IsNew t e.number.0 → IsWellFormed (tree_after t e)
tree_after_keeps t e w new = (tree_after_well anything t e (well_any t w) new (makes_any e.op e.number.0)).well

pub doubted_keeps : (t : FileTree) (runs : List CellRun) → IsWellFormed t → IsWellFormed (doubted t runs)
doubted_keeps t runs w = (doubted_well anything t runs (well_any t w)).well

-- a birth that was, or is this one
abbrev old_or : FileTree → ℕ → Limits
old_or t n = record { allowed = λ b k. (is_some (node_at t b) ≡ true) ⊎ (b ≡ n); least = λ b. 0 }

old_within : (t : FileTree) (n b : ℕ) (z : Node) → node_at t b ≡ Some z → Within (old_or t n) b z
old_within t n b (Dir es k) is = (inl (ap is_some is), (omega arith))
old_within t n b (File cells links when) is = inl (ap is_some is)
old_within t n b (Link target links) is = inl (ap is_some is)

within_old : (t : FileTree) (n b : ℕ) (z : Node) → Within (old_or t n) b z → (is_some (node_at t b) ≡ true) ⊎ (b ≡ n)
within_old t n b (Dir es k) i = i.0
within_old t n b (File cells links when) i = i
within_old t n b (Link target links) i = i

makes_own : (t : FileTree) (o : Op) (b : ℕ) → Makes (old_or t b) o b
makes_own t (op.Create path) b = inr refl
makes_own t (op.Mkdir path) b = (inr refl, le_refl 0)
makes_own t (op.Symlink path target) b = inr refl
makes_own t _ b = tt

still_none : (t u : FileTree) (n b : ℕ) → AreAllowed (old_or t n) u → IsNew t b → b ≢ n → (o : Option Node) → node_at u b ≡ o → node_at u b ≡ None
still_none t u n b all new far None is = is
still_none t u n b all new far (Some z) is = absurd (⊎_elim (λ s. (let e : is_some (node_at t b) ≡ false = ap is_some new in let v : ⊥ = cc in v)) (λ e. far e) (within_old t n b z (all b z is)))

-- an entry makes a node at its own number alone
pub new_stays : (t : FileTree) (e : Entry) (b : ℕ) → IsWellFormed t → IsNew t e.number.0 → IsNew t b → b ≢ e.number.0 → IsNew (tree_after t e) b
new_stays t e b w mine new far =
    let r = tree_after_well (old_or t e.number.0) t e (record { well = w; allowed = old_within t e.number.0 }) mine (makes_own t e.op e.number.0) in
    still_none t (tree_after t e) e.number.0 b r.allowed new far (node_at (tree_after t e) b) refl

-- a birth that was
abbrev old_alone : FileTree → Limits
old_alone t = record { allowed = λ b k. is_some (node_at t b) ≡ true; least = λ b. 0 }

alone_within : (t : FileTree) (b : ℕ) (z : Node) → node_at t b ≡ Some z → Within (old_alone t) b z
alone_within t b (Dir es k) is = (ap is_some is, (omega arith))
alone_within t b (File cells links when) is = ap is_some is
alone_within t b (Link target links) is = ap is_some is

within_alone : (t : FileTree) (b : ℕ) (z : Node) → Within (old_alone t) b z → is_some (node_at t b) ≡ true
within_alone t b (Dir es k) i = i.0
within_alone t b (File cells links when) i = i
within_alone t b (Link target links) i = i

pub new_stays_doubted : (t : FileTree) (runs : List CellRun) (b : ℕ) → IsWellFormed t → IsNew t b → IsNew (doubted t runs) b
new_stays_doubted t runs b w new = go (node_at (doubted t runs) b) refl
  where
    r : Well (old_alone t) (doubted t runs)
    r = doubted_well (old_alone t) t runs (record { well = w; allowed = alone_within t })

    go : (o : Option Node) → node_at (doubted t runs) b ≡ o → node_at (doubted t runs) b ≡ None
    go None is = is
    go (Some z) is = absurd (let s : is_some (node_at t b) ≡ true = within_alone t b z (r.allowed b z is) in let e : is_some (node_at t b) ≡ false = ap is_some new in cc)

-- the numbers of later entries stay new
all_new : (t u : FileTree) (n : ℕ) → ((b : ℕ) → IsNew t b → b ≢ n → IsNew u b) → (ns : List ℕ) → AllByRecursion (λ b. nat_eq n b ≡ false) ns → AllByRecursion (IsNew t) ns → AllByRecursion (IsNew u) ns
all_new t u n keep [] apart new = tt
all_new t u n keep (b ∷ ns) apart new = (keep b new.0 (λ e. eqb-false n b apart.0 (sym e)), all_new t u n keep ns apart.1 new.1)

all_new_still : (t u : FileTree) → ((b : ℕ) → IsNew t b → IsNew u b) → (ns : List ℕ) → AllByRecursion (IsNew t) ns → AllByRecursion (IsNew u) ns
all_new_still t u keep [] new = tt
all_new_still t u keep (b ∷ ns) new = (keep b new.0, all_new_still t u keep ns new.1)

pub are_new_after : (t : FileTree) (s : Settled) (list : List Settled) → IsWellFormed t → AreNew t (s ∷ list) → AreNew (after t s) list
are_new_after t (Stays e) list w n = record {
  absent = all_new t (tree_after t e) e.number.0 (λ b new far. new_stays t e b w n.absent.0 new far) (numbers_of list) (IsDistinct-head nat_eq e.number.0 (numbers_of list) n.distinct) n.absent.1;
  distinct = IsDistinct-tail nat_eq e.number.0 (numbers_of list) n.distinct;
}
are_new_after t (InDoubt runs) list w n = record { absent = all_new_still t (doubted t runs) (λ b new. new_stays_doubted t runs b w new) (numbers_of list) n.absent; distinct = n.distinct }

pub after_keeps : (t : FileTree) (s : Settled) (list : List Settled) → IsWellFormed t → AreNew t (s ∷ list) → IsWellFormed (after t s)
after_keeps t (Stays e) list w n = tree_after_keeps t e w n.absent.0
after_keeps t (InDoubt runs) list w n = doubted_keeps t runs w

pub after_all_keeps : (t : FileTree) (list : List Settled) → IsWellFormed t → AreNew t list → IsWellFormed (after_all t list)
after_all_keeps t [] w n = w
after_all_keeps t (s ∷ list) w n = after_all_keeps (after t s) list (after_keeps t s list w n) (are_new_after t s list w n)
