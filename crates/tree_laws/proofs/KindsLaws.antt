-- A birth tells the kind of its node, throughout a history.
use Rattle.std.proofs.Common.{ℕ, ◌≡◌, arith, le_refl, ◌==◌, false, List, [], ◌∷◌, cond, refl, sym, ◌∙◌, ap, nat_eq, eq-eqb}
use Rattle.std.specs.List.{AllByRecursion, IsDistinct}
use Rattle.std.proofs.lemmas.Map.Keys.{IsDistinct-head, IsDistinct-tail}
use Rattle.frang_base.specs.declared.op.Op.{Op}
use Rattle.frang_base.specs.declared.op.Op.TheVariants as op
use Rattle.tree_definitions.specs.declared.node.Node.TheVariants.{Dir, File, Link}
use Rattle.tree_definitions.specs.Tree.{FileTree}
use Rattle.tree_definitions.specs.Apply.{apply}
use Rattle.tree_definitions.specs.Perform.{perform}
use Rattle.tree_definitions.specs.History.{Settled, Stays, InDoubt, after, after_all, tree_after, doubted}
use Rattle.tree_definitions.specs.WellFormed.{IsWellFormed, IsNew, AreNew, numbers_of}
use Rattle.tree_laws.specs.Touching.{Kind, HasKinds, SameKinds}
use Rattle.tree_laws.specs.Kinds.{MakesToldKind, MakeToldKinds, kind_made, kind_by, kind_or, kinds_along}
use Rattle.tree_laws.proofs.Balance.{Limits, AreAllowed}
use Rattle.tree_laws.proofs.WellFormedLaws.{Makes, apply_well}
use Rattle.tree_laws.proofs.StepsLaws.{perform_well, tree_after_well, doubted_well, after_keeps, are_new_after}

-- kinds that are told
abbrev told : (ℕ → Kind) → Limits
told kinds = record { allowed = λ b k. k ≡ kinds b; least = λ b. 0 }

told_within : (kinds : ℕ → Kind) (t : FileTree) → HasKinds kinds t → AreAllowed (told kinds) t
told_within kinds t h b (Dir es n) is = (h b (Dir es n) is, (omega arith))
told_within kinds t h b (File cells links when) is = h b (File cells links when) is
told_within kinds t h b (Link target links) is = h b (Link target links) is

within_told : (kinds : ℕ → Kind) (t : FileTree) → AreAllowed (told kinds) t → HasKinds kinds t
within_told kinds t h b (Dir es n) is = (h b (Dir es n) is).0
within_told kinds t h b (File cells links when) is = h b (File cells links when) is
within_told kinds t h b (Link target links) is = h b (Link target links) is

makes_told : (kinds : ℕ → Kind) (o : Op) (b : ℕ) → MakesToldKind kinds o b → Makes (told kinds) o b
makes_told kinds (op.Create path) b h = h
makes_told kinds (op.Mkdir path) b h = (h, le_refl 0)
makes_told kinds (op.Symlink path target) b h = h
makes_told kinds _ b h = tt

pub kinds_agree : (kinds : ℕ → Kind) (one two : FileTree) → HasKinds kinds one → HasKinds kinds two → SameKinds one two
kinds_agree kinds one two h g b x y i j = h b x i ∙ sym (g b y j)

pub apply_keeps_kinds : (kinds : ℕ → Kind) (t : FileTree) (o : Op) (b when m : ℕ) → IsWellFormed t → IsNew t b → HasKinds kinds t → MakesToldKind kinds o b → HasKinds kinds (apply t o b when m).tree
apply_keeps_kinds kinds t o b when m w new h may = within_told kinds (apply t o b when m).tree (apply_well (told kinds) t (record { well = w; allowed = told_within kinds t h }) o b when m new (makes_told kinds o b may)).allowed

pub perform_keeps_kinds : (kinds : ℕ → Kind) (t : FileTree) (o : Op) (b when m : ℕ) → IsWellFormed t → IsNew t b → HasKinds kinds t → MakesToldKind kinds o b → HasKinds kinds (perform t o b when m).tree
perform_keeps_kinds kinds t o b when m w new h may = within_told kinds (perform t o b when m).tree (perform_well (told kinds) t (record { well = w; allowed = told_within kinds t h }) o b when m new (makes_told kinds o b may)).allowed

pub after_keeps_kinds : (kinds : ℕ → Kind) (t : FileTree) (s : Settled) (list : List Settled) → IsWellFormed t → AreNew t (s ∷ list) → HasKinds kinds t → MakeToldKinds kinds (s ∷ list) → HasKinds kinds (after t s)
after_keeps_kinds kinds t (Stays e) list w n h may = within_told kinds (tree_after t e) (tree_after_well (told kinds) t e (record { well = w; allowed = told_within kinds t h }) n.absent.0 (makes_told kinds e.op e.number.0 may.0)).allowed
after_keeps_kinds kinds t (InDoubt runs) list w n h may = within_told kinds (doubted t runs) (doubted_well (told kinds) t runs (record { well = w; allowed = told_within kinds t h })).allowed

later_told : (kinds : ℕ → Kind) (s : Settled) (list : List Settled) → MakeToldKinds kinds (s ∷ list) → MakeToldKinds kinds list
later_told kinds (Stays e) list h = h.1
later_told kinds (InDoubt runs) list h = h

pub steps_keep_kinds : (kinds : ℕ → Kind) (t : FileTree) (list : List Settled) → IsWellFormed t → AreNew t list → HasKinds kinds t → MakeToldKinds kinds list → HasKinds kinds (after_all t list)
steps_keep_kinds kinds t [] w n h may = h
steps_keep_kinds kinds t (s ∷ list) w n h may = steps_keep_kinds kinds (after t s) list (after_keeps t s list w n) (are_new_after t s list w n) (after_keeps_kinds kinds t s list w n h may) (later_told kinds s list may)

-- kinds that a list tells
by_made : (kinds : ℕ → Kind) (o : Op) (b : ℕ) → kind_made o ≡ kinds b → MakesToldKind kinds o b
by_made kinds (op.Create path) b h = h
by_made kinds (op.Mkdir path) b h = h
by_made kinds (op.Symlink path target) b h = h
by_made kinds _ b h = tt

-- a list of kinds tells of each of its entries, and so does one in front of it with other numbers
told_by : (kinds : ℕ → Kind) (list : List Settled) → AllByRecursion (λ n. kind_by list n ≡ kinds n) (numbers_of list) → IsDistinct nat_eq (numbers_of list) → MakeToldKinds kinds list
told_by kinds [] h d = tt
told_by kinds (InDoubt runs ∷ list) h d = told_by kinds list h d
told_by kinds (Stays e ∷ list) h d = (
  by_made kinds e.op e.number.0 (sym (ap (λ t. cond t (kind_made e.op) (kind_by list e.number.0)) (eq-eqb e.number.0 e.number.0 refl)) ∙ h.0),
  told_by kinds list (others (kind_made e.op) e.number.0 (numbers_of list) (IsDistinct-head nat_eq e.number.0 (numbers_of list) d) h.1) (IsDistinct-tail nat_eq e.number.0 (numbers_of list) d),
)
  where
    others : (k : Kind) (n : ℕ) (ns : List ℕ) → AllByRecursion (λ m. nat_eq n m ≡ false) ns → AllByRecursion (λ m. cond (n == m) k (kind_by list m) ≡ kinds m) ns → AllByRecursion (λ m. kind_by list m ≡ kinds m) ns
    others k n [] a h = tt
    others k n (m ∷ ns) a h = (sym (ap (λ t. cond t k (kind_by list m)) a.0) ∙ h.0, others k n ns a.1 h.1)

along_new : (t : FileTree) (list : List Settled) (ns : List ℕ) → AllByRecursion (IsNew t) ns → AllByRecursion (λ n. kind_by list n ≡ kinds_along t list n) ns
along_new t list [] new = tt
along_new t list (n ∷ ns) new = (sym (ap (kind_or (kind_by list n)) new.0), along_new t list ns new.1)

pub kinds_can_be_told : (t : FileTree) (list : List Settled) → AreNew t list → HasKinds (kinds_along t list) t × MakeToldKinds (kinds_along t list) list
kinds_can_be_told t list n = (λ b x is. sym (ap (kind_or (kind_by list b)) is), told_by (kinds_along t list) list (along_new t list (numbers_of list) n.absent) n.distinct)
