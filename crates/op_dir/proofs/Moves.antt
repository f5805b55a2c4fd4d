-- The refusals of moved names.
use Rattle.std.proofs.Common.{◌≡◌, ◌&&◌, ◌↔◌, ℕ, Bool, true, false, not, cond, IsTrue, Option, Some, None, List, [], ◌∷◌, refl, ap}
use Rattle.frang_base.specs.declared.reply.Reply.{Reply}
use Rattle.frang_base.specs.declared.reply.Reply.TheVariants as reply
use Rattle.disk_definitions.specs.Ask.{Ask, bind}
use Rattle.disk_definitions.specs.Walks.{walk}
use Rattle.disk_definitions.specs.Plans.{Hand, Plan, refused}
use Rattle.disk_definitions.specs.NamePlans.{plan_renamed, renaming}

-- what the kinds refuse
abbrev pub kinds : Bool → Bool → Option Reply
kinds m r = cond (m && not r) (Some reply.NotDir) (cond (r && not m) (Some reply.IsDir) None)

abbrev pub by_kinds : Bool → Bool → List ℕ → Ask Plan → Ask Plan
by_kinds m r dirs p = cond (m && not r) (refused reply.NotDir dirs) (cond (r && not m) (refused reply.IsDir dirs) p)

pub kinds_refuse : (m r : Bool) (dirs : List ℕ) (p : Ask Plan) (y : Reply) → kinds m r ≡ Some y → by_kinds m r dirs p ≡ refused y dirs
kinds_refuse true true dirs p y e = absurd (cc)
kinds_refuse false false dirs p y e = absurd (cc)
kinds_refuse true false dirs p y e = let h : reply.NotDir ≡ y = cc in ap (λ (y : Reply). refused y dirs) h
kinds_refuse false true dirs p y e = let h : reply.IsDir ≡ y = cc in ap (λ (y : Reply). refused y dirs) h

pub kinds_pass : (m r : Bool) (dirs : List ℕ) (p : Ask Plan) → kinds m r ≡ None → by_kinds m r dirs p ≡ p
kinds_pass true true dirs p e = refl
kinds_pass false false dirs p e = refl
kinds_pass true false dirs p e = absurd (cc)
kinds_pass false true dirs p e = absurd (cc)

-- paths of which neither is the root
pub not_roots : (h : Hand) (path to : List (List ℕ)) (a b : Bool) → (IsTrue a ↔ (path ≡ [])) → (IsTrue b ↔ (to ≡ [])) → a ≡ false → b ≡ false
    → plan_renamed h path to ≡ bind (walk path) (λ w. renaming h to w.dirs w.spot)
not_roots h [] to true b p q e f = absurd (cc)
not_roots h [] to false b p q e f = let z : false ≡ true = p.1 refl in absurd (cc)
not_roots h (name ∷ names) [] a true p q e f = absurd (cc)
not_roots h (name ∷ names) [] a false p q e f = let z : false ≡ true = q.1 refl in absurd (cc)
not_roots h (name ∷ names) (new ∷ news) a b p q e f = refl
