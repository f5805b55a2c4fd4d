-- Transcripts are closed under beginnings; what one line more adds.
use Rattle.std.proofs.Common.{◌≡◌, ℕ, List, [], ◌∷◌, ◌++◌, sym, ◌∙◌, ap, subst, append-nil, append_assoc}
use Rattle.std.proofs.lemmas.Grind.{flat_map-append}
use Rattle.frang_base.specs.declared.said.Said.{Said}
use Rattle.frang_base.specs.declared.script.Line.{Line}
use Rattle.tree_definitions.specs.History.{Opening}
use Rattle.tree_definitions.specs.Live.{item_of, live_history}
use Rattle.tree_definitions.specs.Transcript.{Faults, MaySayAll}

pub live-append : (script : List Line) (run : ℕ) (xs ys : List Said) → live_history script run (xs ++ ys) ≡ live_history script run xs ++ live_history script run ys
live-append script run xs ys = flat_map-append (item_of script run) xs ys

pub live-push : (script : List Line) (run : ℕ) (saids : List Said) (y : Said) → live_history script run (saids ++ y ∷ []) ≡ live_history script run saids ++ item_of script run y
live-push script run saids y = live-append script run saids (y ∷ []) ∙ ap (λ l. live_history script run saids ++ l) (append-nil (item_of script run y))

module _ (script : List Line) (opening : Opening) (faults : Faults) where
  pub may_all-front : (before xs ys : List Said) → MaySayAll script opening faults before (xs ++ ys) → MaySayAll script opening faults before xs
  may_all-front before [] ys all = tt
  may_all-front before (x ∷ xs) ys all = (all.0, may_all-front (before ++ x ∷ []) xs ys all.1)

  pub may_all-back : (before xs ys : List Said) → MaySayAll script opening faults before (xs ++ ys) → MaySayAll script opening faults (before ++ xs) ys
  may_all-back before [] ys all = subst (λ b. MaySayAll script opening faults b ys) (sym (append-nil before)) all
  may_all-back before (x ∷ xs) ys all = subst (λ b. MaySayAll script opening faults b ys) (append_assoc before (x ∷ []) xs) (may_all-back (before ++ x ∷ []) xs ys all.1)

  pub may_all-append : (before xs ys : List Said) → MaySayAll script opening faults before xs → MaySayAll script opening faults (before ++ xs) ys → MaySayAll script opening faults before (xs ++ ys)
  may_all-append before [] ys front back = subst (λ b. MaySayAll script opening faults b ys) (append-nil before) back
  may_all-append before (x ∷ xs) ys front back = (front.0, may_all-append (before ++ x ∷ []) xs ys front.1 (subst (λ b. MaySayAll script opening faults b ys) (sym (append_assoc before (x ∷ []) xs)) back))
