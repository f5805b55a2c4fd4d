-- Stages that were read one after the other are those of the servers by their numbers.
use Rattle.std.proofs.Common.{◌≡◌, ◌<◌, ◌+◌, ⊎_elim, ℕ, true, Option, None, List, [], ◌∷◌, ◌++◌, length, get_or, sym, ap, ◌∙◌, subst, arith}
use Rattle.std.proofs.Math.Seq.{get_or-append_seam}
use Rattle.std.proofs.lemmas.Bool.{cases_lt, ltb-true}
use Rattle.std.proofs.lemmas.List.{get_or_append_left, length-append}
use Rattle.frang_base.specs.declared.limits.TheConstants.{SERVERS}
use Rattle.core_definitions.specs.LineGuards.{is_server}
use Rattle.line_stages.specs.declared.stage.Stage.{Stage}
use Rattle.world_asks.specs.Asking.{IsStageAt}
use Rattle.world_list.specs.Going.{AreStages}
use Rattle.world_state.specs.States.{State}

-- so many are read
pub record AreFirst (s : State) (stages : List (Option Stage)) (n : ℕ) : Type 0 where
  pub long : length stages ≡ n
  pub each : (a : ℕ) → a < n → IsStageAt s a (get_or stages a None)

pub none_read : (s : State) (stages : List (Option Stage)) → stages ≡ [] → AreFirst s stages 0
none_read s stages is = record { long = ap length is; each = λ a below. absurd (omega arith) }

-- one more
pub one_more : (s : State) (stages more : List (Option Stage)) (n : ℕ) (stage : Option Stage) → AreFirst s stages n → more ≡ stages ++ stage ∷ [] → IsStageAt s n stage → AreFirst s more (n + 1)
one_more s stages more n stage first is here = record {
  long = ap length is ∙ length-append stages (stage ∷ []) ∙ ap (λ k. k + 1) first.long;
  each = λ a below. subst (λ (all : List (Option Stage)). IsStageAt s a (get_or all a None)) (sym is) (at a below);
}
  where
    earlier : (a : ℕ) → a < n → IsStageAt s a (get_or (stages ++ stage ∷ []) a None)
    earlier a small = subst (IsStageAt s a) (sym (get_or_append_left stages (stage ∷ []) None a (subst (λ k. a < k) (sym first.long) small))) (first.each a small)

    last : IsStageAt s n (get_or (stages ++ stage ∷ []) n None)
    last = subst (λ k. IsStageAt s n (get_or (stages ++ stage ∷ []) k None)) first.long (subst (IsStageAt s n) (sym (get_or-append_seam stages stage [] None)) here)

    at : (a : ℕ) → a < n + 1 → IsStageAt s a (get_or (stages ++ stage ∷ []) a None)
    at a below = ⊎_elim (earlier a)
        (λ past. let same : a ≡ n = omega arith in subst (λ k. IsStageAt s k (get_or (stages ++ stage ∷ []) k None)) (sym same) last) (cases_lt a n)

-- all are
pub all_read : (s : State) (stages : List (Option Stage)) (n : ℕ) → AreFirst s stages n → n ≡ SERVERS → AreStages s stages
all_read s stages n first is = record { long = first.long ∙ is; each = λ a small. first.each a (subst (λ k. a < k) (sym is) small) }

-- ---- of one server

pub small_is : (a : ℕ) → is_server a ≡ true → a < SERVERS
small_is a server = ltb-true a SERVERS server

pub stage_of_server : (s : State) (stages : List (Option Stage)) (a : ℕ) (stage : Option Stage) → AreStages s stages → a < SERVERS → stage ≡ get_or stages a None → IsStageAt s a stage
stage_of_server s stages a stage are small is = subst (IsStageAt s a) (sym is) (are.each a small)
