-- What is reached is the same for every report of a disk, and so is the report.
use Rattle.std.proofs.Common.{◌≡◌, ℕ, Bool, true, List, [], ◌∷◌, sym, ◌∙◌, ap, subst, eqb-true}
use Rattle.std.proofs.lemmas.Bool.{and_parts}
use Rattle.frang_base.proofs.Tests.{same_tests}
use Rattle.disk_definitions.specs.declared.param.Param.{Param}
use Rattle.disk_definitions.specs.Params.{param_in}
use Rattle.disk_definitions.specs.Store.{Store}
use Rattle.report_definitions.specs.View.{names, leads, IsReach}
use Rattle.report_definitions.specs.Report.{report_by, view_by}
use Rattle.report_definitions.specs.Laws.{OneReport}
use Rattle.report_definitions.proofs.Standing.{one_param}

module _ (s : Store) (one two : ℕ → Bool) (first : IsReach s one) (second : IsReach s two) where
  along : (path : List ℕ) (a i : ℕ) → two a ≡ true → leads s a path i ≡ true → two i ≡ true
  along [] a i h l = subst (λ (k : ℕ). two k ≡ true) (eqb-true a i l) h
  along (b ∷ path) a i h l = let p = and_parts (names s a b) (leads s b path i) l in along path b i (second.closed a b h p.0) p.1

  -- what the first reaches, the second does
  pub reached_too : (i : ℕ) → one i ≡ true → two i ≡ true
  reached_too i h = let w = first.led i h in along w.0 0 i second.root w.1

same_reach : (s : Store) (one two : ℕ → Bool) → IsReach s one → IsReach s two → one ≡ two
same_reach s one two first second = λ k i. at i k
  where
    at : (i : ℕ) → one i ≡ two i
    at i = same_tests (one i) (two i) (reached_too s one two first second i) (reached_too s two one second first i)

pub one_report : OneReport
one_report sectors a b first second =
    let p : first.param ≡ second.param = one_param (param_in (sectors 0)) first.param second.param first.parameters second.parameters in
    let reach : IsReach (view_by second.param sectors).store first.reached = subst (λ (q : Param). IsReach (view_by q sectors).store first.reached) p first.reach in
    let same : first.reached ≡ second.reached = same_reach (view_by second.param sectors).store first.reached second.reached reach second.reach in
    first.is ∙ ap (λ (q : Param). report_by (view_by q sectors) first.reached) p ∙ ap (λ (r : ℕ → Bool). report_by (view_by second.param sectors) r) same ∙ sym second.is
