-- What a line replies goes by the sectors with versions that it looks at, and by the bytes that were shown.
use Rattle.std.proofs.Common.{ℕ, ◌≡◌, Bool, true, false, if◌then◌else◌, IsTrue, Some, List, ◌++◌, map, is_some, refl, sym, ◌∙◌, ap, subst}
use Rattle.std.proofs.lemmas.List.Elements.{Contains-append_right}
use Rattle.std.specs.List.{filter_map}
use Rattle.frang_base.specs.Functions.{member}
use Rattle.sector_bytes.specs.Replays.{change_at}
use Rattle.sector_bytes.specs.Sectors.{Sectors}
use Rattle.sector_world.specs.Histories.{Commit, touches}
use Rattle.sector_world.specs.Plans.{Outcome, outcome_of}
use Rattle.disk_definitions.specs.Ask.{Sector, Ask, run, looks}
use Rattle.disk_definitions.specs.Plans.{Plan}
use Rattle.plan_laws.specs.Looking.{AllSayTheSame}
use Rattle.plan_laws.proofs.Asking.{framed}
use Rattle.plan_laws.proofs.Covering.{map_has}
use Rattle.line_laws.specs.Stores.{with_bytes}
use Rattle.disk_definitions.specs.Lines.{plan_of_line}
use Rattle.line_histories.specs.LinePlans.{held_of, hand_by, hand_on, sector_plan, segment_number, store_on, versioned}
use Rattle.line_histories.specs.Outcomes.{IsOfAPlan}
use Rattle.line_histories.proofs.AllBlind.{bytes_dont_decide}
use Rattle.line_histories.proofs.Framed.{seen_is_looked, held_same, says_the_same}
use Rattle.line_histories.proofs.Lists.{has_member}
use Rattle.line_histories.proofs.Outcomes.{outcomes_of_plans}
use Rattle.stop_laws.specs.Cells.{having}
use Rattle.stop_laws.specs.Replies.{RepliesGoByWhatIsLookedAt}

is_touched : (c : Commit) (m : ℕ) → member m c.looked ≡ true → IsTrue (touches c m)
is_touched c m e = go (is_some (change_at c.changes m))
  where
    go : (b : Bool) → IsTrue (if b then true else member m c.looked)
    go true = refl
    go false = e

module _ (segments : ℕ) (old new : Sectors) where
  -- ---- the plan of a line comes to the same on both

  module _ (when : ℕ → ℕ) (c : Commit) (legal : sector_plan segments when c.hint c.op c.asked old ≡ Some (outcome_of c))
      (agree : (sector : ℕ) → IsTrue (touches c sector) → old sector ≡ new sector) where
    abbrev program : Ask Plan
    program = plan_of_line (hand_on segments old c.hint) c.op (when c.op) c.asked

    abbrev seen : List Sector
    seen = looks program (store_on segments old)

    of_plan : IsOfAPlan plan_of_line segments when c.hint c.op c.asked old (outcome_of c)
    of_plan = outcomes_of_plans plan_of_line segments when c.hint c.op c.asked old (outcome_of c) legal

    looked_same : (m : ℕ) → member m (filter_map versioned seen ++ map segment_number c.hint) ≡ true → old m ≡ new m
    looked_same m e = agree m (is_touched c m (ap (λ (q : Outcome). member m q.looked) of_plan.comes.outcome ∙ e))

    held : held_of segments old c.hint ≡ held_of segments new c.hint
    held =
        held_same segments old new c.hint (λ k h. looked_same (segment_number k) (has_member (segment_number k) (filter_map versioned seen ++ map segment_number c.hint)
        (Contains-append_right (filter_map versioned seen) (map segment_number c.hint) (segment_number k) (map_has segment_number c.hint k h))))

    module _ (byte large_byte : ℕ → ℕ → ℕ) where
      blind : looks program (with_bytes (store_on segments old) byte large_byte) ≡ seen
      blind = (bytes_dont_decide c.asked (hand_on segments old c.hint) (store_on segments old) c.op (when c.op) byte large_byte).0

      pub comes_to_the_same : run (plan_of_line (hand_on segments new c.hint) c.op (when c.op) c.asked) (with_bytes (store_on segments new) byte large_byte)
          ≡ run (plan_of_line (hand_on segments old c.hint) c.op (when c.op) c.asked) (with_bytes (store_on segments old) byte large_byte)
      comes_to_the_same =
          ap (λ held. run (plan_of_line (hand_by segments held) c.op (when c.op) c.asked) (with_bytes (store_on segments new) byte large_byte)) (sym held)
          ∙ (framed program (with_bytes (store_on segments old) byte large_byte) (with_bytes (store_on segments new) byte large_byte)
          (subst (AllSayTheSame (with_bytes (store_on segments old) byte large_byte) (with_bytes (store_on segments new) byte large_byte)) (sym blind)
          (says_the_same segments old new byte large_byte seen (λ x m h e. looked_same m (seen_is_looked seen c.hint x m h e))))).0

pub replies_framed : RepliesGoByWhatIsLookedAt
replies_framed segments when old new c e legal agree says finish is =
    let shown = having c.shown (store_on segments old) in
    says finish (sym (comes_to_the_same segments old new when c legal agree shown.byte shown.large_byte) ∙ is)
