-- A replay by its parts, as its calls leave them.
use Rattle.std.proofs.Common.{◌≡◌, ℕ, Bool, true, false, ◌&&◌, if◌then◌else◌, List, ◌∷◌, Option, refl, ap, ◌∙◌}
use Rattle.sector_bytes.specs.Blocks.{Block}
use Rattle.sector_bytes.specs.SectorMaps.{with_value, without}
use Rattle.core_definitions.specs.Logs.{is_none}
use Rattle.recovery_demon.specs.declared.stage.Stage.{Stage}
use Rattle.recovery_demon.specs.Replays.{Replaying, advanced, gone_on, is_idle, look_made, next_first, next_later, next_stage, next_waiting, waiting_with, write_acknowledged}

-- a replay whose course has gone on where it is idle
pub record GoesOn (r : Replaying) (stage_after : Stage) (waits_after later_after first_after : List (ℕ × Block)) : Type 0 where
  pub stage : stage_after ≡ (if is_none r.looks && is_none r.waiting && is_none r.flying then next_stage r.stage r.sealed else r.stage)
  pub waiting : waits_after ≡ (if is_none r.looks && is_none r.waiting && is_none r.flying then next_waiting r.stage r.sealed r.waiting r.later r.first else r.waiting)
  pub later : later_after ≡ (if is_none r.looks && is_none r.waiting && is_none r.flying then next_later r.stage r.sealed r.waiting r.later else r.later)
  pub first : first_after ≡ (if is_none r.looks && is_none r.waiting && is_none r.flying then next_first r.stage r.waiting r.first else r.first)

pub gone : (r : Replaying) (stage_after : Stage) (waits_after later_after first_after : List (ℕ × Block)) → GoesOn r stage_after waits_after later_after first_after →
    record r { stage = stage_after; waiting = waits_after; later = later_after; first = first_after } ≡ advanced r
gone r stage_after waits_after later_after first_after g = (λ i. record r { stage = g.stage i; waiting = g.waiting i; later = g.later i; first = g.first i }) ∙ go (is_idle r)
  where
    go : (b : Bool) → record r {
      stage = if b then next_stage r.stage r.sealed else r.stage;
      waiting = if b then next_waiting r.stage r.sealed r.waiting r.later r.first else r.waiting;
      later = if b then next_later r.stage r.sealed r.waiting r.later else r.later;
      first = if b then next_first r.stage r.waiting r.first else r.first;
    } ≡ (if b then gone_on r else r)
    go true = refl
    go false = refl

-- after a look
pub looked_is : (r : Replaying) (s : ℕ) (wanted : Option Block) (looks_after : List (ℕ × Unit {0})) (looked_after : List (ℕ × Option Block)) (waits_between : List (ℕ × Block))
    (stage_after : Stage) (waits_after later_after first_after : List (ℕ × Block)) →
    looks_after ≡ without r.looks s → looked_after ≡ with_value r.looked s wanted → waits_between ≡ waiting_with r.waiting s wanted →
    GoesOn (record r { looks = looks_after; looked = looked_after; waiting = waits_between }) stage_after waits_after later_after first_after →
    record r { looks = looks_after; looked = looked_after; stage = stage_after; waiting = waits_after; later = later_after; first = first_after } ≡ advanced (look_made s wanted r)
looked_is r s wanted looks_after looked_after waits_between stage_after waits_after later_after first_after l k w g =
    gone (record r { looks = looks_after; looked = looked_after; waiting = waits_between }) stage_after waits_after later_after first_after g
    ∙ ap advanced (λ i. record r { looks = l i; looked = k i; waiting = w i })

-- after an acknowledgement
pub acknowledged_is : (r : Replaying) (s : ℕ) (flying_after : List (ℕ × Block)) (written_after : List ℕ) (stage_after : Stage) (waits_after later_after first_after : List (ℕ × Block)) →
    flying_after ≡ without r.flying s → written_after ≡ s ∷ r.written →
    GoesOn (record r { flying = flying_after; written = written_after }) stage_after waits_after later_after first_after →
    record r { flying = flying_after; written = written_after; stage = stage_after; waiting = waits_after; later = later_after; first = first_after } ≡ advanced (write_acknowledged s r)
acknowledged_is r s flying_after written_after stage_after waits_after later_after first_after f w g =
    gone (record r { flying = flying_after; written = written_after }) stage_after waits_after later_after first_after g ∙ ap advanced (λ i. record r { flying = f i; written = w i })
