-- What the recovery of a party does next, by the first slot and the first sector that it wants.
use Rattle.std.proofs.Common.{◌≡◌, ℕ, Bool, true, false, IsTrue, Some, None, if◌then◌else◌, refl, ap, ◌∙◌, sym}
use Rattle.std.proofs.lemmas.Bool.{false≢true}
use Rattle.std.specs.List.{slice_get}
use Rattle.core_definitions.specs.Cores.{Core}
use Rattle.core_definitions.specs.EndGuards.{CanLoad, CanLook, is_recovery, wants_look, wants_slot}
use Rattle.core_definitions.specs.Logs.{unread}
use Rattle.core_definitions.specs.Recoveries.{Recovery, to_look}
use Rattle.core_definitions.specs.WriteGuards.{is_worker}
use Rattle.world_next.specs.Working.{recovery_at}
use Rattle.world_next.proofs.Firsts.{first_in, none_in}

module _ (c : Core) (by : ℕ) where
  -- who has one at work works, and has it
  record HasIt (r : Recovery) : Type 0 where
    works : IsTrue (is_worker c by)
    it : (c.servers by).recovery ≡ Some r

  has_it : (r : Recovery) → recovery_at c by ≡ Some r → HasIt r
  has_it r is = go (is_worker c by) refl is
    where
      go : (b : Bool) → is_worker c by ≡ b → (if b then (c.servers by).recovery else None) ≡ Some r → HasIt r
      go true works it = record { works = works; it = it }
      go false works it = absurd (cc)

  -- who has none wants nothing
  wants_nothing : (wants : Recovery → Bool) → recovery_at c by ≡ None → IsTrue (is_worker c by) → IsTrue (is_recovery wants (c.servers by).recovery) → ⊥
  wants_nothing wants none works wanted =
      false≢true (ap (is_recovery wants) (sym none ∙ ap (λ b. if b then (c.servers by).recovery else None) works) ∙ wanted)

  pub no_load_without : recovery_at c by ≡ None → (slot : ℕ) → CanLoad c by slot → ⊥
  no_load_without none slot can = wants_nothing (wants_slot c slot) none can.who can.wanted

  pub no_look_without : recovery_at c by ≡ None → (sector : ℕ) → CanLook c by sector → ⊥
  no_look_without none sector can = wants_nothing (wants_look c sector) none can.who can.wanted

  module _ (r : Recovery) (is : recovery_at c by ≡ Some r) where
    pub loads_first : (slot : ℕ) → slice_get (unread c.setting.logs r.slots) 0 ≡ Some slot → CanLoad c by slot
    loads_first slot first =
        let has : HasIt r = has_it r is in
        record { who = has.works; wanted = ap (is_recovery (wants_slot c slot)) has.it ∙ first_in slot (unread c.setting.logs r.slots) first }

    pub no_load : slice_get (unread c.setting.logs r.slots) 0 ≡ None → (slot : ℕ) → CanLoad c by slot → ⊥
    no_load none slot can =
        let has : HasIt r = has_it r is in
        none_in slot (unread c.setting.logs r.slots) none (ap (is_recovery (wants_slot c slot)) (sym has.it) ∙ can.wanted)

    pub looks_first : (sector : ℕ) → slice_get (to_look c.setting.logs c.setting.segments r) 0 ≡ Some sector → CanLook c by sector
    looks_first sector first =
        let has : HasIt r = has_it r is in
        record { who = has.works; wanted = ap (is_recovery (wants_look c sector)) has.it ∙ first_in sector (to_look c.setting.logs c.setting.segments r) first }

    pub no_look : slice_get (to_look c.setting.logs c.setting.segments r) 0 ≡ None → (sector : ℕ) → CanLook c by sector → ⊥
    no_look none sector can =
        let has : HasIt r = has_it r is in
        none_in sector (to_look c.setting.logs c.setting.segments r) none (ap (is_recovery (wants_look c sector)) (sym has.it) ∙ can.wanted)
