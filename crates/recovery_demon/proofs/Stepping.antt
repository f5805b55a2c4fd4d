-- What the calls of a replay make of the recovery that is seen.
use Rattle.std.proofs.Common.{◌≡◌, ℕ, Bool, true, false, not, if◌then◌else◌, List, Option, Some, None, IsSome, nat_lt, refl, sym, ap, ◌∙◌, subst}
use Rattle.std.proofs.lemmas.Bool.{and_parts, false≢true}
use Rattle.frang_base.specs.Functions.{member}
use Rattle.frang_base.specs.declared.change.Redo.{Redo}
use Rattle.sector_bytes.specs.Blocks.{Block}
use Rattle.sector_bytes.specs.SectorMaps.{Spacious, value_at, with_value, without}
use Rattle.core_definitions.specs.Logs.{SlotsRead}
use Rattle.core_definitions.specs.Recoveries.{Recovery, wanted_block}
use Rattle.core_definitions.specs.WriteEffects.{acknowledged_for}
use Rattle.recovery_demon.specs.Inside.{IsOpened, IsTied, recovering_of}
use Rattle.recovery_demon.specs.Recovering.{Recovering, log_redos, looks_wanted, wanted_over}
use Rattle.recovery_demon.specs.Replays.{IsKept, Kept, Replaying, advanced, gone_on, is_idle, look_made, write_acknowledged, write_issued, write_lost}
use Rattle.log_slots.specs.Reading.{are_all_read, log_rules, read_slots}
use Rattle.log_slots.proofs.Maps.{keys_member}
use Rattle.recovery_demon.proofs.Meaning.{records_is}
use Rattle.recovery_demon.proofs.Seen.{seen_looks}

-- ---- what goes on stays of the same log, and has the same looks, writes in flight and acknowledged ones

pub record IsSame (old new : Replaying) : Type 0 where
  pub dead : new.dead ≡ old.dead
  pub segments : new.segments ≡ old.segments
  pub records : new.records ≡ old.records
  pub end : new.end ≡ old.end
  pub sealed : new.sealed ≡ old.sealed
  pub looked : new.looked ≡ old.looked
  pub flying : new.flying ≡ old.flying
  pub written : new.written ≡ old.written

pub same_advanced : (r : Replaying) → IsSame r (advanced r)
same_advanced r = go (is_idle r)
  where
    go : (b : Bool) → IsSame r (if b then gone_on r else r)
    go true = record { dead = refl; segments = refl; records = refl; end = refl; sealed = refl; looked = refl; flying = refl; written = refl }
    go false = record { dead = refl; segments = refl; records = refl; end = refl; sealed = refl; looked = refl; flying = refl; written = refl }

opened_same : (server count : ℕ) (slots : SlotsRead) (old new : Replaying) → IsOpened server count slots old → new.dead ≡ old.dead → new.segments ≡ old.segments → new.records ≡ old.records → new.end ≡ old.end →
    new.sealed ≡ old.sealed → IsOpened server count slots new
opened_same server count slots old new o d s r e l = record { dead = d ∙ o.dead; segments = s ∙ o.segments; records = r ∙ o.records; end = e ∙ o.end; sealed = l ∙ o.sealed }

redos_are : (dead segments : ℕ) (slots : SlotsRead) (r : Replaying) → IsTied dead segments slots r → (recovery : Recovery) → recovery.slots ≡ slots → r.records ≡ log_redos recovery
unfolding log_redos
redos_are dead segments slots r tied recovery same = tied.opened.records ∙ sym (records_is slots) ∙ ap (λ read. log_rules.records (read_slots read)) (sym same)

module _ (dead segments : ℕ) (slots : Spacious Block) (k new : Kept) (s : ℕ) (tied : IsTied dead segments slots.entries k.replay) where
  abbrev r : Replaying
  r = k.replay

  abbrev seen : Recovering
  seen = recovering_of dead segments slots (Some k)

  -- ---- a look

  module _ (block : Block) (is : new.replay ≡ advanced (look_made s (wanted_block k.replay.records s block) k.replay)) where
    abbrev made : Replaying
    made = look_made s (wanted_block k.replay.records s block) k.replay

    same : IsSame made new.replay
    same = subst (IsSame made) (sym is) (same_advanced made)

    pub looked_tied : IsKept new.replay → IsTied dead segments slots.entries new.replay
    looked_tied kept = record { opened = opened_same dead segments slots.entries r new.replay tied.opened same.dead same.segments same.records same.end same.sealed; read = tied.read; kept = kept }

    pub looked_seen : (recovering_of dead segments slots (Some new)).recovery ≡
        record (recovering_of dead segments slots (Some k)).recovery { looked = with_value (recovering_of dead segments slots (Some k)).recovery.looked s (wanted_over (recovering_of dead segments slots (Some k)).recovery s block) }
    looked_seen =
        (λ i. record seen.recovery { looked = same.looked i; written = same.written i })
        ∙ ap (λ (records : List Redo). record seen.recovery { looked = with_value r.looked s (wanted_block records s block) }) (redos_are dead segments slots.entries r tied seen.recovery refl)

    pub looked_flies : (recovering_of dead segments slots (Some new)).issued ≡ (recovering_of dead segments slots (Some k)).issued
    looked_flies = same.flying

  pub look_there : (recovery : Recovery) (count : ℕ) → recovery ≡ (recovering_of dead segments slots (Some k)).recovery → count ≡ segments → member s (looks_wanted count recovery) ≡ true → IsSome (value_at k.replay.looks s)
  look_there recovery count e f wanted =
      sym (keys_member k.replay.looks s) ∙ ap (member s) (seen_looks dead segments slots.entries r tied) ∙ sym (ap (λ x. member s (looks_wanted x seen.recovery)) f) ∙ sym (ap (λ x. member s (looks_wanted count x)) e) ∙ wanted

  -- ---- an issue and a loss

  module _ (block : Block) (is : new.replay ≡ write_issued s block k.replay) where
    pub issued_tied : IsKept new.replay → IsTied dead segments slots.entries new.replay
    issued_tied kept = record { opened = opened_same dead segments slots.entries r new.replay tied.opened (ap (λ x. x.dead) is) (ap (λ x. x.segments) is) (ap (λ x. x.records) is) (ap (λ x. x.end) is) (ap (λ x. x.sealed) is); read = tied.read; kept = kept }

    pub issued_seen : (recovering_of dead segments slots (Some new)).recovery ≡ (recovering_of dead segments slots (Some k)).recovery
    issued_seen = λ i. record seen.recovery { looked = (is i).looked; written = (is i).written }

    pub issued_flies : (recovering_of dead segments slots (Some new)).issued ≡ with_value (recovering_of dead segments slots (Some k)).issued s block
    issued_flies = ap (λ x. x.flying) is

  module _ (block : Block) (is : new.replay ≡ write_lost s block k.replay) where
    pub lost_tied : IsKept new.replay → IsTied dead segments slots.entries new.replay
    lost_tied kept = record { opened = opened_same dead segments slots.entries r new.replay tied.opened (ap (λ x. x.dead) is) (ap (λ x. x.segments) is) (ap (λ x. x.records) is) (ap (λ x. x.end) is) (ap (λ x. x.sealed) is); read = tied.read; kept = kept }

    pub lost_seen : (recovering_of dead segments slots (Some new)).recovery ≡ (recovering_of dead segments slots (Some k)).recovery
    lost_seen = λ i. record seen.recovery { looked = (is i).looked; written = (is i).written }

    pub lost_flies : (recovering_of dead segments slots (Some new)).issued ≡ without (recovering_of dead segments slots (Some k)).issued s
    lost_flies = ap (λ x. x.flying) is

  -- ---- an acknowledgement

  module _ (is : new.replay ≡ advanced (write_acknowledged s k.replay)) where
    same_written : IsSame (write_acknowledged s k.replay) new.replay
    same_written = subst (IsSame (write_acknowledged s k.replay)) (sym is) (same_advanced (write_acknowledged s k.replay))

    pub written_tied : IsKept new.replay → IsTied dead segments slots.entries new.replay
    written_tied kept = record { opened = opened_same dead segments slots.entries r new.replay tied.opened same_written.dead same_written.segments same_written.records same_written.end same_written.sealed; read = tied.read; kept = kept }

    pub written_seen : (recovering_of dead segments slots (Some new)).recovery ≡ acknowledged_for s (recovering_of dead segments slots (Some k)).recovery
    written_seen = λ i. record seen.recovery { looked = same_written.looked i; written = same_written.written i }

    pub written_flies : (recovering_of dead segments slots (Some new)).issued ≡ without (recovering_of dead segments slots (Some k)).issued s
    written_flies = same_written.flying

-- ---- rooms and beginnings

opened_not : (b : Bool) → not b ≡ true → b ≡ false
opened_not true e = absurd (false≢true e)
opened_not false e = refl

pub unread_where_ready : (dead segments : ℕ) (slots : Spacious Block) (o : Option Kept) (value : Recovering) → o ≡ None → recovering_of dead segments slots o ≡ value → value.is_ready ≡ true →
    are_all_read value.recovery.slots ≡ false
unread_where_ready dead segments slots o value is seen ready =
    let same : recovering_of dead segments slots None ≡ value = ap (recovering_of dead segments slots) (sym is) ∙ seen in
    let ready_none : (recovering_of dead segments slots None).is_ready ≡ true = ap (λ (d : Recovering). d.is_ready) same ∙ ready in
    ap (λ (d : Recovering). are_all_read d.recovery.slots) (sym same) ∙ opened_not (are_all_read slots.entries) (and_parts (not (are_all_read slots.entries)) (nat_lt 0 slots.spare) ready_none).0
