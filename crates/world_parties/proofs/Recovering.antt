-- A recovery that is taken out of its place, changed and put back.
use Rattle.std.proofs.Common.{◌≡◌, ◌<◌, ◌⊎◌, ⊎_elim, inl, inr, ℕ, true, Option, Some, None, IfSome, IsSome, IsSomeAnd, List, [], is_some, refl, sym, ap, ◌∙◌, subst}
use Rattle.std.proofs.lemmas.Bool.{cases_eq, false≢true}
use Rattle.std.specs.Option.{option_map}
use Rattle.frang_base.specs.declared.limits.TheConstants.{SERVERS}
use Rattle.core_definitions.specs.Recoveries.{Recovery}
use Rattle.recovery_demon.specs.Recovering.{Recovering}
use Rattle.sector_bytes.specs.Blocks.{Block}
use Rattle.sector_bytes.specs.SectorMaps.{Ascend, value_at, with_value, without}
use Rattle.sector_bytes.proofs.MapLaws.{ascend_with, ascend_without}
use Rattle.log_slots.proofs.Maps.{at_without, other_with, other_without}
use Rattle.world_parties.specs.States.{AreIssuedAmong, Becomes, IsOfOther, IsRecovery, IsSame, Keeps, KeepsBut, RestStays, State, issued_at, issued_in, recovering_by, recovery_in, servers_at}
use Rattle.world_parties.proofs.Changing.{becomes_anew, becomes_none}
use Rattle.world_parties.proofs.Keeping.{recovery_keeps, recovery_keeps_but, rest_then}

-- what holds of it where it is holds of it out of its place
pub of_taken : (P : Recovering → Type 0) (there taken : Option Recovering) (r : Recovering) → taken ≡ there → taken ≡ Some r → IfSome there P → P r
of_taken P there taken r is found holds =
    let Q : Option Recovering → Type 0 = λ o. IfSome o P in
    subst Q (sym is ∙ found) holds

pub of_some : (P : Recovering → Type 0) (there taken : Option Recovering) (r : Recovering) → taken ≡ there → taken ≡ Some r → IsSomeAnd there P → P r
of_some P there taken r is found holds =
    let Q : Option Recovering → Type 0 = λ o. IsSomeAnd o P in
    subst Q (sym is ∙ found) holds

pub none_there : (P : Recovering → Type 0) (there taken : Option Recovering) → taken ≡ there → taken ≡ None → IsSomeAnd there P → ⊥
none_there P there taken is none holds =
    let Q : Option Recovering → Type 0 = λ o. IsSomeAnd o P in
    subst Q (sym is ∙ none) holds

pub of_core : (P : Recovery → Type 0) (there : Option Recovery) (taken : Option Recovering) (r : Recovering) → recovery_in taken ≡ there → taken ≡ Some r → IfSome there P → P r.recovery
of_core P there taken r is found holds =
    let Q : Option Recovery → Type 0 = λ o. IfSome o P in
    subst Q (sym is ∙ ap recovery_in found) holds

-- as it was it is of another server's log and its issued writes ascend, and so it is when it has changed
pub fits_back : (segments now by : ℕ) (taken : Option Recovering) (r new : Recovering) → now ≡ segments → taken ≡ Some r → IsRecovery segments by taken → new.segments ≡ r.segments
    → new.recovery.dead ≡ r.recovery.dead → (Ascend r.issued → Ascend new.issued) → IsRecovery now by (Some new)
fits_back segments now by taken r new same found fits disk dead ordered = record {
  disk = disk ∙ was.disk ∙ sym same;
  server = let P : ℕ → Type 0 = λ n. n < SERVERS in subst P (sym dead) was.server;
  other = λ e. was.other (sym dead ∙ e);
  issued = ordered was.issued;
}
  where
    was : IsOfOther segments by r
    was = of_taken (IsOfOther segments by) taken taken r refl found fits

module _ (old between : State) (by : ℕ) (taken : Option Recovering) (was : recovery_in taken ≡ (servers_at old by).recovery)
    (out : Becomes old between by (record (servers_at old by) { recovery = None })) where
  -- it is back, and this was made of it
  pub back_with : (new : State) (change : Recovery → Recovery) (r after : Recovering) → taken ≡ Some r → after.recovery ≡ change r.recovery
      → Becomes between new by (record (servers_at between by) { recovery = Some after.recovery })
      → Becomes old new by (record (servers_at old by) { recovery = option_map change (servers_at old by).recovery })
  back_with new change r after found is back =
      let P : Option Recovery → Type 0 = λ recovery. Becomes old new by (record (servers_at old by) { recovery = recovery }) in
      subst P (ap Some is ∙ ap (λ (o : Option Recovering). option_map change (recovery_in o)) (sym found) ∙ ap (option_map change) was)
      (becomes_anew old between new by (Some after.recovery) out back)

  -- it is back as the core knew it
  pub back_same : (new : State) (r after : Recovering) → taken ≡ Some r → after.recovery ≡ r.recovery
      → Becomes between new by (record (servers_at between by) { recovery = Some after.recovery }) → IsSame old new
  back_same new r after found is back =
      becomes_none old new by (Some after.recovery) (becomes_anew old between new by (Some after.recovery) out back) (ap Some is ∙ ap recovery_in (sym found) ∙ was)

  pub none_same : taken ≡ None → IsSame old between
  none_same none = becomes_none old between by None out (ap recovery_in (sym none) ∙ was)

-- ---- its issued writes

-- the same as before
pub issued_same : (r new : Recovering) → new.issued ≡ r.issued → AreIssuedAmong new.issued r.issued
issued_same r new same = subst (λ writes. AreIssuedAmong writes r.issued) (sym same) (λ sector is. is)

pub ascend_same : (r new : Recovering) → new.issued ≡ r.issued → Ascend r.issued → Ascend new.issued
ascend_same r new same ordered = subst Ascend (sym same) ordered

-- one is gone
pub gone_among : (r new : Recovering) (sector : ℕ) → new.issued ≡ without r.issued sector → Ascend r.issued → AreIssuedAmong new.issued r.issued
gone_among r new sector same ordered = subst (λ writes. AreIssuedAmong writes r.issued) (sym same) at
  where
    at : AreIssuedAmong (without r.issued sector) r.issued
    at x is = ⊎_elim
        (λ e. absurd (false≢true (sym (ap is_some (ap (value_at (without r.issued sector)) e ∙ at_without r.issued sector ordered)) ∙ is)))
        (λ other. sym (ap is_some (other_without r.issued sector x other)) ∙ is)
        (cases_eq x sector)

pub ascend_gone : (r new : Recovering) (sector : ℕ) → new.issued ≡ without r.issued sector → Ascend r.issued → Ascend new.issued
ascend_gone r new sector same ordered = subst Ascend (sym same) (ascend_without sector r.issued ordered)

-- one has come among them
pub one_more : (issued : List (ℕ × Block)) (sector : ℕ) (block : Block) (x : ℕ) → is_some (value_at (with_value issued sector block) x) ≡ true → (is_some (value_at issued x) ≡ true) ⊎ (x ≡ sector)
one_more issued sector block x is = ⊎_elim (λ e. inr e) (λ other. inl (sym (ap is_some (other_with issued sector block x other)) ∙ is)) (cases_eq x sector)

-- the one that was wanted
pub more_among : (r new : Recovering) (sector : ℕ) (wanted : Option Block) → IsSome wanted → IfSome wanted (λ block. new.issued ≡ with_value r.issued sector block)
    → (x : ℕ) → is_some (value_at new.issued x) ≡ true → (is_some (value_at r.issued x) ≡ true) ⊎ (x ≡ sector)
more_among r new sector None there same x is = absurd (false≢true there)
more_among r new sector (Some block) there same x is = one_more r.issued sector block x (subst (λ writes. is_some (value_at writes x) ≡ true) same is)

pub ascend_more : (r new : Recovering) (sector : ℕ) (wanted : Option Block) → IsSome wanted → IfSome wanted (λ block. new.issued ≡ with_value r.issued sector block) → Ascend r.issued → Ascend new.issued
ascend_more r new sector None there same ordered = absurd (false≢true there)
ascend_more r new sector (Some block) there same ordered = subst Ascend (sym same) (ascend_with sector block r.issued ordered)

-- of the sector that is gone there is none
pub gone_at : (s : State) (by sector : ℕ) (r after : Recovering) → recovering_by s by ≡ Some after → after.issued ≡ without r.issued sector → Ascend r.issued → value_at (issued_at s by) sector ≡ None
gone_at s by sector r after is same ordered = ap (λ o. value_at (issued_in o) sector) is ∙ ap (λ writes. value_at writes sector) same ∙ at_without r.issued sector ordered

-- ---- all parties

module _ (old between new : State) (by : ℕ) (taken : Option Recovering) (r after : Recovering) (was : taken ≡ recovering_by old by) (found : taken ≡ Some r)
    (out : Becomes old between by (record (servers_at old by) { recovery = None })) (back : Becomes between new by (record (servers_at between by) { recovery = Some after.recovery }))
    (out_rest : RestStays old between by) (back_rest : RestStays between new by) (is : recovering_by new by ≡ Some after) where
  anew : Becomes old new by (record (servers_at old by) { recovery = Some after.recovery })
  anew = becomes_anew old between new by (Some after.recovery) out back

  pub rest : RestStays old new by
  rest = rest_then old between new by out_rest back_rest

  there : issued_at old by ≡ r.issued
  there = ap issued_in (sym was ∙ found)

  pub back_keeps : AreIssuedAmong after.issued r.issued → Keeps old new
  back_keeps among = recovery_keeps old new by (Some after.recovery) rest anew
      (subst (λ o. AreIssuedAmong (issued_in o) (issued_at old by)) (sym is) (subst (AreIssuedAmong after.issued) (sym there) among))

  pub back_keeps_but : (sector : ℕ) → ((x : ℕ) → is_some (value_at after.issued x) ≡ true → (is_some (value_at r.issued x) ≡ true) ⊎ (x ≡ sector)) → KeepsBut old new by sector
  back_keeps_but sector but = recovery_keeps_but old new by (Some after.recovery) rest anew sector
      (λ x flies. subst (λ (writes : List (ℕ × Block)). (is_some (value_at writes x) ≡ true) ⊎ (x ≡ sector)) (sym there)
      (but x (subst (λ o. is_some (value_at (issued_in o) x) ≡ true) is flies)))

-- there is none
pub none_keeps : (old between : State) (by : ℕ) → Becomes old between by (record (servers_at old by) { recovery = None }) → RestStays old between by → recovering_by between by ≡ None → Keeps old between
none_keeps old between by out rest none = recovery_keeps old between by None rest out
    (subst (λ o. AreIssuedAmong (issued_in o) (issued_at old by)) (sym none) (λ sector is. absurd (false≢true is)))

-- one of which no write is issued yet
pub bare_keeps : (old new : State) (by : ℕ) (recovery : Option Recovering) → Becomes old new by (record (servers_at old by) { recovery = recovery_in recovery }) → RestStays old new by
    → recovering_by new by ≡ recovery → IfSome recovery (λ r. r.issued ≡ []) → Keeps old new
bare_keeps old new by recovery becomes rest is bare = recovery_keeps old new by (recovery_in recovery) rest becomes
    (subst (λ o. AreIssuedAmong (issued_in o) (issued_at old by)) (sym is) (none recovery bare))
  where
    none : (o : Option Recovering) → IfSome o (λ r. r.issued ≡ []) → AreIssuedAmong (issued_in o) (issued_at old by)
    none None bare = λ sector is. absurd (false≢true is)
    none (Some r) bare = subst (λ writes. AreIssuedAmong writes (issued_at old by)) (sym bare) (λ sector is. absurd (false≢true is))
