-- A replay that is idle goes on to its next stage, and what is kept of it stays true.
use Rattle.std.proofs.Common.{◌≡◌, ⊎_elim, ℕ, ◌+◌, Bool, true, false, ◌&&◌, if◌then◌else◌, List, [], ◌∷◌, Option, Some, None, is_some, refl, sym, ap, ◌∙◌, subst}
use Rattle.std.proofs.lemmas.Bool.{and_parts, cases_eq, false≢true}
use Rattle.frang_base.specs.Functions.{member}
use Rattle.frang_base.proofs.Tests.{none_of}
use Rattle.sector_bytes.specs.Blocks.{Block}
use Rattle.sector_bytes.specs.SectorMaps.{value_at}
use Rattle.core_definitions.specs.Logs.{is_none}
use Rattle.recovery_demon.specs.declared.stage.Stage.{Stage}
use Rattle.recovery_demon.specs.declared.stage.Stage.TheVariants.{Replay, LaterSeals, FirstSeal, Over}
use Rattle.recovery_demon.specs.Replays.{AreOrdered, AtEnd, AtFirst, AtLater, AtReplay, AtStage, IsKept, IsNearly, IsReplayed, Replaying, advanced, gone_on, is_idle, is_over, left_of, next_first, next_later, next_stage, next_waiting, stage_writes, wanted_at}
use Rattle.recovery_demon.specs.Rules.{first_writes, later_writes, seal}
use Rattle.log_slots.proofs.Maps.{at_other, first_there}
use Rattle.recovery_demon.proofs.SealWrites.{later_found, later_some, seal_apart}
use Rattle.recovery_demon.proofs.Wanted.{left_at, nil_of, nothing_wanted}

-- ---- idle

record IsIdle (r : Replaying) : Type 0 where
  looks : r.looks ≡ []
  waiting : r.waiting ≡ []
  flying : r.flying ≡ []

idle_parts : (r : Replaying) → is_idle r ≡ true → IsIdle r
idle_parts r e =
    let both = and_parts (is_none r.looks && is_none r.waiting) (is_none r.flying) e in
    let two = and_parts (is_none r.looks) (is_none r.waiting) both.0 in
    record { looks = nil_of r.looks two.0; waiting = nil_of r.waiting two.1; flying = nil_of r.flying both.1 }

idle_with : (r : Replaying) → r.looks ≡ [] → r.waiting ≡ [] → r.flying ≡ [] → is_idle r ≡ true
idle_with r l w f = ap (λ xs. is_none xs && is_none r.waiting && is_none r.flying) l ∙ ap (λ xs. is_none xs && is_none r.flying) w ∙ ap is_none f

busy_waiting : (a b c : Bool) → b ≡ false → (a && b && c) ≡ false
busy_waiting true b c e = ap (λ t. t && c) e
busy_waiting false b c e = refl

neither : (b c : Bool) (o : Option Block) → o ≡ None → o ≡ (if b then None else (if c then None else o))
neither true c o e = e
neither false true o e = e
neither false false o e = refl

module _ (r : Replaying) (k : IsNearly r) where
  -- what isn't acknowledged of the writes of the stage, once nothing waits and nothing is issued
  none_of_stage : (s : Stage) → r.stage ≡ s → r.waiting ≡ [] → r.flying ≡ [] → left_of (stage_writes s r) r.written ≡ []
  none_of_stage s is w f =
      nothing_wanted (wanted_at r) r.waiting r.flying (left_of (stage_writes s r) r.written)
      (λ sector. left_at (stage_writes s r) r.written sector ∙ ap (λ t. if member sector r.written then None else value_at (stage_writes t r) sector) (sym is)) k.waiting w f

  -- ---- from the replay to the seal

  unlooked_seal : AtReplay r → (number : ℕ) → member (seal r.dead number).0 r.written ≡ false
  unlooked_seal at number = at.unlooked (seal r.dead number).0 (none_of (value_at r.looked (seal r.dead number).0) (go (is_some (value_at r.looked (seal r.dead number).0)) refl))
    where
      go : (b : Bool) → is_some (value_at r.looked (seal r.dead number).0) ≡ b → b ≡ false
      go true e = absurd (false≢true (sym (seal_apart r.segments r.dead number k.few k.server) ∙ at.replayed (seal r.dead number).0 e))
      go false e = refl

  later_waits : AtReplay r → (sector : ℕ) → (if member sector r.written then None else value_at (later_writes r.dead r.end) sector) ≡ value_at (later_writes r.dead r.end) sector
  later_waits at sector = go (value_at (later_writes r.dead r.end) sector) refl
    where
      both : (b : Bool) (o : Option Block) → o ≡ None → (if b then None else o) ≡ o
      both true o e = sym e
      both false o e = refl

      go : (o : Option Block) → value_at (later_writes r.dead r.end) sector ≡ o → (if member sector r.written then None else o) ≡ o
      go None e = both (member sector r.written) None refl
      go (Some block) e =
          let f = later_found r.dead r.end sector block e in
          ap (λ b. if b then None else Some block) (subst (λ n. member n r.written ≡ false) (sym f.at) (unlooked_seal at (r.end + 2 + f.k)))

  ordered : AreOrdered r
  ordered = k.ordered

  replayed_from : r.stage ≡ Replay → IsIdle r → IsReplayed r
  replayed_from is idle = record { looks = idle.looks; writes = none_of_stage Replay is idle.waiting idle.flying }

  -- at the end
  over_from : IsIdle r → AtEnd (record r { stage = Over }) → is_idle r ≡ true → IsKept (record r { stage = Over })
  over_from idle at e = record {
    nearly = record {
      ordered = record { looks = ordered.looks; looked = ordered.looked; waiting = ordered.waiting; flying = ordered.flying; later = ordered.later; first = ordered.first };
      few = k.few;
      server = k.server;
      holds = k.holds;
      greatest = k.greatest;
      looks = k.looks;
      waiting = λ sector. ap (λ ws. value_at ws sector) idle.waiting ∙ neither (is_some (value_at r.flying sector)) (member sector r.written) None refl;
      flying = λ sector block h. let none : value_at r.flying sector ≡ None = ap (λ ws. value_at ws sector) idle.flying in cc (sym none ∙ h);
      stage = at;
    };
    idle = e;
  }

  went_replay : (sealed : Bool) → r.stage ≡ Replay → r.sealed ≡ sealed → AtReplay r → is_idle r ≡ true →
      IsKept (record r { stage = next_stage Replay sealed; waiting = next_waiting Replay sealed r.waiting r.later r.first; later = next_later Replay sealed r.waiting r.later; first = next_first Replay r.waiting r.first })
  went_replay true is sealed at e =
      let idle = idle_parts r e in
      over_from idle (record {
        replayed = record { looks = idle.looks; writes = (replayed_from is idle).writes };
        waiting = idle.waiting;
        flying = idle.flying;
        later = λ un. absurd (false≢true (sym un ∙ sealed));
        first = λ un. absurd (false≢true (sym un ∙ sealed));
      }) e
  went_replay false is unsealed at e =
      let idle = idle_parts r e in record {
        nearly = record {
          ordered = record { looks = ordered.looks; looked = ordered.looked; waiting = ordered.later; flying = ordered.flying; later = ordered.waiting; first = ordered.first };
          few = k.few;
          server = k.server;
          holds = k.holds;
          greatest = k.greatest;
          looks = k.looks;
          waiting = λ sector. at.later unsealed sector ∙ sym (later_waits at sector)
              ∙ sym (ap (λ ws. if is_some (value_at ws sector) then None else (if member sector r.written then None else value_at (later_writes r.dead r.end) sector)) idle.flying);
          flying = λ sector block h. let none : value_at r.flying sector ≡ None = ap (λ ws. value_at ws sector) idle.flying in cc (sym none ∙ h);
          stage = record {
            replayed = record { looks = idle.looks; writes = (replayed_from is idle).writes };
            unsealed = unsealed;
            apart = unlooked_seal at (r.end + 1);
            first = at.first unsealed;
          };
        };
        idle = busy_waiting (is_none r.looks) (is_none r.later) (is_none r.flying) (some_later r.later (later_writes r.dead r.end) (at.later unsealed) (later_some r.dead r.end));
      }
    where
      some_later : (xs ys : List (ℕ × Block)) → ((sector : ℕ) → value_at xs sector ≡ value_at ys sector) → is_none ys ≡ false → is_none xs ≡ false
      some_later (x ∷ xs) ys same e = refl
      some_later [] [] same e = e
      some_later [] (y ∷ ys) same e = let there : None ≡ Some y.1 = same y.0 ∙ first_there y ys in cc there

  went_later : r.stage ≡ LaterSeals → AtLater r → is_idle r ≡ true → IsKept (record r { stage = FirstSeal; waiting = r.first; first = r.waiting })
  went_later is at e =
      let idle = idle_parts r e in record {
        nearly = record {
          ordered = record { looks = ordered.looks; looked = ordered.looked; waiting = ordered.first; flying = ordered.flying; later = ordered.later; first = ordered.waiting };
          few = k.few;
          server = k.server;
          holds = k.holds;
          greatest = k.greatest;
          looks = k.looks;
          waiting = λ sector. ap (λ ws. value_at ws sector) at.first ∙ sym (first_waits sector)
              ∙ sym (ap (λ ws. if is_some (value_at ws sector) then None else (if member sector r.written then None else value_at (first_writes r.dead r.end) sector)) idle.flying);
          flying = λ sector block h. let none : value_at r.flying sector ≡ None = ap (λ ws. value_at ws sector) idle.flying in cc (sym none ∙ h);
          stage = record {
            replayed = record { looks = at.replayed.looks; writes = at.replayed.writes };
            unsealed = at.unsealed;
            later = none_of_stage LaterSeals is idle.waiting idle.flying;
          };
        };
        idle = busy_waiting (is_none r.looks) (is_none r.first) (is_none r.flying) (ap is_none at.first);
      }
    where
      first_waits : (sector : ℕ) → (if member sector r.written then None else value_at (first_writes r.dead r.end) sector) ≡ value_at (first_writes r.dead r.end) sector
      first_waits sector = ⊎_elim
          (λ h. ap (λ b. if b then None else value_at (first_writes r.dead r.end) sector) (subst (λ n. member n r.written ≡ false) (sym h) at.apart))
          (λ h. none_else (member sector r.written) (value_at (first_writes r.dead r.end) sector) (ap (λ b. if b then Some (seal r.dead (r.end + 1)).1 else None) (at_other sector (seal r.dead (r.end + 1)).0 h)))
          (cases_eq sector (seal r.dead (r.end + 1)).0)
        where
          none_else : (b : Bool) (o : Option Block) → o ≡ None → (if b then None else o) ≡ o
          none_else true o e = sym e
          none_else false o e = refl

  went_first : r.stage ≡ FirstSeal → AtFirst r → is_idle r ≡ true → IsKept (record r { stage = Over })
  went_first is at e =
      let idle = idle_parts r e in
      over_from idle (record {
        replayed = record { looks = at.replayed.looks; writes = at.replayed.writes };
        waiting = idle.waiting;
        flying = idle.flying;
        later = λ un. at.later;
        first = λ un. none_of_stage FirstSeal is idle.waiting idle.flying;
      }) e

  went : (s : Stage) → r.stage ≡ s → AtStage s r → is_idle r ≡ true →
      IsKept (record r { stage = next_stage s r.sealed; waiting = next_waiting s r.sealed r.waiting r.later r.first; later = next_later s r.sealed r.waiting r.later; first = next_first s r.waiting r.first })
  went Replay is at e = went_replay r.sealed is refl at e
  went LaterSeals is at e = went_later is at e
  went FirstSeal is at e = went_first is at e
  went Over is at e = over_from (idle_parts r e) (record { replayed = record { looks = at.replayed.looks; writes = at.replayed.writes }; waiting = at.waiting; flying = at.flying; later = at.later; first = at.first }) e

  -- one that isn't idle isn't over
  busy : (s : Stage) → AtStage s r → is_idle r ≡ false → false ≡ is_over s
  busy Replay at e = refl
  busy LaterSeals at e = refl
  busy FirstSeal at e = refl
  busy Over at e = sym e ∙ idle_with r at.replayed.looks at.waiting at.flying

  pub advanced_kept : IsKept (advanced r)
  advanced_kept = go (is_idle r) refl
    where
      go : (b : Bool) → is_idle r ≡ b → IsKept (if b then gone_on r else r)
      go true e = went r.stage refl k.stage e
      go false e = record { nearly = k; idle = e ∙ busy r.stage k.stage e }
