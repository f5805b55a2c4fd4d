-- What the calls of a replay make of it: what is kept of it stays true.
use Rattle.std.proofs.Common.{◌≡◌, ◌≢◌, ⊎_elim, ℕ, ◌+◌, Bool, true, false, not, ◌&&◌, if◌then◌else◌, List, [], ◌∷◌, Option, Some, None, is_some, refl, sym, ap, ◌∙◌, subst}
use Rattle.std.proofs.lemmas.Bool.{and_parts, cases_eq, false≢true}
use Rattle.std.specs.Option.{option_and_then}
use Rattle.frang_base.specs.Functions.{member}
use Rattle.sector_bytes.specs.Blocks.{Block}
use Rattle.sector_bytes.specs.SectorMaps.{Ascend, value_at, with_value, without}
use Rattle.sector_bytes.proofs.MapLaws.{ascend_with, ascend_without}
use Rattle.disk_definitions.specs.Regions.{region_of}
use Rattle.disk_definitions.specs.Replay.{is_replayed}
use Rattle.core_definitions.specs.Logs.{is_none}
use Rattle.recovery_demon.specs.declared.stage.Stage.{Stage}
use Rattle.recovery_demon.specs.declared.stage.Stage.TheVariants.{Replay, LaterSeals, FirstSeal, Over}
use Rattle.recovery_demon.specs.Replays.{AtEnd, AtLater, AtReplay, AtStage, IsKept, IsNearly, Replaying, is_over, look_made, looked_writes, stage_writes, waiting_with, wanted_at, write_acknowledged, write_issued, write_lost}
use Rattle.recovery_demon.specs.Rules.{later_writes, named, seal}
use Rattle.log_slots.proofs.Maps.{at_with, at_without, member_here, member_other, other_with, other_without}
use Rattle.recovery_demon.proofs.NamedSectors.{named_changeable}
use Rattle.recovery_demon.proofs.SealWrites.{first_apart, later_found}
use Rattle.recovery_demon.proofs.Wanted.{looked_at, none_left}

none_some : {X : Type 0} (o : Option X) (x : X) → o ≡ None → o ≡ Some x → {A : Type 0} → A
none_some o x n s = absurd (let e : None ≡ Some x = sym n ∙ s in cc e)

is_there : {X : Type 0} (o : Option X) → is_some o ≡ true → o ≡ None → {A : Type 0} → A
is_there o e n = absurd (false≢true (sym (ap is_some n) ∙ e))

module _ (r : Replaying) (kept : IsKept r) (s : ℕ) where
  k : IsNearly r
  k = kept.nearly

  -- ---- a look

  module _ (wanted : Option Block) (there : is_some (value_at r.looks s) ≡ true) where
    -- it is named, and wasn't looked at
    parts : (member s (named r.segments r.records) ≡ true) × (not (is_some (value_at r.looked s)) ≡ true)
    parts = and_parts (member s (named r.segments r.records)) (not (is_some (value_at r.looked s))) (sym (k.looks s) ∙ there)

    unlooked : value_at r.looked s ≡ None
    unlooked = go (value_at r.looked s) parts.1
      where
        go : (o : Option (Option Block)) → not (is_some o) ≡ true → o ≡ None
        go None e = refl
        go (Some w) e = absurd (false≢true e)

    -- so the replay is under way
    at_replay : (t : Stage) → AtStage t r → t ≡ Replay
    at_replay Replay at = refl
    at_replay LaterSeals at = is_there (value_at r.looks s) there (ap (λ xs. value_at xs s) at.replayed.looks)
    at_replay FirstSeal at = is_there (value_at r.looks s) there (ap (λ xs. value_at xs s) at.replayed.looks)
    at_replay Over at = is_there (value_at r.looks s) there (ap (λ xs. value_at xs s) at.replayed.looks)

    is_replay : r.stage ≡ Replay
    is_replay = at_replay r.stage k.stage

    under_way : AtReplay r
    under_way = subst (λ t. AtStage t r) is_replay k.stage

    unwritten : member s r.written ≡ false
    unwritten = under_way.unlooked s unlooked

    -- what is wanted where the stage is the replay
    wanted_is : (x : ℕ) → wanted_at r x ≡ (if member x r.written then None else value_at (looked_writes r.looked) x)
    wanted_is x = ap (λ t. if member x r.written then None else value_at (stage_writes t r) x) is_replay

    unwanted : wanted_at r s ≡ None
    unwanted = wanted_is s ∙ ap (λ b. if b then None else value_at (looked_writes r.looked) s) unwritten ∙ looked_at r.looked s k.ordered.looked ∙ ap (option_and_then (λ w. w)) unlooked

    unissued : value_at r.flying s ≡ None
    unissued = go (value_at r.flying s) refl
      where
        go : (o : Option Block) → value_at r.flying s ≡ o → o ≡ None
        go None e = refl
        go (Some block) e = none_some (wanted_at r s) block unwanted (k.flying s block e)

    unwaiting : value_at r.waiting s ≡ None
    unwaiting = k.waiting s ∙ ap (λ o. if is_some o then None else wanted_at r s) unissued ∙ unwanted

    new_looked : List (ℕ × Option Block)
    new_looked = with_value r.looked s wanted

    wanted_here : (if member s r.written then None else value_at (looked_writes (with_value r.looked s wanted)) s) ≡ wanted
    wanted_here =
        ap (λ b. if b then None else value_at (looked_writes (with_value r.looked s wanted)) s) unwritten ∙ looked_at (with_value r.looked s wanted) s (ascend_with s wanted r.looked k.ordered.looked)
        ∙ ap (option_and_then (λ w. w)) (at_with r.looked s wanted)

    wanted_there : (x : ℕ) → x ≢ s → (if member x r.written then None else value_at (looked_writes (with_value r.looked s wanted)) x) ≡ wanted_at r x
    wanted_there x other =
        ap (λ o. if member x r.written then None else o)
        (looked_at (with_value r.looked s wanted) x (ascend_with s wanted r.looked k.ordered.looked) ∙ ap (option_and_then (λ w. w)) (other_with r.looked s wanted x other) ∙ sym (looked_at r.looked x k.ordered.looked))
        ∙ sym (wanted_is x)

    waits_here : (w : Option Block) → value_at (waiting_with r.waiting s w) s ≡ w
    waits_here None = unwaiting
    waits_here (Some block) = at_with r.waiting s block

    waits_there : (w : Option Block) (x : ℕ) → x ≢ s → value_at (waiting_with r.waiting s w) x ≡ value_at r.waiting x
    waits_there None x other = refl
    waits_there (Some block) x other = other_with r.waiting s block x other

    waits_ordered : (w : Option Block) → Ascend (waiting_with r.waiting s w)
    waits_ordered None = k.ordered.waiting
    waits_ordered (Some block) = ascend_with s block r.waiting k.ordered.waiting

    looks_after : (x : ℕ) → is_some (value_at (without r.looks s) x) ≡ (member x (named r.segments r.records) && not (is_some (value_at (with_value r.looked s wanted) x)))
    looks_after x = ⊎_elim
        (λ h. subst (λ n. is_some (value_at (without r.looks s) n) ≡ (member n (named r.segments r.records) && not (is_some (value_at (with_value r.looked s wanted) n)))) (sym h)
        (ap is_some (at_without r.looks s k.ordered.looks) ∙ sym (ap (λ o. member s (named r.segments r.records) && not (is_some o)) (at_with r.looked s wanted) ∙ ap (λ b. b && false) parts.0)))
        (λ h. ap is_some (other_without r.looks s x h) ∙ k.looks x ∙ sym (ap (λ o. member x (named r.segments r.records) && not (is_some o)) (other_with r.looked s wanted x h)))
        (cases_eq x s)

    waiting_after : (x : ℕ) → value_at (waiting_with r.waiting s wanted) x ≡
        (if is_some (value_at r.flying x) then None else (if member x r.written then None else value_at (looked_writes (with_value r.looked s wanted)) x))
    waiting_after x = ⊎_elim
        (λ h. subst (λ n. value_at (waiting_with r.waiting s wanted) n ≡ (if is_some (value_at r.flying n) then None else (if member n r.written then None else value_at (looked_writes (with_value r.looked s wanted)) n))) (sym h)
        (waits_here wanted ∙ sym wanted_here ∙ sym (ap (λ o. if is_some o then None else (if member s r.written then None else value_at (looked_writes (with_value r.looked s wanted)) s)) unissued)))
        (λ h. waits_there wanted x h ∙ k.waiting x ∙ ap (λ o. if is_some (value_at r.flying x) then None else o) (sym (wanted_there x h)))
        (cases_eq x s)

    flying_after : (x : ℕ) (block : Block) → value_at r.flying x ≡ Some block → (if member x r.written then None else value_at (looked_writes (with_value r.looked s wanted)) x) ≡ Some block
    flying_after x block e = ⊎_elim (λ h. none_some (value_at r.flying s) block unissued (sym (ap (value_at r.flying) h) ∙ e)) (λ h. wanted_there x h ∙ k.flying x block e) (cases_eq x s)

    unlooked_after : (x : ℕ) → value_at (with_value r.looked s wanted) x ≡ None → member x r.written ≡ false
    unlooked_after x e = ⊎_elim
        (λ h. none_some (value_at (with_value r.looked s wanted) s) wanted (sym (ap (value_at (with_value r.looked s wanted)) h) ∙ e) (at_with r.looked s wanted))
        (λ h. under_way.unlooked x (sym (other_with r.looked s wanted x h) ∙ e)) (cases_eq x s)

    replayed_after : (x : ℕ) → is_some (value_at (with_value r.looked s wanted) x) ≡ true → is_replayed (region_of r.segments x) ≡ true
    replayed_after x e = ⊎_elim
        (λ h. subst (λ n. is_replayed (region_of r.segments n) ≡ true) (sym h) (named_changeable r.segments r.records s parts.0))
        (λ h. under_way.replayed x (sym (ap is_some (other_with r.looked s wanted x h)) ∙ e)) (cases_eq x s)

    nearly_looked : IsNearly (record r { looks = without r.looks s; looked = with_value r.looked s wanted; waiting = waiting_with r.waiting s wanted; stage = Replay })
    nearly_looked = record {
      ordered = record {
        looks = ascend_without s r.looks k.ordered.looks;
        looked = ascend_with s wanted r.looked k.ordered.looked;
        waiting = waits_ordered wanted;
        flying = k.ordered.flying;
        later = k.ordered.later;
        first = k.ordered.first;
      };
      few = k.few;
      server = k.server;
      holds = k.holds;
      greatest = k.greatest;
      looks = looks_after;
      waiting = waiting_after;
      flying = flying_after;
      stage = record { unlooked = unlooked_after; replayed = replayed_after; later = under_way.later; first = under_way.first };
    }

    pub look_nearly : IsNearly (look_made s wanted r)
    look_nearly =
        let P : Stage → Type 0 = λ t. IsNearly (record r { looks = without r.looks s; looked = with_value r.looked s wanted; waiting = waiting_with r.waiting s wanted; stage = t }) in
        subst P (sym is_replay) nearly_looked

  -- ---- a write that isn't issued

  module _ (block : Block) (waits : value_at r.waiting s ≡ Some block) where
    waits_is : (o : Option Block) → value_at r.flying s ≡ o → (o ≡ None) × (wanted_at r s ≡ Some block)
    waits_is None e = (refl, sym (ap (λ o. if is_some o then None else wanted_at r s) e) ∙ sym (k.waiting s) ∙ waits)
    waits_is (Some b) e = none_some (value_at r.waiting s) block (k.waiting s ∙ ap (λ o. if is_some o then None else wanted_at r s) e) waits

    waiting_issued : (x : ℕ) → value_at (without r.waiting s) x ≡ (if is_some (value_at (with_value r.flying s block) x) then None else wanted_at r x)
    waiting_issued x = ⊎_elim
        (λ h. subst (λ n. value_at (without r.waiting s) n ≡ (if is_some (value_at (with_value r.flying s block) n) then None else wanted_at r n)) (sym h)
        (at_without r.waiting s k.ordered.waiting ∙ sym (ap (λ o. if is_some o then None else wanted_at r s) (at_with r.flying s block))))
        (λ h. other_without r.waiting s x h ∙ k.waiting x ∙ sym (ap (λ o. if is_some o then None else wanted_at r x) (other_with r.flying s block x h)))
        (cases_eq x s)

    flying_issued : (x : ℕ) (b : Block) → value_at (with_value r.flying s block) x ≡ Some b → wanted_at r x ≡ Some b
    flying_issued x b e = ⊎_elim
        (λ h. subst (λ n. value_at (with_value r.flying s block) n ≡ Some b → wanted_at r n ≡ Some b) (sym h) (λ g. (waits_is (value_at r.flying s) refl).1 ∙ sym (at_with r.flying s block) ∙ g) e)
        (λ h. k.flying x b (sym (other_with r.flying s block x h) ∙ e))
        (cases_eq x s)

    some_with : (es : List (ℕ × Block)) → is_none (with_value es s block) ≡ false
    some_with es = go (with_value es s block) (at_with es s block)
      where
        go : (xs : List (ℕ × Block)) → value_at xs s ≡ Some block → is_none xs ≡ false
        go [] e = cc e
        go (x ∷ xs) e = refl

    last_busy : (a b c : Bool) → c ≡ false → (a && b && c) ≡ false
    last_busy true true c e = e
    last_busy true false c e = refl
    last_busy false b c e = refl

    stage_busy : (t : Stage) → AtStage t r → false ≡ is_over t
    stage_busy Replay at = refl
    stage_busy LaterSeals at = refl
    stage_busy FirstSeal at = refl
    stage_busy Over at = none_some (value_at r.waiting s) block (ap (λ ws. value_at ws s) at.waiting) waits

    issued_stage : (t : Stage) → AtStage t r → AtStage t (write_issued s block r)
    issued_stage Replay at = record { unlooked = at.unlooked; replayed = at.replayed; later = at.later; first = at.first }
    issued_stage LaterSeals at = record { replayed = record { looks = at.replayed.looks; writes = at.replayed.writes }; unsealed = at.unsealed; apart = at.apart; first = at.first }
    issued_stage FirstSeal at = record { replayed = record { looks = at.replayed.looks; writes = at.replayed.writes }; unsealed = at.unsealed; later = at.later }
    issued_stage Over at = none_some (value_at r.waiting s) block (ap (λ ws. value_at ws s) at.waiting) waits

    same_wanted : (x : ℕ) → wanted_at r x ≡ wanted_at (write_issued s block r) x
    same_wanted x = go r.stage
      where
        go : (t : Stage) → (if member x r.written then None else value_at (stage_writes t r) x) ≡ (if member x r.written then None else value_at (stage_writes t (write_issued s block r)) x)
        go Replay = refl
        go LaterSeals = refl
        go FirstSeal = refl
        go Over = refl

    pub issued_kept : IsKept (write_issued s block r)
    issued_kept = record {
      nearly = record {
        ordered = record {
          looks = k.ordered.looks;
          looked = k.ordered.looked;
          waiting = ascend_without s r.waiting k.ordered.waiting;
          flying = ascend_with s block r.flying k.ordered.flying;
          later = k.ordered.later;
          first = k.ordered.first;
        };
        few = k.few;
        server = k.server;
        holds = k.holds;
        greatest = k.greatest;
        looks = k.looks;
        waiting = λ x. waiting_issued x ∙ ap (λ o. if is_some (value_at (with_value r.flying s block) x) then None else o) (same_wanted x);
        flying = λ x b e. sym (same_wanted x) ∙ flying_issued x b e;
        stage = issued_stage r.stage k.stage;
      };
      idle = last_busy (is_none r.looks) (is_none (without r.waiting s)) (is_none (with_value r.flying s block)) (some_with r.flying) ∙ stage_busy r.stage k.stage;
    }

  -- ---- a write that is issued

  module _ (block : Block) (flies : value_at r.flying s ≡ Some block) where
    is_wanted : wanted_at r s ≡ Some block
    is_wanted = k.flying s block flies

    unwaiting_here : value_at r.waiting s ≡ None
    unwaiting_here = k.waiting s ∙ ap (λ o. if is_some o then None else wanted_at r s) flies

    over_apart : AtEnd r → {A : Type 0} → A
    over_apart at = none_some (value_at r.flying s) block (ap (λ ws. value_at ws s) at.flying) flies

    -- it is lost

    waiting_lost : (x : ℕ) → value_at (with_value r.waiting s block) x ≡ (if is_some (value_at (without r.flying s) x) then None else wanted_at r x)
    waiting_lost x = ⊎_elim
        (λ h. subst (λ n. value_at (with_value r.waiting s block) n ≡ (if is_some (value_at (without r.flying s) n) then None else wanted_at r n)) (sym h)
        (at_with r.waiting s block ∙ sym is_wanted ∙ sym (ap (λ o. if is_some o then None else wanted_at r s) (at_without r.flying s k.ordered.flying))))
        (λ h. other_with r.waiting s block x h ∙ k.waiting x ∙ sym (ap (λ o. if is_some o then None else wanted_at r x) (other_without r.flying s x h)))
        (cases_eq x s)

    flying_lost : (x : ℕ) (b : Block) → value_at (without r.flying s) x ≡ Some b → wanted_at r x ≡ Some b
    flying_lost x b e = ⊎_elim
        (λ h. none_some (value_at (without r.flying s) s) b (at_without r.flying s k.ordered.flying) (sym (ap (value_at (without r.flying s)) h) ∙ e))
        (λ h. k.flying x b (sym (other_without r.flying s x h) ∙ e)) (cases_eq x s)

    lost_stage : (t : Stage) → AtStage t r → AtStage t (write_lost s block r)
    lost_stage Replay at = record { unlooked = at.unlooked; replayed = at.replayed; later = at.later; first = at.first }
    lost_stage LaterSeals at = record { replayed = record { looks = at.replayed.looks; writes = at.replayed.writes }; unsealed = at.unsealed; apart = at.apart; first = at.first }
    lost_stage FirstSeal at = record { replayed = record { looks = at.replayed.looks; writes = at.replayed.writes }; unsealed = at.unsealed; later = at.later }
    lost_stage Over at = over_apart at

    same_lost : (x : ℕ) → wanted_at r x ≡ wanted_at (write_lost s block r) x
    same_lost x = go r.stage
      where
        go : (t : Stage) → (if member x r.written then None else value_at (stage_writes t r) x) ≡ (if member x r.written then None else value_at (stage_writes t (write_lost s block r)) x)
        go Replay = refl
        go LaterSeals = refl
        go FirstSeal = refl
        go Over = refl

    middle_busy : (a b c : Bool) → b ≡ false → (a && b && c) ≡ false
    middle_busy true b c e = ap (λ t. t && c) e
    middle_busy false b c e = refl

    waits_some : is_none (with_value r.waiting s block) ≡ false
    waits_some = go (with_value r.waiting s block) (at_with r.waiting s block)
      where
        go : (xs : List (ℕ × Block)) → value_at xs s ≡ Some block → is_none xs ≡ false
        go [] e = cc e
        go (x ∷ xs) e = refl

    lost_busy : (t : Stage) → AtStage t r → false ≡ is_over t
    lost_busy Replay at = refl
    lost_busy LaterSeals at = refl
    lost_busy FirstSeal at = refl
    lost_busy Over at = over_apart at

    pub lost_kept : IsKept (write_lost s block r)
    lost_kept = record {
      nearly = record {
        ordered = record {
          looks = k.ordered.looks;
          looked = k.ordered.looked;
          waiting = ascend_with s block r.waiting k.ordered.waiting;
          flying = ascend_without s r.flying k.ordered.flying;
          later = k.ordered.later;
          first = k.ordered.first;
        };
        few = k.few;
        server = k.server;
        holds = k.holds;
        greatest = k.greatest;
        looks = k.looks;
        waiting = λ x. waiting_lost x ∙ ap (λ o. if is_some (value_at (without r.flying s) x) then None else o) (same_lost x);
        flying = λ x b e. sym (same_lost x) ∙ flying_lost x b e;
        stage = lost_stage r.stage k.stage;
      };
      idle = middle_busy (is_none r.looks) (is_none (with_value r.waiting s block)) (is_none (without r.flying s)) waits_some ∙ lost_busy r.stage k.stage;
    }

    -- it is acknowledged

    here_after : (x : ℕ) → x ≡ s → wanted_at (write_acknowledged s r) x ≡ None
    here_after x h = ap (λ b. if b then None else value_at (stage_writes r.stage (write_acknowledged s r)) x) (subst (λ n. member x (n ∷ r.written) ≡ true) h (member_here x r.written))

    there_after : (x : ℕ) → x ≢ s → wanted_at (write_acknowledged s r) x ≡ wanted_at r x
    there_after x h = ap (λ b. if b then None else value_at (stage_writes r.stage (write_acknowledged s r)) x) (member_other x s r.written h) ∙ go r.stage
      where
        go : (t : Stage) → (if member x r.written then None else value_at (stage_writes t (write_acknowledged s r)) x) ≡ (if member x r.written then None else value_at (stage_writes t r) x)
        go Replay = refl
        go LaterSeals = refl
        go FirstSeal = refl
        go Over = refl

    waiting_acknowledged : (x : ℕ) → value_at r.waiting x ≡ (if is_some (value_at (without r.flying s) x) then None else wanted_at (write_acknowledged s r) x)
    waiting_acknowledged x = ⊎_elim
        (λ h. ap (value_at r.waiting) h ∙ unwaiting_here
        ∙ sym (ap (λ o. if is_some (value_at (without r.flying s) x) then None else o) (here_after x h) ∙ both (is_some (value_at (without r.flying s) x)) None refl))
        (λ h. k.waiting x ∙ ap (λ o. if is_some (value_at r.flying x) then None else o) (sym (there_after x h)) ∙ sym (ap (λ o. if is_some o then None else wanted_at (write_acknowledged s r) x) (other_without r.flying s x h)))
        (cases_eq x s)
      where
        both : (b : Bool) (o : Option Block) → o ≡ None → (if b then None else o) ≡ None
        both true o e = refl
        both false o e = e

    flying_acknowledged : (x : ℕ) (b : Block) → value_at (without r.flying s) x ≡ Some b → wanted_at (write_acknowledged s r) x ≡ Some b
    flying_acknowledged x b e = ⊎_elim
        (λ h. none_some (value_at (without r.flying s) s) b (at_without r.flying s k.ordered.flying) (sym (ap (value_at (without r.flying s)) h) ∙ e))
        (λ h. there_after x h ∙ k.flying x b (sym (other_without r.flying s x h) ∙ e)) (cases_eq x s)

    unacknowledged : (x : ℕ) → x ≢ s → member x r.written ≡ false → member x (s ∷ r.written) ≡ false
    unacknowledged x h e = member_other x s r.written h ∙ e

    written_replay : r.stage ≡ Replay → AtReplay r → AtReplay (write_acknowledged s r)
    written_replay is at = record {
      unlooked = λ x e. unacknowledged x (λ h. apart x h e) (at.unlooked x e);
      replayed = at.replayed;
      later = at.later;
      first = at.first;
    }
      where
        -- what is wanted was looked at
        apart : (x : ℕ) → x ≡ s → value_at r.looked x ≡ None → ⊥
        apart x h e = none_some (value_at (looked_writes r.looked) s) block
            (looked_at r.looked s k.ordered.looked ∙ ap (option_and_then (λ w. w)) (sym (ap (value_at r.looked) h) ∙ e))
            (else_some (member s r.written) (value_at (looked_writes r.looked) s) (sym (ap (λ t. if member s r.written then None else value_at (stage_writes t r) s) is) ∙ is_wanted))
          where
            else_some : (b : Bool) (o : Option Block) → (if b then None else o) ≡ Some block → o ≡ Some block
            else_some true o g = cc g
            else_some false o g = g

    written_later : r.stage ≡ LaterSeals → AtLater r → AtLater (write_acknowledged s r)
    written_later is at = record {
      replayed = record { looks = at.replayed.looks; writes = none_left (looked_writes r.looked) r.written s at.replayed.writes };
      unsealed = at.unsealed;
      apart = unacknowledged (seal r.dead (r.end + 1)).0 apart at.apart;
      first = at.first;
    }
      where
        else_some : (b : Bool) (o : Option Block) → (if b then None else o) ≡ Some block → o ≡ Some block
        else_some true o g = cc g
        else_some false o g = g

        apart : (seal r.dead (r.end + 1)).0 ≢ s
        apart same =
            let there = else_some (member s r.written) (value_at (later_writes r.dead r.end) s) (sym (ap (λ t. if member s r.written then None else value_at (stage_writes t r) s) is) ∙ is_wanted) in
            let f = later_found r.dead r.end s block there in
            first_apart r.dead r.end f.k f.few (same ∙ f.at)

    written_stage : (t : Stage) → r.stage ≡ t → AtStage t r → AtStage t (write_acknowledged s r)
    written_stage Replay is at = written_replay is at
    written_stage LaterSeals is at = written_later is at
    written_stage FirstSeal is at = record {
      replayed = record { looks = at.replayed.looks; writes = none_left (looked_writes r.looked) r.written s at.replayed.writes };
      unsealed = at.unsealed;
      later = none_left (later_writes r.dead r.end) r.written s at.later;
    }
    written_stage Over is at = over_apart at

    pub written_nearly : IsNearly (write_acknowledged s r)
    written_nearly = record {
      ordered = record {
        looks = k.ordered.looks;
        looked = k.ordered.looked;
        waiting = k.ordered.waiting;
        flying = ascend_without s r.flying k.ordered.flying;
        later = k.ordered.later;
        first = k.ordered.first;
      };
      few = k.few;
      server = k.server;
      holds = k.holds;
      greatest = k.greatest;
      looks = k.looks;
      waiting = waiting_acknowledged;
      flying = flying_acknowledged;
      stage = written_stage r.stage refl k.stage;
    }
