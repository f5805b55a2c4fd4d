-- What is kept of a replay that is tied to the slots read is what the recovery's definition asks: what is to look at, what is to write, and whether all is done.
use Rattle.std.proofs.Common.{◌≡◌, ℕ, ◌+◌, Bool, true, false, not, ◌&&◌, ◌||◌, if◌then◌else◌, cond, List, [], ◌∷◌, ◌++◌, append-nil, filter, map, None, is_some, refl, sym, ap, ◌∙◌}
use Rattle.std.proofs.lemmas.Bool.{and_parts, false≢true}
use Rattle.std.specs.List.{list_all}
use Rattle.std.specs.Map.{keys_of}
use Rattle.frang_base.specs.Functions.{member}
use Rattle.sector_bytes.specs.Blocks.{Block}
use Rattle.sector_bytes.specs.SectorMaps.{value_at}
use Rattle.disk_definitions.specs.Logs.{greatest_operation, is_sealed, log_end, log_records}
use Rattle.core_definitions.specs.Logs.{SlotsRead, end_of, is_none, is_read, is_sealed_by, later_seals, records_of}
use Rattle.core_definitions.specs.Recoveries.{Recovery, is_recovered, is_replay_done, recovery_writes, redos, replay_writes, to_look}
use Rattle.recovery_demon.specs.declared.stage.Stage.{Stage}
use Rattle.recovery_demon.specs.declared.stage.Stage.TheVariants.{Replay, LaterSeals, FirstSeal, Over}
use Rattle.recovery_demon.specs.Inside.{IsTied}
use Rattle.recovery_demon.specs.Replays.{AtFirst, AtLater, AtStage, IsNearly, Replaying, is_idle, is_over, left_of, looked_writes, stage_writes, wanted_at}
use Rattle.log_slots.specs.Reading.{are_all_read, log_rules, read_slots}
use Rattle.recovery_demon.specs.Rules.{first_writes, later_writes, named, seal}
use Rattle.log_slots.proofs.Maps.{filter_member, filter_sorted, keys_member, same_lists}
use Rattle.recovery_demon.proofs.NamedSectors.{named_sorted}
use Rattle.recovery_demon.proofs.Wanted.{left_at, nil_of, nothing_flies, nothing_waits}

-- ---- the rules are those of a disk

pub records_is : (slots : SlotsRead) → records_of log_rules slots ≡ log_records (read_slots slots)
unfolding log_rules
records_is slots = refl

end_is : (slots : SlotsRead) → end_of log_rules slots ≡ log_end (read_slots slots)
unfolding log_rules
end_is slots = refl

sealed_is : (slots : SlotsRead) → is_sealed_by log_rules slots ≡ is_sealed (read_slots slots)
unfolding log_rules
sealed_is slots = refl

read_is : (slots : SlotsRead) → are_all_read slots ≡ is_read log_rules slots
unfolding are_all_read
read_is slots = refl

-- ---- what a seal wants, by whether a number's write is acknowledged

abbrev sealed_at : ℕ → List ℕ → ℕ → Bool
sealed_at dead written number = member (seal dead number).0 written

seals_from : ℕ → List ℕ → ℕ → List ℕ
seals_from dead written end =
    filter (λ number. not (sealed_at dead written number)) (if list_all (sealed_at dead written) (later_seals log_rules end) then (end + 1) ∷ [] else later_seals log_rules end)

abbrev seals_of : ℕ → List ℕ → ℕ → Bool → List (ℕ × Block)
seals_of dead written end wanted = map (seal dead) (if wanted then seals_from dead written end else [])

-- the writes of a recovery, and whether it is through, by what is read of its log
writes_form : (segments : ℕ) (recovery : Recovery) →
    recovery_writes log_rules segments recovery ≡
    replay_writes recovery ++ seals_of recovery.dead recovery.written (end_of log_rules recovery.slots) (is_replay_done log_rules segments recovery && not (is_sealed_by log_rules recovery.slots))
unfolding seal seals_from
writes_form segments recovery = refl

done_form : (segments : ℕ) (recovery : Recovery) →
    is_recovered log_rules segments recovery ≡
    (is_replay_done log_rules segments recovery && (is_sealed_by log_rules recovery.slots || sealed_at recovery.dead recovery.written (end_of log_rules recovery.slots + 1)))
unfolding seal
done_form segments recovery = refl

-- ---- lists

mapped_left : (dead : ℕ) (written : List ℕ) (ns : List ℕ) → map (seal dead) (filter (λ n. not (sealed_at dead written n)) ns) ≡ left_of (map (seal dead) ns) written
mapped_left dead written [] = refl
mapped_left dead written (n ∷ ns) = go (sealed_at dead written n) (mapped_left dead written ns)
  where
    go : (b : Bool) → map (seal dead) (filter (λ n. not (sealed_at dead written n)) ns) ≡ left_of (map (seal dead) ns) written →
        map (seal dead) (cond (not b) (n ∷ filter (λ n. not (sealed_at dead written n)) ns) (filter (λ n. not (sealed_at dead written n)) ns)) ≡
        cond (not b) (seal dead n ∷ left_of (map (seal dead) ns) written) (left_of (map (seal dead) ns) written)
    go true rest = rest
    go false rest = ap (λ ws. seal dead n ∷ ws) rest

-- none is left exactly where all pass
all_from_none : (dead : ℕ) (written : List ℕ) (ns : List ℕ) → left_of (map (seal dead) ns) written ≡ [] → list_all (sealed_at dead written) ns ≡ true
all_from_none dead written [] e = refl
all_from_none dead written (n ∷ ns) e = go (sealed_at dead written n) e (all_from_none dead written ns)
  where
    go : (b : Bool) → cond (not b) (seal dead n ∷ left_of (map (seal dead) ns) written) (left_of (map (seal dead) ns) written) ≡ [] →
        (left_of (map (seal dead) ns) written ≡ [] → list_all (sealed_at dead written) ns ≡ true) → (b && list_all (sealed_at dead written) ns) ≡ true
    go true e rest = rest e
    go false e rest = cc e

none_from_all : (dead : ℕ) (written : List ℕ) (ns : List ℕ) → list_all (sealed_at dead written) ns ≡ true → left_of (map (seal dead) ns) written ≡ []
none_from_all dead written [] e = refl
none_from_all dead written (n ∷ ns) e = go (sealed_at dead written n) e (none_from_all dead written ns)
  where
    go : (b : Bool) → (b && list_all (sealed_at dead written) ns) ≡ true → (list_all (sealed_at dead written) ns ≡ true → left_of (map (seal dead) ns) written ≡ []) →
        cond (not b) (seal dead n ∷ left_of (map (seal dead) ns) written) (left_of (map (seal dead) ns) written) ≡ []
    go true e rest = rest e
    go false e rest = absurd (false≢true e)

nil_keys : {V : Type 0} (es : List (ℕ × V)) → keys_of es ≡ [] → es ≡ []
nil_keys [] e = refl
nil_keys (x ∷ es) e = cc e

nil_is_none : {X : Type 0} (xs : List X) → xs ≡ [] → is_none xs ≡ true
nil_is_none xs e = ap is_none e

by_bool : (b : Bool) → (b ≡ true → false ≡ true) → b ≡ false
by_bool true h = absurd (false≢true (h refl))
by_bool false h = refl

later_is : (dead end : ℕ) → later_writes dead end ≡ map (seal dead) (later_seals log_rules end)
unfolding later_writes
later_is dead end = refl

module _ (dead segments : ℕ) (slots : SlotsRead) (r : Replaying) (tied : IsTied dead segments slots r) where
  n : IsNearly r
  n = tied.kept.nearly

  abbrev R : Recovery
  R = record { dead = dead; slots = slots; looked = r.looked; written = r.written }

  -- ---- what is to look at

  abbrev passes : ℕ → Bool
  passes sector = not (is_some (value_at r.looked sector))

  left_named : keys_of r.looks ≡ filter passes (named r.segments r.records)
  left_named = same_lists (keys_of r.looks) (filter passes (named r.segments r.records)) n.ordered.looks (filter_sorted passes (named r.segments r.records) (named_sorted r.segments r.records))
      (λ s. keys_member r.looks s ∙ n.looks s ∙ sym (filter_member passes s (named r.segments r.records)))

  named_is : named r.segments r.records ≡ named segments (redos log_rules R)
  named_is = ap (λ count. named count r.records) tied.opened.segments ∙ ap (named segments) (tied.opened.records ∙ sym (records_is slots))

  to_look_is : filter passes (named segments (redos log_rules R)) ≡ to_look log_rules segments R
  unfolding named
  to_look_is = sym (ap (λ b. if b then filter passes (named segments (redos log_rules R)) else []) (sym (read_is slots) ∙ tied.read))

  pub looks_are : keys_of r.looks ≡ to_look log_rules segments R
  looks_are = left_named ∙ ap (filter passes) named_is ∙ to_look_is

  -- ---- whether the replay is done

  done_is : is_replay_done log_rules segments R ≡ (is_none (keys_of r.looks) && is_none (left_of (looked_writes r.looked) r.written))
  done_is =
      ap (λ b. b && is_none (to_look log_rules segments R) && is_none (left_of (looked_writes r.looked) r.written)) (sym (read_is slots) ∙ tied.read)
      ∙ ap (λ xs. is_none xs && is_none (left_of (looked_writes r.looked) r.written)) (sym looks_are)

  idle_with : r.looks ≡ [] → r.waiting ≡ [] → r.flying ≡ [] → is_idle r ≡ true
  idle_with l w f = ap (λ xs. is_none xs && is_none r.waiting && is_none r.flying) l ∙ ap (λ xs. is_none xs && is_none r.flying) w ∙ ap is_none f

  -- nothing is left of the writes of the stage: nothing waits and nothing is issued
  stage_left : (s : Stage) → r.stage ≡ s → (x : ℕ) → value_at (left_of (stage_writes s r) r.written) x ≡ wanted_at r x
  stage_left s is x = left_at (stage_writes s r) r.written x ∙ ap (λ t. if member x r.written then None else value_at (stage_writes t r) x) (sym is)

  idle_from : (s : Stage) → r.stage ≡ s → r.looks ≡ [] → left_of (stage_writes s r) r.written ≡ [] → is_idle r ≡ true
  idle_from s is l e = idle_with l
      (nothing_waits (wanted_at r) r.waiting r.flying (left_of (stage_writes s r) r.written) (stage_left s is) n.waiting e)
      (nothing_flies (wanted_at r) r.waiting r.flying (left_of (stage_writes s r) r.written) (stage_left s is) n.flying e)

  busy : (s : Stage) → r.stage ≡ s → is_over s ≡ false → is_idle r ≡ false
  busy s is e = tied.kept.idle ∙ ap is_over is ∙ e

  undone : r.stage ≡ Replay → is_replay_done log_rules segments R ≡ false
  undone is = by_bool (is_replay_done log_rules segments R) (λ e.
      let both = and_parts (is_none (keys_of r.looks)) (is_none (left_of (looked_writes r.looked) r.written)) (sym done_is ∙ e) in
      sym (busy Replay is refl) ∙ idle_from Replay is (nil_keys r.looks (nil_of (keys_of r.looks) both.0)) (nil_of (left_of (looked_writes r.looked) r.written) both.1))

  done_from : r.looks ≡ [] → left_of (looked_writes r.looked) r.written ≡ [] → is_replay_done log_rules segments R ≡ true
  done_from l w = done_is ∙ ap (λ xs. is_none (keys_of xs) && is_none (left_of (looked_writes r.looked) r.written)) l ∙ ap is_none w

  -- ---- what is to write

  abbrev replayed : List (ℕ × Block)
  replayed = left_of (looked_writes r.looked) r.written

  -- by whether the replay is done and the log sealed
  writes_by : (done sealed : Bool) → is_replay_done log_rules segments R ≡ done → r.sealed ≡ sealed → recovery_writes log_rules segments R ≡ replayed ++ seals_of r.dead r.written r.end (done && not sealed)
  writes_by done sealed d s =
      writes_form segments R
      ∙ ap (λ b. replayed ++ seals_of dead r.written (end_of log_rules slots) (b && not (is_sealed_by log_rules slots))) d
      ∙ ap (λ b. replayed ++ seals_of dead r.written (end_of log_rules slots) (done && not b)) (sealed_is slots ∙ sym tied.opened.sealed ∙ s)
      ∙ ap (λ e. replayed ++ seals_of dead r.written e (done && not sealed)) (end_is slots ∙ sym tied.opened.end)
      ∙ ap (λ a. replayed ++ seals_of a r.written r.end (done && not sealed)) (sym tied.opened.dead)

  none_before : replayed ≡ [] → (xs : List (ℕ × Block)) → replayed ++ xs ≡ xs
  none_before e xs = ap (λ ws. ws ++ xs) e

  abbrev later : List ℕ
  later = later_seals log_rules r.end

  seals_later : list_all (sealed_at r.dead r.written) (later_seals log_rules r.end) ≡ false → seals_of r.dead r.written r.end true ≡ left_of (later_writes r.dead r.end) r.written
  unfolding seals_from
  seals_later e =
      ap (λ b. map (seal r.dead) (filter (λ k. not (sealed_at r.dead r.written k)) (if b then (r.end + 1) ∷ [] else later_seals log_rules r.end))) e
      ∙ mapped_left r.dead r.written (later_seals log_rules r.end) ∙ ap (λ ws. left_of ws r.written) (sym (later_is r.dead r.end))

  seals_first : list_all (sealed_at r.dead r.written) (later_seals log_rules r.end) ≡ true → seals_of r.dead r.written r.end true ≡ left_of (first_writes r.dead r.end) r.written
  unfolding seals_from
  seals_first e =
      ap (λ b. map (seal r.dead) (filter (λ k. not (sealed_at r.dead r.written k)) (if b then (r.end + 1) ∷ [] else later_seals log_rules r.end))) e
      ∙ mapped_left r.dead r.written ((r.end + 1) ∷ [])

  later_all : left_of (later_writes r.dead r.end) r.written ≡ [] → list_all (sealed_at r.dead r.written) (later_seals log_rules r.end) ≡ true
  later_all e = all_from_none r.dead r.written (later_seals log_rules r.end) (ap (λ ws. left_of ws r.written) (sym (later_is r.dead r.end)) ∙ e)

  later_open : r.stage ≡ LaterSeals → AtLater r → list_all (sealed_at r.dead r.written) (later_seals log_rules r.end) ≡ false
  later_open is at = by_bool (list_all (sealed_at r.dead r.written) (later_seals log_rules r.end)) (λ e.
      sym (busy LaterSeals is refl)
      ∙ idle_from LaterSeals is at.replayed.looks (ap (λ ws. left_of ws r.written) (later_is r.dead r.end) ∙ none_from_all r.dead r.written (later_seals log_rules r.end) e))

  writes_at : (s : Stage) → r.stage ≡ s → AtStage s r → recovery_writes log_rules segments R ≡ left_of (stage_writes s r) r.written
  writes_at Replay is at = writes_by false r.sealed (undone is) refl ∙ append-nil replayed
  writes_at LaterSeals is at =
      writes_by true false (done_from at.replayed.looks at.replayed.writes) at.unsealed ∙ none_before at.replayed.writes (seals_of r.dead r.written r.end true) ∙ seals_later (later_open is at)
  writes_at FirstSeal is at =
      writes_by true false (done_from at.replayed.looks at.replayed.writes) at.unsealed ∙ none_before at.replayed.writes (seals_of r.dead r.written r.end true) ∙ seals_first (later_all at.later)
  writes_at Over is at = go r.sealed refl
    where
      go : (sealed : Bool) → r.sealed ≡ sealed → recovery_writes log_rules segments R ≡ []
      go true e = writes_by true true (done_from at.replayed.looks at.replayed.writes) e ∙ none_before at.replayed.writes []
      go false e =
          writes_by true false (done_from at.replayed.looks at.replayed.writes) e ∙ none_before at.replayed.writes (seals_of r.dead r.written r.end true) ∙ seals_first (later_all (at.later e)) ∙ at.first e

  -- what the definition wants written at a sector
  pub writes_are : (x : ℕ) → value_at (recovery_writes log_rules segments R) x ≡ wanted_at r x
  writes_are x = ap (λ ws. value_at ws x) (writes_at r.stage refl n.stage) ∙ stage_left r.stage refl x

  -- ---- whether all is done

  through_by : (done sealed : Bool) → is_replay_done log_rules segments R ≡ done → r.sealed ≡ sealed → is_recovered log_rules segments R ≡ (done && (sealed || sealed_at r.dead r.written (r.end + 1)))
  through_by done sealed d s =
      done_form segments R
      ∙ ap (λ b. b && (is_sealed_by log_rules slots || sealed_at dead r.written (end_of log_rules slots + 1))) d
      ∙ ap (λ b. done && (b || sealed_at dead r.written (end_of log_rules slots + 1))) (sealed_is slots ∙ sym tied.opened.sealed ∙ s)
      ∙ ap (λ e. done && (sealed || sealed_at dead r.written (e + 1))) (end_is slots ∙ sym tied.opened.end)
      ∙ ap (λ a. done && (sealed || sealed_at a r.written (r.end + 1))) (sym tied.opened.dead)

  first_open : r.stage ≡ FirstSeal → AtFirst r → sealed_at r.dead r.written (r.end + 1) ≡ false
  first_open is at = by_bool (sealed_at r.dead r.written (r.end + 1)) (λ e.
      sym (busy FirstSeal is refl)
      ∙ idle_from FirstSeal is at.replayed.looks (none_from_all r.dead r.written ((r.end + 1) ∷ []) (ap (λ b. b && true) e)))

  first_all : left_of (first_writes r.dead r.end) r.written ≡ [] → sealed_at r.dead r.written (r.end + 1) ≡ true
  first_all e = (and_parts (sealed_at r.dead r.written (r.end + 1)) true (all_from_none r.dead r.written ((r.end + 1) ∷ []) e)).0

  through_at : (s : Stage) → r.stage ≡ s → AtStage s r → is_recovered log_rules segments R ≡ is_over s
  through_at Replay is at = through_by false r.sealed (undone is) refl
  through_at LaterSeals is at = through_by true false (done_from at.replayed.looks at.replayed.writes) at.unsealed ∙ at.apart
  through_at FirstSeal is at = through_by true false (done_from at.replayed.looks at.replayed.writes) at.unsealed ∙ first_open is at
  through_at Over is at = go r.sealed refl
    where
      go : (sealed : Bool) → r.sealed ≡ sealed → is_recovered log_rules segments R ≡ true
      go true e = through_by true true (done_from at.replayed.looks at.replayed.writes) e
      go false e = through_by true false (done_from at.replayed.looks at.replayed.writes) e ∙ first_all (at.first e)

  pub through_is : is_recovered log_rules segments R ≡ is_over r.stage
  through_is = through_at r.stage refl n.stage

  pub greatest_is : greatest_operation (redos log_rules R) ≡ r.greatest
  greatest_is = ap greatest_operation (records_is slots ∙ sym tied.opened.records) ∙ sym n.greatest
