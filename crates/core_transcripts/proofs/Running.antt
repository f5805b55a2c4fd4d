-- Over every run the lines said are a transcript of the script, but for which lines of the tree they are: step by step.
use Rattle.std.proofs.Common.{ℕ, ◌≡◌, ◌≤◌, inl, Bool, true, false, not, ◌&&◌, ◌||◌, ◌==◌, if◌then◌else◌, IsTrue, List, [], ◌∷◌, ◌++◌, length, nat_eq, refl, sym, ap, ◌∙◌, subst}
use Rattle.std.proofs.lemmas.Bool.{false≢true, not-true, and_parts, or_left, or_right, eqb-true, both_ways}
use Rattle.std.proofs.lemmas.List.Elements.{filter_map-append}
use Rattle.std.specs.List.{list_any}
use Rattle.std.proofs.lemmas.Option.{none-some}
use Rattle.frang_base.specs.Functions.{put}
use Rattle.frang_base.specs.declared.said.Said.{Said}
use Rattle.frang_base.specs.declared.said.Said.TheVariants as said
use Rattle.frang_base.specs.declared.script.Line.{Line}
use Rattle.sector_bytes.specs.Sectors.{Sectors}
use Rattle.tree_definitions.specs.History.{Opening}
use Rattle.tree_definitions.specs.Transcript.{Faults, ServerState, after_said, dirty_after, dirty_from, goes_on as lines_on, is_node, is_over, lines_for, may_be_dirty, state_of}
use Rattle.core_definitions.specs.Flights.{has_flights}
use Rattle.core_definitions.specs.Servers.{is_dead, is_off, is_still, is_up, wanting_all_up}
use Rattle.core_definitions.specs.Settings.{Setting}
use Rattle.core_definitions.specs.Cores.{Core, clean_at, first_core}
use Rattle.core_definitions.specs.Events.{Event, Heard}
use Rattle.core_definitions.specs.LineGuards.{is_server}
use Rattle.core_definitions.specs.Effects.{Deed, Says, after, deeds_of}
use Rattle.core_definitions.specs.Runs.{State, Step, Event_, Enter, Hold, Flush, Relock, Note, Peek, PeekFails, Run, Stays, Goes, Makes, first_state, goes_on, is_note, said_by, saids_of}
use Rattle.core_definitions.specs.Faults.{failing, fails_at}
use Rattle.core_laws.proofs.Kept.{setting_kept}
use Rattle.core_laws.specs.Facts.{OffHasNoFlights}
use Rattle.core_laws.proofs.Resting.{good_of_run}
use Rattle.core_laws.proofs.Along.{longer}
use Rattle.core_transcripts.specs.Faults.{CountsAt, CountsEach, place_of}
use Rattle.core_transcripts.specs.Transcripts.{EachMay, IsNumbered, MaySayButTree}
use Rattle.core_transcripts.proofs.Blank.{IsBlank, Keeps, blank_is_clean, is_changing}
use Rattle.core_transcripts.proofs.Blanking.{wanting_kept}
use Rattle.core_transcripts.proofs.Fits.{key_of, rises}
use Rattle.core_transcripts.proofs.Fitting.{ended_so, same_key, told_of}
use Rattle.core_transcripts.proofs.Happening.{CoreFits, Turn, Quiet, Speaks}
use Rattle.core_transcripts.proofs.Lives.{still_idle}
use Rattle.core_transcripts.proofs.Numbering.{none_marked}
use Rattle.core_transcripts.proofs.Saying.{dirty_push, each_push, state_push}
use Rattle.core_transcripts.proofs.Spoken.{IsLife, life_fitting, told_rises}
use Rattle.core_transcripts.proofs.Spotless.{Spotless, event_so}
use Rattle.core_transcripts.proofs.Steady.{wanting_steady}
use Rattle.core_transcripts.proofs.Turning.{event_turn}
use Rattle.core_transcripts.proofs.Due.{nil_right}

-- ---- lists of deeds

pub said_more : (xs ys : List Deed) → saids_of (xs ++ ys) ≡ saids_of xs ++ saids_of ys
said_more xs ys = filter_map-append said_by xs ys

dirty_more : (script : List Line) (i : ℕ) (d : Bool) (xs ys : List Said) → dirty_from script i d (xs ++ ys) ≡ dirty_from script i (dirty_from script i d xs) ys
dirty_more script i d [] ys = refl
dirty_more script i d (x ∷ xs) ys = dirty_more script i (dirty_after script i d x) xs ys

-- ---- what holds at every moment

module _ (opening : Opening) (setting : Setting) (disk : Sectors) (numbered : IsNumbered setting.script) (f : Faults)
    (stay : (early late server : ℕ) → early ≤ late → f early server ≡ true → f late server ≡ true) (ashore : OffHasNoFlights) where
  abbrev Rule : List Said → Said → Type 0
  Rule = MaySayButTree setting.script opening f

  abbrev SpotlessAt : List Said → Core → Type 0
  SpotlessAt saids c = Spotless (λ i. may_be_dirty setting.script i saids) c.servers c.flights

  pub record Holds (saids : List Said) (c : Core) : Type 0 where
    pub same : c.setting ≡ setting
    pub said_so : EachMay Rule [] saids
    pub fits : CoreFits setting.script f saids c
    pub spotless : SpotlessAt saids c

  -- ---- an event
  module _ (s : State) (before : Run (first_state setting disk) s) (h : Holds (saids_of s.record_) s.core) where
    abbrev saids : List Said
    saids = saids_of s.record_

    own_numbered : IsNumbered s.core.setting.script
    own_numbered = subst (λ z. IsNumbered z.script) (sym h.same) numbered

    own_fits : CoreFits s.core.setting.script f saids s.core
    own_fits = subst (λ z. CoreFits z.script f saids s.core) (sym h.same) h.fits

    own_spotless : Spotless (λ i. may_be_dirty s.core.setting.script i saids) s.core.servers s.core.flights
    own_spotless = subst (λ z. Spotless (λ i. may_be_dirty z.script i saids) s.core.servers s.core.flights) (sym h.same) h.spotless

    lands : (i : ℕ) → IsTrue (is_server i) → IsTrue (is_off (s.core.servers i).phase) → has_flights s.core.flights i ≡ false
    lands i server off = ashore setting disk s before i server (or_left (is_off (s.core.servers i).phase) (is_dead (s.core.servers i).phase) off)

    -- a stalled server that isn't clean may be dirty
    pub still_is_dirty : (a : ℕ) → IsTrue (is_server a) → IsTrue (is_still (s.core.servers a).phase) → IsTrue (not (clean_at s.core a)) → IsTrue (may_be_dirty setting.script a saids)
    still_is_dirty a server still unclean = go (may_be_dirty setting.script a saids) refl
      where
        no_line : is_changing (s.core.servers a).under ≡ false
        no_line = still_idle (s.core.servers a) (told_of setting.script f saids s.core.answered a) still (h.fits.servers a)

        clean_so : IsBlank (s.core.servers a) (has_flights s.core.flights a) → clean_at s.core a ≡ true
        clean_so b = blank_is_clean s.core a b

        go : (d : Bool) → may_be_dirty setting.script a saids ≡ d → IsTrue d
        go true e = refl
        go false e =
            let b : IsBlank (s.core.servers a) (has_flights s.core.flights a) =
            h.spotless a (record { mounted = or_right (is_up (s.core.servers a).phase) (is_still (s.core.servers a).phase) still; clean_ = ap (λ d. d || is_changing (s.core.servers a).under) e ∙ no_line }) in
            absurd (both_ways (clean_at s.core a) (not-true (clean_at s.core a) unclean) (clean_so b))

    lease : (a : ℕ) → IsTrue (is_server a) → IsTrue (is_still (s.core.servers a).phase) → IsTrue (not (clean_at s.core a)) → IsTrue (may_be_dirty s.core.setting.script a saids || f (length saids) a)
    lease a server still unclean =
        or_left (may_be_dirty s.core.setting.script a saids) (f (length saids) a) (subst (λ z. IsTrue (may_be_dirty z.script a saids)) (sym h.same) (still_is_dirty a server still unclean))

    event_holds : (event : Event) (heard : Heard) → Makes s event heard → CountsAt f (length saids) (failing s.core event heard) →
        Holds (saids_of (s.record_ ++ deeds_of s.core event heard)) (after s.core event heard)
    event_holds event heard makes counts =
        by_turn
        (event_turn opening f stay s.core saids own_numbered (not-true s.core.over makes.can.going) own_fits (good_of_run setting disk s before) lease event heard s.disk makes.can.can makes.hears counts)
      where
        later : Core
        later = after s.core event heard

        same_then : later.setting ≡ setting
        same_then = setting_kept s.core event heard ∙ h.same

        spotless_then : SpotlessAt (saids_of (s.record_ ++ deeds_of s.core event heard)) (after s.core event heard)
        spotless_then =
            subst (λ ss. SpotlessAt ss (after s.core event heard)) (sym (said_more s.record_ (deeds_of s.core event heard)))
            (λ i. subst (λ d. Keeps d ((after s.core event heard).servers i) (has_flights (after s.core event heard).flights i)) (sym (dirty_more setting.script i false saids (saids_of (deeds_of s.core event heard))))
            (subst (λ z. Keeps (dirty_from z.script i (may_be_dirty z.script i saids) (saids_of (deeds_of s.core event heard))) ((after s.core event heard).servers i) (has_flights (after s.core event heard).flights i)) h.same
            (event_so f s.core saids own_numbered own_fits lands (λ i. may_be_dirty s.core.setting.script i saids) own_spotless event heard makes.can.can i)))

        by_turn : Turn (MaySayButTree s.core.setting.script opening f) s.core.setting.script f saids (deeds_of s.core event heard) (after s.core event heard) →
            Holds (saids_of (s.record_ ++ deeds_of s.core event heard)) (after s.core event heard)
        by_turn (Quiet none fits) =
            let e : saids_of (s.record_ ++ deeds_of s.core event heard) ≡ saids = said_more s.record_ (deeds_of s.core event heard) ∙ ap (λ ys. saids ++ ys) none ∙ nil_right saids in
            record {
              same = same_then;
              said_so = subst (λ ss. EachMay Rule [] ss) (sym e) h.said_so;
              fits = subst (λ ss. CoreFits setting.script f ss (after s.core event heard)) (sym e) (subst (λ z. CoreFits z.script f saids (after s.core event heard)) h.same fits);
              spotless = spotless_then;
            }
        by_turn (Speaks x says may fits) =
            let e : saids_of (s.record_ ++ deeds_of s.core event heard) ≡ saids ++ x ∷ [] = said_more s.record_ (deeds_of s.core event heard) ∙ ap (λ ys. saids ++ ys) says in
            record {
              same = same_then;
              said_so = subst (λ ss. EachMay Rule [] ss) (sym e) (each_push Rule [] saids x h.said_so (subst (λ z. MaySayButTree z.script opening f saids x) h.same may));
              fits = subst (λ ss. CoreFits setting.script f ss (after s.core event heard)) (sym e) (subst (λ z. CoreFits z.script f (saids ++ x ∷ []) (after s.core event heard)) h.same fits);
              spotless = spotless_then;
            }

    -- ---- the other steps
    flush_holds : (a : ℕ) → Holds saids (record s.core { servers = put s.core.servers a (wanting_all_up (s.core.servers a)) })
    flush_holds a = record {
      same = h.same;
      said_so = h.said_so;
      fits = same_key setting.script f saids s.core.answered s.core.over s.core.shown s.core.servers a (wanting_all_up (s.core.servers a)) (wanting_steady (s.core.servers a)) h.fits;
      spotless = λ i. go i (nat_eq i a) refl;
    }
      where
        go : (i : ℕ) (b : Bool) → nat_eq i a ≡ b → Keeps (may_be_dirty setting.script i saids) (if b then wanting_all_up (s.core.servers a) else s.core.servers i) (has_flights s.core.flights i)
        go i true e =
            subst (λ j. Keeps (may_be_dirty setting.script j saids) (wanting_all_up (s.core.servers a)) (has_flights s.core.flights j)) (sym (eqb-true i a e))
            (wanting_kept (may_be_dirty setting.script a saids) (s.core.servers a) (has_flights s.core.flights a) (h.spotless a))
        go i false e = h.spotless i

    -- a note is said while lines go on
    note_fits : (x : Said) → IsLife setting.script numbered.apart f stay saids (λ i. key_of (s.core.servers i)) s.core.answered s.core.over s.core.shown h.fits x →
        ((i : ℕ) (t : ServerState) → after_said setting.script i (f (length saids) i) t x ≡ t) → ((i : ℕ) (d : Bool) → dirty_after setting.script i d x ≡ d) →
        Rule saids x → Holds (saids ++ x ∷ []) s.core
    note_fits x life told dirty may = record {
      same = h.same;
      said_so = each_push Rule [] saids x h.said_so may;
      fits =
          life_fitting setting.script numbered.apart f stay saids (λ i. key_of (s.core.servers i)) s.core.answered s.core.over s.core.shown h.fits x life (λ i. key_of (s.core.servers i))
          (λ i. rises (key_of (s.core.servers i)) (told_of setting.script f saids s.core.answered i) (told_of setting.script f (saids ++ x ∷ []) s.core.answered i)
          (told_rises setting.script numbered.apart f stay saids (λ i. key_of (s.core.servers i)) s.core.answered s.core.over s.core.shown h.fits x life i (told i (state_of setting.script f i saids))
          (λ d. subst (λ b. IsTrue b) (sym (dirty i (may_be_dirty setting.script i saids))) d)) (h.fits.servers i))
          (λ i d w e. ap (λ z. z.under_recovery) (state_push setting.script f d saids x ∙ told d (state_of setting.script f d saids)) ∙ h.fits.rescues i d w e) (λ i o. o);
      spotless = λ i. subst (λ d. Keeps d (s.core.servers i) (has_flights s.core.flights i)) (sym (dirty_push setting.script i saids x ∙ dirty i (may_be_dirty setting.script i saids))) (h.spotless i);
    }

    note_holds : (x : Said) → IsTrue (is_note x && goes_on s.core) → Holds (saids_of (s.record_ ++ Says x ∷ [])) s.core
    note_holds x may = subst (λ ss. Holds ss s.core) (sym (said_more s.record_ (Says x ∷ []))) (by_line x (and_parts (is_note x) (goes_on s.core) may).0)
      where
        negated : (a b : Bool) → a ≡ false → b ≡ false → IsTrue (not a && not b)
        negated true b e h = absurd (false≢true (sym e))
        negated false true e h = absurd (false≢true (sym h))
        negated false false e h = refl

        goes : IsTrue (goes_on s.core)
        goes = (and_parts (is_note x) (goes_on s.core) may).1

        on : IsTrue (lines_on setting.script saids)
        on =
            negated (is_over setting.script saids) (list_any is_node saids) (h.fits.going (not-true s.core.over (and_parts (not s.core.over) (s.core.shown == 0) goes).0))
            (h.fits.unshown (eqb-true s.core.shown 0 (and_parts (not s.core.over) (s.core.shown == 0) goes).1))

        by_line : (y : Said) → IsTrue (is_note y) → Holds (saids ++ y ∷ []) s.core
        by_line (said.Backup line) n =
            note_fits (said.Backup line) (record { answers_none = λ n. refl; of_none = λ who. refl; halts_none = refl; ends_not = refl; tells_none = refl }) (λ i t. refl) (λ i d. refl) on
        by_line (said.Locks line) n =
            note_fits (said.Locks line) (record { answers_none = λ n. refl; of_none = λ who. refl; halts_none = refl; ends_not = refl; tells_none = refl }) (λ i t. refl) (λ i d. refl) on
        by_line y n = absurd (false≢true n)

    step_holds : (v : State) (step : Step s v) → CountsAt f (place_of s) (fails_at s v step) → Holds (saids_of v.record_) v.core
    step_holds v (Event_ event heard makes) counts = event_holds event heard makes counts
    step_holds v (Enter a line can) counts = record { same = h.same; said_so = h.said_so; fits = h.fits; spotless = h.spotless }
    step_holds v (Hold a on may) counts = record { same = h.same; said_so = h.said_so; fits = h.fits; spotless = h.spotless }
    step_holds v (Flush a may) counts = flush_holds a
    step_holds v (Relock locks going are same wait) counts = record { same = h.same; said_so = h.said_so; fits = h.fits; spotless = h.spotless }
    step_holds v (Note line may) counts = note_holds line may
    step_holds v (Peek sector going) counts = h
    step_holds v (PeekFails sector going) counts =
        record {
          same = h.same;
          said_so = h.said_so;
          fits = ended_so setting.script f saids (λ i. key_of (s.core.servers i)) s.core.answered s.core.over s.core.shown h.fits;
          spotless = h.spotless;
        }

  -- ---- runs
  run_holds : (s v : State) → Run (first_state setting disk) s → (run : Run s v) → CountsEach f s v run → Holds (saids_of s.record_) s.core → Holds (saids_of v.record_) v.core
  run_holds s v before Stays counts h = h
  run_holds s w before (Goes {v = v} step run) counts h =
      run_holds v w (longer (first_state setting disk) s v before step) run counts.1 (step_holds s before h v step counts.0)

  first_holds : Holds [] (first_core setting)
  first_holds = record {
    same = refl;
    said_so = tt;
    fits = record {
      servers = λ i. record { phase = tt; owing = tt; calm = refl; armed = refl; failed = refl; doomed = tt; under = tt };
      rescues = λ i d w e. absurd (none-some d e);
      marks = λ n. refl;
      firsts = λ who. none_marked (lines_for who setting.script) (λ n. false) (λ n. refl);
      going = λ e. refl;
      unshown = λ e. refl;
      resting = inl refl;
      host = refl;
    };
    spotless = λ i s. absurd (false≢true s.mounted);
  }

  pub holds_of_run : (s : State) (run : Run (first_state setting disk) s) → CountsEach f (first_state setting disk) s run → Holds (saids_of s.record_) s.core
  holds_of_run s run counts = run_holds (first_state setting disk) s Stays run counts first_holds

  pub said_of_run : (s : State) (run : Run (first_state setting disk) s) → CountsEach f (first_state setting disk) s run → EachMay Rule [] (saids_of s.record_)
  said_of_run s run counts = (holds_of_run s run counts).said_so
