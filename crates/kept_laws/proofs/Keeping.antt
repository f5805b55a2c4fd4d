-- Where each later deed hides what a recovery removes, and none makes it sure, the recovery removes nothing that is seen or synced: deed by deed, from the last mount on.
use Rattle.std.proofs.Common.{ℕ, ◌≡◌, ◌≤◌, ◌<◌, ◌==◌, ◌&&◌, ◌||◌, not, Bool, true, false, List, [], ◌∷◌, ◌++◌, refl, sym, ◌∙◌, ap}
use Rattle.std.specs.List.{list_any}
use Rattle.std.proofs.lemmas.Bool.{eqb-true}
use Rattle.tree_definitions.specs.declared.history.Entry.{Entry}
use Rattle.tree_definitions.specs.History.{InDoubt, Settled, Stays, after}
use Rattle.tree_definitions.specs.Removal.{begins_removal, keeps_known, mounts}
use Rattle.tree_definitions.specs.Touched.{changed, changes_room, is_mounted, is_ok, is_sync, is_unmount}
use Rattle.tree_definitions.specs.Tree.{FileTree}
use Rattle.tree_laws.specs.Syncing.{stalled_along}
use Rattle.known_laws.specs.Knowing.{are_hidden_from_cut, is_foreign, is_hidden, is_refused, makes_sure, removes_some, step_touches}
use Rattle.known_laws.proofs.Hiding.{from_cut_more, hidden_mounted, no_answer_hidden}
use Rattle.known_laws.proofs.Knowing.{known_stays, mounted_known}
use Rattle.sector_bytes.specs.Blocks.{Block}
use Rattle.sector_world.specs.Histories.{Commit, Each, OpsRise, is_own}
use Rattle.sector_world.specs.Histories.Item.{Done}
use Rattle.sector_world.specs.Plans.{Legal}
use Rattle.sector_world.specs.Seen.{IsLost}
use Rattle.sector_world.specs.Trees.{Distinct}
use Rattle.line_histories.specs.LinePlans.{sector_plan}
use Rattle.line_histories.specs.Standing.{StandsNumbered}
use Rattle.line_histories.specs.Trees.{AreTimes, MayNumber}
use Rattle.line_histories.proofs.Runs.{numbered}
use Rattle.byte_trees.specs.Deeds.{Deed, Does, Says, Doubts, items, step_of, steps, tree_after}
use Rattle.stop_laws.specs.Happened.{has_lost}
use Rattle.stop_laws.specs.Paired.{AreKeptSinceMount, AreLines, BeginsWithARecord}
use Rattle.stop_laws.specs.Sure.{AllSure}
use Rattle.stop_laws.proofs.Alone.{leaving_is_none}
use Rattle.stop_laws.proofs.Histories.{no_record}
use Rattle.stop_laws.proofs.Leaving.{is_cut}
use Rattle.stop_laws.proofs.Lines.{records_are_losses}
use Rattle.stop_laws.proofs.Staying.{AllAsked, above_too, own_above, stay_alike}
use Rattle.kept_laws.specs.Hidden.{AllHide, HiddenDeedsMayGo, HidesLost}

-- ---- what the landed law on removals asks of each deed

module _ (segments : ℕ) (when : ℕ → ℕ) (opening : ℕ → Block) (first : FileTree) (numbers : List ℕ) (times : AreTimes when)
    (begins : StandsNumbered segments opening (numbered first numbers)) (server greatest durable : ℕ) where
  pub all_asked : (deeds : List Deed) → Legal (sector_plan segments when) opening (items deeds) → Distinct (MayNumber numbers) first (items deeds) → AreLines when deeds →
      AllSure server durable deeds → AllAsked server greatest durable first deeds
  all_asked [] legal distinct lines sure = tt
  all_asked (Does c e ∷ older) legal distinct lines sure = (
    lines.0.by,
    lines.0.number,
    lines.0.no_mount,
    records_are_losses segments when opening first numbers times begins c e older legal distinct lines,
    all_asked older legal.1 distinct.2 lines.1 sure,
  )
  all_asked (Says e ∷ older) legal distinct lines sure = (no_record (tree_after first older) e lines.0, low, all_asked older legal distinct lines.1 sure.1)
    where
      -- a mount says that all is synced
      low : is_mounted e.reply ≡ true → e.server.0 ≡ server → Each (λ c. c.by ≡ server → c.op ≤ durable) (items older)
      low is own =
          sure.0 own (ap (λ b. b || (is_sync e.op && is_ok e.reply) || (is_unmount e.op && is_ok e.reply && not (stalled_along server false (steps older)))) is)
  all_asked (Doubts marked runs ∷ older) legal distinct lines sure = all_asked older legal distinct lines sure

-- ---- what goes was hidden

module _ (when : ℕ → ℕ) (server greatest durable : ℕ) (first : FileTree) (within : greatest ≤ durable) where
  removes_is : (t : FileTree) (list : List Settled) → removes_some server greatest t list ≡ is_cut server greatest t list
  removes_is t [] = refl
  removes_is t (x ∷ rest) = ap (λ b. begins_removal server greatest t x rest || b) (removes_is (after t x) rest)

  -- what is asked of deeds, of their log only since the server's last mount
  pub record AreAsked (deeds : List Deed) : Type 0 where
    pub told : AllAsked server greatest durable first deeds
    pub rises : OpsRise (items deeds)
    pub records : AreKeptSinceMount server greatest durable deeds
    pub begins : BeginsWithARecord server durable (items deeds)

  some_lost : (deeds : List Deed) → AreAsked deeds → removes_some server greatest first (steps deeds) ≡ true → has_lost server durable deeds ≡ true
  some_lost deeds asked some =
      sym (stay_alike server greatest durable first deeds asked.told asked.rises within asked.records asked.begins).0 ∙ sym (removes_is first (steps deeds)) ∙ some

  module _ (last : FileTree) (s : Settled) where
    -- an operation of the server behind one that goes, goes too
    hidden_does : (c : Commit) (e : Entry) (older : List Deed) → e.server.0 ≡ c.by → OpsRise (Done c ∷ items older) → has_lost server durable (Does c e ∷ older) ≡ true →
        (IsLost server durable c → is_hidden server last s (tree_after first older) (Stays e) ≡ true) → is_hidden server last s (tree_after first older) (Stays e) ≡ true
    hidden_does c e older by rises lost hides = go (e.server.0 == server) refl
      where
        above : c.by ≡ server → durable < c.op
        above same = which (is_own server durable c) refl lost
          where
            which : (b : Bool) → is_own server durable c ≡ b → b || has_lost server durable older ≡ true → durable < c.op
            which true own some = (own_above server greatest durable first c own).1
            which false own some = above_too server greatest durable first c older some rises.0 same

        go : (b : Bool) → e.server.0 == server ≡ b → is_hidden server last s (tree_after first older) (Stays e) ≡ true
        go true is = let same : c.by ≡ server = sym by ∙ eqb-true e.server.0 server is in hides (record { of = same; above = above same })
        go false is =
            ap (λ b. not b || not (is_foreign server s && (list_any (step_touches last s) (changed (tree_after first older) e) || (changes_room (tree_after first older) e && is_refused s)))) is

    all_hidden : (deeds : List Deed) → AreLines when deeds → AllAsked server greatest durable first deeds → OpsRise (items deeds) → AreAsked deeds →
        HidesLost server durable first last s deeds → are_hidden_from_cut server greatest last s first (steps deeds) ≡ true
    all_hidden [] lines told rises asked hides = refl
    all_hidden (Does c e ∷ older) lines told rises asked hides =
        from_cut_more server greatest last s first (steps older) (Stays e)
        (all_hidden older lines.1 told.4 rises.1 (record { told = told.4; rises = rises.1; records = asked.records.1; begins = asked.begins.1 }) hides.1)
        (λ some. hidden_does c e older told.0 rises (some_lost (Does c e ∷ older) asked some) hides.0)
    all_hidden (Says e ∷ older) lines told rises asked hides = go (mounts server (Stays e)) refl (λ a. all_hidden older lines.1 told.2 rises a hides)
      where
        here : is_hidden server last s (tree_after first older) (Stays e) ≡ true
        here = no_answer_hidden server last s (tree_after first older) e (leaving_is_none (tree_after first older) e lines.0)

        go : (b : Bool) → mounts server (Stays e) ≡ b → (AreAsked older → are_hidden_from_cut server greatest last s first (steps older) ≡ true) →
            are_hidden_from_cut server greatest last s first (steps older ++ Stays e ∷ []) ≡ true
        go true is before = hidden_mounted server greatest last s first (steps older) (Stays e) is (λ some. here)
        go false is before =
            from_cut_more server greatest last s first (steps older) (Stays e)
            (before (record { told = told.2; rises = rises; records = asked.records is; begins = asked.begins })) (λ some. here)
    all_hidden (Doubts marked runs ∷ older) lines told rises asked hides =
        from_cut_more server greatest last s first (steps older) (InDoubt runs)
        (all_hidden older lines told rises (record { told = told; rises = rises; records = asked.records; begins = asked.begins }) hides) (λ some. refl)

  -- ---- so nothing that is known goes

  known_one : (deed : Deed) (older : List Deed) → AreLines when older → AreAsked older → AllHide server durable first (deed ∷ older) →
      keeps_known server greatest false first (steps older) ≡ true → keeps_known server greatest false first (steps older ++ step_of deed ∷ []) ≡ true
  known_one deed older lines asked all known =
      known_stays server greatest first (steps older) (step_of deed) known
      (λ some none. record {
        hidden = all_hidden (tree_after first older) (step_of deed) older lines asked.told asked.rises asked all.0;
        unsure = unsure (some_lost older asked some) (makes_sure server (stalled_along server false (steps older)) (step_of deed)) refl;
      })
    where
      unsure : has_lost server durable older ≡ true → (b : Bool) → makes_sure server (stalled_along server false (steps older)) (step_of deed) ≡ b →
          makes_sure server (stalled_along server false (steps older)) (step_of deed) ≡ false
      unsure lost true is = absurd (let z : true ≡ false = sym lost ∙ all.1 is in cc)
      unsure lost false is = is

  pub all_known : (deeds : List Deed) → AreLines when deeds → AllAsked server greatest durable first deeds → OpsRise (items deeds) → AreKeptSinceMount server greatest durable deeds →
      BeginsWithARecord server durable (items deeds) → AllHide server durable first deeds → keeps_known server greatest false first (steps deeds) ≡ true
  all_known [] lines told rises records begins all = refl
  all_known (Does c e ∷ older) lines told rises records begins all =
      known_one (Does c e) older lines.1 (record { told = told.4; rises = rises.1; records = records.1; begins = begins.1 }) all
      (all_known older lines.1 told.4 rises.1 records.1 begins.1 all.2)
  all_known (Says e ∷ older) lines told rises records begins all = go (mounts server (Stays e)) refl (λ k. all_known older lines.1 told.2 rises k begins all.2)
    where
      go : (b : Bool) → mounts server (Stays e) ≡ b → (AreKeptSinceMount server greatest durable older → keeps_known server greatest false first (steps older) ≡ true) →
          keeps_known server greatest false first (steps older ++ Stays e ∷ []) ≡ true
      go true is before = mounted_known server greatest false first (steps older) (Stays e) is
      go false is before = known_one (Says e) older lines.1 (record { told = told.2; rises = rises; records = records is; begins = begins }) all (before (records is))
  all_known (Doubts marked runs ∷ older) lines told rises records begins all =
      known_one (Doubts marked runs) older lines (record { told = told; rises = rises; records = records; begins = begins }) all (all_known older lines told rises records begins all.2)

pub hidden_kept : HiddenDeedsMayGo
hidden_kept segments when opening first numbers times begins server greatest durable deeds legal distinct rises lines kept sure all =
    all_known when server greatest durable first kept.within deeds lines
    (all_asked segments when opening first numbers times begins server greatest durable deeds legal distinct lines sure) rises kept.records kept.begins all
