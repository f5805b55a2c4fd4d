-- Replies that say what their operations showed go on saying it once others are removed that nobody saw.
use Rattle.std.proofs.Common.{ℕ, zero, suc, ◌≡◌, ◌==◌, ◌&&◌, not, Bool, true, false, List, [], ◌∷◌, refl, sym, ◌∙◌, ap, ap₂, subst}
use Rattle.frang_base.specs.Functions.{keep_if}
use Rattle.tree_definitions.specs.Tree.{FileTree}
use Rattle.sector_bytes.specs.Blocks.{Block}
use Rattle.sector_world.specs.Histories.{Item, OpsRise, in_doubt, kept, logical, recovered, settled, survives, synced_of}
use Rattle.sector_world.specs.Histories.Item.{Done, Doubt}
use Rattle.sector_world.specs.Plans.{IsClear, Legal}
use Rattle.sector_world.specs.Seen.{Kept, Unseen}
use Rattle.sector_world.proofs.HistoryLaws.{kept_logical}
use Rattle.sector_world.proofs.Seen.{clear_survives}
use Rattle.sector_world.specs.Claims.{left, left_by}
use Rattle.sector_world.specs.Kinds.{Good}
use Rattle.sector_world.specs.World.{World, Phase}
use Rattle.sector_world.specs.World.Phase.{Off, Up, Dead}
use Rattle.sector_world.proofs.Holding.{holds_good}
use Rattle.sector_world.proofs.Left.{fine_left, legal_left}
use Rattle.line_histories.specs.LinePlans.{sector_plan}
use Rattle.line_histories.proofs.Framed.{lines_framed}
use Rattle.byte_trees.specs.Deeds.{Deed, Does, Says, Doubts, items}
use Rattle.stop_laws.specs.Happened.{Happening, Acts, Speaks, Mounts, Covers, Recovers, has_lost, on_sectors, settle, what_stays}
use Rattle.stop_laws.specs.Paired.{ArePaired}
use Rattle.stop_laws.specs.Settling.{recovers_by, stopped}
use Rattle.stop_laws.proofs.Staying.{items_stay}
use Rattle.stop_laws.specs.Replies.{AreSaid, RepliesStay, RepliesStayAtStops, SaidWhereItHappened, SaysWhatItShows}
use Rattle.stop_laws.proofs.Framed.{replies_framed}

-- what the deeds that are left did to sectors is what has settled there
items_settle : (first : FileTree) (h : List Happening) → items (settle first h) ≡ settled (on_sectors h)
items_settle first [] = refl
items_settle first (Acts c e ∷ older) = ap (λ l. Done c ∷ l) (items_settle first older)
items_settle first (Speaks e ∷ older) = items_settle first older
items_settle first (Mounts number e ∷ older) = items_settle first older
items_settle first (Covers server number ∷ older) = items_settle first older
items_settle first (Recovers server greatest durable ∷ older) =
    ap (λ l. Doubt (in_doubt server (synced_of server (on_sectors older)) l) ∷ l)
    (items_stay server durable (settle first older) ∙ ap (kept (survives server durable)) (items_settle first older))

module _ (segments : ℕ) (when : ℕ → ℕ) (opening : ℕ → Block) where
  abbrev Said : List Deed → Type 0
  Said deeds = AreSaid segments when opening deeds

  abbrev LegalHere : List Item → Type 0
  LegalHere h = Legal (sector_plan segments when) opening h

  -- ---- one removal

  module _ (server durable : ℕ) where
    still_clear : (deeds : List Deed) → LegalHere (items deeds) → IsClear (survives server durable) (items deeds) → Said deeds → Said (what_stays server durable deeds)
    still_clear [] legal clear said = tt
    still_clear (Does c e ∷ older) legal clear said = go (survives server durable c) refl (still_clear older legal.1 clear.1 said.1)
      where
        go : (b : Bool) → survives server durable c ≡ b → Said (what_stays server durable older) → Said (keep_if b (Does c e) (what_stays server durable older))
        go true stays rest = (
          subst (λ h. SaysWhatItShows segments when (logical opening h) c e) (sym (items_stay server durable older))
              (replies_framed segments when (logical opening (items older)) (logical opening (kept (survives server durable) (items older))) c e legal.0
              (λ sector touched. sym (kept_logical opening sector (survives server durable) (items older) (clear.0 stays sector touched))) said.0),
          rest,
        )
        go false goes rest = rest
    still_clear (Says e ∷ older) legal clear said = go (not (e.server.0 == server && has_lost server durable older)) (still_clear older legal clear said)
      where
        go : (b : Bool) → Said (what_stays server durable older) → Said (keep_if b (Says e) (what_stays server durable older))
        go true rest = rest
        go false rest = rest
    still_clear (Doubts marked runs ∷ older) legal clear said = still_clear older legal clear said

    -- by what the deeds did to sectors
    still : (deeds : List Deed) (h : List Item) → items deeds ≡ h → LegalHere h → OpsRise h → Unseen server durable h → Said deeds → Said (what_stays server durable deeds)
    still deeds h same legal rises unseen said =
        still_clear deeds (subst LegalHere (sym same) legal) (subst (IsClear (survives server durable)) (sym same) (clear_survives server durable h rises unseen)) said

  -- ---- along a history

  module _ (first : FileTree) (numbers : List ℕ) where
    along : (h : List Happening) → ArePaired segments when opening first numbers h → Kept (on_sectors h) → SaidWhereItHappened segments when opening h → Said (settle first h)
    along [] paired whole said = tt
    along (Acts c e ∷ older) paired whole said =
        (subst (λ h. SaysWhatItShows segments when (logical opening h) c e) (sym (items_settle first older)) said.0, along older paired.1 whole said.1)
    along (Speaks e ∷ older) paired whole said = along older paired.2 whole said
    along (Mounts number e ∷ older) paired whole said = along older paired.2 whole said
    along (Covers server number ∷ older) paired whole said = along older paired whole said
    along (Recovers server greatest durable ∷ older) paired whole said =
        still server durable (settle first older) (settled (on_sectors older)) (items_settle first older) paired.0.legal paired.0.rises whole.0 (along older paired.1 whole.3 said)

pub replies_stay : RepliesStay
replies_stay segments when opening first numbers h paired whole said = along segments when opening first numbers h paired whole said

-- ---- at a stop

module _ (segments : ℕ) (when : ℕ → ℕ) (first : FileTree) (w : World) (greatest : ℕ → ℕ) (h : List Happening) (legal : Legal (sector_plan segments when) w.opening (settled w.history))
    (good : Good w) (told : on_sectors h ≡ w.history) (said : AreSaid segments when w.opening (settle first h)) where
  record IsStage (now : List Happening) (items_left : List Item) : Type 0 where
    settles : settled (on_sectors now) ≡ items_left
    synced : (server : ℕ) → synced_of server (on_sectors now) ≡ synced_of server w.history
    says : AreSaid segments when w.opening (settle first now)

  one_more : (n : ℕ) (now : List Happening) → IsStage now (left w n) → IsStage (Recovers n (greatest n) (w.durable n) ∷ now) (recovered n (w.durable n) (w.synced n) (left w n))
  one_more n now stage = record {
    settles = ap₂ (λ synced items_left. recovered n (w.durable n) synced items_left) (stage.synced n ∙ sym (good.bytes.counted n)) stage.settles;
    synced = stage.synced;
    says = still segments when w.opening n (w.durable n) (settle first now) (left w n) (items_settle first now ∙ stage.settles)
        (legal_left (sector_plan segments when) (lines_framed segments when) w good legal n) (fine_left w good n).ops ((fine_left w good n).unseen n) stage.says;
  }

  by_stage : (n : ℕ) (now : List Happening) → IsStage now (left w n) → (p : Phase) → IsStage (recovers_by p n (greatest n) (w.durable n) now) (left_by p n (w.durable n) (w.synced n) (left w n))
  by_stage n now stage Off = stage
  by_stage n now stage Up = one_more n now stage
  by_stage n now stage Dead = one_more n now stage

  stages : (n : ℕ) → IsStage (stopped w greatest n h) (left w n)
  stages zero = record { settles = ap settled told; synced = λ server. ap (synced_of server) told; says = said }
  stages (suc n) = by_stage n (stopped w greatest n h) (stages n) (w.phase n)

pub replies_stay_at_stops : RepliesStayAtStops
replies_stay_at_stops segments when first numbers w greatest h legal good told paired said =
    (stages segments when first w greatest h legal good told
    (replies_stay segments when w.opening first numbers h paired (subst Kept (sym told) (holds_good w good).was_kept) said) w.servers).says
