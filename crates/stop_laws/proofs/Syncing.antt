-- A removal leaves entries that say that operations are synced right, and reads that agree with what was known.
use Rattle.std.proofs.Common.{ℕ, ◌≡◌, ◌≤◌, ◌&&◌, ◌||◌, ◌==◌, not, Bool, true, false, if◌then◌else◌, nat_eq, Option, List, [], ◌∷◌, refl, sym, ap, subst, arith, le_refl}
use Rattle.std.proofs.lemmas.Bool.{eq-eqb, eqb-true}
use Rattle.frang_base.proofs.Basics.{by_keep}
use Rattle.tree_definitions.specs.Touched.{is_mounted, is_ok, is_sync, is_unmount}
use Rattle.tree_definitions.specs.Tree.{FileTree}
use Rattle.sector_bytes.specs.Blocks.{Block}
use Rattle.sector_world.specs.HistoryBytes.{Agree}
use Rattle.sector_world.specs.Histories.{Each, settled, survives, synced_of}
use Rattle.sector_world.specs.Seen.{Kept}
use Rattle.sector_world.proofs.Bytes.{agree_kept}
use Rattle.sector_world.proofs.HistoryLaws.{each_kept, each_map}
use Rattle.line_histories.specs.Standing.{StandsNumbered}
use Rattle.line_histories.specs.Trees.{AreTimes}
use Rattle.line_histories.proofs.Runs.{numbered}
use Rattle.byte_trees.specs.Deeds.{Deed, Does, Says, Doubts, items}
use Rattle.stop_laws.specs.Happened.{Happening, Acts, Speaks, Mounts, Covers, Recovers, has_lost, on_sectors, settle, what_stays}
use Rattle.stop_laws.specs.Paired.{ArePaired}
use Rattle.stop_laws.proofs.Histories.{histories_settle_alike}
use Rattle.stop_laws.proofs.Staying.{items_stay}
use Rattle.stop_laws.specs.Sight.{AllShowed, HistoriesKeepReads}
use Rattle.stop_laws.specs.Synced.{AllSaid, AllSaidAtOnce, HistoriesKeepSyncs, RemovalsKeepSyncs, SyncsRise, has_stalled}

pub removals_keep_syncs : RemovalsKeepSyncs
removals_keep_syncs server durable synced [] all = tt
removals_keep_syncs server durable synced (Does c e ∷ older) all =
    let rest = removals_keep_syncs server durable synced older all in
    by_keep (AllSaid synced) (survives server durable c) (Does c e) (what_stays server durable older) (λ there. rest) (λ goes. rest)
removals_keep_syncs server durable synced (Says e ∷ older) all =
    let rest = removals_keep_syncs server durable synced older all.1 in
    by_keep (AllSaid synced) (not (e.server.0 == server && has_lost server durable older)) (Says e) (what_stays server durable older)
    (λ there. (
      (λ says.
          subst (Each (λ c. c.by ≡ e.server.0 → c.op ≤ synced e.server.0)) (sym (items_stay server durable older))
          (each_kept (λ c. c.by ≡ e.server.0 → c.op ≤ synced e.server.0) (survives server durable) (items older) (all.0 says))),
      rest,
    ))
    (λ goes. rest)
removals_keep_syncs server durable synced (Doubts marked runs ∷ older) all = removals_keep_syncs server durable synced older all

-- where a sync or a mount says it, no stall is asked for
says_anyway : (m s u ok stalled : Bool) → m || s || (u && ok && not true) ≡ true → m || s || (u && ok && not stalled) ≡ true
says_anyway true s u ok stalled says = refl
says_anyway false true u ok stalled says = refl
says_anyway false false true true stalled says = absurd (cc)
says_anyway false false true false stalled says = absurd (cc)
says_anyway false false false ok stalled says = absurd (cc)

-- by greater numbers
said_more : (synced more : ℕ → ℕ) → ((server : ℕ) → synced server ≤ more server) → (deeds : List Deed) → AllSaid synced deeds → AllSaid more deeds
said_more synced more above [] all = tt
said_more synced more above (Does c e ∷ older) all = said_more synced more above older all
said_more synced more above (Says e ∷ older) all = (
  (λ says. each_map (λ c. c.by ≡ e.server.0 → c.op ≤ synced e.server.0) (λ c. c.by ≡ e.server.0 → c.op ≤ more e.server.0)
      (λ c low by. let l : c.op ≤ synced e.server.0 = low by in let m : synced e.server.0 ≤ more e.server.0 = above e.server.0 in omega arith) (items older) (all.0 says)),
  said_more synced more above older all.1,
)
said_more synced more above (Doubts marked runs ∷ older) all = said_more synced more above older all

module _ (segments : ℕ) (when : ℕ → ℕ) (opening : ℕ → Block) (first_tree : FileTree) (numbers : List ℕ) (times : AreTimes when)
    (begins : StandsNumbered segments opening (numbered first_tree numbers)) where
  same : (h : List Happening) → ArePaired segments when opening first_tree numbers h → items (settle first_tree h) ≡ settled (on_sectors h)
  same h paired = (histories_settle_alike segments when opening first_tree numbers h times begins paired).sectors

  -- a sync or a mount covers more
  more : (server number : ℕ) (older : List Happening) → synced_of server (on_sectors older) ≤ number → (other : ℕ) →
      synced_of other (on_sectors older) ≤ (if nat_eq other server then number else synced_of other (on_sectors older))
  more server number older low other = go (nat_eq other server) refl
    where
      go : (b : Bool) → nat_eq other server ≡ b → synced_of other (on_sectors older) ≤ (if b then number else synced_of other (on_sectors older))
      go true is = subst (λ s. synced_of s (on_sectors older) ≤ number) (sym (eqb-true other server is)) low
      go false is = le_refl (synced_of other (on_sectors older))

  said : (h : List Happening) → ArePaired segments when opening first_tree numbers h → SyncsRise (on_sectors h) → AllSaidAtOnce h →
      AllSaid (λ server. synced_of server (on_sectors h)) (settle first_tree h)
  said [] paired rise once = tt
  said (Acts c e ∷ older) paired rise once = said older paired.1 rise once
  said (Speaks e ∷ older) paired rise once = (
    (λ says. subst (Each (λ c. c.by ≡ e.server.0 → c.op ≤ synced_of e.server.0 (on_sectors older))) (sym (same older paired.2))
        (once.0 (says_anyway (is_mounted e.reply) (is_sync e.op && is_ok e.reply) (is_unmount e.op) (is_ok e.reply) (has_stalled e.server.0 older) says))),
    said older paired.2 rise once.1,
  )
  said (Mounts number e ∷ older) paired rise once = (
    (λ says. subst (λ n. Each (λ c. c.by ≡ e.server.0 → c.op ≤ n) (items (settle first_tree older)))
        (sym (ap (λ (b : Bool). if b then number else synced_of e.server.0 (on_sectors older)) (eq-eqb e.server.0 e.server.0 refl)))
        (subst (Each (λ c. c.by ≡ e.server.0 → c.op ≤ number)) (sym (same older paired.2)) paired.1)),
    said_more (λ server. synced_of server (on_sectors older)) (λ server. synced_of server (on_sectors (Mounts number e ∷ older))) (more e.server.0 number older rise.0) (settle first_tree older)
        (said older paired.2 rise.1 once),
  )
  said (Covers server number ∷ older) paired rise once =
      said_more (λ other. synced_of other (on_sectors older)) (λ other. synced_of other (on_sectors (Covers server number ∷ older))) (more server number older rise.0) (settle first_tree older)
      (said older paired rise.1 once)
  said (Recovers server greatest durable ∷ older) paired rise once =
      removals_keep_syncs server durable (λ other. synced_of other (on_sectors older)) (settle first_tree older) (said older paired.1 rise once)

pub histories_keep_syncs : HistoriesKeepSyncs
histories_keep_syncs segments when opening first_tree numbers h times begins paired rise once = said segments when opening first_tree numbers times begins h paired rise once

-- ---- reads

module _ (segments : ℕ) (when : ℕ → ℕ) (opening : ℕ → Block) (first_tree : FileTree) (numbers : List ℕ) (first : ℕ → Option Block) where
  agrees : (h : List Happening) → ArePaired segments when opening first_tree numbers h → Kept (on_sectors h) → AllShowed first (on_sectors h) → Agree first (settled (on_sectors h))
  agrees [] paired k showed = tt
  agrees (Acts c e ∷ older) paired k showed = (showed.0, agrees older paired.1 k showed.1)
  agrees (Speaks e ∷ older) paired k showed = agrees older paired.2 k showed
  agrees (Mounts number e ∷ older) paired k showed = agrees older paired.2 k showed
  agrees (Covers server number ∷ older) paired k showed = agrees older paired k showed
  agrees (Recovers server greatest durable ∷ older) paired k showed =
      agree_kept first server durable (settled (on_sectors older)) paired.0.rises k.0 (agrees older paired.1 k.3 showed)

pub histories_keep_reads : HistoriesKeepReads
histories_keep_reads segments when opening first_tree numbers first h times begins paired k showed =
    subst (Agree first) (sym (same segments when opening first_tree numbers times begins h paired)) (agrees segments when opening first_tree numbers first h paired k showed)
