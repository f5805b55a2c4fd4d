-- What a read comes to, by the size of the file and the bytes of its sectors.
use Rattle.std.proofs.Common.{◌≡◌, ℕ, ◌-◌, ◌/◌, ◌%◌, ◌<◌, ◌≤◌, Bool, true, false, cond, nat_lt, min, Ok, Err, List, [], take, drop, sym, ap, ◌∙◌, arith}
use Rattle.std.proofs.lemmas.Bool.Decides.{nat_tests}
use Rattle.frang_base.specs.declared.reply.Reply.TheVariants as reply
use Rattle.disk_definitions.specs.Store.{StoredNode}
use Rattle.disk_definitions.specs.Ask.{Ask}
use Rattle.disk_definitions.specs.Plans.{Plan, refused, refuse, shared_nodes}
use Rattle.disk_definitions.specs.FilePlans.{read_sectors, sectors_met, showing}
use Rattle.dir_lookup.specs.Reading.{Read, Gives}
use Rattle.dir_lookup.specs.Hands.{over}
use Rattle.dir_lookup.specs.declared.hand.Hand.{Hand}
use Rattle.plan_steps.specs.declared.stop.Stop.{Stop}
use Rattle.plan_steps.specs.declared.stop.Stop.TheVariants as stop
use Rattle.plan_steps.specs.Ends.{IsDone, Stops}
use Rattle.op_data.specs.Files.{ReadsSectors}

pub sectors_stop : (hand : Hand) (x : StoredNode) (t n : ℕ) (next : List ℕ → Ask Plan) (p : Read Plan) (e : Stop)
    → p ≡ over (read_sectors x t n next) hand → ReadsSectors hand x t n (Err e) → Stops p e
sectors_stop hand x t n next p (stop.Need s) h f = h ∙ f next
sectors_stop hand x t n next p (stop.Refused r) h f = absurd f
sectors_stop hand x t n next p stop.Segments h f = absurd f
sectors_stop hand x t n next p (stop.Clear k) h f = absurd f
sectors_stop hand x t n next p stop.NoMemory h f = tt

module _ (off len i : ℕ) (touched : List ℕ) (x : StoredNode) (hand : Hand) where
  -- what is done with the bytes of the sectors
  abbrev pub shows : ℕ → List ℕ → Ask Plan
  shows count bytes = refused (reply.Shown (take count (drop (off % 512) bytes))) touched

  pub past_the_end : x.size < off → IsDone reply.BadOffset [] (over (showing off len i touched x) hand)
  past_the_end l =
      let t : nat_lt x.size off ≡ true = grind (arith, nat_tests) in
      (shared_nodes touched, ap (λ (b : Bool). over (cond b (refused reply.BadOffset touched) (read_sectors x (off / 512) (sectors_met off (min len (x.size - off))) (shows (min len (x.size - off))))) hand) t)

  pub sectors_shown : (count n : ℕ) → off ≤ x.size → count ≡ min len (x.size - off) → n ≡ sectors_met off count
      → over (showing off len i touched x) hand ≡ over (read_sectors x (off / 512) n (shows count)) hand
  sectors_shown count n l c m =
      let t : nat_lt x.size off ≡ false = grind (arith, nat_tests) in
      ap (λ (b : Bool). over (cond b (refused reply.BadOffset touched) (read_sectors x (off / 512) (sectors_met off (min len (x.size - off))) (shows (min len (x.size - off))))) hand) t
      ∙ ap (λ (k : ℕ). over (read_sectors x (off / 512) (sectors_met off k) (shows k)) hand) (sym c)
      ∙ ap (λ (n : ℕ). over (read_sectors x (off / 512) n (shows count)) hand) (sym m)

  pub bytes_shown : (count n : ℕ) (bytes text : List ℕ) → over (showing off len i touched x) hand ≡ over (read_sectors x (off / 512) n (shows count)) hand
      → ReadsSectors hand x (off / 512) n (Ok bytes) → text ≡ take count (drop (off % 512) bytes) → IsDone (reply.Shown text) [] (over (showing off len i touched x) hand)
  bytes_shown count n bytes text h f e = (shared_nodes touched, h ∙ f (shows count) ∙ ap (λ (text : List ℕ). Gives (refuse (reply.Shown text) touched)) (sym e))
