-- The plan with all blocks at hand, by how its parts end.
use Rattle.std.proofs.Common.{◌≡◌, ◌/◌, ℕ, max, Option, Ok, Err, List, [], ◌∷◌, ◌++◌, map, append_assoc, sym, ap, ◌∙◌}
use Rattle.std.proofs.Math.Path.{fun_ext}
use Rattle.std.specs.Global.{Vec}
use Rattle.frang_base.specs.declared.reply.Reply.TheVariants as reply
use Rattle.disk_definitions.specs.Store.{StoredNode}
use Rattle.disk_definitions.specs.Store.Use.{Bytes}
use Rattle.disk_definitions.specs.Edits.{Edit}
use Rattle.disk_definitions.specs.Edits.Edit.{SetUse}
use Rattle.disk_definitions.specs.Ask.{Ask, Got}
use Rattle.disk_definitions.specs.Plans.{Lock, Plan, Finishes, shared_nodes, sole_nodes, sole_segments}
use Rattle.disk_definitions.specs.FilePlans.{Writing, end_of, file_dated, large_segment, large_taken, resized, sectors_met, write_sectors, writing_in, written_by}
use Rattle.dir_lookup.specs.Hands.{over}
use Rattle.dir_lookup.specs.declared.hand.Hand.{Hand}
use Rattle.plan_steps.specs.Edits.{edits_of}
use Rattle.plan_steps.specs.Ends.{IsDone, Stops}
use Rattle.plan_steps.specs.declared.edit.Edit.{Edit as CodeEdit}
use Rattle.plan_steps.specs.declared.stop.Stop.{Stop}
use Rattle.plan_steps.specs.declared.stop.Stop.TheVariants as stop
use Rattle.op_data.specs.Writings.{WritesSectors, write_behind}

module _ (hand : Hand) (w : Writing) (i : ℕ) (touched : List ℕ) (x y : StoredNode) (picks : List ℕ) (large : Option ℕ) (items : List CodeEdit)
    (same : y ≡ resized x w.when (max x.size (end_of w)) picks large) (is : edits_of items ≡ map (λ k. SetUse k Bytes) picks ++ (large_taken large ++ file_dated i y)) where
  -- the locks of the finished plan
  locks : List Lock
  locks = shared_nodes touched ++ sole_nodes (i ∷ []) ++ sole_segments (map (λ k. k / 1024) picks ++ large_segment large)

  -- the plan that is done with these edits
  done : List Edit → Ask Plan
  done edits = Got (Finishes (record { reply = reply.Ok; edits = edits; locks = locks }))

  joined : (a b c d : List Edit) → a ++ b ++ c ++ d ≡ (a ++ (b ++ c)) ++ d
  joined a b c d = simp append_assoc

  written : (bytes : List Edit) → Got (Finishes (written_by i y picks large touched bytes)) ≡ done (edits_of items ++ bytes)
  unfolding done locks
  written bytes = ap done (joined (map (λ k. SetUse k Bytes) picks) (large_taken large) (file_dated i y) bytes ∙ ap (λ before. before ++ bytes) (sym is))

  behind : over (writing_in w i touched x picks large) hand ≡ over (write_behind w x y (edits_of items) done) hand
  behind =
      ap (λ y. over (write_sectors w x y (w.off / 512) (sectors_met w.off w.len) (λ bytes. Got (Finishes (written_by i y picks large touched bytes)))) hand) (sym same)
      ∙ ap (λ g. over (write_sectors w x y (w.off / 512) (sectors_met w.off w.len) g) hand) (fun_ext written)

  pub sectors_stop : (e : Stop) → WritesSectors hand w x y items (Err e) → Stops (over (writing_in w i touched x picks large) hand) e
  sectors_stop (stop.Need s) f = behind ∙ f done
  sectors_stop (stop.Refused r) f = absurd f
  sectors_stop stop.Segments f = absurd f
  sectors_stop (stop.Clear k) f = absurd f
  sectors_stop stop.NoMemory f = tt

  pub all_written : (v : Vec CodeEdit) → WritesSectors hand w x y items (Ok v) → IsDone reply.Ok (edits_of v.items) (over (writing_in w i touched x picks large) hand)
  unfolding done
  all_written v f = (locks, behind ∙ f done)
