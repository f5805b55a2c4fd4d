-- Death by death.
use Rattle.std.proofs.Common.{refl, [], ◌∷◌, arith}
use Rattle.disk_definitions.specs.Frames.{frame_read}
use Rattle.disk_definitions.specs.Logs.{numbers_in, window}
use Rattle.sector_bytes.specs.Bytes.{zeros}
use Rattle.ring_definitions.specs.RingSteps.{GoodLogsReadBack, RingsBegin, RingsStep}
use Rattle.log_examples.specs.Rows.{log_left, new_log}
use Rattle.log_examples.specs.Deaths.{FiveDeathsLeaveNothing, dies_behind, first_life, five_times, four_times, last_life, last_record, once, synced, three_times, twice}
use Rattle.log_examples.proofs.Runs.{IsComputed, sealed_so, worked, worked_anew}

life_1 : IsComputed (log_left new_log 255 first_life) 256 258 (synced ∷ [])
unfolding zeros window numbers_in frame_read
life_1 = record { whole = refl; below = refl; gap = refl; among = refl }

seal_1 : IsComputed once 320 320 (synced ∷ [])
unfolding zeros window numbers_in frame_read
seal_1 = record { whole = refl; below = refl; gap = refl; among = refl }

life_2 : IsComputed (log_left once 320 (dies_behind 320)) 320 322 (synced ∷ [])
unfolding zeros window numbers_in frame_read
life_2 = record { whole = refl; below = refl; gap = refl; among = refl }

seal_2 : IsComputed twice 384 384 (synced ∷ [])
unfolding zeros window numbers_in frame_read
seal_2 = record { whole = refl; below = refl; gap = refl; among = refl }

life_3 : IsComputed (log_left twice 384 (dies_behind 384)) 384 386 (synced ∷ [])
unfolding zeros window numbers_in frame_read
life_3 = record { whole = refl; below = refl; gap = refl; among = refl }

seal_3 : IsComputed three_times 448 448 []
unfolding zeros window numbers_in frame_read
seal_3 = record { whole = refl; below = refl; gap = refl; among = refl }

life_4 : IsComputed (log_left three_times 448 (dies_behind 448)) 448 450 []
unfolding zeros window numbers_in frame_read
life_4 = record { whole = refl; below = refl; gap = refl; among = refl }

seal_4 : IsComputed four_times 512 512 []
unfolding zeros window numbers_in frame_read
seal_4 = record { whole = refl; below = refl; gap = refl; among = refl }

life_5 : IsComputed (log_left four_times 512 (dies_behind 512)) 512 514 []
unfolding zeros window numbers_in frame_read
life_5 = record { whole = refl; below = refl; gap = refl; among = refl }

seal_5 : IsComputed five_times 576 576 []
unfolding zeros window numbers_in frame_read
seal_5 = record { whole = refl; below = refl; gap = refl; among = refl }

life_6 : IsComputed (log_left five_times 576 last_life) 577 577 (last_record ∷ [])
unfolding zeros window numbers_in frame_read
life_6 = record { whole = refl; below = refl; gap = refl; among = refl }

module _ (begin : RingsBegin) (step : RingsStep) (reads : GoodLogsReadBack) where
  pub five_deaths : FiveDeathsLeaveNothing
  five_deaths = record {
    first = worked_anew begin step reads first_life 256 258 (synced ∷ []) refl life_1 (omega arith);
    once_ = sealed_so once 320 (synced ∷ []) seal_1;
    second = worked begin step reads once 320 (synced ∷ []) (dies_behind 320) 320 322 (synced ∷ []) (sealed_so once 320 (synced ∷ []) seal_1) (omega arith) (omega arith) refl life_2 (omega arith);
    twice_ = sealed_so twice 384 (synced ∷ []) seal_2;
    third = worked begin step reads twice 384 (synced ∷ []) (dies_behind 384) 384 386 (synced ∷ []) (sealed_so twice 384 (synced ∷ []) seal_2) (omega arith) (omega arith) refl life_3 (omega arith);
    three_times_ = sealed_so three_times 448 [] seal_3;
    fourth = worked begin step reads three_times 448 [] (dies_behind 448) 448 450 [] (sealed_so three_times 448 [] seal_3) (omega arith) (omega arith) refl life_4 (omega arith);
    four_times_ = sealed_so four_times 512 [] seal_4;
    fifth = worked begin step reads four_times 512 [] (dies_behind 512) 512 514 [] (sealed_so four_times 512 [] seal_4) (omega arith) (omega arith) refl life_5 (omega arith);
    five_times_ = sealed_so five_times 576 [] seal_5;
    sixth = worked begin step reads five_times 576 [] last_life 577 577 (last_record ∷ []) (sealed_so five_times 576 [] seal_5) (omega arith) (omega arith) refl life_6 (omega arith);
  }
