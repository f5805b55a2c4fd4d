-- Torn records, and shared sectors.
use Rattle.std.proofs.Common.{refl, [], ◌∷◌, ◌++◌, arith}
use Rattle.disk_definitions.specs.Frames.{frame_read}
use Rattle.disk_definitions.specs.Logs.{numbers_in, window}
use Rattle.sector_bytes.specs.Bytes.{zeros}
use Rattle.ring_definitions.specs.RingRuns.LogEvent.{Arrive}
use Rattle.ring_definitions.specs.RingSteps.{GoodLogsReadBack, RingsBegin, RingsStep}
use Rattle.log_examples.specs.Rows.{log_left, new_log}
use Rattle.log_examples.specs.Torn.{SharedSectorsEndSeveral, TornRecordsAreNotRead, behind_gap, both_issued, first_record, long_record, next_record, next_session, shared_record, third_session, torn, torn_record, two_come, two_issued}
use Rattle.log_examples.proofs.Runs.{IsComputed, sealed_so, worked, worked_anew}

none_came : IsComputed (log_left new_log 255 both_issued) 255 255 []
unfolding zeros window numbers_in frame_read
none_came = record { whole = refl; below = refl; gap = refl; among = refl }

pub torn_came : IsComputed (log_left new_log 255 torn) 256 256 (first_record ∷ [])
unfolding zeros window numbers_in frame_read
torn_came = record { whole = refl; below = refl; gap = refl; among = refl }

mount_came : IsComputed (log_left (log_left new_log 255 torn) 256 next_session) 257 257 (first_record ∷ next_record ∷ [])
unfolding zeros window numbers_in frame_read
mount_came = record { whole = refl; below = refl; gap = refl; among = refl }

mended_came : IsComputed (log_left new_log 255 (torn ++ Arrive 257 ∷ [])) 257 257 (first_record ∷ torn_record ∷ [])
unfolding zeros window numbers_in frame_read
mended_came = record { whole = refl; below = refl; gap = refl; among = refl }

module _ (begin : RingsBegin) (step : RingsStep) (reads : GoodLogsReadBack) where
  pub torn_not_read : TornRecordsAreNotRead
  torn_not_read = record {
    none = worked_anew begin step reads both_issued 255 255 [] refl none_came (omega arith);
    torn_ = worked_anew begin step reads torn 256 256 (first_record ∷ []) refl torn_came (omega arith);
    mount =
        worked begin step reads (log_left new_log 255 torn) 256 (first_record ∷ []) next_session 257 257 (first_record ∷ next_record ∷ []) (sealed_so (log_left new_log 255 torn) 256 (first_record ∷ []) torn_came)
        (omega arith) (omega arith) refl mount_came (omega arith);
    mended = worked_anew begin step reads (torn ++ Arrive 257 ∷ []) 257 257 (first_record ∷ torn_record ∷ []) refl mended_came (omega arith);
    begin = refl;
    end = refl;
  }

-- ---- shared sectors

third_came : IsComputed (log_left (log_left new_log 255 two_come) 257 third_session) 258 258 (long_record ∷ shared_record ∷ next_record ∷ [])
unfolding zeros window numbers_in frame_read
third_came = record { whole = refl; below = refl; gap = refl; among = refl }

gap_came : IsComputed (log_left new_log 255 behind_gap) 255 257 []
unfolding zeros window numbers_in frame_read
gap_came = record { whole = refl; below = refl; gap = refl; among = refl }

one_came : IsComputed (log_left new_log 255 (two_issued ++ Arrive 256 ∷ [])) 256 256 []
unfolding zeros window numbers_in frame_read
one_came = record { whole = refl; below = refl; gap = refl; among = refl }

both_came : IsComputed (log_left new_log 255 two_come) 257 257 (long_record ∷ shared_record ∷ [])
unfolding zeros window numbers_in frame_read
both_came = record { whole = refl; below = refl; gap = refl; among = refl }

module _ (begin : RingsBegin) (step : RingsStep) (reads : GoodLogsReadBack) where
  pub shared_end : SharedSectorsEndSeveral
  shared_end = record {
    none = worked_anew begin step reads behind_gap 255 257 [] refl gap_came (omega arith);
    one = worked_anew begin step reads (two_issued ++ Arrive 256 ∷ []) 256 256 [] refl one_came (omega arith);
    both = worked_anew begin step reads two_come 257 257 (long_record ∷ shared_record ∷ []) refl both_came (omega arith);
    mount =
        worked begin step reads (log_left new_log 255 two_come) 257 (long_record ∷ shared_record ∷ []) third_session 258 258 (long_record ∷ shared_record ∷ next_record ∷ [])
        (sealed_so (log_left new_log 255 two_come) 257 (long_record ∷ shared_record ∷ []) both_came) (omega arith) (omega arith) refl third_came (omega arith);
    begin = refl;
    end = refl;
  }
