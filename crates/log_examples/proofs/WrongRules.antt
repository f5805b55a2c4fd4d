-- The wrong rules, row by row.
use Rattle.std.proofs.Common.{◌≡◌, ◌≤◌, ◌+◌, ℕ, zero, suc, true, refl, List, [], ◌∷◌, ◌++◌, drop, take, length, map, sym, ap, ◌∙◌, arith}
use Rattle.frang_base.specs.declared.change.Redo.{Redo}
use Rattle.disk_definitions.specs.Frames.{frame_read}
use Rattle.disk_definitions.specs.Logs.{Slots, is_end, log_end, log_records, numbers_in, window}
use Rattle.sector_bytes.specs.Bytes.{zeros}
use Rattle.ring_definitions.specs.RingRuns.{ReadsBack, all_records, may_all_happen, placed_from, placed_up_to}
use Rattle.ring_definitions.specs.RingSteps.{GoodLogsReadBack, RingsBegin, RingsStep}
use Rattle.log_examples.specs.Rows.{ReadAs, left_by, log_from, log_left, new_log}
use Rattle.log_examples.specs.Seals.{first_record, later_seal}
use Rattle.log_examples.specs.WrongRules.{ByANumberTooFew, ByTheFirstSector, IsReadBy, WithoutTheLastWrite, came, early_session, filled, is_end_by, missing, records_from, redos_of}
use Rattle.log_examples.proofs.Seals.{later_is, later_open}
use Rattle.log_examples.specs.Torn as torn
use Rattle.log_examples.proofs.Runs.{IsComputed, read_so, worked_anew}
use Rattle.log_examples.proofs.Torn.{torn_came}

-- ---- a seal without its last write

may_early : may_all_happen (log_from later_seal 256) early_session ≡ true
may_early = refl

early_came : IsComputed (log_left later_seal 256 early_session) 320 320 (first_record ∷ came ∷ [])
unfolding zeros window numbers_in frame_read
early_came = record { whole = refl; below = refl; gap = refl; among = refl }

early_is : ReadAs (log_left later_seal 256 early_session) 320 (first_record ∷ came ∷ [])
early_is = read_so (log_left later_seal 256 early_session) 320 320 (first_record ∷ came ∷ []) early_came (omega arith)

two_counted : length (placed_up_to 320 (left_by later_seal 256 early_session)) ≡ 2
two_counted = refl

none_given : length (placed_from (left_by later_seal 256 early_session).ring.given_up (left_by later_seal 256 early_session)) ≡ 0
none_given = refl

both_placed : redos_of (left_by later_seal 256 early_session).placed ≡ came ∷ missing ∷ []
both_placed = refl

-- neither all three nor the last two are what is read
three_not : (skip : ℕ) → skip ≤ 1 → first_record ∷ came ∷ [] ≡ drop skip (first_record ∷ came ∷ missing ∷ []) → ⊥
three_not zero low e = longer (length (first_record ∷ came ∷ [])) (length (first_record ∷ came ∷ missing ∷ [])) (ap length e) refl refl
  where
    longer : (a b : ℕ) → a ≡ b → a ≡ 2 → b ≡ 3 → ⊥
    longer a b f g h = omega (arith, f, g, h)
three_not (suc zero) low e = other (operations (first_record ∷ came ∷ [])) (operations (came ∷ missing ∷ [])) (ap operations e) refl refl
  where
    operations : List Redo → List ℕ
    operations rs = map (λ r. r.op.0) rs

    other : (xs ys : List ℕ) → xs ≡ ys → xs ≡ 1 ∷ 4 ∷ [] → ys ≡ 4 ∷ 5 ∷ [] → ⊥
    other xs ys f g h = absurd (cc)
three_not (suc (suc skip)) low e = omega (arith, low)

not_back : ReadsBack later_seal (left_by later_seal 256 early_session) → ⊥
not_back b = three_not b.missing few (sym early_is.reads ∙ b.reads ∙ ap (λ rs. drop b.missing (take b.prefix rs)) all ∙ ap (λ n. drop b.missing (take n (first_record ∷ came ∷ missing ∷ []))) prefix)
  where
    before : length (log_records later_seal) ≡ 1
    before = ap length later_is.reads

    all : all_records later_seal (left_by later_seal 256 early_session) ≡ first_record ∷ came ∷ missing ∷ []
    all = ap (λ rs. rs ++ redos_of (left_by later_seal 256 early_session).placed) later_is.reads ∙ ap (λ rs. first_record ∷ rs) both_placed

    sum : (a b n : ℕ) → n ≡ a + b → a ≡ 1 → b ≡ 2 → n ≡ 3
    sum a b n e f g = omega (arith, e, f, g)

    prefix : b.prefix ≡ 3
    prefix = sum (length (log_records later_seal)) (length (placed_up_to (log_end (log_left later_seal 256 early_session)) (left_by later_seal 256 early_session))) b.prefix b.ended before
        (ap (λ n. length (placed_up_to n (left_by later_seal 256 early_session))) early_is.ends ∙ two_counted)

    low : (a b n : ℕ) → n ≤ a + b → a ≡ 1 → b ≡ 0 → n ≤ 1
    low a b n h f g = omega (arith, h, f, g)

    few : b.missing ≤ 1
    few = low (length (log_records later_seal)) (length (placed_from (left_by later_seal 256 early_session).ring.given_up (left_by later_seal 256 early_session))) b.missing b.given_up before none_given

pub without_last_write : WithoutTheLastWrite
without_last_write = record { may = may_early; read = later_is; open_ = later_open; ends = early_is.ends; issued_ = refl; counted = refl; reads = early_is.reads; wrong = not_back }

-- ---- a number too few

filled_came : IsComputed (log_left new_log 255 filled) 447 447 (records_from 192 256)
unfolding zeros window numbers_in frame_read
filled_came = record { whole = refl; below = refl; gap = refl; among = refl }

by_192 : IsReadBy 192 (log_left new_log 255 filled) 447 (records_from 192 256)
unfolding zeros numbers_in frame_read
by_192 = record { whole = refl; greatest = refl; reads = refl }

by_191 : IsReadBy 191 (log_left new_log 255 filled) 447 (records_from 191 257)
unfolding zeros numbers_in frame_read
by_191 = record { whole = refl; greatest = refl; reads = refl }

the_rule : (slots : Slots) (end : ℕ) → is_end_by 192 slots end ≡ is_end slots end
unfolding window
the_rule slots end = refl

module _ (begin : RingsBegin) (step : RingsStep) (reads : GoodLogsReadBack) where
  pub number_too_few : ByANumberTooFew
  number_too_few = record {
    run = worked_anew begin step reads filled 447 447 (records_from 192 256) refl filled_came (omega arith);
    full = refl;
    given_up = refl;
    by_all = by_192;
    by_less = by_191;
    rule = the_rule;
  }

-- ---- by the first sector

pub by_first_sector : ByTheFirstSector
by_first_sector = record { ends = torn_is.ends; by_first = refl; by_last = refl; reads = torn_is.reads }
  where
    torn_is : ReadAs (log_left new_log 255 torn.torn) 256 (torn.first_record ∷ [])
    torn_is = read_so (log_left new_log 255 torn.torn) 256 256 (torn.first_record ∷ []) torn_came (omega arith)
