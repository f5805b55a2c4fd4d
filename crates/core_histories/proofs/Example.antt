-- A sync at a server that is off may be answered, and the lines of a mount with its sync and unmount are told twice.
use Rattle.std.proofs.Common.{ℕ, zero, suc, ◌≡◌, ◌<◌, Bool, true, false, not, ◌&&◌, if◌then◌else◌, List, [], ◌∷◌, Ok, Err, Some, codes, refl, ap, arith}
use Rattle.std.specs.List.{AllByRecursion, list_any}
use Rattle.std.specs.Str.{IsAscii, IsUtf8, is_utf8}
use Rattle.std.proofs.lemmas.Str.{IsUtf8-append, IsUtf8-from_ascii, IsUtf8-nil, is_utf8-from_IsUtf8}
use Rattle.frang_base.specs.declared.lock.LockId.TheVariants.{Node}
use Rattle.frang_base.specs.declared.op.Op.TheVariants as op
use Rattle.script_definitions.specs.ScriptFaults.{◌>>=◌}
use Rattle.script_definitions.specs.ScriptText.{after_line, is_control, numbered, script_from, script_of}
use Rattle.script_definitions.specs.ScriptWords.{asked_of, words_of}
use Rattle.script_definitions.specs.declared.fault.LineFault.TheVariants as fault
use Rattle.sector_bytes.specs.Blocks.{zero_block}
use Rattle.core_definitions.specs.Events.{Answer, Begin, Nothing}
use Rattle.core_definitions.specs.Runs.{State as RunMoment, CanEnter, Enter, Event_, Goes, Makes, Stays, entered, first_state}
use Rattle.core_definitions.specs.Settings.{setting_of}
use Rattle.core_world.specs.Events.{FirstMomentsAreGood, IsSameStory}
use Rattle.core_world.specs.Steps.{IsReached}
use Rattle.core_histories.specs.Examples.{DownIsTold, LinesAreToldTwice, begun_moment, empty_world, line, lines_happened}
use Rattle.core_histories.specs.Tellings.{IsTold}
use Rattle.core_histories.specs.Told.{AnswersAreTold}

abbrev first : RunMoment
first = first_state (setting_of (line 1 op.Sync ∷ []) 1 1) (λ sector. zero_block)

may_enter : CanEnter first.core 0 (line 1 op.Sync)
may_enter = record { going = refl; server = refl; next = refl; waits = refl }

may_begin : Makes (entered first 1) (Begin 0) Nothing
may_begin = record { can = record { going = refl; can = record { server = refl; next = refl; idle = refl; hosts = refl; phase = refl; passed = refl; free = refl } }; hears = refl }

-- ---- the script is one that was read

abbrev text : List ℕ
text = codes "0 sync"

all_low : (xs : List ℕ) → AllByRecursion (λ c. c < 128) xs → IsUtf8 xs
all_low [] all = IsUtf8-nil
all_low (c ∷ xs) all = IsUtf8-append (c ∷ []) xs (IsUtf8-from_ascii (c ∷ []) (one_ascii c all.0)) (all_low xs all.1)
  where
    one_ascii : (x : ℕ) → x < 128 → IsAscii (x ∷ [])
    one_ascii x low zero = low
    one_ascii x low (suc i) = omega arith

text_is_utf8 : is_utf8 text ≡ true
text_is_utf8 = is_utf8-from_IsUtf8 text (all_low text (omega arith, (omega arith, (omega arith, (omega arith, (omega arith, (omega arith, tt)))))))

is_read : script_of text ≡ Ok (line 1 op.Sync ∷ [])
is_read =
    ap (λ (b : Bool). after_line 1 false
    (numbered 1 (if not (b && not (list_any (λ word. list_any is_control word) (words_of text))) then Err fault.NotText else (asked_of (words_of text) >>= λ asked. Ok (Some asked)))) (λ h. script_from 2 h []))
    text_is_utf8

is_reached : IsReached begun_moment
is_reached = record {
  bytes = text;
  script = line 1 op.Sync ∷ [];
  read = is_read;
  segments = 1;
  number = 1;
  disk = λ sector. zero_block;
  run = Goes (Enter 0 (line 1 op.Sync) may_enter) (Goes (Event_ (Begin 0) Nothing may_begin) Stays);
}

may_answer : Makes begun_moment (Answer 0) Nothing
may_answer = record { can = record { going = refl; can = record { server = refl; due = refl } }; hears = refl }

pub down_is_told : FirstMomentsAreGood → AnswersAreTold → DownIsTold
down_is_told first_good answers when first_tree numbers =
    let good = first_good (λ sector. zero_block) (λ sector. false) (λ sector. false) (λ sector. Node 0) in
    let before : IsTold when first_tree numbers begun_moment empty_world = record { happened = []; sectors = refl; lines = refl; paired = tt; said = tt; synced = tt } in
    let story : IsSameStory empty_world empty_world = record { servers = refl; opening = refl; logged = refl; first = refl; home = refl; history = refl } in
    record {
      reached = is_reached;
      good = good;
      makes = may_answer;
      story = story;
      before = before;
      told = answers begun_moment empty_world empty_world when first_tree numbers 0 is_reached good may_answer story before;
    }

pub lines_are_told_twice : LinesAreToldTwice
lines_are_told_twice when first_tree numbers = record {
  told = record {
    happened = lines_happened;
    sectors = refl;
    lines = refl;
    paired = (refl, refl, (refl, refl, (refl, refl, (refl, refl, (refl, tt, (refl, refl, tt))))));
    said = tt;
    synced = ((λ claims. tt), ((λ claims. tt), ((λ claims. tt), ((λ claims. tt), ((λ claims. tt), tt)))));
  };
  happened = refl;
}
