-- Where no slot of a log is read, all are unread, the first of them first.
use Rattle.std.proofs.Common.{◌≡◌, ◌<◌, ℕ, zero, suc, Bool, true, false, not, if◌then◌else◌, List, [], ◌∷◌, ◌++◌, filter, Some, refl, sym, ap, ◌∙◌}
use Rattle.std.proofs.lemmas.Bool.{lt-ltb}
use Rattle.std.specs.List.{list_all, slice_get}
use Rattle.frang_base.specs.Functions.{member}
use Rattle.frang_base.specs.declared.limits.TheConstants.{LOG_SECTORS}
use Rattle.frang_base.specs.declared.reply.Reply.TheVariants as reply
use Rattle.tree_definitions.specs.Numbers.{below}
use Rattle.core_definitions.specs.Lines.{Under}
use Rattle.core_definitions.specs.Logs.{is_slot_read}
use Rattle.core_definitions.specs.Servers.{due_if, mount_answer}
use Rattle.log_slots.specs.Reading.{are_all_read, log_rules, unread_slots}
use Rattle.log_slots.proofs.Maps.{below_member}

all_pass : (xs : List ℕ) → filter (λ slot. not (is_slot_read [] slot)) xs ≡ xs
all_pass [] = refl
all_pass (x ∷ xs) = ap (λ rest. x ∷ rest) (all_pass xs)

all_unread : unread_slots [] ≡ below LOG_SECTORS
unfolding unread_slots log_rules
all_unread = all_pass (below LOG_SECTORS)

first_below : (n : ℕ) → slice_get (below (suc n)) 0 ≡ Some 0
first_below zero = refl
first_below (suc n) = before (below (suc n)) (suc n) (first_below n)
  where
    before : (xs : List ℕ) (x : ℕ) → slice_get xs 0 ≡ Some 0 → slice_get (xs ++ x ∷ []) 0 ≡ Some 0
    before [] x e = cc e
    before (y ∷ ys) x e = e

pub first_is_first : Some 0 ≡ slice_get (unread_slots []) 0
first_is_first = sym (ap (λ slots. slice_get slots 0) all_unread ∙ first_below 255)

pub each_is_unread : (slot : ℕ) → slot < LOG_SECTORS → true ≡ member slot (unread_slots [])
each_is_unread slot small = sym (ap (member slot) all_unread ∙ below_member LOG_SECTORS slot ∙ lt-ltb slot LOG_SECTORS small)

none_reads : (xs : List ℕ) (x : ℕ) → list_all (is_slot_read []) (xs ++ x ∷ []) ≡ false
none_reads [] x = refl
none_reads (y ∷ ys) x = refl

pub none_is_all : false ≡ are_all_read []
unfolding are_all_read log_rules
none_is_all = sym (none_reads (below 255) 255)

-- the answer to a mount under which no get failed, by whether all slots are read
pub answer_by : (under : Under) (all : Bool) → under.get_failed ≡ false → are_all_read under.slots ≡ all → mount_answer log_rules under ≡ due_if all reply.Mounted
unfolding are_all_read
answer_by under all well read = ap (λ (failed : Bool). if failed then Some reply.Io else due_if (are_all_read under.slots) reply.Mounted) well ∙ ap (λ (b : Bool). due_if b reply.Mounted) read
