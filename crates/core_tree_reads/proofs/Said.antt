-- Over every run the lines of the tree that are said are the first of those that were read: step by step.
use Rattle.std.proofs.Common.{◌≡◌, ℕ, zero, suc, ◌≤◌, ◌<◌, ◌+◌, ◌⊎◌, inl, inr, Bool, true, false, ◌||◌, if◌then◌else◌, IsTrue, List, [], ◌∷◌, ◌++◌, Option, Some, None, filter, get_or, length, take, refl, sym, ap, ◌∙◌, subst, arith}
use Rattle.std.proofs.lemmas.Bool.{and_parts, false≢true, ltb-true}
use Rattle.std.proofs.lemmas.List.Elements.{filter-append, filter_map-append}
use Rattle.std.proofs.lemmas.List.Folds.{list_any-append}
use Rattle.std.proofs.lemmas.Option.{none-some, same_Some, slice_get-get_or}
use Rattle.std.specs.List.{list_any, slice_get}
use Rattle.frang_base.specs.Functions.{member}
use Rattle.frang_base.specs.declared.said.Said.{Said}
use Rattle.frang_base.specs.declared.said.Said.TheVariants as said
use Rattle.tree_definitions.specs.Transcript.{is_end, is_node}
use Rattle.sector_bytes.specs.Sectors.{Sectors}
use Rattle.core_definitions.specs.Logs.{is_none}
use Rattle.core_definitions.specs.Settings.{Setting}
use Rattle.core_definitions.specs.Trees.{needed_sectors, read_lines}
use Rattle.core_definitions.specs.Cores.{tree_lines, tree_needs}
use Rattle.core_definitions.specs.Events.{Event, End, Read, Show, Heard, Nothing, Got, GetFailed, Written, Late, PutFailed}
use Rattle.core_definitions.specs.EndGuards.{CanEnd, CanRead, CanShow}
use Rattle.core_definitions.specs.Guards.{CanGoing}
use Rattle.core_definitions.specs.Effects.{Deed, Says, deeds_of}
use Rattle.core_definitions.specs.Runs.{State, Step, Event_, Enter, Hold, Flush, Relock, Note, Peek, PeekFails, Run, first_state, goes_on, is_note, next, said_by, saids_of}
use Rattle.core_laws.proofs.Along.{along}
use Rattle.core_transcripts.proofs.Telling.{got_in, tree_nodes}
use Rattle.core_tree_reads.specs.Reads.{AreLinesRead}
use Rattle.core_tree_reads.proofs.Kept.{IsOfHost, Reads, Shows, Ends, Leaves, Same, is_of_tree, left_by}

-- ---- lists

pub none_is : {X : Type 0} (xs : List X) → IsTrue (is_none xs) → xs ≡ []
none_is [] n = refl
none_is (x ∷ xs) n = absurd (false≢true n)

nil_right : {X : Type 0} (xs : List X) → xs ++ [] ≡ xs
nil_right [] = refl
nil_right (x ∷ xs) = ap (λ l. x ∷ l) (nil_right xs)

none_member : (x : ℕ) (xs : List ℕ) → IsTrue (member x xs) → xs ≡ [] → ⊥
none_member x xs m e = false≢true (sym (ap (λ l. member x l) e) ∙ m)

take_more : {X : Type 0} (n : ℕ) (xs : List X) (x : X) → slice_get xs n ≡ Some x → take (suc n) xs ≡ take n xs ++ x ∷ []
take_more n [] x e = absurd (none-some x e)
take_more zero (y ∷ ys) x e = ap (λ z. z ∷ []) (same_Some y x e)
take_more (suc n) (y ∷ ys) x e = ap (λ l. y ∷ l) (take_more n ys x e)

-- ---- numbers

is_zero : (n : ℕ) → (0 < n → ⊥) → n ≡ 0
is_zero zero none = refl
is_zero (suc n) none = absurd (none (omega arith))

next_is : (n : ℕ) → n + 1 ≡ suc n
next_is n = omega arith

one_within : (n m : ℕ) → n < m → n + 1 ≤ m
one_within n m h = omega (arith, h)

not_less : (n m : ℕ) → n < m → n ≡ m → ⊥
not_less n m h e = absurd (omega (arith, h, e))

zero_within : (n : ℕ) → 0 ≤ n
zero_within n = omega arith

-- ---- lines

node_not_end : (x : Said) → is_node x ≡ true → is_end x ≡ false
node_not_end (said.Node path kind size links) n = refl
node_not_end x n = absurd (false≢true n)

none_node : (saids : List Said) → list_any is_of_tree saids ≡ false → filter is_node saids ≡ []
none_node [] e = refl
none_node (x ∷ xs) e = go (is_node x) (is_end x) e (λ f. none_node xs f)
  where
    go : (n m : Bool) → ((n || m) || list_any is_of_tree xs) ≡ false → (list_any is_of_tree xs ≡ false → filter is_node xs ≡ []) → (if n then x ∷ filter is_node xs else filter is_node xs) ≡ []
    go true m f rest = absurd (false≢true (sym f))
    go false true f rest = absurd (false≢true (sym f))
    go false false f rest = rest f

none_end : (saids : List Said) → list_any is_of_tree saids ≡ false → list_any is_end saids ≡ false
none_end [] e = refl
none_end (x ∷ xs) e = go (is_node x) (is_end x) e (λ f. none_end xs f)
  where
    go : (n m : Bool) → ((n || m) || list_any is_of_tree xs) ≡ false → (list_any is_of_tree xs ≡ false → list_any is_end xs ≡ false) → (m || list_any is_end xs) ≡ false
    go true m f rest = absurd (false≢true (sym f))
    go false true f rest = absurd (false≢true (sym f))
    go false false f rest = rest f

or_false : (b : Bool) → (b || false) ≡ b
or_false true = refl
or_false false = refl

-- ---- moments

abbrev nodes : State → List Said
nodes s = filter is_node (saids_of s.record_)

abbrev is_ended : State → Bool
is_ended s = list_any is_end (saids_of s.record_)

-- nothing has changed that counts
carried : (s v : State) → Same s.core v.core → nodes v ≡ nodes s → is_ended v ≡ is_ended s → AreLinesRead s → AreLinesRead v
carried s v same n e h = record {
  lines = n ∙ h.lines ∙ sym (ap (λ k. take k (tree_lines s.core)) same.shown) ∙ sym (ap (take v.core.shown) lines_same);
  within = subst (λ k. k ≤ length (tree_lines v.core)) (sym same.shown) (subst (λ l. s.core.shown ≤ length l) (sym lines_same) h.within);
  whole = λ some. needs_same ∙ h.whole (subst (λ k. 0 < k) same.shown some);
  ended = λ told. let was : (tree_needs s.core ≡ []) × (s.core.shown ≡ length (tree_lines s.core)) = h.ended (sym e ∙ told) in
      (needs_same ∙ was.0, same.shown ∙ was.1 ∙ sym (ap (λ l. length l) lines_same));
}
  where
    lines_same : tree_lines v.core ≡ tree_lines s.core
    lines_same = ap (λ z. read_lines z.segments v.core.read) same.setting ∙ ap (read_lines s.core.setting.segments) same.read

    needs_same : tree_needs v.core ≡ tree_needs s.core
    needs_same = ap (λ z. needed_sectors z.segments v.core.read) same.setting ∙ ap (needed_sectors s.core.setting.segments) same.read

-- of the lines that a step adds none is of the tree
silent : (s v : State) (deeds : List Deed) → Same s.core v.core → v.record_ ≡ s.record_ ++ deeds → list_any is_of_tree (saids_of deeds) ≡ false → AreLinesRead s → AreLinesRead v
silent s v deeds same more none h =
    carried s v same
    (ap (filter is_node) saids ∙ filter-append is_node (saids_of s.record_) (saids_of deeds) ∙ ap (λ l. nodes s ++ l) (none_node (saids_of deeds) none) ∙ nil_right (nodes s))
    (ap (list_any is_end) saids ∙ list_any-append is_end (saids_of s.record_) (saids_of deeds) ∙ ap (λ b. is_ended s || b) (none_end (saids_of deeds) none) ∙ or_false (is_ended s)) h
  where
    saids : saids_of v.record_ ≡ saids_of s.record_ ++ saids_of deeds
    saids = ap saids_of more ∙ filter_map-append said_by s.record_ deeds

-- as long as a sector is needed no line is said, and no end
module _ (s : State) (h : AreLinesRead s) (sector : ℕ) (can : CanRead s.core sector) where
  none_shown : s.core.shown ≡ 0
  none_shown = is_zero s.core.shown (λ some. none_member sector (tree_needs s.core) can.needed (h.whole some))

  not_ended : is_ended s ≡ true → ⊥
  not_ended e = none_member sector (tree_needs s.core) can.needed (h.ended e).0

  read_on : (v : State) → v.core.shown ≡ s.core.shown → v.record_ ≡ s.record_ → AreLinesRead v
  read_on v shown more = record {
    lines = ap (λ r. filter is_node (saids_of r)) more ∙ h.lines ∙ ap (λ k. take k (tree_lines s.core)) none_shown ∙ sym (ap (λ k. take k (tree_lines v.core)) (shown ∙ none_shown));
    within = subst (λ k. k ≤ length (tree_lines v.core)) (sym (shown ∙ none_shown)) (zero_within (length (tree_lines v.core)));
    whole = λ some. absurd (not_less 0 v.core.shown some (sym (shown ∙ none_shown)));
    ended = λ e. absurd (not_ended (sym (ap (λ r. list_any is_end (saids_of r)) more) ∙ e));
  }

nil_deeds : (deeds : List Deed) → deeds ++ [] ≡ deeds
nil_deeds deeds = nil_right deeds

read_lines_on : (s : State) (sector : ℕ) (heard : Heard) → CanRead s.core sector → AreLinesRead s → AreLinesRead (next s (Read sector) heard)
read_lines_on s sector (Got block) can h = read_on s h sector can (next s (Read sector) (Got block)) refl (nil_deeds s.record_)
read_lines_on s sector Nothing can h = read_on s h sector can (next s (Read sector) Nothing) refl (nil_deeds s.record_)
read_lines_on s sector GetFailed can h = read_on s h sector can (next s (Read sector) GetFailed) refl (nil_deeds s.record_)
read_lines_on s sector Written can h = read_on s h sector can (next s (Read sector) Written) refl (nil_deeds s.record_)
read_lines_on s sector Late can h = read_on s h sector can (next s (Read sector) Late) refl (nil_deeds s.record_)
read_lines_on s sector (PutFailed new) can h = read_on s h sector can (next s (Read sector) (PutFailed new)) refl (nil_deeds s.record_)

-- the next line of the tree
show_lines : (s : State) (place : ℕ) (heard : Heard) → CanShow s.core place → AreLinesRead s → AreLinesRead (next s (Show place) heard)
show_lines s place heard can h = record {
  lines =
      ap (filter is_node) saids ∙ filter-append is_node (saids_of s.record_) (x ∷ []) ∙ ap (λ b. nodes s ++ (if b then x ∷ [] else [])) is
      ∙ ap (λ l. l ++ x ∷ []) h.lines ∙ sym (take_more s.core.shown (tree_lines s.core) x there) ∙ ap (λ n. take n (tree_lines s.core)) (sym (next_is s.core.shown));
  within = one_within s.core.shown (length (tree_lines s.core)) low;
  whole = λ some. none_is (tree_needs s.core) can.read.whole;
  ended = λ e. absurd (not_yet (sym (ap (list_any is_end) saids ∙ list_any-append is_end (saids_of s.record_) (x ∷ []) ∙ ap (λ b. is_ended s || (b || false)) (node_not_end x is) ∙ or_false (is_ended s)) ∙ e));
}
  where
    low : s.core.shown < length (tree_lines s.core)
    low = subst (λ k. k < length (tree_lines s.core)) can.next (ltb-true place (length (tree_lines s.core)) can.there)

    x : Said
    x = get_or (tree_lines s.core) s.core.shown said.End

    there : slice_get (tree_lines s.core) s.core.shown ≡ Some x
    there = slice_get-get_or (tree_lines s.core) s.core.shown said.End low

    is : is_node x ≡ true
    is = tree_nodes s.core.setting.segments s.core.read x (got_in (tree_lines s.core) s.core.shown x there)

    told : deeds_of s.core (Show place) heard ≡ Says x ∷ []
    told = ap (λ k. says_at k) can.next ∙ ap said_so there
      where
        said_so : Option Said → List Deed
        said_so None = []
        said_so (Some line) = Says line ∷ []

        says_at : ℕ → List Deed
        says_at k = deeds_of s.core (Show k) heard

    saids : saids_of (s.record_ ++ deeds_of s.core (Show place) heard) ≡ saids_of s.record_ ++ x ∷ []
    saids = filter_map-append said_by s.record_ (deeds_of s.core (Show place) heard) ∙ ap (λ d. saids_of s.record_ ++ saids_of d) told

    not_yet : is_ended s ≡ true → ⊥
    not_yet e = not_less s.core.shown (length (tree_lines s.core)) low (h.ended e).1

end_lines : (s : State) (heard : Heard) → CanEnd s.core → AreLinesRead s → AreLinesRead (next s End heard)
end_lines s heard can h = record {
  lines = ap (filter is_node) saids ∙ filter-append is_node (saids_of s.record_) (said.End ∷ []) ∙ nil_right (nodes s) ∙ h.lines;
  within = h.within;
  whole = h.whole;
  ended = λ e. (none_is (tree_needs s.core) can.read.whole, can.said);
}
  where
    saids : saids_of (s.record_ ++ Says said.End ∷ []) ≡ saids_of s.record_ ++ said.End ∷ []
    saids = filter_map-append said_by s.record_ (Says said.End ∷ [])

-- ---- steps

note_none : (x : Said) → IsTrue (is_note x) → list_any is_of_tree (x ∷ []) ≡ false
note_none (said.Backup line) n = refl
note_none (said.Locks line) n = refl
note_none x n = absurd (false≢true n)

event_lines : (s : State) (event : Event) (heard : Heard) → CanGoing s.core event → IsOfHost event ⊎ Leaves s.core event heard → AreLinesRead s → AreLinesRead (next s event heard)
event_lines s event heard can (inr leaves) h = silent s (next s event heard) (deeds_of s.core event heard) leaves.same refl leaves.none h
event_lines s event heard can (inl of) h = by_host event can of
  where
    by_host : (event : Event) → CanGoing s.core event → IsOfHost event → AreLinesRead (next s event heard)
    by_host event can (Reads sector) = read_lines_on s sector heard can h
    by_host event can (Shows place) = show_lines s place heard can h
    by_host event can Ends = end_lines s heard can h

step_lines : (s v : State) → Step s v → AreLinesRead s → AreLinesRead v
step_lines s v (Event_ event heard makes) h = event_lines s event heard makes.can.can (left_by s.core event heard) h
step_lines s v (Enter a line can) h = carried s v (record { setting = refl; read = refl; shown = refl }) refl refl h
step_lines s v (Hold a on may) h = carried s v (record { setting = refl; read = refl; shown = refl }) refl refl h
step_lines s v (Flush a may) h = carried s v (record { setting = refl; read = refl; shown = refl }) refl refl h
step_lines s v (Relock locks going are same wait) h = carried s v (record { setting = refl; read = refl; shown = refl }) refl refl h
step_lines s v (Note line may) h =
    silent s v (Says line ∷ []) (record { setting = refl; read = refl; shown = refl }) refl (note_none line (and_parts (is_note line) (goes_on s.core) may).0) h
step_lines s v (Peek sector going) h = h
step_lines s v (PeekFails sector going) h = carried s v (record { setting = refl; read = refl; shown = refl }) refl refl h

pub lines_of_run : (setting : Setting) (disk : Sectors) (s : State) → Run (first_state setting disk) s → AreLinesRead s
lines_of_run setting disk =
    along setting disk AreLinesRead (λ s v before step h. step_lines s v step h)
    (record { lines = refl; within = zero_within (length (tree_lines (first_state setting disk).core)); whole = λ some. absurd (not_less 0 0 some refl); ended = λ e. absurd (false≢true e) })
