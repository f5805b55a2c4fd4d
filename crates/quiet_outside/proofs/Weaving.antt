-- Lines woven into acts: what stays of the acts, what comes of the lines, and one act or line more at the end.
use Rattle.std.proofs.Common.{◌≡◌, ◌≤◌, ℕ, ◌+◌, ◌-◌, List, [], ◌∷◌, ◌++◌, length, take, drop, Option, Some, None, option_map, unwrap_or, refl, sym, ap, ◌∙◌, append_assoc, arith, le_trans, le_refl, zero-add, take-append-drop, length-drop, take_all}
use Rattle.std.proofs.lemmas.List.{take-append-le, drop-append-le, drop_all, length-append}
use Rattle.std.proofs.lemmas.List.Elements.{filter-append, filter_map-append}
use Rattle.frang_outside.specs.declared.act.Act.{Act}
use Rattle.frang_outside.specs.declared.act.Act.TheVariants.{Put as Acted, Said}
use Rattle.frang_outside.specs.declared.act.Put.{Put}
use Rattle.frang_outside.specs.declared.act.Taken.{Taken}
use Rattle.frang_outside.specs.Outside.{told_more}
use Rattle.quiet_outside.specs.KeptLines.{ArePuts, Rises, is_put, puts_of, text_of, texts_of, woven}

-- numbers rise to one that isn't below the first
pub rises_le : (from : ℕ) (befores : List ℕ) (lines : List (List ℕ)) (to : ℕ) → Rises from befores lines to → from ≤ to
rises_le from [] [] to r = r
rises_le from [] (l ∷ ls) to r = absurd r
rises_le from (n ∷ ns) [] to r = absurd r
rises_le from (n ∷ ns) (l ∷ ls) to r = le_trans r.0 (rises_le n ns ls to r.1)

-- and to a greater one
pub rises_more : (from : ℕ) (befores : List ℕ) (lines : List (List ℕ)) (to more : ℕ) → Rises from befores lines to → to ≤ more → Rises from befores lines more
rises_more from [] [] to more r h = le_trans r h
rises_more from [] (l ∷ ls) to more r h = absurd r
rises_more from (n ∷ ns) [] to more r h = absurd r
rises_more from (n ∷ ns) (l ∷ ls) to more r h = (r.0, rises_more n ns ls to more r.1 h)

-- one line more
pub rises_push : (line : List ℕ) (from : ℕ) (befores : List ℕ) (lines : List (List ℕ)) (to : ℕ) → Rises from befores lines to → Rises from (befores ++ to ∷ []) (lines ++ line ∷ []) to
rises_push line from [] [] to r = (r, le_refl to)
rises_push line from [] (l ∷ ls) to r = absurd r
rises_push line from (n ∷ ns) [] to r = absurd r
rises_push line from (n ∷ ns) (l ∷ ls) to r = (r.0, rises_push line n ns ls to r.1)

-- the acts that are left behind a line
left_of : (behind n to : ℕ) (acts : List Act) → behind ≤ n → n ≤ to → to ≡ behind + length acts → to ≡ n + length (drop (n - behind) acts)
left_of behind n to acts a b e = omega (arith, length-drop (n - behind) acts, a, b, e)

within_of : (behind n to : ℕ) (acts : List Act) → n ≤ to → to ≡ behind + length acts → n - behind ≤ length acts
within_of behind n to acts b e = omega (arith, b, e)

-- one act more
pub woven_act : (act : Act) (behind : ℕ) (befores : List ℕ) (lines : List (List ℕ)) (acts : List Act) (to : ℕ) → Rises behind befores lines to → to ≡ behind + length acts → woven behind befores lines (acts ++ act ∷ []) ≡ woven behind befores lines acts ++ act ∷ []
woven_act act behind [] [] acts to r e = refl
woven_act act behind [] (l ∷ ls) acts to r e = absurd r
woven_act act behind (n ∷ ns) [] acts to r e = absurd r
woven_act act behind (n ∷ ns) (l ∷ ls) acts to r e =
    let fits : n - behind ≤ length acts = within_of behind n to acts (rises_le n ns ls to r.1) e in
    ap (λ xs. xs ++ Said l ∷ woven n ns ls (drop (n - behind) (acts ++ act ∷ []))) (take-append-le (n - behind) acts (act ∷ []) fits)
    ∙ ap (λ xs. take (n - behind) acts ++ Said l ∷ woven n ns ls xs) (drop-append-le (n - behind) acts (act ∷ []) fits)
    ∙ ap (λ xs. take (n - behind) acts ++ Said l ∷ xs) (woven_act act n ns ls (drop (n - behind) acts) to r.1 (left_of behind n to acts r.0 (rises_le n ns ls to r.1) e))
    ∙ sym (append_assoc (take (n - behind) acts) (Said l ∷ woven n ns ls (drop (n - behind) acts)) (act ∷ []))

-- one line more, behind all acts
pub woven_line : (line : List ℕ) (behind : ℕ) (befores : List ℕ) (lines : List (List ℕ)) (acts : List Act) (to : ℕ) → Rises behind befores lines to → to ≡ behind + length acts → woven behind (befores ++ to ∷ []) (lines ++ line ∷ []) acts ≡ woven behind befores lines acts ++ Said line ∷ []
woven_line line behind [] [] acts to r e =
    let all : length acts ≤ to - behind = omega (arith, e) in
    ap (λ xs. xs ++ Said line ∷ drop (to - behind) acts) (take_all (to - behind) acts all)
    ∙ ap (λ xs. acts ++ Said line ∷ xs) (drop_all (to - behind) acts all)
woven_line line behind [] (l ∷ ls) acts to r e = absurd r
woven_line line behind (n ∷ ns) [] acts to r e = absurd r
woven_line line behind (n ∷ ns) (l ∷ ls) acts to r e =
    ap (λ xs. take (n - behind) acts ++ Said l ∷ xs) (woven_line line n ns ls (drop (n - behind) acts) to r.1 (left_of behind n to acts r.0 (rises_le n ns ls to r.1) e))
    ∙ sym (append_assoc (take (n - behind) acts) (Said l ∷ woven n ns ls (drop (n - behind) acts)) (Said line ∷ []))

-- without what they say, acts with lines are the acts without what those say
pub woven_puts : (behind : ℕ) (befores : List ℕ) (lines : List (List ℕ)) (acts : List Act) → puts_of (woven behind befores lines acts) ≡ puts_of acts
woven_puts behind [] lines acts = refl
woven_puts behind (n ∷ ns) [] acts = refl
woven_puts behind (n ∷ ns) (l ∷ ls) acts =
    filter-append is_put (take (n - behind) acts) (Said l ∷ woven n ns ls (drop (n - behind) acts))
    ∙ ap (λ xs. puts_of (take (n - behind) acts) ++ xs) (woven_puts n ns ls (drop (n - behind) acts))
    ∙ sym (filter-append is_put (take (n - behind) acts) (drop (n - behind) acts))
    ∙ ap puts_of (take-append-drop (n - behind) acts)

-- both parts of nothing are nothing
none_of_both : {A : Type 0} → (xs ys : List A) → xs ++ ys ≡ [] → (xs ≡ []) × (ys ≡ [])
none_of_both [] ys e = (refl, e)
none_of_both (x ∷ xs) ys e = cc

-- what acts with lines say are the lines, where the acts say nothing
pub woven_texts : (behind : ℕ) (befores : List ℕ) (lines : List (List ℕ)) (acts : List Act) (to : ℕ) → Rises behind befores lines to → texts_of acts ≡ [] → texts_of (woven behind befores lines acts) ≡ lines
woven_texts behind [] [] acts to r none = none
woven_texts behind [] (l ∷ ls) acts to r none = absurd r
woven_texts behind (n ∷ ns) [] acts to r none = absurd r
woven_texts behind (n ∷ ns) (l ∷ ls) acts to r none =
    let parts : (texts_of (take (n - behind) acts) ≡ []) × (texts_of (drop (n - behind) acts) ≡ []) =
    none_of_both (texts_of (take (n - behind) acts)) (texts_of (drop (n - behind) acts)) (sym (filter_map-append text_of (take (n - behind) acts) (drop (n - behind) acts)) ∙ ap texts_of (take-append-drop (n - behind) acts) ∙ none) in
    filter_map-append text_of (take (n - behind) acts) (Said l ∷ woven n ns ls (drop (n - behind) acts))
    ∙ ap (λ xs. xs ++ l ∷ texts_of (woven n ns ls (drop (n - behind) acts))) parts.0
    ∙ ap (λ xs. l ∷ xs) (woven_texts n ns ls (drop (n - behind) acts) to r.1 parts.1)

-- told acts with one put more
pub puts_more : (told : Option (List Act)) (puts : ℕ) (put : Put) (taken : Taken) → ArePuts told puts → ArePuts (told_more told (Acted put taken)) (puts + 1)
puts_more None puts put taken is = tt
puts_more (Some acts) puts put taken is = (
  (length-append acts (Acted put taken ∷ []) ∙ ap (λ n. n + 1) is.0),
  (filter-append is_put acts (Acted put taken ∷ []) ∙ ap (λ xs. xs ++ Acted put taken ∷ []) is.1),
  (filter_map-append text_of acts (Acted put taken ∷ []) ∙ ap (λ xs. xs ++ []) is.2),
)

-- lines woven into told acts and one put more
pub told_act : (befores : List ℕ) (lines : List (List ℕ)) (told : Option (List Act)) (puts : ℕ) (act : Act) → ArePuts told puts → Rises 0 befores lines puts → option_map (woven 0 befores lines) (told_more told act) ≡ told_more (option_map (woven 0 befores lines) told) act
told_act befores lines None puts act is r = refl
told_act befores lines (Some acts) puts act is r = ap Some (woven_act act 0 befores lines acts puts r (sym (zero-add (length acts) ∙ is.0)))

-- one line more woven into told acts
pub told_line : (befores : List ℕ) (lines : List (List ℕ)) (told : Option (List Act)) (puts : ℕ) (line : List ℕ) → ArePuts told puts → Rises 0 befores lines puts → option_map (woven 0 (befores ++ puts ∷ []) (lines ++ line ∷ [])) told ≡ told_more (option_map (woven 0 befores lines) told) (Said line)
told_line befores lines None puts line is r = refl
told_line befores lines (Some acts) puts line is r = ap Some (woven_line line 0 befores lines acts puts r (sym (zero-add (length acts) ∙ is.0)))

-- the acts below are those told without what they say
pub told_puts : (befores : List ℕ) (lines : List (List ℕ)) (told : Option (List Act)) (puts : ℕ) → ArePuts told puts → told ≡ option_map puts_of (option_map (woven 0 befores lines) told)
told_puts befores lines None puts is = refl
told_puts befores lines (Some acts) puts is = ap Some (sym (woven_puts 0 befores lines acts ∙ is.1))

-- the lines are what the acts say that are told
pub told_texts : (befores : List ℕ) (lines : List (List ℕ)) (told : Option (List Act)) (puts : ℕ) → ArePuts told puts → Rises 0 befores lines puts → (acts : List Act) → option_map (woven 0 befores lines) told ≡ Some acts → lines ≡ texts_of acts
told_texts befores lines None puts is r acts e = cc
told_texts befores lines (Some inner) puts is r acts e = sym (woven_texts 0 befores lines inner puts r is.2) ∙ ap (λ told. texts_of (unwrap_or told [])) e
