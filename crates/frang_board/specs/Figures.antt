-- Lists of figures, their order, and what a reader has read of what was published.
use Rattle.std.specs.Prelude.{◌≡◌, ℕ, ◌≤◌, Bool, ◌||◌, nat_lt, List, [], ◌∷◌, length, map, slice_index_or}
use Rattle.std.specs.List.{AllByRecursion}
use Rattle.frang_board.specs.declared.figures.Figures.{Figures}

-- nothing was published
abbrev pub zeros : Figures
zeros = record { said = 0; answered = 0; dead = 0; recovered = 0 }

-- the numbers as words
abbrev pub words_of : Figures → List ℕ
words_of f = f.said ∷ f.answered ∷ f.dead ∷ f.recovered ∷ []

-- in no number above the other
abbrev pub AtMost : Figures → Figures → Type 0
AtMost a b = (a.said ≤ b.said) × (a.answered ≤ b.answered) × (a.dead ≤ b.dead) × (a.recovered ≤ b.recovered)

-- one of the numbers is less than the last one
abbrev pub is_behind : Figures → Figures → Bool
is_behind f last = nat_lt f.said last.said || nat_lt f.answered last.answered || nat_lt f.dead last.dead || nat_lt f.recovered last.recovered

-- none of these is in a number above this one
abbrev pub NoneAbove : Figures → List Figures → Type 0
NoneAbove f others = AllByRecursion (λ other. AtMost other f) others

-- the last of a list, or else this one
abbrev pub last_from : Figures → List Figures → Figures
last_from f [] = f
last_from f (x ∷ xs) = last_from x xs

-- the last of a list, or else zeros
abbrev pub last_of : List Figures → Figures
last_of figures = last_from zeros figures

-- from this one on none goes back in a number
abbrev pub Climbs : Figures → List Figures → Type 0
Climbs f [] = Unit {0}
Climbs f (x ∷ xs) = AtMost f x × Climbs x xs

-- what is shown after the first k were published
abbrev pub shown_after : List Figures → ℕ → Figures
shown_after published k = slice_index_or (zeros ∷ published) k zeros

-- the numbers don't fall, from low to top
abbrev pub IsRising : ℕ → List ℕ → ℕ → Type 0
IsRising low [] top = low ≤ top
IsRising low (k ∷ ks) top = (low ≤ k) × IsRising k ks top

-- each thing read is zeros or one of the published, in the order of publishing
abbrev pub Reads : List Figures → List Figures → Type 0
Reads published read = (ks : List ℕ) × IsRising 0 ks (length published) × (read ≡ map (λ k. shown_after published k) ks)
