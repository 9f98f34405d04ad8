-- What a register holds, and what filing a set and finding a plan make of it.
use Rattle.std.specs.Prelude.{ℕ, zero, suc, ◌+◌, Bool, true, false, cond, not, ◌&&◌, ◌||◌, List, [], ◌∷◌, ◌==◌}
use Rattle.model.specs.Tasks.{Task}
use Rattle.model.specs.Frames.{frame_size}
use Rattle.shelves.specs.declared.verdict.Verdict.{Verdict}
use Rattle.shelves.specs.declared.verdict.Verdict.TheVariants as verdict
use Rattle.shelves.specs.Shelves.{Shelf, held_at, place, shelved}

-- the number of variables and their sizes are the opening's; before it there are none
pub record State : Type 0 where
  pub n : ℕ
  pub sizes : ℕ → ℕ
  pub shelves : List Shelf
  pub verdict : Verdict

-- what an opening leaves
abbrev pub opened : Task → State
opened t = record { n = t.n; sizes = t.size; shelves = []; verdict = verdict.Open }

-- ---- sets of codes

-- the set has a member among the codes below n
abbrev pub some_below : ℕ → (ℕ → Bool) → Bool
some_below zero set = false
some_below (suc n) set = set n || some_below n set

-- how many codes below n are in the set
abbrev pub count : ℕ → (ℕ → Bool) → ℕ
count zero set = 0
count (suc n) set = cond (set n) 1 0 + count n set

-- ---- filing

-- the bits join f's shelf, which is made if there is none
abbrev pub joined : List Shelf → ℕ → (ℕ → Bool) → List Shelf
joined [] f set = record { frame = f; bits = set } ∷ []
joined (s ∷ ss) f set = cond (s.frame == f) (record { frame = s.frame; bits = λ c. s.bits c || set c } ∷ ss) (s ∷ joined ss f set)

-- how many bits a filing newly sets
abbrev pub newly : Task → List Shelf → ℕ → (ℕ → Bool) → ℕ
newly t ss f set = count (frame_size t f) (λ c. set c && not (shelved ss f c))

-- an open verdict is hopeless from when the shelf i has the start; no other verdict ever changes
abbrev pub judged : Verdict → Bool → ℕ → Verdict
judged verdict.Open b i = cond b (verdict.Hopeless i) verdict.Open
judged (verdict.Hopeless j) b i = verdict.Hopeless j
judged (verdict.Feasible l) b i = verdict.Feasible l

-- a set that is empty makes no shelf
abbrev pub filed : Task → State → ℕ → (ℕ → Bool) → State
filed t s f set =
    let ss = joined s.shelves f set in
    let i = place s.shelves f in
    cond (some_below (frame_size t f) set) (record { n = s.n; sizes = s.sizes; shelves = ss; verdict = judged s.verdict (held_at t ss i t.start) i }) s

-- ---- plans

abbrev pub found : Verdict → ℕ → Verdict
found verdict.Open l = verdict.Feasible l
found (verdict.Hopeless j) l = verdict.Hopeless j
found (verdict.Feasible k) l = verdict.Feasible k

-- a plan of l operators has been found
abbrev pub planned : State → ℕ → State
planned s l = record { n = s.n; sizes = s.sizes; shelves = s.shelves; verdict = found s.verdict l }

abbrev pub is_hopeless : Verdict → Bool
is_hopeless verdict.Open = false
is_hopeless (verdict.Hopeless j) = true
is_hopeless (verdict.Feasible l) = false
