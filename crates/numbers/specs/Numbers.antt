-- The numbers of frames. The variables of a mask, ascending, are the candidates; the sets of k candidates are numbered from 0 in the order
-- of their ascending lists, compared at the first difference.
use Rattle.std.specs.Prelude.{◌≡◌, ℕ, zero, suc, ◌+◌, ◌-◌, ◌^◌, ◌<◌, min, true, false, cond, ◌↔◌, List, [], ◌∷◌, ◌++◌, map, length, Some, None, Option, slice_index}
use Rattle.model.specs.LeaveOut.{has}
use Rattle.model.specs.Frames.{choose, In, InOrder, Chosen}

-- how many of the n variables from v on are in the mask
unfoldable pub count : ℕ → ℕ → ℕ → ℕ
count f zero v = 0
count f (suc n) v = cond (has f v) 1 0 + count f n (suc v)

-- the sets of k candidates among the n variables from v on: those with v come before those without
unfoldable pub among : ℕ → ℕ → ℕ → ℕ → List ℕ
among c n v zero = 0 ∷ []
among c zero v (suc k) = []
among c (suc n) v (suc k) = cond (has c v) (map (λ f. 2 ^ v + f) (among c n (suc v) k)) [] ++ among c n (suc v) (suc k)

-- how many sets of k candidates have the next one, where so many follow it
abbrev pub before : ℕ → ℕ → ℕ
before left zero = 0
before left (suc k) = length (choose left k)

-- all sets of k candidates
abbrev pub frames : ℕ → ℕ → List ℕ
frames c k = among c 32 0 k

-- each set of k candidates is listed, and nothing else, in the order of their ascending lists; once, since no list is earlier than itself
pub record Listed (c k : ℕ) : Type 0 where
  pub each : (f : ℕ) → In f (frames c k) ↔ ((f < 2 ^ 32) × (count f 32 0 ≡ k) × ((v : ℕ) → has f v ≡ true → has c v ≡ true))
  pub order : InOrder 32 (frames c k)

-- the variables below n as candidates, of which there are 32 at most: the sets of k of them are all sets of k of n variables
pub record Lowest (n c : ℕ) : Type 0 where
  pub mask : c ≡ 2 ^ min n 32 - 1
  pub all : (k : ℕ) → frames c k ≡ choose (min n 32) k
  pub chosen : (k : ℕ) → Chosen (min n 32) k

-- the number of a set of candidates, and none where a variable of the set is no candidate
abbrev pub Numbered : ℕ → ℕ → Option ℕ → Type 0
Numbered c f (Some i) = (i < length (frames c (count f 32 0))) × (slice_index (frames c (count f 32 0)) i ≡ f)
Numbered c f None = (v : ℕ) × (has f v ≡ true) × (has c v ≡ false)

-- the set of k candidates with this number, and none where there are not so many
abbrev pub FrameOf : ℕ → ℕ → ℕ → Option ℕ → Type 0
FrameOf c k i (Some f) = (i < length (frames c k)) × (f ≡ slice_index (frames c k) i)
FrameOf c k i None = i < length (frames c k) → ⊥

-- the set after this one, and none after the last, nor after one with a variable that is no candidate
abbrev pub After : ℕ → ℕ → Option ℕ → Option ℕ → Type 0
After c f (Some i) r = FrameOf c (count f 32 0) (i + 1) r
After c f None r = r ≡ None

abbrev pub FrameAfter : ℕ → ℕ → Option ℕ → Type 0
FrameAfter c f r = (number : Option ℕ) × Numbered c f number × After c f number r
