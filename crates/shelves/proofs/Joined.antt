-- The shelves once bits have joined the shelf of a frame.
use Rattle.std.proofs.Common.{◌≡◌, ℕ, zero, suc, ◌+◌, ◌<◌, Bool, cond, ◌||◌, T, ◌⊎◌, List, [], ◌∷◌, ◌++◌, length, get_or, set, refl, arith}
use Rattle.std.proofs.lemmas.Bool.Decides.{nat_tests}
use Rattle.model.specs.Tasks.{Task, Position}
use Rattle.model.specs.Frames.{code, frame_size}
use Rattle.shelves.specs.Shelves.{Shelf, held, held_at, has_shelf, place, shelved, Each, Grows, Apart, bytes_for, pool_used}
use Rattle.shelves.specs.Filing.{joined}
use Rattle.shelves.proofs.Growing.{grows_self}

abbrev pub shelf : ℕ → (ℕ → Bool) → Shelf
shelf f bits = record { frame = f; bits = bits }

pub joined_grows : (ss : List Shelf) (f : ℕ) (bits : ℕ → Bool) → Grows ss (joined ss f bits)
joined_grows [] f bits = tt
joined_grows (s ∷ ss) f bits = grind (arith, joined_grows ss f bits, grows_self ss)

-- ---- the positions on the shelves

module _ (t : Task) (p : Position) where
  -- what is on them was there, or has joined
  pub held_joined : (ss : List Shelf) (f : ℕ) (bits : ℕ → Bool) → T (held t (joined ss f bits) p) → T (held t ss p) ⊎ T (bits (code t f p))
  held_joined [] f bits h = grind arith
  held_joined (s ∷ ss) f bits h = grind (arith, nat_tests, held_joined ss f bits)

  -- what has joined is on the frame's shelf
  pub joined_held : (ss : List Shelf) (f : ℕ) (bits : ℕ → Bool) → T (bits (code t f p)) → T (held_at t (joined ss f bits) (place ss f) p)
  joined_held [] f bits h = h
  joined_held (s ∷ ss) f bits h = grind (arith, nat_tests, joined_held ss f bits)

-- ---- what holds of each shelf

-- a fact that two sets of one frame pass on to their union
pub each_joined : (P : ℕ → (ℕ → Bool) → Type 0) → ((f : ℕ) (a b : ℕ → Bool) → P f a → P f b → P f (λ c. a c || b c))
    → (ss : List Shelf) (f : ℕ) (bits : ℕ → Bool) → Each (λ s. P s.frame s.bits) ss → P f bits → Each (λ s. P s.frame s.bits) (joined ss f bits)
each_joined P union [] f bits e h = (h, tt)
each_joined P union (s ∷ ss) f bits e h = grind (arith, nat_tests, union s.frame s.bits bits, each_joined P union ss f bits)

pub joined_apart : (ss : List Shelf) (f : ℕ) (bits : ℕ → Bool) → Apart ss → Apart (joined ss f bits)
joined_apart [] f bits a = (tt, tt)
joined_apart (s ∷ ss) f bits a =
    grind (arith, nat_tests, each_joined (λ g x. g ≡ s.frame → ⊥) (λ g x y h k. h) ss f bits a.0, joined_apart ss f bits)

-- ---- the list itself

-- a frame without a shelf gets one at the end
pub joined_new : (ss : List Shelf) (f : ℕ) (bits : ℕ → Bool) → Each (λ s. s.frame ≡ f → ⊥) ss → (joined ss f bits ≡ ss ++ (shelf f bits ∷ [])) × (place ss f ≡ length ss)
joined_new [] f bits e = (refl, refl)
joined_new (s ∷ ss) f bits e = grind (arith, nat_tests, joined_new ss f bits)

-- a frame's first shelf gets the bits
pub joined_at : (d : Shelf) (ss : List Shelf) (f : ℕ) (bits : ℕ → Bool) (i : ℕ) → i < length ss → (get_or ss i d).frame ≡ f → ((k : ℕ) → k < i → (get_or ss k d).frame ≡ f → ⊥)
    → (joined ss f bits ≡ set ss i (shelf (get_or ss i d).frame (λ c. (get_or ss i d).bits c || bits c))) × (place ss f ≡ i)
joined_at d [] f bits i h e first = absurd (omega arith)
joined_at d (s ∷ ss) f bits zero h e first = grind (arith, nat_tests)
joined_at d (s ∷ ss) f bits (suc i) h e first =
    grind (arith, nat_tests, first 0, joined_at d ss f bits i (omega arith) e (λ k l x. first (suc k) (omega arith) x))

-- ---- the bits of a frame's shelf, and the bytes that all take

pub shelved_joined : (ss : List Shelf) (f : ℕ) (bits : ℕ → Bool) (c : ℕ) → shelved (joined ss f bits) f c ≡ (shelved ss f c || bits c)
shelved_joined [] f bits c = grind (arith, nat_tests)
shelved_joined (s ∷ ss) f bits c = grind (arith, nat_tests, shelved_joined ss f bits c)

pub shelved_joined_other : (ss : List Shelf) (f g : ℕ) (bits : ℕ → Bool) (c : ℕ) → (f ≡ g → ⊥) → shelved (joined ss f bits) g c ≡ shelved ss g c
shelved_joined_other [] f g bits c other = grind (arith, nat_tests)
shelved_joined_other (s ∷ ss) f g bits c other = grind (arith, nat_tests, shelved_joined_other ss f g bits c)

pub pool_joined : (t : Task) (ss : List Shelf) (f : ℕ) (bits : ℕ → Bool) → pool_used t (joined ss f bits) ≡ pool_used t ss + cond (has_shelf ss f) 0 (bytes_for (frame_size t f))
pool_joined t [] f bits = omega arith
pool_joined t (s ∷ ss) f bits = grind (arith, pool_joined t ss f bits)
