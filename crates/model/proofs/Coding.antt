-- The codes below a frame's size are the positions of the projection, one for one.
use Rattle.std.proofs.Common.{◌≡◌, ℕ, zero, suc, ◌/◌, ◌%◌, ◌<◌, ◌≤◌, T, refl, ◌∙◌, subst, ⊎_elim, mod-eq_of_lt, arith}
use mathlib.Core.Path.{fun_ext}
use lib.Arith.{mod-mul}
use Rattle.std.proofs.lemmas.Nat.{mul-add-lt, mod_below, mul-le, same_from_place}
use Rattle.std.proofs.lemmas.Bool.{cases_lt}
use Rattle.model.specs.Tasks.{Task, Position, Legal, Lawful}
use Rattle.model.specs.Reductions.{image_of}
use Rattle.model.specs.LeaveOut.{has, kept}
use Rattle.model.specs.Frames.{onto, width_by, width, code_below, code, frame_size, values, OneForOne}

-- ---- a position's code is that of its image in the projection

code_below_kept : (t : Task) (f : ℕ) (p : Position) (v : ℕ) → code_below t f (image_of (kept f) p) v ≡ code_below t f p v
code_below_kept t f p zero = refl
code_below_kept t f p (suc v) = grind (arith, code_below_kept t f p v)

pub code_kept : (t : Task) (f : ℕ) (p : Position) → code t f (image_of (kept f) p) ≡ code t f p
code_kept t f p = code_below_kept t f p t.n

-- ---- a code is below the frame's size

pub code_below_below : (t : Task) (f : ℕ) (p : Position) → Legal (onto f t) p → (v : ℕ) → code_below t f p v < width t f v
code_below_below t f p h zero = omega arith
code_below_below t f p h (suc v) =
    grind (arith, code_below_below t f p h v, h v, mul-add-lt (p v) (width t f v) (code_below t f p v) (t.size v))

pub code_below_size : (t : Task) (f : ℕ) (p : Position) → Legal (onto f t) p → code t f p < frame_size t f
code_below_size t f p h = code_below_below t f p h t.n

-- a product of more variables is no smaller
pub width_by_up : (size : ℕ → ℕ) (f : ℕ) → ((v : ℕ) → 1 ≤ size v) → (v w : ℕ) → v ≤ w → width_by size f v ≤ width_by size f w
width_by_up size f some v zero h = let e : v ≡ 0 = omega arith in grind (arith, e)
width_by_up size f some v (suc w) h = ⊎_elim
    (λ l. grind (arith, width_by_up size f some v w (omega arith), some w, mul-le (width_by size f w) 1 (width_by size f w) (size w)))
    (λ l. let e : v ≡ suc w = omega arith in grind (arith, e))
    (cases_lt v (suc w))

module _ (t : Task) (law : Lawful t) (f : ℕ) where
  pub width_up : (v w : ℕ) → v ≤ w → width t f v ≤ width t f w
  width_up v w h = width_by_up t.size f (λ u. (law.sizes u).0) v w h

  pub width_pos : (v : ℕ) → 0 < width t f v
  width_pos v = width_up 0 v (omega arith)

  pub values_legal : (c : ℕ) → Legal (onto f t) (values t f c)
  values_legal c v = grind (arith, law.sizes v, mod_below (c / width t f v) (t.size v))

  below_values : (c v : ℕ) → code_below t f (values t f c) v ≡ c % width t f v
  below_values c zero = omega arith
  below_values c (suc v) = grind (arith, below_values c v, mod-mul c (law.sizes v).0 (width_pos v))

  pub code_values : (c : ℕ) → c < frame_size t f → code t f (values t f c) ≡ c
  code_values c h = below_values c t.n ∙ mod-eq_of_lt h

  -- ---- two positions with one code are one

  same_below : (p q : Position) → Legal (onto f t) p → Legal (onto f t) q → (v : ℕ) → code_below t f p v ≡ code_below t f q v → (u : ℕ) → u < v → T (has f u) → p u ≡ q u
  same_below p q hp hq zero e u l i = absurd (omega arith)
  same_below p q hp hq (suc v) e u l i = grind (
    arith,
    same_from_place (p v) (code_below t f p v) (q v) (code_below t f q v) (width t f v),
    code_below_below t f p hp v,
    code_below_below t f q hq v,
    same_below p q hp hq v,
  )

  pub same_code : (p q : Position) → Legal (onto f t) p → Legal (onto f t) q → code t f p ≡ code t f q → p ≡ q
  same_code p q hp hq e = fun_ext (λ u. grind (arith, hp u, hq u, law.outside u, same_below p q hp hq t.n e u))

  pub values_code : (p : Position) → Legal (onto f t) p → values t f (code t f p) ≡ p
  values_code p h = same_code (values t f (code t f p)) p (values_legal (code t f p)) h (code_values (code t f p) (code_below_size t f p h))

  pub one_for_one : OneForOne t f
  one_for_one = (λ c h. (values_legal c, code_values c h), λ p h. (code_below_size t f p h, values_code p h))

  -- ---- what is shown of each code holds of each position, and the other way round

  pub from_codes : (Q : ℕ → Position → Type 0) → ((c : ℕ) → c < frame_size t f → Q c (values t f c)) → (p : Position) → Legal (onto f t) p → Q (code t f p) p
  from_codes Q h p l = subst (Q (code t f p)) (values_code p l) (h (code t f p) (code_below_size t f p l))

  pub to_codes : (Q : ℕ → Position → Type 0) → ((p : Position) → Legal (onto f t) p → Q (code t f p) p) → (c : ℕ) → c < frame_size t f → Q c (values t f c)
  to_codes Q h c l = subst (λ x. Q x (values t f c)) (code_values c l) (h (values t f c) (values_legal c))
