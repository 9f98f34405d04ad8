-- A set of variables inside another: the smaller projection is a reduction of the larger, and codes in it are the same.
use Rattle.std.proofs.Common.{◌≡◌, ℕ, zero, suc, T, refl, ap, sym, ◌∙◌, subst, arith}
use Rattle.std.proofs.lemmas.Bool.Decides.{nat_tests}
use Rattle.std.proofs.lemmas.Nat.Bits.{bit_at_and}
use Rattle.model.specs.Tasks.{Task, Position, Legal, Lawful}
use Rattle.model.specs.Reductions.{Reduces, image_of}
use Rattle.model.specs.LeaveOut.{has, kept}
use Rattle.model.specs.Frames.{inside, strictly_inside, onto, code_below, code, values}
use Rattle.model.proofs.Answering.{same_task}
use Rattle.model.proofs.LeavingOut.{leave_out_reduces}
use Rattle.model.proofs.Coding.{code_kept, values_code}

pub inside_strictly : (g f : ℕ) → T (strictly_inside g f) → T (inside g f)
inside_strictly g f h = grind arith

-- a variable of the inner set is one of the outer
pub has_inside : (g f v : ℕ) → T (inside g f) → T (has g v) → T (has f v)
has_inside g f v i h = grind (arith, nat_tests, bit_at_and g f v)

-- ---- the projection of a projection

module _ (g f : ℕ) (t : Task) (i : T (inside g f)) where
  pub onto_onto : onto g (onto f t) ≡ onto g t
  onto_onto =
      let outer : (v : ℕ) → T (has g v) → T (has f v) = λ v. has_inside g f v i in
      same_task (onto g (onto f t)) (onto g t) (grind arith)

  pub leave_more_out : Reduces (onto f t) (onto g t) (kept g)
  leave_more_out = subst (λ u. Reduces (onto f t) u (kept g)) onto_onto (leave_out_reduces g (onto f t))

-- ---- the code in the inner set is that of the image in the outer

inner_below : (t : Task) (g f : ℕ) → T (inside g f) → (p : Position) (v : ℕ) → code_below t g (image_of (kept f) p) v ≡ code_below t g p v
inner_below t g f i p zero = refl
inner_below t g f i p (suc v) = grind (arith, inner_below t g f i p v, has_inside g f v i)

pub code_inside : (t : Task) (g f : ℕ) → T (inside g f) → (p : Position) → code t g (image_of (kept f) p) ≡ code t g p
code_inside t g f i p = inner_below t g f i p t.n

-- so a code tells the codes of its position in all inner sets
pub code_of_values : (t : Task) → Lawful t → (g f : ℕ) → T (inside g f) → (p : Position) → Legal t p → code t g (values t f (code t f p)) ≡ code t g p
code_of_values t law g f i p h =
    ap (λ (c : ℕ). code t g (values t f c)) (sym (code_kept t f p))
    ∙ ap (code t g) (values_code t law f (image_of (kept f) p) ((leave_out_reduces f t).legal p h))
    ∙ code_inside t g f i p
