-- Sets of codes below a bound: whether they have a member, and how many.
use Rattle.std.proofs.Common.{◌≡◌, ℕ, zero, suc, ◌<◌, ◌≤◌, Bool, T, refl, arith}
use Rattle.std.proofs.lemmas.Bool.{cases_order}
use Rattle.shelves.specs.Filing.{some_below, count}

-- ---- a member

pub some_below_has : (n : ℕ) (set : ℕ → Bool) (c : ℕ) → c < n → T (set c) → T (some_below n set)
some_below_has zero set c h b = absurd (omega arith)
some_below_has (suc n) set c h b = grind (arith, cases_order c n, some_below_has n set c)

pub some_below_member : (n : ℕ) (set : ℕ → Bool) → T (some_below n set) → (c : ℕ) × (c < n) × T (set c)
some_below_member zero set h = absurd h
some_below_member (suc n) set h = grind (arith, some_below_member n set)

-- ---- how many

pub count_most : (n : ℕ) (set : ℕ → Bool) → count n set ≤ n
count_most zero set = omega arith
count_most (suc n) set = grind (arith, count_most n set)

pub count_same : (n : ℕ) (a b : ℕ → Bool) → ((c : ℕ) → c < n → a c ≡ b c) → count n a ≡ count n b
count_same zero a b h = refl
count_same (suc n) a b h = grind (arith, h n, count_same n a b)
