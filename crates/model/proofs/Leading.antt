-- Following operators: where they lead is one place, and all of them are known and apply.
use Rattle.std.proofs.Common.{◌≡◌, ℕ, zero, suc, ◌<◌, List, [], ◌∷◌, ◌++◌, length, get_or, arith}
use Rattle.model.specs.Tasks.{Task, Position, Applies, after, Leads}

pub leads_once : (t : Task) (os : List ℕ) (p q r : Position) → Leads t os p q → Leads t os p r → q ≡ r
leads_once t [] p q r d e = cc
leads_once t (o ∷ os) p q r d e = leads_once t os (after t o p) q r d.2 e.2

pub leads_known : (t : Task) (os : List ℕ) (p q : Position) → Leads t os p q → (i : ℕ) → i < length os → get_or os i 0 < t.m
leads_known t [] p q l i h = absurd (omega arith)
leads_known t (o ∷ os) p q l zero h = l.0
leads_known t (o ∷ os) p q l (suc i) h = leads_known t os (after t o p) q l.2 i (omega arith)

-- one operator more
pub leads_more : (t : Task) (os : List ℕ) (o : ℕ) (p q : Position) → Leads t os p q → o < t.m → Applies t o q → Leads t (os ++ (o ∷ [])) p (after t o q)
leads_more t [] o p q e l a = grind arith
leads_more t (x ∷ os) o p q h l a = (h.0, h.1, leads_more t os o (after t x p) q h.2 l a)

-- the operator that comes next applies
pub leads_next : (t : Task) (before rest : List ℕ) (o : ℕ) (p q r : Position) → Leads t (before ++ (o ∷ rest)) p q → Leads t before p r → Applies t o r
leads_next t [] rest o p q r l b = grind arith
leads_next t (x ∷ before) rest o p q r l b = leads_next t before rest o (after t x p) q r l.2 b.2
