-- A value that is passed up through layers, one after the other.
use Rattle.std.proofs.Common.{◌≡◌, List, [], ◌∷◌, ◌++◌, map, Bor, Iter, sym, ap, ◌∙◌}
use mathlib.Core.List.{map-append}
use denote.Param.Members.{Mut}
use Rattle.std.specs.Fn.{Called}
use Rattle.std.specs.Iterator.{Drains}
use Rattle.std.specs.List.{FoldsTo}
use Rattle.std.proofs.lemmas.Fn.{fronts, slice_gives, fold_over}
use Rattle.model.specs.Stack.{Layering}

-- `all` passes a value through a list of layers
module _ {A : Type 0} (all : List Layering → A → A) (none : (x : A) → x ≡ all [] x) (first : (l : Layering) (ls : List Layering) (x : A) → all (l ∷ ls) x ≡ all ls (all (l ∷ []) x)) where
  -- through one layer more, on top
  pub more : (ls : List Layering) (l : Layering) (x : A) → all (ls ++ (l ∷ [])) x ≡ all (l ∷ []) (all ls x)
  more [] l x = ap (all (l ∷ [])) (none x)
  more (j ∷ ls) l x = first j (ls ++ (l ∷ [])) x ∙ more ls l (all (j ∷ []) x) ∙ ap (all (l ∷ [])) (sym (first j ls x))

  -- through the layers ys, and then through l
  pub passed_more : {L : Type 0} (layering : L → Layering) (layers : List Layering) (ys : List L) (l : L) (x y z : A) → layers ≡ layering l ∷ [] → y ≡ all (map layering ys) x → z ≡ all layers y → z ≡ all (map layering (ys ++ (l ∷ []))) x
  passed_more layering layers ys l x y z e h k =
      k
      ∙ ap (λ ls. all ls y) e
      ∙ ap (all (layering l ∷ [])) h
      ∙ sym (more (map layering ys) (layering l) x)
      ∙ ap (λ ls. all ls x) (sym (map-append layering ys (l ∷ [])))

  -- by a fold whose calls pass it through one layer each
  pub passed_all : {L F : Type 0} (layering : L → Layering) (layers : L → List Layering) (alone : (l : L) → layers l ≡ layering l ∷ []) (g : Mut F (A × (Bor L × Unit {0})) A) (f : F) (says : (y : A) (l : Bor L) (z : A) (f' : F) → Called g f (y, (l, tt)) z f' → (z ≡ all (layers l.now) y) × (f' ≡ f)) → (s : Iter L) (x r : A) → (xs : List (Bor L)) × (f' : F) × Drains fronts s xs × FoldsTo {P = F × A} (λ p l q. Called g p.0 (p.1, (l, tt)) q.1 q.0) (f, x) xs (f', r) → r ≡ all (map layering s.rest.now) x
  passed_all layering layers alone g f says s x r ran =
      fold_over fronts (λ l. l.now) g (λ ys y. y ≡ all (map layering ys) x) f
      (λ ys y l z f' h k. let w = says y l z f' k in (passed_more layering (layers l.now) ys l.now x y z (alone l.now) h w.0, w.1))
      s s.rest.now x r (slice_gives s) (none x) ran
