-- One shelf more in memory, and bits that join one of the shelves: how the layout is kept.
use Rattle.std.proofs.Common.{◌≡◌, ℕ, ◌+◌, ◌<◌, ◌≤◌, true, false, ◌≢◌, List, [], ◌∷◌, ◌++◌, map, length, get_or, take, drop, set, sym, refl, ap, ◌∙◌, subst, ⊎_elim, arith, get_or-set_other, get_or-set_same, below_more}
use borrow.Rule.Slice.PartMut.{put_mid}
use Rattle.std.proofs.lemmas.List.{get_or_default, take-set, take-set-le, take_more_set, map-set, length-map, take_more, take-take, take-append-drop}
use Rattle.std.proofs.lemmas.Bool.{cases_eq, cases_order, both_ways}
use Rattle.shelves.specs.Shelves.{bit_of, bytes_for}
use Rattle.records.specs.declared.shelf.Shelf.{Shelf}
use Rattle.records.specs.Records.{bytes_of}
use Rattle.records.specs.Layout.{laid, Placed, Distinct, Counted, Sized, NoSpare}
use Rattle.records.proofs.Laying.{window_below, window_above, window_same}

laid-++ : (xs ys : List Shelf) → laid (xs ++ ys) ≡ laid xs + laid ys
laid-++ [] ys = omega arith
laid-++ (x ∷ xs) ys = omega (arith, laid-++ xs ys)

laid_up : (rs : List Shelf) (j n : ℕ) → j ≤ n → laid (take j rs) ≤ laid (take n rs)
laid_up rs j n h =
    let a = ap laid (take-append-drop j (take n rs)) in
    let b = laid-++ (take j (take n rs)) (drop j (take n rs)) in
    let c = ap laid (take-take j n rs h) in
    omega arith

-- ---- where the shelves lie

module _ (rs : List Shelf) (n : ℕ) (long : n ≤ length rs) (placed : Placed rs n) where
  next_place : (i : ℕ) (d : Shelf) → i < n → (get_or rs i d).at + bytes_for (get_or rs i d).frame.size ≡ laid (take (i + 1) rs)
  next_place i d h =
      let e : laid (take (i + 1) rs) ≡ laid (take i rs) + (bytes_for (get_or rs i d).frame.size + 0) = ap laid (take_more rs i d (omega arith)) ∙ laid-++ (take i rs) (get_or rs i d ∷ []) in
      omega (arith, placed i d h)

  pub inside_top : (i : ℕ) (d : Shelf) → i < n → (get_or rs i d).at + bytes_for (get_or rs i d).frame.size ≤ laid (take n rs)
  inside_top i d h = omega (arith, next_place i d h, laid_up rs (i + 1) n (omega arith))

  before_next : (i j : ℕ) (d : Shelf) → i < j → j < n → (get_or rs i d).at + bytes_for (get_or rs i d).frame.size ≤ (get_or rs j d).at
  before_next i j d l h = omega (arith, next_place i d (omega arith), laid_up rs (i + 1) j (omega arith), placed j d h)

-- ---- one shelf more

module _ (rs : List Shelf) (n : ℕ) (s : Shelf) (h : n < length rs) where
  -- what holds of the new shelf, and of the shelf that was at i, holds of the shelf at i
  pushed : (P : Shelf → Type 0) (i : ℕ) (d : Shelf) → i < n + 1 → (i ≡ n → P s) → (i < n → P (get_or rs i d)) → P (get_or (set rs n s) i d)
  pushed P i d l here before = ⊎_elim
      (λ q. subst P (sym (ap (λ k. get_or (set rs n s) k d) q ∙ get_or-set_same rs n s d h)) (here q))
      (λ ne. subst P (sym (get_or-set_other rs n i s d ne)) (before (omega arith)))
      (cases_eq i n)

  pub laid_push : laid (take (n + 1) (set rs n s)) ≡ laid (take n rs) + bytes_for s.frame.size
  laid_push = ap laid (take_more_set rs n s h) ∙ laid-++ (take n rs) (s ∷ []) ∙ omega arith

  pub placed_push : Placed rs n → s.at ≡ laid (take n rs) → Placed (set rs n s) (n + 1)
  placed_push p e i d l = pushed (λ x. x.at ≡ laid (take i (set rs n s))) i d l
      (λ q. e ∙ sym (ap (λ k. laid (take k (set rs n s))) q ∙ ap laid (take-set rs n s)))
      (λ k. let le : i ≤ n = omega arith in p i d k ∙ sym (ap laid (take-set-le i rs n s le)))

  pub distinct_push : Distinct rs n → ((i : ℕ) (d : Shelf) → i < n → (get_or rs i d).frame.mask ≡ s.frame.mask → ⊥) → Distinct (set rs n s) (n + 1)
  distinct_push p lacks i j d (l, k, e) =
      pushed (λ x. (get_or (set rs n s) i d).frame.mask ≡ x.frame.mask → ⊥) j d k
      (λ q. pushed (λ x. x.frame.mask ≡ s.frame.mask → ⊥) i d (omega arith) (λ r. absurd (omega arith)) (lacks i d))
      (λ o. pushed (λ x. x.frame.mask ≡ (get_or rs j d).frame.mask → ⊥) i d (omega arith) (λ r. absurd (omega arith)) (λ r u. p i j d (l, o, u)))
      e

  pub counted_push : (m : ℕ) → Counted m rs n → s.frame.n ≡ m → Counted m (set rs n s) (n + 1)
  counted_push m p e i d l = pushed (λ x. x.frame.n ≡ m) i d l (λ q. e) (p i d)

  pub sized_push : (sizes : List ℕ) → Sized sizes rs n → s.frame.sizes ≡ sizes → Sized sizes (set rs n s) (n + 1)
  sized_push sizes p e =
      let f : Shelf → List ℕ = λ x. x.frame.sizes in
      below_more (λ i. get_or (map f (set rs n s)) i [] ≡ sizes) n
      (λ k l. let ne : k ≢ n = omega arith in ap (λ xs. get_or xs k []) (map-set f rs n s) ∙ get_or-set_other (map f rs) n k (f s) [] ne ∙ p k l)
      (ap (λ xs. get_or xs n []) (map-set f rs n s) ∙ get_or-set_same (map f rs) n (f s) [] (let q = length-map rs f in omega arith) ∙ e)

-- ---- spare bits

module _ (rs : List Shelf) (n : ℕ) (long : n ≤ length rs) (placed : Placed rs n) (pool ys : List ℕ) where
  -- a write past all shelves, where one more then lies
  pub spare_push : (s : Shelf) (k : ℕ) → n < length rs → s.at ≡ laid (take n rs) → bytes_for s.frame.size ≡ k → s.at + k ≤ length pool → length ys ≡ k → ((c : ℕ) → bit_of ys c ≡ false) → NoSpare pool rs n
      → NoSpare (put_mid s.at k pool ys) (set rs n s) (n + 1)
  spare_push s k h at size fits full none p i c d (l, b) = pushed rs n s h (λ x. bit_of (bytes_of (put_mid s.at k pool ys) x) c ≡ true → c < x.frame.size) i d l
      (λ q u.
      let window : bytes_of (put_mid s.at k pool ys) s ≡ ys = ap (λ w. take w (drop s.at (put_mid s.at k pool ys))) size ∙ window_same s.at k pool ys fits full in
      absurd (both_ways (bit_of ys c) (none c) (subst (λ xs. bit_of xs c ≡ true) window u)))
      (λ o u.
      let x = get_or rs i d in
      let window : bytes_of (put_mid s.at k pool ys) x ≡ bytes_of pool x = window_below s.at k pool ys fits full x.at (bytes_for x.frame.size) (omega (arith, at, inside_top rs n long placed i d o)) in
      p i c d (o, subst (λ xs. bit_of xs c ≡ true) window u))
      b

  -- a write of the bytes of the shelf x, which has the number i
  pub spare_join : (i : ℕ) (x : Shelf) (k : ℕ) → i < n → x ≡ get_or rs i x → bytes_for x.frame.size ≡ k → x.at + k ≤ length pool → length ys ≡ k → ((c : ℕ) → bit_of ys c ≡ true → c < x.frame.size) → NoSpare pool rs n
      → NoSpare (put_mid x.at k pool ys) rs n
  spare_join i x k h e size fits full none p j c d (l, b) = ⊎_elim
      (λ q.
      let here : get_or rs j d ≡ x = same j q d in
      let window : bytes_of (put_mid x.at k pool ys) x ≡ ys = ap (λ w. take w (drop x.at (put_mid x.at k pool ys))) size ∙ window_same x.at k pool ys fits full in
      subst (λ (y : Shelf). c < y.frame.size) (sym here) (none c (subst (λ xs. bit_of xs c ≡ true) window (subst (λ (y : Shelf). bit_of (bytes_of (put_mid x.at k pool ys) y) c ≡ true) here b))))
      (λ o. p j c d (l, subst (λ xs. bit_of xs c ≡ true) (⊎_elim (below j d l) (above j d l) o) b))
      (cases_order j i)
    where
      same : (j : ℕ) → j ≡ i → (d : Shelf) → get_or rs j d ≡ x
      same j q d = ap (λ k. get_or rs k d) q ∙ get_or_default rs i d x (omega arith) ∙ sym e

      at_x : (d : Shelf) → (get_or rs i d).at ≡ x.at
      at_x d = ap (λ (y : Shelf). y.at) (same i refl d)

      below : (j : ℕ) (d : Shelf) → j < n → j < i → bytes_of (put_mid x.at k pool ys) (get_or rs j d) ≡ bytes_of pool (get_or rs j d)
      below j d l o =
          let y = get_or rs j d in
          window_below x.at k pool ys fits full y.at (bytes_for y.frame.size) (omega (arith, before_next rs n long placed j i d o h, at_x d))

      above : (j : ℕ) (d : Shelf) → j < n → i < j → bytes_of (put_mid x.at k pool ys) (get_or rs j d) ≡ bytes_of pool (get_or rs j d)
      above j d l o =
          let y = get_or rs j d in
          let w : bytes_for (get_or rs i d).frame.size ≡ k = ap (λ (z : Shelf). bytes_for z.frame.size) (same i refl d) ∙ size in
          window_above x.at k pool ys fits full y.at (bytes_for y.frame.size) (omega (arith, before_next rs n long placed i j d o l, at_x d, w))
