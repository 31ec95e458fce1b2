-- Sums, products and quotients of numbers whose sizes are known: each is a number again, and of what size. Assumes nothing.
-- Roundings of at most K(n) factors together are at most a factor 2.
use mathlib.Core.Path.{◌≡◌, subst}
use mathlib.Core.Logic.{◌⊎◌, inl, inr}
use Prim.Native.Nat.{ℕ, zero, suc, ◌+◌, ◌*◌, ◌≤◌, ◌<◌, suc-le-suc}
use native.Mathlib.Nat.{le_trans, le_refl, mul-le-mul, mul-le-mul_left, mul-le-mul_right, le_of_mul-le-mul_left, mul-pos, eq-zero-or-pos}
use native.Mathlib.Decide.{dec_le}
use native.Mathlib.Omega.{arith}
use Rattle.basics.specs.Sum.{sum}
use Rattle.basics.specs.Near.{Factor, AtMost, Near}
use Rattle.basics.proofs.SumLaws.{sum_last, sum_most, term_le_sum}
use Rattle.basics.proofs.NearLaws.{near_pos, near_sym, near_more}
use Rattle.basics.proofs.MildLaws.{within_2}
use Rattle.markov.specs.Elimination.{Ops, total}
use Rattle.markov.specs.Count.{bound_count}
use Rattle.markov.specs.Promises.{Added}
use Rattle.markov.proofs.CountLaws.{positives_le}
use Rattle.markov.proofs.Positive.{pos_left, pos_right}
use Rattle.markov.proofs.Rounding.{total_near}
use Rattle.range.specs.Bounds.{room_bound}
use Rattle.range.specs.Range.{Numbers, Between}
use Rattle.range.proofs.Entries.{either_pos}
use Rattle.range.proofs.Rooms.{order_count}

-- where each positive term is at least one / c, so is a positive sum
sum_least : (n one c : ℕ) (f : ℕ → ℕ) → ((j : ℕ) → j < n → zero < f j → one ≤ f j * c) → zero < sum n f → one ≤ sum n f * c
unfolding sum
sum_least zero one c f h p = absurd (omega arith)
sum_least (suc n) one c f h p =
    go (either_pos (f zero) (sum n (λ i. f (suc i))) p) (sum_least n one c (λ i. f (suc i)) (λ j l. h (suc j) (suc-le-suc l)))
  where
    go : (zero < f zero) ⊎ (zero < sum n (λ i. f (suc i))) → (zero < sum n (λ i. f (suc i)) → one ≤ sum n (λ i. f (suc i)) * c)
        → one ≤ (f zero + sum n (λ i. f (suc i))) * c
    go (inl q) ih = omega (arith, h zero (omega arith) q)
    go (inr q) ih = omega (arith, ih q)

module _ {X : Type 0} {one : ℕ} {val : X → ℕ} {Fit : X → Type 0} where
  pub sized_more : {l h l' h' : ℕ} {x : X} → l ≤ l' → h ≤ h' → Between one val Fit l h x → Between one val Fit l' h' x
  sized_more {x = x} p q s = record {
    fits = s.fits;
    least = λ z. le_trans (s.least z) (mul-le-mul_left (val x) p);
    most = le_trans s.most (mul-le-mul_left one q);
  }

module _ {F : Factor} {X : Type 0} {O : Ops X} {one : ℕ} {val : X → ℕ} {Fit : X → Type 0} {n top : ℕ} (N : Numbers F O one val Fit n top) where
  abbrev room : ℕ
  room = room_bound n top

  -- K(n) factors, and one factor, are at most 2
  within_all : {x y : ℕ} → AtMost F (bound_count n) x y → x ≤ 2 * y
  within_all = within_2 N.mild (le_refl _)

  within_one : {x y : ℕ} → AtMost F 1 x y → x ≤ 2 * y
  within_one = within_2 N.mild (omega (arith, order_count n N.states))

  -- a rounded sum of m terms, at most n
  module _ (m : ℕ) (f : ℕ → X) {l h : ℕ} (terms : (j : ℕ) → j < m → Between one val Fit l h (f j)) (order : m ≤ n) (high : 2 * (n * h) ≤ room) where
    part_near : (k : ℕ) → k ≤ m → ((i : ℕ) → i ≤ k → Fit (total O i f)) → Near F (bound_count n) (val (total O k f)) (sum k (λ j. val (f j)))
    part_near k q fit =
        near_more (omega (arith, positives_le k (λ j. val (f j)), order_count n N.states)) (total_near N.promises k f (λ j p. (terms j (omega arith)).fits) fit)

    pub part_most : (k : ℕ) → k ≤ m → 2 * sum k (λ j. val (f j)) ≤ one * (2 * (n * h))
    part_most k q =
        let k_n : k ≤ n = omega arith in
        omega (arith, sum_most k (one * h) (λ j. val (f j)) (λ j p. (terms j (omega arith)).most), mul-le-mul_right (one * h) k_n)

    parts_fit : (k : ℕ) → k ≤ m → (i : ℕ) → i ≤ k → Fit (total O i f)
    unfolding total
    parts_fit zero q zero p = N.roomy.nought_fits
    parts_fit zero q (suc i) p = absurd (omega arith)
    parts_fit (suc k) q i p = go (dec_le i k) (parts_fit k (omega arith))
      where
        go : Dec (i ≤ k) → ((i : ℕ) → i ≤ k → Fit (total O i f)) → Fit (total O i f)
        go (yes le) ih = ih i le
        go (no gt) ih =
            subst (λ i. Fit (total O i f)) {x = suc k} {y = i} (omega arith)
            (N.roomy.add_fits (total O k f) (f k) (ih k (le_refl k)) (terms k q).fits
            (omega (
              arith,
              within_all (part_near k (omega arith) ih).under,
              sum_last k (λ j. val (f j)),
              part_most (suc k) q,
              mul-le-mul_left one high,
            )))

    sum_near : (k : ℕ) → k ≤ m → Near F (bound_count n) (val (total O k f)) (sum k (λ j. val (f j)))
    sum_near k q = part_near k q (parts_fit k q)

    -- every partial sum is a number
    pub total_sized : (k : ℕ) → k ≤ m → Between one val Fit (2 * l) (2 * (n * h)) (total O k f)
    total_sized k q = record {
      fits = parts_fit k q k (le_refl k);
      least = λ p.
          let s = sum k (λ j. val (f j)) in
          let low : one ≤ s * l = sum_least k one l (λ j. val (f j)) (λ j i. (terms j (omega arith)).least) (near_pos (near_sym (sum_near k q)) p) in
          omega (arith, mul-le-mul_right l (within_all (sum_near k q).over));
      most = omega (arith, within_all (sum_near k q).under, part_most k q);
    }

    -- a term is at most twice the sum of all
    pub term_le_total : (j : ℕ) → j < m → val (f j) ≤ 2 * val (total O m f)
    term_le_total j q = le_trans (term_le_sum m (λ j. val (f j)) j q) (within_all (sum_near m (le_refl m)).over)

    pub total_pos : zero < sum m (λ j. val (f j)) → zero < val (total O m f)
    total_pos p = near_pos (sum_near m (le_refl m)) p

  pub add_sized : {l h h' : ℕ} {x y : X} → Between one val Fit l h x → Between one val Fit l h' y → h + h' ≤ room
      → Between one val Fit l (2 * (h + h')) (O.add x y)
  add_sized {l} {h} {h'} {x} {y} sx sy high = record {
    fits = fit;
    least = λ p. at_least p (eq-zero-or-pos (val x));
    most = omega (arith, within_one sum_of.near.under, sx.most, sy.most);
  }
    where
      fit : Fit (O.add x y)
      fit = N.roomy.add_fits x y sx.fits sy.fits (omega (arith, sx.most, sy.most, mul-le-mul_left one high))

      sum_of : Added F (val x) (val y) (val (O.add x y))
      sum_of = N.promises.added x y sx.fits sy.fits fit

      at_least : zero < val (O.add x y) → (val x ≡ zero) ⊎ (zero < val x) → one ≤ val (O.add x y) * l
      at_least p (inl z) = let e : val (O.add x y) ≡ val y = sum_of.left z in rw e (sy.least (rw e at p))
      at_least p (inr q) = le_trans (sx.least q) (mul-le-mul_right l (N.roomy.left_le x y sx.fits sy.fits fit))

  pub mul_sized : {l h l' h' : ℕ} {x y : X} → Between one val Fit l h x → Between one val Fit l' h' y → l * l' ≤ room → h * h' ≤ room
      → Between one val Fit (2 * (l * l')) (2 * (h * h')) (O.mul x y)
  mul_sized {l} {h} {l'} {h'} {x} {y} sx sy low high = record {
    fits = fit;
    least = λ p.
        le_of_mul-le-mul_left {k = one}
        (omega (arith, exact_least (near_pos (near_sym near) (mul-pos N.promises.one_pos p)), mul-le-mul_right (l * l') (within_one near.over)))
        N.promises.one_pos;
    most = le_of_mul-le-mul_left {k = one} (omega (arith, within_one near.under, exact_most)) N.promises.one_pos;
  }
    where
      exact_least : zero < val x * val y → one * one ≤ val x * val y * (l * l')
      exact_least p = omega (arith, mul-le-mul (sx.least (pos_left (val x) (val y) p)) (sy.least (pos_right (val x) (val y) p)))

      exact_most : val x * val y ≤ one * one * (h * h')
      exact_most = omega (arith, mul-le-mul sx.most sy.most)

      fit : Fit (O.mul x y)
      fit =
          N.roomy.mul_fits x y sx.fits sy.fits (λ p. le_trans (exact_least p) (mul-le-mul_left (val x * val y) low))
          (le_trans exact_most (mul-le-mul_left (one * one) high))

      near : Near F 1 (one * val (O.mul x y)) (val x * val y)
      near = N.promises.multiplied x y sx.fits sy.fits fit

  -- a quotient x / y that is 0, or at least 1 / d and at most c
  pub div_sized : (d c : ℕ) {x y : X} → Fit x → Fit y → zero < val y → (zero < val x → val y ≤ val x * d) → val x ≤ val y * c → d ≤ room → c ≤ room
      → Between one val Fit (2 * d) (2 * c) (O.div x y)
  div_sized d c {x} {y} fx fy pos below above low high = record {
    fits = fit;
    least = λ p.
        le_of_mul-le-mul_left {k = val y}
        (omega (
          arith,
          mul-le-mul_left one (below (pos_right one (val x) (near_pos (near_sym near) (mul-pos p pos)))),
          mul-le-mul_right d (within_one near.over),
        ))
        pos;
    most = le_of_mul-le-mul_left {k = val y} (omega (arith, within_one near.under, mul-le-mul_left one above)) pos;
  }
    where
      fit : Fit (O.div x y)
      fit = N.roomy.div_fits x y fx fy pos (λ p. le_trans (below p) (mul-le-mul_left (val x) low)) (le_trans above (mul-le-mul_left (val y) high))

      near : Near F 1 (val (O.div x y) * val y) (one * val x)
      near = N.promises.divided x y fx fy fit pos
