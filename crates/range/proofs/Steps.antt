-- One step of the elimination: from what is known of a matrix, every number met at its step has its size, and as much is known of
-- the next matrix. Assumes nothing.
use mathlib.Core.Path.{◌≡◌, refl}
use mathlib.Core.Logic.{◌≢◌}
use Prim.Native.Nat.{ℕ, zero, suc, ◌+◌, ◌*◌, ◌^◌, ◌≤◌, ◌<◌, suc-le-suc}
use native.Mathlib.Nat.{le_trans, le_refl, mul-le-mul_left, mul-le-mul_right, le-mul_of_pos_right, mul-pos, pow-le-pow_right, pow-suc}
use native.Mathlib.Omega.{arith}
use Rattle.basics.specs.Near.{Factor, AtMost, Near}
use Rattle.basics.proofs.NearLaws.{at_most_more, near_sym, near_trans, near_more, near_eq, near_scale, near_cancel}
use Rattle.basics.proofs.MildLaws.{within_2}
use Rattle.markov.specs.Chain.{Rates, Irreducible}
use Rattle.markov.specs.Weight.{weight}
use Rattle.markov.specs.Elimination.{Ops, total, pivot_of, quotient_at, next}
use Rattle.markov.specs.Count.{bound_count}
use Rattle.markov.proofs.StepCounts.{positives}
use Rattle.markov.specs.Promises.{Promises, FitsOn}
use Rattle.markov.proofs.Bound.{vals}
use Rattle.markov.proofs.CountLaws.{bound_count_suc, positives_le}
use Rattle.markov.proofs.Perturb.{next_irreducible, step_near}
use Rattle.markov.proofs.Rounding.{entry_near}
use Rattle.markov.proofs.Step as exact
use Rattle.range.specs.Bounds.{entry_bound, pivot_bound, weight_bound, room_bound}
use Rattle.range.specs.Range.{Numbers, Between, StepBounded, Met}
use Rattle.range.proofs.Walks.{Cheap, cheap_on, cheap_move}
use Rattle.range.proofs.Entries.{Positive, AtLeast, doubled, least_on, positive_back}
use Rattle.range.proofs.Sizes.{sized_more, part_most, total_sized, term_le_total, total_pos, add_sized, mul_sized, div_sized}
use Rattle.range.proofs.Rooms.{Rooms, rooms, entry_room, order_count}

-- what holds of the matrix on r + 1 states after k steps: t counts factors, z are the exact weights of the chain that the steps
-- began with, in proportion to those of this matrix
pub record Reached (F : Factor) {X : Type 0} (one : ℕ) (val : X → ℕ) (Fit : X → Type 0) (n top k t r : ℕ) (a : ℕ → ℕ → X) (z : ℕ → ℕ) : Type 0 where
  pub steps : k + suc r ≤ n
  pub factors : t + bound_count (suc r) ≤ bound_count n
  pub irreducible : Irreducible (suc r) (vals val a)
  pub fits : (i j : ℕ) → i < suc r → j < suc r → i ≢ j → Fit (a i j)
  pub upper : (i j : ℕ) → i < suc r → j < suc r → i ≢ j → AtMost F t (val (a i j)) (one * (top * 2 ^ k))
  pub lower : Cheap (Positive (suc r) (vals val a)) (AtLeast one (pivot_bound n top) (suc r) (vals val a)) k
  pub exact_pos : (i : ℕ) → i < suc r → zero < z i
  pub exact_most : (i : ℕ) → i < suc r → 2 * z i ≤ weight_bound n top
  pub proportion : (i : ℕ) → i < suc r → Near F t (weight (suc r) (vals val a) i * z r) (weight (suc r) (vals val a) r * z i)

module _ {F : Factor} {X : Type 0} {O : Ops X} {one : ℕ} {val : X → ℕ} {Fit : X → Type 0} {n top : ℕ} (N : Numbers F O one val Fit n top) where
  abbrev A : ℕ
  A = entry_bound n top

  abbrev B : ℕ
  B = pivot_bound n top

  abbrev Q : ℕ
  Q = weight_bound n top

  abbrev Has : ℕ → ℕ → X → Type 0
  Has = Between one val Fit

  pub bounds : Rooms n A B Q (room_bound n top)
  bounds = rooms n top N.states N.rates

  pub met : {l h : ℕ} {x : X} → l ≤ room_bound n top → h ≤ room_bound n top → Has l h x → Met O one val Fit n top x
  met = sized_more

  -- the promises, of numbers whose size is known
  pub met_promises : Promises F O one val (Met O one val Fit n top)
  met_promises = record {
    one_pos = N.promises.one_pos;
    nought_is = N.promises.nought_is;
    unit_is = N.promises.unit_is;
    added = λ x y fx fy f. N.promises.added x y fx.fits fy.fits f.fits;
    multiplied = λ x y fx fy f. N.promises.multiplied x y fx.fits fy.fits f.fits;
    divided = λ x y fx fy f p. N.promises.divided x y fx.fits fy.fits f.fits p;
  }

  pub entry_sized : {k t r : ℕ} {a : ℕ → ℕ → X} {z : ℕ → ℕ} → Reached F one val Fit n top k t r a z
      → (i j : ℕ) → i < suc r → j < suc r → i ≢ j → Has Q A (a i j)
  unfolding weight_bound
  entry_sized {k} {t} {r} {a} I i j li lj ne = record {
    fits = I.fits i j li lj ne;
    least = λ p.
        let m = cheap_move I.lower i j ne (record { i_below = li; j_below = lj; apart = ne; pos = p; cost = refl }) in
        let b_pos : zero < B = omega (arith, bounds) in
        let power : B ^ m.0 ≤ B ^ n = pow-le-pow_right b_pos (omega arith) in
        le_trans (le-mul_of_pos_right one b_pos) (le_trans m.2.least (mul-le-mul_left (val (a i j)) power));
    most = le_trans (within_2 N.mild (omega arith) (I.upper i j li lj ne)) (entry_room n top N.states N.rates one k (omega arith));
  }

  module _ {k t r : ℕ} {a : ℕ → ℕ → X} {z : ℕ → ℕ} (I : Reached F one val Fit n top k t (suc r) a z) where
    abbrev g : Rates
    g = vals val a

    abbrev h : Rates
    h = vals val (next O (suc r) a)

    short : suc r ≤ n
    short = omega arith

    -- ---- the pivot

    row : (j : ℕ) → j < suc r → Has Q A (a zero (suc j))
    row j l = entry_sized I zero (suc j) (omega arith) (suc-le-suc l) (λ e. omega arith)

    pub column : (i : ℕ) → i < suc r → Has Q A (a (suc i) zero)
    column i l = entry_sized I (suc i) zero (suc-le-suc l) (omega arith) (λ e. omega arith)

    row_room : 2 * (n * A) ≤ room_bound n top
    row_room = omega (arith, bounds)

    parts : (m : ℕ) → m ≤ suc r → Has (2 * Q) B (total O m (λ j. a zero (suc j)))
    parts m l = sized_more (le_refl _) (omega (arith, bounds)) (total_sized N (suc r) (λ j. a zero (suc j)) row short row_room m l)

    row_sum_pos : zero < exact.pivot (suc r) g
    row_sum_pos = exact.pivot_pos (suc r) g (omega arith) I.irreducible

    pub step_bounded : StepBounded O one val Fit n top (suc r) a
    unfolding pivot_of exact.pivot
    step_bounded = record {
      entries = entry_sized I;
      pivot = parts (suc r) (le_refl _);
      pivot_pos = total_pos N (suc r) (λ j. a zero (suc j)) row short row_room row_sum_pos;
    }

    -- ---- quotients, products, the next entries

    quotient : (j : ℕ) → j < suc r → Has (2 * (Q * B)) (2 * 2) (quotient_at O (suc r) a j)
    unfolding quotient_at pivot_of
    quotient j l =
        let s = val (pivot_of O (suc r) a) in
        let y = val (a zero (suc j)) in
        div_sized N (Q * B) 2 (row j l).fits step_bounded.pivot.fits step_bounded.pivot_pos
        (λ p. omega (arith, step_bounded.pivot.most, mul-le-mul_right B ((row j l).least p)))
        (omega (arith, term_le_total N (suc r) (λ j. a zero (suc j)) row short row_room j l))
        (omega (arith, bounds)) (omega (arith, bounds))

    product : (i j : ℕ) → i < suc r → j < suc r → Has (2 * (Q * (2 * (Q * B)))) (2 * (A * (2 * 2))) (O.mul (a (suc i) zero) (quotient_at O (suc r) a j))
    product i j li lj = mul_sized N (column i li) (quotient j lj) (omega (arith, bounds)) (omega (arith, bounds))

    entry : (i j : ℕ) → i < suc r → j < suc r → i ≢ j → Has Q A (a (suc i) (suc j))
    entry i j li lj ne = entry_sized I (suc i) (suc j) (suc-le-suc li) (suc-le-suc lj) (λ e. ne (omega arith))

    sum : (i j : ℕ) → i < suc r → j < suc r → i ≢ j → Has (2 * (Q * (2 * (Q * B)))) (2 * (A + 2 * (A * (2 * 2)))) (next O (suc r) a i j)
    unfolding next
    sum i j li lj ne =
        add_sized N (sized_more (omega (arith, bounds)) (le_refl _) (entry i j li lj ne)) (product i j li lj) (omega (arith, bounds))

    pub on_fits : FitsOn O (Met O one val Fit n top) (suc r) a
    on_fits = record {
      entries = λ i j li lj ne. met (omega (arith, bounds)) (omega (arith, bounds)) (entry_sized I i j li lj ne);
      pivots = λ m l. met (omega (arith, bounds)) (omega (arith, bounds)) (parts m l);
      quotients = λ j l. met (omega (arith, bounds)) (omega (arith, bounds)) (quotient j l);
      products = λ i j li lj ne. met (omega (arith, bounds)) (omega (arith, bounds)) (product i j li lj);
      nexts = λ i j li lj ne. met (omega (arith, bounds)) (omega (arith, bounds)) (sum i j li lj ne);
    }

    -- ---- the next matrix

    -- its entries are within this many factors of those of the exact step
    count : ℕ
    count = positives (suc r) (λ j. val (a zero (suc j))) + 2

    count_le : count ≤ r + 3
    unfolding count
    count_le = omega (arith, positives_le (suc r) (λ j. val (a zero (suc j))))

    count_small : count ≤ bound_count n
    count_small = omega (arith, count_le, order_count n N.states)

    close : (i j : ℕ) → i < suc r → j < suc r → i ≢ j → Near F count (exact.pivot (suc r) g * h i j) (exact.reduced (suc r) g i j)
    unfolding count
    close = entry_near met_promises r a on_fits I.irreducible

    grows : (i j : ℕ) → i < suc r → j < suc r → i ≢ j → g (suc i) (suc j) ≤ h i j
    unfolding next
    grows i j li lj ne =
        N.roomy.left_le (a (suc i) (suc j)) (O.mul (a (suc i) zero) (quotient_at O (suc r) a j)) (entry i j li lj ne).fits (product i j li lj).fits (sum i j li lj ne).fits

    next_upper : (i j : ℕ) → i < suc r → j < suc r → i ≢ j → AtMost F (count + t) (h i j) (one * (top * 2 ^ suc k))
    next_upper i j li lj ne =
        let twice : 2 * (one * (top * 2 ^ k)) ≡ one * (top * 2 ^ suc k) = rw (pow-suc 2 k) (omega arith) in
        rw twice at (doubled N.mild (suc r) count g h count_small row_sum_pos close I.upper i j li lj ne)

    pivot_room : 2 * exact.pivot (suc r) g ≤ one * B
    unfolding exact.pivot
    pivot_room = rw bounds.b_is (part_most N (suc r) (λ j. a zero (suc j)) row short row_room (suc r) (le_refl _))

    next_lower : Cheap (Positive (suc r) h) (AtLeast one B (suc r) h) (suc k)
    next_lower =
        let b_pos : zero < B = omega (arith, bounds) in
        cheap_on (least_on N.mild (suc r) count g h count_small row_sum_pos close (mul-pos N.promises.one_pos b_pos) pivot_room grows)
        (positive_back N.mild (suc r) count g h count_small row_sum_pos close) I.lower

    next_proportion : (i : ℕ) → i < suc r → Near F (2 * (r * count) + t) (weight (suc r) h i * z (suc r)) (weight (suc r) h r * z (suc i))
    next_proportion i l =
        let s = exact.pivot (suc r) g in
        let w = weight (suc (suc r)) g in
        let v = weight (suc r) h in
        let into : Near F (r * count) (s * v i * z (suc r)) (w (suc i) * z (suc r)) =
        near_eq (near_scale (z (suc r)) (step_near r g h close I.irreducible i l)) (omega arith) (omega arith) in
        let out : Near F (r * count) (w (suc r) * z (suc i)) (s * v r * z (suc i)) =
        near_eq (near_scale (z (suc i)) (near_sym (step_near r g h close I.irreducible r (omega arith)))) (omega arith) (omega arith) in
        near_cancel row_sum_pos
        (near_eq (near_more (omega arith) (near_trans into (near_trans (I.proportion (suc i) (suc-le-suc l)) out))) (omega arith) (omega arith))

    pub next_reached : Reached F one val Fit n top (suc k) (t + 2 * (suc r * (suc r + 3))) r (next O (suc r) a) (λ i. z (suc i))
    next_reached = record {
      steps = omega arith;
      factors = omega (arith, bound_count_suc (suc r), I.factors);
      irreducible = next_irreducible r g h close I.irreducible;
      fits = λ i j li lj ne. (sum i j li lj ne).fits;
      upper = λ i j li lj ne. at_most_more (omega (arith, count_le)) (next_upper i j li lj ne);
      lower = next_lower;
      exact_pos = λ i l. I.exact_pos (suc i) (suc-le-suc l);
      exact_most = λ i l. I.exact_most (suc i) (suc-le-suc l);
      proportion = λ i l. near_more (omega (arith, mul-le-mul_left r count_le)) (next_proportion i l);
    }
