-- What the theorem asks of the operations and of the matrix, and what it says of the numbers met.
-- As in markov's Promises, a number x stands for val x units, and `one` units stand for 1.
use Rattle.std.specs.Prelude.{Bool, cond, ◌≢◌, ◌≡◌, ℕ, zero, suc, ◌+◌, ◌*◌, ◌^◌, ◌≤◌, ◌<◌}
use Rattle.basics.specs.Near.{Factor, Mild}
use Rattle.markov.specs.Chain.{Rates, Irreducible}
use Rattle.markov.specs.Elimination.{Ops, total, pivot_of, next, weights, shares}
use Rattle.markov.specs.Count.{bound_count}
use Rattle.markov.specs.Promises.{Promises, AllFitShares}
use Rattle.range.specs.Bounds.{margin, entry_bound, pivot_bound, weight_bound, room_bound}

-- an operation gives a number wherever its exact result is 0 or lies between 1 / room and room (a sum: is at most room), and a sum
-- is not below its first operand
pub record Ample {X : Type 0} (O : Ops X) (one : ℕ) (val : X → ℕ) (Fit : X → Type 0) (room : ℕ) : Type 0 where
  pub nought_fits : Fit O.nought
  pub unit_fits : Fit O.unit
  pub add_fits : (x y : X) → Fit x → Fit y → val x + val y ≤ one * room → Fit (O.add x y)
  pub left_le : (x y : X) → Fit x → Fit y → Fit (O.add x y) → val x ≤ val (O.add x y)
  pub mul_fits : (x y : X) → Fit x → Fit y → (zero < val x * val y → one * one ≤ val x * val y * room) → val x * val y ≤ one * one * room
      → Fit (O.mul x y)
  pub div_fits : (x y : X) → Fit x → Fit y → zero < val y → (zero < val x → val y ≤ val x * room) → val x ≤ val y * room → Fit (O.div x y)

-- what the theorem asks of numbers: operations that keep their promises with room enough, and factors that stay small, for at most n
-- states and rates at most top
pub record Numbers (F : Factor) {X : Type 0} (O : Ops X) (one : ℕ) (val : X → ℕ) (Fit : X → Type 0) (n top : ℕ) : Type 0 where
  pub promises : Promises F O one val Fit
  pub roomy : Ample O one val Fit (room_bound n top)
  pub mild : Mild F (bound_count n)
  pub states : 2 ≤ n
  pub rates : 1 ≤ top

module _ {X : Type 0} (one : ℕ) (val : X → ℕ) (Fit : X → Type 0) where
  -- a number that is 0, or at least 1 / low and at most high
  pub record Between (low high : ℕ) (x : X) : Type 0 where
    pub fits : Fit x
    pub least : zero < val x → one ≤ val x * low
    pub most : val x ≤ one * high

  -- 0, or at least 2^-margin and at most 2^margin
  abbrev pub Within : X → Type 0
  Within = Between (2 ^ margin) (2 ^ margin)

  -- a matrix on r + 1 states, at most n, filled with the rates, at most top, of a chain in which every state reaches every other
  pub record Filled (n top r : ℕ) (a : ℕ → ℕ → X) (rate : Rates) : Type 0 where
    pub order : suc r ≤ n
    pub irreducible : Irreducible (suc r) rate
    pub rates : (i j : ℕ) → i < suc r → j < suc r → i ≢ j → rate i j ≤ top
    pub fits : (i j : ℕ) → i < suc r → j < suc r → i ≢ j → Fit (a i j)
    pub is : (i j : ℕ) → i < suc r → j < suc r → i ≢ j → val (a i j) ≡ rate i j * one

-- the sum of those of f 0 .. f (n - 1) that a test picks, rising, from nought
unfoldable pub picked : {X : Type 0} → Ops X → (ℕ → Bool) → (ℕ → X) → ℕ → X
picked O test f zero = O.nought
picked O test f (suc n) = cond (test n) (O.add (picked O test f n) (f n)) (picked O test f n)

module _ {X : Type 0} (O : Ops X) (one : ℕ) (val : X → ℕ) (Fit : X → Type 0) (n top : ℕ) where
  -- the entries and the pivot of one step on r + 1 states
  pub record StepBounded (r : ℕ) (a : ℕ → ℕ → X) : Type 0 where
    pub entries : (i j : ℕ) → i < suc r → j < suc r → i ≢ j → Between one val Fit (weight_bound n top) (entry_bound n top) (a i j)
    pub pivot : Between one val Fit (2 * weight_bound n top) (pivot_bound n top) (pivot_of O r a)
    pub pivot_pos : zero < val (pivot_of O r a)

  -- every step of the elimination of r + 1 states
  abbrev pub StepsBounded : ℕ → (ℕ → ℕ → X) → Type 0
  StepsBounded zero a = Unit {0}
  StepsBounded (suc r) a = StepBounded (suc r) a × StepsBounded r (next O (suc r) a)

  -- a weight
  pub record WeightBounded (x : X) : Type 0 where
    pub sized : Between one val Fit (weight_bound n top) (weight_bound n top) x
    pub positive : zero < val x

  -- a number that is 0 or between 1 / room and room
  abbrev pub Met : X → Type 0
  Met = Between one val Fit (room_bound n top) (room_bound n top)

  -- all that is said of the elimination of r + 1 states: every number met, in the shares and in sums of them too, has its size;
  -- and the bounds by name
  pub record InRoom (r : ℕ) (a : ℕ → ℕ → X) : Type 0 where
    pub numbers : AllFitShares O Met r a
    pub groups : (test : ℕ → Bool) (k : ℕ) → k ≤ suc r → Met (picked O test (shares O r a) k)
    pub steps : StepsBounded r a
    pub weights_bounded : (i : ℕ) → i < suc r → WeightBounded (weights O r a i)
    pub total_pos : zero < val (total O (suc r) (weights O r a))
