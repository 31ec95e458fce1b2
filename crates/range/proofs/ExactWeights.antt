-- An exact weight of n states whose rates are at most top is at most n^n × top^n: it is a sum over at most n^n ways, each of which
-- multiplies at most n rates. Assumes nothing.
use mathlib.Core.Bool.{Bool, true, false, cond, ◌&&◌}
use mathlib.Core.Logic.{◌≢◌}
use Prim.Native.Nat.{ℕ, zero, suc, ◌*◌, ◌^◌, ◌≤◌, ◌<◌}
use native.Mathlib.Nat.{le_trans, le_refl, pow-zero, pow-suc}
use native.Mathlib.Omega.{arith}
use lib.Dec.{eqb}
use Rattle.basics.proofs.SumLaws.{sum_most, prod_most}
use Rattle.markov.specs.Chain.{Rates}
use Rattle.basics.specs.Below.{count, put}
use Rattle.markov.specs.Weight.{over, leads, moves, weight}
use Rattle.markov.proofs.Compare.{weight_mono}

over_most : (m n u : ℕ) (G : (ℕ → ℕ) → ℕ) → ((f : ℕ → ℕ) → G f ≤ u) → over m n G ≤ n ^ m * u
unfolding over
over_most zero n u G h = rw (pow-zero n) (omega (arith, h (λ v. 0)))
over_most (suc m) n u G h =
    rw (pow-suc n m) (omega (arith, sum_most n (n ^ m * u) (λ k. over m n (λ f. G (put f m k))) (λ k l. over_most m n u (λ f. G (put f m k)) (λ f. h (put f m k)))))

counted : (t : Bool) (x u : ℕ) → x ≤ u → count t * x ≤ u
unfolding count
counted true x u h = omega arith
counted false x u h = omega arith

one_of : (t : Bool) (top : ℕ) → 1 ≤ top → cond t 1 top ≤ top
one_of true top l = l
one_of false top l = le_refl top

equal_rates : (n top i : ℕ) → 1 ≤ top → weight n (λ u v. top) i ≤ n ^ n * top ^ n
unfolding weight moves
equal_rates n top i l =
    over_most n n (top ^ n) (λ f. count (eqb (f i) i && leads n f i) * moves n (λ u v. top) i f)
    (λ f. counted (eqb (f i) i && leads n f i) _ (top ^ n) (prod_most n top (λ v. cond (eqb v i) 1 top) (λ v. one_of (eqb v i) top l)))

pub weight_most : (n top : ℕ) (rate : Rates) (i : ℕ) → i < n → 1 ≤ top → ((u v : ℕ) → u < n → v < n → u ≢ v → rate u v ≤ top)
    → weight n rate i ≤ n ^ n * top ^ n
weight_most n top rate i hi l h = le_trans (weight_mono n rate (λ u v. top) i hi h) (equal_rates n top i l)
