-- Where every state reaches every other, every exact weight is positive. Assumes nothing.
use mathlib.Core.Path.{◌≡◌, refl}
use Prim.Native.Nat.{ℕ, zero, suc, ◌*◌, ◌<◌}
use native.Mathlib.Omega.{arith}
use native.Mathlib.Nat.{mul-pos, le_trans}
use Rattle.basics.specs.Sum.{sum, prod}
use Rattle.basics.proofs.SumLaws.{term_le_sum}
use Rattle.markov.specs.Chain.{Rates, Reaches, here, move, Irreducible, Balances}
use Rattle.basics.specs.Below.{count, all, put}
use Rattle.markov.specs.Weight.{over, led, leads, moves, weight}
use Rattle.markov.proofs.Balance.{weight_balanced}
use Rattle.markov.proofs.Compare.{weight_own_row}
use Rattle.markov.proofs.Step.{pivot, pivot_pos}
use Rattle.markov.proofs.Rows.{simple, simple_1, row_by_row}

-- "For n = 1 it is 1."
pub weight_alone : (g : Rates) → weight 1 g 0 ≡ 1
unfolding weight over sum prod count put leads led all moves
weight_alone g = refl

pub pos_left : (x k : ℕ) → 0 < x * k → 0 < x
pos_left zero k h = absurd (omega arith)
pos_left (suc x) k h = omega arith

pub pos_right : (k x : ℕ) → 0 < k * x → 0 < x
pos_right k zero h = omega arith
pos_right k (suc x) h = omega arith

-- along a positive move, by the balance
spread : (n : ℕ) (g : Rates) {u i : ℕ} → u < n → Reaches n g u i → 0 < weight n g u → 0 < weight n g i
spread n g hu here p = p
spread n g hu (move {i = u} {k = v} hv q w) p =
    spread n g hv w
    (pos_left (weight n g v) (sum n (λ k. g v k))
    (rw ((weight_balanced n g).at v hv) at (le_trans (mul-pos p q) (term_le_sum n (λ i. weight n g i * g i v) u hu))))

pub weight_pos : (n : ℕ) (g : Rates) → Irreducible n g → (i : ℕ) → i < n → 0 < weight n g i
unfolding simple pivot
weight_pos zero g c i hi = absurd (omega arith)
weight_pos (suc zero) g c i hi = let e : i ≡ 0 = omega arith in rw (e, weight_alone g) (omega arith)
weight_pos (suc (suc r)) g c i hi =
    spread (suc (suc r)) g (omega arith) (c.path 1 i (omega arith) hi)
    (row_by_row r g c (λ h i. 0 < weight (suc (suc r)) h (suc i))
    (λ h ch i j hi hj p. spread (suc (suc r)) h (omega arith) (ch.path (suc i) (suc j) (omega arith) (omega arith)) p)
    (λ h k i e p. rw (weight_own_row (suc (suc r)) h k (suc i) (λ u v hu hv d. e u v hu d)) at p)
    (rw (simple_1 r g) (pivot_pos (suc r) g (omega arith) c)) 0 (omega arith))

-- the exact weights are whole numbers, not all 0, that balance the chain
pub weight_balances : (n : ℕ) (g : Rates) → 0 < n → Irreducible n g → Balances n g (weight n g)
weight_balances n g l c = record { balanced = weight_balanced n g; state = 0; state_below = l; not_zero = weight_pos n g c 0 l }
