-- The bound count: how many factors the computed weights may be off.
use Rattle.std.specs.Prelude.{ℕ, ◌+◌, ◌-◌, ◌*◌, ◌/◌}

-- Document 01's bound count of order n, K(n) = (2n^3 + 6n^2 - 8n) / 3. The division leaves no rest (`bound_count_formula` in
-- proofs/CountLaws).
unfoldable pub bound_count : ℕ → ℕ
bound_count n = (2 * (n * n * n) + 6 * (n * n) - 8 * n) / 3
