-- What updating rows asks and leaves. At step k the quotients t(j) stand at (k, j), j above k.
use Rattle.std.specs.Prelude.{◌≢◌, ◌≡◌, ℕ, ◌≤◌, ◌<◌}
use Rattle.scaled.specs.declared.Scaled.{Scaled}
use Rattle.kernel.specs.Numbers.{Fit, plus, times}
use Rattle.kernel.specs.Slices.{Slices, entry_at}
use Rattle.kernel.specs.Kernel.{Kept}

-- the entries (i, b), b from `from` up to, not including, `to`, are now new b, and every other entry is as it was
pub record Mapped (n i from to : ℕ) (new : ℕ → Scaled) (s s' : Slices) : Type 0 where
  pub kept : Kept s s'
  pub done : (b : ℕ) → from ≤ b → b < to → entry_at n s' i b ≡ new b
  pub rows : (a b : ℕ) → a < n → b < n → a ≢ i → entry_at n s' a b ≡ entry_at n s a b
  pub earlier : (b : ℕ) → b < from → b < n → entry_at n s' i b ≡ entry_at n s i b
  pub later : (b : ℕ) → to ≤ b → b < n → entry_at n s' i b ≡ entry_at n s i b

-- entry (i, j) plus entry (i, k) times t(j), which stands at (k, j)
abbrev pub updated : ℕ → Slices → ℕ → ℕ → ℕ → Scaled
updated n s k i j = plus (entry_at n s i j) (times (entry_at n s i k) (entry_at n s k j))

-- what updating the rows from `from` on asks: each new entry is a scaled number
pub record Ready (n k from : ℕ) (s : Slices) : Type 0 where
  pub fits : (a b : ℕ) → from ≤ a → a < n → k < b → b < n → a ≢ b → Fit (updated n s k a b)

-- the rows from `from` up to, not including, `to` are updated to the right of column k, off the diagonal; the other rows, and
-- the columns up to k, are as they were
pub record Updated (n k from to : ℕ) (s s' : Slices) : Type 0 where
  pub kept : Kept s s'
  pub done : (a b : ℕ) → from ≤ a → a < to → k < b → b < n → a ≢ b → entry_at n s' a b ≡ updated n s k a b
  pub above : (a b : ℕ) → a < from → a < n → b < n → entry_at n s' a b ≡ entry_at n s a b
  pub below : (a b : ℕ) → to ≤ a → a < n → b < n → entry_at n s' a b ≡ entry_at n s a b
  pub columns : (a b : ℕ) → a < n → b ≤ k → b < n → entry_at n s' a b ≡ entry_at n s a b
