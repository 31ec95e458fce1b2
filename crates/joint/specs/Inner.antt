-- What the private functions ask and leave, of the chain in rows of a rate function f of order n. No public promise needs this file.
use Rattle.std.specs.Prelude.{List, ◌≡◌, ℕ, ◌+◌, ◌<◌, ◌≤◌, length}
use Rattle.std.proofs.lemmas.List.Edits.{sets}
use Rattle.markov.specs.Chain.{Rates}
use Rattle.from_rates.specs.FromRates.{columns_of, rates_of, from_rates}
use Rattle.layout.specs.Buffers.{Buffers}

-- the entries of row x are put from place p on
pub record PutJointRow (n : ℕ) (f : Rates) (x : ℕ) (columns rates : List ℕ) (p : ℕ) : Type 0 where
  pub inside : x < n
  pub columns_fit : p + length (columns_of n f x) ≤ length columns
  pub rates_fit : p + length (columns_of n f x) ≤ length rates

pub record JointRowPut (n : ℕ) (f : Rates) (x : ℕ) (columns rates : List ℕ) (p r : ℕ) (columns' rates' : List ℕ) : Type 0 where
  pub next : r ≡ p + length (columns_of n f x)
  pub columns_are : columns' ≡ sets columns p (columns_of n f x)
  pub rates_are : rates' ≡ sets rates p (rates_of n f x)

-- all rows are put into the three slices
pub record PutRows (n : ℕ) (f : Rates) (old : Buffers) : Type 0 where
  pub starts_fit : n + 1 ≤ length old.starts
  pub columns_fit : length (from_rates n f).columns ≤ length old.columns
  pub rates_fit : length (from_rates n f).columns ≤ length old.rates

pub record RowsPut (n : ℕ) (f : Rates) (old new : Buffers) : Type 0 where
  pub starts_are : new.starts ≡ sets old.starts 0 (from_rates n f).starts
  pub columns_are : new.columns ≡ sets old.columns 0 (from_rates n f).columns
  pub rates_are : new.rates ≡ sets old.rates 0 (from_rates n f).rates
