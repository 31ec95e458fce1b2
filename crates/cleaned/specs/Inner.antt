-- What the functions ask and leave.
use Rattle.std.specs.Prelude.{ℕ, ◌+◌, ◌<◌, ◌≤◌, List, ◌≡◌, length, get_or}
use Rattle.std.proofs.lemmas.List.Edits.{sets}
use Rattle.chain.specs.Rows.{Rows}
use Rattle.cleaned.specs.Cleaned.{kept, cleaned}

-- what stands where the rate is not 0 is put from the first place on
pub record PutKept (values rates out : List ℕ) : Type 0 where
  pub lengths : length values ≡ length rates
  pub room : length rates ≤ length out

pub record KeptPut (values rates out : List ℕ) (r : ℕ) (out' : List ℕ) : Type 0 where
  pub count : r ≡ length (kept values rates)
  pub out_is : out' ≡ sets out 0 (kept values rates)

-- the starts are counted again
pub record PutStarts (starts rates out : List ℕ) : Type 0 where
  pub rises : (row : ℕ) → row + 1 < length starts → get_or starts row 0 ≤ get_or starts (row + 1) 0
  pub within : (row : ℕ) → row < length starts → get_or starts row 0 ≤ length rates
  pub room : length starts ≤ length out

-- three slices have room for any chain with the order and the entries of a sound one
pub record Clean (c : Rows) (starts columns rates : List ℕ) : Type 0 where
  pub starts_fit : c.order + 1 ≤ length starts
  pub columns_fit : length c.columns ≤ length columns
  pub rates_fit : length c.columns ≤ length rates

-- they begin with the chain without its entries of rate 0, and the answer is the number of its entries
pub record Cleans (c : Rows) (starts columns rates : List ℕ) (r : ℕ) (starts' columns' rates' : List ℕ) : Type 0 where
  pub count : r ≡ length (cleaned c).columns
  pub starts_are : starts' ≡ sets starts 0 (cleaned c).starts
  pub columns_are : columns' ≡ sets columns 0 (cleaned c).columns
  pub rates_are : rates' ≡ sets rates 0 (cleaned c).rates
