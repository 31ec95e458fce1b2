-- Document 02, R-5: a cleaning "rewrites the old ones without those entries", the ones of rate 0.
use Rattle.std.specs.Prelude.{ℕ, zero, suc, List, [], ◌∷◌, map, length, take}
use Rattle.chain.specs.Rows.{Rows, rows}

-- of a list as long as the rates, what stands where the rate is not 0: kept values rates
abbrev pub kept : List ℕ → List ℕ → List ℕ
kept [] rates = []
kept (value ∷ values) [] = []
kept (value ∷ values) (zero ∷ rates) = kept values rates
kept (value ∷ values) (suc rate ∷ rates) = value ∷ kept values rates

-- how many of these rates are positive
abbrev pub positives : List ℕ → ℕ
positives rates = length (kept rates rates)

-- the place that an entry moves to: it counts the positive rates before it
abbrev pub new_place : List ℕ → ℕ → ℕ
new_place rates place = positives (take place rates)

-- the chain without its entries of rate 0: the same order, what is left of columns and rates in the same order, and the starts counted
-- again
unfoldable pub cleaned : Rows → Rows
cleaned c = rows c.order (map (new_place c.rates) c.starts) (kept c.columns c.rates) (kept c.rates c.rates)
