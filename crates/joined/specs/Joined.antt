-- Document 02, R-6: the joint chain of two parts, of orders a and b, and what is proved of it for all orders.
use Rattle.std.specs.Prelude.{Bool, ◌≢◌, ◌↔◌, ◌≡◌, ℕ, ◌+◌, ◌*◌, ◌<◌, length}
use Rattle.basics.specs.Sum.{sum}
use Rattle.refusal.specs.Table.{accepts}
use Rattle.markov.specs.Chain.{Rates, Reaches}
use Rattle.markov.specs.Closed.{OnlyClosed, set_weight}
use Rattle.markov.specs.Product.{joint_rate, joint_set}
use Rattle.chain.specs.Rows.{Rows}
use Rattle.chain.specs.Rules.{checked}
use Rattle.chain.specs.Meaning.{rate_in}
use Rattle.from_rates.specs.FromRates.{from_rates}

-- "Build the joint chain from chains of orders a and b: joint state i × b + j, moves of one part at a time with that part's rates."
abbrev pub joint_rates : Rows → Rows → Rates
joint_rates first second = joint_rate second.order (rate_in first) (rate_in second)

unfoldable pub joined : Rows → Rows → Rows
joined first second = from_rates (first.order * second.order) (joint_rates first second)

-- how many entries it has
abbrev pub entries_of : Rows → Rows → ℕ
entries_of first second = second.order * length first.columns + first.order * length second.columns

-- the parts' rates are f and g, those of the joint chain h
pub record SideBySide (a b : ℕ) (f g h : Rates) : Type 0 where
  pub rates : (x y : ℕ) → x < a * b → y < a * b → h x y ≡ joint_rate b f g x y
  -- the same state by state: "moves of one part at a time with that part's rates"
  pub first_moves : (i i' j : ℕ) → i < a → i' < a → j < b → i ≢ i' → h (i * b + j) (i' * b + j) ≡ f i i'
  pub second_moves : (i j j' : ℕ) → i < a → j < b → j' < b → j ≢ j' → h (i * b + j) (i * b + j') ≡ g j j'
  pub never_both : (i j i' j' : ℕ) → i < a → j < b → i' < a → j' < b → i ≢ i' → j ≢ j' → h (i * b + j) (i' * b + j') ≡ 0
  -- a joint state reaches another if and only if each part's state reaches the other's
  pub reaching : (i j i' j' : ℕ) → i < a → j < b → i' < a → j' < b
      → Reaches (a * b) h (i * b + j) (i' * b + j') ↔ (Reaches a f i i' × Reaches b g j j')
  -- "Where both parts have an answer the joint chain has one": its only closed set has the pairs of states of the parts' only closed sets
  pub answer : (S T : ℕ → Bool) → OnlyClosed a f S → OnlyClosed b g T → OnlyClosed (a * b) h (joint_set b S T)
  -- "and its exact shares are the products of the parts' shares": divisors multiplied across
  pub shares : (S T : ℕ → Bool) → OnlyClosed a f S → OnlyClosed b g T → (i j : ℕ) → i < a → j < b
      → set_weight (a * b) h (joint_set b S T) (i * b + j) * (sum a (set_weight a f S) * sum b (set_weight b g T))
      ≡ set_weight a f S i * set_weight b g T j * sum (a * b) (set_weight (a * b) h (joint_set b S T))

-- a chain in rows is the joint chain of two others; the check takes it
pub record JointChain (first second joint : Rows) : Type 0 where
  pub chain_is : joint ≡ joined first second
  pub passes : checked joint ≡ accepts (entries_of first second)
  pub side_by_side : SideBySide first.order second.order (rate_in first) (rate_in second) (rate_in joint)
  -- a part of one state gives the other part back, slice for slice
  pub first_alone : second.order ≡ 1 → joint ≡ first
  pub second_alone : first.order ≡ 1 → joint ≡ second
