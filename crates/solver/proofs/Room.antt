-- The test of the lent slices holds if and only if each is long enough. Assumes nothing.
use mathlib.Core.Bool.{true, ◌&&◌}
use mathlib.Core.Path.{◌≡◌}
use Prim.Native.Nat.{ℕ, ◌*◌}
use borrow.Author.Tests.{le-leb, leb-true}
use lib.Dec.{leb}
use lib.ListN.{length}
use Rattle.basics.proofs.BoolLaws.{both}
use Rattle.basics.proofs.BoolLaws.{and_yes}
use Rattle.kernel.specs.Slices.{Slices}
use Rattle.solver.specs.Lent.{Lent, both_have, enough, enough_in, Places, Roomy}

module _ (k : ℕ) (s : Slices) where
  places : both_have k (length s.m) (length s.e) ≡ true → Places k s
  places h = let t = both (leb k (length s.m)) _ h in record { for_m = leb-true _ _ t.0; for_e = leb-true _ _ t.1 }

  places_held : Places k s → both_have k (length s.m) (length s.e) ≡ true
  places_held p = and_yes _ _ (le-leb _ _ p.for_m) (le-leb _ _ p.for_e)

module _ (n : ℕ) (l : Lent) where
  pub roomy : enough_in n l ≡ true → Roomy n l
  unfolding enough
  roomy h =
      let work = both_have (n * n) (length l.work.m) (length l.work.e) in
      let t = both (work && both_have n (length l.weights.m) (length l.weights.e)) _ h in
      let u = both work _ t.0 in
      record { for_work = places _ _ u.0; for_weights = places _ _ u.1; for_shares = places _ _ t.1 }

  pub roomy_held : Roomy n l → enough_in n l ≡ true
  unfolding enough
  roomy_held r =
      and_yes _ _ (and_yes _ _ (places_held _ _ r.for_work) (places_held _ _ r.for_weights)) (places_held _ _ r.for_shares)
