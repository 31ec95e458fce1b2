-- What the whole call asks of its parts and leaves in the three slices. Assumes nothing.
use Prim.Native.Nat.{ℕ, ◌+◌, ◌≤◌}
use mathlib.Core.List.{List, map}
use mathlib.Core.Path.{◌≡◌, refl, sym}
use native.Mathlib.Omega.{arith}
use lib.ListN.{length, take}
use lib.Seq.{sets}
use Rattle.basics.proofs.SetsLaws.{take_sets}
use Rattle.chain.specs.Rows.{Rows, rows}
use Rattle.chain.specs.Sound.{Sound}
use Rattle.chain.proofs.SoundLaws.{start_within}
use Rattle.cleaned.specs.Cleaned.{new_place, cleaned}
use Rattle.cleaned.specs.Inner.{PutStarts, KeptPut, Clean, Cleans}
use Rattle.cleaned.proofs.CleanedLaws.{cleaned_fewer, cleaned_sound}

module _ {c : Rows} {starts columns rates : List ℕ} where
  pub asks : Sound c → Clean c starts columns rates → PutStarts c.starts c.rates starts
  asks sound a =
      let s = sound.starts_rule in
      record {
        rises = λ row l. s.rises row (omega (arith, s.count));
        within = λ row l. omega (arith, start_within s row (omega (arith, s.count)), sound.lengths);
        room = omega (arith, s.count, a.starts_fit);
      }

  module _ {starts' columns' rates' : List ℕ} {r : ℕ} where
    pub done : {k : ℕ} → starts' ≡ sets starts 0 (map (new_place c.rates) c.starts) → KeptPut c.rates c.rates rates k rates'
        → KeptPut c.columns c.rates columns r columns' → Cleans c starts columns rates r starts' columns' rates'
    unfolding cleaned
    done e f g = record { count = g.count; starts_are = e; columns_are = g.out_is; rates_are = f.out_is }

    -- the chain that stands at the beginning of the slices
    pub cleaned_in : Sound c → Clean c starts columns rates → Cleans c starts columns rates r starts' columns' rates'
        → rows c.order (take (c.order + 1) starts') (take r columns') (take r rates') ≡ cleaned c
    unfolding cleaned
    cleaned_in sound a d =
        let s = cleaned_sound sound in
        let k = length (cleaned c).columns in
        let few : k ≤ length c.columns = cleaned_fewer c in
        rw (
          d.count,
          d.starts_are,
          d.columns_are,
          d.rates_are,
          take_sets starts (cleaned c).starts (c.order + 1) s.starts_rule.count a.starts_fit,
          take_sets columns (cleaned c).columns k refl (omega (arith, a.columns_fit)),
          take_sets rates (cleaned c).rates k (sym s.lengths) (omega (arith, a.rates_fit)),
        )
