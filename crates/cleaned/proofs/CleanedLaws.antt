-- A chain without its entries of rate 0: it keeps the rules of a chain and has the same rates between states. Assumes nothing.
use Prim.Native.Nat.{ℕ, suc, ◌+◌, ◌-◌, ◌<◌, ◌≤◌}
use mathlib.Core.List.{List, [], ◌∷◌, map}
use mathlib.Core.Path.{◌≡◌, refl, sym, ap, ◌∙◌}
use native.Mathlib.Decide.{dec_lt}
use native.Mathlib.Omega.{arith}
use lib.ListN.{length, get_or, take, get_or-map, get_or-eq_default}
use lib.Seq.{take-length, length-take-le, get_or-take, ext_get_or}
use Rattle.basics.specs.Sum.{sum}
use Rattle.basics.proofs.SumLaws.{sum_split}
use Rattle.chain.specs.Rows.{Rows, begins, ends, column_at}
use Rattle.chain.specs.Sound.{Sound, SoundStarts, SoundEntry, AllPositive}
use Rattle.chain.specs.Meaning.{adds, rate_in}
use Rattle.chain.proofs.SoundLaws.{start_within}
use Rattle.chain.proofs.RateLaws.{column_less}
use Rattle.cleaned.specs.Cleaned.{kept, positives, new_place, cleaned}
use Rattle.cleaned.proofs.KeptLaws.{kept_length, kept_fewer, place_mono, place_less, place_le, came, came_value, kept_sum, kept_all}

-- ---- its lists

map_length : (f : ℕ → ℕ) (l : List ℕ) → length (map f l) ≡ length l
map_length f [] = refl
map_length f (x ∷ l) = ap suc (map_length f l)

module _ (c : Rows) where
  -- a start counts the positive rates before it
  pub start_is : (row : ℕ) → begins (cleaned c) row ≡ new_place c.rates (begins c row)
  unfolding cleaned
  start_is row = get_or-map (new_place c.rates) c.starts row 0

  pub cleaned_fewer : length (cleaned c).columns ≤ length c.columns
  unfolding cleaned
  cleaned_fewer = kept_fewer c.columns c.rates

  pub cleaned_positive : AllPositive (cleaned c).rates
  unfolding cleaned
  cleaned_positive place l = let p = came c.rates place l in rw (came_value p c.rates refl) p.positive

  pub cleaned_fit : {K : ℕ} → ((i : ℕ) → get_or c.rates i 0 < K) → (i : ℕ) → get_or (cleaned c).rates i 0 < K
  unfolding cleaned
  cleaned_fit {K} h i = go (dec_lt i (positives c.rates))
    where
      go : Dec (i < positives c.rates) → get_or (kept c.rates c.rates) i 0 < K
      go (yes l) = let p = came c.rates i l in rw (came_value p c.rates refl) (h p.from)
      go (no d) = rw (get_or-eq_default (kept c.rates c.rates) 0 {n = i} (omega arith)) (omega (arith, h 0))

-- ---- the rules

module _ {c : Rows} (s : Sound c) where
  columns_length : length (cleaned c).columns ≡ positives c.rates
  unfolding cleaned
  columns_length = kept_length c.columns c.rates s.lengths

  -- the starts rise, and the last one counts all
  starts_sound_lem : SoundStarts (cleaned c)
  unfolding cleaned
  starts_sound_lem = record {
    count = map_length (new_place c.rates) c.starts ∙ s.starts_rule.count;
    first = start_is c 0 ∙ rw s.starts_rule.first;
    rises = λ row l. rw (start_is c row, start_is c (row + 1)) (place_mono c.rates (begins c row) (ends c row) (s.starts_rule.rises row l));
    last = start_is c c.order ∙ rw (s.starts_rule.last, s.lengths, take-length) (sym columns_length);
  }

  -- a kept entry of a row comes from a place of that row
  record Origin (row q : ℕ) : Type 0 where
    place : ℕ
    from : begins c row ≤ place
    to : place < ends c row
    counted : new_place c.rates place ≡ q
    column : column_at (cleaned c) q ≡ column_at c place

  origin : (row q : ℕ) → row < c.order → begins (cleaned c) row ≤ q → q < ends (cleaned c) row → Origin row q
  unfolding cleaned
  origin row q l a b =
      let rates = c.rates in
      let whole : ends c row ≤ length rates = omega (arith, start_within s.starts_rule (row + 1) (omega arith), s.lengths) in
      let all : new_place rates (ends c row) ≤ positives rates =
      rw take-length at (place_mono rates (ends c row) (length rates) whole) in
      let p = came rates q (omega (arith, start_is c (row + 1))) in
      record {
        place = p.from;
        from = place_le rates (begins c row) p.from p.positive (omega (arith, p.counted, start_is c row));
        to = place_less rates p.from (ends c row) (omega (arith, p.counted, start_is c (row + 1)));
        counted = p.counted;
        column = came_value p c.columns s.lengths;
      }

  entry_sound : (row q : ℕ) → row < c.order → begins (cleaned c) row ≤ q → q < ends (cleaned c) row → SoundEntry (cleaned c) row q
  unfolding cleaned
  entry_sound row q l a b =
      let o = origin row q l a b in
      let e = s.columns_rule.entry row o.place l o.from o.to in
      record { below = rw o.column e.below; not_row = rw o.column e.not_row; above = later o }
    where
      later : Origin row q → begins (cleaned c) row < q → column_at (cleaned c) (q - 1) < column_at (cleaned c) q
      later o m =
          let n = origin row (q - 1) l (omega arith) (omega arith) in
          rw (n.column, o.column)
          (column_less s row l n.place o.place n.from (place_less c.rates n.place o.place (omega (arith, n.counted, o.counted))) o.to)

  pub cleaned_sound : Sound (cleaned c)
  unfolding cleaned
  cleaned_sound = record {
    order = s.order;
    lengths = columns_length;
    starts_rule = starts_sound_lem;
    columns_rule = record { entry = entry_sound };
  }

-- ---- the rates

-- a sum cut at a
sum_part : (a b : ℕ) (f : ℕ → ℕ) → a ≤ b → sum a f + sum (b - a) (λ q. f (a + q)) ≡ sum b f
sum_part a b f l = let e : a + (b - a) ≡ b = omega arith in sym (rw e at (sum_split a (b - a) f))

pub cleaned_rates : {c : Rows} → Sound c → (i j : ℕ) → i < c.order → rate_in (cleaned c) i j ≡ rate_in c i j
unfolding rate_in cleaned
cleaned_rates {c} s i j l =
    let a = begins c i in
    let b = ends c i in
    let rates = c.rates in
    let up = s.starts_rule.rises i l in
    let inside : b ≤ length rates = omega (arith, start_within s.starts_rule (i + 1) (omega arith), s.lengths) in
    rw (start_is c i, start_is c (i + 1))
    (omega (
      arith,
      kept_sum j c.columns rates a s.lengths (omega arith),
      kept_sum j c.columns rates b s.lengths inside,
      sum_part a b (adds c.columns rates j) up,
      sum_part (new_place rates a) (new_place rates b) (adds (kept c.columns rates) (kept rates rates) j) (place_mono rates a b up),
    ))

-- ---- a chain that has none

pub cleaned_same : {c : Rows} → Sound c → AllPositive c.rates → cleaned c ≡ c
unfolding cleaned
cleaned_same {c} s h =
    rw (kept_all c.columns c.rates s.lengths h, kept_all c.rates c.rates refl h, starts_same)
  where
    full : (p : ℕ) → p ≤ length c.rates → new_place c.rates p ≡ p
    full p l =
        let e = length-take-le p c.rates l in
        rw (kept_all (take p c.rates) (take p c.rates) refl (λ i m. rw (get_or-take p c.rates i 0 (omega arith)) (h i (omega arith)))) e

    starts_same : map (new_place c.rates) c.starts ≡ c.starts
    starts_same =
        let f = new_place c.rates in
        ext_get_or 0 (map f c.starts) c.starts (map_length f c.starts)
        (λ i l.
        let low : i ≤ c.order = omega (arith, map_length f c.starts, s.starts_rule.count) in
        start_is c i ∙ full (begins c i) (omega (arith, start_within s.starts_rule i low, s.lengths)))
