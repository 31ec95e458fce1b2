-- What stands in the second slices is a chain that every call takes. Assumes nothing.
use Prim.Native.Nat.{ℕ, ◌≤◌}
use mathlib.Core.List.{List}
use mathlib.Core.Path.{◌≡◌}
use native.Mathlib.Omega.{arith}
use lib.ListN.{length}
use borrow.Author.Rules.{rules}
use Rattle.chain.specs.Rows.{Rows}
use Rattle.chain.specs.Sound.{Sound}
use Rattle.layout.specs.Buffers.{most_starts, most_entries}
use Rattle.cleaned.specs.Inner.{Clean, Cleans}
use Rattle.cleaning.proofs.Outcomes.{kept_low, kept_accepted, kept_put}
use Rattle.cleaning.proofs.put_cleaned.Goals as goal

-- what the cleaning of the chain asks
asked : {c : Rows} {starts columns rates : List ℕ} → Sound c → length c.columns ≤ most_entries → length starts ≡ most_starts
    → length columns ≡ most_entries → length rates ≡ most_entries → Clean c starts columns rates
asked s few a b d = record { starts_fit = omega (arith, s.order.high); columns_fit = omega arith; rates_fit = omega arith }

pub clean_chain-kept-requires : goal.clean_chain-kept-requires
clean_chain-kept-requires c = asked c.args.sound.sound c.requires.1 (search rules) (search rules) (search rules)

-- so at most so many entries stay
few_kept : {c : Rows} {starts columns rates starts' columns' rates' : List ℕ} {kept : ℕ} → Sound c → length c.columns ≤ most_entries → length starts ≡ most_starts
    → length columns ≡ most_entries → length rates ≡ most_entries → Cleans c starts columns rates kept starts' columns' rates' → kept ≤ most_entries
few_kept s few a b d e = omega (arith, kept_low s (asked s few a b d) e)

pub chain-requires : goal.chain-requires
chain-requires c =
    let few = few_kept c.args.sound.sound c.requires.1 (search rules) (search rules) (search rules) c.clean_chain-kept.ensures in
    (omega (arith, c.args.sound.sound.order.high), search rules, search rules)

pub put_file-requires : goal.put_file-requires
put_file-requires c =
    let s = c.args.sound.sound in
    (search rules, rw c.chain.ensures (kept_accepted s (asked s c.requires.1 (search rules) (search rules) (search rules)) c.clean_chain-kept.ensures))

pub returns : goal.returns
returns c =
    let s = c.args.sound.sound in
    (kept_put s (asked s c.requires.1 (search rules) (search rules) (search rules)) c.clean_chain-kept.ensures c.args.form c.chain.ensures c.put_file.ensures.0, c.put_file.ensures.1)
