-- Each turn hands on one file more.
use Rattle.std.proofs.Common.{of_calls, arith, [], ◌∷◌, take, refl, inl, inr, sym}
use Rattle.framed.proofs.HandedLaws.{taken_alone, none_follows}
use Rattle.framed.proofs.each_file.Goals as goal
use Rattle.framed.proofs.each_file.Goals.{else-loop-turn-test, then-loop-turn-test+in_ok-n+in_default}

pub loop-turn-preserved : goal.loop-turn-preserved
loop-turn-preserved g c = (
  search of_calls,
  λ rest last left h.
      let got = c.loop-turn.invariant.1 (take c.in-File.n c.fetch.new.buffer ∷ rest) last left (
        c.f.new.self,
        g.R.Read.remaining c.fetch.new.from,
        taken_alone _ c.in-File.n _ _ _ _ c.in-File.is c.in_ok-n.ensures.buffer c.in_ok-n.ensures.bytes,
        record { shown = _; shows = refl; called = c.in_ok-f.ensures },
        h,
      ) in
      (got.0, got.1, omega (arith, got.2)),
)

pub returns : goal.returns
returns g c =
    let got = c.loop-turn.invariant.1 [] c.loop-turn.f (g.R.Read.remaining c.loop-turn.from) (refl, refl) in (
      got.0,
      c.loop-turn.f,
      g.R.Read.remaining c.loop-turn.from,
      got.1,
      elim c.loop-turn-test.branch [
        | else-loop-turn-test w ↦ inr (omega (arith, got.2))
        | then-loop-turn-test+in_ok-n+in_default w ↦ inl (none_follows w.in_ok-n.field-0 _ _ w.in_default.not-File (rw (sym c.loop-turn.auto.buffer) w.in_ok-n.ensures.missed))
      ],
    )
