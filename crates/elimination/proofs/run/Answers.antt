-- The set solved in the first places, the work places cleared, and each result given to its state. Assumes nothing.
use native.Mathlib.Omega.{arith}
use borrow.Author.Rules.{rules}
use Rattle.chain.specs.Rows.{rows_of}
use Rattle.kernel.specs.Slices.{pair}
use Rattle.kernel.proofs.Lent.{stored_end}
use Rattle.reach.specs.Reach.{stands}
use Rattle.elimination.proofs.Cleared.{cleared_first}
use Rattle.elimination.proofs.Cut.{cut_long, joined_sized}
use Rattle.elimination.proofs.Running.{within, cut_sized, cut_square, work_sized, weights_given, shares_given}
use Rattle.elimination.proofs.run.Goals as goal

pub overflow_mul-inner : goal.overflow_mul-inner
overflow_mul-inner c =
    let p = c.requires in
    omega (arith, within c.args.sound.sound p.weighable p.square p.weights_sized p.shares_sized)

pub slice_bounds-solve_set-end : goal.slice_bounds-solve_set-end
slice_bounds-solve_set-end c =
    let p = c.requires in
    let f = within c.args.sound.sound p.weighable p.square p.weights_sized p.shares_sized in
    f.work_m

pub slice_bounds-solve_set-end-2 : goal.slice_bounds-solve_set-end-2
slice_bounds-solve_set-end-2 c =
    let p = c.requires in
    let f = within c.args.sound.sound p.weighable p.square p.weights_sized p.shares_sized in
    cut_long _ _ f.work_m

pub slice_bounds-solve_set-end-3 : goal.slice_bounds-solve_set-end-3
slice_bounds-solve_set-end-3 c =
    let p = c.requires in
    let f = within c.args.sound.sound p.weighable p.square p.weights_sized p.shares_sized in
    f.work_e

pub slice_bounds-solve_set-end-4 : goal.slice_bounds-solve_set-end-4
slice_bounds-solve_set-end-4 c =
    let p = c.requires in
    let f = within c.args.sound.sound p.weighable p.square p.weights_sized p.shares_sized in
    cut_long _ _ f.work_e

pub slice_bounds-solve_set-end-5 : goal.slice_bounds-solve_set-end-5
slice_bounds-solve_set-end-5 c =
    let p = c.requires in
    let f = within c.args.sound.sound p.weighable p.square p.weights_sized p.shares_sized in
    f.weights_m

pub slice_bounds-solve_set-end-6 : goal.slice_bounds-solve_set-end-6
slice_bounds-solve_set-end-6 c =
    let p = c.requires in
    let f = within c.args.sound.sound p.weighable p.square p.weights_sized p.shares_sized in
    cut_long _ _ f.weights_m

pub slice_bounds-solve_set-end-7 : goal.slice_bounds-solve_set-end-7
slice_bounds-solve_set-end-7 c =
    let p = c.requires in
    let f = within c.args.sound.sound p.weighable p.square p.weights_sized p.shares_sized in
    f.weights_e

pub slice_bounds-solve_set-end-8 : goal.slice_bounds-solve_set-end-8
slice_bounds-solve_set-end-8 c =
    let p = c.requires in
    let f = within c.args.sound.sound p.weighable p.square p.weights_sized p.shares_sized in
    cut_long _ _ f.weights_e

pub slice_bounds-solve_set-end-9 : goal.slice_bounds-solve_set-end-9
slice_bounds-solve_set-end-9 c =
    let p = c.requires in
    let f = within c.args.sound.sound p.weighable p.square p.weights_sized p.shares_sized in
    f.shares_m

pub slice_bounds-solve_set-end-10 : goal.slice_bounds-solve_set-end-10
slice_bounds-solve_set-end-10 c =
    let p = c.requires in
    let f = within c.args.sound.sound p.weighable p.square p.weights_sized p.shares_sized in
    cut_long _ _ f.shares_m

pub slice_bounds-solve_set-end-11 : goal.slice_bounds-solve_set-end-11
slice_bounds-solve_set-end-11 c =
    let p = c.requires in
    let f = within c.args.sound.sound p.weighable p.square p.weights_sized p.shares_sized in
    f.shares_e

pub slice_bounds-solve_set-end-12 : goal.slice_bounds-solve_set-end-12
slice_bounds-solve_set-end-12 c =
    let p = c.requires in
    let f = within c.args.sound.sound p.weighable p.square p.weights_sized p.shares_sized in
    cut_long _ _ f.shares_e

pub solve_set-requires : goal.solve_set-requires
solve_set-requires c =
    let p = c.requires in
    let f = within c.args.sound.sound p.weighable p.square p.weights_sized p.shares_sized in
    record {
      weighable = p.weighable;
      square = cut_square f;
      weights_sized = cut_sized _ _ f.weights_m f.weights_e;
      shares_sized = cut_sized _ _ f.shares_m f.shares_e;
    }

pub returns : goal.returns
returns c =
    let p = c.requires in
    let f = within c.args.sound.sound p.weighable p.square p.weights_sized p.shares_sized in
    let a = c.args in
    let chain = rows_of a.sound.chain in
    let set = stands a.set in
    let q = work_sized f.squared c.solve_set.ensures.square p.square in
    let x = joined_sized f.few c.solve_set.ensures.weights_are.sized p.weights_sized in
    let y = joined_sized f.few c.solve_set.ensures.shares_are.sized p.shares_sized in
    let r = p.weighable.size_is in
    record {
      work = cleared_first q c.clear_first.ensures (omega arith);
      weights_are = weights_given chain set r (pair a.wm.now a.we.now) x.size_m c.solve_set.ensures.weights_are (stored_end c.spread.ensures (search rules) (search rules));
      shares_are = shares_given chain set r (pair a.sm.now a.se.now) y.size_m c.solve_set.ensures.shares_are (stored_end c.spread-2.ensures (search rules) (search rules));
    }
