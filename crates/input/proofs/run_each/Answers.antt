-- The closure may be called at each file: no call changes `fill`.
use Rattle.std.proofs.Common.{rules, ◌≡◌, refl}
use denote.Param.Always.{mut_by}
use Rattle.input.proofs.run_each.Goals as goal

pub each_file-requires : goal.each_file-requires
each_file-requires g c = mut_by _ (λ s. s.0.now ≡ c.args.fill) (λ s a i. rw i (c.requires.callable, c.requires.fits)) (λ s a r t i e. search rules) _ refl
