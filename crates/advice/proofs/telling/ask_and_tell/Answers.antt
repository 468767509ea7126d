use Rattle.std.proofs.Common.{ap, ◌∙◌}
use Rattle.calculus.specs.Advice.{Advice, advised}
use Rattle.calculus.proofs.Advising.{told_like}
use Rattle.advice.proofs.Tells.{chosen_open}
use Rattle.advice.proofs.telling.ask_and_tell.Goals as goal

pub returns-in-Some-clause-same : goal.returns-in-Some-clause-same
returns-in-Some-clause-same g c =
    ap (λ (a : Advice). advised a) c.told.ensures
    ∙ (told_like (g.A.Adviser.advice c.args.adviser.now) _ (g.met.A.Adviser.kept c.args.adviser.now)).same

pub returns-in-Some-clause-unfixed : goal.returns-in-Some-clause-unfixed
returns-in-Some-clause-unfixed g c =
    chosen_open (g.A.Adviser.advice c.args.adviser.now).mind.order c.args.ends.lows.now c.args.ends.highs.now c.ask-choice.result
    (g.met.A.Adviser.kept c.args.adviser.now).orderly c.ask-choice.ensures
