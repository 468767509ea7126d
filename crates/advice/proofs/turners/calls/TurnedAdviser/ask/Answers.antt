use Rattle.std.proofs.Common.{◌≡◌, ap, ◌∙◌, rules}
use Rattle.std.specs.Option.{option_map}
use Rattle.calculus.specs.Advice.{turned_pair}
use Rattle.advice.proofs.Turning.{choice_turned}
use Rattle.advice.proofs.turners.calls.TurnedAdviser.ask.Goals as goal

pub returns : goal.returns
returns g c =
    let turned : c.map.result ≡ option_map turned_pair c.ask.result = search rules in
    turned ∙ ap (option_map turned_pair) c.ask.ensures
    ∙ choice_turned (g.A.Adviser.advice c.args.self.now.inner).mind.order c.args.ends.lows.now c.args.ends.highs.now
