use Rattle.std.proofs.Common.{◌≡◌, not, sym, refl, ap, ◌∙◌, arith, rules, tests}
use Rattle.std.specs.List.{range_with_len}
use Rattle.std.specs.Option.{option_map}
use Rattle.std.proofs.lemmas.Iterator.{YieldsList-from_range}
use Rattle.std.proofs.lemmas.Iterator.Search.{find_from_yields_List}
use Rattle.std.proofs.lemmas.List.FromFn.{length-range_with_len}
use Rattle.calculus.specs.Advice.{Order, choice}
use Rattle.calculus.proofs.Advising.{three_advised}
use Rattle.advice.specs.Names.{on_low}
use Rattle.advice.proofs.Opens.{fixed, by_number, choice_first, choice_none}
use Rattle.advice.proofs.steadies.calls.SteadyAdviser.ask.Goals as goal

pub returns-then-not-have_length : goal.returns-then-not-have_length
returns-then-not-have_length c =
    let m = c.args.self.now.unknowns in
    choice_none _ c.args.ends.lows.now c.args.ends.highs.now m (sym (three_advised.0 m)) c.if-not-have_length.ensures

pub returns : goal.returns
returns c =
    let m = c.args.self.now.unknowns in
    let lows = c.args.ends.lows.now in
    let highs = c.args.ends.highs.now in
    let low : c.map.result ≡ option_map on_low c.find.result = search rules in
    low
    ∙ choice_first (λ x. x) c.find.result (range_with_len 0 m) lows highs m
    (find_from_yields_List (λ x. not (fixed lows highs x)) _ _ c.find.result c.find.ensures.ran (YieldsList-from_range 0 m m refl (omega arith))
    (λ x b q k. search (rules, tests)))
    (sym (length-range_with_len 0 m)) c.if-not-have_length.ensures
    ∙ ap (λ (o : Order). choice o lows highs) (by_number on_low m)
