use Rattle.std.proofs.Common.{◌≡◌, not, vec_items, ◌∙◌, sym, ap, rules, tests}
use Rattle.std.specs.Option.{option_map}
use Rattle.std.proofs.lemmas.Iterator.{YieldsList-from_slice}
use Rattle.std.proofs.lemmas.Iterator.Search.{find_from_yields_List}
use Rattle.advice.specs.Names.{on_low}
use Rattle.advice.proofs.Opens.{fixed, first, choice_first}
use Rattle.advice.proofs.blamers.calls.BlamingAdviser.ask.Goals as goal

pub returns-in_err-unknown : goal.returns-in_err-unknown
returns-in_err-unknown c =
    let v = c.args.self.now.names in
    let lows = c.args.ends.lows.now in
    let highs = c.args.ends.highs.now in
    let found : option_map (λ x. x.now) c.find.result ≡ first lows highs (vec_items v) =
    find_from_yields_List (λ x. not (fixed lows highs x)) _ _ c.find.result c.find.ensures.ran (YieldsList-from_slice (vec_items v) cc)
    (λ x b q k. search (rules, tests)) in
    c.from_residual.ensures ∙ sym (ap (option_map (λ x. on_low x.now)) c.in_err-unknown.was)
    ∙ choice_first (λ x. x.now) c.find.result (vec_items v) lows highs c.len.result found (c.len.ensures ∙ v.ok.0) c.if-not-have_length.ensures

pub returns : goal.returns
returns c =
    let v = c.args.self.now.names in
    let lows = c.args.ends.lows.now in
    let highs = c.args.ends.highs.now in
    let found : option_map (λ x. x.now) c.find.result ≡ first lows highs (vec_items v) =
    find_from_yields_List (λ x. not (fixed lows highs x)) _ _ c.find.result c.find.ensures.ran (YieldsList-from_slice (vec_items v) cc)
    (λ x b q k. search (rules, tests)) in
    sym (ap (option_map (λ x. on_low x.now)) c.in_ok-unknown.was)
    ∙ choice_first (λ x. x.now) c.find.result (vec_items v) lows highs c.len.result found (c.len.ensures ∙ v.ok.0) c.if-not-have_length.ensures
