use Rattle.std.proofs.Common.{◌≡◌, ◌^◌, ◌<◌, drop}
use Rattle.std.specs.Option.{option_map}
use Rattle.script.specs.Numbers.{digits_after}
use Rattle.script.proofs.Saturation.{cut}
use Rattle.script.proofs.numbers.read_digits.Given as goal

-- what is left, after the number so far, gives the whole number
abbrev pub invariant-loop-b : goal.invariant-loop-b
invariant-loop-b l =
    (l.number < 2 ^ 64)
    × (option_map cut (digits_after l.number (drop l.b-index l.text)) ≡ option_map cut (digits_after 0 l.text))
