-- The worked cases on reduced forms, doubles, rounding, ranges and a row met to its end, computed.
-- It rests on the definitions and the library alone.
use Rattle.std.proofs.Common.{refl}
use Rattle.std.specs.Int.Signed.{le_z_yes}
use Rattle.calculus.specs.Arithmetic.{divisor, divisor_within}
use Rattle.calculus.specs.Worked.{Reduces, Doubles, Rounds, EndsIncluded, MetToTheEnd}

pub reduces_out : Reduces
unfolding divisor divisor_within
reduces_out = refl

pub doubles_out : Doubles
unfolding divisor divisor_within
doubles_out = (refl, refl, refl)

pub rounds_out : Rounds
rounds_out = (refl, refl, refl, refl)

pub ends_out : EndsIncluded
ends_out = (
  ((le_z_yes tt, le_z_yes tt, tt), (le_z_yes tt, le_z_yes tt, tt)),
  (λ h. h.0.le, λ h. h.1.le),
  (λ h. h, λ h. h.2),
  (le_z_yes tt, le_z_yes tt, λ h. h.le),
)

pub met_out : MetToTheEnd
met_out = (le_z_yes tt, λ h. h.le)
