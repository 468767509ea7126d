use Rattle.std.proofs.Common.{◌++◌, take}
use Rattle.std.specs.Prelude.{decimal}
use Rattle.std.specs.Fmt.{HasWritten, IsPlainFormatter}
use Rattle.std.specs.List.{flat_map}
use Rattle.calculus.specs.Wording.{spaced}
use Rattle.forms.proofs.rows.RowViewDisplay.fmt.Given as goal

-- the label and the coefficients so far are written
abbrev pub invariant-loop-coefficient : goal.invariant-loop-coefficient
invariant-loop-coefficient g l =
    IsPlainFormatter l.fn.f → HasWritten g.W.Write.write_str_gives l.fn.f (decimal l.fn.self.label ++ flat_map spaced (take l.coefficient-index l.coefficient-items)) l.f
