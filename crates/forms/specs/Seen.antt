-- What a row that is lent means.
use Rattle.calculus.specs.Account.{standing}
use Rattle.calculus.specs.Rows.{Standing}
use Rattle.forms.specs.declared.rows.RowView.{RowView}

-- a standing row
abbrev pub seen : RowView → Standing
seen v = standing v.label v.coefficients.now v.constant
