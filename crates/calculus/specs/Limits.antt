-- The limits, each under its own name. Four of them are 2^30 today and are still four rules.
use Rattle.std.specs.Prelude.{ℕ}

-- unknowns of a ticket
abbrev pub most_unknowns : ℕ
most_unknowns = 24

-- rows that may stand at once
abbrev pub most_rows : ℕ
most_rows = 96

-- marks that may stand at once
abbrev pub most_marks : ℕ
most_marks = 8

-- entries of a trail
abbrev pub most_entries : ℕ
most_entries = 256

-- lines that a log may hold
abbrev pub most_lines : ℕ
most_lines = 65536

-- an end of a range, above and below 0
abbrev pub end_limit : ℕ
end_limit = 1048576

-- a coefficient of an added row, above and below 0
abbrev pub added_coefficient_limit : ℕ
added_coefficient_limit = 32768

-- the constant of an added row, above and below 0
abbrev pub added_constant_limit : ℕ
added_constant_limit = 1073741824

-- a coefficient of a formed row (a sum or an open part), above and below 0
abbrev pub formed_coefficient_limit : ℕ
formed_coefficient_limit = 1073741824

-- the constant of a formed row, above and below 0
abbrev pub formed_constant_limit : ℕ
formed_constant_limit = 1073741824

-- a multiplier of a sum, or the divisor of a cut
abbrev pub multiplier_limit : ℕ
multiplier_limit = 1073741824
