-- Laws of reading and wording, and worked examples. A function of src/laws.rt names them, so that each is proved.
use Rattle.std.specs.Prelude.{◌≡◌, ℕ, ◌-◌, ◌^◌, ◌<◌, ◌≤◌, false, cond, List, [], ◌∷◌, ◌++◌, length, ℤ, pos, negsuc, Some, None, Ok, Err, codes}
use Rattle.std.specs.Int.Signed.{mag}
use Rattle.std.specs.List.{flat_map, AllByRecursion}
use Rattle.std.specs.Int.{saturate_to_bits}
use Rattle.std.specs.Fmt.{signed_decimal}
use Rattle.calculus.specs.Arithmetic.{near}
use Rattle.calculus.specs.Wording.{row_worded}
use Rattle.script.specs.Commands.{add, later, parsed}
use Rattle.script.specs.Numbers.{numeral, nearest_i32, nearest_i64}
use Rattle.script.specs.Words.{blank, words}
use Rattle.script.specs.declared.faults.Expected.TheVariants.{Command, Number, Label, End}
use Rattle.keywords.specs.declared.Later.TheVariants.{Check}

-- no word is empty, and none has a blank in it
abbrev pub WordsWhole : Type 0
WordsWhole = (line : List ℕ) → AllByRecursion (λ w. (0 < length w) × AllByRecursion (λ b. blank b ≡ false) w) (words line)

-- the bytes that are no blanks
abbrev pub unblanked : List ℕ → List ℕ
unblanked [] = []
unblanked (b ∷ bs) = cond (blank b) (unblanked bs) (b ∷ unblanked bs)

-- the words of a line are all of it but its blanks, in the same order
abbrev pub WordsKeep : Type 0
WordsKeep = (line : List ℕ) → flat_map (λ w. w) (words line) ≡ unblanked line

-- a printed number reads back as itself
abbrev pub ReadsBack : Type 0
ReadsBack = (z : ℤ) → mag z < 2 ^ 63 → numeral (signed_decimal z) ≡ Some z

-- a number lies within a limit just where the one that is taken for it does, if the limit is below the type's greatest number
abbrev pub StaysOutside : Type 0
StaysOutside = (h limit : ℕ) (z : ℤ) → limit < 2 ^ h - 1 → near limit (saturate_to_bits h z) ≡ near limit z

-- a printed row, with `add ` in front, adds that row
abbrev pub RowReadsBack : Type 0
RowReadsBack = (label : ℕ) (cs : List ℤ) (constant : ℤ) → label ≤ 255 → AllByRecursion (λ c. mag c < 2 ^ 31) cs → mag constant < 2 ^ 63 →
    parsed (codes "add " ++ row_worded label cs constant) ≡ Ok (Some (add label cs constant))

-- what is no number and what is, numbers past their type, and the first thing that is expected on a wrong line
abbrev pub Worked : Type 0
Worked =
    (numeral (codes "+5") ≡ None)
    × (numeral (codes "007") ≡ None)
    × (numeral (codes "-0") ≡ None)
    × (numeral (codes "-") ≡ None)
    × (numeral (codes "1x") ≡ None)
    × (numeral (codes "-15") ≡ Some (negsuc 14))
    × (numeral (codes "1234567890123456789012345678901234567890") ≡ Some (pos 1234567890123456789012345678901234567890))
    × (nearest_i32 (codes "1234567890123456789012345678901234567890") ≡ Some (pos 2147483647))
    × (nearest_i64 (codes "-1234567890123456789012345678901234567890") ≡ Some (negsuc 9223372036854775807))
    × (parsed (codes "add 1 2 -3") ≡ Ok (Some (add 1 (pos 2 ∷ []) (negsuc 2))))
    × (parsed (codes " add 3  -15") ≡ Ok (Some (add 3 [] (negsuc 14))))
    × (parsed (codes "  # x") ≡ Ok None)
    × (parsed (codes "check x") ≡ Ok (Some (later Check)))
    × (parsed (codes "adding 1 2") ≡ Err Command)
    × (parsed (codes "add 256 x") ≡ Err Label)
    × (parsed (codes "unknown 0 x y") ≡ Err Number)
    × (parsed (codes "settle 1") ≡ Err End)
