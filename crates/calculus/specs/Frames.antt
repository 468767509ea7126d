-- Frames: the text of a line and of a log, and the byte that is due at a place of a text.
use Rattle.std.specs.Prelude.{ℕ, zero, suc, ◌+◌, ◌-◌, ◌*◌, ◌/◌, ◌%◌, Bool, true, false, cond, ◌&&◌, ◌||◌, List, [], ◌∷◌, ◌++◌, ℤ, pos, negsuc, Some, Option, ◌==◌, nat_le, nat_lt}
use Rattle.std.specs.List.{flat_map}
use Rattle.calculus.specs.Limits.{most_lines}
use Rattle.calculus.specs.Logs.{Line, entries}
use Rattle.calculus.specs.Tables.{picked}
use Rattle.calculus.specs.declared.kinds.Fields.{Fields}

-- the byte of a hexadecimal digit: 0 to 9 from 48 on, A to F from 65 on
abbrev pub digit : ℕ → ℕ
digit v = cond (nat_lt v 10) (48 + v) (55 + v)

-- a number in so many hexadecimal digits, high digit first
unfoldable pub hex : ℕ → ℕ → List ℕ
hex zero v = []
hex (suc d) v = hex d (v / 16) ++ digit (v % 16) ∷ []

-- a signed number of 32 bits as the unsigned one with the same bits
abbrev pub bits : ℤ → ℕ
bits (pos v) = v
bits (negsuc v) = 4294967295 - v

-- the fields of a line: kind in 1 byte, i and j in 2, k and m in 4, each byte in two digits
abbrev pub head : Fields → List ℕ
head f = hex 2 f.kind ++ (hex 4 f.i ++ (hex 4 f.j ++ (hex 8 f.k ++ hex 8 f.m)))

-- the frame of a line: its fields, each entry of its row in 4 bytes, and the byte 0A
abbrev pub frame : Line → List ℕ
frame l = head l.fields ++ (flat_map (λ z. hex 8 (bits z)) (entries l.row) ++ 10 ∷ [])

-- the text of a log: the frames of its lines
abbrev pub text : List Line → List ℕ
text ls = flat_map frame ls

-- the bytes of a frame for n unknowns
abbrev pub frame_bytes : ℕ → ℕ
frame_bytes n = 8 * n + 35

-- a digit, in upper case
abbrev pub is_digit : ℕ → Bool
is_digit b = (nat_le 48 b && nat_le b 57) || (nat_le 65 b && nat_le b 70)

-- byte b is due at place p of a text for n unknowns: 0A at the end of each frame and a digit everywhere else, and nothing after the
-- last frame that a log may have
abbrev pub due : ℕ → ℕ → ℕ → Bool
due n p b =
    nat_lt p (most_lines * frame_bytes n) && cond (p % frame_bytes n == frame_bytes n - 1) (b == 10) (is_digit b)

-- a text breaks here where its byte is not due, and else where the rest breaks
abbrev pub break_or : Bool → ℕ → Option ℕ → Option ℕ
break_or true p rest = rest
break_or false p rest = Some p

-- where the bytes that follow place p break: at the first that is not due, or at the end where it stops within a frame
abbrev pub breaks_from : ℕ → ℕ → List ℕ → Option ℕ
breaks_from n p [] = picked (nat_lt 0 (p % frame_bytes n)) p
breaks_from n p (b ∷ bs) = break_or (due n p b) p (breaks_from n (suc p) bs)

-- where a text for n unknowns breaks; a text that does not, passes
abbrev pub breaks : ℕ → List ℕ → Option ℕ
breaks n bs = breaks_from n 0 bs
