use Rattle.std.proofs.Common.{◌≡◌, ◌+◌, length, slice_range, vec_len, ap, arith}
use Rattle.cutlog.specs.Books.{memory_of}
use Rattle.cutlog.proofs.Held.{line_fits, line_spells, matched, numbers_long, numbers_of}
use Rattle.cutlog.proofs.numbers.Numbers.line.Goals as goal

pub returns : goal.returns
returns c =
    let s = c.args.self.now in
    let n = s.unknowns in
    let q = c.args.line in
    let fits = line_fits n q (vec_len s.cells) (omega (arith, s.within)) in
    let start = c.start-start.ensures in
    let whole : slice_range c.deref.result.now c.start-start.result (c.start-start.result + c.line_size.result)
    ≡ numbers_of n (memory_of s) q =
    λ x. slice_range (c.deref.ensures.value x) (start x) (start x + c.line_size.ensures x) in
    matched c.split_first_chunk.result c.split_first_chunk.ensures.cases
    (λ short. absurd (omega (arith, short, ap length whole, numbers_long n q (memory_of s) (omega (arith, fits, s.cells.ok.0)))))
    (λ p h. line_spells n s.held q (memory_of s) _ p.0.now p.1.now c.if-line-self.false (omega (arith, fits, s.cells.ok.0)) whole h.0 h.1)
