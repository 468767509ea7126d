use Rattle.std.proofs.Common.{◌≡◌, vec_len, ap, arith, rules}
use Rattle.std.proofs.lemmas.Grind.{common_steps}
use Rattle.calculus.specs.Promises.{FieldsFit}
use Rattle.cutlog.specs.Books.{memory_of, memory_with}
use Rattle.cutlog.proofs.Adding.{book_more, past_same}
use Rattle.cutlog.proofs.numbers.Numbers.push.Goals as goal

pub returns-clause-book : goal.returns-clause-book
returns-clause-book c =
    let s = c.args.self.now in
    let t = c.hold.new.self in
    let row = c.args.row.now in
    let wide : FieldsFit c.args.fields = search rules in
    let memory : memory_of t ≡ memory_with s c.args.fields row = grind (arith, common_steps) in
    book_more s t c.args.fields row c.requires.room c.requires.shape c.hold.ensures.held c.hold.ensures.unknowns memory wide
    c.write_line.ensures.back (ap vec_len c.hold.ensures.cells)

pub returns-clause-untouched : goal.returns-clause-untouched
returns-clause-untouched c =
    let s = c.args.self.now in
    let t = c.hold.new.self in
    let row = c.args.row.now in
    let memory : memory_of t ≡ memory_with s c.args.fields row = grind (arith, common_steps) in
    past_same s t c.args.fields row c.requires.room c.requires.shape c.hold.ensures.held c.hold.ensures.unknowns memory
