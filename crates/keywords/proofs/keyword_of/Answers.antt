use Rattle.std.proofs.Common.{◌≡◌, ℕ, List, length, codes, sym, ap, arith, rules}
use Rattle.std.proofs.lemmas.Slice.Eq.{HasBytesAt, text_from_reads}
use Rattle.keywords.specs.Keywords.{named}
use Rattle.keywords.proofs.keyword_of.Goals as goal

-- a word that is read byte by byte
read : (word name : List ℕ) → length word ≡ length name → HasBytesAt word 0 name → named name ≡ named word
read word name same reads = sym (ap named (text_from_reads word name same reads))

pub returns-in-settle : goal.returns-in-settle
returns-in-settle c = read c.args.word.now (codes "settle") (omega arith) (search rules)

pub returns-in-search : goal.returns-in-search
returns-in-search c = read c.args.word.now (codes "search") (omega arith) (search rules)

pub returns-in-return : goal.returns-in-return
returns-in-return c = read c.args.word.now (codes "return") (omega arith) (search rules)

pub returns-in-frames : goal.returns-in-frames
returns-in-frames c = read c.args.word.now (codes "frames") (omega arith) (search rules)

pub returns-in-unknown : goal.returns-in-unknown
returns-in-unknown c = read c.args.word.now (codes "unknown") (omega arith) (search rules)
