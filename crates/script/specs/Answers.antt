-- The wording of an answer.
use Rattle.std.specs.Prelude.{ℕ, List, ◌++◌, codes, decimal}
use Rattle.calculus.specs.Wording.{refusal_worded}
use Rattle.keywords.specs.Keywords.{later_word}
use Rattle.script.specs.declared.answers.Answer.{Answer}
use Rattle.script.specs.declared.answers.Answer.TheVariants.{Draft, Unknown, Settled, Added, Marked, Returned, Refused, Rows, NotOffered}

-- the bytes of an answer; a refusal has its number and its word
abbrev pub worded : Answer → List ℕ
worded Draft = codes "draft"
worded (Unknown k) = codes "unknown " ++ decimal k
worded (Settled n) = codes "settled " ++ decimal n
worded Added = codes "added"
worded Marked = codes "marked"
worded Returned = codes "returned"
worded (Refused r) = codes "refused " ++ refusal_worded r
worded (Rows r) = codes "rows " ++ decimal r
worded (NotOffered l) = codes "not offered yet: " ++ later_word l
