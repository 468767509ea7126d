use Rattle.std.proofs.Common.{◌≡◌, length, vec_len, arith, rules}
use Rattle.std.proofs.lemmas.Grind.{common_steps}
use Rattle.std.proofs.lemmas.List.Elements.{All-push}
use Rattle.calculus.specs.Rows.{Standing}
use Rattle.rows.proofs.store.Rows.add.Goals as goal

pub invariant_of-self : goal.invariant_of-self
invariant_of-self c =
    let given : c.of.result.row.coefs ≡ c.args.coefficients.now = search rules in
    let wide : length c.of.result.row.coefs ≡ vec_len c.self.inside.spans = grind (arith, common_steps, given) in
    record {
      spans_few = c.self.invariant.spans_few;
      rows_few = omega (arith, c.push_reserved.ensures.len, c.if-len-ge-MAX_ROWS.false);
      rows_room = omega (arith, c.push_reserved.ensures.capacity, c.self.invariant.rows_room);
      rows_wide = rw (c.push_reserved.ensures.items) (All-push (λ (s : Standing). length s.row.coefs ≡ vec_len c.self.inside.spans) _ _ c.self.invariant.rows_wide wide);
      marks_few = c.self.invariant.marks_few;
      marks_room = c.self.invariant.marks_room;
    }
