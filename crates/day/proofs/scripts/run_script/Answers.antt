use Rattle.std.proofs.Common.{rules, arith, ◌≡◌, ◌+◌, ◌∷◌, ◌^◌, ◌<◌, Ok, length, refl, sym, ap, ◌∙◌, add-one, inl}
use Rattle.day.proofs.Cutting.{few_lines}
use Rattle.day.proofs.Turning.{text_on, stop_on}
use Rattle.day.proofs.scripts.run_script.Goals as goal

pub loop-before-init : goal.loop-before-init
loop-before-init c =
    let few = few_lines c.args.script.now in
    let short : length c.args.script.now < 2 ^ 64 = search rules in
    let made = c.enumerate-before-items.ensures in
    rw (c.into_iter-before-iterator.ensures.into_iter_gives, made.source, made.count, c.of.ensures, c.new-day.ensures) (
      (tt, tt, inl (omega arith)),
      tt,
      omega arith,
      refl,
      refl,
    )

pub loop-before-preserved : goal.loop-before-preserved
loop-before-preserved c =
    let (can, ends, counted, text, stop) = c.loop-before.invariant in
    let taken : c.take_line.result ≡ Ok tt = search rules in
    let cut : c.loop-before.before-iterator.iter ≡ c.in-Some.bytes.now ∷ c.next.new.self.iter = search rules in
    let next : c.next.new.self.count ≡ c.loop-before.before-iterator.count + 1 = search rules in
    let (own, spoke, printed) = (rw taken at c.take_line.ensures) in
    let now = c.loop-before in
    let n = now.before-iterator.count + 1 in
    let all = now.before-iterator.iter in
    let ls = c.next.new.self.iter in
    let l = c.in-Some.bytes.now in
    let q = c.take_line.new.self in
    let short : length c.args.script.now < 2 ^ 64 = search rules in
    let fewer : length all ≡ length ls + 1 = ap length cut ∙ sym (add-one (length ls)) in
    rw next (
      (tt, tt, inl (omega arith)),
      tt,
      omega arith,
      text_on n now.day all ls l cut own q _ _ _ spoke printed text,
      stop_on n now.day all ls l cut own q _ spoke stop,
    )
