use Rattle.std.proofs.Common.{◌≡◌, ◌+◌, ◌-◌, ◌/◌, [], ◌∷◌, ◌++◌, drop, sym, ap, ap₂, ◌∙◌, arith}
use Rattle.texts.specs.Fronts.{hex}
use Rattle.texts.proofs.Fronted.{set_before, digit_more, hex_more, hex_none}
use Rattle.texts.proofs.fronts.Front.put_digits.Goals as goal

pub loop-place-preserved : goal.loop-place-preserved
loop-place-preserved c =
    let k = c.args.count - c.loop-place._place in
    let n = c.loop-place.left in
    let bs = c.loop-place.self.bytes in
    let at = c.loop-place.at in
    let less : k - 1 ≡ c.args.count - (c.loop-place._place + 1) = omega arith in (
      omega arith,
      digit_more (hex k n) _ _ _ _ c.hex_digit.result (hex_more k n (omega arith) ∙ ap₂ (λ i x. hex i (n / 16) ++ x ∷ []) less (sym c.hex_digit.ensures)) (set_before bs at c.hex_digit.result (omega arith) (omega arith)) c.loop-place.invariant.1,
      omega arith,
    )

pub returns : goal.returns
returns c =
    let text = drop c.loop-place.at c.loop-place.self.bytes in
    (sym (ap (λ l. l ++ text) (hex_none (c.args.count - c.loop-place._place) c.loop-place.left (omega arith))) ∙ c.loop-place.invariant.1, omega (arith, c.loop-place.invariant.2))
