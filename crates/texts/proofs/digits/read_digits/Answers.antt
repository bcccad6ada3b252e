use Rattle.std.proofs.Common.{◌≡◌, ℕ, ◌*◌, ◌<◌, length, get_or, Some, sym, ap, ◌∙◌, arith, true-eqb, false-eqb}
use Rattle.std.specs.Char.{digit_value}
use Rattle.std.specs.Str.Parse.{digits_value}
use Rattle.std.proofs.lemmas.Int.Digits.{digits_value_more}
use Rattle.std.proofs.lemmas.List.{take_all}
use Rattle.texts.specs.Digits.{all_digits}
use Rattle.texts.proofs.Numbers.{digits_more, room, number_is, number_not, number_empty, number_long}
use Rattle.texts.proofs.digits.read_digits.Goals as goal
use Rattle.texts.proofs.digits.read_digits.Goals.{then-is_empty-via-then-is_empty, then-is_empty-via-else-is_empty+then-field-most}

pub returns-then-is_empty : goal.returns-then-is_empty
returns-then-is_empty c =
    elim c.then-is_empty.branch [
      | then-is_empty-via-then-is_empty w ↦ number_empty _ _ _ (omega (arith, true-eqb (length c.args.field.now) 0 (sym w.if-is_empty.true ∙ c.is_empty.ensures)))
      | then-is_empty-via-else-is_empty+then-field-most w ↦ number_long _ _ _ w.if-field-most.true
    ]

pub returns-in_err-worth : goal.returns-in_err-worth
returns-in_err-worth c =
    let none : digit_value (get_or c.args.field.now c.loop-b.b-index 0) < c.args.radix → ⊥ = c.in_err-worth.ensures in
    c.from_residual.ensures ∙ number_not _ _ _ c.loop-b.b-index c.loop-b-test.true (omega (arith, none))

pub overflow_mul-value : goal.overflow_mul-value
overflow_mul-value c =
    let d = c.in_ok-worth.ensures in
    let h = room c.args.radix c.args.most c.loop-b.b-index c.args.field.now c.requires.radix.0 c.requires.room (omega arith) c.loop-b-test.true c.loop-b.invariant.0 d.0 in
    omega (arith, h, ap (λ v. v * c.args.radix) c.loop-b.invariant.1, ap (λ r. c.loop-b.value * r) c.from.ensures)

pub overflow_add-value : goal.overflow_add-value
overflow_add-value c =
    let d = c.in_ok-worth.ensures in
    let h = room c.args.radix c.args.most c.loop-b.b-index c.args.field.now c.requires.radix.0 c.requires.room (omega arith) c.loop-b-test.true c.loop-b.invariant.0 d.0 in
    omega (arith, h, d.1, ap (λ v. v * c.args.radix) c.loop-b.invariant.1, ap (λ r. c.loop-b.value * r) c.from.ensures, c.from-in-loop-b.ensures)

pub loop-b-preserved : goal.loop-b-preserved
loop-b-preserved c =
    let d = c.in_ok-worth.ensures in
    let e = digits_value_more c.args.radix c.args.field.now c.loop-b.b-index c.loop-b-test.true in (
      digits_more _ _ _ c.loop-b-test.true c.loop-b.invariant.0 d.0,
      omega (arith, e, d.1, ap (λ v. v * c.args.radix) c.loop-b.invariant.1, ap (λ r. c.loop-b.value * r) c.from.ensures, c.from-in-loop-b.ensures),
    )

pub returns : goal.returns
returns c =
    let whole = take_all c.loop-b.b-index c.args.field.now c.loop-b-test.false in
    let all = sym (ap (all_digits c.args.radix) whole) ∙ c.loop-b.invariant.0 in
    ap Some (c.loop-b.invariant.1 ∙ ap (digits_value c.args.radix) whole) ∙ number_is _ _ _ (omega (arith, false-eqb (length c.args.field.now) 0 (sym c.if-is_empty.false ∙ c.is_empty.ensures))) (omega arith) all
