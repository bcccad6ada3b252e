use Rattle.std.proofs.Common.{◌≡◌, ◌∷◌, sym, ap, ◌∙◌}
use Rattle.std.proofs.lemmas.Option.{MatchOption-at_some}
use Rattle.texts.specs.Pieces.{pieces}
use Rattle.texts.specs.Requests.{asked_with}
use Rattle.texts.proofs.Asked.{too_many}
use Rattle.texts.proofs.requests.read_fields.Goals as goal

pub returns-in_default-Some-cut_at : goal.returns-in_default-Some-cut_at
returns-in_default-Some-cut_at c =
    let a = c.cut_at.result.0.now in
    let b = c.cut_at-in_default-Some.result.0.now in
    let first = MatchOption-at_some _ _ _ c.in_default-Some.is-1 c.cut_at.ensures.cuts in
    let second = MatchOption-at_some _ _ _ c.in_default-Some-cut_at.is-1 c.cut_at-in_default-Some.ensures.cuts in
    let after = c.in_default-Some-cut_at.field-0-1.now in
    let whole : pieces 44 c.args.fields.now ≡ a ∷ b ∷ pieces 44 after = cc (first, second) in
    too_many c.args.verb a b after ∙ sym (ap (asked_with c.args.verb) whole)
