use Rattle.std.proofs.Common.{Bor, List, ℕ, refl, ap, ◌∙◌}
use Rattle.std.proofs.lemmas.Bool.Decides.{Decides-eqb}
use Rattle.std.proofs.lemmas.Slice.Eq.{strip_suffix_is}
use Rattle.texts.proofs.Read.{without_end}
use Rattle.texts.proofs.records.without_return.Goals as goal

pub returns : goal.returns
returns c =
    let l = c.args.line in
    ap (λ (x : Bor (List ℕ)). x.now) c.unwrap_or.ensures ∙ without_end l.now c.strip_suffix.result l (strip_suffix_is Decides-eqb _ _ _ c.strip_suffix.ensures.cases) refl
