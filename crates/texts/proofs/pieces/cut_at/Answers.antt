use Rattle.std.proofs.Common.{◌≡◌, ◌+◌, ◌∷◌, ◌++◌, ◌==◌, take, drop, Some, None, refl, ap, ◌∙◌, sym}
use Rattle.std.specs.List.{position}
use Rattle.std.proofs.lemmas.List.{take_rest}
use Rattle.texts.specs.Pieces.{Lacks, pieces}
use Rattle.texts.proofs.Cuts.{around, lacks_before, lacks_all, there, pieces_cut, pieces_last}
use Rattle.texts.proofs.pieces.cut_at.Goals as goal

pub returns-in-Some : goal.returns-in-Some
returns-in-Some c =
    let bs = c.args.bytes.now in
    let b = c.args.b in
    let n = c.in-Some.n in
    let found : position (λ x. x == b) bs ≡ Some n = sym c.place.ensures ∙ c.in-Some.is in
    let before : Lacks b (take n bs) = lacks_before b bs n found in
    let whole : bs ≡ take n bs ++ b ∷ drop (n + 1) bs = around bs n b (there b bs n found).0 (there b bs n found).1 in
    record {
      first = before;
      rest = simp take_rest whole;
      cuts = simp take_rest (ap (pieces b) whole ∙ pieces_cut b (take n bs) (drop (n + 1) bs) before);
    }

pub returns-in-None : goal.returns-in-None
returns-in-None c =
    let bs = c.args.bytes.now in
    let b = c.args.b in
    let found : position (λ x. x == b) bs ≡ None = sym c.place.ensures ∙ c.in-None.is in
    let lacks : Lacks b bs = lacks_all b bs found in
    record { first = lacks; rest = refl; cuts = pieces_last b bs lacks }
