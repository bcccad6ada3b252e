use Rattle.std.proofs.Common.{◌≡◌, ◌<◌, true, ◌||◌, eqb, length, sym, refl, ap, ◌∙◌, rules}
use Rattle.std.proofs.lemmas.Bool.{lt-ltb, cond-true, eq-eqb, ne_eqb, or_left, not_from_false}
use Rattle.vectors.specs.Vectors.{on}
use Rattle.sets.proofs.TwoLevels.{rows_changed, tied_set, on_some}
use Rattle.sets.proofs.two_level.TwoLevelSetWaitingSet.put.Goals as goal

pub invariant_of-self : goal.invariant_of-self
invariant_of-self c =
    let s = c.args.self.now in
    let row = c.in-Some.row in
    let bit = c.in-Some.bit in
    let x = c.switched_on.result in
    let long : row < length s.rows = search rules in
    let lit : on x bit ≡ true = c.switched_on.ensures bit ∙ or_left (eqb bit bit) _ (eq-eqb bit bit refl) in
    record {
      tied = tied_set s.group c.switched_on-self.result s.rows row x true long
          (not_from_false (eqb x 0) (on_some x bit lit))
          (λ j ne. c.switched_on-self.ensures j ∙ ap (λ b. b || on s.group j) (ne_eqb j row ne))
          (c.switched_on-self.ensures row ∙ or_left (eqb row row) _ (eq-eqb row row refl))
          s.tied;
    }

pub returns-clause-after : goal.returns-clause-after
returns-clause-after c =
    let s = c.args.self.now in
    let p = c.in-Some.ensures in
    let long : length s.rows ≡ 8 = search rules in
    rows_changed (λ e o. e || o) s.rows c.args.t c.in-Some.row c.in-Some.bit c.switched_on.result (λ o. refl) p.0 long p.1 c.switched_on.ensures ∙ sym (cond-true _ _ _ (lt-ltb c.args.t 64 p.0))
