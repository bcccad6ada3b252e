use Rattle.std.proofs.Common.{◌≡◌, ℕ, ◌*◌, ◌^◌, ◌<◌, ◌≤◌, Some, None, Option, sym, ap, ◌∙◌, arith, pow-suc, rules}
use Rattle.std.specs.Prelude.{IfSome, IfNone}
use Rattle.vectors.specs.Vectors.{in_vector, highest}
use Rattle.vectors.proofs.Vectors.{highest_empty, highest_power}
use Rattle.vectors.proofs.highest.Goals as goal

highest_log : (v : ℕ) (log : Option ℕ) → v < 2 ^ 64 → IfNone log (v ≡ 0) → IfSome log (λ k. 2 ^ k ≤ v) → IfSome log (λ k. v < 2 * 2 ^ k) → log ≡ highest 64 (in_vector v)
highest_log v None big zero low up = sym (ap (λ x. highest 64 (in_vector x)) zero ∙ highest_empty 64)
highest_log v (Some k) big zero low up = sym (highest_power v 64 k big (omega arith) low (omega (arith, pow-suc 2 k)))

pub returns : goal.returns
returns c =
    let log = c.checked_ilog2.ensures in
    let same : c.map.result ≡ c.checked_ilog2.result = search rules in
    same ∙ highest_log c.args.v c.checked_ilog2.result (omega arith) log.none log.power_le log.next_power_gt
