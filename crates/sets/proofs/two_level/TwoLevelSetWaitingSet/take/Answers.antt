use Rattle.std.proofs.Common.{◌≡◌, ℕ, ◌<◌, not, ◌&&◌, eqb, List, length, get_or, set, refl, rules}
use Rattle.vectors.specs.Vectors.{on, without}
use Rattle.sets.specs.Rows.{row, place, in_rows}
use Rattle.sets.proofs.TwoLevels.{rows_changed}
use Rattle.sets.proofs.two_level.TwoLevelSetWaitingSet.take.Goals as goal

taken : (rs : List ℕ) (t i b x : ℕ) → length rs ≡ 8 → (t < 64) × (◌≡◌ {A = ℕ × ℕ} (i, b) (row t, place t)) → ((k : ℕ) → on x k ≡ (not (eqb k b) && on (get_or rs i 0) k)) → in_rows (set rs i x) ≡ without t (in_rows rs)
taken rs t i b x long p off = rows_changed (λ e o. not e && o) rs t i b x (λ o. refl) p.0 long p.1 off

pub returns-then-emptied-clause-after : goal.returns-then-emptied-clause-after
returns-then-emptied-clause-after c = taken c.args.self.now.rows c.args.t c.in-Some.row c.in-Some.bit c.switched_off-left.result (search rules) c.in-Some.ensures c.switched_off-left.ensures.bits

pub returns-else-emptied-clause-after : goal.returns-else-emptied-clause-after
returns-else-emptied-clause-after c = taken c.args.self.now.rows c.args.t c.in-Some.row c.in-Some.bit c.switched_off-left.result (search rules) c.in-Some.ensures c.switched_off-left.ensures.bits
