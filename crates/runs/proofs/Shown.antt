-- The run that shows an entry of the table.
use Rattle.std.proofs.Common.{◌≡◌, ℕ, ◌<◌, Bool, true, false, ◌&&◌, ltb, Ok, Err, sym, refl, ◌∙◌, ap₂, arith}
use Rattle.std.specs.Result.{is_err}
use Rattle.std.proofs.lemmas.Bool.{and_parts, ltb-true}
use Rattle.plan.specs.declared.record.Plan.{Plan}
use Rattle.machine.specs.declared.Call.TheVariants.{Install, Release, Lock}
use Rattle.plan.specs.Plans.{declares, uses, ceiling, reaches, may_hold_up}
use Rattle.machine.specs.Machine.{Machine, Answer, fresh, step, answer}
use Rattle.machine.specs.History.{accepted}
use Rattle.machine.specs.Laws.{Set}
use Rattle.vectors.proofs.Bits.{shifted, shifted_is}
use Rattle.vectors.proofs.Vectors.{in_small}
use Rattle.laws.proofs.ExactTable.{shown}
use Rattle.runs.specs.Entries.{Shows}

-- an answer that is no error
pub accepted_if : (a : Answer) → is_err a ≡ false → accepted a ≡ true
accepted_if (Ok x) e = refl
accepted_if (Err x) e = sym e

-- with the vectors as code writes them
pub shows : (p : Plan) (l t r c : ℕ) (w : ℕ → Bool) → Set c w → may_hold_up p l t r ≡ true → accepted (answer (Install p) (fresh c w)) ≡ true
    → (m : Machine) → m ≡ step (Release (shifted 64 t)) (step (Lock r) (step (Release (shifted 64 l)) (step (Install p) (fresh c w)))) → Shows p l t r c w m
shows p l t r c w s e a m q =
    let x = and_parts (declares p t) (ltb l t && (uses p r l && reaches (ceiling p r) t)) e in
    let low : l < t = ltb-true l t (and_parts (ltb l t) (uses p r l && reaches (ceiling p r) t) x.1).0 in
    let top : t < 64 = in_small p.declared t x.0 in
    let small : l < 64 = omega arith in
    record {
      entry = e;
      after = q ∙ ap₂ (λ (i j : ℕ). step (Release i) (step (Lock r) (step (Release j) (step (Install p) (fresh c w))))) (shifted_is 64 t top) (shifted_is 64 l small);
      holds_up = shown p l t r e c w s a;
    }
