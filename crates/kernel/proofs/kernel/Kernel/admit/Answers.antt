use Rattle.std.proofs.Common.{◌≡◌, ℕ, ◌<◌, Bool, true, cond, ltb, Some, Option, sym, ap, ◌∙◌, ap₂}
use Rattle.vectors.specs.Vectors.{in_vector, with, highest}
use Rattle.machine.specs.Schedules.{among}
use Rattle.vectors.proofs.Vectors.{highest_tells, empty_vector}
use Rattle.kernel.specs.Meaning.{schedule_of}
use Rattle.kernel.proofs.Joining.{joined, passed, put_in, all_there}
use Rattle.kernel.proofs.kernel.Kernel.admit.Goals as goal

-- the task that is taken next is one of those that are left
taken : {o : Option ℕ} {t : ℕ} (rest : ℕ) → o ≡ highest 64 (in_vector rest) → o ≡ Some t → (t < 64) × (in_vector rest t ≡ true)
taken {t = t} rest e is = highest_tells 64 t (in_vector rest) (sym e ∙ is)

pub loop-t-smaller-then-not-has : goal.loop-t-smaller-then-not-has
loop-t-smaller-then-not-has g c = c.without-rest.ensures.less (taken c.loop-t.rest c.highest.ensures c.in-Some.is).1

pub loop-t-preserved-then-not-has : goal.loop-t-preserved-then-not-has
loop-t-preserved-then-not-has g c =
    let m = g.R.WaitingSet in
    let s = c.args.self.now in
    let n = m.room s.set in
    let inv = c.loop-t.invariant in
    let t = c.in-Some.t in
    let rest = c.loop-t.rest in
    let old = m.holds c.loop-t.self.set in
    let chained = among s.core.chain in
    let top = taken rest c.highest.ensures c.in-Some.is in (
      inv.0,
      c.put.ensures.kept ∙ inv.1,
      ap₂ (λ (f h : ℕ → Bool). joined n f h chained) c.without-rest.ensures.after (c.put.ensures.after ∙ ap (λ (j : ℕ). cond (ltb t j) (with t old) old) inv.1)
          ∙ put_in t n (in_vector rest) old chained top.1 (ap (λ k. among k.chain t) (sym inv.0) ∙ sym c.if-not-has.ensures)
          ∙ inv.2,
    )

pub loop-t-smaller : goal.loop-t-smaller
loop-t-smaller g c = c.without-rest.ensures.less (taken c.loop-t.rest c.highest.ensures c.in-Some.is).1

pub loop-t-preserved : goal.loop-t-preserved
loop-t-preserved g c =
    let m = g.R.WaitingSet in
    let s = c.args.self.now in
    let n = m.room s.set in
    let inv = c.loop-t.invariant in
    let t = c.in-Some.t in
    let rest = c.loop-t.rest in
    let old = m.holds c.loop-t.self.set in
    let chained = among s.core.chain in
    let top = taken rest c.highest.ensures c.in-Some.is in (
      inv.0,
      inv.1,
      ap (λ (f : ℕ → Bool). joined n f old chained) c.without-rest.ensures.after
          ∙ passed t n (in_vector rest) old chained (ap (λ k. among k.chain t) (sym inv.0) ∙ sym c.if-not-has.ensures)
          ∙ inv.2,
    )

pub returns-clause-after : goal.returns-clause-after
returns-clause-after g c =
    let m = g.R.WaitingSet in
    let s = c.args.self.now in
    let u = c.loop-t.self in
    let inv = c.loop-t.invariant in
    let rest = c.loop-t.rest in
    let done = all_there (m.room s.set) (in_vector rest) (m.holds u.set) (among s.core.chain) (empty_vector rest (sym c.highest.ensures ∙ c.in_default.is)) in
    ap (λ k. schedule_of k (m.room u.set) (m.holds u.set)) inv.0 ∙ ap₂ (λ (n : ℕ) (f : ℕ → Bool). schedule_of s.core n f) inv.1 (done ∙ inv.2)
