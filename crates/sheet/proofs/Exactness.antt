-- The list of entries is the blocking table.
use Rattle.std.proofs.Common.{◌≡◌, ℕ, ◌<◌, Bool, true, false, cond, ◌&&◌, ltb, [], ◌∷◌, refl, ap, subst, inl, inr, arith}
use Rattle.std.proofs.lemmas.Bool.{and_parts, ltb-true, leb-false, false≢true}
use Rattle.vectors.proofs.Vectors.{in_small}
use Rattle.plan.specs.declared.record.Plan.{Plan}
use Rattle.plan.specs.Plans.{declares, uses, ceiling, reaches, may_hold_up}
use Rattle.machine.specs.declared.Call.TheVariants.{Install}
use Rattle.machine.specs.Machine.{fresh, answered}
use Rattle.machine.specs.History.{accepted, HoldsUp}
use Rattle.machine.specs.Laws.{history, showing}
use Rattle.laws.proofs.Lists.{user_in_range}
use Rattle.laws.proofs.ExactTable.{shown, nobody_waits, takes}
use Rattle.plan.specs.declared.entry.Entry.{Entry}
use Rattle.sheet.specs.Entries.{entry_if, entries_between, entries_over, entries_of}
use Rattle.sheet.specs.Tables.{In, Before, Ordered, ListsTable}
use Rattle.sheet.proofs.Turns.{in_one, from_one, ordered_turn}

-- one entry

one_in : (b : Bool) (e : Entry) → b ≡ true → In (cond b (e ∷ []) []) e
one_in true e q = inl refl
one_in false e q = absurd (false≢true q)

in_one_only : (b : Bool) (e x : Entry) → In (cond b (e ∷ []) []) x → (b ≡ true) × (e ≡ x)
in_one_only true e x (inl q) = (refl, q)
in_one_only true e x (inr a) = absurd a
in_one_only false e x a = absurd a

one_ordered : (b : Bool) (e : Entry) → Ordered (cond b (e ∷ []) [])
one_ordered true e = ((λ y i. absurd i), tt)
one_ordered false e = tt

abbrev pub made_of : ℕ → ℕ → ℕ → Entry
made_of l t r = record { low = l; high = t; resource = r }

-- what stands in each part

between : (p : Plan) (r l : ℕ) (x : Entry) → In (entries_between p r l) x → (t : ℕ) × (may_hold_up p l t r ≡ true) × (made_of l t r ≡ x)
unfolding entries_between
between p r l x a =
    let y = from_one (entry_if p r l) 64 x a in
    let z = in_one_only (may_hold_up p l y.0 r) (made_of l y.0 r) x y.2 in
    (y.0, z.0, z.1)

over : (p : Plan) (r : ℕ) (x : Entry) → In (entries_over p r) x → (l : ℕ) × (t : ℕ) × (may_hold_up p l t r ≡ true) × (made_of l t r ≡ x)
unfolding entries_over
over p r x a =
    let y = from_one (entries_between p r) 64 x a in
    let z = between p r y.0 x y.2 in
    (y.0, z.0, z.1, z.2)

listed : (p : Plan) (x : Entry) → In (entries_of p) x → may_hold_up p x.low x.high x.resource ≡ true
unfolding entries_of
listed p x a =
    let y = from_one (entries_over p) p.resources x a in
    let z = over p y.0 x y.2 in
    subst (λ (e : Entry). may_hold_up p e.low e.high e.resource ≡ true) z.3 z.2

-- the bounds of an entry's numbers
pub record Bounds (p : Plan) (l t r : ℕ) : Type 0 where
  pub known : declares p t ≡ true
  pub below : l < t
  pub task : t < 64
  pub declared : r < p.resources

pub bounds : (p : Plan) (l t r : ℕ) → may_hold_up p l t r ≡ true → Bounds p l t r
bounds p l t r e =
    let a = and_parts (declares p t) (ltb l t && (uses p r l && reaches (ceiling p r) t)) e in
    let b = and_parts (ltb l t) (uses p r l && reaches (ceiling p r) t) a.1 in
    let c = and_parts (uses p r l) (reaches (ceiling p r) t) b.1 in
    record { known = a.0; below = ltb-true l t b.0; task = in_small p.declared t a.0; declared = leb-false p.resources r (user_in_range p r l c.0) }

lists : (p : Plan) (l t r : ℕ) → may_hold_up p l t r ≡ true → In (entries_of p) (made_of l t r)
unfolding entries_of entries_over entries_between
lists p l t r e =
    let b = bounds p l t r e in
    let low : l < 64 = omega (arith, b.below, b.task) in
    in_one (entries_over p) p.resources r (made_of l t r) b.declared
    (in_one (entries_between p r) 64 l (made_of l t r) low
    (in_one (entry_if p r l) 64 t (made_of l t r) b.task (one_in (may_hold_up p l t r) (made_of l t r) e)))

-- order

between_ordered : (p : Plan) (r l : ℕ) → Ordered (entries_between p r l)
unfolding entries_between
between_ordered p r l =
    ordered_turn (entry_if p r l) 64 (λ t. one_ordered (may_hold_up p l t r) (made_of l t r))
    (λ i j x y h a b.
    let q = (in_one_only (may_hold_up p l i r) (made_of l i r) x a).1 in
    let s = (in_one_only (may_hold_up p l j r) (made_of l j r) y b).1 in
    subst (λ (e : Entry). Before e y) q (subst (λ (e : Entry). Before (made_of l i r) e) s (inr (refl, inr (refl, h)))))

over_ordered : (p : Plan) (r : ℕ) → Ordered (entries_over p r)
unfolding entries_over
over_ordered p r =
    ordered_turn (entries_between p r) 64 (between_ordered p r)
    (λ i j x y h a b.
    let u = between p r i x a in
    let v = between p r j y b in
    subst (λ (e : Entry). Before e y) u.2 (subst (λ (e : Entry). Before (made_of i u.0 r) e) v.2 (inr (refl, inl h))))

all_ordered : (p : Plan) → Ordered (entries_of p)
unfolding entries_of
all_ordered p =
    ordered_turn (entries_over p) p.resources (over_ordered p)
    (λ i j x y h a b.
    let u = over p i x a in
    let v = over p j y b in
    subst (λ (e : Entry). Before e y) u.3 (subst (λ (e : Entry). Before (made_of u.0 u.1 i) e) v.3 (inl h)))

-- every entry is shown on a new kernel over an empty set of size 64, which takes every plan that declares a task
pub entry_shown : (p : Plan) (l t r : ℕ) → may_hold_up p l t r ≡ true → HoldsUp (history 64 (λ k. false) (Install p ∷ showing l t r)) l t r
entry_shown p l t r e = shown p l t r e 64 (λ k. false) nobody_waits (ap (λ o. accepted (answered o (Install p) (fresh 64 (λ k. false)))) (takes p t (bounds p l t r e).known))

pub lists_table : (p : Plan) → ListsTable p (entries_of p)
lists_table p = record {
  complete = lists p;
  sound = listed p;
  ordered = all_ordered p;
  shown = λ x i. entry_shown p x.low x.high x.resource (listed p x i);
}
