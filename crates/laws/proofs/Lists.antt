-- Chains, held lists and ceilings, by themselves.
use Rattle.std.proofs.Common.{◌≡◌, ℕ, ◌<◌, ◌≤◌, Bool, true, false, cond, ◌||◌, eqb, leb, ◌⊎◌, List, [], ◌∷◌, Some, None, Option, sym, refl, ap, ◌∙◌, subst, inl, inr, ⊎_elim, arith}
use Rattle.std.proofs.lemmas.Option.{same_Some}
use Rattle.std.proofs.lemmas.Bool.{both_ways, eqb-true, eqb-false, leb-true, leb-false, le-leb, eq-eqb, ne_eqb, or_parts, or_cases, or_left, or_right, cases_Bool, cases_lt, lt-leb, lt-ltb, le-ltb, or_from}
use Rattle.plan.specs.declared.record.Plan.{Plan}
use Rattle.vectors.specs.Vectors.{in_vector}
use Rattle.plan.specs.Plans.{declares, uses, ceiling, reaches}
use Rattle.machine.specs.Schedules.{head, tail, among, holder, holds_any, newest, higher, system_ceiling}
use Rattle.machine.specs.Shapes.{Falling, Single, Nested}
use Rattle.vectors.proofs.Bits.{or_false}
use Rattle.vectors.proofs.Vectors.{highest_empties, in_small, in_none}
use Rattle.vectors.proofs.Vectors.{highest_some}
use Rattle.std.proofs.lemmas.Option.{none-some}

-- chains

pub among_cases : (x : ℕ) (xs : List ℕ) (t : ℕ) → among (x ∷ xs) t ≡ true → (t ≡ x) ⊎ (among xs t ≡ true)
among_cases x xs t e = ⊎_elim (λ (z : eqb t x ≡ true). inl (eqb-true t x z)) (λ (z : among xs t ≡ true). inr z) (or_cases (eqb t x) (among xs t) e)

pub among_here : (x : ℕ) (xs : List ℕ) → among (x ∷ xs) x ≡ true
among_here x xs = or_left (eqb x x) (among xs x) (eq-eqb x x refl)

pub among_there : (x : ℕ) (xs : List ℕ) (t : ℕ) → among xs t ≡ true → among (x ∷ xs) t ≡ true
among_there x xs t e = or_right (eqb t x) (among xs t) e

pub falling_tail : (xs : List ℕ) → Falling xs → Falling (tail xs)
falling_tail [] f = tt
falling_tail (x ∷ xs) f = f.1

-- the running task is the greatest that has started
pub top : (xs : List ℕ) → Falling xs → (k t : ℕ) → head xs ≡ Some k → among xs t ≡ true → t ≤ k
top [] f k t e h = absurd (none-some k e)
top (x ∷ xs) f k t e h =
    let z : x ≡ k = same_Some x k e in
    ⊎_elim (λ (y : t ≡ x). omega arith) (λ (y : among xs t ≡ true). let w : t < x = f.0 t y in omega arith) (among_cases x xs t h)

-- what is above the running task is above all that have started
pub over_chain : (xs : List ℕ) → Falling xs → (w : ℕ) → reaches (head xs) w ≡ false → (t : ℕ) → among xs t ≡ true → t < w
over_chain [] f w e t h = absurd (both_ways false refl h)
over_chain (x ∷ xs) f w e t h =
    let a : x < w = leb-false w x e in
    let b : t ≤ x = top (x ∷ xs) f x t refl h in
    omega arith

pub head_among : (xs : List ℕ) (k : ℕ) → head xs ≡ Some k → among xs k ≡ true
head_among [] k e = absurd (none-some k e)
head_among (x ∷ xs) k e = subst (λ (i : ℕ). among (x ∷ xs) i ≡ true) (same_Some x k e) (among_here x xs)

pub tail_among : (xs : List ℕ) (t : ℕ) → among (tail xs) t ≡ true → among xs t ≡ true
tail_among [] t e = e
tail_among (x ∷ xs) t e = among_there x xs t e

pub among_tail : (xs : List ℕ) (k t : ℕ) → head xs ≡ Some k → (t ≡ k → ⊥) → among xs t ≡ true → among (tail xs) t ≡ true
among_tail [] k t e n h = h
among_tail (x ∷ xs) k t e n h =
    ⊎_elim (λ (y : t ≡ x). absurd (n (y ∙ same_Some x k e))) (λ (y : among xs t ≡ true). y) (among_cases x xs t h)

pub nobody_heads : (xs : List ℕ) → head xs ≡ None → (t : ℕ) → among xs t ≡ false
nobody_heads [] e t = refl
nobody_heads (x ∷ xs) e t = absurd (none-some x (sym e))

-- held lists

pub holder_here : (r t : ℕ) (xs : List (ℕ × ℕ)) (s : ℕ) → s ≡ r → holder ((r, t) ∷ xs) s ≡ Some t
holder_here r t xs s e = ap (λ b. cond b (Some t) (holder xs s)) (eq-eqb s r e)

pub holder_there : (r t : ℕ) (xs : List (ℕ × ℕ)) (s : ℕ) → (s ≡ r → ⊥) → holder ((r, t) ∷ xs) s ≡ holder xs s
holder_there r t xs s e = ap (λ b. cond b (Some t) (holder xs s)) (ne_eqb s r e)

pub holder_cases : (x : ℕ × ℕ) (xs : List (ℕ × ℕ)) (s k : ℕ) → holder (x ∷ xs) s ≡ Some k
    → ((s ≡ x.0) × (x.1 ≡ k)) ⊎ ((s ≡ x.0 → ⊥) × (holder xs s ≡ Some k))
holder_cases x xs s k e = go (eqb s x.0) refl e
  where
    go : (b : Bool) → eqb s x.0 ≡ b → cond b (Some x.1) (holder xs s) ≡ Some k → ((s ≡ x.0) × (x.1 ≡ k)) ⊎ ((s ≡ x.0 → ⊥) × (holder xs s ≡ Some k))
    go true q f = inl (eqb-true s x.0 q, same_Some x.1 k f)
    go false q f = inr (eqb-false s x.0 q, f)

pub single_tail : (xs : List (ℕ × ℕ)) → Single xs → Single (tail xs)
single_tail [] f = tt
single_tail (x ∷ xs) f = f.1

pub holder_older : (x : ℕ × ℕ) (xs : List (ℕ × ℕ)) → Single (x ∷ xs) → (s k : ℕ) → holder xs s ≡ Some k → holder (x ∷ xs) s ≡ Some k
holder_older x xs f s k e =
    holder_there x.0 x.1 xs s (λ z. none-some k (sym (subst (λ (i : ℕ). holder xs i ≡ None) (sym z) f.0) ∙ e)) ∙ e

pub holder_tail : (xs : List (ℕ × ℕ)) → Single xs → (s k : ℕ) → holder (tail xs) s ≡ Some k → holder xs s ≡ Some k
holder_tail [] f s k e = e
holder_tail (x ∷ xs) f s k e = holder_older x xs f s k e

pub nested_tail : (xs : List (ℕ × ℕ)) → Nested xs → Nested (tail xs)
nested_tail [] f = tt
nested_tail (x ∷ xs) f = f.1

-- who holds nothing is no holder
pub holds_none : (xs : List (ℕ × ℕ)) (t : ℕ) → holds_any xs t ≡ false → (s k : ℕ) → holder xs s ≡ Some k → k ≡ t → ⊥
holds_none [] t e s k h z = none-some k h
holds_none (x ∷ xs) t e s k h z =
    let q = or_parts (eqb t x.1) (holds_any xs t) e in
    ⊎_elim (λ (y : (s ≡ x.0) × (x.1 ≡ k)). eqb-false t x.1 q.0 (sym (y.1 ∙ z)))
    (λ (y : (s ≡ x.0 → ⊥) × (holder xs s ≡ Some k)). holds_none xs t q.1 s k y.1 z) (holder_cases x xs s k h)

-- after the newest lock is undone
pub unlocked : (xs : List (ℕ × ℕ)) (r : ℕ) → Single xs → newest xs ≡ Some r → (s : ℕ) → cond (eqb s r) None (holder xs s) ≡ holder (tail xs) s
unlocked [] r f e s = absurd (none-some r e)
unlocked (x ∷ xs) r f e s = go (eqb s r) refl
  where
    z : x.0 ≡ r
    z = same_Some x.0 r e

    go : (b : Bool) → eqb s r ≡ b → cond b None (holder (x ∷ xs) s) ≡ holder xs s
    go true q = sym (subst (λ (i : ℕ). holder xs i ≡ None) (z ∙ sym (eqb-true s r q)) f.0)
    go false q = holder_there x.0 x.1 xs s (λ y. eqb-false s r q (y ∙ z))

-- ceilings

pub reaches_down : (o : Option ℕ) (s t : ℕ) → s ≤ t → reaches o t ≡ true → reaches o s ≡ true
reaches_down None s t h e = e
reaches_down (Some c) s t h e = let q = leb-true t c e in le-leb s c (omega arith)

-- a level that is the higher of two reaches what either reaches
pub reaches_higher : (a b : Option ℕ) (t : ℕ) → reaches (higher a b) t ≡ (reaches a t || reaches b t)
reaches_higher None b t = refl
reaches_higher (Some x) None t = sym (or_false (leb t x))
reaches_higher (Some x) (Some y) t =
    ⊎_elim
    (λ (l : x < y).
    ap (λ b. reaches (cond b (Some y) (Some x)) t) (lt-ltb x y l)
    ∙ ⊎_elim (λ (z : t ≤ x). le-leb t y (omega arith) ∙ sym (or_left (leb t x) (leb t y) (le-leb t x z))) (λ (z : x < t). sym (ap (λ b. b || leb t y) (lt-leb t x z))) (cases_le t x))
    (λ (l : y ≤ x).
    ap (λ b. reaches (cond b (Some y) (Some x)) t) (le-ltb x y l)
    ∙ ⊎_elim (λ (z : t ≤ x). le-leb t x z ∙ sym (or_left (leb t x) (leb t y) (le-leb t x z))) (λ (z : x < t). lt-leb t x z ∙ sym (or_from (leb t x) (leb t y) (lt-leb t x z) (lt-leb t y (omega arith)))) (cases_le t x))
    (cases_lt x y)
  where
    cases_le : (a b : ℕ) → (a ≤ b) ⊎ (b < a)
    cases_le a b = ⊎_elim (λ (z : b < a). inr z) (λ (z : a ≤ b). inl z) (cases_lt b a)

-- t does not exceed the system ceiling
abbrev pub under_ceiling : Plan → List (ℕ × ℕ) → ℕ → Bool
under_ceiling p xs t = reaches (system_ceiling p xs) t

under_newest : (p : Plan) (x : ℕ × ℕ) (xs : List (ℕ × ℕ)) (t : ℕ) → under_ceiling p (x ∷ xs) t ≡ (reaches (ceiling p x.0) t || under_ceiling p xs t)
under_newest p x xs t = reaches_higher (ceiling p x.0) (system_ceiling p xs) t

pub under_here : (p : Plan) (x : ℕ × ℕ) (xs : List (ℕ × ℕ)) (t : ℕ) → reaches (ceiling p x.0) t ≡ true → under_ceiling p (x ∷ xs) t ≡ true
under_here p x xs t e = under_newest p x xs t ∙ or_left (reaches (ceiling p x.0) t) (under_ceiling p xs t) e

pub under_there : (p : Plan) (x : ℕ × ℕ) (xs : List (ℕ × ℕ)) (t : ℕ) → under_ceiling p xs t ≡ true → under_ceiling p (x ∷ xs) t ≡ true
under_there p x xs t e = under_newest p x xs t ∙ or_right (reaches (ceiling p x.0) t) (under_ceiling p xs t) e

under_either : (p : Plan) (x : ℕ × ℕ) (xs : List (ℕ × ℕ)) (t : ℕ) → under_ceiling p (x ∷ xs) t ≡ true → (reaches (ceiling p x.0) t ≡ true) ⊎ (under_ceiling p xs t ≡ true)
under_either p x xs t e = or_cases (reaches (ceiling p x.0) t) (under_ceiling p xs t) (sym (under_newest p x xs t) ∙ e)

pub under_cases : (p : Plan) (xs : List (ℕ × ℕ)) (t : ℕ) → under_ceiling p xs t ≡ true
    → (r : ℕ) × (k : ℕ) × (holder xs r ≡ Some k) × (reaches (ceiling p r) t ≡ true)
under_cases p [] t e = absurd (both_ways false refl e)
under_cases p (x ∷ xs) t e =
    ⊎_elim (λ (z : reaches (ceiling p x.0) t ≡ true). (x.0, x.1, holder_here x.0 x.1 xs x.0 refl, z))
    (λ (z : under_ceiling p xs t ≡ true). go (under_cases p xs t z)) (under_either p x xs t e)
  where
    go : (r : ℕ) × (k : ℕ) × (holder xs r ≡ Some k) × (reaches (ceiling p r) t ≡ true)
        → (r : ℕ) × (k : ℕ) × (holder (x ∷ xs) r ≡ Some k) × (reaches (ceiling p r) t ≡ true)
    go h =
        ⊎_elim (λ (z : eqb h.0 x.0 ≡ true). (h.0, x.1, holder_here x.0 x.1 xs h.0 (eqb-true h.0 x.0 z), h.3))
        (λ (z : eqb h.0 x.0 ≡ false). (h.0, h.1, holder_there x.0 x.1 xs h.0 (eqb-false h.0 x.0 z) ∙ h.2, h.3))
        (cases_Bool (eqb h.0 x.0))

pub not_under : (p : Plan) (xs : List (ℕ × ℕ)) (t : ℕ) → under_ceiling p xs t ≡ false → (r k : ℕ) → holder xs r ≡ Some k → reaches (ceiling p r) t ≡ false
not_under p [] t e r k h = absurd (none-some k h)
not_under p (x ∷ xs) t e r k h =
    let q = or_parts (reaches (ceiling p x.0) t) (under_ceiling p xs t) (sym (under_newest p x xs t) ∙ e) in
    ⊎_elim (λ (y : (r ≡ x.0) × (x.1 ≡ k)). subst (λ (i : ℕ). reaches (ceiling p i) t ≡ false) (sym y.0) q.0)
    (λ (y : (r ≡ x.0 → ⊥) × (holder xs r ≡ Some k)). not_under p xs t q.1 r k y.1) (holder_cases x xs r k h)

pub under_down : (p : Plan) (xs : List (ℕ × ℕ)) (s t : ℕ) → s ≤ t → under_ceiling p xs t ≡ true → under_ceiling p xs s ≡ true
under_down p xs s t h e = reaches_down (system_ceiling p xs) s t h e

-- a resource's ceiling reaches its users
pub user_below : (p : Plan) (r t : ℕ) → uses p r t ≡ true → reaches (ceiling p r) t ≡ true
user_below p r t e = go (ceiling p r) refl
  where
    go : (o : Option ℕ) → ceiling p r ≡ o → reaches o t ≡ true
    go None q = absurd (both_ways (uses p r t) (highest_empties 64 (uses p r) q t (in_small _ t e)) e)
    go (Some c) q = le-leb t c ((highest_some 64 (uses p r) c q).top t (in_small _ t e) e)

-- what has a user is declared
pub user_in_range : (p : Plan) (r t : ℕ) → uses p r t ≡ true → leb p.resources r ≡ false
user_in_range p r t e =
    ⊎_elim (λ (z : r < p.resources). lt-leb p.resources r z)
    (λ (z : p.resources ≤ r). absurd (both_ways (in_vector 0 t) (in_none t) (subst (λ (i : ℕ). in_vector i t ≡ true) (p.users_end r z) e))) (cases_lt r p.resources)

-- users are declared
pub user_declared : (p : Plan) (r t : ℕ) → uses p r t ≡ true → declares p t ≡ true
user_declared p r t e = p.users_inside r t e
