-- One entry more and one less in the chain and in the held list.
use mathlib.Core.Path.{fun_ext}
use Rattle.std.proofs.lemmas.List.{reverse-append, length-map}
use Rattle.std.proofs.lemmas.Map.Keys.{IsDistinct-cons}
use Rattle.std.proofs.lemmas.Map.Steps.{length-le_from_distinct_below}
use Rattle.std.specs.Option.{option_to_list}
use Rattle.std.specs.List.{AllByRecursion, IsDistinct, list_any}
use Rattle.std.proofs.Common.{◌≡◌, ℕ, ◌<◌, ◌≤◌, Bool, true, false, cond, not, ◌&&◌, ◌||◌, eqb, ltb, List, [], ◌∷◌, ◌++◌, length, map, reverse, Some, None, Option, sym, refl, ap, ◌∙◌, subst, ⊎_elim, arith}
use Rattle.std.proofs.lemmas.Bool.{both_ways, false_from_ne_true, cases_eq, eq-eqb, ne_eqb, cases_Bool, lt-ltb, cond-true, or_left, or_from, or_cases, and_parts, eqb-true}
use Rattle.vectors.specs.Vectors.{in_vector, with, without}
use Rattle.vectors.proofs.Vectors.{without_none}
use Rattle.plan.specs.Plans.{reaches}
use Rattle.plan.specs.declared.record.Plan.{Plan}
use Rattle.machine.specs.Schedules.{head, tail, among, holder, holds_any, system_ceiling_under}
use Rattle.machine.specs.Refusals.{present, same, holds_some}
use Rattle.machine.specs.Shapes.{Falling, Single, Nested}
use Rattle.std.proofs.lemmas.Option.{none-some}
use Rattle.laws.proofs.Lists.{among_cases, among_here, among_there, over_chain, holder_here, holder_cases, holder_older, holds_none}
use Rattle.kernel.specs.declared.held_lock.HeldLock.{HeldLock}
use Rattle.kernel.specs.Lists.{IsChain, entries, is_held, IsHeldList, Placed, keeps_levels}

-- the last of a vector is the newest of the list that contracts see
pub newest_of : {A : Type 0} (xs ys : List A) (x : A) → xs ≡ ys ++ x ∷ [] → reverse xs ≡ x ∷ reverse ys
newest_of xs ys x e = ap reverse e ∙ reverse-append ys (x ∷ [])

-- what a list keeps, told with its newest apart, when the vector gives up its last
pub given_up : {A : Type 0} (P : List A → Type 0) (xs ys : List A) (o : Option A) (x : A) → xs ≡ ys ++ option_to_list o → o ≡ Some x → P (reverse xs) → P (x ∷ reverse ys)
given_up P xs ys o x e is = subst P (newest_of xs ys x (e ∙ ap (λ z. ys ++ option_to_list z) is))

-- a number that is new to a set, put in and taken out again
put_and_taken : (x : ℕ) (m : ℕ → Bool) → m x ≡ false → without x (with x m) ≡ m
put_and_taken x m e = fun_ext (λ k. go (eqb k x) (m k)) ∙ sym (without_none x m e)
  where
    go : (a b : Bool) → (not a && (a || b)) ≡ (not a && b)
    go true b = refl
    go false b = refl

-- chains

-- a falling list is no longer than what is above its newest
pub chain_room : (xs : List ℕ) (w : ℕ) → Falling xs → ((t : ℕ) → among xs t ≡ true → t < w) → length xs ≤ w
chain_room [] w f h = omega arith
chain_room (x ∷ xs) w f h =
    let a : x < w = h x (among_here x xs) in
    let b : length xs ≤ x = chain_room xs x f.1 f.0 in
    omega arith

pub chain_push : (v u w : ℕ) (xs : List ℕ) → w < 64 → reaches (head xs) w ≡ false → in_vector u ≡ cond (ltb w 64) (with w (in_vector v)) (in_vector v) → IsChain v xs → IsChain u (w ∷ xs)
chain_push v u w xs l above e c = record {
  falling = (over_chain xs c.falling w above, c.falling);
  small = λ t a. ⊎_elim (λ (q : t ≡ w). omega arith) (λ (q : among xs t ≡ true). c.small t q) (among_cases w xs t a);
  noted = λ t. ap (λ (f : ℕ → Bool). f t) (e ∙ cond-true (ltb w 64) (with w (in_vector v)) (in_vector v) (lt-ltb w 64 l)) ∙ ap (λ b. eqb t w || b) (c.noted t);
}

pub chain_pop : (v u x : ℕ) (xs : List ℕ) → in_vector u ≡ without x (in_vector v) → IsChain v (x ∷ xs) → IsChain u xs
chain_pop v u x xs e c =
    let gone : among xs x ≡ false = false_from_ne_true (among xs x) (λ z. let l : x < x = c.falling.0 x z in omega arith) in
    record {
      falling = c.falling.1;
      small = λ t a. c.small t (among_there x xs t a);
      noted = λ t. ap (λ (f : ℕ → Bool). f t) e ∙ ap (λ b. not (eqb t x) && b) (c.noted t) ∙ ap (λ (f : ℕ → Bool). f t) (put_and_taken x (among xs) gone);
    }

-- held lists

one_held : (l : HeldLock) (ls : List HeldLock) (r : ℕ) → is_held (l ∷ ls) r ≡ with l.resource (is_held ls) r
one_held l ls r = go (eqb r l.resource) (holder (entries ls) r)
  where
    go : (b : Bool) (o : Option ℕ) → present (cond b (Some l.holder) o) ≡ (b || present o)
    go true o = refl
    go false o = refl

pub newest_small : (v : ℕ) (l : HeldLock) (ls : List HeldLock) → IsHeldList v (l ∷ ls) → l.resource < 32
newest_small v l ls h = h.small l.resource l.holder (holder_here l.resource l.holder (entries ls) l.resource refl)

pub locked_more : (v u : ℕ) (l : HeldLock) (ls : List HeldLock) → l.resource < 32 → holder (entries ls) l.resource ≡ None → ((r k : ℕ) → holder (entries ls) r ≡ Some k → k ≤ l.holder)
    → in_vector u ≡ cond (ltb l.resource 64) (with l.resource (in_vector v)) (in_vector v) → IsHeldList v ls → IsHeldList u (l ∷ ls)
locked_more v u l ls low free above e h = record {
  single = (free, h.single);
  nested = (above, h.nested);
  small = λ r k i. ⊎_elim (λ (q : (r ≡ l.resource) × (l.holder ≡ k)). omega (arith, q.0)) (λ (q : (r ≡ l.resource → ⊥) × (holder (entries ls) r ≡ Some k)). h.small r k q.1) (holder_cases (l.resource, l.holder) (entries ls) r k i);
  noted = λ r. ap (λ (f : ℕ → Bool). f r) (e ∙ cond-true (ltb l.resource 64) (with l.resource (in_vector v)) (in_vector v) (lt-ltb l.resource 64 (omega arith))) ∙ ap (λ b. eqb r l.resource || b) (h.noted r) ∙ sym (one_held l ls r);
}

pub locked_less : (v u : ℕ) (l : HeldLock) (ls : List HeldLock) → in_vector u ≡ without l.resource (in_vector v) → IsHeldList v (l ∷ ls) → IsHeldList u ls
locked_less v u l ls e h = record {
  single = h.single.1;
  nested = h.nested.1;
  small = λ r k i. h.small r k (holder_older (l.resource, l.holder) (entries ls) h.single r k i);
  noted = λ r. ap (λ (f : ℕ → Bool). f r) e ∙ ap (λ b. not (eqb r l.resource) && b) (h.noted r ∙ one_held l ls r) ∙ ap (λ (f : ℕ → Bool). f r) (put_and_taken l.resource (is_held ls) (ap present h.single.0));
}

-- the locks are as many as their resources, which are apart and below 32
abbrev locked : List HeldLock → List ℕ
locked ls = map (λ l. l.resource) ls

locked_any : (ls : List HeldLock) (q : ℕ) → list_any (eqb q) (locked ls) ≡ present (holder (entries ls) q)
locked_any [] q = refl
locked_any (l ∷ ls) q = go (eqb q l.resource) (locked_any ls q)
  where
    go : (b : Bool) → list_any (eqb q) (locked ls) ≡ present (holder (entries ls) q) → (b || list_any (eqb q) (locked ls)) ≡ present (cond b (Some l.holder) (holder (entries ls) q))
    go true e = refl
    go false e = e

lacks : (ls : List HeldLock) (r : ℕ) → holder (entries ls) r ≡ None → AllByRecursion (λ y. eqb r y ≡ false) (locked ls)
lacks [] r e = tt
lacks (l ∷ ls) r e = ⊎_elim
    (λ (z : eqb r l.resource ≡ true). absurd (none-some l.holder (sym e ∙ ap (λ b. cond b (Some l.holder) (holder (entries ls) r)) z)))
    (λ (z : eqb r l.resource ≡ false). (z, lacks ls r (sym (ap (λ b. cond b (Some l.holder) (holder (entries ls) r)) z) ∙ e)))
    (cases_Bool (eqb r l.resource))

distinct : (ls : List HeldLock) → Single (entries ls) → IsDistinct eqb (locked ls)
unfolding IsDistinct
distinct [] h = tt
distinct (l ∷ ls) h = (lacks ls l.resource h.0, distinct ls h.1)

pub held_room : (v : ℕ) (ls : List HeldLock) (r : ℕ) → IsHeldList v ls → r < 32 → holder (entries ls) r ≡ None → length ls < 32
held_room v ls r h small free =
    let n = length-le_from_distinct_below (r ∷ locked ls) 32 (IsDistinct-cons eqb r (locked ls) (lacks ls r free) (distinct ls h.single)) (λ q e. ⊎_elim (λ (z : q ≡ r). omega arith)
    (λ (z : q ≡ r → ⊥). below q (sym (locked_any ls q) ∙ ap (λ b. b || list_any (eqb q) (locked ls)) (sym (ne_eqb q r z)) ∙ e)) (cases_eq q r)) in
    omega (arith, n, length-map ls (λ l. l.resource))
  where
    here : (q : ℕ) (o : Option ℕ) → holder (entries ls) q ≡ o → present o ≡ true → q < 32
    here q None a b = absurd (both_ways false refl b)
    here q (Some k) a b = h.small q k a

    below : (q : ℕ) → present (holder (entries ls) q) ≡ true → q < 32
    below q e = here q (holder (entries ls) q) refl e

-- an option is the same as itself
pub same_self : (o : Option ℕ) → same o o ≡ true
same_self None = refl
same_self (Some x) = eq-eqb x x refl

-- holders and the chain

-- who holds anything holds some resource
holds_what : (xs : List (ℕ × ℕ)) (t : ℕ) → Single xs → holds_any xs t ≡ true → (r : ℕ) × (holder xs r ≡ Some t)
holds_what [] t s e = absurd (both_ways false refl e)
holds_what (x ∷ xs) t s e = ⊎_elim
    (λ (z : eqb t x.1 ≡ true). (x.0, subst (λ (k : ℕ). holder (x ∷ xs) x.0 ≡ Some k) (sym (eqb-true t x.1 z)) (holder_here x.0 x.1 xs x.0 refl)))
    (λ (z : holds_any xs t ≡ true). let y = holds_what xs t s.1 z in (y.0, holder_older x xs s y.0 t y.1))
    (or_cases (eqb t x.1) (holds_any xs t) e)

holder_of : Option HeldLock → ℕ
holder_of None = 0
holder_of (Some l) = l.holder

-- holders do not fall and none is above t, so t holds something exactly where it is the newest holder
pub newest_tells : (ls : List HeldLock) (l : HeldLock) (t : ℕ) → head ls ≡ Some l → Single (entries ls) → Nested (entries ls)
    → ((r k : ℕ) → holder (entries ls) r ≡ Some k → k ≤ t) → eqb l.holder t ≡ holds_some (entries ls) (Some t)
unfolding holder_of
newest_tells [] l t e s n low = absurd (none-some l e)
newest_tells (x ∷ xs) l t e s n low =
    let q : x.holder ≡ l.holder = ap holder_of e in
    let under : x.holder ≤ t = low x.resource x.holder (holder_here x.resource x.holder (entries xs) x.resource refl) in
    ⊎_elim
    (λ (z : t ≡ x.holder). eq-eqb l.holder t (sym q ∙ sym z) ∙ sym (or_left (eqb t x.holder) (holds_any (entries xs) t) (eq-eqb t x.holder z)))
    (λ (ne : t ≡ x.holder → ⊥).
    let none : holds_any (entries xs) t ≡ false = ⊎_elim
    (λ (h : holds_any (entries xs) t ≡ true). let y = holds_what (entries xs) t s.1 h in let z : t ≤ x.holder = n.0 y.0 t y.1 in absurd (ne (omega arith)))
    (λ h. h) (cases_Bool (holds_any (entries xs) t)) in
    ne_eqb l.holder t (λ y. ne (sym y ∙ sym q)) ∙ sym (or_from (eqb t x.holder) (holds_any (entries xs) t) (ne_eqb t x.holder ne) none))
    (cases_eq t x.holder)

-- one lock less
pub placed_less : (chain : List ℕ) (ls : List HeldLock) → Single (entries ls) → Placed chain ls → Placed chain (tail ls)
placed_less chain [] s h r k e = h r k e
placed_less chain (l ∷ ls) s h r k e = h r k (holder_older (l.resource, l.holder) (entries ls) s r k e)

pub levels_less : (p : Option Plan) (ls : List HeldLock) → keeps_levels p ls ≡ true → keeps_levels p (tail ls) ≡ true
levels_less p [] k = k
levels_less p (l ∷ ls) k = (and_parts (same l.level (system_ceiling_under p (entries (l ∷ ls)))) (keeps_levels p ls) k).1

pub placed_tail : (chain : List ℕ) (ls : List HeldLock) → holds_some (entries ls) (head chain) ≡ false → Placed chain ls → Placed (tail chain) ls
placed_tail [] ls e h r k i = h r k i
placed_tail (x ∷ xs) ls e h r k i =
    ⊎_elim (λ (q : k ≡ x). absurd (holds_none (entries ls) x e r k i q)) (λ (q : among xs k ≡ true). q) (among_cases x xs k (h r k i))
