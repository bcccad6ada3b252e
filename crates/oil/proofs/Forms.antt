-- A tree is well formed exactly if each of its objects is allowed after those before it.
use Rattle.std.proofs.Common.{◌≡◌, ℕ, zero, suc, ◌<◌, ◌≤◌, List, [], ◌∷◌, ◌++◌, length, sym, refl, ap, ◌∙◌, subst, ⊎_elim, append_assoc, append-nil, arith, length-append}
use Rattle.grammar.specs.Language.{Reference, Object, resource, event, task}
use Rattle.oil.specs.Meaning.{At, In, Distinct, name_of, names_of, resources_of, events_of, priorities_of, activations_of, Grounded, WellFormed}
use Rattle.oil.proofs.Vectors.{at_split, at_low, in_split}
use Rattle.oil.proofs.Judged.{names_app, resources_app, events_app, priorities_app, activations_app, Allowed, AllowedFrom, joined}

pub joined_app : (os before : List Object) → joined before os ≡ before ++ os
joined_app [] before = sym (append-nil before)
joined_app (o ∷ os) before = joined_app os (before ++ (o ∷ [])) ∙ append_assoc before (o ∷ []) os

module _ {X : Type 0} where
  at_left : (xs ys : List X) (i : ℕ) (x : X) → At xs i x → At (xs ++ ys) i x
  at_left [] ys i x h = absurd h
  at_left (z ∷ zs) ys zero x h = h
  at_left (z ∷ zs) ys (suc i) x h = at_left zs ys i x h

  at_mid : (xs : List X) (y : X) (ys : List X) → At (xs ++ (y ∷ ys)) (length xs) y
  at_mid [] y ys = refl
  at_mid (z ∷ zs) y ys = at_mid zs y ys

  distinct_more : (xs : List X) (y : X) → Distinct xs → (In xs y → ⊥) → Distinct (xs ++ (y ∷ []))
  distinct_more xs y d new x i j h g =
      ⊎_elim
      (λ a. ⊎_elim (λ b. d x i j a b) (λ b. absurd (new (i, subst (λ k. At xs i k) (sym b.1) a))) (at_split xs y j x g))
      (λ a. ⊎_elim (λ b. absurd (new (j, subst (λ k. At xs j k) (sym a.1) b))) (λ b. a.0 ∙ sym b.0) (at_split xs y j x g))
      (at_split xs y i x h)

  -- in a list with no two the same, what stands behind some stands not among them
  distinct_mid : (all xs : List X) (y : X) (ys : List X) → all ≡ xs ++ (y ∷ ys) → Distinct all → In xs y → ⊥
  distinct_mid all xs y ys e d h =
      let same = d y h.0 (length xs) (subst (λ l. At l h.0 y) (sym e) (at_left xs (y ∷ ys) h.0 y h.1)) (subst (λ l. At l (length xs) y) (sym e) (at_mid xs y ys)) in
      let low = at_low xs h.0 y h.1 in
      omega arith

  in_mid : (all xs : List X) (y : X) (ys : List X) → all ≡ xs ++ (y ∷ ys) → In all y
  in_mid all xs y ys e = (length xs, subst (λ l. At l (length xs) y) (sym e) (at_mid xs y ys))

-- what a well-formed tree needs besides its references and a task
record Formed (os : List Object) : Type 0 where
  names_differ : Distinct (names_of os)
  priorities_differ : Distinct (priorities_of os)
  priorities_low : (p : ℕ) → In (priorities_of os) p → p < 64
  activated_once : (a : ℕ) → In (activations_of os) a → a ≡ 1
  few_resources : length (resources_of os) ≤ 32
  few_events : length (events_of os) ≤ 32
  few_tasks : length (priorities_of os) ≤ 64

-- a tree with a resource or an event more, which has a name, and no priority
formed_named : (os : List Object) (o : Object) → priorities_of (o ∷ []) ≡ [] → activations_of (o ∷ []) ≡ [] → (In (names_of os) (name_of o) → ⊥) → length (resources_of (os ++ (o ∷ []))) ≤ 32 → length (events_of (os ++ (o ∷ []))) ≤ 32 → Formed os → Formed (os ++ (o ∷ []))
formed_named os o no_priority no_activation new rs es f =
    let ep = priorities_app os (o ∷ []) ∙ ap (λ l. priorities_of os ++ l) no_priority ∙ append-nil (priorities_of os) in
    let ea = activations_app os (o ∷ []) ∙ ap (λ l. activations_of os ++ l) no_activation ∙ append-nil (activations_of os) in
    record {
      names_differ = subst (λ l. Distinct l) (sym (names_app os (o ∷ []))) (distinct_more (names_of os) (name_of o) f.names_differ new);
      priorities_differ = subst (λ l. Distinct l) (sym ep) f.priorities_differ;
      priorities_low = λ p h. f.priorities_low p (subst (λ l. In l p) ep h);
      activated_once = λ a h. f.activated_once a (subst (λ l. In l a) ea h);
      few_resources = rs;
      few_events = es;
      few_tasks = subst (λ l. length l ≤ 64) (sym ep) f.few_tasks;
    }

module _ (os : List Object) (n : List ℕ) (f : Formed os) where
  formed_resource : Allowed os (resource n) → Formed (os ++ (resource n ∷ []))
  formed_resource a =
      let o = resource n ∷ [] in
      let er = ap length (resources_app os o) ∙ length-append (resources_of os) (n ∷ []) in
      let ee = ap length (events_app os o) ∙ length-append (events_of os) [] in
      let low = a.1 in
      let few = f.few_events in
      formed_named os (resource n) refl refl a.0 (omega arith) (omega arith) f

  formed_event : Allowed os (event n) → Formed (os ++ (event n ∷ []))
  formed_event a =
      let o = event n ∷ [] in
      let er = ap length (resources_app os o) ∙ length-append (resources_of os) [] in
      let ee = ap length (events_app os o) ∙ length-append (events_of os) (n ∷ []) in
      let low = a.1 in
      let few = f.few_resources in
      formed_named os (event n) refl refl a.0 (omega arith) (omega arith) f

formed_task : (os : List Object) (n : List ℕ) (p a : ℕ) (rs : List Reference) → Formed os → Allowed os (task n p a rs) → Formed (os ++ (task n p a rs ∷ []))
formed_task os n p a rs f h =
    let o = task n p a rs ∷ [] in
    let ep = priorities_app os o in
    let size = ap length ep ∙ length-append (priorities_of os) (p ∷ []) in
    let low = h.1 in
    let ea = activations_app os o in
    let er = resources_app os o ∙ append-nil (resources_of os) in
    let ee = events_app os o ∙ append-nil (events_of os) in
    record {
      names_differ = subst (λ l. Distinct l) (sym (names_app os o)) (distinct_more (names_of os) n f.names_differ h.0);
      priorities_differ = subst (λ l. Distinct l) (sym ep) (distinct_more (priorities_of os) p f.priorities_differ h.3);
      priorities_low = λ k i. ⊎_elim (λ old. f.priorities_low k old) (λ e. subst (λ x. x < 64) e h.2) (in_split (priorities_of os) p k (subst (λ l. In l k) ep i));
      activated_once = λ k i. ⊎_elim (λ old. f.activated_once k old) (λ e. sym e ∙ h.4) (in_split (activations_of os) a k (subst (λ l. In l k) ea i));
      few_resources = subst (λ l. length l ≤ 32) (sym er) f.few_resources;
      few_events = subst (λ l. length l ≤ 32) (sym ee) f.few_events;
      few_tasks = omega arith;
    }

formed_on : (os before : List Object) → Formed before → AllowedFrom before os → Formed (joined before os) × Grounded before os × (0 < length (priorities_of (joined before os)))
formed_on [] before f a = (f, tt, a)
formed_on (resource n ∷ os) before f a = let r = formed_on os (before ++ (resource n ∷ [])) (formed_resource before n f a.0) a.1 in (r.0, (tt, r.1), r.2)
formed_on (event n ∷ os) before f a = let r = formed_on os (before ++ (event n ∷ [])) (formed_event before n f a.0) a.1 in (r.0, (tt, r.1), r.2)
formed_on (task n p c rs ∷ os) before f a = let r = formed_on os (before ++ (task n p c rs ∷ [])) (formed_task before n p c rs f a.0) a.1 in (r.0, (a.0.5, r.1), r.2)

formed_none : Formed []
formed_none = record {
  names_differ = λ x i j h g. absurd h;
  priorities_differ = λ x i j h g. absurd h;
  priorities_low = λ p h. absurd h.1;
  activated_once = λ a h. absurd h.1;
  few_resources = omega arith;
  few_events = omega arith;
  few_tasks = omega arith;
}

pub formed_from : (os : List Object) → AllowedFrom [] os → WellFormed os
formed_from os a =
    let r = formed_on os [] formed_none a in
    let e : joined [] os ≡ os = joined_app os [] in
    let f : Formed os = subst Formed e r.0 in
    record {
      names_differ = f.names_differ;
      references_known = r.1;
      priorities_differ = f.priorities_differ;
      priorities_low = f.priorities_low;
      activated_once = f.activated_once;
      few_resources = f.few_resources;
      few_events = f.few_events;
      few_tasks = f.few_tasks;
      some_task = subst (λ l. 0 < length (priorities_of l)) e r.2;
    }

module _ (all : List Object) (w : WellFormed all) where
  allowed_on : (os before : List Object) → all ≡ before ++ os → Grounded before os → AllowedFrom before os
  allowed_on [] before e g = subst (λ l. 0 < length (priorities_of l)) (e ∙ append-nil before) w.some_task
  allowed_on (resource n ∷ os) before e g =
      let en = ap names_of e ∙ names_app before (resource n ∷ os) in
      let size = ap length (ap resources_of e ∙ resources_app before (resource n ∷ os)) ∙ length-append (resources_of before) (n ∷ resources_of os) in
      let few = w.few_resources in (
        (distinct_mid (names_of all) (names_of before) n (names_of os) en w.names_differ, omega arith),
        allowed_on os (before ++ (resource n ∷ [])) (e ∙ sym (append_assoc before (resource n ∷ []) os)) g.1,
      )
  -- As for a resource, with the other list: one lemma for both would take six facts, and be no shorter.
  allowed_on (event n ∷ os) before e g =
      let en = ap names_of e ∙ names_app before (event n ∷ os) in
      let size = ap length (ap events_of e ∙ events_app before (event n ∷ os)) ∙ length-append (events_of before) (n ∷ events_of os) in
      let few = w.few_events in (
        (distinct_mid (names_of all) (names_of before) n (names_of os) en w.names_differ, omega arith),
        allowed_on os (before ++ (event n ∷ [])) (e ∙ sym (append_assoc before (event n ∷ []) os)) g.1,
      )
  allowed_on (task n p a rs ∷ os) before e g =
      let o = task n p a rs in
      let en = ap names_of e ∙ names_app before (o ∷ os) in
      let ep = ap priorities_of e ∙ priorities_app before (o ∷ os) in
      let ea = ap activations_of e ∙ activations_app before (o ∷ os) in
      let size = ap length ep ∙ length-append (priorities_of before) (p ∷ priorities_of os) in
      let few = w.few_tasks in (
        (
          distinct_mid (names_of all) (names_of before) n (names_of os) en w.names_differ,
          omega arith,
          w.priorities_low p (in_mid (priorities_of all) (priorities_of before) p (priorities_of os) ep),
          distinct_mid (priorities_of all) (priorities_of before) p (priorities_of os) ep w.priorities_differ,
          w.activated_once a (in_mid (activations_of all) (activations_of before) a (activations_of os) ea),
          g.0,
        ),
        allowed_on os (before ++ (o ∷ [])) (e ∙ sym (append_assoc before (o ∷ []) os)) g.1,
      )

pub allowed_from : (os : List Object) → WellFormed os → AllowedFrom [] os
allowed_from os w = allowed_on os w os [] refl w.references_known
