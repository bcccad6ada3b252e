use Rattle.std.proofs.Common.{◌≡◌, ℕ, Bool, true, false, cond, eqb, List, [], ◌∷◌, ◌++◌, length, reverse, None, Some, Option, Bor, Iter, sym, refl, ap, ◌∙◌, subst, rules, tests}
use denote.Param.Members.{Mut}
use Rattle.std.specs.Fn.{CalledAt}
use Rattle.std.specs.declared.iter.Rev.{Rev}
use Rattle.std.specs.Iterator.{Yields}
use Rattle.std.specs.List.{FoldsTo}
use Rattle.std.specs.Option.{MatchOption, IfSome, option_map}
use Rattle.std.proofs.lemmas.Bool.{ne_eqb, eq-eqb}
use Rattle.std.proofs.lemmas.List.{nil_from_length}
use Rattle.machine.specs.Schedules.{holder}
use Rattle.kernel.specs.declared.held_lock.HeldLock.{HeldLock}
use Rattle.kernel.specs.Lists.{entries}
use Rattle.kernel.proofs.Lists.{newest_of}
use Rattle.kernel.proofs.state.HeldList.holder.Goals as goal

-- one call on the locks read from their end
abbrev backs : Rev (Iter HeldLock) → Option (Bor HeldLock) → Rev (Iter HeldLock) → Type 0
backs s o t = MatchOption o ((length s.iter.rest.now ≡ 0) × (t.iter ≡ s.iter)) (λ x. s.iter.rest.now ≡ t.iter.rest.now ++ x.now ∷ [])

newest_first : (ls : List HeldLock) (l : HeldLock) (ks : List HeldLock) (r : ℕ) → ls ≡ ks ++ l ∷ [] → cond (eqb r l.resource) (Some l.holder) (holder (entries (reverse ks)) r) ≡ holder (entries (reverse ls)) r
newest_first ls l ks r e = ap (λ xs. holder (entries xs) r) (sym (newest_of ls ks l e))

-- what the search finds is the newest lock of the resource
found : {F : Type 0} {g : Mut F (Bor (Bor HeldLock) × Unit {0}) Bool} (f : F) (r : ℕ)
    → (xs : List (Bor HeldLock)) (s t u : Rev (Iter HeldLock)) (h j : F) (o : Option (Bor HeldLock)) → h ≡ f → Yields backs s xs t → backs t o u → FoldsTo (λ p x q. CalledAt g p x false q) h xs j → IfSome o (λ x. (k : F) × CalledAt g j x true k)
    → ((x : Bor HeldLock) (q : F) → CalledAt g f x false q → (q ≡ f) × (x.now.resource ≡ r → ⊥)) → ((x : Bor HeldLock) (q : F) → CalledAt g f x true q → x.now.resource ≡ r)
    → option_map (λ x. x.now.holder) o ≡ holder (entries (reverse s.iter.rest.now)) r
found {g = g} f r [] s t u h j None e a b c d n y = ap (λ xs. holder (entries (reverse xs)) r) (sym (ap (λ z. z.iter.rest.now) a ∙ nil_from_length t.iter.rest.now b.0))
found {g = g} f r [] s t u h j (Some x) e a b c d n y =
    ap (λ z. cond z (Some x.now.holder) (holder (entries (reverse u.iter.rest.now)) r)) (sym (eq-eqb r x.now.resource (sym (y x d.0 (subst (λ k. CalledAt g k x true d.0) (sym c ∙ e) d.1)))))
    ∙ newest_first s.iter.rest.now x.now u.iter.rest.now r (ap (λ z. z.iter.rest.now) a ∙ b)
found {g = g} f r (x ∷ xs) s t u h j o e a b c d n y =
    let m = n x c.0 (subst (λ k. CalledAt g k x false c.0) e c.1) in
    found f r xs a.0 t u c.0 j o m.0 a.2 b c.2 d n y
    ∙ ap (λ z. cond z (Some x.now.holder) (holder (entries (reverse a.0.iter.rest.now)) r)) (sym (ne_eqb r x.now.resource (λ q. m.1 (sym q))))
    ∙ newest_first s.iter.rest.now x.now a.0.iter.rest.now r a.1

mapped : (o : Option (Bor HeldLock)) (m : Option ℕ) → MatchOption o (m ≡ None) (λ x. m ≡ Some x.now.holder) → m ≡ option_map (λ x. x.now.holder) o
mapped None m e = e
mapped (Some x) m e = e

pub returns : goal.returns
returns c =
    let z = c.find.ensures.ran in
    mapped c.find.result c.map.result (search (rules, tests))
    ∙ found _ c.args.r z.0 c.rev.result z.2.0 c.find.new.self _ z.1 c.find.result refl z.2.1 z.2.2 z.3 z.4 (λ x q k. search (rules, tests)) (λ x q k. search (rules, tests))
    ∙ ap (λ xs. holder (entries xs) c.args.r) (ap (λ i. reverse i.rest.now) c.rev.ensures.source ∙ ap reverse (c.iter.ensures.rest ∙ c.as_slice.ensures.value) ∙ c.self.view_is)
