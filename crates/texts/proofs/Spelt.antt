-- A record is read as a call just where it spells it.
use Rattle.std.proofs.Common.{◌≡◌, ℕ, ◌≤◌, Bool, true, false, cond, ltb, leb, List, [], ◌∷◌, ◌++◌, length, Some, None, codes, Option, sym, refl, ap, ◌∙◌, subst, arith}
use Rattle.std.specs.Option.{option_map}
use Rattle.std.specs.Str.Parse.{AllDigits, digits_value}
use Rattle.std.specs.Char.{digit_value}
use Rattle.std.specs.Str.{bytes_eq}
use Rattle.std.proofs.lemmas.Slice.Eq.{bytes_eq-Decides}
use Rattle.std.proofs.lemmas.Bool.{and_parts, ltb-true, leb-true}
use Rattle.machine.specs.declared.Call.{Call}
use Rattle.machine.specs.declared.Call.TheVariants.{Install, Release, Lock, Unlock, Exit, Signal, SignalRelease, Test}
use Rattle.texts.specs.declared.verbs.Verb.{Verb}
use Rattle.texts.specs.declared.verbs.Verb.TheVariants.{Releases, Locks, Unlocks, Exits, Signals, SignalReleases, Tests}
use Rattle.texts.specs.Pieces.{Lacks, pieces}
use Rattle.texts.specs.Digits.{is_number, number, number_field, vector_field}
use Rattle.texts.specs.Verbs.{word_of, named, verbs, verb_of}
use Rattle.texts.specs.Requests.{asked_bare, asked_one, asked_two, both, asked_with, asked_as, asked_by, asked}
use Rattle.texts.specs.Spells.{Writes, Vector, Number, Spells, AsksWhatItSpells}
use Rattle.texts.proofs.Cuts.{pieces_cut, pieces_last, rejoin, rejoined}
use Rattle.texts.proofs.Numbers.{digits_from, digits_to, number_is}

-- Numbers: a field is read as n just where it writes n.
written : (radix most : ℕ) (ds : List ℕ) (n : ℕ) → number radix most ds ≡ Some n → Writes radix most ds n
unfolding number
written radix most ds n e = go (is_number radix most ds) refl e where
  go : (b : Bool) → is_number radix most ds ≡ b → cond b (Some (digits_value radix ds)) None ≡ Some n → Writes radix most ds n
  go true t h =
      let p = and_parts (ltb 0 (length ds)) _ t in
      let q = and_parts (leb (length ds) most) _ p.1 in
      record { some = ltb-true 0 _ p.0; short = leb-true _ _ q.0; digits = digits_from radix ds q.1; is = cc }
  go false t h = absurd cc

reads : (radix most : ℕ) (ds : List ℕ) (n : ℕ) → Writes radix most ds n → number radix most ds ≡ Some n
reads radix most ds n w = sym (number_is radix most ds w.some w.short (digits_to radix ds w.digits)) ∙ ap Some w.is

-- Digits have no comma.
plain : (radix : ℕ) (ds : List ℕ) → radix ≤ 36 → AllDigits radix ds → Lacks 44 ds
plain radix [] le h = tt
plain radix (d ∷ ds) le h =
    let other : d ≡ 44 → ⊥ = λ e. let high : digit_value d ≡ 36 = ap digit_value e in omega (arith, high, h.0) in
    (other, plain radix ds le h.1)

-- What is spelt is read.
one : (radix most : ℕ) (v : Verb) (bs word : List ℕ) (make : ℕ → Call) (n : ℕ) (d : List ℕ) → radix ≤ 36 → Writes radix most d n → bs ≡ word ++ d →
    asked (word ++ d) ≡ asked_with v (pieces 44 d) → asked_with v (d ∷ []) ≡ option_map make (number radix most d) → asked bs ≡ Some (make n)
one radix most v bs word make n d le w e f g = ap asked e ∙ f ∙ ap (asked_with v) (pieces_last 44 d (plain radix d le w.digits)) ∙ g ∙ ap (option_map make) (reads radix most d n w)

two : (v : Verb) (bs word : List ℕ) (make : ℕ → Option ℕ → Call) (n x : ℕ) (d e : List ℕ) → Number d n → Vector e x → bs ≡ word ++ (d ++ 44 ∷ e) →
    asked (word ++ (d ++ 44 ∷ e)) ≡ asked_with v (pieces 44 (d ++ 44 ∷ e)) → asked_with v (d ∷ e ∷ []) ≡ both make (number_field d) (vector_field e) → asked bs ≡ Some (make n (Some x))
two v bs word make n x d e w u is f g =
    ap asked is ∙ f ∙ ap (asked_with v) (pieces_cut 44 d e (plain 10 d (omega arith) w.digits) ∙ ap (λ l. d ∷ l) (pieces_last 44 e (plain 16 e (omega arith) u.digits)))
    ∙ g ∙ ap (λ o. both make o (vector_field e)) (reads 10 3 d n w) ∙ ap (both make (Some n)) (reads 16 16 e x u)

pub spelt_read : (q : Call) (bs : List ℕ) → Spells q bs → asked bs ≡ Some q
unfolding asked pieces
spelt_read (Install p) bs h = absurd h
spelt_read (Release v) bs h = one 16 16 Releases bs (codes "release,") Release v h.0 (omega arith) h.1 h.2 refl refl
spelt_read (Lock n) bs h = one 10 3 Locks bs (codes "lock,") Lock n h.0 (omega arith) h.1 h.2 refl refl
spelt_read (Unlock n) bs h = one 10 3 Unlocks bs (codes "unlock,") Unlock n h.0 (omega arith) h.1 h.2 refl refl
spelt_read Exit bs h = ap asked h
spelt_read (Signal n None) bs h = one 10 3 Signals bs (codes "signal,") (λ k. Signal k None) n h.0 (omega arith) h.1 h.2 refl refl
spelt_read (Signal n (Some v)) bs h = two Signals bs (codes "signal,") Signal n v h.0 h.1 h.2 h.3 h.4 refl refl
spelt_read (SignalRelease n None) bs h = one 10 3 SignalReleases bs (codes "signalrelease,") (λ k. SignalRelease k None) n h.0 (omega arith) h.1 h.2 refl refl
spelt_read (SignalRelease n (Some v)) bs h = two SignalReleases bs (codes "signalrelease,") SignalRelease n v h.0 h.1 h.2 h.3 h.4 refl refl
spelt_read (Test n) bs h = one 10 3 Tests bs (codes "test,") Test n h.0 (omega arith) h.1 h.2 refl refl

-- What is read is spelt.
named_word : (w : List ℕ) (vs : List Verb) (v : Verb) → named w vs ≡ Some v → w ≡ word_of v
named_word w [] v e = absurd cc
named_word w (x ∷ vs) v e = go (bytes_eq w (word_of x)) refl e (named_word w vs v) where
  go : (t : Bool) → bytes_eq w (word_of x) ≡ t → cond t (Some x) (named w vs) ≡ Some v → (named w vs ≡ Some v → w ≡ word_of v) → w ≡ word_of v
  go true is h on = (bytes_eq-Decides w (word_of x)).0 is ∙ ap word_of (let same : x ≡ v = cc in same)
  go false is h on = on h

from_one : (radix most : ℕ) (make : ℕ → Call) (q : Call) (d : List ℕ) → option_map make (number radix most d) ≡ Some q → (n : ℕ) × Writes radix most d n × (make n ≡ q)
from_one radix most make q d e = go (number radix most d) refl e where
  go : (o : Option ℕ) → number radix most d ≡ o → option_map make o ≡ Some q → (n : ℕ) × Writes radix most d n × (make n ≡ q)
  go None is h = absurd cc
  go (Some n) is h = (n, written radix most d n is, (let same : make n ≡ q = cc in same))

from_two : (make : ℕ → Option ℕ → Call) (q : Call) (d e : List ℕ) → both make (number_field d) (vector_field e) ≡ Some q → (n : ℕ) × (v : ℕ) × Number d n × Vector e v × (make n (Some v) ≡ q)
from_two make q d e h = go (number_field d) (vector_field e) refl refl h where
  go : (o p : Option ℕ) → number_field d ≡ o → vector_field e ≡ p → both make o p ≡ Some q → (n : ℕ) × (v : ℕ) × Number d n × Vector e v × (make n (Some v) ≡ q)
  go None p i j k = absurd cc
  go (Some n) None i j k = absurd cc
  go (Some n) (Some v) i j k = (n, v, written 10 3 d n i, written 16 16 e v j, (let same : make n (Some v) ≡ q = cc in same))

to_one : (q : Call) (radix most : ℕ) (make : ℕ → Call) (word d : List ℕ) → ((n : ℕ) → Writes radix most d n → Spells (make n) (word ++ d)) → option_map make (number radix most d) ≡ Some q → Spells q (word ++ d)
to_one q radix most make word d spell e = let h = from_one radix most make q d e in subst (λ x. Spells x (word ++ d)) h.2 (spell h.0 h.1)

to_two : (q : Call) (make : ℕ → Option ℕ → Call) (word d e : List ℕ) → ((n v : ℕ) → Number d n → Vector e v → Spells (make n (Some v)) (word ++ (d ++ 44 ∷ e))) → both make (number_field d) (vector_field e) ≡ Some q → Spells q (word ++ (d ++ 44 ∷ e))
to_two q make word d e spell k = let h = from_two make q d e k in subst (λ x. Spells x (word ++ (d ++ 44 ∷ e))) h.4 (spell h.0 h.1 h.2 h.3)

spelt_bare : (v : Verb) (q : Call) → asked_bare v ≡ Some q → Spells q (word_of v)
spelt_bare Releases q e = absurd cc
spelt_bare Locks q e = absurd cc
spelt_bare Unlocks q e = absurd cc
spelt_bare Exits q e = subst (λ x. Spells x (codes "exit")) (let same : Exit ≡ q = cc in same) refl
spelt_bare Signals q e = absurd cc
spelt_bare SignalReleases q e = absurd cc
spelt_bare Tests q e = absurd cc

spelt_one : (v : Verb) (a : List ℕ) (q : Call) → asked_one v a ≡ Some q → Spells q (word_of v ++ 44 ∷ a)
spelt_one Releases a q e = to_one q 16 16 Release (codes "release,") a (λ n w. (a, w, refl)) e
spelt_one Locks a q e = to_one q 10 3 Lock (codes "lock,") a (λ n w. (a, w, refl)) e
spelt_one Unlocks a q e = to_one q 10 3 Unlock (codes "unlock,") a (λ n w. (a, w, refl)) e
spelt_one Exits a q e = absurd cc
spelt_one Signals a q e = to_one q 10 3 (λ n. Signal n None) (codes "signal,") a (λ n w. (a, w, refl)) e
spelt_one SignalReleases a q e = to_one q 10 3 (λ n. SignalRelease n None) (codes "signalrelease,") a (λ n w. (a, w, refl)) e
spelt_one Tests a q e = to_one q 10 3 Test (codes "test,") a (λ n w. (a, w, refl)) e

spelt_two : (v : Verb) (a b : List ℕ) (q : Call) → asked_two v a b ≡ Some q → Spells q (word_of v ++ 44 ∷ (a ++ 44 ∷ b))
spelt_two Releases a b q e = absurd cc
spelt_two Locks a b q e = absurd cc
spelt_two Unlocks a b q e = absurd cc
spelt_two Exits a b q e = absurd cc
spelt_two Signals a b q e = to_two q Signal (codes "signal,") a b (λ n v w u. (a, b, w, u, refl)) e
spelt_two SignalReleases a b q e = to_two q SignalRelease (codes "signalrelease,") a b (λ n v w u. (a, b, w, u, refl)) e
spelt_two Tests a b q e = absurd cc

spelt : (v : Verb) (fs : List (List ℕ)) (q : Call) → asked_with v fs ≡ Some q → Spells q (rejoin 44 (word_of v ∷ fs))
spelt v [] q e = spelt_bare v q e
spelt v (a ∷ []) q e = spelt_one v a q e
spelt v (a ∷ b ∷ []) q e = spelt_two v a b q e
spelt v (a ∷ b ∷ c ∷ fs) q e = absurd cc

spelt_as : (w : List ℕ) (fs : List (List ℕ)) (q : Call) (o : Option Verb) → verb_of w ≡ o → asked_as o fs ≡ Some q → Spells q (rejoin 44 (w ∷ fs))
spelt_as w fs q None is e = absurd cc
spelt_as w fs q (Some v) is e = subst (λ x. Spells q (rejoin 44 (x ∷ fs))) (sym (named_word w verbs v is)) (spelt v fs q e)

spelt_by : (fs : List (List ℕ)) (q : Call) → asked_by fs ≡ Some q → Spells q (rejoin 44 fs)
spelt_by [] q e = absurd cc
spelt_by (w ∷ fs) q e = spelt_as w fs q (verb_of w) refl e

read_spelt : (q : Call) (bs : List ℕ) → asked bs ≡ Some q → Spells q bs
unfolding asked
read_spelt q bs e = subst (Spells q) (rejoined 44 bs) (spelt_by (pieces 44 bs) q e)

pub asks_what_it_spells : (bs : List ℕ) → AsksWhatItSpells bs
asks_what_it_spells bs q = (read_spelt q bs, spelt_read q bs)
