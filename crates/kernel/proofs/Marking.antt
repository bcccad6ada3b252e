-- Marks in an array of vectors.
use Rattle.std.proofs.Common.{◌≡◌, ℕ, ◌<◌, ◌≤◌, Bool, true, false, not, ◌&&◌, ◌||◌, eqb, ◌≢◌, List, length, get_or, set, replicate, sym, refl, ap, ◌∙◌, ⊎_elim, get_or-set_other, get_or-set_same}
use mathlib.Core.Path.{fun_ext}
use lib.Bits.{bit_or}
use Rattle.std.proofs.lemmas.List.{get_or_past}
use Rattle.std.proofs.lemmas.Bool.{cases_eq, eq-eqb, ne_eqb}
use Rattle.vectors.specs.Vectors.{in_vector, without}
use Rattle.kernel.specs.Changes.{marked_too, unmarked, unmarked_all}
use Rattle.vectors.proofs.Bits.{and_false}
use Rattle.vectors.proofs.Vectors.{in_or, in_none}
use Rattle.plan.proofs.Zeros.{zeros}

abbrev pub marks : List ℕ → ℕ → ℕ → Bool
marks ms e t = in_vector (get_or ms e 0) t

-- row e becomes x: f says what becomes of a mark, by whether it is of that row, its task, and whether it was set
marks_changed : (ms : List ℕ) (e x : ℕ) (f : Bool → ℕ → Bool → Bool) → e < length ms → ((t : ℕ) (o : Bool) → f false t o ≡ o)
    → ((t : ℕ) → in_vector x t ≡ f true t (in_vector (get_or ms e 0) t)) → marks (set ms e x) ≡ (λ a t. f (eqb a e) t (marks ms a t))
marks_changed ms e x f l none h = fun_ext (λ a. fun_ext (λ t. ⊎_elim
    (λ (q : a ≡ e).
    let s : get_or (set ms e x) a 0 ≡ x = ap (λ k. get_or (set ms e x) k 0) q ∙ (rw get_or-set_same) in
    ap (λ y. in_vector y t) s ∙ h t ∙ ap (λ b. f b t (in_vector (get_or ms e 0) t)) (sym (eq-eqb a e q)) ∙ ap (λ k. f (eqb a e) t (in_vector (get_or ms k 0) t)) (sym q))
    (λ (ne : a ≢ e).
    let s : get_or (set ms e x) a 0 ≡ get_or ms a 0 = rw get_or-set_other in
    ap (λ y. in_vector y t) s ∙ sym (ap (λ b. f b t (in_vector (get_or ms a 0) t)) (ne_eqb a e ne) ∙ none t (in_vector (get_or ms a 0) t)))
    (cases_eq a e)))

pub marks_set : (ms : List ℕ) (e v : ℕ) → e < length ms → marks (set ms e (bit_or (get_or ms e 0) v)) ≡ marked_too e (in_vector v) (marks ms)
marks_set ms e v l = marks_changed ms e (bit_or (get_or ms e 0) v) (λ b t o. (b && in_vector v t) || o) l (λ t o. refl) (in_or (get_or ms e 0) v)

pub marks_clear : (ms : List ℕ) (e u x : ℕ) → e < length ms → in_vector x ≡ without u (in_vector (get_or ms e 0)) → marks (set ms e x) ≡ unmarked e u (marks ms)
marks_clear ms e u x l h = marks_changed ms e x (λ b t o. not (b && eqb t u) && o) l (λ t o. refl) (λ t. ap (λ g. g t) h)

pub no_marks : marks (replicate 32 0) ≡ (λ e t. false)
no_marks = fun_ext (λ e. fun_ext (λ t. ap (λ v. in_vector v t) (zeros 32 e) ∙ in_none t))

pub marks_gone : (m : ℕ → ℕ → Bool) → marks (replicate 32 0) ≡ unmarked_all m
marks_gone m = no_marks ∙ fun_ext (λ e. fun_ext (λ t. sym (and_false (m e t))))

-- no mark beyond the events
pub past_end : (ms : List ℕ) (e t : ℕ) → length ms ≤ e → marks ms e t ≡ false
past_end ms e t l = ap (λ v. in_vector v t) (get_or_past ms e 0 l) ∙ in_none t
