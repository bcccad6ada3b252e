-- Lists one after the other: one more, what stands in them, and their order.
use Rattle.std.proofs.Common.{◌≡◌, ℕ, zero, suc, ◌+◌, ◌<◌, ◌⊎◌, List, [], ◌∷◌, ◌++◌, sym, refl, ap, ◌∙◌, subst, inl, inr, ⊎_elim, add-one, arith}
use Rattle.std.proofs.lemmas.List.{append_assoc}
use Rattle.std.proofs.lemmas.Bool.{cases_eq}
use Rattle.plan.specs.declared.entry.Entry.{Entry}
use Rattle.sheet.specs.Entries.{in_turn}
use Rattle.sheet.specs.Tables.{In, Before, Ordered}

-- the step of a loop that adds them
pub turn_more : (f : ℕ → List Entry) (n : ℕ) (start now next : List Entry) → now ≡ start ++ in_turn f n → next ≡ now ++ f n → next ≡ start ++ in_turn f (n + 1)
turn_more f n start now next e q = q ∙ ap (λ xs. xs ++ f n) e ∙ append_assoc start (in_turn f n) (f n) ∙ ap (λ k. start ++ in_turn f k) (sym (add-one n))

-- `In` is a definition by cases. The library's laws of `Contains`, which goes by places, would serve through lemmas both
-- ways between the two, which are no shorter than these three.

in_left : (xs ys : List Entry) (x : Entry) → In xs x → In (xs ++ ys) x
in_left [] ys x i = absurd i
in_left (y ∷ xs) ys x (inl e) = inl e
in_left (y ∷ xs) ys x (inr i) = inr (in_left xs ys x i)

in_right : (xs ys : List Entry) (x : Entry) → In ys x → In (xs ++ ys) x
in_right [] ys x i = i
in_right (y ∷ xs) ys x i = inr (in_right xs ys x i)

in_either : (xs ys : List Entry) (x : Entry) → In (xs ++ ys) x → In xs x ⊎ In ys x
in_either [] ys x i = inr i
in_either (y ∷ xs) ys x (inl e) = inl (inl e)
in_either (y ∷ xs) ys x (inr i) = ⊎_elim (λ (a : In xs x). inl (inr a)) (λ (a : In ys x). inr a) (in_either xs ys x i)

pub in_one : (f : ℕ → List Entry) (n i : ℕ) (x : Entry) → i < n → In (f i) x → In (in_turn f n) x
in_one f zero i x l a = absurd (omega arith)
in_one f (suc n) i x l a = ⊎_elim
    (λ (q : i ≡ n). in_right (in_turn f n) (f n) x (subst (λ (k : ℕ). In (f k) x) q a))
    (λ (ne : i ≡ n → ⊥). in_left (in_turn f n) (f n) x (in_one f n i x (omega arith) a))
    (cases_eq i n)

pub from_one : (f : ℕ → List Entry) (n : ℕ) (x : Entry) → In (in_turn f n) x → (i : ℕ) × (i < n) × In (f i) x
from_one f zero x a = absurd a
from_one f (suc n) x a = ⊎_elim
    (λ (b : In (in_turn f n) x). let y = from_one f n x b in (y.0, omega (arith, y.1), y.2))
    (λ (b : In (f n) x). (n, omega arith, b))
    (in_either (in_turn f n) (f n) x a)

ordered_both : (xs ys : List Entry) → Ordered xs → Ordered ys → ((x y : Entry) → In xs x → In ys y → Before x y) → Ordered (xs ++ ys)
ordered_both [] ys a b h = b
ordered_both (x ∷ xs) ys a b h = (
  λ y i. ⊎_elim (λ (z : In xs y). a.0 y z) (λ (z : In ys y). h x y (inl refl) z) (in_either xs ys y i),
  ordered_both xs ys a.1 b (λ u v i j. h u v (inr i) j),
)

-- lists in order, each before the later ones
pub ordered_turn : (f : ℕ → List Entry) (n : ℕ) → ((i : ℕ) → Ordered (f i)) → ((i j : ℕ) (x y : Entry) → i < j → In (f i) x → In (f j) y → Before x y) → Ordered (in_turn f n)
ordered_turn f zero o h = tt
ordered_turn f (suc n) o h =
    ordered_both (in_turn f n) (f n) (ordered_turn f n o h) (o n)
    (λ x y a b. let z = from_one f n x a in h z.0 n x y z.1 z.2 b)
