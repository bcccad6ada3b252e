-- Laws of a vector that grows.
use Rattle.std.proofs.Common.{◌≡◌, ℕ, ◌+◌, ◌<◌, ◌≤◌, List, ◌++◌, length, Ok, Err, vec_items, vec_len, vec_capacity, Result, Vec, sym, ap, ◌∙◌, subst, append_assoc, arith, length-append}
use Rattle.transcripts.specs.Lines.{Grown}

-- An error for want of room.
pub refused : {Z E : Type 0} (v : Vec ℕ Z) (bs : List ℕ) (r : Result (Vec ℕ Z) E) (e : E) → r ≡ Err e → vec_capacity v < vec_len v + length bs → Grown v bs r
refused v bs r e is full = subst (Grown v bs) (sym is) full

-- No room for the first part is no room for both.
pub refused_first : {Z E : Type 0} (v : Vec ℕ Z) (a b : List ℕ) (r : Result (Vec ℕ Z) E) (e : E) → r ≡ Err e → vec_capacity v < vec_len v + length a → Grown v (a ++ b) r
refused_first v a b r e is full = refused v (a ++ b) r e is (omega (arith, full, length-append a b))

-- More is added after what was added.
pub grown_then : {Z E : Type 0} (v w : Vec ℕ Z) (a b : List ℕ) (r : Result (Vec ℕ Z) E) → (vec_items w ≡ vec_items v ++ a) × (vec_capacity v ≤ vec_capacity w) → Grown w b r → Grown v (a ++ b) r
grown_then v w a b (Ok x) one two = (two.0 ∙ ap (λ l. l ++ b) one.0 ∙ append_assoc (vec_items v) a b, omega (arith, one.1, two.1))
grown_then v w a b (Err e) one full =
    let long : length (vec_items w) ≡ length (vec_items v) + length a = ap length one.0 ∙ length-append (vec_items v) a in
    omega (arith, long, full, one.1, length-append a b, v.ok.0, w.ok.0)
