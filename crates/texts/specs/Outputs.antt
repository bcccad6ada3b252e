-- What is added to a vector of bytes.
use Rattle.std.specs.Prelude.{◌≡◌, ℕ, ◌+◌, ◌<◌, ◌≤◌, List, ◌++◌, length, Ok, Err, vec_items, vec_len, vec_capacity, Result, Vec}

-- The bytes bs were added to the vector, which has no less room than before; or nothing was, for want of room.
abbrev pub Appended : {Z E : Type 0} → Vec ℕ Z → List ℕ → Result (Unit {0}) E → Vec ℕ Z → Type 0
Appended v bs (Ok x) w = (vec_items w ≡ vec_items v ++ bs) × (vec_capacity v ≤ vec_capacity w)
Appended v bs (Err e) w = (vec_items w ≡ vec_items v) × (vec_capacity v < vec_len v + length bs)
