-- What the parts of a core stand for.
use Rattle.std.specs.Prelude.{ℕ, Bool, ◌&&◌, nat_lt, slice_index}
use Rattle.vectors.specs.Vectors.{in_vector}
use Rattle.kernel.specs.declared.state.Core.{Core}

-- Task t is marked for event e.
abbrev pub marks_in : Core → ℕ → ℕ → Bool
marks_in k e t = in_vector (slice_index k.marks e) t

-- The members of a set that are below i.
abbrev pub below : ℕ → (ℕ → Bool) → ℕ → Bool
below i m k = nat_lt k i && m k
