-- Two sets as one: the second above the first where both together have room, and else the first alone.
use Rattle.std.specs.Prelude.{ℕ, ◌+◌, ◌-◌, Bool, cond, nat_le, nat_lt}

-- The size of the pair of sets of sizes a and b.
abbrev pub pair_room : ℕ → ℕ → ℕ
pair_room a b = cond (nat_le (a + b) 64) (a + b) a

-- The members of the pair, where the sets hold f and g.
abbrev pub pair_holds : ℕ → ℕ → (ℕ → Bool) → (ℕ → Bool) → ℕ → Bool
pair_holds a b f g t = cond (nat_le (a + b) 64) (cond (nat_lt t a) (f t) (g (t - a))) (f t)
