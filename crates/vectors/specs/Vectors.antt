-- Task vectors, and sets of tasks as tests on numbers.
use Rattle.std.specs.Prelude.{ℕ, zero, suc, ◌+◌, ◌/◌, ◌%◌, ◌^◌, Bool, false, cond, not, ◌&&◌, ◌||◌, Some, None, Option, ◌==◌, nat_lt}

-- Bit k of the number x is 1.
abbrev pub on : ℕ → ℕ → Bool
on x k = x / 2 ^ k % 2 == 1

-- Task t, from 0 to 63, is in the vector v.
abbrev pub in_vector : ℕ → ℕ → Bool
in_vector v t = nat_lt t 64 && on v t

-- The vector of the numbers below n that are in the set m.
unfoldable pub vector_of : ℕ → (ℕ → Bool) → ℕ
vector_of zero m = 0
vector_of (suc n) m = cond (m n) (2 ^ n) 0 + vector_of n m

-- The set m and the number t.
abbrev pub with : ℕ → (ℕ → Bool) → ℕ → Bool
with t m k = k == t || m k

-- The set m but for the number t.
abbrev pub without : ℕ → (ℕ → Bool) → ℕ → Bool
without t m k = not (k == t) && m k

-- The option holds the number t.
abbrev pub is : Option ℕ → ℕ → Bool
is None t = false
is (Some x) t = t == x

-- The greatest number below n in the set m.
unfoldable pub highest : ℕ → (ℕ → Bool) → Option ℕ
highest zero m = None
highest (suc n) m = cond (m n) (Some n) (highest n m)

-- Some number below n is in the set m.
unfoldable pub some : ℕ → (ℕ → Bool) → Bool
some zero m = false
some (suc n) m = m n || some n m

-- Some task of the vector v fails the test ok.
abbrev pub strays : ℕ → (ℕ → Bool) → Bool
strays v ok = some 64 (λ t. in_vector v t && not (ok t))
