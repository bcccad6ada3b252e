-- What the loop over digits keeps, and which fields are numbers.
use Rattle.std.proofs.Common.{◌≡◌, ℕ, zero, suc, ◌+◌, ◌*◌, ◌^◌, ◌<◌, ◌≤◌, Bool, true, false, cond, ltb, leb, List, [], ◌∷◌, length, get_or, take, Some, None, sym, refl, ap, ◌∙◌, arith}
use native.Mathlib.Nat.{pow-le-pow_right}
use Rattle.std.specs.Str.Parse.{digits_value, AllDigits}
use Rattle.std.specs.Char.{digit_value}
use Rattle.std.proofs.lemmas.Int.Digits.{digits_push, digits_value-lt, digits_value_more}
use Rattle.std.proofs.lemmas.List.{take_more, length-take-le}
use Rattle.std.proofs.lemmas.Bool.{and_parts, and_from, and_left, and_right, ltb-true, leb-true, lt-ltb, le-ltb, le-leb, lt-leb, cond-true, cond-false}
use Rattle.texts.specs.Digits.{all_digits, is_number, number}

pub digits_from : (radix : ℕ) (ds : List ℕ) → all_digits radix ds ≡ true → AllDigits radix ds
digits_from radix [] all = tt
digits_from radix (d ∷ ds) all = let p = and_parts _ _ all in (ltb-true _ _ p.0, digits_from radix ds p.1)

pub digits_to : (radix : ℕ) (ds : List ℕ) → AllDigits radix ds → all_digits radix ds ≡ true
digits_to radix [] h = refl
digits_to radix (d ∷ ds) h = and_from _ _ (lt-ltb _ _ h.0) (digits_to radix ds h.1)

pub digits_more : (radix : ℕ) (ds : List ℕ) (i : ℕ) → i < length ds → all_digits radix (take i ds) ≡ true → digit_value (get_or ds i 0) < radix → all_digits radix (take (i + 1) ds) ≡ true
digits_more radix ds i lt all is = ap (all_digits radix) (take_more ds i 0 lt) ∙ digits_to radix _ (digits_push radix (take i ds) (get_or ds i 0) (digits_from radix _ all) is)

not_digits : (radix : ℕ) (ds : List ℕ) (i : ℕ) → i < length ds → radix ≤ digit_value (get_or ds i 0) → all_digits radix ds ≡ false
not_digits radix [] i lt le = absurd (omega arith)
not_digits radix (d ∷ ds) zero lt le = and_left _ _ (le-ltb _ _ le)
not_digits radix (d ∷ ds) (suc i) lt le = and_right _ _ (not_digits radix ds i (omega arith) le)

-- The value of one digit more has room.
pub room : (radix most i : ℕ) (ds : List ℕ) → 2 ≤ radix → radix ^ most ≤ 2 ^ 64 → length ds ≤ most → i < length ds → all_digits radix (take i ds) ≡ true → digit_value (get_or ds i 0) < radix →
    digits_value radix (take i ds) * radix + digit_value (get_or ds i 0) < 2 ^ 64
room radix most i ds base fits long lt all is =
    let more = digits_more radix ds i lt all is in
    let low = digits_value-lt radix (take (i + 1) ds) (digits_from radix _ more) in
    let len : length (take (i + 1) ds) ≡ i + 1 = length-take-le (i + 1) ds (omega arith) in
    let step = digits_value_more radix ds i lt in
    let high : radix ^ length (take (i + 1) ds) ≤ radix ^ most = pow-le-pow_right (let pos : 0 < radix = omega arith in pos) (let le : length (take (i + 1) ds) ≤ most = omega arith in le) in
    omega arith

module _ (radix most : ℕ) (ds : List ℕ) where
  pub number_is : 0 < length ds → length ds ≤ most → all_digits radix ds ≡ true → Some (digits_value radix ds) ≡ number radix most ds
  unfolding number
  number_is some short all = sym (cond-true (is_number radix most ds) (Some (digits_value radix ds)) None (and_from (ltb 0 (length ds)) _ (lt-ltb 0 _ some) (and_from (leb (length ds) most) _ (le-leb _ _ short) all)))

  no_number : is_number radix most ds ≡ false → None ≡ number radix most ds
  unfolding number
  no_number e = sym (cond-false (is_number radix most ds) (Some (digits_value radix ds)) None e)

  pub number_not : (i : ℕ) → i < length ds → radix ≤ digit_value (get_or ds i 0) → None ≡ number radix most ds
  number_not i lt le = no_number (and_right (ltb 0 (length ds)) _ (and_right (leb (length ds) most) _ (not_digits radix ds i lt le)))

  pub number_empty : length ds ≤ 0 → None ≡ number radix most ds
  number_empty none = no_number (and_left (ltb 0 (length ds)) _ (le-ltb 0 _ none))

  pub number_long : most < length ds → None ≡ number radix most ds
  number_long long = no_number (and_right (ltb 0 (length ds)) _ (and_left (leb (length ds) most) _ (lt-leb _ _ long)))

pub number_lt : (radix most : ℕ) (ds : List ℕ) (n : ℕ) → 2 ≤ radix → Some n ≡ number radix most ds → n < radix ^ most
unfolding number
number_lt radix most ds n base e = go (is_number radix most ds) refl e where
  go : (b : Bool) → is_number radix most ds ≡ b → Some n ≡ cond b (Some (digits_value radix ds)) None → n < radix ^ most
  go true is h =
      let p = and_parts (ltb 0 (length ds)) _ is in
      let q = and_parts (leb (length ds) most) _ p.1 in
      let low = digits_value-lt radix ds (digits_from radix ds q.1) in
      let same : n ≡ digits_value radix ds = grind arith in
      let high : radix ^ length ds ≤ radix ^ most = pow-le-pow_right (let pos : 0 < radix = omega arith in pos) (leb-true _ _ q.0) in
      omega arith
  go false is h = absurd (grind arith)
