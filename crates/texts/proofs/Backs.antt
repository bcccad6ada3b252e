-- A record written from a call reads back as that call.
use Rattle.std.proofs.Common.{◌≡◌, ℕ, zero, suc, ◌/◌, ◌%◌, ◌^◌, ◌<◌, ◌≤◌, true, false, List, length, IfSome, Some, None, decimal, Option, refl, ap, append-nil, arith, MatchOption}
use Rattle.std.specs.Str.Parse.{AllDigits, digits_value}
use Rattle.std.specs.Char.{digit_char}
use Rattle.std.proofs.lemmas.Fmt.{decimal_is_IsNumeral, length-decimal-le}
use Rattle.std.proofs.lemmas.Int.Digits.{digits_value-lt, digits_value_push, digits_push}
use Rattle.std.proofs.lemmas.List.{length_push}
use Rattle.std.proofs.lemmas.Bool.{leb-true, leb-false, true≢false, false≢true, both_ways}
use Rattle.std.proofs.lemmas.Str.{digit_value-digit_char}
use Rattle.machine.specs.declared.Call.{Call}
use Rattle.machine.specs.declared.Call.TheVariants.{Install, Release, Lock, Unlock, Exit, Signal, SignalRelease, Test}
use Rattle.texts.specs.declared.verbs.Verb.{Verb}
use Rattle.texts.specs.declared.verbs.Verb.TheVariants.{Locks, Unlocks, Signals, SignalReleases, Tests}
use Rattle.texts.specs.Fronts.{hex}
use Rattle.texts.specs.Lines.{field}
use Rattle.texts.specs.Spells.{Vector, Number, Spells}
use Rattle.texts.specs.Spelling.{numbered, is_short, has_record, record_of, Fits, ReadsBack}
use Rattle.texts.specs.Verbs.{word_of}
use Rattle.texts.proofs.Spelt.{spelt_read}

-- The hexadecimal digits of a number write it.
length_hex : (k n : ℕ) → length (hex k n) ≡ k
unfolding hex
length_hex zero n = refl
length_hex (suc k) n = omega (arith, length_push (hex k (n / 16)) (digit_char (n % 16)), length_hex k (n / 16))

digits_hex : (k n : ℕ) → AllDigits 16 (hex k n)
unfolding hex
digits_hex zero n = tt
digits_hex (suc k) n = digits_push 16 (hex k (n / 16)) (digit_char (n % 16)) (digits_hex k (n / 16)) (omega (arith, digit_value-digit_char (n % 16) (omega arith)))

value_hex : (k n : ℕ) → n < 16 ^ k → digits_value 16 (hex k n) ≡ n
unfolding hex
value_hex zero n small = omega arith
value_hex (suc k) n small =
    omega (arith, digits_value_push 16 (hex k (n / 16)) (digit_char (n % 16)), value_hex k (n / 16) (omega arith), digit_value-digit_char (n % 16) (omega arith))

writes_vector : (v : ℕ) → v < 2 ^ 64 → Vector (hex 16 v) v
writes_vector v small = record { some = omega (arith, length_hex 16 v); short = omega (arith, length_hex 16 v); digits = digits_hex 16 v; is = value_hex 16 v small }

writes_number : (n : ℕ) → n ≤ 999 → Number (decimal n) n
writes_number n small =
    let h = decimal_is_IsNumeral n (omega arith) in
    record { some = h.0.0; short = length-decimal-le 3 n (omega arith) (omega arith) (omega arith); digits = h.0.1; is = h.1 }

-- A number of at most 3 digits is at most 999.
small_number : (d : List ℕ) (n : ℕ) → Number d n → 999 < n → ⊥
small_number d n w large = over (length d) w.short (digits_value-lt 10 d w.digits) w.is where
  over : (k : ℕ) → k ≤ 3 → digits_value 10 d < 10 ^ k → digits_value 10 d ≡ n → ⊥
  over zero le lt is = omega arith
  over (suc zero) le lt is = omega arith
  over (suc (suc zero)) le lt is = omega arith
  over (suc (suc (suc zero))) le lt is = omega arith
  over (suc (suc (suc (suc k)))) le lt is = omega arith

-- A number alone, or with a vector, after a word and its comma.
alone : (n : ℕ) → is_short n ≡ true → Number (decimal n) n
alone n short = writes_number n (leb-true n 999 short)

no_vector : (w : Verb) (n : ℕ) → numbered w n None ≡ field (word_of w) (decimal n)
no_vector w n = ap (field (word_of w)) (append-nil (decimal n))

spells_it : (q : Call) → Fits q → has_record q ≡ true → Spells q (record_of q)
spells_it (Install p) fits has = absurd (false≢true has)
spells_it (Release v) fits has = (hex 16 v, writes_vector v fits, refl)
spells_it (Lock n) fits has = (decimal n, alone n has, no_vector Locks n)
spells_it (Unlock n) fits has = (decimal n, alone n has, no_vector Unlocks n)
spells_it Exit fits has = refl
spells_it (Signal n None) fits has = (decimal n, alone n has, no_vector Signals n)
spells_it (Signal n (Some v)) fits has = (decimal n, hex 16 v, alone n has, writes_vector v fits, refl)
spells_it (SignalRelease n None) fits has = (decimal n, alone n has, no_vector SignalReleases n)
spells_it (SignalRelease n (Some v)) fits has = (decimal n, hex 16 v, alone n has, writes_vector v fits, refl)
spells_it (Test n) fits has = (decimal n, alone n has, no_vector Tests n)

-- A number of more than 3 digits is spelt by nothing.
long : (d : List ℕ) (n : ℕ) → is_short n ≡ false → Number d n → ⊥
long d n e w = small_number d n w (leb-false n 999 e)

none_spells : (q : Call) → has_record q ≡ false → (bs : List ℕ) → Spells q bs → ⊥
none_spells (Install p) e bs h = h
none_spells (Release v) e bs h = true≢false e
none_spells (Lock n) e bs h = long h.0 n e h.1
none_spells (Unlock n) e bs h = long h.0 n e h.1
none_spells Exit e bs h = true≢false e
none_spells (Signal n None) e bs h = long h.0 n e h.1
none_spells (Signal n (Some v)) e bs h = long h.0 n e h.2
none_spells (SignalRelease n None) e bs h = long h.0 n e h.1
none_spells (SignalRelease n (Some v)) e bs h = long h.0 n e h.2
none_spells (Test n) e bs h = long h.0 n e h.1

reads_back : (q : Call) → Fits q → ReadsBack q
reads_back q fits = record { spells = spells_it q fits; back = λ has. spelt_read q (record_of q) (spells_it q fits has); none = none_spells q }

reads_nothing : (q : Call) → has_record q ≡ false → ReadsBack q
reads_nothing q none = record { spells = λ has. absurd (both_ways (has_record q) none has); back = λ has. absurd (both_ways (has_record q) none has); none = none_spells q }

-- The law, by whether a text was made.
pub law : {F : Type 0} (q : Call) (o : Option F) (P : F → Type 0) → MatchOption o (has_record q ≡ false) P → IfSome o (λ _. Fits q) → ReadsBack q
law q None P none fits = reads_nothing q none
law q (Some f) P has fits = reads_back q fits
