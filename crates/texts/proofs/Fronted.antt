-- Laws of a text that grows at its front.
use Rattle.std.proofs.Common.{◌≡◌, ℕ, zero, suc, ◌+◌, ◌-◌, ◌/◌, ◌%◌, ◌^◌, ◌<◌, ◌≤◌, List, [], ◌∷◌, ◌++◌, length, drop, set, decimal, sym, refl, ap, ◌∙◌, append_assoc, arith}
use Rattle.std.specs.Char.{digit_char}
use Rattle.std.proofs.lemmas.List.{drop-set}
use Rattle.std.proofs.lemmas.Fmt.{length-decimal-le}
use Rattle.texts.specs.Fronts.{hex}

pub length_decimal : (n : ℕ) → n < 2 ^ 64 → length (decimal n) ≤ 20
length_decimal n small = length-decimal-le 20 n (omega arith) (omega arith) (omega arith)

-- A byte that is set right before what stands from a place on.
pub set_before : (bs : List ℕ) (start b : ℕ) → 1 ≤ start → start ≤ length bs → drop (start - 1) (set bs (start - 1) b) ≡ b ∷ drop start bs
set_before bs start b some within = drop-set bs (start - 1) b (omega arith) ∙ ap (λ i. b ∷ drop i bs) (let e : start - 1 + 1 ≡ start = omega arith in e)

-- One turn of a loop that puts the digits of a number: f has the digits of what is left.
pub digit_more : (before after text next whole : List ℕ) (x : ℕ) → before ≡ after ++ x ∷ [] → next ≡ x ∷ text → before ++ text ≡ whole → after ++ next ≡ whole
digit_more before after text next whole x step put e =
    ap (λ l. after ++ l) put ∙ sym (append_assoc after (x ∷ []) text) ∙ ap (λ l. l ++ text) (sym step) ∙ e

pub hex_more : (places n : ℕ) → 1 ≤ places → hex places n ≡ hex (places - 1) (n / 16) ++ digit_char (n % 16) ∷ []
unfolding hex
hex_more zero n some = absurd (omega arith)
hex_more (suc k) n some = ap (λ i. hex i (n / 16) ++ digit_char (n % 16) ∷ []) (let e : k ≡ suc k - 1 = omega arith in e)

pub hex_none : (places n : ℕ) → places ≤ 0 → hex places n ≡ []
unfolding hex
hex_none zero n none = refl
hex_none (suc k) n none = absurd (omega arith)
