-- The tokens of a text.
use Rattle.std.specs.Prelude.{ℕ, ◌+◌, ◌-◌, ◌*◌, Bool, true, false, cond, List, [], ◌∷◌, length, take, drop, Some, None, Ok, Err, Option, Result, ◌==◌, nat_le, nat_lt}
use Rattle.std.specs.List.{prefix_len}
use Rattle.letters.specs.declared.token.Mark.{Mark}
use Rattle.letters.specs.declared.token.Mark.TheVariants as marks
use Rattle.letters.specs.declared.token.What.{What}
use Rattle.letters.specs.declared.token.What.TheVariants as what
use Rattle.letters.specs.declared.token.Token.{Token}
use Rattle.letters.specs.declared.fault.LettersCause.{LettersCause}
use Rattle.letters.specs.declared.fault.LettersCause.TheVariants as cause
use Rattle.letters.specs.declared.fault.LettersFault.{LettersFault}
use Rattle.letters.specs.Bytes.{name_start, name_byte, is_digit, in_string}
use Rattle.letters.specs.Blanks.{begins, blanks}

-- A token, or a fault.
abbrev pub Lexed : Type 0
Lexed = Result Token LettersFault

-- A fault with this cause at this place.
abbrev pub fault : LettersCause → ℕ → LettersFault
fault c place = record { cause = c; place = place }

-- A text of more than 32,768 bytes is not read.
abbrev pub measured : List ℕ → Result (Unit {0}) LettersFault
measured text = cond (nat_lt 32768 (length text)) (Err (fault cause.TooLong 32768)) (Ok tt)

-- A token from place on, of n bytes.
abbrev pub spanning : What → ℕ → ℕ → Token
spanning w place n = record { what = w; place = place; end = place + n }

-- The same, as what is read.
abbrev pub token : What → ℕ → ℕ → Lexed
token w place n = Ok (spanning w place n)

-- No lawful token begins at the place.
abbrev pub unlawful : ℕ → Lexed
unlawful place = Err (fault cause.NoToken place)

-- The mark with this character code: one of { } = and the semicolon.
abbrev pub mark_of : ℕ → Option Mark
mark_of c =
    cond (c == 123) (Some marks.Open)
    (cond (c == 125) (Some marks.Close)
    (cond (c == 61) (Some marks.Equals)
    (cond (c == 59) (Some marks.Semicolon) None)))

-- Both are the same mark.
abbrev pub same_mark : Mark → Mark → Bool
same_mark marks.Open marks.Open = true
same_mark marks.Close marks.Close = true
same_mark marks.Equals marks.Equals = true
same_mark marks.Semicolon marks.Semicolon = true
same_mark a b = false

-- The number that at most nine digits write, after count digits of the value so far, and how many digits there are.
abbrev pub digits : ℕ → ℕ → List ℕ → Option (ℕ × ℕ)
digits count value [] = Some (value, count)
digits count value (b ∷ bs) =
    cond (is_digit b) (cond (count == 9) None (digits (count + 1) (value * 10 + (b - 48)) bs)) (Some (value, count))

-- The number that was found, if it is not too long.
abbrev pub number_at : ℕ → Option (ℕ × ℕ) → Lexed
number_at place None = unlawful place
number_at place (Some found) = token (what.Number found.0) place found.1

-- A name of n bytes.
abbrev pub name_at : ℕ → ℕ → Lexed
name_at place n = cond (nat_le n 32) (token what.Name place n) (unlawful place)

-- A string of n bytes between its quotes, and then the rest, which begins with the closing quote.
abbrev pub string_at : ℕ → ℕ → List ℕ → Lexed
string_at place n rest = cond (nat_le n 32) (cond (begins 34 rest) (token what.Quoted place (n + 2)) (unlawful place)) (unlawful place)

-- The mark that was found, if there is one.
abbrev pub mark_at : ℕ → Option Mark → Lexed
mark_at place None = unlawful place
mark_at place (Some m) = token (what.Mark m) place 1

-- The token at the head of a text that stands at place.
abbrev pub head_token : ℕ → List ℕ → Lexed
head_token place [] = token what.End place 0
head_token place (b ∷ bs) =
    cond (name_start b) (name_at place (1 + prefix_len name_byte bs))
    (cond (is_digit b) (number_at place (digits 1 (b - 48) bs))
    (cond (b == 34) (string_at place (prefix_len in_string bs) (drop (prefix_len in_string bs) bs))
    (mark_at place (mark_of b))))

-- The next token of a text from pos on.
abbrev pub token_at : List ℕ → ℕ → Lexed
token_at text pos = head_token (pos + blanks false (drop pos text)) (drop (blanks false (drop pos text)) (drop pos text))

-- The bytes of a token.
abbrev pub bytes_of : List ℕ → Token → List ℕ
bytes_of text t = take (t.end - t.place) (drop t.place text)

-- It is a name.
abbrev pub is_name : What → Bool
is_name what.Name = true
is_name w = false

-- It is a string.
abbrev pub is_quoted : What → Bool
is_quoted what.Quoted = true
is_quoted w = false

-- It is this mark.
abbrev pub is_mark : Mark → What → Bool
is_mark m (what.Mark c) = same_mark m c
is_mark m w = false

-- It is the end of the text.
abbrev pub is_end : What → Bool
is_end what.End = true
is_end w = false
