-- What may stand at one place of a text.
use Rattle.std.specs.Prelude.{ℕ, Bool, cond, ◌&&◌, List, [], ◌∷◌, Ok, Err, codes, Result}
use Rattle.std.specs.Str.{bytes_eq}
use Rattle.letters.specs.declared.token.Token.{Token}
use Rattle.letters.specs.Tokens.{token_at, bytes_of, is_name, is_quoted, is_mark, is_end}
use Rattle.grammar.specs.declared.fault.GrammarFault.{GrammarFault}
use Rattle.grammar.specs.declared.word.Word.{Word}
use Rattle.grammar.specs.declared.word.Word.TheVariants as word
use Rattle.grammar.specs.declared.slot.Slot.{Slot}
use Rattle.grammar.specs.declared.slot.Slot.TheVariants as slot
use Rattle.grammar.specs.Faults.{and_then, lifted, misplaced}

-- How a keyword is spelled.
abbrev pub spelt : Word → List ℕ
spelt word.OilVersion = codes "OIL_VERSION"
spelt word.Cpu = codes "CPU"
spelt word.Resource = codes "RESOURCE"
spelt word.Event = codes "EVENT"
spelt word.Task = codes "TASK"
spelt word.ResourceProperty = codes "RESOURCEPROPERTY"
spelt word.Standard = codes "STANDARD"
spelt word.Mask = codes "MASK"
spelt word.Auto = codes "AUTO"
spelt word.Priority = codes "PRIORITY"
spelt word.Schedule = codes "SCHEDULE"
spelt word.Full = codes "FULL"
spelt word.Activation = codes "ACTIVATION"
spelt word.Autostart = codes "AUTOSTART"
spelt word.False = codes "FALSE"

-- The next token, or the fault of the letters.
abbrev pub lexed : List ℕ → ℕ → Result Token GrammarFault
lexed text pos = lifted (token_at text pos)

-- The token may stand at the slot.
abbrev pub admits : List ℕ → Slot → Token → Bool
admits text (slot.Word w) t = is_name t.what && bytes_eq (bytes_of text t) (spelt w)
admits text (slot.Mark m) t = is_mark m t.what
admits text slot.AnyName t = is_name t.what
admits text slot.Version t = is_quoted t.what && bytes_eq (bytes_of text t) (34 ∷ 50 ∷ 46 ∷ 53 ∷ 34 ∷ [])
admits text slot.End t = is_end t.what

-- Where the text goes on after a token that has to stand at the slot.
abbrev pub expected : List ℕ → Slot → ℕ → Result ℕ GrammarFault
expected text s pos =
    and_then (lexed text pos) (λ t. cond (admits text s t) (Ok t.end) (Err (misplaced t.place)))

-- Where the text goes on after tokens that have to stand at the slots, one after another.
abbrev pub followed : List ℕ → List Slot → ℕ → Result ℕ GrammarFault
followed text [] pos = Ok pos
followed text (s ∷ ss) pos = and_then (expected text s pos) (λ p. followed text ss p)
