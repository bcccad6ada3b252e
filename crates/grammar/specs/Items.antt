-- From item to item.
use Rattle.std.specs.Prelude.{ℕ, cond, List, [], ◌∷◌, Some, None, Ok, Err, Option, Result}
use Rattle.letters.specs.declared.token.Mark.TheVariants as marks
use Rattle.letters.specs.declared.token.What.{What}
use Rattle.letters.specs.declared.token.What.TheVariants as what
use Rattle.letters.specs.declared.token.Token.{Token}
use Rattle.letters.specs.Tokens.{measured}
use Rattle.grammar.specs.declared.fault.GrammarFault.{GrammarFault}
use Rattle.grammar.specs.declared.word.Word.TheVariants as word
use Rattle.grammar.specs.declared.slot.Slot.{Slot}
use Rattle.grammar.specs.declared.slot.Slot.TheVariants as slot
use Rattle.grammar.specs.declared.item.Kind.{Kind}
use Rattle.grammar.specs.declared.item.Kind.TheVariants as kind
use Rattle.grammar.specs.declared.item.State.{State}
use Rattle.grammar.specs.declared.item.State.TheVariants as state
use Rattle.grammar.specs.declared.item.Item.{Item}
use Rattle.grammar.specs.declared.item.Item.TheVariants as item
use Rattle.grammar.specs.declared.item.Step.{Step}
use Rattle.grammar.specs.Faults.{and_then, lifted, misplaced}
use Rattle.grammar.specs.Slots.{lexed, admits, expected, followed}

-- The state at the start of a text that is short enough.
abbrev pub begun : List ℕ → Result State GrammarFault
begun text = and_then (lifted (measured text)) (λ _. Ok state.Start)

-- The token itself, where it is a name.
abbrev pub if_name : Token → What → Result Token GrammarFault
if_name t what.Name = Ok t
if_name t w = Err (misplaced t.place)

-- The next token, which has to be a name.
abbrev pub named : List ℕ → ℕ → Result Token GrammarFault
named text pos = and_then (lexed text pos) (λ t. if_name t t.what)

-- The value of the token and the token itself, where it is a number.
abbrev pub if_number : Token → What → Result (ℕ × Token) GrammarFault
if_number t (what.Number n) = Ok (n, t)
if_number t w = Err (misplaced t.place)

-- The next token, which has to be a number.
abbrev pub numeral_at : List ℕ → ℕ → Result (ℕ × Token) GrammarFault
numeral_at text pos = and_then (lexed text pos) (λ t. if_number t t.what)

-- The kind of object that the token is the keyword of.
abbrev pub heading : List ℕ → Token → Option Kind
heading text t =
    cond (admits text (slot.Word word.Resource) t) (Some kind.Resource)
    (cond (admits text (slot.Word word.Event) t) (Some kind.Event)
    (cond (admits text (slot.Word word.Task) t) (Some kind.Task) None))

-- What has to stand after a state, before the next token that is judged.
abbrev pub template : State → List Slot
template state.Start =
    slot.Word word.OilVersion ∷ slot.Mark marks.Equals ∷ slot.Version ∷ slot.Mark marks.Semicolon ∷ slot.Word word.Cpu ∷ slot.AnyName ∷ slot.Mark marks.Open ∷ []
template (state.Declared kind.Resource) =
    slot.Mark marks.Open ∷ slot.Word word.ResourceProperty ∷ slot.Mark marks.Equals ∷ slot.Word word.Standard ∷ slot.Mark marks.Semicolon ∷ slot.Mark marks.Close ∷ slot.Mark marks.Semicolon ∷ []
template (state.Declared kind.Event) =
    slot.Mark marks.Open ∷ slot.Word word.Mask ∷ slot.Mark marks.Equals ∷ slot.Word word.Auto ∷ slot.Mark marks.Semicolon ∷ slot.Mark marks.Close ∷ slot.Mark marks.Semicolon ∷ []
template (state.Declared kind.Task) = slot.Mark marks.Open ∷ slot.Word word.Priority ∷ slot.Mark marks.Equals ∷ []
template state.Prioritized =
    slot.Mark marks.Semicolon ∷ slot.Word word.Schedule ∷ slot.Mark marks.Equals ∷ slot.Word word.Full ∷ slot.Mark marks.Semicolon ∷ slot.Word word.Activation ∷ slot.Mark marks.Equals ∷ []
template state.Activated =
    slot.Mark marks.Semicolon ∷ slot.Word word.Autostart ∷ slot.Mark marks.Equals ∷ slot.Word word.False ∷ slot.Mark marks.Semicolon ∷ []
template state.Referred = slot.Mark marks.Semicolon ∷ []
template state.Closed = slot.Mark marks.Semicolon ∷ []

-- A step to the next item, or a fault.
abbrev pub Stepped : Type 0
Stepped = Result Step GrammarFault

-- A step that succeeds.
abbrev pub step : Item → State → ℕ → Stepped
step i s pos = Ok (record { item = i; state = s; pos = pos })

-- The name after the keyword t of an object.
abbrev pub declared_at : List ℕ → Token → Option Kind → Stepped
declared_at text t None = Err (misplaced t.place)
declared_at text t (Some k) = and_then (named text t.end) (λ n. step (item.Declares k n) (state.Declared k) n.end)

-- The head of an object, or the end of the text.
abbrev pub object_at : List ℕ → ℕ → Stepped
object_at text pos =
    and_then (lexed text pos) (λ t. cond (admits text (slot.Mark marks.Close) t)
    (and_then (followed text (slot.Mark marks.Semicolon ∷ slot.End ∷ []) t.end) (λ p. step item.End state.Closed p))
    (declared_at text t (heading text t)))

-- The reference after the keyword t.
abbrev pub referred_at : List ℕ → Token → Kind → Stepped
referred_at text t k =
    and_then (expected text (slot.Mark marks.Equals) t.end) (λ p. and_then (named text p) (λ n. step (item.Refers k n) state.Referred n.end))

-- A task refers to resources and events alone.
abbrev pub reference_at : List ℕ → Token → Option Kind → Stepped
reference_at text t None = Err (misplaced t.place)
reference_at text t (Some kind.Resource) = referred_at text t kind.Resource
reference_at text t (Some kind.Event) = referred_at text t kind.Event
reference_at text t (Some kind.Task) = Err (misplaced t.place)

-- A reference of a task, or the end of the task.
abbrev pub attribute_at : List ℕ → ℕ → Stepped
attribute_at text pos =
    and_then (lexed text pos) (λ t. cond (admits text (slot.Mark marks.Close) t)
    (step item.Closes state.Closed t.end)
    (reference_at text t (heading text t)))

-- What is judged after the template of a state.
abbrev pub judged_at : List ℕ → State → ℕ → Stepped
judged_at text state.Start pos = object_at text pos
judged_at text (state.Declared kind.Resource) pos = object_at text pos
judged_at text (state.Declared kind.Event) pos = object_at text pos
judged_at text (state.Declared kind.Task) pos =
    and_then (numeral_at text pos) (λ p. step (item.Priority p.0 p.1) state.Prioritized p.1.end)
judged_at text state.Prioritized pos =
    and_then (numeral_at text pos) (λ p. step (item.Activation p.0 p.1) state.Activated p.1.end)
judged_at text state.Activated pos = attribute_at text pos
judged_at text state.Referred pos = attribute_at text pos
judged_at text state.Closed pos = object_at text pos

-- From a state up to the next token that is judged.
abbrev pub item_at : List ℕ → State → ℕ → Stepped
item_at text s pos = and_then (followed text (template s) pos) (λ p. judged_at text s p)
