-- The texts of the grammar, in the words of their objects.
use Rattle.std.specs.Prelude.{◌≡◌, ℕ, true, false, List, [], ◌∷◌, Ok, codes, ◌≢◌}
use Rattle.letters.specs.declared.token.Mark.{Mark}
use Rattle.letters.specs.declared.token.Mark.TheVariants as marks
use Rattle.letters.specs.declared.token.What.{What}
use Rattle.letters.specs.declared.token.What.TheVariants as what
use Rattle.letters.specs.declared.token.Token.{Token}
use Rattle.letters.specs.Tokens.{token_at, bytes_of, is_end}
use Rattle.grammar.specs.declared.item.State.{State}
use Rattle.grammar.specs.declared.item.Item.TheVariants as item
use Rattle.grammar.specs.declared.item.Step.{Step}
use Rattle.grammar.specs.Items.{item_at}

-- A token without its place.
pub data Sign : Type 0 where
  word : List ℕ → Sign
  num : ℕ → Sign
  str : List ℕ → Sign
  mark : Mark → Sign

-- What is left of a token with these bytes.
abbrev pub sign_by : List ℕ → What → Sign
sign_by bytes what.Name = word bytes
sign_by bytes (what.Number n) = num n
sign_by bytes what.Quoted = str bytes
sign_by bytes (what.Mark c) = mark c
sign_by bytes what.End = str []

-- What is left of a token of the text.
abbrev pub sign_of : List ℕ → Token → Sign
sign_of text t = sign_by (bytes_of text t) t.what

-- The text from one place to another is these tokens, with blanks before each.
pub data Scan (text : List ℕ) : ℕ → List Sign → ℕ → Type 0 where
  stop : {pos : ℕ} → Scan text pos [] pos
  reads : {pos : ℕ} {ss : List Sign} {q : ℕ} (t : Token) → token_at text pos ≡ Ok t → is_end t.what ≡ false → Scan text t.end ss q → Scan text pos (sign_of text t ∷ ss) q

-- Nothing but blanks is left.
abbrev pub AtEnd : List ℕ → ℕ → Type 0
AtEnd text pos = (t : Token) × (token_at text pos ≡ Ok t) × (is_end t.what ≡ true)

-- The whole text is these tokens.
abbrev pub Spells : List ℕ → List Sign → Type 0
Spells text ss = (q : ℕ) × Scan text 0 ss q × AtEnd text q

-- A reference of a task: to a resource that it uses, or to an event that it awaits.
pub data Reference : Type 0 where
  uses : List ℕ → Reference
  awaits : List ℕ → Reference

-- An object of a plan: a resource or an event with its name, or a task with its name, its priority, its activations and its references.
pub data Object : Type 0 where
  resource : List ℕ → Object
  event : List ℕ → Object
  task : List ℕ → ℕ → ℕ → List Reference → Object

-- The tokens of a reference, and what follows.
abbrev pub reference : Reference → List Sign → List Sign
reference (uses n) ss = word (codes "RESOURCE") ∷ mark marks.Equals ∷ word n ∷ mark marks.Semicolon ∷ ss
reference (awaits n) ss = word (codes "EVENT") ∷ mark marks.Equals ∷ word n ∷ mark marks.Semicolon ∷ ss

-- The tokens of the references of a task up to its end, and what follows.
abbrev pub references : List Reference → List Sign → List Sign
references [] ss = mark marks.Close ∷ mark marks.Semicolon ∷ ss
references (r ∷ rs) ss = reference r (references rs ss)

-- What follows the name of a resource.
abbrev pub resource_rest : List Sign → List Sign
resource_rest ss = mark marks.Open ∷ word (codes "RESOURCEPROPERTY") ∷ mark marks.Equals ∷ word (codes "STANDARD") ∷ mark marks.Semicolon ∷ mark marks.Close ∷ mark marks.Semicolon ∷ ss

-- What follows the name of an event.
abbrev pub event_rest : List Sign → List Sign
event_rest ss = mark marks.Open ∷ word (codes "MASK") ∷ mark marks.Equals ∷ word (codes "AUTO") ∷ mark marks.Semicolon ∷ mark marks.Close ∷ mark marks.Semicolon ∷ ss

-- What follows the activations of a task.
abbrev pub activation_rest : List Sign → List Sign
activation_rest ss = mark marks.Semicolon ∷ word (codes "AUTOSTART") ∷ mark marks.Equals ∷ word (codes "FALSE") ∷ mark marks.Semicolon ∷ ss

-- What follows the priority of a task with a activations.
abbrev pub priority_rest : ℕ → List Sign → List Sign
priority_rest a ss = mark marks.Semicolon ∷ word (codes "SCHEDULE") ∷ mark marks.Equals ∷ word (codes "FULL") ∷ mark marks.Semicolon ∷ word (codes "ACTIVATION") ∷ mark marks.Equals ∷ num a ∷ activation_rest ss

-- What follows the name of a task with priority p and a activations.
abbrev pub task_rest : ℕ → ℕ → List Sign → List Sign
task_rest p a ss = mark marks.Open ∷ word (codes "PRIORITY") ∷ mark marks.Equals ∷ num p ∷ priority_rest a ss

-- The tokens of the objects up to the end of the text.
abbrev pub objects : List Object → List Sign
objects [] = mark marks.Close ∷ mark marks.Semicolon ∷ []
objects (resource n ∷ os) = word (codes "RESOURCE") ∷ word n ∷ resource_rest (objects os)
objects (event n ∷ os) = word (codes "EVENT") ∷ word n ∷ event_rest (objects os)
objects (task n p a rs ∷ os) = word (codes "TASK") ∷ word n ∷ task_rest p a (references rs (objects os))

-- The tokens of a whole text: the CPU's name and its objects.
abbrev pub unparse : List ℕ → List Object → List Sign
unparse cpu os =
    word (codes "OIL_VERSION") ∷ mark marks.Equals ∷ str (34 ∷ 50 ∷ 46 ∷ 53 ∷ 34 ∷ []) ∷ mark marks.Semicolon ∷ word (codes "CPU") ∷ word cpu ∷ mark marks.Open ∷ objects os

-- The grammar reads on from a state to the end of the text.
pub data Run (text : List ℕ) : State → ℕ → Type 0 where
  ends : {s : State} {pos : ℕ} (st : Step) → item_at text s pos ≡ Ok st → st.item ≡ item.End → Run text s pos
  goes : {s : State} {pos : ℕ} (st : Step) → item_at text s pos ≡ Ok st → (st.item ≢ item.End) → Run text st.state st.pos → Run text s pos
