-- A whole text: its items judged one after another, with the names that were declared so far.
use Rattle.std.specs.Prelude.{◌≡◌, ℕ, zero, suc, ◌<◌, cond, List, [], ◌∷◌, length, Some, None, Ok, Err, Option, Result}
use Rattle.std.specs.Str.{bytes_eq}
use Rattle.letters.specs.Tokens.{bytes_of}
use Rattle.grammar.specs.declared.fault.GrammarFault.{GrammarFault}
use Rattle.grammar.specs.declared.item.Kind.{Kind}
use Rattle.grammar.specs.declared.item.State.{State}
use Rattle.grammar.specs.declared.item.Item.{Item}
use Rattle.grammar.specs.declared.item.Item.TheVariants as item
use Rattle.grammar.specs.declared.item.Step.{Step}
use Rattle.grammar.specs.Faults.{and_then, misplaced}
use Rattle.grammar.specs.Items.{item_at, begun}
use Rattle.oil.specs.declared.table.Known.{Known}
use Rattle.oil.specs.declared.draft.Draft.{Draft}
use Rattle.oil.specs.Faults.{raised_plan}
use Rattle.oil.specs.Draft.{Drafted, empty_draft, next_number}
use Rattle.oil.specs.Judging.{introduced, lift_plan, advanced, resume}

-- A name that is declared, the kind of its object, and the number of that object among those of its kind.
pub record Entry : Type 0 where
  pub name : List ℕ
  pub kind : Kind
  pub number : ℕ

-- What a name stands for among these, newest first.
abbrev pub look_up : List Entry → List ℕ → Option Known
look_up [] = λ n. None
look_up (e ∷ es) = λ n. cond (bytes_eq e.name n) (Some (record { kind = e.kind; number = e.number })) (look_up es n)

-- The names after a declaration: a refused one adds none.
abbrev pub learnt : List Entry → Draft → Kind → List ℕ → Drafted → List Entry
learnt es d k n (Ok after) = record { name = n; kind = k; number = next_number d k } ∷ es
learnt es d k n (Err f) = es

-- The names after an item.
abbrev pub names_after : List ℕ → List Entry → Draft → Item → List Entry
names_after text es d (item.Declares k t) = learnt es d k (bytes_of text t) (introduced (look_up es) d k (bytes_of text t) t.place)
names_after text es d i = es

-- The names after a step.
abbrev pub names_at : List ℕ → List Entry → Draft → Result Step GrammarFault → List Entry
names_at text es d (Ok st) = names_after text es d st.item
names_at text es d (Err f) = es

-- The items of a text, judged from the left, at most n of them. Each has a byte at least, so that a bound above the text's length is never reached; a text with no byte left has ended.
unfoldable pub gathered : ℕ → List ℕ → List Entry → Draft → State → ℕ → Drafted
gathered zero text es d s pos = Err (raised_plan (misplaced (length text)))
gathered (suc n) text es d s pos =
    and_then (advanced text (look_up es) d s pos) (λ p. resume p (λ e. Ok e) (λ e t q. gathered n text (names_at text es d (item_at text s pos)) e t q))

-- Every bound above the text's length gives the same.
abbrev pub BoundFree : List ℕ → Type 0
BoundFree text = (n : ℕ) (es : List Entry) (d : Draft) (s : State) → length text < n → gathered n text es d s 0 ≡ gathered (suc (length text)) text es d s 0

-- A whole text: it is measured, and then read from its start with no name declared.
abbrev pub read_all : List ℕ → Drafted
read_all text = and_then (lift_plan (begun text)) (λ s. gathered (suc (length text)) text [] empty_draft s 0)
