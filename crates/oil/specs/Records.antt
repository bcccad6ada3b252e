-- What the items of a text do to the table of names, record by record.
use Rattle.std.specs.Prelude.{ℕ, zero, suc, ◌<◌, ◌≤◌, List, [], ◌∷◌, length, Some, None, Ok, Err, Option, Result, slice_set}
use Rattle.letters.specs.Tokens.{bytes_of}
use Rattle.grammar.specs.declared.fault.GrammarFault.{GrammarFault}
use Rattle.grammar.specs.declared.item.Kind.{Kind}
use Rattle.grammar.specs.declared.item.Kind.TheVariants as kind
use Rattle.grammar.specs.declared.item.State.{State}
use Rattle.grammar.specs.declared.item.Item.{Item}
use Rattle.grammar.specs.declared.item.Item.TheVariants as item
use Rattle.grammar.specs.declared.item.Step.{Step}
use Rattle.grammar.specs.Items.{item_at, begun}
use Rattle.oil.specs.declared.table.NameRecord.{NameRecord}
use Rattle.oil.specs.declared.fault.PlanFault.{PlanFault}
use Rattle.oil.specs.declared.draft.Draft.{Draft}
use Rattle.oil.specs.Progress.{Progress}
use Rattle.oil.specs.Table.{key_of, looked}
use Rattle.oil.specs.Draft.{Drafted, empty_draft, next_number, used}
use Rattle.oil.specs.Judging.{introduced, advanced, resume}

-- The record of a new object under a key.
abbrev pub record_under : Draft → Kind → List ℕ → NameRecord
record_under d k key = record { name = key; holds = Some k; number = next_number d k }

-- The record of a new object.
abbrev pub new_record : Draft → Kind → List ℕ → NameRecord
new_record d k name = record { name = key_of name; holds = Some k; number = next_number d k }

-- The table after a declaration: a refused one leaves it.
abbrev pub entered : List NameRecord → Draft → NameRecord → Drafted → List NameRecord
entered names d r (Ok after) = slice_set names (used d) r
entered names d r (Err fault) = names

-- The table after an item.
abbrev pub noted : List ℕ → List NameRecord → Draft → Item → List NameRecord
noted text names d (item.Declares k t) = entered names d (new_record d k (bytes_of text t)) (introduced (looked names) d k (bytes_of text t) t.place)
noted text names d i = names

-- The table after a step.
abbrev pub noted_at : List ℕ → List NameRecord → Draft → Result Step GrammarFault → List NameRecord
noted_at text names d (Ok st) = noted text names d st.item
noted_at text names d (Err f) = names

-- What comes after a step, or what stays where the reading ends.
abbrev pub carried : {A : Type 0} → Result Progress PlanFault → A → (Draft → State → ℕ → A) → A
carried (Ok p) stay more = resume p (λ e. stay) more
carried (Err f) stay more = stay

-- The table where the reading ends, by an accepted text or by a fault; n as for the items of a text.
unfoldable pub left_by : ℕ → List ℕ → List NameRecord → Draft → State → ℕ → List NameRecord
left_by zero text names d s pos = names
left_by (suc n) text names d s pos =
    carried (advanced text (looked names) d s pos) (noted_at text names d (item_at text s pos)) (λ e t q. left_by n text (noted_at text names d (item_at text s pos)) e t q)

-- The table where the reading ends, from the state at its start.
abbrev pub left_from : List ℕ → List NameRecord → Result State GrammarFault → List NameRecord
left_from text names (Ok s) = left_by (suc (length text)) text names empty_draft s 0
left_from text names (Err f) = names

-- The table where the reading of a whole text ends.
abbrev pub left_after : List ℕ → List NameRecord → List NameRecord
left_after text names = left_from text names (begun text)

-- The number of a resource or an event is one that is declared.
abbrev pub NumberOk : Draft → Option Kind → ℕ → Type 0
NumberOk d None n = Unit {0}
NumberOk d (Some kind.Resource) n = n < d.resources
NumberOk d (Some kind.Event) n = n < d.events
NumberOk d (Some kind.Task) n = Unit {0}

-- The number of the record is one that is declared.
abbrev pub RecordOk : Draft → NameRecord → Type 0
RecordOk d r = NumberOk d r.holds r.number

-- The number of each record is.
abbrev pub AllOk : Draft → List NameRecord → Type 0
AllOk d [] = Unit {0}
AllOk d (r ∷ rs) = RecordOk d r × AllOk d rs

-- The name of an item has at most 32 bytes.
abbrev pub ItemIn : List ℕ → Item → Type 0
ItemIn text (item.Declares k t) = length (bytes_of text t) ≤ 32
ItemIn text (item.Refers k t) = length (bytes_of text t) ≤ 32
ItemIn text i = Unit {0}

-- The table is as the next item needs it.
pub record Ready (d : Draft) (names : List NameRecord) : Type 0 where
  pub room : 128 ≤ length names
  pub sound : AllOk d names
