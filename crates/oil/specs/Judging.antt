-- What the items of a text mean, one by one. What a name stands for is asked of a function, so that it does not matter how names are kept.
use Rattle.std.specs.Prelude.{ℕ, List, length, Some, None, Ok, Err, Option, Result}
use Rattle.letters.specs.Tokens.{bytes_of}
use Rattle.grammar.specs.declared.fault.GrammarFault.{GrammarFault}
use Rattle.grammar.specs.declared.item.Kind.{Kind}
use Rattle.grammar.specs.declared.item.Kind.TheVariants as kind
use Rattle.grammar.specs.declared.item.State.{State}
use Rattle.grammar.specs.declared.item.Item.{Item}
use Rattle.grammar.specs.declared.item.Item.TheVariants as item
use Rattle.grammar.specs.declared.item.Step.{Step}
use Rattle.grammar.specs.Faults.{and_then}
use Rattle.grammar.specs.Items.{item_at}
use Rattle.oil.specs.declared.table.Known.{Known}
use Rattle.oil.specs.declared.fault.PlanCause.TheVariants as cause
use Rattle.oil.specs.declared.fault.PlanFault.{PlanFault}
use Rattle.oil.specs.declared.draft.Draft.{Draft}
use Rattle.oil.specs.Progress.{Progress, Done, More}
use Rattle.oil.specs.Faults.{raised_plan, refusal}
use Rattle.oil.specs.Draft.{Drafted, added, prioritized, activated, with_users, with_registered, grown, finished}

-- A name that is known may not be declared again.
abbrev pub unless_known : Option Known → ℕ → Drafted → Drafted
unless_known None place after = after
unless_known (Some x) place after = Err (refusal cause.NameTaken place)

-- A declaration: the name is new, and there is room for one object more.
abbrev pub introduced : (List ℕ → Option Known) → Draft → Kind → List ℕ → ℕ → Drafted
introduced look d k name place = unless_known (look name) place (grown d k place)

-- A reference to an object of the kind asked, where the name stands for one of the kind found.
abbrev pub referred_to : Draft → Kind → Kind → ℕ → ℕ → Drafted
referred_to d kind.Resource kind.Resource n place = Ok (with_users d (added d.users n d.current))
referred_to d kind.Event kind.Event n place = Ok (with_registered d (added d.registered n d.current))
referred_to d k found n place = Err (refusal cause.NotKnown place)

-- A reference by what its name stands for.
abbrev pub referred_by : Draft → Kind → Option Known → ℕ → Drafted
referred_by d k None place = Err (refusal cause.NotKnown place)
referred_by d k (Some x) place = referred_to d k x.kind x.number place

-- A reference by its name.
abbrev pub referred : (List ℕ → Option Known) → Draft → Kind → List ℕ → ℕ → Drafted
referred look d k name place = referred_by d k (look name) place

-- The draft after an item, or why the item is refused.
abbrev pub judged : List ℕ → (List ℕ → Option Known) → Draft → Item → Drafted
judged text look d (item.Declares k t) = introduced look d k (bytes_of text t) t.place
judged text look d (item.Priority n t) = prioritized d n t.place
judged text look d (item.Activation n t) = activated d n t.place
judged text look d (item.Refers k t) = referred look d k (bytes_of text t) t.place
judged text look d item.Closes = Ok d
judged text look d item.End = finished d (length text)

-- What a layer below gives, with its fault raised.
abbrev pub lift_plan : {A : Type 0} → Result A GrammarFault → Result A PlanFault
lift_plan (Ok x) = Ok x
lift_plan (Err f) = Err (raised_plan f)

-- A text that is read to its end, or how to go on.
abbrev pub proceed : Item → Draft → Step → Progress
proceed item.End d s = Done d
proceed i d s = More d s.state s.pos

-- One item read and judged.
abbrev pub advanced : List ℕ → (List ℕ → Option Known) → Draft → State → ℕ → Result Progress PlanFault
advanced text look d s pos =
    and_then (lift_plan (item_at text s pos)) (λ st. and_then (judged text look d st.item) (λ e. Ok (proceed st.item e st)))

-- What comes after a step.
abbrev pub resume : {A : Type 0} → Progress → (Draft → A) → (Draft → State → ℕ → A) → A
resume (Done d) done more = done d
resume (More d s p) done more = more d s p
