-- The table of names, and what an item leaves ready for the next.
use Rattle.std.proofs.Common.{◌≡◌, ℕ, zero, suc, ◌+◌, ◌<◌, ◌≤◌, eqb, ltb, List, [], ◌∷◌, length, set, replicate, IfSome, IfOk, Some, None, Ok, Err, Option, sym, subst, le_refl, arith, length-set}
use Rattle.std.proofs.lemmas.Bool.{cond_both}
use Rattle.std.specs.Str.{bytes_eq}
use Rattle.vectors.specs.Vectors.{in_vector}
use Rattle.letters.specs.Tokens.{bytes_of}
use Rattle.grammar.specs.declared.item.Kind.{Kind}
use Rattle.grammar.specs.declared.item.Kind.TheVariants as kind
use Rattle.grammar.specs.declared.item.Item.{Item}
use Rattle.grammar.specs.declared.item.Item.TheVariants as item
use Rattle.grammar.specs.declared.item.Step.{Step}
use Rattle.grammar.proofs.Sits.{ItemSits}
use Rattle.oil.specs.declared.table.NameRecord.{NameRecord}
use Rattle.oil.specs.declared.table.Known.{Known}
use Rattle.oil.specs.declared.draft.Draft.{Draft}
use Rattle.oil.specs.declared.fault.PlanCause.TheVariants as cause
use Rattle.oil.specs.Faults.{refusal}
use Rattle.oil.specs.Table.{key_of, find, blank, meant, known_by, looked}
use Rattle.oil.specs.Draft.{Drafted, next_number, used, grown, with_resources, with_events, with_tasks, with_users, with_registered, prioritized, added}
use Rattle.oil.specs.Judging.{unless_known, referred_to, referred_by, judged, proceed}
use Rattle.oil.specs.Records.{AllOk, RecordOk, NumberOk, Ready, entered, noted, ItemIn}
use Rattle.oil.specs.Progress.{Progress, Done, More}

-- the number of a known resource or event is one that is declared
abbrev KindOk : Draft → Kind → ℕ → Type 0
KindOk d kind.Resource n = n < d.resources
KindOk d kind.Event n = n < d.events
KindOk d kind.Task n = Unit {0}

abbrev KnownOk : Draft → Option Known → Type 0
KnownOk d o = IfSome o (λ x. KindOk d x.kind x.number)

meant_ok : (d : Draft) (h : Option Kind) (n : ℕ) → NumberOk d h n → KnownOk d (meant h n)
meant_ok d None n g = tt
meant_ok d (Some kind.Resource) n g = g
meant_ok d (Some kind.Event) n g = g
meant_ok d (Some kind.Task) n g = tt

find_ok : (d : Draft) (names : List NameRecord) (key : List ℕ) → AllOk d names → KnownOk d (known_by (find names key))
find_ok d [] key h = tt
find_ok d (r ∷ rs) key h =
    cond_both (bytes_eq r.name key) (Some r) (find rs key) (λ o. KnownOk d (known_by o)) (λ _. meant_ok d r.holds r.number h.0) (λ _. find_ok d rs key h.1)

-- what is found has a number that is declared
found_ok : (d : Draft) (names : List NameRecord) (key : List ℕ) (x : Known) → AllOk d names → Some x ≡ known_by (find names key) → KindOk d x.kind x.number
found_ok d names key x h e = subst (KnownOk d) (sym e) (find_ok d names key h)

pub resource_low : (d : Draft) (names : List NameRecord) (key : List ℕ) (x : Known) → AllOk d names → Some x ≡ known_by (find names key) → x.kind ≡ kind.Resource → x.number < d.resources
resource_low d names key x h e is = subst (λ k. KindOk d k x.number) is (found_ok d names key x h e)

pub event_low : (d : Draft) (names : List NameRecord) (key : List ℕ) (x : Known) → AllOk d names → Some x ≡ known_by (find names key) → x.kind ≡ kind.Event → x.number < d.events
event_low d names key x h e is = subst (λ k. KindOk d k x.number) is (found_ok d names key x h e)

number_more : (d e : Draft) (k : Option Kind) (n : ℕ) → d.resources ≤ e.resources → d.events ≤ e.events → NumberOk d k n → NumberOk e k n
number_more d e None n r v g = tt
number_more d e (Some kind.Resource) n r v g = omega arith
number_more d e (Some kind.Event) n r v g = omega arith
number_more d e (Some kind.Task) n r v g = tt

pub allok_more : (d e : Draft) (names : List NameRecord) → d.resources ≤ e.resources → d.events ≤ e.events → AllOk d names → AllOk e names
allok_more d e [] r v h = tt
allok_more d e (x ∷ xs) r v h = (number_more d e x.holds x.number r v h.0, allok_more d e xs r v h.1)

pub allok_set : (d : Draft) (names : List NameRecord) (i : ℕ) (x : NameRecord) → AllOk d names → RecordOk d x → AllOk d (set names i x)
allok_set d [] i x h g = tt
allok_set d (y ∷ ys) zero x h g = (g, h.1)
allok_set d (y ∷ ys) (suc i) x h g = (h.0, allok_set d ys i x h.1 g)

pub allok_blank : (d : Draft) (n : ℕ) → AllOk d (replicate n blank)
allok_blank d zero = tt
allok_blank d (suc n) = (tt, allok_blank d n)

-- a draft with other vectors or tasks is as ready
like : (d e : Draft) (names : List NameRecord) → d.resources ≤ e.resources → d.events ≤ e.events → Ready d names → Ready e names
like d e names r v h = record { room = h.room; sound = allok_more d e names r v h.sound }

-- .. and so is one with one object more, once its record is entered
more : (d e : Draft) (names : List NameRecord) (x : NameRecord) → d.resources ≤ e.resources → d.events ≤ e.events → RecordOk e x → Ready d names → Ready e (set names (used d) x)
more d e names x r v g h = record { room = simp length-set h.room; sound = allok_set e names (used d) x (allok_more d e names r v h.sound) g }

abbrev Entered : Draft → List NameRecord → NameRecord → Drafted → Type 0
Entered d names x r = IfOk r (λ e. Ready e (entered names d x r))

grown_ready : (d : Draft) (names : List NameRecord) (k : Kind) (name : List ℕ) (place : ℕ) → Ready d names → Entered d names (record { name = name; holds = Some k; number = next_number d k }) (grown d k place)
grown_ready d names kind.Resource name place h =
    cond_both (eqb d.resources 32) (Err (refusal cause.TooMany place)) (Ok (with_resources d (d.resources + 1)))
    (Entered d names (record { name = name; holds = Some kind.Resource; number = d.resources })) (λ _. tt)
    (λ _. more d (with_resources d (d.resources + 1)) names _ (omega arith) (le_refl _) (omega arith) h)
grown_ready d names kind.Event name place h =
    cond_both (eqb d.events 32) (Err (refusal cause.TooMany place)) (Ok (with_events d (d.events + 1)))
    (Entered d names (record { name = name; holds = Some kind.Event; number = d.events })) (λ _. tt)
    (λ _. more d (with_events d (d.events + 1)) names _ (le_refl _) (omega arith) (omega arith) h)
grown_ready d names kind.Task name place h =
    cond_both (eqb d.tasks 64) (Err (refusal cause.TooMany place)) (Ok (with_tasks d (d.tasks + 1)))
    (Entered d names (record { name = name; holds = Some kind.Task; number = 0 })) (λ _. tt)
    (λ _. more d (with_tasks d (d.tasks + 1)) names _ (le_refl _) (le_refl _) tt h)

declared_ready : (d : Draft) (names : List NameRecord) (k : Kind) (name : List ℕ) (place : ℕ) (found : Option Known) → Ready d names → Entered d names (record { name = name; holds = Some k; number = next_number d k }) (unless_known found place (grown d k place))
declared_ready d names k name place None h = grown_ready d names k name place h
declared_ready d names k name place (Some r) h = tt

abbrev Same : List NameRecord → Drafted → Type 0
Same names r = IfOk r (λ e. Ready e names)

prioritized_ready : (d : Draft) (names : List NameRecord) (value place : ℕ) → Ready d names → Same names (prioritized d value place)
prioritized_ready d names value place h =
    cond_both (ltb 63 value) _ _ (Same names) (λ _. tt)
    (λ _. cond_both (in_vector d.declared value) _ _ (Same names) (λ _. tt) (λ _. like d _ names (le_refl _) (le_refl _) h))

to_ready : (d : Draft) (names : List NameRecord) (k : Kind) (x : Kind) (n place : ℕ) → Ready d names → Same names (referred_to d k x n place)
to_ready d names kind.Resource kind.Resource n place h = like d (with_users d (added d.users n d.current)) names (le_refl _) (le_refl _) h
to_ready d names kind.Resource kind.Event n place h = tt
to_ready d names kind.Resource kind.Task n place h = tt
to_ready d names kind.Event kind.Resource n place h = tt
to_ready d names kind.Event kind.Event n place h = like d (with_registered d (added d.registered n d.current)) names (le_refl _) (le_refl _) h
to_ready d names kind.Event kind.Task n place h = tt
to_ready d names kind.Task x n place h = tt

by_ready : (d : Draft) (names : List NameRecord) (k : Kind) (found : Option Known) (place : ℕ) → Ready d names → Same names (referred_by d k found place)
by_ready d names k None place h = tt
by_ready d names k (Some x) place h = to_ready d names k x.kind x.number place h

-- an item that is not refused leaves a table that is ready
pub judged_ready : (text : List ℕ) (names : List NameRecord) (d : Draft) (i : Item) → Ready d names → Same (noted text names d i) (judged text (looked names) d i)
judged_ready text names d (item.Declares k t) h = declared_ready d names k (key_of (bytes_of text t)) t.place (looked names (bytes_of text t)) h
judged_ready text names d (item.Priority n t) h = prioritized_ready d names n t.place h
judged_ready text names d (item.Activation n t) h = cond_both (eqb n 1) _ _ (Same names) (λ _. h) (λ _. tt)
judged_ready text names d (item.Refers k t) h = by_ready d names k (looked names (bytes_of text t)) t.place h
judged_ready text names d item.Closes h = h
judged_ready text names d item.End h = cond_both (eqb d.declared 0) _ _ (Same names) (λ _. tt) (λ _. h)

-- the reading goes on further right, with the table ready
abbrev pub GoesOn : ℕ → ℕ → List NameRecord → Progress → Type 0
GoesOn pos high names (Done d) = Ready d names
GoesOn pos high names (More d s p) = (pos < p) × (p ≤ high) × Ready d names

pub goes_on : (text : List ℕ) (i : Item) (s : Step) (d : Draft) (names : List NameRecord) (pos : ℕ) → ItemSits text i pos s.pos → Ready d names → GoesOn pos (length text) names (proceed i d s)
goes_on text (item.Declares k t) s d names pos o h = let a = o.0.3 in let b = o.0.4 in let c = o.1 in (omega arith, omega arith, h)
goes_on text (item.Priority n t) s d names pos o h = let a = o.0.3 in let b = o.0.4 in let c = o.1 in (omega arith, omega arith, h)
goes_on text (item.Activation n t) s d names pos o h = let a = o.0.3 in let b = o.0.4 in let c = o.1 in (omega arith, omega arith, h)
goes_on text (item.Refers k t) s d names pos o h = let a = o.0.3 in let b = o.0.4 in let c = o.1 in (omega arith, omega arith, h)
goes_on text item.Closes s d names pos o h = (o.0, o.1, h)
goes_on text item.End s d names pos o h = h

pub item_in : (text : List ℕ) (i : Item) (pos end : ℕ) → ItemSits text i pos end → ItemIn text i
item_in text (item.Declares k t) pos end o = o.2.short
item_in text (item.Priority n t) pos end o = tt
item_in text (item.Activation n t) pos end o = tt
item_in text (item.Refers k t) pos end o = o.2.short
item_in text item.Closes pos end o = tt
item_in text item.End pos end o = tt

-- what `judge` leaves is ready
pub judged_ok : (text : List ℕ) (names : List NameRecord) (d e : Draft) (i : Item) → Ready d names → Ok e ≡ judged text (looked names) d i → Ready e (noted text names d i)
judged_ok text names d e i h is = subst (Same (noted text names d i)) (sym is) (judged_ready text names d i h)
