-- A text of some objects, judged object by object.
use Rattle.std.proofs.Common.{◌≡◌, ℕ, zero, suc, ◌+◌, ◌-◌, ◌^◌, ◌<◌, true, false, eqb, ltb, List, [], ◌∷◌, ◌++◌, length, Some, None, Ok, Err, Option, Result, sym, refl, ap, ◌∙◌, subst, append-nil, arith, length-append, MatchResult}
use lib.Bits.{bit_or}
use Rattle.std.proofs.lemmas.Bool.{cond_both, eqb-true, eqb-false, ltb-true, ltb-false}
use Rattle.vectors.specs.Vectors.{in_vector}
use Rattle.grammar.specs.declared.fault.GrammarFault.{GrammarFault}
use Rattle.grammar.specs.declared.item.Kind.{Kind}
use Rattle.grammar.specs.declared.item.Kind.TheVariants as kind
use Rattle.grammar.specs.declared.item.State.{State}
use Rattle.grammar.specs.declared.item.Step.{Step}
use Rattle.grammar.specs.Faults.{and_then}
use Rattle.grammar.specs.Items.{item_at}
use Rattle.grammar.specs.Language.{Object, resource, event, task}
use Rattle.oil.specs.declared.table.Known.{Known}
use Rattle.oil.specs.declared.draft.Draft.{Draft}
use Rattle.oil.specs.Faults.{raised_plan}
use Rattle.oil.specs.Draft.{Drafted, added, prioritized, activated, with_resources, with_events, with_tasks, with_users, with_registered, grown, next_number}
use Rattle.oil.specs.Judging.{lift_plan, unless_known, referred_to, referred_by, judged, proceed, resume}
use Rattle.oil.specs.Reading.{Entry, look_up, learnt, names_after, names_at, gathered}
use Rattle.std.proofs.lemmas.Grind.{flat_map-append}
use Rattle.std.proofs.lemmas.List.{map-append}
use Rattle.std.proofs.lemmas.List.Elements.{filter_map-append}
use Rattle.oil.specs.Meaning.{At, In, name_of, resource_name, event_name, priority, activation, names_of, resources_of, events_of, priorities_of, activations_of, AllEarlier, uses_of, awaits_of, users_of, registered_of}
use Rattle.oil.proofs.Vectors.{at_new, newest, vector_more}
use Rattle.oil.proofs.Stands.{Ext, ext_same, ext_more, StandsFor, Looked, Book, enter, vecs_declare, vecs_like, Drawn, drawn_with, drawn_rows}

-- the lists of several objects
pub names_app : (xs bs : List Object) → names_of (xs ++ bs) ≡ names_of xs ++ names_of bs
names_app = map-append name_of

pub resources_app : (xs bs : List Object) → resources_of (xs ++ bs) ≡ resources_of xs ++ resources_of bs
resources_app = filter_map-append resource_name

pub events_app : (xs bs : List Object) → events_of (xs ++ bs) ≡ events_of xs ++ events_of bs
events_app = filter_map-append event_name

pub priorities_app : (xs bs : List Object) → priorities_of (xs ++ bs) ≡ priorities_of xs ++ priorities_of bs
priorities_app = filter_map-append priority

pub activations_app : (xs bs : List Object) → activations_of (xs ++ bs) ≡ activations_of xs ++ activations_of bs
activations_app = filter_map-append activation

pub users_app : (n : List ℕ) (xs bs : List Object) → users_of n (xs ++ bs) ≡ users_of n xs ++ users_of n bs
users_app n = flat_map-append (uses_of n)

pub registered_app : (n : List ℕ) (xs bs : List Object) → registered_of n (xs ++ bs) ≡ registered_of n xs ++ registered_of n bs
registered_app n = flat_map-append (awaits_of n)

-- what an object needs after others
abbrev pub Allowed : List Object → Object → Type 0
Allowed before (resource n) = (In (names_of before) n → ⊥) × (length (resources_of before) < 32)
Allowed before (event n) = (In (names_of before) n → ⊥) × (length (events_of before) < 32)
Allowed before (task n p a rs) =
    (In (names_of before) n → ⊥) × (length (priorities_of before) < 64) × (p < 64) × (In (priorities_of before) p → ⊥) × (a ≡ 1) × AllEarlier before rs

abbrev pub AllowedFrom : List Object → List Object → Type 0
AllowedFrom before [] = 0 < length (priorities_of before)
AllowedFrom before (o ∷ os) = Allowed before o × AllowedFrom (before ++ (o ∷ [])) os

abbrev pub joined : List Object → List Object → List Object
joined before [] = before
joined before (o ∷ os) = joined (before ++ (o ∷ [])) os

-- the draft and the names are those of the objects
pub record Tree (os : List Object) (d : Draft) (es : List Entry) : Type 0 where
  pub book : Book (names_of os) (resources_of os) (events_of os) es
  pub drawn : Drawn (priorities_of os) (resources_of os) (events_of os) (λ n. users_of n os) (λ n. registered_of n os) (length (priorities_of os)) d

pub book_like : {ns rn en ns' rn' en' : List (List ℕ)} {es : List Entry} → ns ≡ ns' → rn ≡ rn' → en ≡ en' → Book ns rn en es → Book ns' rn' en' es
book_like {ns} {rn} {en} {ns'} {rn'} {en'} {es} a b e t =
    subst (λ x. Book ns' rn' x es) e (subst (λ x. Book ns' x en es) b (subst (λ x. Book x rn en es) a t))

pub drawn_like : {ps ps' : List ℕ} {rn en rn' en' : List (List ℕ)} {us us' ls ls' : List ℕ → List ℕ} {c c' : ℕ} {d : Draft} → ps ≡ ps' → rn ≡ rn' → en ≡ en' → ((m : List ℕ) → us' m ≡ us m) → ((m : List ℕ) → ls' m ≡ ls m) → c ≡ c' → Drawn ps rn en us ls c d → Drawn ps' rn' en' us' ls' c' d
drawn_like {ps} {ps'} {rn} {en} {rn'} {en'} {us} {us'} {ls} {ls'} {c} {c'} {d} a b e f g h x =
    let y : Drawn ps rn en us' ls' c d = drawn_rows x (vecs_like rn us us' d.users f x.users) (vecs_like en ls ls' d.registered g x.registered) in
    subst (λ k. Drawn ps' rn' en' us' ls' k d) h (subst (λ l. Drawn ps' rn' l us' ls' c d) e (subst (λ l. Drawn ps' l en us' ls' c d) b (subst (λ l. Drawn l rn en us' ls' c d) a y)))

pub stands_in : (ns rn en : List (List ℕ)) (n : List ℕ) (k : Kind) (i : ℕ) → StandsFor ns rn en n k i → In ns n
stands_in ns rn en n kind.Resource i e = e.0
stands_in ns rn en n kind.Event i e = e.0
stands_in ns rn en n kind.Task i e = e.0

-- one object more
module _ {os : List Object} {d : Draft} {es : List Entry} (t : Tree os d es) (n : List ℕ) (none : look_up es n ≡ None) where
  pub fresh : (In (names_of os) n → ⊥) × (In (resources_of os) n → ⊥) × (In (events_of os) n → ⊥)
  fresh = subst (Looked (names_of os) (resources_of os) (events_of os) n) none (t.book.looked n)

  -- .. that is a resource or an event: it has a name, and no task
  tree_named : (o : Object) (k : Kind) (i : ℕ) (rn en : List (List ℕ)) (e : Draft) → names_of (o ∷ []) ≡ n ∷ [] → priorities_of (o ∷ []) ≡ [] → ((m : List ℕ) → users_of m (o ∷ []) ≡ []) → ((m : List ℕ) → registered_of m (o ∷ []) ≡ [])
      → resources_of (os ++ (o ∷ [])) ≡ rn → events_of (os ++ (o ∷ [])) ≡ en → Ext n (resources_of os) rn → Ext n (events_of os) en → StandsFor (names_of os ++ (n ∷ [])) rn en n k i
      → Drawn (priorities_of os) rn en (λ m. users_of m os) (λ m. registered_of m os) (length (priorities_of os)) e → Tree (os ++ (o ∷ [])) e (record { name = n; kind = k; number = i } ∷ es)
  tree_named o k i rn en e name no_priority no_users no_registered er ee xr xe stands dr =
      let ep = priorities_app os (o ∷ []) ∙ ap (λ l. priorities_of os ++ l) no_priority ∙ append-nil (priorities_of os) in
      record {
        book = book_like (ap (λ l. names_of os ++ l) (sym name) ∙ sym (names_app os (o ∷ []))) (sym er) (sym ee) (enter k i (ext_more n (names_of os)) xr xe t.book stands);
        drawn = drawn_like {us = λ m. users_of m os} {ls = λ m. registered_of m os} (sym ep) (sym er) (sym ee)
            (λ m. users_app m os (o ∷ []) ∙ ap (λ l. users_of m os ++ l) (no_users m) ∙ append-nil (users_of m os))
            (λ m. registered_app m os (o ∷ []) ∙ ap (λ l. registered_of m os ++ l) (no_registered m) ∙ append-nil (registered_of m os))
            (ap length (sym ep)) dr;
      }

  pub tree_resource : (d.resources ≡ 32 → ⊥) → Tree (os ++ (resource n ∷ [])) (with_resources d (d.resources + 1)) (record { name = n; kind = kind.Resource; number = d.resources } ∷ es)
  tree_resource low =
      let x = t.drawn in
      let o = resource n ∷ [] in
      let rn = resources_of os in
      let number = x.same_resources in
      let a = x.few_resources in
      let sized = length-append rn (n ∷ []) in
      let last = newest rn n d.resources number fresh.1 in
      tree_named (resource n) kind.Resource d.resources (rn ++ (n ∷ [])) (events_of os) (with_resources d (d.resources + 1)) refl refl (λ m. refl) (λ m. refl)
      (resources_app os o) (events_app os o ∙ append-nil (events_of os)) (ext_more n rn) (ext_same n (events_of os)) ((length (names_of os), at_new (names_of os) n), last.0, last.1, fresh.2)
      (drawn_with x (omega arith) x.same_events (omega arith) x.few_events (vecs_declare rn (λ m. users_of m os) d.users n fresh.1 x.users) x.registered)

  pub tree_event : (d.events ≡ 32 → ⊥) → Tree (os ++ (event n ∷ [])) (with_events d (d.events + 1)) (record { name = n; kind = kind.Event; number = d.events } ∷ es)
  tree_event low =
      let x = t.drawn in
      let o = event n ∷ [] in
      let en = events_of os in
      let number = x.same_events in
      let a = x.few_events in
      let sized = length-append en (n ∷ []) in
      let last = newest en n d.events number fresh.2 in
      tree_named (event n) kind.Event d.events (resources_of os) (en ++ (n ∷ [])) (with_events d (d.events + 1)) refl refl (λ m. refl) (λ m. refl)
      (resources_app os o ∙ append-nil (resources_of os)) (events_app os o) (ext_same n (resources_of os)) (ext_more n en) ((length (names_of os), at_new (names_of os) n), last.0, last.1, fresh.1)
      (drawn_with x x.same_resources (omega arith) x.few_resources (omega arith) x.users (vecs_declare en (λ m. registered_of m os) d.registered n fresh.2 x.registered))

  -- the name of a task, before its priority
  pub task_book : Book (names_of os ++ (n ∷ [])) (resources_of os) (events_of os) (record { name = n; kind = kind.Task; number = 0 } ∷ es)
  task_book =
      enter kind.Task 0 (ext_more n (names_of os)) (ext_same n (resources_of os)) (ext_same n (events_of os)) t.book
      ((length (names_of os), at_new (names_of os) n), fresh.1, fresh.2)

abbrev pub with_task : Draft → ℕ → Draft
with_task d v = record {
  declared = bit_or d.declared (2 ^ v);
  tasks = d.tasks;
  resources = d.resources;
  events = d.events;
  users = d.users;
  registered = d.registered;
  current = 2 ^ v;
}

-- a task and its priority, before its references
pub task_drawn : {os : List Object} {d : Draft} {es : List Entry} (v : ℕ) → v < 64 → Tree os d es → (d.tasks ≡ 64 → ⊥) → Drawn (priorities_of os ++ (v ∷ [])) (resources_of os) (events_of os) (λ m. users_of m os) (λ m. registered_of m os) (length (priorities_of os) + 1) (with_task (with_tasks d (d.tasks + 1)) v)
task_drawn {os} {d} v fits t low =
    let x = t.drawn in
    let e = x.same_count in
    let c = x.few_tasks in
    record {
      found = vector_more d.declared (priorities_of os) v fits x.found;
      same_count = omega arith;
      same_resources = x.same_resources;
      same_events = x.same_events;
      few_tasks = omega arith;
      few_resources = x.few_resources;
      few_events = x.few_events;
      users = x.users;
      registered = x.registered;
    }

-- what is judged, and then the rest
pub cases_map : {B E : Type 0} (P Q : B → Type 0) (N M : Type 0) (r : Result B E) → ((x : B) → P x → Q x) → (N → M) → MatchResult r P (λ _. N) → MatchResult r Q (λ _. M)
cases_map P Q N M (Ok x) f g h = f x h
cases_map P Q N M (Err e) f g h = g h

then_assoc : {A B C E : Type 0} (r : Result A E) (g : A → B) (h : B → Result C E) → and_then (and_then r (λ e. Ok (g e))) h ≡ and_then r (λ e. h (g e))
then_assoc (Ok x) g h = refl
then_assoc (Err e) g h = refl

abbrev pub onward : ℕ → List ℕ → List Entry → Draft → Step → Drafted
onward m text es d st =
    and_then (judged text (look_up es) d st.item) (λ e. resume (proceed st.item e st) (λ b. Ok b) (λ b t q. gathered m text (names_after text es d st.item) b t q))

pub gathered_item : (m : ℕ) (text : List ℕ) (es : List Entry) (d : Draft) (s : State) (pos : ℕ) (st : Step) → item_at text s pos ≡ Ok st → 0 < m → gathered m text es d s pos ≡ onward (m - 1) text es d st
unfolding gathered
gathered_item zero text es d s pos st h l = absurd (omega arith)
gathered_item (suc m) text es d s pos st h l =
    let e : m ≡ suc m - 1 = omega arith in
    ap (λ (r : Result Step GrammarFault). and_then (and_then (lift_plan r) (λ u. and_then (judged text (look_up es) d u.item) (λ b. Ok (proceed u.item b u)))) (λ p. resume p (λ b. Ok b) (λ b t q. gathered m text (names_at text es d r) b t q))) h
    ∙ then_assoc (judged text (look_up es) d st.item) (λ b. proceed st.item b st) (λ p. resume p (λ b. Ok b) (λ b t q. gathered m text (names_after text es d st.item) b t q))
    ∙ ap (λ k. onward k text es d st) e

pub gathered_fault : (m : ℕ) (text : List ℕ) (es : List Entry) (d : Draft) (s : State) (pos : ℕ) (g : GrammarFault) → item_at text s pos ≡ Err g → 0 < m → gathered m text es d s pos ≡ Err (raised_plan g)
unfolding gathered
gathered_fault zero text es d s pos g h l = absurd (omega arith)
gathered_fault (suc m) text es d s pos g h l =
    ap (λ (r : Result Step GrammarFault). and_then (and_then (lift_plan r) (λ u. and_then (judged text (look_up es) d u.item) (λ b. Ok (proceed u.item b u)))) (λ p. resume p (λ b. Ok b) (λ b t q. gathered m text (names_at text es d r) b t q))) h

abbrev pub Limit : Draft → Kind → Type 0
Limit d kind.Resource = d.resources ≡ 32
Limit d kind.Event = d.events ≡ 32
Limit d kind.Task = d.tasks ≡ 64

abbrev pub later : Draft → Kind → Draft
later d kind.Resource = with_resources d (d.resources + 1)
later d kind.Event = with_events d (d.events + 1)
later d kind.Task = with_tasks d (d.tasks + 1)

-- the objects of a kind that may be referred to
abbrev pub among : Kind → List (List ℕ) → List (List ℕ) → List (List ℕ)
among kind.Resource rn en = rn
among kind.Event rn en = en
among kind.Task rn en = []

-- the draft with the task at hand added to what belongs to such an object
abbrev pub adding : Draft → Kind → ℕ → Draft
adding d kind.Resource i = with_users d (added d.users i d.current)
adding d kind.Event i = with_registered d (added d.registered i d.current)
adding d kind.Task i = d

module _ (P : Draft → Type 0) (N : Type 0) where
  pub declares_says : (es : List Entry) (d : Draft) (n : List ℕ) (place : ℕ) (k : Kind) (found : Option Known) (cont : Draft → List Entry → Drafted) → ((x : Known) → found ≡ Some x → N) → (Limit d k → N) → (found ≡ None → (Limit d k → ⊥) → MatchResult (cont (later d k) (record { name = n; kind = k; number = next_number d k } ∷ es)) P (λ _. N)) → MatchResult (and_then (unless_known found place (grown d k place)) (λ e. cont e (learnt es d k n (unless_known found place (grown d k place))))) P (λ _. N)
  declares_says es d n place k (Some x) cont known full more = known x refl
  declares_says es d n place kind.Resource None cont known full more =
      cond_both (eqb d.resources 32) _ _ (λ (x : Drafted). MatchResult (and_then x (λ e. cont e (learnt es d kind.Resource n x))) P (λ _. N)) (λ y. full (eqb-true d.resources 32 y)) (λ no. more refl (eqb-false d.resources 32 no))
  declares_says es d n place kind.Event None cont known full more =
      cond_both (eqb d.events 32) _ _ (λ (x : Drafted). MatchResult (and_then x (λ e. cont e (learnt es d kind.Event n x))) P (λ _. N)) (λ y. full (eqb-true d.events 32 y)) (λ no. more refl (eqb-false d.events 32 no))
  declares_says es d n place kind.Task None cont known full more =
      cond_both (eqb d.tasks 64) _ _ (λ (x : Drafted). MatchResult (and_then x (λ e. cont e (learnt es d kind.Task n x))) P (λ _. N)) (λ y. full (eqb-true d.tasks 64 y)) (λ no. more refl (eqb-false d.tasks 64 no))

  pub priority_says : (d : Draft) (v place : ℕ) (cont : Draft → Drafted) → (63 < v → N) → (in_vector d.declared v ≡ true → N) → (v < 64 → in_vector d.declared v ≡ false → MatchResult (cont (with_task d v)) P (λ _. N)) → MatchResult (and_then (prioritized d v place) cont) P (λ _. N)
  priority_says d v place cont high dup more =
      cond_both (ltb 63 v) _ _ (λ (x : Drafted). MatchResult (and_then x cont) P (λ _. N))
      (λ y. high (ltb-true 63 v y))
      (λ n. cond_both (in_vector d.declared v) _ _ (λ (x : Drafted). MatchResult (and_then x cont) P (λ _. N)) dup (λ m. let l = ltb-false 63 v n in more (omega arith) m))

  pub activation_says : (d : Draft) (v place : ℕ) (cont : Draft → Drafted) → ((v ≡ 1 → ⊥) → N) → (v ≡ 1 → MatchResult (cont d) P (λ _. N)) → MatchResult (and_then (activated d v place) cont) P (λ _. N)
  activation_says d v place cont bad more =
      cond_both (eqb v 1) _ _ (λ (x : Drafted). MatchResult (and_then x cont) P (λ _. N)) (λ y. more (eqb-true v 1 y)) (λ n. bad (eqb-false v 1 n))

  module _ (ns rn en : List (List ℕ)) (n : List ℕ) (d : Draft) (place : ℕ) (cont : Draft → Drafted) where
    abbrev Unnamed : Kind → Type 0
    Unnamed k = (In (among k rn en) n → ⊥) → N

    abbrev Goes : Kind → Type 0
    Goes k = (i : ℕ) → At (among k rn en) i n → ((j : ℕ) → At (among k rn en) j n → j ≡ i) → MatchResult (cont (adding d k i)) P (λ _. N)

    refers_by : (k h : Kind) (i : ℕ) → Unnamed k → Goes k → StandsFor ns rn en n h i → MatchResult (and_then (referred_to d k h i place) cont) P (λ _. N)
    refers_by kind.Resource kind.Resource i bad good e = good i e.1 e.2
    refers_by kind.Resource kind.Event i bad good e = bad e.3
    refers_by kind.Resource kind.Task i bad good e = bad e.1
    refers_by kind.Event kind.Resource i bad good e = bad e.3
    refers_by kind.Event kind.Event i bad good e = good i e.1 e.2
    refers_by kind.Event kind.Task i bad good e = bad e.2
    refers_by kind.Task h i bad good e = bad (λ z. absurd z.1)

    pub refers_says : (k : Kind) (found : Option Known) → Looked ns rn en n found → Unnamed k → Goes k → MatchResult (and_then (referred_by d k found place) cont) P (λ _. N)
    refers_says kind.Resource None l bad good = bad l.1
    refers_says kind.Event None l bad good = bad l.2
    refers_says kind.Task None l bad good = bad (λ z. absurd z.1)
    refers_says k (Some r) l bad good = refers_by k r.kind r.number bad good l
