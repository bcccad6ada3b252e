-- The table of names holds the names that are declared.
use Rattle.std.proofs.Common.{◌≡◌, ℕ, zero, suc, ◌+◌, ◌<◌, ◌≤◌, Bool, true, false, cond, eqb, ltb, List, [], ◌∷◌, length, get_or, set, replicate, IfOk, Some, None, Ok, Err, Option, Result, sym, refl, ap, ◌∙◌, subst, ⊎_elim, arith, get_or-set_other}
use Rattle.std.proofs.lemmas.Bool.{cases_Bool, cond-true, cond-false, cond_both, eqb-false}
use Rattle.std.specs.Str.{bytes_eq}
use Rattle.vectors.specs.Vectors.{in_vector}
use Rattle.letters.specs.Tokens.{bytes_of}
use Rattle.letters.proofs.Named.{Named}
use Rattle.grammar.specs.declared.fault.GrammarFault.{GrammarFault}
use Rattle.grammar.specs.declared.item.Kind.{Kind}
use Rattle.grammar.specs.declared.item.Kind.TheVariants as kind
use Rattle.grammar.specs.declared.item.State.{State}
use Rattle.grammar.specs.declared.item.Item.{Item}
use Rattle.grammar.specs.declared.item.Item.TheVariants as item
use Rattle.grammar.specs.declared.item.Step.{Step}
use Rattle.grammar.specs.Faults.{and_then}
use Rattle.grammar.specs.Items.{item_at}
use Rattle.grammar.proofs.Sits.{ItemSits, item_sits}
use Rattle.oil.specs.declared.table.NameRecord.{NameRecord}
use Rattle.oil.specs.declared.table.Known.{Known}
use Rattle.oil.specs.declared.draft.Draft.{Draft}
use Rattle.oil.specs.Table.{blank, find, meant, known_by, looked, key_of, no_key}
use Rattle.oil.specs.Sketch.{Bounded}
use Rattle.oil.specs.Draft.{Drafted, used, next_number, grown, prioritized, activated}
use Rattle.oil.specs.Judging.{unless_known, referred_to, referred_by, judged, lift_plan, proceed, advanced}
use Rattle.oil.specs.Reading.{Entry, look_up, learnt, names_after}
use Rattle.oil.specs.Records.{entered, new_record, noted, Ready}
use Rattle.oil.proofs.Names.{key_some, key_tests, find_set, same_no}

-- the table knows the names es and no others, and is blank from the first record that is not used
pub record Tied (names : List NameRecord) (es : List Entry) (u : ℕ) : Type 0 where
  pub same : (n : List ℕ) → Named n → looked names n ≡ look_up es n
  pub filled : (n : List ℕ) → Named n → looked names n ≡ None → find names (key_of n) ≡ None
  pub empty : (i : ℕ) → u ≤ i → get_or names i blank ≡ blank

find_blank : (k : ℕ) (key : List ℕ) → (key ≡ no_key → ⊥) → find (replicate k blank) key ≡ None
find_blank zero key ne = refl
find_blank (suc k) key ne = cond-false (bytes_eq no_key key) (Some blank) (find (replicate k blank) key) (same_no no_key key (λ e. ne (sym e))) ∙ find_blank k key ne

at_blank : (k i : ℕ) → get_or (replicate k blank) i blank ≡ blank
at_blank zero i = refl
at_blank (suc k) zero = refl
at_blank (suc k) (suc i) = at_blank k i

pub tied_none : (k : ℕ) → Tied (replicate k blank) [] 0
tied_none k = record {
  same = λ n h. ap known_by (find_blank k (key_of n) (key_some n h));
  filled = λ n h _. find_blank k (key_of n) (key_some n h);
  empty = λ i _. at_blank k i;
}

known_cond : (b : Bool) (r : NameRecord) (o : Option NameRecord) → known_by (cond b (Some r) o) ≡ cond b (meant r.holds r.number) (known_by o)
known_cond true r o = refl
known_cond false r o = refl

-- one name more
tied_enter : (names : List NameRecord) (es : List Entry) (d : Draft) (k : Kind) (n : List ℕ) → Tied names es (used d) → Named n → used d < length names → looked names n ≡ None → Tied (set names (used d) (new_record d k n)) (record { name = n; kind = k; number = next_number d k } ∷ es) (used d + 1)
tied_enter names es d k n t nm low none =
    let r = new_record d k n in
    let found : (m : List ℕ) → Named m → find (set names (used d) r) (key_of m) ≡ cond (bytes_eq n m) (Some r) (find names (key_of m)) = λ m mm.
    find_set names (used d) r (key_of m) low (t.empty (used d) (omega arith)) (t.filled n nm none) (key_some m mm)
    ∙ ap (λ b. cond b (Some r) (find names (key_of m))) (key_tests n m nm mm) in
    let x : Option Known = Some (record { kind = k; number = next_number d k }) in
    let is : (m : List ℕ) → Named m → looked (set names (used d) r) m ≡ cond (bytes_eq n m) x (looked names m) = λ m mm.
    ap known_by (found m mm) ∙ known_cond (bytes_eq n m) r (find names (key_of m)) in
    record {
      same = λ m mm. is m mm ∙ ap (cond (bytes_eq n m) x) (t.same m mm);
      filled = λ m mm z. ⊎_elim
          (λ y. absurd (let e : x ≡ None = sym (is m mm ∙ cond-true (bytes_eq n m) x (looked names m) y) ∙ z in let q : ◌≡◌ {A = ℕ} 0 1 = cc in omega arith))
          (λ no. found m mm ∙ cond-false (bytes_eq n m) (Some r) (find names (key_of m)) no
          ∙ t.filled m mm (sym (is m mm ∙ cond-false (bytes_eq n m) x (looked names m) no) ∙ z))
          (cases_Bool (bytes_eq n m));
      empty = λ i l. get_or-set_other names (used d) i r blank (λ q. absurd (omega (arith, q))) ∙ t.empty i (omega arith);
    }

-- a declaration that is accepted
abbrev pub Grows : Draft → Drafted → Type 0
Grows d r = IfOk r (λ e. (used e ≡ used d + 1) × (used d < 128))

pub grown_used : (d : Draft) (k : Kind) (place : ℕ) → Bounded d → Grows d (grown d k place)
grown_used d kind.Resource place b = cond_both (eqb d.resources 32) _ _ (Grows d) (λ _. tt) (λ n. let ne = eqb-false d.resources 32 n in (omega arith, omega arith))
grown_used d kind.Event place b = cond_both (eqb d.events 32) _ _ (Grows d) (λ _. tt) (λ n. let ne = eqb-false d.events 32 n in (omega arith, omega arith))
grown_used d kind.Task place b = cond_both (eqb d.tasks 64) _ _ (Grows d) (λ _. tt) (λ n. let ne = eqb-false d.tasks 64 n in (omega arith, omega arith))

-- any other item
abbrev Stays : Draft → Drafted → Type 0
Stays d r = IfOk r (λ e. used e ≡ used d)

prioritized_used : (d : Draft) (v place : ℕ) → Stays d (prioritized d v place)
prioritized_used d v place = cond_both (ltb 63 v) _ _ (Stays d) (λ _. tt) (λ _. cond_both (in_vector d.declared v) _ _ (Stays d) (λ _. tt) (λ _. refl))

to_used : (d : Draft) (k x : Kind) (n place : ℕ) → Stays d (referred_to d k x n place)
to_used d kind.Resource kind.Resource n place = refl
to_used d kind.Resource kind.Event n place = tt
to_used d kind.Resource kind.Task n place = tt
to_used d kind.Event kind.Resource n place = tt
to_used d kind.Event kind.Event n place = refl
to_used d kind.Event kind.Task n place = tt
to_used d kind.Task x n place = tt

by_used : (d : Draft) (k : Kind) (o : Option Known) (place : ℕ) → Stays d (referred_by d k o place)
by_used d k None place = tt
by_used d k (Some x) place = to_used d k x.kind x.number place

module _ (text : List ℕ) (names : List NameRecord) (es : List Entry) (d : Draft) (t : Tied names es (used d)) where
  -- what is judged by the table is judged by the names
  judged_tied : (i : Item) (pos end : ℕ) → ItemSits text i pos end → judged text (looked names) d i ≡ judged text (look_up es) d i
  judged_tied (item.Declares k u) pos end o = ap (λ x. unless_known x u.place (grown d k u.place)) (t.same (bytes_of text u) o.2)
  judged_tied (item.Priority n u) pos end o = refl
  judged_tied (item.Activation n u) pos end o = refl
  judged_tied (item.Refers k u) pos end o = ap (λ x. referred_by d k x u.place) (t.same (bytes_of text u) o.2)
  judged_tied item.Closes pos end o = refl
  judged_tied item.End pos end o = refl

  pub advanced_tied : (s : State) (pos : ℕ) → advanced text (looked names) d s pos ≡ advanced text (look_up es) d s pos
  advanced_tied s pos = on (item_at text s pos) refl
    where
      on : (r : Result Step GrammarFault) → item_at text s pos ≡ r → and_then (lift_plan r) (λ st. and_then (judged text (looked names) d st.item) (λ e. Ok (proceed st.item e st))) ≡ and_then (lift_plan r) (λ st. and_then (judged text (look_up es) d st.item) (λ e. Ok (proceed st.item e st)))
      on (Err f) h = refl
      on (Ok st) h = ap (λ j. and_then j (λ e. Ok (proceed st.item e st))) (judged_tied st.item pos st.pos (item_sits text s pos st h))

  stays : (e : Draft) (r : Drafted) → Stays d r → r ≡ Ok e → Tied names es (used e)
  stays e r h is = subst (Tied names es) (sym (subst (Stays d) is h)) t

  enters : (k : Kind) (n : List ℕ) (place : ℕ) (e : Draft) (o p : Option Known) → Named n → Bounded d → Ready d names → looked names n ≡ o → o ≡ p → unless_known o place (grown d k place) ≡ Ok e → Tied (entered names d (new_record d k n) (unless_known o place (grown d k place))) (learnt es d k n (unless_known p place (grown d k place))) (used e)
  enters k n place e (Some x) p nm b h lo eq is = let z : ◌≡◌ {A = ℕ} 0 1 = cc in absurd (omega arith)
  enters k n place e None p nm b h lo eq is =
      let g = subst (Grows d) is (grown_used d k place b) in
      let room = h.room in
      let low = g.1 in
      subst (λ q. Tied (entered names d (new_record d k n) (grown d k place)) (learnt es d k n (unless_known q place (grown d k place))) (used e)) eq
      (subst (λ r. Tied (entered names d (new_record d k n) r) (learnt es d k n r) (used e)) (sym is)
      (subst (Tied (set names (used d) (new_record d k n)) (record { name = n; kind = k; number = next_number d k } ∷ es)) (sym g.0) (tied_enter names es d k n t nm (omega arith) lo)))

  -- the table and the names after an item
  pub tied_after : (i : Item) (pos end : ℕ) (e : Draft) → ItemSits text i pos end → Bounded d → Ready d names → judged text (looked names) d i ≡ Ok e → Tied (noted text names d i) (names_after text es d i) (used e)
  tied_after (item.Declares k u) pos end e o b h is =
      enters k (bytes_of text u) u.place e (looked names (bytes_of text u)) (look_up es (bytes_of text u)) o.2 b h refl (t.same (bytes_of text u) o.2) is
  tied_after (item.Priority n u) pos end e o b h is = stays e (prioritized d n u.place) (prioritized_used d n u.place) is
  tied_after (item.Activation n u) pos end e o b h is = stays e (activated d n u.place) (cond_both (eqb n 1) _ _ (Stays d) (λ _. refl) (λ _. tt)) is
  tied_after (item.Refers k u) pos end e o b h is = stays e (referred_by d k (looked names (bytes_of text u)) u.place) (by_used d k (looked names (bytes_of text u)) u.place) is
  tied_after item.Closes pos end e o b h is = stays e (Ok d) refl is
  tied_after item.End pos end e o b h is = stays e (judged text (looked names) d item.End) (cond_both (eqb d.declared 0) _ _ (Stays d) (λ _. tt) (λ _. refl)) is
