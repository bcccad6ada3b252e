-- A text of some objects is read exactly if they are allowed, and then to their plan.
use Rattle.std.proofs.Common.{◌≡◌, ℕ, ◌+◌, ◌-◌, ◌^◌, ◌<◌, ◌≤◌, Bool, true, false, cond, eqb, List, [], ◌∷◌, ◌++◌, length, Some, None, Ok, Err, sym, refl, ap, ◌∙◌, subst, append_assoc, append-nil, arith, length-append, MatchResult}
use Rattle.std.proofs.lemmas.Bool.{cond_both, eqb-true, eqb-false, both_ways}
use Rattle.std.specs.Str.{bytes_eq}
use Rattle.vectors.specs.Vectors.{in_vector}
use Rattle.vectors.proofs.Vectors.{in_none}
use Rattle.letters.specs.declared.token.Mark.TheVariants as marks
use Rattle.letters.specs.declared.token.Token.{Token}
use Rattle.letters.specs.Tokens.{bytes_of}
use Rattle.grammar.specs.declared.item.Kind.{Kind}
use Rattle.grammar.specs.declared.item.Kind.TheVariants as kind
use Rattle.grammar.specs.declared.item.State.{State}
use Rattle.grammar.specs.declared.item.State.TheVariants as state
use Rattle.grammar.specs.declared.item.Item.TheVariants as item
use Rattle.grammar.specs.declared.item.Step.{Step}
use Rattle.grammar.specs.Faults.{and_then}
use Rattle.grammar.specs.Slots.{followed}
use Rattle.grammar.specs.Items.{template, step, object_at, referred_at, reference_at, attribute_at, judged_at}
use Rattle.grammar.specs.Language.{Sign, word, num, mark, Scan, AtEnd, Reference, uses, awaits, Object, resource, event, task, references, resource_rest, event_rest, activation_rest, priority_rest, task_rest, objects}
use Rattle.grammar.proofs.Complete.{kind_bytes, scan_room, fixed_back, numeral_back, open_object, close_text, close_task, refer_to, item_of}
use Rattle.oil.specs.declared.draft.Draft.{Draft}
use Rattle.oil.specs.declared.fault.PlanCause.TheVariants as cause
use Rattle.oil.specs.Faults.{refusal}
use Rattle.oil.specs.Draft.{Drafted, with_resources, with_events, with_tasks, next_number}
use Rattle.oil.specs.Reading.{Entry, look_up, gathered}
use Rattle.oil.specs.Meaning.{At, In, names_of, resources_of, events_of, priorities_of, AllEarlier, uses_in, awaits_in, users_of, registered_of, VectorOf, RowsOf}
use Rattle.oil.proofs.Vectors.{vector_none, vector_same, taken_out}
use Rattle.oil.proofs.Stands.{Looked, Book, vecs_add, Drawn, drawn_rows}
use Rattle.oil.proofs.Judged.{names_app, resources_app, events_app, priorities_app, users_app, registered_app, AllowedFrom, joined, Tree, book_like, drawn_like, stands_in, fresh, tree_resource, tree_event, task_book, task_drawn, with_task, cases_map, gathered_item, Limit, later, declares_says, priority_says, activation_says, among, adding, refers_says}

snoc_cond : (b : Bool) (xs l : List ℕ) (v : ℕ) → (xs ++ cond b (v ∷ []) []) ++ l ≡ xs ++ cond b (v ∷ l) l
snoc_cond true xs l v = append_assoc xs (v ∷ []) l
snoc_cond false xs l v = ap (λ z. z ++ l) (append-nil xs)

module _ (text : List ℕ) (P : Draft → Type 0) (N : Type 0) (before : List Object) (ns : List (List ℕ)) (ps : List ℕ) (count v : ℕ) (fits : v < 64) (names : List Entry) where
  -- one reference, and then the rest
  refers_on : (k : Kind) (n : List ℕ) (us : List Sign) (q : ℕ) → ((t : Token) → reference_at text t (Some k) ≡ referred_at text t k) → (s : State) (pos p : ℕ) → followed text (template s) pos ≡ Ok p → pos ≤ p → judged_at text s p ≡ attribute_at text p → Scan text p (word (kind_bytes text k) ∷ mark marks.Equals ∷ word n ∷ mark marks.Semicolon ∷ us) q
      → (d : Draft) → Book ns (resources_of before) (events_of before) names → (m : ℕ) → length text < m + pos
      → ((In (among k (resources_of before) (events_of before)) n → ⊥) → N)
      → ((i pos2 p2 : ℕ) → At (among k (resources_of before) (events_of before)) i n → ((j : ℕ) → At (among k (resources_of before) (events_of before)) j n → j ≡ i) → followed text (template state.Referred) pos2 ≡ Ok p2 → pos2 ≤ p2 → Scan text p2 us q → length text < (m - 1) + pos2 → MatchResult (gathered (m - 1) text names (adding d k i) state.Referred pos2) P (λ _. N))
      → MatchResult (gathered m text names d s pos) P (λ _. N)
  refers_on k n us q known s pos p f up j sc d tb m fuel bad good =
      let x = refer_to text k p q n (mark marks.Semicolon ∷ us) known sc in
      let t = x.0 in
      let room = scan_room text p q (word (kind_bytes text k)) (mark marks.Equals ∷ word n ∷ mark marks.Semicolon ∷ us) sc in
      let far = x.3 in
      let y = fixed_back text (template state.Referred) t.end q us (tt, tt) x.2 in
      let st : Step = record { item = item.Refers k t; state = state.Referred; pos = t.end } in
      let gi = gathered_item m text names d s pos st (item_of text s pos p st f (j ∙ x.1)) (omega arith) in
      subst (λ r. MatchResult r P (λ _. N)) (sym gi)
      (refers_says P N ns (resources_of before) (events_of before) n d t.place (λ e. gathered (m - 1) text names e state.Referred t.end) k (look_up names (bytes_of text t))
      (subst (λ b. Looked ns (resources_of before) (events_of before) n (look_up names b)) (sym x.4) (tb.looked n))
      bad (λ i at only. good i t.end y.0 at only y.1 y.3 y.2 (omega arith)))

  references_says : (rs : List Reference) (ss : List Sign) (q : ℕ) (us ls : List ℕ → List ℕ)
      → ((AllEarlier before rs → ⊥) → N)
      → ((d : Draft) (us' ls' : List ℕ → List ℕ) (m pos : ℕ) → ((k : List ℕ) → us' k ≡ us k ++ uses_in k v rs) → ((k : List ℕ) → ls' k ≡ ls k ++ awaits_in k v rs) → Drawn ps (resources_of before) (events_of before) us' ls' count d → Book ns (resources_of before) (events_of before) names → AllEarlier before rs → length text < m + pos → Scan text pos (mark marks.Semicolon ∷ ss) q → MatchResult (gathered m text names d state.Closed pos) P (λ _. N))
      → (s : State) (pos p : ℕ) → followed text (template s) pos ≡ Ok p → pos ≤ p → judged_at text s p ≡ attribute_at text p → Scan text p (references rs ss) q
      → (d : Draft) → Drawn ps (resources_of before) (events_of before) us ls count d → Book ns (resources_of before) (events_of before) names → d.current ≡ 2 ^ v → (m : ℕ) → length text < m + pos → MatchResult (gathered m text names d s pos) P (λ _. N)
  references_says [] ss q us ls bad more s pos p f up j sc d dr tb cur m fuel =
      let x = close_task text p q (mark marks.Semicolon ∷ ss) sc in
      let room = scan_room text p q (mark marks.Close) (mark marks.Semicolon ∷ ss) sc in
      let far = x.3 in
      let st : Step = record { item = item.Closes; state = state.Closed; pos = x.0 } in
      let gi = gathered_item m text names d s pos st (item_of text s pos p st f (j ∙ x.1)) (omega arith) in
      subst (λ r. MatchResult r P (λ _. N)) (sym gi)
      (more d us ls (m - 1) x.0 (λ k. sym (append-nil (us k))) (λ k. sym (append-nil (ls k))) dr tb tt (omega arith) x.2)
  references_says (uses n ∷ rs) ss q us ls bad more s pos p f up j sc d dr tb cur m fuel =
      let us2 : List ℕ → List ℕ = λ k. us k ++ cond (bytes_eq n k) (v ∷ []) [] in
      refers_on kind.Resource n (references rs ss) q (λ t. refl) s pos p f up j sc d tb m fuel (λ no. bad (λ k. no k.0))
      (λ i pos2 p2 at only f2 up2 sc2 fuel2.
      references_says rs ss q us2 ls (λ nk. bad (λ k. nk k.1))
      (λ d2 us' ls' m2 pos3 eu el dr2 tb2 kn fu sc3. more d2 us' ls' m2 pos3 (λ k. eu k ∙ snoc_cond (bytes_eq n k) (us k) (uses_in k v rs) v) el dr2 tb2 ((i, at), kn) fu sc3)
      state.Referred pos2 p2 f2 up2 refl sc2 (adding d kind.Resource i) (drawn_rows dr (vecs_add (resources_of before) us us2 d.users n i v d.current at only dr.few_resources fits cur (λ k. refl) dr.users) dr.registered) tb cur (m - 1) fuel2)
  references_says (awaits n ∷ rs) ss q us ls bad more s pos p f up j sc d dr tb cur m fuel =
      let ls2 : List ℕ → List ℕ = λ k. ls k ++ cond (bytes_eq n k) (v ∷ []) [] in
      refers_on kind.Event n (references rs ss) q (λ t. refl) s pos p f up j sc d tb m fuel (λ no. bad (λ k. no k.0))
      (λ i pos2 p2 at only f2 up2 sc2 fuel2.
      references_says rs ss q us ls2 (λ nk. bad (λ k. nk k.1))
      (λ d2 us' ls' m2 pos3 eu el dr2 tb2 kn fu sc3. more d2 us' ls' m2 pos3 eu (λ k. el k ∙ snoc_cond (bytes_eq n k) (ls k) (awaits_in k v rs) v) dr2 tb2 ((i, at), kn) fu sc3)
      state.Referred pos2 p2 f2 up2 refl sc2 (adding d kind.Event i) (drawn_rows dr dr.users (vecs_add (events_of before) ls ls2 d.registered n i v d.current at only dr.few_events fits cur (λ k. refl) dr.registered)) tb cur (m - 1) fuel2)

-- a vector is empty exactly if it has no task
some_from : (v : ℕ) (ps : List ℕ) → VectorOf ps v → (v ≡ 0 → ⊥) → 0 < length ps
some_from v [] f ne = absurd (ne (vector_same [] v 0 f vector_none))
some_from v (p ∷ ps) f ne = omega arith

none_from : (v : ℕ) (ps : List ℕ) → VectorOf ps v → v ≡ 0 → 0 < length ps → ⊥
none_from v [] f e l = omega arith
none_from v (p ∷ ps) f e l = both_ways (in_vector v p) (ap (λ n. in_vector n p) e ∙ in_none p) (f.there p (0, refl))

-- the plan of the objects, as a draft has it
pub record Plans (os : List Object) (d : Draft) : Type 0 where
  pub tasks : VectorOf (priorities_of os) d.declared
  pub resource_count : d.resources ≡ length (resources_of os)
  pub event_count : d.events ≡ length (events_of os)
  pub users_are : RowsOf (resources_of os) (λ n. users_of n os) d.users
  pub registered_are : RowsOf (events_of os) (λ n. registered_of n os) d.registered

plan_of : {os : List Object} {d : Draft} {names : List Entry} → Tree os d names → Plans os d
plan_of t =
    let x = t.drawn in
    record {
      tasks = x.found;
      resource_count = x.same_resources;
      event_count = x.same_events;
      users_are = record { each = x.users.each; beyond = x.users.beyond };
      registered_are = record { each = x.registered.each; beyond = x.registered.beyond };
    }

-- a task with all its references
task_tree : (before : List Object) (n : List ℕ) (p a : ℕ) (rs : List Reference) (names : List Entry) (d : Draft) (us ls : List ℕ → List ℕ)
    → ((k : List ℕ) → us k ≡ users_of k before ++ uses_in k p rs) → ((k : List ℕ) → ls k ≡ registered_of k before ++ awaits_in k p rs)
    → Drawn (priorities_of before ++ (p ∷ [])) (resources_of before) (events_of before) us ls (length (priorities_of before) + 1) d
    → Book (names_of before ++ (n ∷ [])) (resources_of before) (events_of before) names
    → Tree (before ++ (task n p a rs ∷ [])) d names
task_tree before n p a rs names d us ls eu el dr tb =
    let o = task n p a rs ∷ [] in
    let ep = priorities_app before o in
    let er = resources_app before o ∙ append-nil (resources_of before) in
    let ee = events_app before o ∙ append-nil (events_of before) in
    let sized : length (priorities_of before) + 1 ≡ length (priorities_of (before ++ o)) = let l = length-append (priorities_of before) (p ∷ []) in let k = ap length ep in omega arith in
    record {
      book = book_like (sym (names_app before o)) (sym er) (sym ee) tb;
      drawn = drawn_like {us = us} {ls = ls} (sym ep) (sym er) (sym ee)
          (λ k. users_app k before o ∙ ap (λ l. users_of k before ++ l) (append-nil (uses_in k p rs)) ∙ sym (eu k))
          (λ k. registered_app k before o ∙ ap (λ l. registered_of k before ++ l) (append-nil (awaits_in k p rs)) ∙ sym (el k))
          sized dr;
    }

module _ (text : List ℕ) where
  -- a declaration, and then the rest
  declares_on : (P : Draft → Type 0) (N : Type 0) (k : Kind) (n : List ℕ) (us : List Sign) (q : ℕ) (s : State) (pos p : ℕ) → followed text (template s) pos ≡ Ok p → pos ≤ p → judged_at text s p ≡ object_at text p → Scan text p (word (kind_bytes text k) ∷ word n ∷ us) q
      → (before : List Object) (names : List Entry) (d : Draft) → Tree before d names → (m : ℕ) → length text < m + pos → (In (names_of before) n → N) → (Limit d k → N)
      → ((end : ℕ) → look_up names n ≡ None → (Limit d k → ⊥) → Scan text end us q → length text < (m - 1) + end → MatchResult (gathered (m - 1) text (record { name = n; kind = k; number = next_number d k } ∷ names) (later d k) (state.Declared k) end) P (λ _. N))
      → MatchResult (gathered m text names d s pos) P (λ _. N)
  declares_on P N k n us q s pos p f up j sc before names d tr m fuel known full good =
      let x = open_object text k p q n us sc in
      let t = x.0 in
      let room = scan_room text p q (word (kind_bytes text k)) (word n ∷ us) sc in
      let far = x.3 in
      let st : Step = record { item = item.Declares k t; state = state.Declared k; pos = t.end } in
      let gi = gathered_item m text names d s pos st (item_of text s pos p st f (j ∙ x.1)) (omega arith) in
      let is = Looked (names_of before) (resources_of before) (events_of before) n in
      let looked : is (look_up names (bytes_of text t)) = subst (λ b. is (look_up names b)) (sym x.4) (tr.book.looked n) in
      subst (λ r. MatchResult r P (λ _. N)) (sym gi)
      (declares_says P N names d (bytes_of text t) t.place k (look_up names (bytes_of text t))
      (λ e after. gathered (m - 1) text after e (state.Declared k) t.end)
      (λ r e. known (stands_in (names_of before) (resources_of before) (events_of before) n r.kind r.number (subst is e looked)))
      full
      (λ none low. subst (λ b. MatchResult (gathered (m - 1) text (record { name = b; kind = k; number = next_number d k } ∷ names) (later d k) (state.Declared k) t.end) P (λ _. N)) (sym x.4) (good t.end (ap (look_up names) (sym x.4) ∙ none) low x.2 (omega arith))))

  abbrev pub Good : List Object → List Object → Draft → Type 0
  Good before os e = AllowedFrom before os × Plans (joined before os) e

  abbrev pub Bad : List Object → List Object → Type 0
  Bad before os = AllowedFrom before os → ⊥

  pub objects_says : (os before : List Object) (s : State) (pos p q : ℕ) → followed text (template s) pos ≡ Ok p → pos ≤ p → judged_at text s p ≡ object_at text p → Scan text p (objects os) q → AtEnd text q → (names : List Entry) (d : Draft) → Tree before d names → (m : ℕ) → length text < m + pos → MatchResult (gathered m text names d s pos) (Good before os) (λ _. Bad before os)
  objects_says [] before s pos p q f up j sc at names d tr m fuel =
      let x = close_text text p q sc at in
      let room = scan_room text p q (mark marks.Close) (mark marks.Semicolon ∷ []) sc in
      let st : Step = record { item = item.End; state = state.Closed; pos = x.0 } in
      let gi = gathered_item m text names d s pos st (item_of text s pos p st f (j ∙ x.1)) (omega arith) in
      let dr = tr.drawn in
      subst (λ r. MatchResult r (Good before []) (λ _. Bad before [])) (sym gi)
      (cond_both (eqb d.declared 0) (Err (refusal cause.NoTask (length text))) (Ok d) (λ (r : Drafted). MatchResult (and_then r (λ e. Ok e)) (Good before []) (λ _. Bad before []))
      (λ y some. none_from d.declared (priorities_of before) dr.found (eqb-true d.declared 0 y) some)
      (λ n. (some_from d.declared (priorities_of before) dr.found (eqb-false d.declared 0 n), plan_of tr)))
  objects_says (resource n ∷ os) before s pos p q f up j sc at names d tr m fuel =
      let dr = tr.drawn in
      let count = dr.same_resources in
      let few = dr.few_resources in
      let all = resource n ∷ os in
      let here = before ++ (resource n ∷ []) in
      let after : List Entry = record { name = n; kind = kind.Resource; number = d.resources } ∷ names in
      let d1 = with_resources d (d.resources + 1) in
      declares_on (Good before all) (Bad before all) kind.Resource n (resource_rest (objects os)) q s pos p f up j sc before names d tr m fuel
      (λ known w. w.0.0 known)
      (λ full w. let l = w.0.1 in omega arith)
      (λ end none low sc2 fuel2.
      let y = fixed_back text (template (state.Declared kind.Resource)) end q (objects os) (tt, (tt, (tt, (tt, (tt, (tt, (tt, tt))))))) sc2 in
      cases_map (Good here os) (Good before all) (Bad here os) (Bad before all) (gathered (m - 1) text after d1 (state.Declared kind.Resource) end)
      (λ e h. ((((fresh tr n none).0, omega arith), h.0), h.1))
      (λ no w. no w.1)
      (objects_says os here (state.Declared kind.Resource) end y.0 q y.1 y.3 refl y.2 at after d1 (tree_resource tr n none low) (m - 1) fuel2))
  objects_says (event n ∷ os) before s pos p q f up j sc at names d tr m fuel =
      let dr = tr.drawn in
      let count = dr.same_events in
      let few = dr.few_events in
      let all = event n ∷ os in
      let here = before ++ (event n ∷ []) in
      let after : List Entry = record { name = n; kind = kind.Event; number = d.events } ∷ names in
      let d1 = with_events d (d.events + 1) in
      declares_on (Good before all) (Bad before all) kind.Event n (event_rest (objects os)) q s pos p f up j sc before names d tr m fuel
      (λ known w. w.0.0 known)
      (λ full w. let l = w.0.1 in omega arith)
      (λ end none low sc2 fuel2.
      let y = fixed_back text (template (state.Declared kind.Event)) end q (objects os) (tt, (tt, (tt, (tt, (tt, (tt, (tt, tt))))))) sc2 in
      cases_map (Good here os) (Good before all) (Bad here os) (Bad before all) (gathered (m - 1) text after d1 (state.Declared kind.Event) end)
      (λ e h. ((((fresh tr n none).0, omega arith), h.0), h.1))
      (λ no w. no w.1)
      (objects_says os here (state.Declared kind.Event) end y.0 q y.1 y.3 refl y.2 at after d1 (tree_event tr n none low) (m - 1) fuel2))
  objects_says (task n pr ac rs ∷ os) before s pos p q f up j sc at names d tr m fuel =
      let refs = references rs (objects os) in
      let dr = tr.drawn in
      let count = dr.same_count in
      let few = dr.few_tasks in
      let all = task n pr ac rs ∷ os in
      let here = before ++ (task n pr ac rs ∷ []) in
      let after : List Entry = record { name = n; kind = kind.Task; number = 0 } ∷ names in
      let d1 = with_tasks d (d.tasks + 1) in
      let d2 = with_task d1 pr in
      declares_on (Good before all) (Bad before all) kind.Task n (task_rest pr ac refs) q s pos p f up j sc before names d tr m fuel
      (λ known k. k.0.0 known)
      (λ full k. let l = k.0.1 in omega arith)
      (λ end none low sc2 fuel2.
      let y = fixed_back text (template (state.Declared kind.Task)) end q (num pr ∷ priority_rest ac refs) (tt, (tt, (tt, tt))) sc2 in
      let roomv = scan_room text y.0 q (num pr) (priority_rest ac refs) y.2 in
      let v = numeral_back text y.0 q pr (priority_rest ac refs) y.2 in
      let w = fixed_back text (template state.Prioritized) v.0.end q (num ac ∷ activation_rest refs) (tt, (tt, (tt, (tt, (tt, (tt, (tt, tt))))))) v.2 in
      let roomu = scan_room text w.0 q (num ac) (activation_rest refs) w.2 in
      let u = numeral_back text w.0 q ac (activation_rest refs) w.2 in
      let r = fixed_back text (template state.Activated) u.0.end q refs (tt, (tt, (tt, (tt, (tt, tt))))) u.2 in
      let upy = y.3 in
      let upv = v.3 in
      let upw = w.3 in
      let upu = u.3 in
      let sv : Step = record { item = item.Priority pr v.0; state = state.Prioritized; pos = v.0.end } in
      let su : Step = record { item = item.Activation ac u.0; state = state.Activated; pos = u.0.end } in
      let gv = gathered_item (m - 1) text after d1 (state.Declared kind.Task) end sv (item_of text (state.Declared kind.Task) end y.0 sv y.1 (ap (λ z. and_then z (λ e. step (item.Priority e.0 e.1) state.Prioritized e.1.end)) v.1)) (omega arith) in
      let gu = gathered_item (m - 1 - 1) text after d2 state.Prioritized v.0.end su (item_of text state.Prioritized v.0.end w.0 su w.1 (ap (λ z. and_then z (λ e. step (item.Activation e.0 e.1) state.Activated e.1.end)) u.1)) (omega arith) in
      subst (λ z. MatchResult z (Good before all) (λ _. Bad before all)) (sym gv)
      (priority_says (Good before all) (Bad before all) d1 pr v.0.place (λ e. gathered (m - 1 - 1) text after e state.Prioritized v.0.end)
      (λ high k. let l = k.0.2 in omega arith)
      (λ dup k. k.0.3 (dr.found.only pr dup))
      (λ fits new. subst (λ z. MatchResult z (Good before all) (λ _. Bad before all)) (sym gu)
      (activation_says (Good before all) (Bad before all) d2 ac u.0.place (λ e. gathered (m - 1 - 1 - 1) text after e state.Activated u.0.end)
      (λ bad k. bad k.0.4)
      (λ once.
      references_says text (Good before all) (Bad before all) before (names_of before ++ (n ∷ [])) (priorities_of before ++ (pr ∷ [])) (length (priorities_of before) + 1) pr fits after
      rs (objects os) q (λ k. users_of k before) (λ k. registered_of k before)
      (λ nk k. nk k.0.5)
      (λ d3 us ls m3 pos3 eu el dr3 tb3 known fuel3 sc3.
      let c = fixed_back text (template state.Closed) pos3 q (objects os) (tt, tt) sc3 in
      cases_map (Good here os) (Good before all) (Bad here os) (Bad before all) (gathered m3 text after d3 state.Closed pos3)
      (λ e h. ((((fresh tr n none).0, omega arith, fits, taken_out d.declared (priorities_of before) pr dr.found new, once, known), h.0), h.1))
      (λ no k. no k.1)
      (objects_says os here state.Closed pos3 c.0 q c.1 c.3 refl c.2 at after d3 (task_tree before n pr ac rs after d3 us ls eu el dr3 tb3) m3 fuel3))
      state.Activated u.0.end r.0 r.1 r.3 refl r.2 d2 (task_drawn pr fits tr low) (task_book tr n none) refl (m - 1 - 1 - 1) (omega arith))))))
