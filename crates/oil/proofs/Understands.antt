-- What is read is what the text means.
use Rattle.std.proofs.Common.{◌≡◌, ℕ, zero, suc, ◌<◌, ◌≤◌, cond, List, [], ◌∷◌, length, get_or, Ok, Err, Result, sym, refl, ap, ◌∙◌, subst, ⊎_elim, arith, MatchResult}
use Rattle.std.proofs.lemmas.Bool.{cond-true, cases_lt}
use Rattle.plan.specs.declared.record.Plan.{Plan}
use Rattle.plan.specs.Rows.{SameRows}
use Rattle.plan.proofs.Zeros.{zeros}
use Rattle.letters.specs.declared.token.Mark.TheVariants as marks
use Rattle.letters.specs.Tokens.{bytes_of, is_name}
use Rattle.grammar.specs.declared.slot.Slot.TheVariants as slot
use Rattle.grammar.specs.declared.word.Word.TheVariants as words
use Rattle.grammar.specs.declared.item.State.TheVariants as state
use Rattle.grammar.specs.Faults.{and_then, misplaced}
use Rattle.grammar.specs.Slots.{admits, expected, followed}
use Rattle.grammar.specs.Items.{template}
use Rattle.grammar.specs.Language.{word, mark, Scan, Spells, Object, objects, unparse}
use Rattle.grammar.proofs.Complete.{first_token, fixed_back, followed_join, name_admitted}
use Rattle.oil.specs.declared.draft.Draft.{Draft}
use Rattle.oil.specs.declared.fault.PlanFault.{PlanFault}
use Rattle.oil.specs.Draft.{Drafted, empty_draft}
use Rattle.oil.specs.Outcome.{drafted, done, outcome, PlanFrom, PlanAfter}
use Rattle.oil.specs.Meaning.{At, VectorOf, RowsOf, PlanOf, SamePlan, Understood}
use Rattle.oil.proofs.Vectors.{vector_none, vector_same}
use Rattle.oil.proofs.Judged.{Tree}
use Rattle.oil.proofs.Readings.{Plans, Good, Bad, objects_says}
use Rattle.oil.proofs.Forms.{joined_app, formed_from, allowed_from}
use Rattle.oil.proofs.Whole.{whole, drafted_is, drafted_ok, drafted_lawful}

start_scan : (text cpu : List ℕ) (os : List Object) (q : ℕ) → Scan text 0 (unparse cpu os) q → (p : ℕ) × (followed text (template state.Start) 0 ≡ Ok p) × Scan text p (objects os) q
start_scan text cpu os q sc =
    let front = slot.Word words.OilVersion ∷ slot.Mark marks.Equals ∷ slot.Version ∷ slot.Mark marks.Semicolon ∷ slot.Word words.Cpu ∷ [] in
    let x = fixed_back text front 0 q (word cpu ∷ mark marks.Open ∷ objects os) (tt, (tt, (tt, (tt, (tt, tt))))) sc in
    let y = first_token text x.0 q (word cpu ∷ mark marks.Open ∷ objects os) (word cpu) (mark marks.Open ∷ objects os) x.2 refl in
    let t = y.0 in
    let any : expected text slot.AnyName x.0 ≡ Ok t.end =
    ap (λ r. and_then r (λ u. cond (admits text slot.AnyName u) (Ok u.end) (Err (misplaced u.place)))) y.1 ∙ cond-true (is_name t.what) (Ok t.end) (Err (misplaced t.place)) (name_admitted text (bytes_of text t) cpu t.what y.2 y.3) in
    let z = fixed_back text (slot.Mark marks.Open ∷ []) t.end q (objects os) (tt, tt) y.4 in
    (z.0, followed_join text front (slot.AnyName ∷ slot.Mark marks.Open ∷ []) 0 x.0 z.0 x.1 (ap (λ r. and_then r (λ m. followed text (slot.Mark marks.Open ∷ []) m)) any ∙ z.1), z.2)

-- before the first object
tree_none : Tree [] empty_draft []
tree_none = record {
  book = record { looked = λ n. ((λ h. absurd h.1), (λ h. absurd h.1), (λ h. absurd h.1)) };
  drawn = record {
    found = vector_none;
    same_count = refl;
    same_resources = refl;
    same_events = refl;
    few_tasks = omega arith;
    few_resources = omega arith;
    few_events = omega arith;
    users = record { each = λ i n h. absurd h; beyond = λ i _. zeros 32 i; size = refl; stray = λ n h. refl };
    registered = record { each = λ i n h. absurd h; beyond = λ i _. zeros 32 i; size = refl; stray = λ n h. refl };
  };
}

reads_says : (text cpu : List ℕ) (os : List Object) → Spells text (unparse cpu os) → MatchResult (whole text) (Good text [] os) (λ _. Bad text [] os)
reads_says text cpu os h =
    let x = start_scan text cpu os h.0 h.1 in
    objects_says text os [] state.Start 0 x.0 h.0 x.1 (omega arith) refl x.2 h.2 [] empty_draft tree_none (suc (length text)) (omega arith)

-- the plan that is shown is the plan of the objects
shown : (os : List Object) (d : Draft) (old new : Plan) → PlanFrom (Ok d) old new → Plans os d → PlanOf os new
shown os d old new s p = record {
  tasks = subst (VectorOf _) (sym s.same_declared) p.tasks;
  resource_count = s.same_resources ∙ p.resource_count;
  event_count = s.same_events ∙ p.event_count;
  users_are = subst (RowsOf _ _) (sym s.same_users) p.users_are;
  registered_are = subst (RowsOf _ _) (sym s.same_registered) p.registered_are;
}

at_some : {X : Type 0} (xs : List X) (i : ℕ) → i < length xs → (x : X) × At xs i x
at_some [] i l = absurd (omega arith)
at_some (x ∷ xs) zero l = (x, refl)
at_some (x ∷ xs) (suc i) l = at_some xs i (omega arith)

rows_same : (names : List (List ℕ)) (tasks : List ℕ → List ℕ) (vs ws : List ℕ) → RowsOf names tasks vs → RowsOf names tasks ws → SameRows vs ws
rows_same names tasks vs ws a b i =
    ⊎_elim
    (λ (l : i < length names). let x = at_some names i l in vector_same (tasks x.0) (get_or vs i 0) (get_or ws i 0) (a.each i x.0 x.1) (b.each i x.0 x.1))
    (λ (l : length names ≤ i). a.beyond i l ∙ sym (b.beyond i l))
    (cases_lt i (length names))

plan_same : (os : List Object) (p q : Plan) → PlanOf os p → PlanOf os q → SamePlan p q
plan_same os p q a b = record {
  declared = vector_same _ p.declared q.declared a.tasks b.tasks;
  resources = a.resource_count ∙ sym b.resource_count;
  events = a.event_count ∙ sym b.event_count;
  users = rows_same _ _ p.users q.users a.users_are b.users_are;
  registered = rows_same _ _ p.registered q.registered a.registered_are b.registered_are;
}

understood : (text : List ℕ) (records : ℕ) (old new : Plan) (r : Drafted) → drafted text records ≡ r → PlanFrom r old new → Understood text records new (done r)
understood text records old new (Ok d) e s =
    let l = drafted_lawful text records d e in
    let o = drafted_ok text records d e in
    let good : (cpu : List ℕ) (os : List Object) → Spells text (unparse cpu os) → Good text [] os d = λ cpu os h. subst (λ r. MatchResult r (Good text [] os) (λ _. Bad text [] os)) o.2 (reads_says text cpu os h) in
    let plan : (cpu : List ℕ) (os : List Object) → Spells text (unparse cpu os) → PlanOf os new = λ cpu os h. shown os d old new s (subst (λ x. Plans x d) (joined_app os []) (good cpu os h).1) in (
      o.0,
      o.1,
      record { cpu = l.0; tree = l.1; spelt = l.2; formed = formed_from l.1 (good l.0 l.1 l.2).0; plan = plan l.0 l.1 l.2 },
      (λ q m. plan_same m.tree q new m.plan (plan m.cpu m.tree m.spelt)),
    )
understood text records old new (Err f) e s = λ room short cpu tree spelt formed.
    let is : whole text ≡ Err f = sym (drafted_is text records room short) ∙ e in
    let bad : Bad text [] tree = subst (λ r. MatchResult r (Good text [] tree) (λ _. Bad text [] tree)) is (reads_says text cpu tree spelt) in
    bad (allowed_from tree formed)

pub understood_by : (text : List ℕ) (records : ℕ) (old new : Plan) (r : Result (Unit {0}) PlanFault) → r ≡ outcome text records → PlanAfter text records old new r → Understood text records new r
understood_by text records old new r e p = subst (λ x. Understood text records new x) (sym e) (understood text records old new (drafted text records) refl p)
