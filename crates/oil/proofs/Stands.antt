-- The names and the draft against the objects that are read so far.
use Rattle.std.proofs.Common.{◌≡◌, ℕ, ◌^◌, ◌<◌, ◌≤◌, cond, List, [], ◌∷◌, ◌++◌, length, get_or, set, Some, None, Option, sym, refl, ap, ◌∙◌, subst, ⊎_elim, append-nil, arith, length-append, length-set, get_or-set_other, get_or-set_same}
use lib.Bits.{bit_or}
use Rattle.std.proofs.lemmas.Bool.{cases_eq, cond-true, cond-false, cond_both, true≢false}
use Rattle.std.proofs.lemmas.Slice.Eq.{bytes_eq-Decides}
use Rattle.std.specs.Str.{bytes_eq}
use Rattle.grammar.specs.declared.item.Kind.{Kind}
use Rattle.grammar.specs.declared.item.Kind.TheVariants as kind
use Rattle.oil.specs.declared.table.Known.{Known}
use Rattle.oil.specs.declared.draft.Draft.{Draft}
use Rattle.oil.specs.Draft.{added}
use Rattle.oil.specs.Reading.{Entry, look_up}
use Rattle.oil.specs.Meaning.{At, In, VectorOf}
use Rattle.oil.proofs.Vectors.{at_old, at_split, at_low, at_same, in_old, vector_none, vector_more}
use Rattle.oil.proofs.Names.{same_no}

-- the list ys is the list xs, or has n at its end too
pub record Ext (n : List ℕ) (xs ys : List (List ℕ)) : Type 0 where
  pub on : (i : ℕ) (m : List ℕ) → At xs i m → At ys i m
  pub back : (i : ℕ) (m : List ℕ) → (n ≡ m → ⊥) → At ys i m → At xs i m

pub ext_same : (n : List ℕ) (xs : List (List ℕ)) → Ext n xs xs
ext_same n xs = record { on = λ i m h. h; back = λ i m ne h. h }

pub ext_more : (n : List ℕ) (xs : List (List ℕ)) → Ext n xs (xs ++ (n ∷ []))
ext_more n xs = record {
  on = λ i m h. at_old xs n i m h;
  back = λ i m ne h. ⊎_elim (λ a. a) (λ b. absurd (ne b.1)) (at_split xs n i m h);
}

-- what a name stands for among the names, the resources and the events
abbrev pub StandsFor : List (List ℕ) → List (List ℕ) → List (List ℕ) → List ℕ → Kind → ℕ → Type 0
StandsFor ns rn en n kind.Resource i = In ns n × At rn i n × ((j : ℕ) → At rn j n → j ≡ i) × (In en n → ⊥)
StandsFor ns rn en n kind.Event i = In ns n × At en i n × ((j : ℕ) → At en j n → j ≡ i) × (In rn n → ⊥)
StandsFor ns rn en n kind.Task i = In ns n × (In rn n → ⊥) × (In en n → ⊥)

abbrev pub Looked : List (List ℕ) → List (List ℕ) → List (List ℕ) → List ℕ → Option Known → Type 0
Looked ns rn en n None = (In ns n → ⊥) × (In rn n → ⊥) × (In en n → ⊥)
Looked ns rn en n (Some x) = StandsFor ns rn en n x.kind x.number

module _ {ns rn en ns' rn' en' : List (List ℕ)} {n : List ℕ} (a : Ext n ns ns') (b : Ext n rn rn') (c : Ext n en en') (m : List ℕ) (ne : n ≡ m → ⊥) where
  stands_more : (k : Kind) (i : ℕ) → StandsFor ns rn en m k i → StandsFor ns' rn' en' m k i
  stands_more kind.Resource i e = ((e.0.0, a.on e.0.0 m e.0.1), b.on i m e.1, (λ j h. e.2 j (b.back j m ne h)), (λ h. e.3 (h.0, c.back h.0 m ne h.1)))
  stands_more kind.Event i e = ((e.0.0, a.on e.0.0 m e.0.1), c.on i m e.1, (λ j h. e.2 j (c.back j m ne h)), (λ h. e.3 (h.0, b.back h.0 m ne h.1)))
  stands_more kind.Task i e = ((e.0.0, a.on e.0.0 m e.0.1), (λ h. e.1 (h.0, b.back h.0 m ne h.1)), (λ h. e.2 (h.0, c.back h.0 m ne h.1)))

  looked_more : (o : Option Known) → Looked ns rn en m o → Looked ns' rn' en' m o
  looked_more None e = ((λ h. e.0 (h.0, a.back h.0 m ne h.1)), (λ h. e.1 (h.0, b.back h.0 m ne h.1)), (λ h. e.2 (h.0, c.back h.0 m ne h.1)))
  looked_more (Some x) e = stands_more x.kind x.number e

-- the names that are declared are those of the objects
pub record Book (ns rn en : List (List ℕ)) (es : List Entry) : Type 0 where
  pub looked : (n : List ℕ) → Looked ns rn en n (look_up es n)

pub enter : {ns rn en ns' rn' en' : List (List ℕ)} {es : List Entry} {n : List ℕ} (k : Kind) (i : ℕ) → Ext n ns ns' → Ext n rn rn' → Ext n en en' → Book ns rn en es → StandsFor ns' rn' en' n k i → Book ns' rn' en' (record { name = n; kind = k; number = i } ∷ es)
enter {ns} {rn} {en} {ns'} {rn'} {en'} {es} {n} k i a b c t e = record {
  looked = λ m.
      cond_both (bytes_eq n m) (Some (record { kind = k; number = i })) (look_up es m) (λ o. Looked ns' rn' en' m o)
      (λ y. subst (λ z. StandsFor ns' rn' en' z k i) ((bytes_eq-Decides n m).0 y) e)
      (λ no. looked_more a b c m (λ same. true≢false (sym ((bytes_eq-Decides n m).1 same) ∙ no)) (look_up es m) (t.looked m));
}

-- the vectors of the names so far
pub record Vecs (rn : List (List ℕ)) (us : List ℕ → List ℕ) (vs : List ℕ) : Type 0 where
  pub each : (i : ℕ) (n : List ℕ) → At rn i n → VectorOf (us n) (get_or vs i 0)
  pub beyond : (i : ℕ) → length rn ≤ i → get_or vs i 0 ≡ 0
  pub size : length vs ≡ 32
  pub stray : (n : List ℕ) → (In rn n → ⊥) → us n ≡ []

pub vecs_declare : (rn : List (List ℕ)) (us : List ℕ → List ℕ) (vs : List ℕ) (n : List ℕ) → (In rn n → ⊥) → Vecs rn us vs → Vecs (rn ++ (n ∷ [])) us vs
vecs_declare rn us vs n fresh v = record {
  each = λ i m h. ⊎_elim (λ a. v.each i m a)
      (λ b. subst (λ x. VectorOf (us m) x) (sym (v.beyond i (let q = b.0 in omega arith))) (subst (λ ps. VectorOf ps 0) (sym (ap us (sym b.1) ∙ v.stray n fresh)) vector_none))
      (at_split rn n i m h);
  beyond = λ i l. v.beyond i (let q = length-append rn (n ∷ []) in omega arith);
  size = v.size;
  stray = λ m h. v.stray m (λ i. h (in_old rn n m i));
}

pub vecs_add : (rn : List (List ℕ)) (us us' : List ℕ → List ℕ) (vs : List ℕ) (n : List ℕ) (i p c : ℕ) → At rn i n → ((j : ℕ) → At rn j n → j ≡ i) → length rn ≤ 32 → p < 64 → c ≡ 2 ^ p → ((m : List ℕ) → us' m ≡ us m ++ cond (bytes_eq n m) (p ∷ []) []) → Vecs rn us vs → Vecs rn us' (added vs i c)
vecs_add rn us us' vs n i p c at only few fits is more v =
    let low = at_low rn i n at in
    let size = v.size in
    let new = bit_or (get_or vs i 0) c in
    let kept : (m : List ℕ) → (n ≡ m → ⊥) → us' m ≡ us m = λ m ne. more m ∙ ap (λ l. us m ++ l) (cond-false (bytes_eq n m) (p ∷ []) [] (same_no n m ne)) ∙ append-nil (us m) in
    let plus : us' n ≡ us n ++ (p ∷ []) = more n ∙ ap (λ l. us n ++ l) (cond-true (bytes_eq n n) (p ∷ []) [] ((bytes_eq-Decides n n).1 refl)) in
    record {
      each = λ j m h. ⊎_elim
          (λ same.
          let nm : n ≡ m = at_same rn i n m at (subst (λ k. At rn k m) same h) in
          let value : get_or (set vs i new) j 0 ≡ bit_or (get_or vs i 0) (2 ^ p) = ap (λ k. get_or (set vs i new) k 0) same ∙ get_or-set_same vs i new 0 (omega arith) ∙ ap (bit_or (get_or vs i 0)) is in
          subst (λ x. VectorOf (us' m) x) (sym value) (subst (λ ps. VectorOf ps (bit_or (get_or vs i 0) (2 ^ p))) (sym plus ∙ ap us' nm) (vector_more (get_or vs i 0) (us n) p fits (v.each i n at))))
          (λ ne. subst (λ x. VectorOf (us' m) x) (sym (get_or-set_other vs i j new 0 ne)) (subst (λ ps. VectorOf ps (get_or vs j 0)) (sym (kept m (λ nm. ne (only j (subst (λ k. At rn j k) (sym nm) h))))) (v.each j m h)))
          (cases_eq j i);
      beyond = λ j l. get_or-set_other vs i j new 0 (λ q. let w = q in absurd (omega arith)) ∙ v.beyond j l;
      size = length-set vs i new ∙ size;
      stray = λ m h. kept m (λ nm. h (i, subst (λ k. At rn i k) nm at)) ∙ v.stray m h;
    }

pub vecs_like : (rn : List (List ℕ)) (us us' : List ℕ → List ℕ) (vs : List ℕ) → ((m : List ℕ) → us' m ≡ us m) → Vecs rn us vs → Vecs rn us' vs
vecs_like rn us us' vs e v = record {
  each = λ i m h. subst (λ ps. VectorOf ps (get_or vs i 0)) (sym (e m)) (v.each i m h);
  beyond = v.beyond;
  size = v.size;
  stray = λ m h. e m ∙ v.stray m h;
}

-- the draft holds what the objects say
pub record Drawn (ps : List ℕ) (rn en : List (List ℕ)) (us ls : List ℕ → List ℕ) (count : ℕ) (d : Draft) : Type 0 where
  pub found : VectorOf ps d.declared
  pub same_count : d.tasks ≡ count
  pub same_resources : d.resources ≡ length rn
  pub same_events : d.events ≡ length en
  pub few_tasks : count ≤ 64
  pub few_resources : length rn ≤ 32
  pub few_events : length en ≤ 32
  pub users : Vecs rn us d.users
  pub registered : Vecs en ls d.registered

-- .. and does so with other resources and events
pub drawn_with : {ps : List ℕ} {rn en rn' en' : List (List ℕ)} {us ls us' ls' : List ℕ → List ℕ} {count rs es : ℕ} {d : Draft} {vs ws : List ℕ} → Drawn ps rn en us ls count d → rs ≡ length rn' → es ≡ length en' → length rn' ≤ 32 → length en' ≤ 32 → Vecs rn' us' vs → Vecs en' ls' ws → Drawn ps rn' en' us' ls' count (record d { resources = rs; events = es; users = vs; registered = ws })
drawn_with x r e few_r few_e u l = record {
  found = x.found;
  same_count = x.same_count;
  same_resources = r;
  same_events = e;
  few_tasks = x.few_tasks;
  few_resources = few_r;
  few_events = few_e;
  users = u;
  registered = l;
}

-- .. or with other rows alone
pub drawn_rows : {ps : List ℕ} {rn en : List (List ℕ)} {us ls us' ls' : List ℕ → List ℕ} {count : ℕ} {d : Draft} {vs ws : List ℕ} → Drawn ps rn en us ls count d → Vecs rn us' vs → Vecs en ls' ws → Drawn ps rn en us' ls' count (record d { users = vs; registered = ws })
drawn_rows x u l = drawn_with x x.same_resources x.same_events x.few_resources x.few_events u l
