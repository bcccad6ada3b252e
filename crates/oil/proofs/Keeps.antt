-- What is true of every draft stays true of the drafts that are made of it.
use Rattle.std.proofs.Common.{ℕ, zero, suc, ◌^◌, ◌<◌, eqb, ltb, ◌≢◌, List, [], ◌∷◌, get_or, set, IfOk, Some, None, Option, sym, ◌∙◌, ⊎_elim, arith, get_or-set_other}
use lib.Bits.{bit_or}
use Rattle.std.proofs.lemmas.Bool.{cond_both, eqb-false, or_left, or_right, or_cases}
use Rattle.vectors.specs.Vectors.{in_vector}
use Rattle.vectors.proofs.Vectors.{in_or}
use Rattle.plan.specs.Rows.{Inside, EmptyFrom}
use Rattle.plan.proofs.Zeros.{zeros, none_inside}
use Rattle.letters.specs.Tokens.{bytes_of}
use Rattle.grammar.specs.declared.item.Kind.{Kind}
use Rattle.grammar.specs.declared.item.Kind.TheVariants as kind
use Rattle.grammar.specs.declared.item.Item.{Item}
use Rattle.grammar.specs.declared.item.Item.TheVariants as item
use Rattle.oil.specs.declared.table.Known.{Known}
use Rattle.oil.specs.declared.draft.Draft.{Draft}
use Rattle.oil.specs.Sketch.{Within, Bounded, SoundDraft, Kept}
use Rattle.oil.specs.Draft.{empty_draft, grown, with_users, with_registered, added}
use Rattle.oil.specs.Judging.{unless_known, referred_to, referred_by, judged}

within_or_left : (v a b : ℕ) → Within v a → Within v (bit_or a b)
within_or_left v a b h t y = in_or a b t ∙ or_right (in_vector b t) (in_vector a t) (h t y)

within_or_right : (a b : ℕ) → Within b (bit_or a b)
within_or_right a b t y = in_or a b t ∙ or_left (in_vector b t) (in_vector a t) y

or_within : (a b v : ℕ) → Within a v → Within b v → Within (bit_or a b) v
or_within a b v h g t y = ⊎_elim (λ z. g t z) (λ z. h t z) (or_cases (in_vector b t) (in_vector a t) (sym (in_or a b t) ∙ y))

-- what holds of each place of a list, and of what is written
set_each : (P : ℕ → Type 0) (xs : List ℕ) (n v : ℕ) → ((i : ℕ) → P (get_or xs i 0)) → P v → (i : ℕ) → P (get_or (set xs n v) i 0)
set_each P [] n v h p i = h i
set_each P (x ∷ xs) zero v h p zero = p
set_each P (x ∷ xs) zero v h p (suc i) = h (suc i)
set_each P (x ∷ xs) (suc n) v h p zero = h zero
set_each P (x ∷ xs) (suc n) v h p (suc i) = set_each P xs n v (λ j. h (suc j)) p i

added_in : (vs : List ℕ) (n m all : ℕ) → Inside vs all → Within m all → Inside (added vs n m) all
added_in vs n m all h g = set_each (λ v. Within v all) vs n (bit_or (get_or vs n 0) m) h (or_within (get_or vs n 0) m all (h n) g)

added_end : (vs : List ℕ) (n m count : ℕ) → n < count → EmptyFrom vs count → EmptyFrom (added vs n m) count
added_end vs n m count l h i le = let ne : i ≢ n = omega arith in get_or-set_other vs n i (bit_or (get_or vs n 0) m) 0 ne ∙ h i le

pub kept_empty : Kept empty_draft
kept_empty = record {
  bounded = record { few_tasks = omega arith; few_resources = omega arith; few_events = omega arith };
  sound = record {
    users_in = none_inside 32 0;
    registered_in = none_inside 32 0;
    users_end = λ i _. zeros 32 i;
    registered_end = λ i _. zeros 32 i;
    current_in = λ k h. h;
  };
}

module _ {d : Draft} (h : Kept d) where
  b : Bounded d
  b = h.bounded

  s : SoundDraft d
  s = h.sound

  pub kept_priority : (value : ℕ) → Kept (record d { declared = bit_or d.declared (2 ^ value); current = 2 ^ value })
  kept_priority value = record {
    bounded = record { few_tasks = b.few_tasks; few_resources = b.few_resources; few_events = b.few_events };
    sound = record {
      users_in = λ i. within_or_left (get_or d.users i 0) d.declared (2 ^ value) (s.users_in i);
      registered_in = λ i. within_or_left (get_or d.registered i 0) d.declared (2 ^ value) (s.registered_in i);
      users_end = s.users_end;
      registered_end = s.registered_end;
      current_in = within_or_right d.declared (2 ^ value);
    };
  }

  kept_rows : (us rs : List ℕ) → Inside us d.declared → EmptyFrom us d.resources → Inside rs d.declared → EmptyFrom rs d.events → Kept (record d { users = us; registered = rs })
  kept_rows us rs ui ue ri re = record {
    bounded = record { few_tasks = b.few_tasks; few_resources = b.few_resources; few_events = b.few_events };
    sound = record { users_in = ui; registered_in = ri; users_end = ue; registered_end = re; current_in = s.current_in };
  }

  pub kept_users : (n : ℕ) → n < d.resources → Kept (with_users d (added d.users n d.current))
  kept_users n l =
      kept_rows (added d.users n d.current) d.registered (added_in d.users n d.current d.declared s.users_in s.current_in) (added_end d.users n d.current d.resources l s.users_end) s.registered_in s.registered_end

  pub kept_registered : (n : ℕ) → n < d.events → Kept (with_registered d (added d.registered n d.current))
  kept_registered n l =
      kept_rows d.users (added d.registered n d.current) s.users_in s.users_end (added_in d.registered n d.current d.declared s.registered_in s.current_in) (added_end d.registered n d.current d.events l s.registered_end)

-- the counts of what is judged, for the definitions' sake, which know nothing of the type
module _ {d : Draft} (b : Bounded d) where
  grown_bounded : (k : Kind) (place : ℕ) → IfOk (grown d k place) Bounded
  grown_bounded kind.Resource place = cond_both (eqb d.resources 32) _ _ (λ r. IfOk r Bounded) (λ _. tt) (λ n. let ne = eqb-false d.resources 32 n in record { few_tasks = b.few_tasks; few_resources = omega arith; few_events = b.few_events })
  grown_bounded kind.Event place = cond_both (eqb d.events 32) _ _ (λ r. IfOk r Bounded) (λ _. tt) (λ n. let ne = eqb-false d.events 32 n in record { few_tasks = b.few_tasks; few_resources = b.few_resources; few_events = omega arith })
  grown_bounded kind.Task place = cond_both (eqb d.tasks 64) _ _ (λ r. IfOk r Bounded) (λ _. tt) (λ n. let ne = eqb-false d.tasks 64 n in record { few_tasks = omega arith; few_resources = b.few_resources; few_events = b.few_events })

  declared_bounded : (k : Kind) (place : ℕ) (o : Option Known) → IfOk (unless_known o place (grown d k place)) Bounded
  declared_bounded k place None = grown_bounded k place
  declared_bounded k place (Some x) = tt

  to_bounded : (k x : Kind) (n place : ℕ) → IfOk (referred_to d k x n place) Bounded
  to_bounded kind.Resource kind.Resource n place = record { few_tasks = b.few_tasks; few_resources = b.few_resources; few_events = b.few_events }
  to_bounded kind.Resource kind.Event n place = tt
  to_bounded kind.Resource kind.Task n place = tt
  to_bounded kind.Event kind.Resource n place = tt
  to_bounded kind.Event kind.Event n place = record { few_tasks = b.few_tasks; few_resources = b.few_resources; few_events = b.few_events }
  to_bounded kind.Event kind.Task n place = tt
  to_bounded kind.Task x n place = tt

  by_bounded : (k : Kind) (o : Option Known) (place : ℕ) → IfOk (referred_by d k o place) Bounded
  by_bounded k None place = tt
  by_bounded k (Some x) place = to_bounded k x.kind x.number place

  pub judged_bounded : (text : List ℕ) (look : List ℕ → Option Known) (i : Item) → IfOk (judged text look d i) Bounded
  judged_bounded text look (item.Declares k t) = declared_bounded k t.place (look (bytes_of text t))
  judged_bounded text look (item.Priority n t) =
      cond_both (ltb 63 n) _ _ (λ r. IfOk r Bounded) (λ _. tt)
      (λ _. cond_both (in_vector d.declared n) _ _ (λ r. IfOk r Bounded) (λ _. tt) (λ _. record { few_tasks = b.few_tasks; few_resources = b.few_resources; few_events = b.few_events }))
  judged_bounded text look (item.Activation n t) = cond_both (eqb n 1) _ _ (λ r. IfOk r Bounded) (λ _. b) (λ _. tt)
  judged_bounded text look (item.Refers k t) = by_bounded k (look (bytes_of text t)) t.place
  judged_bounded text look item.Closes = b
  judged_bounded text look item.End = cond_both (eqb d.declared 0) _ _ (λ r. IfOk r Bounded) (λ _. tt) (λ _. b)
