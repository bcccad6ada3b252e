-- What the loop over the records of an input keeps.
use Rattle.std.proofs.Common.{◌≡◌, ℕ, suc, ◌+◌, ◌-◌, ◌<◌, ◌≤◌, List, [], ◌∷◌, ◌++◌, length, take, vec_items, vec_len, vec_capacity, Vec, sym, ap, ◌∙◌, subst, take_all, append_assoc, append-nil, arith, length-append}
use Rattle.machine.specs.Machine.{Machine}
use Rattle.texts.specs.declared.outcomes.Report.{Report}
use Rattle.texts.specs.Lines.{line}
use Rattle.texts.specs.Records.{records}
use Rattle.texts.specs.Requests.{asked}
use Rattle.transcripts.specs.Reports.{after_record, report_after}
use Rattle.transcripts.specs.Lines.{lines_from}

-- Two fronts of one list.
fronts : (a b c d e : List ℕ) → a ++ (b ++ c) ≡ d ++ e → length a + length b ≤ length d + length e
fronts a b c d e is =
    let long : length a + (length b + length c) ≡ length d + length e = simp length-append at (ap length is) in
    omega arith

-- What is left of an input of which n records are served.
abbrev left : ℕ → ℕ → Machine → List ℕ → List ℕ
left limit n m bs = lines_from n m (take (limit - n) (records bs))

filled : {Z : Type 0} (v w : Vec ℕ Z) (k rest lines : List ℕ) → vec_items w ++ (k ++ rest) ≡ vec_items v ++ lines → vec_capacity v ≤ vec_capacity w → vec_capacity w < vec_len w + length k → vec_capacity v < vec_len v + length lines
filled v w k rest lines all more full = omega (arith, fronts (vec_items w) k rest (vec_items v) lines all, v.ok.0, w.ok.0)

module _ (limit n : ℕ) (m : Machine) (bs : List ℕ) where
  -- The first line of what is left, and what is left after it.
  pub left_first : (q after : List ℕ) → n < limit → records bs ≡ q ∷ records after →
      left limit n m bs ≡ line (n + 1) (report_after (asked q) m) ++ left limit (n + 1) (after_record (asked q) m) after
  unfolding lines_from
  left_first q after lt cut =
      let more : limit - n ≡ suc (limit - (n + 1)) = omega arith in
      ap (λ l. lines_from n m (take (limit - n) l)) cut ∙ ap (λ k. lines_from n m (take k (q ∷ records after))) more

  -- Nothing is left: the limit is reached, or there is no record.
  pub left_none : limit ≤ n → left limit n m bs ≡ []
  unfolding lines_from
  left_none le = let none : limit - n ≡ 0 = omega arith in ap (λ k. lines_from n m (take k (records bs))) none

  pub left_end : records bs ≡ [] → left limit n m bs ≡ []
  unfolding lines_from
  left_end none = ap (λ l. lines_from n m (take (limit - n) l)) none ∙ ap (lines_from n m) (take_all (limit - n) [] (omega arith))

  -- One turn: a line is written, and the lines of the rest are left.
  pub turn : (q after out more whole : List ℕ) (report : Report) (next : Machine) → n < limit → records bs ≡ q ∷ records after →
      next ≡ after_record (asked q) m → report ≡ report_after (asked q) m → more ≡ out ++ line (n + 1) report →
      out ++ left limit n m bs ≡ whole → more ++ left limit (n + 1) next after ≡ whole
  turn q after out more whole report next lt cut stepped told wrote is =
      let k = line (n + 1) (report_after (asked q) m) in
      ap (λ l. l ++ left limit (n + 1) next after) (wrote ∙ ap (λ x. out ++ line (n + 1) x) told)
      ∙ ap (λ x. (out ++ k) ++ left limit (n + 1) x after) stepped
      ∙ append_assoc out k (left limit (n + 1) (after_record (asked q) m) after)
      ∙ ap (λ l. out ++ l) (sym (left_first q after lt cut))
      ∙ is

  pub over : (out whole : List ℕ) → left limit n m bs ≡ [] → out ++ left limit n m bs ≡ whole → out ≡ whole
  over out whole none is = sym (append-nil out) ∙ ap (λ l. out ++ l) (sym none) ∙ is

  -- No room for a line is no room for all of them.
  pub no_room : {Z : Type 0} (v w : Vec ℕ Z) (q after lines : List ℕ) (report : Report) → n < limit → records bs ≡ q ∷ records after → report ≡ report_after (asked q) m →
      vec_items w ++ left limit n m bs ≡ vec_items v ++ lines → vec_capacity v ≤ vec_capacity w → vec_capacity w < vec_len w + length (line (n + 1) report) → vec_capacity v < vec_len v + length lines
  no_room v w q after lines report lt cut told is more full =
      let k = line (n + 1) (report_after (asked q) m) in
      let rest = left limit (n + 1) (after_record (asked q) m) after in
      let all : vec_items w ++ (k ++ rest) ≡ vec_items v ++ lines = ap (λ l. vec_items w ++ l) (sym (left_first q after lt cut)) ∙ is in
      filled v w k rest lines all more (subst (λ x. vec_capacity w < vec_len w + length (line (n + 1) x)) told full)
