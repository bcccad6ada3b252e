-- A record is read by its word and its fields.
use Rattle.std.proofs.Common.{◌≡◌, ℕ, List, [], ◌∷◌, Some, None, Option, sym, ap, ◌∙◌, Bor, MatchOption}
use Rattle.texts.specs.declared.verbs.Verb.{Verb}
use Rattle.texts.specs.Pieces.{pieces}
use Rattle.texts.specs.Requests.{asked_with, asked_as, asked_by, asked, Asks}
use Rattle.texts.proofs.Cuts.{pieces_some}

asks : (bs w : List ℕ) (fs : List (List ℕ)) → pieces 44 bs ≡ w ∷ fs → Asks bs w fs
unfolding asked
asks bs w fs is = record { known = λ v e. ap asked_by is ∙ ap (λ o. asked_as o fs) e; unknown = λ e. ap asked_by is ∙ ap (λ o. asked_as o fs) e }

-- The same, by whether fields follow the word.
pub asks_after : (bs w : List ℕ) (o : Option (Bor (List ℕ))) → MatchOption o (pieces 44 bs ≡ w ∷ []) (λ rest. pieces 44 bs ≡ w ∷ pieces 44 rest.now) → MatchOption o (Asks bs w []) (λ rest. Asks bs w (pieces 44 rest.now))
asks_after bs w None h = asks bs w [] h
asks_after bs w (Some rest) h = asks bs w (pieces 44 rest.now) h

pub too_many : (v : Verb) (a b bs : List ℕ) → None ≡ asked_with v (a ∷ b ∷ pieces 44 bs)
too_many v a b bs = let h = pieces_some 44 bs in sym (ap (λ fs. asked_with v (a ∷ b ∷ fs)) h.2)
