-- What each cause of the letters is called.
use Rattle.std.specs.Prelude.{ℕ, List, codes}
use Rattle.letters.specs.declared.fault.LettersCause.{LettersCause}
use Rattle.letters.specs.declared.fault.LettersCause.TheVariants as cause

-- What was wrong, in a few words.
abbrev pub explanation : LettersCause → List ℕ
explanation cause.TooLong = codes "the text has more than 32768 bytes"
explanation cause.NoToken = codes "no name, number, string or mark begins here"
