use Rattle.std.proofs.Common.{◌≡◌, ℕ, List, length, codes, rules, sym, ap, arith}
use Rattle.texts.specs.Verbs.{verb_of}
use Rattle.std.proofs.lemmas.Slice.Eq.{HasBytesAt, text_from_reads}
use Rattle.texts.proofs.verbs.Verb.read.Goals as goal

-- Bytes that are a word are the word of what it names.
spelt : (bs w : List ℕ) → length bs ≡ length w → HasBytesAt bs 0 w → verb_of w ≡ verb_of bs
spelt bs w long reads = sym (ap verb_of (text_from_reads bs w long reads))

pub returns-in-unlock : goal.returns-in-unlock
returns-in-unlock c = spelt c.args.bytes.now (codes "unlock") (omega arith) (search rules)

pub returns-in-signal : goal.returns-in-signal
returns-in-signal c = spelt c.args.bytes.now (codes "signal") (omega arith) (search rules)

pub returns-in-release : goal.returns-in-release
returns-in-release c = spelt c.args.bytes.now (codes "release") (omega arith) (search rules)

pub returns-in-signalrelease : goal.returns-in-signalrelease
returns-in-signalrelease c = spelt c.args.bytes.now (codes "signalrelease") (omega arith) (search rules)
