use Rattle.texts.proofs.Asked.{asks_after}
use Rattle.texts.proofs.Spelt.{asks_what_it_spells}
use Rattle.texts.proofs.requests.cut_word.Goals as goal

pub returns : goal.returns
returns c =
    let bs = c.args.text.now in
    record { asks = asks_after bs c.cut_at.result.0.now c.cut_at.result.1 c.cut_at.ensures.cuts; spells = asks_what_it_spells bs }
