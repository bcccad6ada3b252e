use Rattle.std.proofs.Common.{◌≡◌, ◌<◌, [], length, ap, refl, inr, arith}
use Rattle.std.proofs.lemmas.Option.{MatchOption-at_none, MatchOption-at_some}
use Rattle.texts.specs.Readings.{Begins}
use Rattle.texts.proofs.Read.{begins_ended, begins_shorter, records_begin}
use Rattle.texts.proofs.records.first_record.Goals as goal

pub returns-in_default-Some : goal.returns-in_default-Some
returns-in_default-Some c =
    let b = begins_ended _ _ _ _ c.cut_at.ensures.first (MatchOption-at_some _ _ _ c.in_default-Some.is-1 c.cut_at.ensures.rest) c.without_return.ensures in
    rw c.in_default-Some.after-is (record { begins = b; cuts = records_begin _ _ _ b; shorter = begins_shorter _ _ _ b })

pub returns-in_default-None : goal.returns-in_default-None
returns-in_default-None c =
    let bs = c.args.rest.now in
    let l = c.cut_at.result.0.now in
    let whole : bs ≡ l = MatchOption-at_none _ _ c.in_default-None.is-1 c.cut_at.ensures.rest in
    let some : 0 < length l = omega (arith, c.requires, ap length whole) in
    let b : Begins l [] bs = (c.cut_at.ensures.first, inr (whole, refl, some)) in
    record { begins = b; cuts = records_begin l [] bs b; shorter = begins_shorter l [] bs b }
