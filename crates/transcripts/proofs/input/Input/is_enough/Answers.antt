use Rattle.std.proofs.Common.{arith}
use Rattle.std.proofs.lemmas.Bool.{leb-true}
use Rattle.transcripts.specs.Inputs.{bytes_of}
use Rattle.transcripts.proofs.Enoughs.{enough}
use Rattle.transcripts.proofs.input.Input.is_enough.Goals as goal

pub returns-clause-enough : goal.returns-clause-enough
returns-clause-enough c e =
    let i = c.args.self.now in
    enough (bytes_of i) (omega (arith, leb-true 1000000 i.ends e, i.counted))
