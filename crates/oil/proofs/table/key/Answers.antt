use Rattle.std.proofs.Common.{◌++◌, ◌∙◌, ap, drop, length}
use Rattle.oil.specs.Table.{no_key}
use Rattle.oil.proofs.Names.{key_is}
use Rattle.oil.proofs.table.key.Goals as goal

pub returns : goal.returns
returns c = ap (λ n. n ++ drop (length c.args.name.now) no_key) c.copy_from_slice.ensures.after ∙ key_is c.args.name.now c.requires
