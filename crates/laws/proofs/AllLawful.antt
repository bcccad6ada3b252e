-- Every run is lawful.
use Rattle.machine.specs.Laws.{history, AllLawful}
use Rattle.laws.proofs.Exclusion.{from_inv, history_from, exclusive}
use Rattle.laws.proofs.BlockedOnce.{blocked_once}
use Rattle.laws.proofs.ExactTable.{exact}

pub all_lawful : AllLawful
all_lawful c w s cs =
    let f = history_from c w s cs in
    let h = history c w cs in
    record { exclusive = exclusive f.0 h (from_inv h f.0 f.1); blocked_once = blocked_once h f.0 f.1; exact = exact h }
