use Rattle.texts.proofs.Read.{read_by_line_ends}
use Rattle.texts.proofs.records.cut_record.Goals as goal

pub returns-clause-reads : goal.returns-clause-reads
returns-clause-reads c = read_by_line_ends c.args.rest.now
