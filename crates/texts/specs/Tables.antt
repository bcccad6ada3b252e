-- What each table begins with, and its line of a refused plan.
use Rattle.std.specs.Prelude.{ℕ, List}
use Rattle.texts.specs.declared.tables.Table.{Table}
use Rattle.texts.specs.declared.tables.Table.TheVariants.{Calls, Sheet}
use Rattle.texts.specs.Lines.{header, fault_line}
use Rattle.texts.specs.Sheets.{sheet_header, sheet_fault}

-- The first line of the table.
abbrev pub table_header : Table → List ℕ
table_header Calls = header
table_header Sheet = sheet_header

-- The line of a refused plan: the number of the fault, its place in the text, and empty fields for the rest.
abbrev pub table_fault : Table → ℕ → ℕ → List ℕ
table_fault Calls number place = fault_line number place
table_fault Sheet number place = sheet_fault number place
