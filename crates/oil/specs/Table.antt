-- The table of names, record by record.
use Rattle.std.specs.Prelude.{ℕ, List, ◌++◌, replicate, take, Some, None, Option}
use Rattle.std.specs.List.{find as first}
use Rattle.std.specs.Str.{bytes_eq}
use Rattle.grammar.specs.declared.item.Kind.{Kind}
use Rattle.oil.specs.declared.table.Known.{Known}
use Rattle.oil.specs.declared.table.NameRecord.{NameRecord}

-- The key of an empty record.
abbrev pub no_key : List ℕ
no_key = replicate 32 0

-- The name filled up with zeros to 32 bytes.
abbrev pub key_of : List ℕ → List ℕ
key_of name = take 32 (name ++ no_key)

-- An empty record.
abbrev pub blank : NameRecord
blank = record { name = no_key; holds = None; number = 0 }

-- The first record with this key.
abbrev pub find : List NameRecord → List ℕ → Option NameRecord
find names key = first (λ r. bytes_eq r.name key) names

-- What a record with this content stands for.
abbrev pub meant : Option Kind → ℕ → Option Known
meant None n = None
meant (Some k) n = Some (record { kind = k; number = n })

-- What the record that was found stands for.
abbrev pub known_by : Option NameRecord → Option Known
known_by None = None
known_by (Some r) = meant r.holds r.number

-- What a name stands for by the table.
abbrev pub looked : List NameRecord → List ℕ → Option Known
looked names = λ n. known_by (find names (key_of n))
