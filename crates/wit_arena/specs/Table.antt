-- Tables by name.
use Rattle.std.specs.Prelude.{ℕ, List, map}
use Rattle.wit_arena.specs.Tree.{Name}
use Rattle.wit_arena.specs.declared.table.Entry.{Entry}

-- types under names
abbrev pub Entries : Type 0
Entries = List (Name × ℕ)

abbrev pub entries_of : List Entry → Entries
entries_of es = map (λ e. (e.name.now, e.index)) es

abbrev pub names_of : Entries → List Name
names_of es = map (λ e. e.0) es
