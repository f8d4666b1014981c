-- What a root imports, as its indices tell it (Component Model, Explainer, Index Spaces, Import and Export Definitions).
use Rattle.std.specs.Prelude.{◌≡◌, ℕ, List, [], ◌∷◌, map, true}
use Rattle.distinct_names.specs.Names.{all_new}
use Rattle.wit_order.specs.Order.{Has}
use Rattle.type_writing.specs.Passed.type_meaning-Tree.{named}
use Rattle.type_writing.specs.Passed.type_meaning-Words.{Site, imported, BinaryTree}
use Rattle.type_writing.specs.Passed.type_meaning-Items.{Origin, from_import, Items, a_type, a_function, an_instance, no_items, and_item, Entry, item_at, item_named}
use Rattle.type_writing.specs.Passed.type_meaning-Scope.{Scope, import_label}

-- ---- items under names

-- the names of items, in order
abbrev pub names_in : Items → List (List ℕ)
names_in no_items = []
names_in (and_item n i more) = n ∷ names_in more

-- and each with its item
abbrev pub entries_of : Items → List Entry
entries_of no_items = []
entries_of (and_item n i more) = record { name = n; item = i } ∷ entries_of more

abbrev pub entry_names : List Entry → List (List ℕ)
entry_names es = map (λ (e : Entry). e.name) es

-- where no two items have one name, each is the one under its name
abbrev pub ItemsAreFound : Type 0
ItemsAreFound = (items : Items) (e : Entry) → all_new [] (names_in items) ≡ true → Has (entries_of items) e → item_named e.name items ≡ e.item

-- and there is one entry of a name
abbrev pub EntriesAreApart : Type 0
EntriesAreApart = (es : List Entry) (a b : Entry) → all_new [] (entry_names es) ≡ true → Has es a → Has es b → a.name ≡ b.name → a ≡ b

-- ---- what is an instance's own

-- the functions that it has are imported with it
abbrev pub HasOwnFunctions : Site → Items → Type 0
HasOwnFunctions site items = (name : List ℕ) (o : Origin) (t : BinaryTree) → item_named name items ≡ a_function o t → (n : List ℕ) × (o ≡ from_import (record { site = site; name = n }))

-- and its types have names there
abbrev pub HasOwnTypes : Site → Items → Type 0
HasOwnTypes site items = (name : List ℕ) (t : BinaryTree) → item_named name items ≡ a_type t → (n : List ℕ) × (u : BinaryTree) × (t ≡ named (record { site = site; name = n }) u)

-- it is imported under a name, and has items of its own, each under another name
pub record IsInstanceImported (imports : List Entry) (site : Site) (items : Items) : Type 0 where
  pub name : List ℕ
  pub at : site ≡ imported name
  pub has : Has imports (record { name = name; item = an_instance site items })
  pub distinct : all_new [] (names_in items) ≡ true
  pub functions : HasOwnFunctions site items
  pub types : HasOwnTypes site items

-- ---- imports

-- what has the label of an import of the root itself, and each instance, is imported, each under its name, and no two under one; nothing is
-- exported
pub record AreImportsOf (s : Scope) : Type 0 where
  pub types : (i : ℕ) (x : List ℕ) (t : BinaryTree) → item_at s.types i ≡ a_type (named (import_label x) t) → Has s.imports (record { name = x; item = a_type (named (import_label x) t) })
  pub functions : (i : ℕ) (x : List ℕ) (t : BinaryTree) → item_at s.functions i ≡ a_function (from_import (import_label x)) t → Has s.imports (record { name = x; item = a_function (from_import (import_label x)) t })
  pub instances : (k : ℕ) (site : Site) (items : Items) → item_at s.instances k ≡ an_instance site items → IsInstanceImported s.imports site items
  pub distinct : all_new [] (entry_names s.imports) ≡ true
  pub exports : s.exports ≡ []
