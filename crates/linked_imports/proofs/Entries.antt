-- Entries of a link table, and what their core imports stand for.
use Rattle.std.proofs.Common.{◌≡◌, ℕ, ◌+◌, ◌<◌, List, ◌∷◌, ◌++◌, length, take, [], Some, sym, subst, ap, ◌∙◌, arith}
use Rattle.std.proofs.lemmas.List.{length-map}
use Rattle.std.proofs.lemmas.Option.{slice_get_within}
use Rattle.std.specs.Prelude.{slice_get}
use Rattle.wit_types.specs.declared.function.Function.{Function}
use Rattle.wit_reach.proofs.Holding.{got}
use Rattle.linked_types.proofs.Walks.{has_at}
use Rattle.wit_core_items.specs.ImportPlaces.{import_at}
use Rattle.wit_core_items.specs.declared.import_places.ImportPlace.{ImportPlace}
use Rattle.wit_core_names.specs.Items.{CoreImport}
use Rattle.core_links.specs.Imports.{StandsAt}
use Rattle.core_links.specs.Needed.{IsNeeded}
use Rattle.right_components.specs.Passed.link_table-Linking.{Linking, types_of, StandsForFunction}
use Rattle.right_components.specs.Passed.link_table-Pairwise.{Pairwise}
use Rattle.right_components.specs.Passed.link_table-Table.{ImportEntry, IsImportEntry, Table, IsTable}
use Rattle.right_components.proofs.Passed.link_table-Pairwise.{next_pair}
use Rattle.right_components.proofs.Passed.link_table-Rows.{each_at, entry_import}
use Rattle.right_components.proofs.Passed.link_table-Standing.{stands_for_one}
use Rattle.right_components.proofs.Passed.link_table-Walks.{take_step}
use Rattle.component_imports.specs.Passed.type_sinks-declared-root-Root.{Root}
use Rattle.linked_imports.specs.Roots.{IsFound, Keeps, StaysBeside, IsThere, AreThere, IsIndexOf, IsIndexOfEntry}
use Rattle.linked_imports.specs.declared.imports.Found.{Found}
use Rattle.linked_imports.specs.declared.imports.Imported.{Imported}
use Rattle.linked_imports.proofs.Taken.{there_keeps, index_keeps}

-- ---- one entry

module _ (l : Linking) (t : Table) (e : ImportEntry) (is : IsTable l t) (index : ℕ) (at : slice_get t.imports index ≡ Some e) where
  pub entry_stands : StandsForFunction l.names e.import e.key e.function
  entry_stands = (each_at (IsImportEntry l) t.imports index e is.imports_are at).stands

  pub entry_there : slice_get l.main.imports index ≡ Some e.import
  entry_there = entry_import l t is index e at

  pub entry_within : index < length l.main.imports
  entry_within = slice_get_within l.main.imports index e.import entry_there

  pub entry_needed : IsNeeded l.names l.main.imports e.key e.function
  entry_needed = (e.import, has_at l.main.imports index e.import entry_there, entry_stands)

  -- at its place the world has the function for which it stands
  pub entry_at : (p : ImportPlace) → StandsAt l.names e.import p → import_at l.names.known l.names.world p ≡ Some (CoreImport.func e.key e.function)
  entry_at p s = s.has ∙ ap (λ (x : CoreImport). Some x) (stands_for_one l.names e.import s.item (CoreImport.func e.key e.function) s.stands entry_stands)

  pub found_there : (i : Imported) (x : Found) → AreThere l i → IsFound l.names e.key e.function (Some x) → IsThere i (types_of l) x.interface x.function.now
  found_there i x there found = subst (IsThere i (types_of l) x.interface) (sym found.1) (there e.key e.function x.interface entry_needed found.0)

  pub entry_index : (r : Root) (x : Found) (n : ℕ) → IsFound l.names e.key e.function (Some x) → IsIndexOf r (types_of l) x.interface x.function.now n → IsIndexOfEntry l r e n
  entry_index r x n found at_index = (x.interface, found.0, subst (λ (f : Function). IsIndexOf r (types_of l) x.interface f n) found.1 at_index)

-- ---- all

pub all_there : (l : Linking) (old new : Imported) → Keeps old.root new.root (types_of l) → StaysBeside old new → AreThere l old → AreThere l new
all_there l old new t b there key f interface needed is = there_keeps old new (types_of l) interface f t b (there key f interface needed is)

pairs_keep : {X Y : Type 0} (R S : X → Y → Type 0) (xs : List X) (ys : List Y) → ((x : X) (y : Y) → R x y → S x y) → Pairwise R xs ys → Pairwise S xs ys
pairs_keep R S xs ys f all = record { so_many = all.so_many; each = λ k x y at there. f x y (all.each k x y at there) }

pub entries_keep : (l : Linking) (old new : Root) (es : List ImportEntry) (is : List ℕ) → Keeps old new (types_of l) → Pairwise (IsIndexOfEntry l old) es is → Pairwise (IsIndexOfEntry l new) es is
entries_keep l old new es is t all = pairs_keep (IsIndexOfEntry l old) (IsIndexOfEntry l new) es is (λ e i h. (h.0, h.1, index_keeps old new (types_of l) h.0 e.function i t h.2)) all

-- as many as there are core imports
pub entry_got : (l : Linking) (t : Table) (index : ℕ) → IsTable l t → index < length l.main.imports → (e : ImportEntry) × (slice_get t.imports index ≡ Some e)
entry_got l t index is within =
    let size : length t.imports ≡ length l.main.imports = sym (length-map t.imports (λ (e : ImportEntry). e.import)) ∙ ap length is.imports in
    got t.imports index (omega (arith, within, size))

pub entries_next : (l : Linking) (old new : Root) (t : Table) (index n : ℕ) (is more : List ℕ) (e : ImportEntry) → slice_get t.imports index ≡ Some e → Keeps old new (types_of l) → more ≡ is ++ n ∷ []
    → Pairwise (IsIndexOfEntry l old) (take index t.imports) is → IsIndexOfEntry l new e n → Pairwise (IsIndexOfEntry l new) (take (index + 1) t.imports) more
entries_next l old new t index n is more e at keeps grown before one = next_pair (IsIndexOfEntry l new) (take (index + 1) t.imports) (take index t.imports) e is more n (take_step t.imports index e at) grown (entries_keep l old new (take index t.imports) is keeps before) one
