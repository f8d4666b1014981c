-- A link table, of what is looked at one by one.
use Rattle.std.proofs.Common.{◌≡◌, ℕ, zero, suc, List, [], ◌∷◌, ◌++◌, map, Option, Some, refl, sym, subst, ap, ◌∙◌}
use Rattle.std.proofs.lemmas.Grind.{flat_map-append}
use Rattle.std.proofs.lemmas.Option.{same_Some}
use Rattle.std.specs.List.{AllByRecursion as Each}
use Rattle.std.specs.Prelude.{slice_get}
use Rattle.wasm_types.specs.Entries.{ImportValue}
use Rattle.wit_order.specs.Order.{Has}
use Rattle.wit_order.proofs.Lists.{has_was}
use Rattle.wit_reach.proofs.Lists.{has_append}
use Rattle.wit_reach.specs.Ids.{function_ids}
use Rattle.wit_types.specs.declared.function.Function.{Function}
use Rattle.wit_types.specs.declared.interface.TypeDef.{TypeDef}
use Rattle.wit_types.specs.declared.world_key.WorldKey.{WorldKey}
use Rattle.linked_types.specs.Reached.{ids_of, MayBeLinked}
use Rattle.link_table.specs.Linking.{Linking, StandsForFunction}
use Rattle.link_table.specs.Pairwise.{Pairwise}
use Rattle.link_table.specs.Table.{ImportEntry, IsImportEntry, ExportEntry, IsExportEntry}
use Rattle.link_table.specs.View.{IsLinkOf, AreLinksOfEntries, IsExportLink, AreExportLinks}
use Rattle.link_table.specs.Walks.{IsPlain, ArePlain}
use Rattle.link_table.specs.declared.exports.ExportLink.{ExportLink}
use Rattle.link_table.proofs.Causes.{has_first, has_second}
use Rattle.link_table.proofs.Pairwise.{no_pairs, fewer_pairs, mixed, mixed_too}

-- ---- entries

pub record HaveImportEntries (l : Linking) (is : List ImportValue) (fs : List Function) : Type 0 where
  pub entries : List ImportEntry
  pub imports : map (λ (e : ImportEntry). e.import) entries ≡ is
  pub functions : map (λ (e : ImportEntry). e.function) entries ≡ fs
  pub are : Each (IsImportEntry l) entries

abbrev Stands : Linking → ImportValue → Function → Type 0
Stands l i f = (key : Option WorldKey) × StandsForFunction l.names i key f

pub import_entries : (l : Linking) (is : List ImportValue) (fs : List Function) → Pairwise (Stands l) is fs → ArePlain l is fs → HaveImportEntries l is fs
import_entries l [] [] all plain = record { entries = []; imports = refl; functions = refl; are = tt }
import_entries l [] (f ∷ fs) all plain = mixed (Stands l) f fs all
import_entries l (i ∷ is) [] all plain = mixed_too (Stands l) i is all
import_entries l (i ∷ is) (f ∷ fs) all plain =
    let both = fewer_pairs (Stands l) i is f fs all in
    let here : IsPlain l i f = plain zero i f refl refl in
    let more = import_entries l is fs both.1 (λ k j g at there. plain (suc k) j g at there) in
    record {
      entries = record { import = i; key = both.0.0; function = f } ∷ more.entries;
      imports = ap (λ (js : List ImportValue). i ∷ js) more.imports;
      functions = ap (λ (gs : List Function). f ∷ gs) more.functions;
      are = (record { stands = both.0.1; typed = here.typed; plain = here.plain }, more.are);
    }

pub record HaveExportEntries (l : Linking) (fs : List Function) (xs : List ExportLink) : Type 0 where
  pub entries : List ExportEntry
  pub functions : map (λ (e : ExportEntry). e.function) entries ≡ fs
  pub are : Each (IsExportEntry l) entries
  pub links : AreLinksOfEntries l.main.exports entries xs

link_of : (l : Linking) (f : Function) (x : ExportLink) (fs : List Function) (xs : List ExportLink) (one : IsExportLink l f x) (more : HaveExportEntries l fs xs) (k : ℕ) (e : ExportEntry) (y : ExportLink)
    → slice_get (one.entry ∷ more.entries) k ≡ Some e → slice_get (x ∷ xs) k ≡ Some y → IsLinkOf l.main.exports y e
link_of l f x fs xs one more zero e y at there = subst (λ (z : ExportLink). IsLinkOf l.main.exports z e) (same_Some x y there) (subst (IsLinkOf l.main.exports x) (same_Some one.entry e at) one.places)
link_of l f x fs xs one more (suc k) e y at there = more.links.each k e y at there

pub export_entries : (l : Linking) (fs : List Function) (xs : List ExportLink) → AreExportLinks l fs xs → HaveExportEntries l fs xs
export_entries l [] [] all = record { entries = []; functions = refl; are = tt; links = no_pairs (λ (e : ExportEntry) (x : ExportLink). IsLinkOf l.main.exports x e) [] [] refl refl }
export_entries l [] (x ∷ xs) all = mixed (IsExportLink l) x xs all
export_entries l (f ∷ fs) [] all = mixed_too (IsExportLink l) f fs all
export_entries l (f ∷ fs) (x ∷ xs) all =
    let both = fewer_pairs (IsExportLink l) f fs x xs all in
    let one = both.0 in
    let more = export_entries l fs xs both.1 in
    record {
      entries = one.entry ∷ more.entries;
      functions = ap (λ (g : Function). g ∷ map (λ (e : ExportEntry). e.function) more.entries) one.is_of ∙ ap (λ (gs : List Function). f ∷ gs) more.functions;
      are = (one.is_entry, more.are);
      links = record {
        so_many = ap (λ (m : ℕ). suc m) more.links.so_many;
        each = λ k e y at there. link_of l f x fs xs one more k e y at there;
      };
    }

-- ---- functions that may be linked

module _ (types : List TypeDef) (fs gs : List Function) (all : MayBeLinked types (fs ++ gs)) where
  pub may_first : MayBeLinked types fs
  may_first = record {
    functions = λ f h. all.functions f (has_first fs gs f h);
    types_are = λ i d r at. all.types_are i d (r.0, subst (λ (l : List ℕ). Has l r.0) (sym (flat_map-append function_ids fs gs)) (has_was (ids_of fs) (ids_of gs) r.0 r.1), r.2) at;
  }

  pub may_second : MayBeLinked types gs
  may_second = record {
    functions = λ f h. all.functions f (has_second fs gs f h);
    types_are = λ i d r at. all.types_are i d (r.0, subst (λ (l : List ℕ). Has l r.0) (sym (flat_map-append function_ids fs gs)) (has_append (ids_of fs) (ids_of gs) r.0 r.1), r.2) at;
  }
