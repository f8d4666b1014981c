-- Lines of entries, one by one.
use Rattle.std.proofs.Common.{◌≡◌, ℕ, zero, suc, ◌+◌, ◌<◌, ◌≤◌, Bool, true, false, List, [], ◌∷◌, ◌++◌, map, take, length, Option, Some, None, inl, inr, refl, sym, subst, ap, ◌∙◌, append_assoc, arith}
use Rattle.std.proofs.lemmas.List.{take_all}
use Rattle.std.proofs.lemmas.Option.{same_Some, slice_get_within, slice_get-map, slice_get-get_or}
use Rattle.std.specs.List.{AllByRecursion as Each}
use Rattle.std.specs.Prelude.{slice_get, get_or, option_map, option_and_then, option_to_list}
use Rattle.wasm_types.specs.Entries.{ImportValue, ExportValue}
use Rattle.wit_names.specs.Names.{ArePackagesKnown}
use Rattle.wit_types.specs.declared.function.Function.{Function}
use Rattle.wit_types.specs.Package.{interface_text}
use Rattle.wit_types.specs.declared.mangling.Mangling.TheVariants.{Standard32, Legacy}
use Rattle.wit_types.specs.declared.world.WorldItem.{WorldItem}
use Rattle.wit_types.specs.declared.world_key.WorldKey.{WorldKey}
use Rattle.wit_names.specs.Names.{IsKeyText}
use Rattle.core_links.specs.Passed.wit_core_items-World.{IsImportedAs}
use Rattle.core_links.specs.Passed.wit_core_items-Named.{is_import_named, IsImportOnSide}
use Rattle.core_links.proofs.Passed.wit_core_items-Naming.{import_has_name, import_has_none}
use Rattle.wit_core_names.specs.Imports.{IsImportName, IsImportNamed}
use Rattle.wit_core_names.specs.Items.{CoreImport}
use Rattle.link_lines.specs.Line.{LinkValue}
use Rattle.core_links.specs.Imports.{StandsFor}
use Rattle.core_links.specs.Names.{Names, counts_legacy}
use Rattle.link_table.specs.Coming.{IsToCome, exported_interface}
use Rattle.link_table.specs.Linking.{Linking, function_at, functions_at, AreFunctionsOf}
use Rattle.link_table.specs.Lines.{IsPlace, IsImportLine, import_line, IsExportLine, export_line, AreAdded}
use Rattle.link_table.specs.Pairwise.{Pairwise}
use Rattle.link_table.specs.Table.{ImportEntry, IsImportEntry, ExportEntry, Table, IsTable}
use Rattle.link_table.specs.View.{name_at, options_value, IsLinkOf}
use Rattle.link_table.specs.declared.exports.ExportLink.{ExportLink}
use Rattle.link_table.proofs.Pairwise.{one_more_pair}
use Rattle.link_table.proofs.Standing.{stands_for_one}
use Rattle.link_table.proofs.Walks.{take_step}

-- what is so of each is so of one
pub each_at : {X : Type 0} (P : X → Type 0) (xs : List X) (k : ℕ) (x : X) → Each P xs → slice_get xs k ≡ Some x → P x
each_at P [] k x all at = absurd cc
each_at P (y ∷ xs) zero x all at = subst P (same_Some y x at) all.0
each_at P (y ∷ xs) (suc k) x all at = each_at P xs k x all.1 at

pub of_mapped : {X Y : Type 0} (g : X → Y) (xs : List X) (ys : List Y) (k : ℕ) (x : X) → map g xs ≡ ys → slice_get xs k ≡ Some x → slice_get ys k ≡ Some (g x)
of_mapped g xs ys k x e at = sym (ap (λ l. slice_get l k) e) ∙ slice_get-map g xs k ∙ ap (option_map g) at

-- ---- imports

no_name : (n : Names) (i : ImportValue) (x : CoreImport) → is_import_named n.known x ≡ false → IsImportedAs n.known (counts_legacy n) x i.place i.name → ⊥
no_name n i x isnt (inl standard) = import_has_none n.known Standard32 x isnt i.place i.name standard
no_name n i x isnt (inr legacy) = import_has_none n.known Legacy x isnt i.place i.name legacy.1

-- what a core import stands for has a name
pub has_import_name : (n : Names) (i : ImportValue) (x : CoreImport) → ArePackagesKnown n.known.packages n.known.interfaces → IsImportOnSide x → StandsFor n i x → IsImportNamed n.known x
has_import_name n i x known side s = by (is_import_named n.known x) refl
  where
    by : (b : Bool) → is_import_named n.known x ≡ b → IsImportNamed n.known x
    by true is = import_has_name n.known known x side is
    by false isnt =
        let same : s.means.stands.0 ≡ x = same_Some s.means.stands.0 x (sym s.means.stands.1 ∙ s.is) in
        absurd (no_name n i x isnt (subst (λ (y : CoreImport). IsImportedAs n.known (counts_legacy n) y i.place i.name) same s.means.stands.2))

place_of : (n : Names) (key : Option WorldKey) (f : Function) (place name : List ℕ) → IsImportName Legacy n.known (CoreImport.func key f) place name → IsPlace n key place
place_of n None f place name h = h.0
place_of n (Some key) f place name h = subst (λ (t : List ℕ). IsKeyText interface_text n.known.packages n.known.interfaces key (Some t)) (sym h.0.2) h.0.1

module _ (l : Linking) (t : Table) (is : IsTable l t) (k : ℕ) (e : ImportEntry) (at : slice_get t.imports k ≡ Some e) where
  pub entry_import : slice_get l.main.imports k ≡ Some e.import
  entry_import = of_mapped (λ (x : ImportEntry). x.import) t.imports l.main.imports k e is.imports at

  pub entry_named : (x : CoreImport) → ArePackagesKnown l.names.known.packages l.names.known.interfaces → StandsFor l.names e.import x → IsImportNamed l.names.known x
  entry_named x known s =
      let one = each_at (IsImportEntry l) t.imports k e is.imports_are at in
      let same : CoreImport.func e.key e.function ≡ x = stands_for_one l.names e.import (CoreImport.func e.key e.function) x one.stands s in
      subst (IsImportNamed l.names.known) same (has_import_name l.names e.import (CoreImport.func e.key e.function) known tt one.stands)

  pub entry_line : (x : CoreImport) (i : ImportValue) (place name : List ℕ) (line : LinkValue) → slice_get l.main.imports k ≡ Some i → StandsFor l.names e.import x → IsImportName Legacy l.names.known x place name → line ≡ import_line i place name → IsImportLine l e line
  entry_line x i place name line there s named same =
      let one = each_at (IsImportEntry l) t.imports k e is.imports_are at in
      let func : x ≡ CoreImport.func e.key e.function = stands_for_one l.names e.import x (CoreImport.func e.key e.function) s one.stands in
      let legacy = subst (λ (y : CoreImport). IsImportName Legacy l.names.known y place name) func named in
      let of_import : i ≡ e.import = same_Some i e.import (sym there ∙ entry_import) in
      (place, place_of l.names e.key e.function place name legacy, same ∙ ap (λ (j : ImportValue). import_line j place name) of_import ∙ ap (import_line e.import place) legacy.1)

-- ---- exports

pub all_functions : (l : Linking) → (IsToCome l → ⊥) → AreFunctionsOf l.names.world.exports.entries
all_functions l here e h = by (function_at e.1) refl
  where
    by : (f : Option Function) → function_at e.1 ≡ f → (g : Function) × (function_at e.1 ≡ Some g)
    by None none = absurd (here (exported_interface e h none))
    by (Some f) is = (f, is)

abbrev Entry : Type 0
Entry = WorldKey × WorldItem

-- where all are functions, each has its place
pub functions_are : (es : List Entry) (k : ℕ) (f : Function) → AreFunctionsOf es → slice_get (functions_at es) k ≡ Some f → Some f ≡ option_and_then (λ (e : Entry). function_at e.1) (slice_get es k)
functions_are [] k f all at = absurd cc
functions_are (e ∷ es) zero f all at =
    let g = all e (inl refl) in
    let first : functions_at (e ∷ es) ≡ g.0 ∷ functions_at es = ap (λ (o : Option Function). option_to_list o ++ functions_at es) g.1 in
    let here : Some g.0 ≡ Some f = sym (ap (λ (fs : List Function). slice_get fs 0) first) ∙ at in
    sym here ∙ sym g.1
functions_are (e ∷ es) (suc k) f all at =
    let g = all e (inl refl) in
    let first : functions_at (e ∷ es) ≡ g.0 ∷ functions_at es = ap (λ (o : Option Function). option_to_list o ++ functions_at es) g.1 in
    functions_are es k f (λ d h. all d (inr h)) (sym (ap (λ (fs : List Function). slice_get fs (suc k)) first) ∙ at)

pub functions_within : (es : List Entry) (k : ℕ) → AreFunctionsOf es → k < length (functions_at es) → k < length es
functions_within [] k all lt = lt
functions_within (e ∷ es) zero all lt = omega arith
functions_within (e ∷ es) (suc k) all lt =
    let g = all e (inl refl) in
    let first : length (functions_at (e ∷ es)) ≡ length (functions_at es) + 1 = ap (λ (o : Option Function). length (option_to_list o ++ functions_at es)) g.1 ∙ omega arith in
    let r = functions_within es k (λ d h. all d (inr h)) (omega (arith, lt, first)) in
    omega (arith, r)

pub named_within : (es : List ExportValue) (place : ℕ) (name : List ℕ) → name_at es place ≡ Some name → place < length es
named_within es place name is = by (slice_get es place) refl is
  where
    by : (o : Option ExportValue) → slice_get es place ≡ o → option_map (λ (e : ExportValue). e.name) o ≡ Some name → place < length es
    by None at is = absurd (let g : None ≡ Some name = is in cc)
    by (Some e) at is = slice_get_within es place e at

module _ (l : Linking) (t : Table) (is : IsTable l t) (k : ℕ) (e : ExportEntry) (at : slice_get t.exports k ≡ Some e) where
  function_there : slice_get (functions_at l.names.world.exports.entries) k ≡ Some e.function
  function_there = of_mapped (λ (x : ExportEntry). x.function) t.exports (functions_at l.names.world.exports.entries) k e is.exports at

  pub exported_at : Some e.function ≡ option_and_then (λ (d : Entry). function_at d.1) (slice_get l.names.world.exports.entries k)
  exported_at = functions_are l.names.world.exports.entries k e.function (all_functions l is.here) function_there

  pub exported_within : k < length l.names.world.exports.entries
  exported_within = functions_within l.names.world.exports.entries k (all_functions l is.here) (slice_get_within (functions_at l.names.world.exports.entries) k e.function function_there)

  pub exported_line : (x : ExportLink) (f : Function) (name : List ℕ) (line : LinkValue) → IsLinkOf l.main.exports x e → Some f ≡ option_and_then (λ (d : Entry). function_at d.1) (slice_get l.names.world.exports.entries k)
      → Some name ≡ name_at l.main.exports x.«export» → line ≡ export_line f name (options_value l.main.exports x.options) → IsExportLine e line
  exported_line x f name line link found named same =
      let of_entry : f ≡ e.function = same_Some f e.function (found ∙ sym exported_at) in
      let under : name ≡ e.name = same_Some name e.name (named ∙ link.name) in
      same ∙ ap (λ (g : Function). export_line g name (options_value l.main.exports x.options)) of_entry ∙ ap (λ (n : List ℕ). export_line e.function n (options_value l.main.exports x.options)) under ∙ ap (export_line e.function e.name) link.options

pub item_at : {X : Type 0} (xs : List X) (k : ℕ) (d : X) → k < length xs → d ≡ get_or xs k d → slice_get xs k ≡ Some d
item_at xs k d lt is = slice_get-get_or xs k d lt ∙ ap (λ (x : _). Some x) (sym is)

-- ---- walks

pub added_next : (entries : List ExportEntry) (k : ℕ) (e : ExportEntry) (old was new : List LinkValue) (line : LinkValue) → slice_get entries k ≡ Some e → AreAdded (take k entries) old was → new ≡ was ++ line ∷ [] → IsExportLine e line → AreAdded (take (k + 1) entries) old new
added_next entries k e old was new line at added pushed one = record {
  lines = added.lines ++ line ∷ [];
  lines_are = subst (λ (es : List ExportEntry). Pairwise IsExportLine es (added.lines ++ line ∷ [])) (sym (take_step entries k e at)) (one_more_pair IsExportLine (take k entries) e added.lines line added.lines_are one);
  are = pushed ∙ ap (λ (ls : List LinkValue). ls ++ line ∷ []) added.are ∙ append_assoc old added.lines (line ∷ []);
}

pub added_all : (entries : List ExportEntry) (k : ℕ) (old new : List LinkValue) → length entries ≤ k → AreAdded (take k entries) old new → AreAdded entries old new
added_all entries k old new past added = subst (λ (es : List ExportEntry). AreAdded es old new) (take_all k entries past) added
