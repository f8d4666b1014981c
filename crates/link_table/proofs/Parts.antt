-- The functions for which core imports stand, and those that the world exports, together and apart.
use Rattle.std.proofs.Common.{◌≡◌, ℕ, ◌+◌, ◌≤◌, List, ◌++◌, map, take, drop, length, Bor, sym, subst, ap, ◌∙◌, arith}
use Rattle.std.proofs.lemmas.List.{length-map, length-append, map-append, take-append-drop, take-map, drop-map}
use Rattle.std.proofs.Math.Seq.{take-append_seam, drop-append_seam}
use Rattle.std.specs.Prelude.{Vec}
use Rattle.std.specs.Vec.{vec_len}
use Rattle.std.specs.declared.alloc.Global.{Global}
use Rattle.wasm_types.specs.declared.entries.Import.{Import}
use Rattle.wasm_types.specs.Entries.{import_value}
use Rattle.wit_reach.specs.Types.{AreTypesBackward, AreTypesThere}
use Rattle.wit_types.specs.declared.function.Function.{Function}
use Rattle.wit_types.specs.declared.interface.TypeDef.{TypeDef}
use Rattle.linked_types.specs.Reached.{ids_of, MayBeLinked}
use Rattle.flat_trees.specs.Law.{LinkedFunctionsUnfold}
use Rattle.core_links.specs.Imports.{RepeatsPair}
use Rattle.core_links.specs.View.{AreLinksOf}
use Rattle.link_table.specs.Apart.{AreNoneApart}
use Rattle.link_table.specs.Linking.{Linking, types_of, AreImported, AreFunctions, AreLinked, exported_functions}
use Rattle.link_table.specs.Types.{HaveTrees}
use Rattle.link_table.specs.Walks.{AreChecked}
use Rattle.link_table.specs.View.{IsTableOf}
use Rattle.link_table.specs.declared.table.LinkTable.{LinkTable}
use Rattle.link_table.proofs.Here.{nothing_to_come}
use Rattle.link_table.proofs.Whole.{import_entries, export_entries, may_first, may_second}

abbrev now : Bor Function → Function
now f = f.now

pub count : (v : Vec Import Global) → vec_len v ≡ length (map import_value v.items)
count v = v.ok.0 ∙ sym (length-map v.items import_value)

-- what is cut apart is the whole again
pub joined_parts : (fs : List (Bor Function)) (n : ℕ) (front back : List (Bor Function)) → front ≡ take n fs → back ≡ drop n fs → map (λ (f : Bor Function). f.now) fs ≡ map (λ (f : Bor Function). f.now) front ++ map (λ (f : Bor Function). f.now) back
joined_parts fs n front back e f = sym (ap (λ (l : List (Bor Function)). map now l ++ map now back) e ∙ ap (λ (l : List (Bor Function)). map now (take n fs) ++ map now l) f ∙ sym (map-append now (take n fs) (drop n fs)) ∙ ap (map now) (take-append-drop n fs))

pub linked_long : (l : Linking) (fs : List (Bor Function)) → AreLinked l (map (λ (f : Bor Function). f.now) fs) → length l.main.imports ≤ length fs
linked_long l fs all =
    let so_many = all.imported_are.so_many in
    let both : length (map now fs) ≡ length all.imported + length (exported_functions l.names.world) = ap length all.are ∙ length-append all.imported (exported_functions l.names.world) in
    let here : length (map now fs) ≡ length fs = length-map fs now in
    omega (arith, so_many, both, here)

pub first_part : (l : Linking) (fs : List (Bor Function)) (n : ℕ) (all : AreLinked l (map (λ (f : Bor Function). f.now) fs)) → n ≡ length l.main.imports → map (λ (f : Bor Function). f.now) (take n fs) ≡ all.imported
first_part l fs n all e = sym (take-map now n fs) ∙ ap (take n) all.are ∙ ap (λ (m : ℕ). take m (all.imported ++ exported_functions l.names.world)) (e ∙ sym all.imported_are.so_many) ∙ take-append_seam all.imported (exported_functions l.names.world)

pub second_part : (l : Linking) (fs : List (Bor Function)) (n : ℕ) (all : AreLinked l (map (λ (f : Bor Function). f.now) fs)) → n ≡ length l.main.imports → map (λ (f : Bor Function). f.now) (drop n fs) ≡ exported_functions l.names.world
second_part l fs n all e = sym (drop-map now n fs) ∙ ap (drop n) all.are ∙ ap (λ (m : ℕ). drop m (all.imported ++ exported_functions l.names.world)) (e ∙ sym all.imported_are.so_many) ∙ drop-append_seam all.imported (exported_functions l.names.world)

pub have_trees : LinkedFunctionsUnfold → (types : List TypeDef) (fs : List Function) → AreTypesBackward types → AreTypesThere types (ids_of fs) → MayBeLinked types fs → HaveTrees types fs
have_trees law types fs backward there may f h = law types fs f backward there may h

module _ (l : Linking) (t : LinkTable) (imported exported : List Function) (links : AreLinksOf l.names l.main.imports t.imports) (distinct : RepeatsPair l.main.imports → ⊥)
    (are : AreImported l.names l.main.imports imported) (only : AreFunctions l.names.world) (is : exported ≡ exported_functions l.names.world)
    (may : MayBeLinked (types_of l) (imported ++ exported)) (checked : AreChecked l imported exported t.exports.items) where
  pub whole_table : IsTableOf l t
  whole_table =
      let ins = import_entries l l.main.imports imported are checked.plain in
      let outs = export_entries l exported t.exports.items checked.links_are in
      record {
        table = record { imports = ins.entries; exports = outs.entries };
        is = record {
          imports = ins.imports;
          imports_are = ins.are;
          exports = outs.functions ∙ is;
          exports_are = outs.are;
          distinct = distinct;
          linked = subst (MayBeLinked (types_of l)) (sym ins.functions) (may_first (types_of l) imported exported may);
          linked_exports = subst (MayBeLinked (types_of l)) is (may_second (types_of l) imported exported may);
          here = nothing_to_come l imported are checked.plain only (subst (AreNoneApart l) is checked.apart);
        };
        imports = links;
        exports = outs.links;
      }
