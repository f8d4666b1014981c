-- What is written for a linking stands for what meets all conditions.
use Rattle.std.proofs.Common.{◌≡◌, ℕ, List, [], ◌∷◌, ◌++◌, length, Bool, true, Option, Some, None, refl, sym, ap, ◌∙◌, arith, length-append, append_assoc, inl, inr, suc, subst}
use Rattle.std.specs.Prelude.{map, filter, slice_get, option_map, bytes_eq}
use Rattle.std.specs.List.{AllByRecursion as Each, flat_map}
use Rattle.std.proofs.lemmas.Bool.{cases_Bool}
use Rattle.std.proofs.lemmas.List.{append-nil, length-map}
use Rattle.plain_worlds.specs.World.{FunctionTypeValue}
use Rattle.known_definitions.specs.Definition.{InlineExportValue, core_module_of, instantiation_of, lift_of, lower_of, import_of, export_of}
use Rattle.plain_worlds.specs.World.{FunctionItem}
use Rattle.wit_component.specs.CoreNames.{root, standard, is_export_name}
use Rattle.wit_component.specs.Flat.{flat}
use Rattle.wit_component.specs.Linking.{CoreExport, Linking}
use Rattle.wit_component.specs.Table.{import_entry, export_entry, IsLinked, is_needed, needed}
use Rattle.wit_component.specs.Places.{ImportLink, ExportLink}
use Rattle.wit_component.specs.Meaning.{Spaces, CoreFunction, ComponentFunction, CoreEntry, CoreInstance, of_export, of_lower, of_main, lifting, no_spaces, after, meaning, entry_named, all_there, exports_of, main_instance, all_given}
use Rattle.wit_component.specs.Component.{numbered, types_of, given_under, instance_with, instances_for, arguments_for, aliases_of, import_side, instance_side, export_side, component_of}
use Rattle.wit_component.specs.declared.finding.FindingKind.{FindingKind}
use Rattle.wit_component.specs.declared.finding.FindingKind.TheVariants as findings
use Rattle.wit_component.specs.Right.{IsIn, listed, type_seen, ModulesRight, ImportsRight, ExportsRight, IsGiven, EachGiven, TakesOwn, LiftsOwn, LinksRight, Holds, MeetsAll}
use Rattle.wit_component.proofs.Lists.{bytes_eq_refl, bytes_eq_is, slice_get_at, length_one_more, moved, each_in, each_at, each_map, in_map, same_items_refl, from_filter, filter_yes, filter_no, only_one}
use Rattle.wit_component.proofs.Entries.{AreLinked, are_linked, import_entered, export_entered}
use Rattle.wit_component.proofs.Joined.{one_module, one_instance}
use Rattle.wit_component.proofs.Blocks.{Leads, then, imported_function, lowered_function, own_export, own_lift, own_entry, instance_of, length-instance_of, HasExport, types_block, imports_block, lowers_block, inline_block, aliases_block, lifts_block, exports_block}
use Rattle.wit_component.proofs.Given.{lowerings, instances_given, given_of, imported_at, given_found, each_given, all_given_something, all_are_there}

-- ---- the core exports of the main module

abbrev pub core_entry : ℕ → CoreExport → CoreEntry
core_entry k e = record { name = e.name; item = option_map (λ t. record { origin = of_export k e.name; ty = t }) e.ty }

-- a name leads to the only one of its kind
named_found : (test : List ℕ → Bool) (k : ℕ) (e : CoreExport) (es : List CoreExport) → test e.name ≡ true → filter (λ x. test x.name) es ≡ e ∷ [] → entry_named e.name (map (core_entry k) es) ≡ (core_entry k e).item
named_found test k e [] t only = absurd cc
named_found test k e (x ∷ es) t only = elim (cases_Bool (test x.name)) [
  | inl u ↦ let same : x ∷ filter (λ y. test y.name) es ≡ e ∷ [] = sym (filter_yes (λ (y : CoreExport). test y.name) x es u) ∙ only in let is : x ≡ e = cc in rw is (rw (bytes_eq_refl e.name) refl)
  | inr u ↦
      let rest : filter (λ y. test y.name) es ≡ e ∷ [] = sym (filter_no (λ (y : CoreExport). test y.name) x es u) ∙ only in
      let later = named_found test k e es t rest in
      elim (cases_Bool (bytes_eq e.name x.name)) [ inl b ↦ (let is = bytes_eq_is e.name x.name b in absurd cc) | inr b ↦ rw b later ]
]

-- ---- the spaces, part by part

abbrev pub types_there : Linking → Spaces
types_there l = record no_spaces { types = map (λ f. f.ty) (needed l) }

abbrev pub imports_there : Linking → Spaces
imports_there l = record (types_there l) { functions = map imported_function (needed l); imports = map listed (needed l) }

abbrev pub module_there : Linking → Spaces
module_there l = record (imports_there l) { modules = l.main.bytes ∷ [] }

abbrev pub lowers_there : Linking → Spaces
lowers_there l = record (module_there l) { core_functions = lowerings l }

abbrev pub root_there : Linking → Spaces
root_there l = record (lowers_there l) { instances = instance_of (lowerings l) (given_under l root) }

abbrev pub inlines_there : Linking → Spaces
inlines_there l = record (lowers_there l) { instances = instances_given l }

-- the index of the main module's instance
abbrev pub instance_at : Linking → ℕ
instance_at l = length (instances_for l)

abbrev pub all_of_given : Linking → List (Option CoreFunction)
all_of_given l = map (given_of l) l.main.imports

abbrev pub own_instance : Linking → CoreInstance
own_instance l = record { source = of_main (all_of_given l); exports = exports_of l.main (instance_at l) }

abbrev pub instance_there : Linking → Spaces
instance_there l = record (inlines_there l) { instances = instances_given l ++ own_instance l ∷ [] }

abbrev pub aliases_there : Linking → Spaces
aliases_there l = record (instance_there l) { core_functions = lowerings l ++ map (own_export l (instance_at l)) l.world.exports }

abbrev pub all_types_there : Linking → Spaces
all_types_there l = record (aliases_there l) { types = map (λ f. f.ty) (needed l) ++ map (λ f. f.ty) l.world.exports }

-- the lifts, whose core functions stand behind the lowerings
abbrev pub own_lifts : Linking → List (Option ComponentFunction)
own_lifts l = numbered own_lift (length (needed l)) l.world.exports

abbrev pub lifts_there : Linking → Spaces
lifts_there l = record (all_types_there l) { functions = map imported_function (needed l) ++ own_lifts l }

abbrev pub whole : Linking → Spaces
whole l = record (lifts_there l) {
  functions = (map imported_function (needed l) ++ own_lifts l) ++ own_lifts l;
  exports = numbered own_entry (length (needed l)) l.world.exports;
}

-- ---- what the main module is given

given_right : (l : Linking) → AreLinked l → EachGiven l (whole l) l.main.imports (all_of_given l)
given_right l h =
    let all = (whole l).functions in
    let parts : all ≡ map imported_function (needed l) ++ (own_lifts l ++ own_lifts l) = simp append_assoc in
    each_given l (whole l) (given_of l) l.main.imports (each_in (λ i. IsGiven l (whole l) i (given_of l i)) l.main.imports (λ i m.
    let link = each_at (λ x. (f : FunctionItem) × ImportLink l x f) l.main.imports i h.imports m in
    let found = given_found l i link.0 m link.1 in
    let at : slice_get all found.0 ≡ Some (imported_function link.0) = imported_at 0 (needed l) link.0 found.0 [] (own_lifts l ++ own_lifts l) all found.1 refl parts in
    record {
      entry = import_entry i link.0;
      is_entry = import_entered l i link.0 link.1;
      core = record { origin = of_lower found.0; ty = flat link.0.ty };
      is = found.2;
      ends = record { name = link.0.name; named = refl; function = found.0; lowers = refl; ty = link.0.ty; is = rw at refl };
      matches = refl;
    }))

something_given : (l : Linking) → AreLinked l → (cs : List CoreFunction) × (all_of_given l ≡ map (λ c. Some c) cs)
something_given l h = all_given_something l (whole l) l.main.imports (all_of_given l) (given_right l h)

instances_long : (cores : List (Option CoreFunction)) (a b : List InlineExportValue) → length (instance_of cores a ++ instance_of cores b) ≡ length (instance_with a ++ instance_with b)
instances_long cores a b =
    omega (arith, length-append (instance_of cores a) (instance_of cores b), length-append (instance_with a) (instance_with b), length-instance_of cores a, length-instance_of cores b)

-- as many instances stand before the main module's
before_own : (l : Linking) → length (instances_given l) ≡ instance_at l
before_own l = instances_long (lowerings l) (given_under l root) (given_under l standard)

made_is : (l : Linking) → AreLinked l → main_instance l.main (length (instances_given l)) (all_of_given l) ≡ own_instance l
made_is l h =
    let some = something_given l h in
    let matched : all_there (all_of_given l) ≡ true = ap all_there some.1 ∙ all_are_there some.0 in
    rw (matched, before_own l) refl

instance_block : (l : Linking) → AreLinked l → after l.main (inlines_there l) (instantiation_of 0 (arguments_for l)) ≡ instance_there l
instance_block l h = rw (bytes_eq_refl l.main.bytes, made_is l h) (one_instance (inlines_there l) (own_instance l))

-- the main module's instance has the core export of each linked function
own_there : (l : Linking) → slice_get (instance_there l).instances (instance_at l) ≡ Some (own_instance l)
own_there l = slice_get_at (instances_given l) (own_instance l) [] (instance_at l) (before_own l)

export_there : (l : Linking) (f : FunctionItem) (e : CoreExport) → ExportLink l f e → HasExport l (instance_there l).instances (instance_at l) f
export_there l f e h =
    let named = (only_one (λ (x : CoreExport). is_export_name l.rejects_legacy f.name x.name) l.main.exports e h.only).1 in
    let found = named_found (is_export_name l.rejects_legacy f.name) (instance_at l) e l.main.exports named h.only in
    record { export = e; only = h.only; found = rw (own_there l) (found ∙ ap (option_map (λ t. record { origin = of_export (instance_at l) e.name; ty = t })) h.matches) }

exports_there : (l : Linking) → AreLinked l → Each (HasExport l (instance_there l).instances (instance_at l)) l.world.exports
exports_there l h = each_in (HasExport l (instance_there l).instances (instance_at l)) l.world.exports (λ f m.
    let link = each_at (λ x. (e : CoreExport) × ExportLink l x e) l.world.exports f h.exports m in
    export_there l f link.0 link.1)

-- ---- the parts

import_part : (l : Linking) → Leads l.main no_spaces (import_side l) (lowers_there l)
import_part l =
    let main = l.main in
    let fs = needed l in
    let types : Leads main no_spaces (types_of fs) (types_there l) = record { is = types_block main no_spaces fs } in
    let imports : Leads main (types_there l) (numbered (λ n f. import_of f.name n) 0 fs) (imports_there l) = record { is = imports_block main (types_there l) 0 [] fs [] refl (sym (append-nil (map (λ f. f.ty) fs))) } in
    let core_module : Leads main (imports_there l) (core_module_of main.bytes ∷ []) (module_there l) = record { is = one_module (imports_there l) main.bytes } in
    let lowers : Leads main (module_there l) (numbered (λ n f. lower_of n) 0 fs) (lowers_there l) = record { is = lowers_block main (module_there l) 0 [] fs [] refl (sym (append-nil (map imported_function fs))) } in
    then types (then imports (then core_module lowers))

instance_part : (l : Linking) → AreLinked l → Leads l.main (lowers_there l) (instance_side l) (instance_there l)
instance_part l h =
    let main = l.main in
    let first : Leads main (lowers_there l) (instance_with (given_under l root)) (root_there l) = record { is = inline_block main (lowers_there l) (given_under l root) } in
    let second : Leads main (root_there l) (instance_with (given_under l standard)) (inlines_there l) = record { is = inline_block main (root_there l) (given_under l standard) } in
    let instance : Leads main (inlines_there l) (instantiation_of 0 (arguments_for l) ∷ []) (instance_there l) = record { is = instance_block l h } in
    then (then first second) instance

export_part : (l : Linking) → AreLinked l → Leads l.main (instance_there l) (export_side l) (whole l)
export_part l h =
    let main = l.main in
    let fs = l.world.exports in
    let n = length (needed l) in
    let k = instance_at l in
    let types : List FunctionTypeValue = map (λ f. f.ty) (needed l) in
    let types_long : length types ≡ n = length-map (needed l) (λ f. f.ty) in
    let functions_long : length (map imported_function (needed l)) ≡ n = length-map (needed l) imported_function in
    let aliases : Leads main (instance_there l) (flat_map (aliases_of l) fs) (aliases_there l) = record { is = aliases_block main l (instance_there l) k fs (exports_there l h) } in
    let more_types : Leads main (aliases_there l) (types_of fs) (all_types_there l) = record { is = types_block main (aliases_there l) fs } in
    let lifts : Leads main (all_types_there l) (numbered (λ m f. lift_of m m) n fs) (lifts_there l) = record { is = lifts_block main (all_types_there l) n types fs types_long refl } in
    let exports : Leads main (lifts_there l) (numbered (λ m f. export_of f.name m None) n fs) (whole l) =
    record { is = exports_block main (lifts_there l) n (map imported_function (needed l)) fs [] functions_long (ap (λ ys. map imported_function (needed l) ++ ys) (sym (append-nil (own_lifts l)))) } in
    then aliases (then more_types (then lifts exports))

written_whole : (l : Linking) → AreLinked l → meaning l.main (component_of l) ≡ whole l
unfolding meaning component_of
written_whole l h =
    let all : Leads l.main no_spaces (import_side l ++ (instance_side l ++ export_side l)) (whole l) = then (import_part l) (then (instance_part l h) (export_part l h)) in
    all.is

pub written : (l : Linking) → IsLinked l → meaning l.main (component_of l) ≡ whole l
written l h = written_whole l (are_linked l h)

-- ---- right

-- instances of core functions are given nothing
none_given : (cores : List (Option CoreFunction)) (es : List InlineExportValue) (more : List CoreInstance) → all_given (instance_of cores es ++ more) ≡ all_given more
none_given cores [] more = refl
none_given cores (x ∷ xs) more = refl

one_given : (l : Linking) → all_given (whole l).instances ≡ all_of_given l ∷ []
one_given l =
    let own : List CoreInstance = own_instance l ∷ [] in
    let a = instance_of (lowerings l) (given_under l root) in
    let b = instance_of (lowerings l) (given_under l standard) in
    ap all_given (append_assoc a b own) ∙ none_given (lowerings l) (given_under l root) (b ++ own) ∙ none_given (lowerings l) (given_under l standard) own

modules_right : (l : Linking) → AreLinked l → ModulesRight l (whole l)
modules_right l h =
    let some = something_given l h in
    record { modules = (refl, tt); once = (some.0, one_given l ∙ ap (λ (given : List (Option CoreFunction)). given ∷ []) some.1) }

imports_right : (l : Linking) → ImportsRight l (whole l)
imports_right l = record {
  needed = each_in (λ f. IsIn (listed f) (map listed (needed l))) (needed l) (λ f m. in_map listed (needed l) f m);
  listed = each_map (λ e. IsIn e (map listed l.world.imports)) listed (needed l) (λ f m. in_map listed l.world.imports f (from_filter (is_needed l) l.world.imports f m).0);
}

types_seen : (n : ℕ) (fs : List FunctionItem) → map type_seen (numbered own_entry n fs) ≡ map listed fs
types_seen n [] = refl
types_seen n (f ∷ fs) = ap (λ es. listed f ∷ es) (types_seen (suc n) fs)

exports_right : (l : Linking) → ExportsRight l (whole l)
exports_right l = rw (types_seen (length (needed l)) l.world.exports) (same_items_refl (map listed l.world.exports))

-- each export lifts its own core export, which stands where the lift looks
each_lifts : (l : Linking) (s : Spaces) (k n : ℕ) (fs : List FunctionItem) (front : List (Option CoreFunction))
    → length front ≡ n → s.core_functions ≡ front ++ map (own_export l k) fs
    → ((f : FunctionItem) → IsIn f fs → IsIn f l.world.exports × ((e : CoreExport) × ExportLink l f e))
    → Each (LiftsOwn l s) (numbered own_entry n fs)
each_lifts l s k n [] front long e links = tt
each_lifts l s k n (f ∷ fs) front long e links =
    let link = links f (inl refl) in
    let core : own_export l k f ≡ Some (record { origin = of_export k link.1.0.name; ty = flat f.ty }) = rw link.1.1.only refl in
    let at : slice_get s.core_functions n ≡ Some (own_export l k f) = rw e (slice_get_at front (own_export l k f) (map (own_export l k) fs) n long) in
    let own : LiftsOwn l s (own_entry n f) = record {
      function = f;
      listed = link.0;
      name = refl;
      entry = export_entry f link.1.0;
      is_entry = export_entered l f link.1.0 link.1.1;
      item = lifting n f.ty;
      is = refl;
      ends = record { name = link.1.0.name; named = refl; core = n; lifts = refl; instance = k; is = rw at core };
    } in
    (own, each_lifts l s k (suc n) fs (front ++ own_export l k f ∷ []) (length_one_more front (own_export l k f) n long) (moved s.core_functions front (own_export l k f) (map (own_export l k) fs) e) (λ g m. links g (inr m)))

lowerings_long : (n : ℕ) (fs : List FunctionItem) → length (numbered lowered_function n fs) ≡ length fs
lowerings_long n [] = refl
lowerings_long n (f ∷ fs) = ap suc (lowerings_long (suc n) fs)

-- and take none of the main module's
none_takes : (l : Linking) (s : Spaces) (cores : List (Option CoreFunction)) (es : List InlineExportValue) (more : List CoreInstance) → Each (λ (i : CoreInstance). TakesOwn l s i.source) more → Each (λ (i : CoreInstance). TakesOwn l s i.source) (instance_of cores es ++ more)
none_takes l s cores [] more h = h
none_takes l s cores (x ∷ xs) more h = (tt, h)

all_take : (l : Linking) → AreLinked l → Each (λ (i : CoreInstance). TakesOwn l (whole l) i.source) (whole l).instances
all_take l h =
    let own : List CoreInstance = own_instance l ∷ [] in
    let a = instance_of (lowerings l) (given_under l root) in
    let b = instance_of (lowerings l) (given_under l standard) in
    subst (Each (λ (i : CoreInstance). TakesOwn l (whole l) i.source)) (sym (append_assoc a b own))
    (none_takes l (whole l) (lowerings l) (given_under l root) (b ++ own) (none_takes l (whole l) (lowerings l) (given_under l standard) own (given_right l h, tt)))

links_right : (l : Linking) → AreLinked l → LinksRight l (whole l)
links_right l h = record {
  imports = all_take l h;
  exports = each_lifts l (whole l) (instance_at l) (length (needed l)) l.world.exports (lowerings l) (lowerings_long 0 (needed l)) refl
      (λ f m. (m, each_at (λ x. (e : CoreExport) × ExportLink l x e) l.world.exports f h.exports m));
}

meets : (l : Linking) → AreLinked l → (kind : FindingKind) → Holds l (whole l) kind
meets l h findings.Format = tt
meets l h findings.Import = imports_right l
meets l h findings.Export = exports_right l
meets l h findings.Module = modules_right l h
meets l h findings.Link = links_right l h
meets l h findings.Fill = tt
meets l h findings.SlotReach = tt
meets l h findings.Name = tt

-- what is written for a linking stands for what meets all conditions
pub written_meets : (l : Linking) → IsLinked l → MeetsAll l (meaning l.main (component_of l))
written_meets l h kind = let links = are_linked l h in subst (λ s. Holds l s kind) (sym (written l h)) (meets l links kind)
